use Rattle.std.proofs.Common.{sym, ap, ◌∙◌, arith}
use Rattle.std.specs.List.{flat_map}
use Rattle.std.proofs.lemmas.Bool.{eqb-true, eqb-false}
use Rattle.std.proofs.lemmas.List.{take_all}
use Rattle.pprof_message.specs.Gathered.{sample_in}
use Rattle.pprof_codec.specs.Frames.{frames_at}
use Rattle.pprof_codec.proofs.PlaceLemmas.{leaves-turned, alone-turned}
use Rattle.pprof_codec.proofs.numbers.frame_numbers.Goals as goal

pub returns-then-is_empty : goal.returns-then-is_empty
returns-then-is_empty c =
    alone-turned c.args.judged.now.message (sample_in c.args.sample.now) c.unknown_alone.result (eqb-true _ _ (sym c.is_empty.ensures ∙ c.if-is_empty.true)) c.unknown_alone.ensures

pub returns : goal.returns
returns c =
    let message = c.args.judged.now.message in
    let ids = c.args.sample.now.location_ids.now in
    let some = eqb-false _ _ (sym c.is_empty.ensures ∙ c.if-is_empty.false) in
    leaves-turned message (sample_in c.args.sample.now) _ (omega arith)
    (c.loop-id.invariant ∙ ap (flat_map (frames_at message)) (take_all c.loop-id.id-index ids (omega arith)))
