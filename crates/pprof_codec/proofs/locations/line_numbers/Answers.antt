use Rattle.std.proofs.Common.{[], ◌∷◌, ap, ◌∙◌, arith}
use Rattle.std.specs.Prelude.{map}
use Rattle.std.proofs.lemmas.List.{map-append}
use Rattle.pprof_codec.specs.Frames.{line_frame}
use Rattle.pprof_codec.specs.Tables.{frame_numbered}
use Rattle.pprof_codec.proofs.FaultLemmas.{shown-push, shown-all}
use Rattle.pprof_codec.proofs.locations.line_numbers.Goals as goal

pub loop-id-preserved : goal.loop-id-preserved
loop-id-preserved c =
    let message = c.args.message.now in
    ap (map (frame_numbered message)) c.in_ok-push.ensures.items
    ∙ map-append (frame_numbered message) c.loop-id.numbers.items (c.line_number.result ∷ [])
    ∙ shown-push (line_frame message) (map (frame_numbered message) c.loop-id.numbers.items) _ c.args.ids.now c.loop-id.id-index _ (omega arith)
    c.loop-id.invariant c.line_number.ensures

pub returns : goal.returns
returns c =
    c.loop-id.invariant ∙ shown-all (line_frame c.args.message.now) c.args.ids.now c.loop-id.id-index (omega arith)
