use Rattle.std.proofs.Common.{sym, ◌∙◌, arith}
use Rattle.std.proofs.lemmas.Bool.{eqb-true, eqb-false}
use Rattle.pprof_message.specs.Gathered.{location_in}
use Rattle.pprof_codec.specs.Frames.{line_frame}
use Rattle.pprof_codec.proofs.FaultLemmas.{shown-push, shown-all}
use Rattle.pprof_codec.proofs.LineLemmas.{line-framed, lines-framed, address-framed}
use Rattle.pprof_codec.proofs.locations.frames_of.Goals as goal

pub loop-id-preserved : goal.loop-id-preserved
loop-id-preserved c = λ pprof are.
    c.in_ok-push.ensures.items
    ∙ shown-push (line_frame pprof) c.loop-id.names.items _ c.args.location.now.lines.now c.loop-id.id-index _ (omega arith)
    (c.loop-id.invariant pprof are) (c.in_ok-clone-2.ensures.cases ∙ c.line_frame-frame-in-loop-id.ensures pprof are)

pub returns-then-is_empty : goal.returns-then-is_empty
returns-then-is_empty c = λ pprof are.
    address-framed pprof _ c.frames_of_address.result (eqb-true _ _ (sym c.is_empty.ensures ∙ c.if-is_empty.true)) c.frames_of_address.ensures

pub returns-in-len1 : goal.returns-in-len1
returns-in-len1 c = λ pprof are.
    c.one.ensures
    ∙ line-framed pprof (location_in c.args.location.now) _ _ (let least = c.in-len1.len_at_least in let below = c.in-len1.len_below in omega arith)
    (c.in_ok-clone.ensures.cases ∙ c.line_frame-frame.ensures pprof are)

pub returns : goal.returns
returns c = λ pprof are.
    let some = eqb-false _ _ (sym c.is_empty.ensures ∙ c.if-is_empty.false) in
    c.many.ensures
    ∙ lines-framed pprof _ c.loop-id.names.items (omega arith)
    (c.loop-id.invariant pprof are ∙ shown-all (line_frame pprof) c.args.location.now.lines.now c.loop-id.id-index (omega arith))
