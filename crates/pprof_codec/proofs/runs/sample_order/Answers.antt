use Rattle.std.proofs.Common.{[], ◌∷◌, ◌++◌, ap, ◌∙◌}
use Rattle.pprof_codec.proofs.OrderLemmas.{range-more}
use Rattle.pprof_codec.proofs.runs.sample_order.Goals as goal

pub loop-at-preserved : goal.loop-at-preserved
loop-at-preserved c =
    c.in_ok-push.ensures.items ∙ ap (λ order. order ++ c.loop-at.at ∷ []) c.loop-at.invariant ∙ range-more c.loop-at.at
