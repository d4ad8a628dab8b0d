use Rattle.std.proofs.Common.{◌≡◌, ◌+◌}
use Rattle.profile_model.specs.Sums.{total_of}
use Rattle.api_replies.specs.Rendering.{with_samples}
use Rattle.api_replies.proofs.render.add_values.Given as goal

-- what was added and what is left come to all
abbrev pub invariant-loop-stack : goal.invariant-loop-stack
invariant-loop-stack l = record {
  sums : with_samples l.sums l.stack-iterator ≡ with_samples l.fn.sums l.fn.values;
  total : total_of l.sums + total_of l.stack-iterator ≡ total_of l.fn.sums + total_of l.fn.values;
}
