use Rattle.std.proofs.Common.{◌≡◌, ◌+◌, ◌-◌, ◌^◌, ◌<◌, ℕ, List, [], arith, min, sum_by}
use Rattle.profile_model.specs.Sums.{Sample}
use Rattle.profile_model.specs.Weights.{stack_weight}
use Rattle.profile_model.proofs.weight.weight_of_values.Goals as goal

abbrev weight_of : List Sample → ℕ
weight_of samples = sum_by (λ (sample : Sample). stack_weight sample.0) samples

all_weighed : (values left : List Sample) (weight : ℕ) → left ≡ [] → min (weight + weight_of left) (2 ^ 64 - 1) ≡ min (weight_of values) (2 ^ 64 - 1)
    → weight < 2 ^ 64 → weight ≡ min (weight_of values) (2 ^ 64 - 1)
all_weighed values left weight none all fits = let whole = rw none at all in omega arith

pub returns : goal.returns
returns c = all_weighed c.args.values.now c.loop-stack.stack-iterator c.loop-stack.weight c.in-None.ensures.steps.0 c.loop-stack.invariant.all c.loop-stack.invariant.fits
