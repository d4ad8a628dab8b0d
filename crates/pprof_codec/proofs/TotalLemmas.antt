-- The values of a sample type, together.
use Rattle.std.proofs.Common.{◌≡◌, ℕ, ◌+◌, ◌^◌, ◌<◌, ◌≤◌, List, [], ◌∷◌, length, take, Some, refl, sym, ap, ◌∙◌, arith}
use Rattle.std.specs.Prelude.{nat_lt, not, map, sum_by, slice_get}
use Rattle.std.specs.Map.{values_of}
use Rattle.std.proofs.lemmas.Bool.{ltb-true, not-false}
use Rattle.std.proofs.lemmas.List.Sums.{sum_by-cons, sum_by_more, sum_by_more_le}
use Rattle.profile_model.specs.Sums.{total_of}
use Rattle.pprof_message.specs.Pprof.{Sample, Pprof}
use Rattle.pprof_message.specs.declared.lists.ValueType.{ValueType}
use Rattle.pprof_codec.specs.declared.fault.PprofFault.{PprofFault}
use Rattle.pprof_codec.specs.declared.fault.PprofFault.TheVariants.{TooLarge}
use Rattle.pprof_codec.specs.Frames.{stack_of}
use Rattle.pprof_codec.specs.Profiles.{samples_of, value_of}
use Rattle.pprof_codec.specs.Checks.{fault_if, total_faults}
use Rattle.pprof_codec.proofs.FaultLemmas.{get-some}
use Rattle.pprof_codec.proofs.StackLemmas.{each-none, not_found}

total-map : (pprof : Pprof) (number : ℕ) (samples : List Sample)
    → total_of (map (λ sample. (stack_of pprof sample, value_of number sample)) samples) ≡ sum_by (value_of number) samples
total-map pprof number [] = refl
total-map pprof number (s ∷ ss) =
    sum_by-cons (λ v. v) (value_of number s) (values_of (map (λ sample. (stack_of pprof sample, value_of number sample)) ss)) ∙ ap (λ n. value_of number s + n) (total-map pprof number ss) ∙ sym (sum_by-cons (value_of number) s ss)

pub total-samples : (pprof : Pprof) (number : ℕ) → total_of (samples_of pprof number) ≡ sum_by (value_of number) pprof.samples
unfolding samples_of
total-samples pprof number = total-map pprof number pprof.samples

-- one value more
pub total-more : (number : ℕ) (samples : List Sample) (at : ℕ) (sample : Sample) → slice_get samples at ≡ Some sample
    → sum_by (value_of number) (take (at + 1) samples) ≡ sum_by (value_of number) (take at samples) + value_of number sample
total-more number samples at sample is =
    let read = get-some samples at sample is in
    sum_by_more (value_of number) samples at sample read.0 ∙ ap (λ s. sum_by (value_of number) (take at samples) + value_of number s) read.1

pub total-within : (number : ℕ) (samples : List Sample) (at : ℕ) (sample : Sample) → slice_get samples at ≡ Some sample
    → sum_by (value_of number) (take at samples) + value_of number sample ≤ sum_by (value_of number) samples
total-within number samples at sample is =
    let read = get-some samples at sample is in
    let all = sum_by_more_le (value_of number) samples at sample read.0 in
    let own = ap (value_of number) read.1 in omega arith

abbrev pub faults_of_total : Pprof → ℕ → ValueType → List PprofFault
faults_of_total pprof number kind = fault_if (not (nat_lt (total_of (samples_of pprof number)) (2 ^ 63))) (TooLarge number)

-- where no sample type's values are too large
pub totals-below : (pprof : Pprof) → total_faults pprof ≡ [] → (number : ℕ) → number < length pprof.sample_types → total_of (samples_of pprof number) < 2 ^ 63
unfolding total_faults
totals-below pprof none number short =
    let own = each-none (faults_of_total pprof) pprof.sample_types number pprof.period_type short none in
    ltb-true (total_of (samples_of pprof number)) (2 ^ 63) (not-false _ (not_found _ _ own))
