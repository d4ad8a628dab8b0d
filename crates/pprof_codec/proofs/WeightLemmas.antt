-- What adding a value does to the weight of sums.
use Rattle.std.proofs.Common.{◌≡◌, ◌⊎◌, inl, inr, ⊎_elim, ℕ, ◌+◌, ◌≤◌, List, [], ◌∷◌, ◌++◌, length, take, drop, Bool, true, false, cond, refl, sym, ap, ◌∙◌, arith}
use Rattle.std.specs.Prelude.{◌==◌, fold}
use Rattle.std.specs.BTreeMap.{insert_entry}
use Rattle.std.specs.Ordering.{match_ordering}
use Rattle.std.specs.declared.cmp.Ordering.{Ordering}
use Rattle.std.specs.declared.cmp.Ordering.TheVariants.{Less, Equal, Greater}
use Rattle.std.proofs.lemmas.List.{take-append-drop}
use Rattle.std.proofs.lemmas.List.Sums.{sum_by-cons}
use Rattle.profile_model.specs.Stacks.{stack_cmp}
use Rattle.profile_model.specs.Sums.{Sample, value_of, with_added, sums_of}
use Rattle.profile_model.specs.Weights.{stack_weight}
use Rattle.pprof_codec.specs.Profiles.{stacks_weight}

weight-cons : (sample : Sample) (sums : List Sample) → stacks_weight (sample ∷ sums) ≡ stack_weight sample.0 + stacks_weight sums
weight-cons sample sums = sum_by-cons (λ (one : Sample). stack_weight one.0) sample sums

-- the stack was there, or it is new and has its own weight
pub record Weighs (before after : List Sample) (stack : List (List ℕ)) : Type 0 where
  pub holds : ((length after ≡ length before) × (stacks_weight after ≡ stacks_weight before))
      ⊎ ((length after ≡ length before + 1) × (stacks_weight after ≡ stacks_weight before + stack_weight stack))

weighs-later : (e : Sample) (before after : List Sample) (stack : List (List ℕ)) → Weighs before after stack → Weighs (e ∷ before) (e ∷ after) stack
weighs-later e before after stack h = record {
  holds =
      let old = weight-cons e before in
      let new = weight-cons e after in
      ⊎_elim (λ same. inl (omega arith, omega arith)) (λ more. inr (omega arith, omega arith)) h.holds;
}

weighs-insert : (sums : List Sample) (stack : List (List ℕ)) (value : ℕ) → Weighs sums (insert_entry stack_cmp sums stack value) stack
weighs-insert [] stack value = record { holds = inr (omega arith, let one = weight-cons (stack, value) [] in omega arith) }
weighs-insert (e ∷ es) stack value = by (stack_cmp stack e.0) (weighs-insert es stack value)
  where
    by : (o : Ordering) → Weighs es (insert_entry stack_cmp es stack value) stack
        → Weighs (e ∷ es) (match_ordering o ((stack, value) ∷ e ∷ es) ((e.0, value) ∷ es) (e ∷ insert_entry stack_cmp es stack value)) stack
    by Less later = record { holds = inr (omega arith, let one = weight-cons (stack, value) (e ∷ es) in omega arith) }
    by Equal later = record {
      holds =
          let old = weight-cons e es in
          let new = weight-cons (e.0, value) es in inl (refl, omega arith);
    }
    by Greater later = weighs-later e es (insert_entry stack_cmp es stack value) stack later

pub weighs-with_added : (sums : List Sample) (stack : List (List ℕ)) (value : ℕ) → Weighs sums (with_added sums stack value) stack
weighs-with_added sums stack value = by (value == 0)
  where
    by : (nothing : Bool) → Weighs sums (cond nothing sums (insert_entry stack_cmp sums stack (value_of sums stack + value))) stack
    by true = record { holds = inl (refl, refl) }
    by false = weighs-insert sums stack (value_of sums stack + value)

pub weight-grows : (before after : List Sample) (stack : List (List ℕ)) → Weighs before after stack → stacks_weight before ≤ stacks_weight after
weight-grows before after stack h = ⊎_elim (λ same. omega arith) (λ more. omega arith) h.holds

abbrev pub add_sample : List Sample → Sample → List Sample
add_sample sums sample = with_added sums sample.0 sample.1

weight-fold : (sums samples : List Sample) → stacks_weight sums ≤ stacks_weight (fold add_sample sums samples)
weight-fold sums [] = omega arith
weight-fold sums (s ∷ ss) =
    let one = weight-grows sums (add_sample sums s) s.0 (weighs-with_added sums s.0 s.1) in
    let rest = weight-fold (add_sample sums s) ss in omega arith

pub fold-parts : (sums xs ys : List Sample) → fold add_sample sums (xs ++ ys) ≡ fold add_sample (fold add_sample sums xs) ys
fold-parts sums [] ys = refl
fold-parts sums (x ∷ xs) ys = fold-parts (add_sample sums x) xs ys

-- the first samples weigh no more than all
pub weight-first : (samples : List Sample) (n : ℕ) → stacks_weight (sums_of (take n samples)) ≤ stacks_weight (sums_of samples)
weight-first samples n =
    let whole : sums_of samples ≡ fold add_sample (sums_of (take n samples)) (drop n samples) =
    ap sums_of (sym (take-append-drop n samples)) ∙ fold-parts [] (take n samples) (drop n samples) in
    rw whole (weight-fold (sums_of (take n samples)) (drop n samples))
