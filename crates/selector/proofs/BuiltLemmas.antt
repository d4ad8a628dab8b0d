-- Patterns that were built, and the first that wasn't.
use Rattle.std.proofs.Common.{◌≡◌, ◌≢◌, ◌≤◌, ℕ, Bool, true, not, List, [], ◌∷◌, ◌++◌, length, refl, sym, ap, subst}
use Rattle.std.specs.Prelude.{nat_eq, IsTrue}
use Rattle.std.specs.Cmp.Lexicographic.{pointwise, bytes_decides}
use Rattle.std.proofs.lemmas.Bool.{false_from_ne_true}
use Rattle.selector.specs.Limits.{most_matchers}
use Rattle.selector.specs.Matching.{Matching}
use Rattle.selector.specs.Patterns.{IsWellFormed, IsBuilt, IsBadSyntax, IsTooLarge}
use Rattle.selector.specs.Read.{ForPattern, ForPatterns, OfPattern, AreBuilt, AreShort, IsFirstRefused}
use Rattle.faults.specs.Answers.{IfFault, IsMapped}
use Rattle.faults.specs.declared.refused.Refused.{Refused}
use Rattle.faults.specs.declared.refused.Refused.TheVariants.{Fault, Memory}
use Rattle.selector.specs.Building.{IsNew, IsUnbuilt, IsBuildFault}
use Rattle.selector.specs.Placed.{fault_of_matcher}
use Rattle.selector.specs.declared.fault.SelectorFault.{SelectorFault}
use Rattle.selector.specs.declared.pattern.PatternFault.{PatternFault}
use Rattle.selector.specs.declared.pattern.PatternFault.TheVariants.{Syntax, TooLarge}
use Rattle.selector.specs.declared.operator.Operator.{Operator}
use Rattle.selector.specs.declared.operator.Operator.TheVariants.{Equal, NotEqual, Finds, FindsNot}

for_weaker : (P Q : List ℕ → Type 0) → ((p : List ℕ) → P p → Q p) → (operator : Operator) (value : List ℕ) → ForPattern P operator value → ForPattern Q operator value
for_weaker P Q weaker Equal value h = tt
for_weaker P Q weaker NotEqual value h = tt
for_weaker P Q weaker Finds value h = weaker value h
for_weaker P Q weaker FindsNot value h = weaker value h

for_both : (P Q R : List ℕ → Type 0) → ((p : List ℕ) → P p → Q p → R p) → (operator : Operator) (value : List ℕ) → ForPattern P operator value → ForPattern Q operator value
    → ForPattern R operator value
for_both P Q R both Equal value h k = tt
for_both P Q R both NotEqual value h k = tt
for_both P Q R both Finds value h k = both value h k
for_both P Q R both FindsNot value h k = both value h k

-- whatever is well formed, where regex builds all
pub all_built : (matchers : List Matching) → ForPatterns IsWellFormed matchers → AreBuilt (λ _. true) matchers
all_built [] formed = tt
all_built (m ∷ matchers) formed =
    (for_weaker IsWellFormed (IsBuilt (λ _. true)) (λ p h. (h, refl)) m.operator m.value formed.0, all_built matchers formed.1)

-- all patterns but one
abbrev pub others : List ℕ → List ℕ → Bool
others pattern other = not (pointwise nat_eq other pattern)

others_true : (pattern other : List ℕ) → other ≢ pattern → IsTrue (others pattern other)
others_true pattern other differ = ap not (false_from_ne_true (pointwise nat_eq other pattern) (λ same. differ ((bytes_decides other pattern).0 same)))

pub others_built : (pattern : List ℕ) (matchers : List Matching) → ForPatterns IsWellFormed matchers → IsNew matchers pattern → AreBuilt (others pattern) matchers
others_built pattern [] formed new = tt
others_built pattern (m ∷ matchers) formed new = (
  for_both IsWellFormed (λ other. other ≢ pattern) (IsBuilt (others pattern)) (λ p h differ. (h, others_true pattern p differ)) m.operator m.value formed.0 new.0,
  others_built pattern matchers formed.1 new.1,
)

-- ---- the first that isn't built

module _ (all before : List Matching) (m : Matching) (after : List Matching) (i : ℕ) where
  first_of_bad_syntax : all ≡ before ++ m ∷ after → i ≡ length before → ForPatterns IsWellFormed before → OfPattern IsBadSyntax m.operator m.value
      → IsFirstRefused (λ _. true) all IsBadSyntax i
  first_of_bad_syntax cut place formed refused = record {
    before = before;
    matcher = m;
    after = after;
    cut = cut;
    place = place;
    earlier = all_built before formed;
    refused = refused;
  }

  first_too_large : all ≡ before ++ m ∷ after → i ≡ length before → ForPatterns IsWellFormed before
      → OfPattern (λ p. IsWellFormed p × IsNew before p) m.operator m.value → (built : List ℕ → Bool) × IsFirstRefused built all (IsTooLarge built) i
  first_too_large cut place formed refused = (
    others m.value,
    record {
      before = before;
      matcher = m;
      after = after;
      cut = cut;
      place = place;
      earlier = others_built m.value before formed (new m.operator m.value refused);
      refused = own m.operator m.value refused;
    },
  )
    where
      new : (operator : Operator) (value : List ℕ) → OfPattern (λ p. IsWellFormed p × IsNew before p) operator value → IsNew before value
      new Equal value h = absurd h
      new NotEqual value h = absurd h
      new Finds value h = h.1
      new FindsNot value h = h.1

      own : (operator : Operator) (value : List ℕ) → OfPattern (λ p. IsWellFormed p × IsNew before p) operator value → OfPattern (IsTooLarge (others value)) operator value
      own Equal value h = absurd h
      own NotEqual value h = absurd h
      own Finds value h = (h.0, ap not ((bytes_decides value value).1 refl))
      own FindsNot value h = (h.0, ap not ((bytes_decides value value).1 refl))

  built_fault : length all ≤ most_matchers → AreShort all → all ≡ before ++ m ∷ after → i ≡ length before → ForPatterns IsWellFormed before → (fault : PatternFault)
      → IsUnbuilt before m.operator m.value fault → (built : List ℕ → Bool) × IsBuildFault built all (fault_of_matcher i fault)
  built_fault few short cut place formed Syntax refused = (λ _. true, (few, first_of_bad_syntax cut place formed refused, short))
  built_fault few short cut place formed TooLarge refused = let first = first_too_large cut place formed refused in (first.0, (few, first.1, short))

  -- what its pattern is refused for, told of the selector
  pub told_of_matcher : length all ≤ most_matchers → AreShort all → all ≡ before ++ m ∷ after → i ≡ length before → ForPatterns IsWellFormed before
      → (refused : Refused PatternFault) (told : Refused SelectorFault) → IsMapped (λ fault told. told ≡ fault_of_matcher i fault) refused told
      → IfFault (IsUnbuilt before m.operator m.value) refused → IfFault (λ fault. (built : List ℕ → Bool) × IsBuildFault built all fault) told
  told_of_matcher few short cut place formed (Fault fault) (Fault told) same unbuilt =
      subst (λ other. (built : List ℕ → Bool) × IsBuildFault built all other) (sym same) (built_fault few short cut place formed fault unbuilt)
  told_of_matcher few short cut place formed (Fault fault) Memory same unbuilt = tt
  told_of_matcher few short cut place formed Memory (Fault told) same unbuilt = absurd same
  told_of_matcher few short cut place formed Memory Memory same unbuilt = tt
