-- The bytes of patterns that were counted so far.
use Rattle.std.proofs.Common.{◌≡◌, ℕ, ◌+◌, ◌<◌, ◌≤◌, List, [], ◌∷◌, map, take, length, get_or, refl, sym, ap, ◌∙◌, arith, subst}
use Rattle.std.specs.Prelude.{sum_by, string_bytes}
use Rattle.std.proofs.lemmas.List.Sums.{sum_by-cons, sum_by_more_le}
use Rattle.selector.specs.Matching.{Matching}
use Rattle.selector.specs.Read.{pattern_bytes, pattern_length}
use Rattle.faults.specs.Answers.{IfFault}
use Rattle.faults.specs.declared.refused.Refused.{Refused}
use Rattle.faults.specs.declared.refused.Refused.TheVariants.{Fault}
use Rattle.selector.specs.Grammar.{IsSelectorText}
use Rattle.selector.specs.Rests.{AtSelector, IsReadFault, matching_of}
use Rattle.selector.specs.declared.written.ReadFault.{ReadFault}
use Rattle.selector.specs.declared.written.ReadFault.TheVariants.{BreaksOff}
use Rattle.selector.specs.declared.written.Written.{Written}

abbrev pub length_of : Written → ℕ
length_of written = pattern_length written.operator (string_bytes written.value)

bytes_mapped : (xs : List Written) → pattern_bytes (map matching_of xs) ≡ sum_by length_of xs
bytes_mapped [] = refl
bytes_mapped (x ∷ xs) =
    sum_by-cons (λ (m : Matching). pattern_length m.operator m.value) (matching_of x) (map matching_of xs) ∙ ap (λ n. length_of x + n) (bytes_mapped xs)
    ∙ sym (sum_by-cons length_of x xs)

-- the patterns so far and the next have no more bytes than all
pub next_within : (xs : List Written) (i : ℕ) (d x : Written) → i < length xs → x ≡ get_or xs i d
    → pattern_bytes (map matching_of (take i xs)) + length_of x ≤ pattern_bytes (map matching_of xs)
next_within xs i d x within is = rw (is, bytes_mapped (take i xs), bytes_mapped xs) (sum_by_more_le length_of xs i d within)

-- what isn't read is no selector
pub no_selector : (text : List ℕ) (refused : Refused ReadFault) (fault : ReadFault) → refused ≡ Fault fault → IfFault (IsReadFault AtSelector text) refused
    → (matchers : List Matching) → IsSelectorText text matchers → ⊥
no_selector text refused (BreaksOff left) is w matchers form =
    (subst (IfFault (IsReadFault AtSelector text)) is w).outside (matchers, form)
