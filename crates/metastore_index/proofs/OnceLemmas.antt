-- Each push before the end is held by one entry.
use Rattle.std.proofs.Common.{◌≡◌, ℕ, ◌<◌, ◌≤◌, List, [], ◌∷◌, refl, sym, ap, ◌∙◌, arith, ⊎_elim}
use Rattle.std.specs.List.{Contains}
use Rattle.std.proofs.lemmas.Bool.{cases_lt}
use Rattle.std.proofs.lemmas.List.Elements.{All-contains, All-weaker}
use Rattle.metastore_index.specs.declared.entry.Entry.{Entry}
use Rattle.metastore_index.specs.Entries.{AreEntries, Covers, DivideFrom}
use Rattle.metastore_index.specs.Laws.{EachIsHeldOnce, Holds, IsWithin, LiveOneIsHighest}
use Rattle.metastore_index.proofs.DivideLemmas.{end_from, end_of-from}
use Rattle.metastore_index.proofs.HolderLemmas.{Between, between, first_or_later, later_one, live_ones_cover, none_within}
use Rattle.metastore_index.proofs.TakenLemmas.{live_ones_divide}

some_from : (start : ℕ) (entries : List Entry) (at : ℕ) → DivideFrom start entries → start ≤ at → at < end_from start entries → (cover : Entry) × Covers entries at cover
some_from start [] at divide from until = absurd (omega (arith, from, until))
some_from start (entry ∷ more) at divide from until = ⊎_elim
    (λ below. (entry, record { among = (0, omega arith, refl); from = omega (arith, divide.0, from); until = below }))
    (λ above. let later = some_from entry.hi more at divide.1 above until in (later.0, record { among = later_one entry more later.0 later.1.among; from = later.1.from; until = later.1.until }))
    (cases_lt at entry.hi)

-- an entry of the later ones holds no push of the first
not_both : (first : Entry) (more : List Entry) (at : ℕ) (x y : Entry) → DivideFrom first.hi more → first ≡ x → Holds x at → Contains more y → Holds y at → ⊥
not_both first more at x y divide is holds among other =
    let b = All-contains (Between first.hi (end_from first.hi more)) more y (between first.hi more divide) among in
    omega (arith, ap (λ (e : Entry). e.hi) is, b.from, holds.1, other.0)

one_from : (start : ℕ) (entries : List Entry) (at : ℕ) (x y : Entry) → DivideFrom start entries → Contains entries x → Holds x at → Contains entries y → Holds y at → x ≡ y
one_from start [] at x y divide here holds there other = absurd (none_within x here)
one_from start (entry ∷ more) at x y divide here holds there other = ⊎_elim
    (λ is. ⊎_elim
    (λ same. sym is ∙ same)
    (λ later. absurd (not_both entry more at x y divide.1 is holds later other))
    (first_or_later entry more y there))
    (λ later. ⊎_elim
    (λ same. absurd (not_both entry more at y x divide.1 same other later holds))
    (λ last. one_from entry.hi more at x y divide.1 later holds last other)
    (first_or_later entry more y there))
    (first_or_later entry more x here)

one_cover : (entries : List Entry) (at : ℕ) (x y : Entry) → AreEntries entries → Covers entries at x → Covers entries at y → x ≡ y
one_cover entries at x y are first second = one_from 0 entries at x y are.divide first.among (first.from, first.until) second.among (second.from, second.until)

pub each_is_held_once : EachIsHeldOnce
each_is_held_once entries are at = record {
  some = λ below. some_from 0 entries at are.divide (omega arith) (omega (arith, below, end_of-from entries));
  before = λ cover covers.
      let b = All-contains (Between 0 (end_from 0 entries)) entries cover (between 0 entries are.divide) covers.among in
      omega (arith, b.until, covers.until, end_of-from entries);
  one = λ x y first second. one_cover entries at x y are first second;
}

pub live_one_is_highest : LiveOneIsHighest
live_one_is_highest taken index comes at cover covers =
    All-weaker (IsWithin index.entries) (λ entry. Holds entry at → (cover.lo ≤ entry.lo) × (entry.hi ≤ cover.hi) × (entry.level ≤ cover.level))
    (λ x w holds.
    let same = one_cover index.entries at w.cover cover (live_ones_divide taken index comes)
    (record { among = w.among; from = omega (arith, w.from, holds.0); until = omega (arith, w.until, holds.1) }) covers in
    (omega (arith, w.from, ap (λ (e : Entry). e.lo) same), omega (arith, w.until, ap (λ (e : Entry). e.hi) same), omega (arith, w.level, ap (λ (e : Entry). e.level) same)))
    taken (live_ones_cover taken index comes)
