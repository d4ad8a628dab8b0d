-- What an entry makes of the others: they divide the pushes as before.
use Rattle.std.proofs.Common.{◌≡◌, ℕ, zero, suc, ◌+◌, ◌-◌, ◌<◌, ◌≤◌, List, [], ◌∷◌, ◌++◌, length, get_or, take, drop, set, refl, sym, ap, ◌∙◌, subst, arith, All, append_assoc, length-append}
use Rattle.std.specs.List.{remove_range}
use Rattle.std.proofs.lemmas.List.{get_or_append_left, get_or_at, take_at, drop_at, take_more_set, drop-set-lt}
use Rattle.std.proofs.lemmas.List.Elements.{All-append, All-cons, All-push, All-take, All-drop}
use Rattle.std.proofs.lemmas.List.Kept.{AllPairs-cons}
use Rattle.std.proofs.lemmas.List.Quantifiers.{all_pairs_push}
use Rattle.metastore_index.specs.declared.entry.Entry.{Entry}
use Rattle.metastore_index.specs.Entries.{AreEntries, Becomes, DivideFrom, Follows, HasRun, IsRunOver}
use Rattle.metastore_index.specs.Entries.Becomes.{follows, stands}
use Rattle.metastore_index.proofs.DivideLemmas.{end_of-from, DivideFrom-first, DivideFrom-second, DivideFrom-append}
use Rattle.metastore_index.proofs.RunLemmas.{three_parts}
use Rattle.metastore_index.proofs.PairLemmas.{Across, AllPairs-append, AllPairs-first, AllPairs-second, AllPairs-across}

abbrev NotAbove : Entry → Entry → Type 0
NotAbove older newer = newer.level ≤ older.level

AreEntries-follows : (entries : List Entry) (entry : Entry) → AreEntries entries → Follows entries entry → AreEntries (entries ++ entry ∷ [])
AreEntries-follows entries entry are place = record {
  divide = DivideFrom-append 0 entries (entry ∷ []) are.divide (place.0 ∙ end_of-from entries, tt);
  levels = all_pairs_push NotAbove entries entry are.levels (λ k d within. omega (arith, place.1));
}

module _ (front : List Entry) (first : Entry) (rest back : List Entry) (entry : Entry) (are : AreEntries (front ++ first ∷ rest ++ back)) (high : 1 ≤ entry.level)
    (run : IsRunOver front (first ∷ rest) back (entry.level - 1) entry.lo entry.hi) where
  level_of_first : first.level ≡ entry.level - 1
  level_of_first = run.alike 0 first (omega arith)

  divide_front : DivideFrom 0 (front ++ first ∷ rest)
  divide_front = DivideFrom-first 0 (front ++ first ∷ rest) back are.divide

  divide : DivideFrom 0 (front ++ entry ∷ back)
  divide = DivideFrom-append 0 front (entry ∷ back) (DivideFrom-first 0 front (first ∷ rest) divide_front) (
    sym run.from ∙ end_of-from front,
    subst (λ n. DivideFrom n back) (sym (end_of-from (front ++ first ∷ rest)) ∙ run.until) (DivideFrom-second 0 (front ++ first ∷ rest) back are.divide),
  )

  -- the levels of the older ones are above the run's
  across_run : Across NotAbove front (first ∷ rest)
  across_run = AllPairs-across NotAbove front (first ∷ rest) (AllPairs-first NotAbove (front ++ first ∷ rest) back are.levels)

  across_back : Across NotAbove (front ++ first ∷ rest) back
  across_back = AllPairs-across NotAbove (front ++ first ∷ rest) back are.levels

  above_back : All (NotAbove entry) back
  above_back k d within =
      let whole = length-append front (first ∷ rest) in
      let at : get_or (front ++ first ∷ rest) (length front) d ≡ first = get_or_at front first rest d (length front) refl in
      omega (arith, across_back (length front) k d (omega (arith, whole)) within, ap (λ (e : Entry). e.level) at, level_of_first)

  across : Across NotAbove front (entry ∷ back)
  across i zero d within inside = omega (arith, across_run i 0 d within (omega arith), run.oldest i d within, level_of_first)
  across i (suc j) d within inside =
      let whole = length-append front (first ∷ rest) in
      let at : get_or (front ++ first ∷ rest) i d ≡ get_or front i d = get_or_append_left front (first ∷ rest) d i within in
      omega (arith, across_back i j d (omega (arith, whole, within)) (omega (arith, inside)), ap (λ (e : Entry). e.level) at)

  AreEntries-stands : AreEntries (front ++ entry ∷ back)
  AreEntries-stands = record {
    divide = divide;
    levels = AllPairs-append NotAbove front (entry ∷ back) (AllPairs-first NotAbove front (first ∷ rest) (AllPairs-first NotAbove (front ++ first ∷ rest) back are.levels))
        (AllPairs-cons NotAbove entry back above_back (AllPairs-second NotAbove (front ++ first ∷ rest) back are.levels)) across;
  }

pub AreEntries-becomes : (entries : List Entry) (entry : Entry) (next : List Entry) → AreEntries entries → Becomes entries entry next → AreEntries next
AreEntries-becomes entries entry next are (follows place is) = subst AreEntries (sym is) (AreEntries-follows entries entry are place)
AreEntries-becomes entries entry next are (stands front [] back parts high run is) = absurd (run.some refl)
AreEntries-becomes entries entry next are (stands front (first ∷ rest) back parts high run is) =
    subst AreEntries (sym is) (AreEntries-stands front first rest back entry (subst AreEntries parts are) high run)

-- what is true of the entries and of the one that comes stays so
pub All-becomes : (P : Entry → Type 0) (entries : List Entry) (entry : Entry) (next : List Entry) → All P entries → P entry → Becomes entries entry next → All P next
All-becomes P entries entry next all here (follows place is) = subst (All P) (sym is) (All-push P entries entry all here)
All-becomes P entries entry next all here (stands front run back parts high over is) =
    let whole : All P (front ++ run ++ back) = subst (All P) parts all in
    subst (All P) (sym is) (All-append P front (entry ∷ back) (first_part front run back whole) (All-cons P entry back here (last_part front run back whole)))
  where
    first_part : (front run back : List Entry) → All P (front ++ run ++ back) → All P front
    first_part front run back whole = subst (All P) (take_at front (run ++ back) (length front) refl) (All-take P (length front) (front ++ (run ++ back)) (subst (All P) (append_assoc front run back) whole))

    last_part : (front run back : List Entry) → All P (front ++ run ++ back) → All P back
    last_part front run back whole = subst (All P) (drop_at (front ++ run) back (length (front ++ run)) refl) (All-drop P (length (front ++ run)) (front ++ run ++ back) whole)

pub stands_made : (entries : List Entry) (entry : Entry) (level start end : ℕ) (next : List Entry) → 1 ≤ entry.level → start < end → end ≤ length entries
    → IsRunOver (take start entries) (take (end - start) (drop start entries)) (drop end entries) level entry.lo entry.hi → level ≡ entry.level - 1
    → next ≡ remove_range (set entries start entry) (start + 1) end
    → HasRun entries (entry.level - 1) entry.lo entry.hi × Becomes entries entry next
stands_made entries entry level start end next high some within found below is =
    let front = take start entries in
    let back = drop end entries in
    let over = take (end - start) (drop start entries) in
    let run : IsRunOver front over back (entry.level - 1) entry.lo entry.hi = subst (λ n. IsRunOver front over back n entry.lo entry.hi) below found in
    let parts = three_parts entries start end (omega (arith, some)) in
    let made : next ≡ front ++ entry ∷ back = is
    ∙ ap (λ (l : List Entry). l ++ drop end (set entries start entry)) (take_more_set entries start entry (omega arith))
    ∙ ap (λ (l : List Entry). front ++ entry ∷ [] ++ l) (drop-set-lt end entries start entry some)
    ∙ append_assoc front (entry ∷ []) back in
    ((front, over, back, parts, run), stands front over back parts high run made)
