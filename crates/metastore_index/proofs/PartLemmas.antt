-- Where a search by halves finds entries.
use Rattle.std.proofs.Common.{◌≡◌, ℕ, ◌<◌, ◌≤◌, List, length, get_or, ltb, leb, true, AllPairs, ⊎_elim, subst, arith}
use Rattle.std.proofs.lemmas.Bool.{cases_lt}
use Rattle.std.proofs.lemmas.List.Sorted.{IsPartitionedBy-leb}
use Rattle.std.specs.List.Sorted.{IsPartitionedBy}
use Rattle.metastore_index.specs.declared.entry.Entry.{Entry}
use Rattle.metastore_index.specs.Entries.{DivideFrom}
use Rattle.metastore_index.proofs.DivideLemmas.{hi_rises}
use borrow.Author.Tests.{leb-true, le-leb, ltb-true, lt-ltb}

same_or_below : (P : ℕ → Type 0) (i j : ℕ) → i ≤ j → P j → (i < j → P i) → P i
same_or_below P i j le here below =
    ⊎_elim below (λ above. let same : j ≡ i = omega arith in subst P same here) (cases_lt i j)

pub level_falls : (entries : List Entry) (i j : ℕ) (d : Entry) → AllPairs (λ older newer. newer.level ≤ older.level) entries → i ≤ j → j < length entries → (get_or entries j d).level ≤ (get_or entries i d).level
level_falls entries i j d levels le within =
    same_or_below (λ n. (get_or entries j d).level ≤ (get_or entries n d).level) i j le (omega arith) (λ lt. levels i j d lt within)

pub levels_part : (entries : List Entry) (level : ℕ) → AllPairs (λ older newer. newer.level ≤ older.level) entries → IsPartitionedBy (λ entry. ltb level entry.level) entries
levels_part entries level levels i j d le within above =
    same_or_below (λ n. ltb level (get_or entries n d).level ≡ true) i j le above
    (λ lt. lt-ltb _ _ (omega (arith, levels i j d lt within, ltb-true _ _ above)))

pub lower_levels_part : (entries : List Entry) (level : ℕ) → AllPairs (λ older newer. newer.level ≤ older.level) entries → IsPartitionedBy (λ entry. leb level entry.level) entries
lower_levels_part entries level levels i j d le within above =
    same_or_below (λ n. leb level (get_or entries n d).level ≡ true) i j le above
    (λ lt. le-leb _ _ (omega (arith, levels i j d lt within, leb-true _ _ above)))

pub ends_part : (entries : List Entry) (at : ℕ) → DivideFrom 0 entries → IsPartitionedBy (λ entry. leb entry.hi at) entries
ends_part entries at divide = IsPartitionedBy-leb (λ (entry : Entry). entry.hi) entries at (λ i j d le within.
    same_or_below (λ n. (get_or entries n d).hi ≤ (get_or entries j d).hi) i j le (omega arith)
    (λ lt. omega (arith, hi_rises entries i j d divide lt within)))
