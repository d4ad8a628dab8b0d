-- Merging ends.
use Rattle.std.proofs.Common.{◌≡◌, ℕ, ◌+◌, ◌-◌, ◌<◌, ◌≤◌, List, [], ◌∷◌, ◌++◌, refl, ap, arith}
use Rattle.std.proofs.lemmas.List.Sums.{sum_by-append, sum_by-cons}
use Rattle.metastore_index.specs.declared.entry.Entry.{Entry}
use Rattle.metastore_index.specs.Entries.{IsRunOver}
use Rattle.metastore_index.specs.Entries.Becomes.{follows, stands}
use Rattle.compaction_plan.specs.Laws.{MergingEnds, merges_left}

left_of_run : (before run after : List Entry) (level lo hi : ℕ) → IsRunOver before run after level lo hi → 3 - level ≤ merges_left run
left_of_run before [] after level lo hi is = absurd (is.some refl)
left_of_run before (first ∷ others) after level lo hi is =
    omega (arith, is.alike 0 first (omega arith), sum_by-cons (λ (entry : Entry). 3 - entry.level) first others)

left_of_parts : (before run after : List Entry) → merges_left (before ++ run ++ after) ≡ merges_left before + merges_left run + merges_left after
left_of_parts before run after =
    omega (arith, sum_by-append (λ (entry : Entry). 3 - entry.level) (before ++ run) after, sum_by-append (λ (entry : Entry). 3 - entry.level) before run)

fewer_left : (before run after : List Entry) (entry : Entry) (entries next : List Entry) → entries ≡ before ++ run ++ after → 1 ≤ entry.level
    → IsRunOver before run after (entry.level - 1) entry.lo entry.hi → next ≡ before ++ entry ∷ after → merges_left next < merges_left entries
fewer_left before run after entry entries next parts level is same =
    omega (
      arith,
      entry.known,
      ap merges_left parts,
      left_of_parts before run after,
      left_of_run before run after (entry.level - 1) entry.lo entry.hi is,
      ap merges_left same,
      sum_by-append (λ (other : Entry). 3 - other.level) before (entry ∷ after),
      sum_by-cons (λ (other : Entry). 3 - other.level) entry after,
    )

pub merging_ends : MergingEnds
merging_ends entries entry next (follows is same) level = absurd (omega (arith, is.1, level))
merging_ends entries entry next (stands before run after parts some is same) level = fewer_left before run after entry entries next parts level is same
