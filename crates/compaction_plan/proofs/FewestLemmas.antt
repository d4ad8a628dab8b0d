-- The fewest entries that are enough.
use Rattle.std.proofs.Common.{◌≡◌, ◌≢◌, ◌⊎◌, inl, inr, ℕ, ◌+◌, ◌-◌, ◌<◌, ◌≤◌, List, [], ◌∷◌, ◌++◌, length, get_or, take, drop, subst, sym, ap, ◌∙◌, ⊎_elim, arith, length-append, length-take}
use Rattle.std.specs.List.{All}
use Rattle.std.proofs.lemmas.Bool.{cases_lt, cases_order}
use Rattle.std.proofs.lemmas.List.{take-append-drop, take-append-le, take_all, take_at}
use Rattle.std.proofs.lemmas.List.Sums.{sum_by_more, sum_by-append, sum_by-take-le}
use Rattle.metastore_index.specs.declared.entry.Entry.{Entry}
use Rattle.compaction_plan.specs.Jobs.{AreEnough, AreFewest, bytes_of}

front_of_front : (entries : List Entry) (count n : ℕ) → count ≤ n → n ≤ length entries → take count (take n entries) ≡ take count entries
front_of_front entries count n le within =
    sym (take-append-le count (take n entries) (drop n entries) (omega (arith, length-take n entries, le, within)))
    ∙ ap (take count) (take-append-drop n entries)

few_bytes : (entries : List Entry) (count n : ℕ) → count ≤ n → n ≤ length entries → bytes_of (take count entries) ≤ bytes_of (take n entries)
few_bytes entries count n le within =
    omega (arith, ap bytes_of (front_of_front entries count n le within), sum_by-take-le (λ (entry : Entry). entry.length) (take n entries) count)

-- entries that are too few, by a count and their bytes
pub not_enough : (entries : List Entry) → length entries < 8 → bytes_of entries < 33554432 → AreEnough entries → ⊥
not_enough entries few light enough = ⊎_elim (λ many. omega (arith, many, few)) (λ much. omega (arith, much, light)) enough

-- one more than too few are the fewest that are enough
pub fewest_at : (entries : List Entry) (i : ℕ) → i < length entries → i < 8 → bytes_of (take i entries) < 33554432
    → (i + 1 ≡ 8) ⊎ (33554432 ≤ bytes_of (take (i + 1) entries)) → AreFewest (take (i + 1) entries)
fewest_at entries i within few light enough =
    let long : length (take (i + 1) entries) ≡ i + 1 = omega (arith, length-take (i + 1) entries, within) in
    record {
      enough = ⊎_elim (λ full. inl (omega (arith, full, long))) (λ much. inr much) enough;
      fewest = λ count below are.
          let le : count ≤ i = omega (arith, below, long) in
          let same = front_of_front entries count (i + 1) (omega (arith, le)) (omega (arith, within)) in
          not_enough (take count entries) (omega (arith, length-take count entries, le, few)) (omega (arith, few_bytes entries count i le (omega (arith, within)), light))
          (subst AreEnough same are);
    }

-- more entries are enough too
pub enough_more : (run newer : List Entry) → AreEnough run → AreEnough (run ++ newer)
enough_more run newer enough =
    ⊎_elim
    (λ many. inl (omega (arith, many, length-append run newer)))
    (λ much. inr (omega (arith, much, sum_by-append (λ (entry : Entry). entry.length) run newer)))
    enough

pub enough_some : (run : List Entry) → AreEnough run → 1 ≤ length run
enough_some [] enough = absurd (not_enough [] (omega arith) (omega arith) enough)
enough_some (entry ∷ more) enough = omega arith

-- the first entry stands there
pub enough_not_none : (run : List Entry) → AreEnough run → run ≢ []
enough_not_none run enough none = omega (arith, enough_some run enough, ap length none)

shorter : (run other newer more : List Entry) → AreFewest run → AreFewest other → run ++ newer ≡ other ++ more → length run < length other → ⊥
shorter run other newer more is also same below =
    let front : run ≡ take (length run) other =
    sym (take_at run newer (length run) (λ i. length run)) ∙ ap (take (length run)) same ∙ take-append-le (length run) other more (omega (arith, below)) in
    also.fewest (length run) below (subst AreEnough front is.enough)

-- lists begin with one such front
pub fewest_once : (run other newer more : List Entry) → AreFewest run → AreFewest other → run ++ newer ≡ other ++ more → run ≡ other
fewest_once run other newer more is also same =
    ⊎_elim
    (λ long. sym (take_at run newer (length run) (λ i. length run)) ∙ ap (take (length run)) same ∙ take_at other more (length run) (sym long))
    (λ differ. absurd (⊎_elim (shorter run other newer more is also same) (shorter other run more newer also is (sym same)) differ))
    (cases_order (length run) (length other))

pub fewest_small : (run : List Entry) → AreFewest run → length run ≤ 8
fewest_small run is =
    ⊎_elim
    (λ more. absurd (is.fewest 8 more (inl (omega (arith, length-take 8 run, more)))))
    (λ le. le)
    (cases_lt 8 (length run))

-- all but the last are too few
pub fewest_bytes : (run : List Entry) → AreFewest run → (most : ℕ) → All (λ entry. entry.length ≤ most) run → bytes_of run < 33554432 + most
fewest_bytes run is most each = by_run run (λ i. run)
  where
    by_run : (all : List Entry) → run ≡ all → bytes_of run < 33554432 + most
    by_run [] none = absurd (enough_not_none run is.enough none)
    by_run (d ∷ others) e =
        let last = length run - 1 in
        let some : 0 < length run = enough_some run is.enough in
        let within : last < length run = omega (arith, some) in
        let whole : take (last + 1) run ≡ run = take_all (last + 1) run (omega arith) in
        let one : (get_or run last d).length ≤ most = each last d within in
        let light : bytes_of (take last run) < 33554432 =
        ⊎_elim (λ lt. lt) (λ much. absurd (is.fewest last within (inr much))) (cases_lt (bytes_of (take last run)) 33554432) in
        omega (arith, sum_by_more (λ (entry : Entry). entry.length) run last d within, ap bytes_of whole, one, light)
