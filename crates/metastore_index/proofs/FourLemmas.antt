-- Records that hold one push have levels that rise, from 0 to 3 at most.
use Rattle.std.proofs.Common.{◌≡◌, ℕ, zero, suc, ◌<◌, ◌≤◌, Bool, true, false, true≢false, ltb, leb, ◌&&◌, List, [], ◌∷◌, length, get_or, refl, sym, arith, AllPairs, ⊎_elim}
use Rattle.std.specs.List.{filter}
use Rattle.std.proofs.lemmas.Bool.{cases_lt, leb-true, ltb-true}
use Rattle.std.proofs.lemmas.List.Elements.{filter_passes}
use Rattle.std.proofs.lemmas.List.Kept.{AllPairs-filter}
use Rattle.metastore_index.specs.declared.entry.Entry.{Entry}
use Rattle.metastore_index.specs.Laws.{AtMostFourHold, Holds}
use Rattle.metastore_index.proofs.HolderLemmas.{Higher, later_is_higher}

level_at_least : (entries : List Entry) (k : ℕ) (d : Entry) → AllPairs (λ older newer. older.level < newer.level) entries → k < length entries → k ≤ (get_or entries k d).level
level_at_least entries zero d rise within = omega arith
level_at_least entries (suc k) d rise within = omega (arith, level_at_least entries k d rise (omega (arith, within)), rise k (suc k) d (omega arith) within)

four_levels : (entries : List Entry) → AllPairs (λ older newer. older.level < newer.level) entries → length entries ≤ 4
four_levels [] rise = omega arith
four_levels (first ∷ later) rise = ⊎_elim
    (λ many. absurd (omega (arith, level_at_least (first ∷ later) 4 first rise many, (get_or (first ∷ later) 4 first).known)))
    (λ few. few)
    (cases_lt 4 (length (first ∷ later)))

both : (a b : Bool) → a && b ≡ true → (a ≡ true) × (b ≡ true)
both true true is = (refl, refl)
both true false is = absurd (true≢false (sym is))
both false b is = absurd (true≢false (sym is))

holds_where : (at : ℕ) (entry : Entry) → leb entry.lo at && ltb at entry.hi ≡ true → Holds entry at
holds_where at entry is =
    let p = both (leb entry.lo at) (ltb at entry.hi) is in (leb-true _ _ p.0, ltb-true _ _ p.1)

pub at_most_four_hold : AtMostFourHold
at_most_four_hold taken index comes at =
    let test : Entry → Bool = λ entry. leb entry.lo at && ltb at entry.hi in
    let passes = filter_passes test taken in
    let pairs = AllPairs-filter Higher test taken (later_is_higher taken index comes) in
    four_levels (filter test taken) (λ i j d below within.
    pairs i j d below within at (holds_where at (get_or (filter test taken) i d) (passes i d (omega (arith, below, within)))) (holds_where at (get_or (filter test taken) j d) (passes j d within)))
