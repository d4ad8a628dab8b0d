-- The entries of one level, which stand together.
use Rattle.std.proofs.Common.{◌≡◌, ◌≢◌, ℕ, suc, ◌+◌, ◌-◌, ◌<◌, ◌≤◌, Bool, cond, List, [], ◌∷◌, ◌++◌, length, get_or, take, drop, refl, sym, ap, ◌∙◌, AllPairs, ⊎_elim, arith, append-nil, length-take, length-drop}
use Rattle.std.specs.List.{All, AllByRecursion, AllWithin}
use Rattle.std.proofs.lemmas.Bool.{cases_lt, eq-eqb, ne_eqb}
use Rattle.std.proofs.lemmas.List.{get_or-take, get_or-drop}
use Rattle.std.proofs.lemmas.List.Elements.{All-cons, All-nil, filter-append, recursion_from_All}
use Rattle.metastore_index.specs.declared.entry.Entry.{Entry}
use Rattle.metastore_index.specs.Entries.{of_level}
use Rattle.metastore_index.specs.Laws.{IsStretch, LevelsStandTogether}
use Rattle.metastore_index.proofs.RunLemmas.{three_parts}

-- entries of this level alone are all kept
of_level-all : (level : ℕ) (entries : List Entry) → AllByRecursion (λ entry. entry.level ≡ level) entries → of_level level entries ≡ entries
of_level-all level [] all = refl
of_level-all level (entry ∷ more) all =
    ap (λ (b : Bool). cond b (entry ∷ of_level level more) (of_level level more)) (eq-eqb entry.level level all.0)
    ∙ ap (λ (l : List Entry). entry ∷ l) (of_level-all level more all.1)

of_level-other : (level : ℕ) (entry : Entry) (more : List Entry) → entry.level ≢ level → of_level level (entry ∷ more) ≡ of_level level more
of_level-other level entry more other =
    ap (λ (b : Bool). cond b (entry ∷ of_level level more) (of_level level more)) (ne_eqb entry.level level other)

of_level-same : (level : ℕ) (entry : Entry) (more : List Entry) → entry.level ≡ level → of_level level (entry ∷ more) ≡ entry ∷ of_level level more
of_level-same level entry more same =
    ap (λ (b : Bool). cond b (entry ∷ of_level level more) (of_level level more)) (eq-eqb entry.level level same)

-- and none of other levels
of_level-none : (level : ℕ) (entries : List Entry) → AllByRecursion (λ entry. entry.level ≢ level) entries → of_level level entries ≡ []
of_level-none level [] none = refl
of_level-none level (entry ∷ more) none = of_level-other level entry more none.0 ∙ of_level-none level more none.1

-- what stands between those of higher levels and those of lower ones
of_level-middle : (level : ℕ) (before middle after : List Entry) → All (λ entry. level < entry.level) before → All (λ entry. entry.level ≡ level) middle
    → All (λ entry. entry.level < level) after → of_level level (before ++ middle ++ after) ≡ middle
of_level-middle level before middle after above alike below =
    let front : of_level level before ≡ [] = of_level-none level before (recursion_from_All (λ entry. entry.level ≢ level) before (λ k d within same. omega (arith, same, above k d within))) in
    let back : of_level level after ≡ [] = of_level-none level after (recursion_from_All (λ entry. entry.level ≢ level) after (λ k d within same. omega (arith, same, below k d within))) in
    let here : of_level level middle ≡ middle = of_level-all level middle (recursion_from_All (λ entry. entry.level ≡ level) middle alike) in
    filter-append _ (before ++ middle) after
    ∙ ap (λ (l : List Entry). l ++ of_level level after) (filter-append _ before middle ∙ ap (λ (l : List Entry). l ++ of_level level middle) front ∙ here)
    ∙ ap (λ (l : List Entry). middle ++ l) back ∙ append-nil middle

module _ (entries : List Entry) (level start end : ℕ) (start_within : start ≤ length entries) (within : end ≤ length entries)
    (above : AllWithin (λ entry. level < entry.level) entries 0 start) (not_above : AllWithin (λ entry. entry.level ≤ level) entries start (length entries))
    (not_below : AllWithin (λ entry. level ≤ entry.level) entries 0 end) (below : AllWithin (λ entry. entry.level < level) entries end (length entries)) where
  -- where searches for both ends of a level came to
  pub level_ordered : start ≤ end
  level_ordered = by_entries entries refl
    where
      by_entries : (all : List Entry) → entries ≡ all → start ≤ end
      by_entries [] e = omega (arith, start_within, ap length e)
      by_entries (d ∷ more) e =
          ⊎_elim
          (λ past. absurd (omega (arith, above end d (omega arith) past, below end d (omega arith) (omega (arith, past, start_within)))))
          (λ le. le)
          (cases_lt end start)

  pub level_between : take (end - start) (drop start entries) ≡ of_level level entries
  level_between =
      let middle = take (end - start) (drop start entries) in
      let long : length middle ≡ end - start = omega (arith, level_ordered, within, length-take (end - start) (drop start entries), length-drop start entries) in
      let at : (k : ℕ) (d : Entry) → k < length middle → get_or middle k d ≡ get_or entries (start + k) d =
      λ k d low. get_or-take (end - start) (drop start entries) k d (omega (arith, long, low)) ∙ get_or-drop start entries k d in
      sym (ap (of_level level) (three_parts entries start end level_ordered)
      ∙ of_level-middle level (take start entries) middle (drop end entries)
      (λ k d low. omega (arith, length-take start entries, low, ap (λ (entry : Entry). entry.level) (get_or-take start entries k d (omega (arith, length-take start entries, low))), above k d (omega arith) (omega (arith, length-take start entries, low))))
      (λ k d low. omega (arith, ap (λ (entry : Entry). entry.level) (at k d low), not_above (start + k) d (omega arith) (omega (arith, long, low, level_ordered, within)), not_below (start + k) d (omega arith) (omega (arith, long, low, level_ordered, within))))
      (λ k d low. omega (arith, ap (λ (entry : Entry). entry.level) (get_or-drop end entries k d), below (end + k) d (omega arith) (omega (arith, length-drop end entries, low, within)))))

-- ---- the same of levels that never rise

Falls : List Entry → Type 0
Falls entries = AllPairs (λ older newer. newer.level ≤ older.level) entries

later_falls : (entry : Entry) (more : List Entry) → Falls (entry ∷ more) → Falls more
unfolding Falls
later_falls entry more falls i j d below within = falls (suc i) (suc j) d (omega (arith, below)) (omega (arith, within))

first_falls : (entry : Entry) (more : List Entry) → Falls (entry ∷ more) → All (λ later. later.level ≤ entry.level) more
unfolding Falls
first_falls entry more falls k d within = falls 0 (suc k) d (omega arith) (omega (arith, within))

-- entries of the level and below it begin with those of the level
begins_with : (level : ℕ) (entries : List Entry) → Falls entries → All (λ entry. entry.level ≤ level) entries
    → (after : List Entry) × (entries ≡ of_level level entries ++ after) × All (λ entry. entry.level < level) after
begins_with level [] falls low = ([], refl, All-nil (λ (entry : Entry). entry.level < level))
begins_with level (entry ∷ more) falls low =
    let first : entry.level ≤ level = low 0 entry (omega arith) in
    let later : All (λ (other : Entry). other.level ≤ entry.level) more = first_falls entry more falls in
    ⊎_elim
    (λ below.
    let none : All (λ (other : Entry). other.level < level) more = λ k d within. omega (arith, below, later k d within) in
    let is : of_level level (entry ∷ more) ≡ [] = of_level-other level entry more (λ same. omega (arith, same, below)) ∙ of_level-none level more (recursion_from_All (λ other. other.level ≢ level) more (λ k d within same. omega (arith, same, none k d within))) in
    (entry ∷ more, ap (λ (l : List Entry). l ++ entry ∷ more) (sym is), All-cons (λ (other : Entry). other.level < level) entry more below none))
    (λ same.
    let rest = begins_with level more (later_falls entry more falls) (λ k d within. omega (arith, first, later k d within)) in
    (rest.0, ap (λ (l : List Entry). entry ∷ l) rest.1 ∙ ap (λ (l : List Entry). l ++ rest.0) (sym (of_level-same level entry more (omega (arith, first, same)))), rest.2))
    (cases_lt entry.level level)

stretch : (level : ℕ) (entries : List Entry) → Falls entries → (before : List Entry) × (after : List Entry) × IsStretch entries before after level
stretch level [] falls = ([], [], record { parts = refl; above = All-nil (λ (entry : Entry). level < entry.level); below = All-nil (λ (entry : Entry). entry.level < level) })
stretch level (entry ∷ more) falls =
    ⊎_elim
    (λ above.
    let rest = stretch level more (later_falls entry more falls) in
    let is : of_level level (entry ∷ more) ≡ of_level level more = of_level-other level entry more (λ same. omega (arith, same, above)) in (
      entry ∷ rest.0,
      rest.1,
      record {
        parts = ap (λ (l : List Entry). entry ∷ l) rest.2.parts ∙ ap (λ (l : List Entry). entry ∷ (rest.0 ++ l ++ rest.1)) (sym is);
        above = All-cons (λ (other : Entry). level < other.level) entry rest.0 above rest.2.above;
        below = rest.2.below;
      },
    ))
    (λ low.
    let later : All (λ (other : Entry). other.level ≤ entry.level) more = first_falls entry more falls in
    let rest = begins_with level (entry ∷ more) falls (All-cons (λ (other : Entry). other.level ≤ level) entry more low (λ k d within. omega (arith, low, later k d within))) in
    ([], rest.0, record { parts = rest.1; above = All-nil (λ (other : Entry). level < other.level); below = rest.2 }))
    (cases_lt level entry.level)

pub levels_stand_together : LevelsStandTogether
unfolding Falls
levels_stand_together entries are level = stretch level entries are.levels
