-- Runs of entries of one level, as searches for their level and for their end find them.
use Rattle.std.proofs.Common.{◌≡◌, ℕ, suc, ◌+◌, ◌-◌, ◌<◌, ◌≤◌, List, [], ◌∷◌, ◌++◌, length, get_or, take, drop, refl, sym, ap, ◌∙◌, arith, HoldsAt, Option, Some, None, is_some, IfSome, true, true≢false, ⊎_elim, append_assoc, length-append, length-take, length-drop}
use Rattle.std.specs.List.{AllWithin}
use Rattle.std.proofs.lemmas.Bool.{cases_lt}
use Rattle.std.proofs.lemmas.List.{get_or_append_left, get_or-append-add, get_or-take, get_or-drop, take_at}
use Rattle.std.proofs.lemmas.List.Edits.{split_between}
use Rattle.metastore_index.specs.declared.entry.Entry.{Entry}
use Rattle.metastore_index.specs.Entries.{AreEntries, HasRun, IsRunOver, end_of}
use Rattle.metastore_index.proofs.DivideLemmas.{lo_at, hi_at, hi_rises}
use Rattle.metastore_index.proofs.PartLemmas.{level_falls}

-- where searches for the level and for the end of a run came to
pub record IsSearched (entries : List Entry) (level hi start end : ℕ) : Type 0 where
  pub above : AllWithin (λ entry. level < entry.level) entries 0 start
  pub others : AllWithin (λ entry. entry.level ≤ level) entries start (length entries)
  pub before : AllWithin (λ entry. entry.hi ≤ hi) entries 0 end
  pub after : AllWithin (λ entry. hi < entry.hi) entries end (length entries)
  pub within : end ≤ length entries

-- what tells that a run of the level covers just these pushes
pub record IsSpan (entries : List Entry) (level lo hi start end : ℕ) : Type 0 where
  pub some : start < end
  pub from : HoldsAt (λ entry. entry.lo ≡ lo) entries start
  pub until : HoldsAt (λ entry. entry.hi ≡ hi) entries (end - 1)
  pub alike : HoldsAt (λ entry. entry.level ≡ level) entries (end - 1)

pub three_parts : (entries : List Entry) (start end : ℕ) → start ≤ end → entries ≡ take start entries ++ take (end - start) (drop start entries) ++ drop end entries
three_parts entries start end le = split_between entries start end le ∙ sym (append_assoc (take start entries) (take (end - start) (drop start entries)) (drop end entries))

two_parts : (entries : List Entry) (start end : ℕ) → start ≤ end → end ≤ length entries → take start entries ++ take (end - start) (drop start entries) ≡ take end entries
two_parts entries start end le within =
    let front = take start entries ++ take (end - start) (drop start entries) in
    let long : length front ≡ end = omega (arith, length-append (take start entries) (take (end - start) (drop start entries)), length-take start entries, length-take (end - start) (drop start entries), length-drop start entries) in
    sym (ap (take end) (three_parts entries start end le) ∙ take_at front (drop end entries) end long)

module _ (entries : List Entry) (level lo hi start end : ℕ) (are : AreEntries entries) (searched : IsSearched entries level hi start end) where
  pub run_found : (d : Entry) → IsSpan entries level lo hi start end → IsRunOver (take start entries) (take (end - start) (drop start entries)) (drop end entries) level lo hi
  run_found d span =
      let long : length (take (end - start) (drop start entries)) ≡ end - start = omega (arith, span.some, searched.within, length-take (end - start) (drop start entries), length-drop start entries) in
      let front = length-take start entries in
      record {
        some = λ none. omega (arith, ap length none, long, span.some);
        alike = λ k e below.
            let at : get_or (take (end - start) (drop start entries)) k e ≡ get_or entries (start + k) e = get_or-take (end - start) (drop start entries) k e (omega (arith, long, below)) ∙ get_or-drop start entries k e in
            let low = searched.others (start + k) e (omega arith) (omega (arith, long, below, searched.within, span.some)) in
            let high = level_falls entries (start + k) (end - 1) e are.levels (omega (arith, long, below)) (omega (arith, span.some, searched.within)) in
            ap (λ (entry : Entry). entry.level) at ∙ omega (arith, low, high, span.alike e);
        oldest = λ k e below same.
            let at : get_or (take start entries) k e ≡ get_or entries k e = get_or-take start entries k e (omega (arith, front, below)) in
            let high = searched.above k e (omega arith) (omega (arith, front, below)) in
            omega (arith, ap (λ (entry : Entry). entry.level) at, high, same);
        from = sym (lo_at entries start d are.divide (omega (arith, span.some, searched.within))) ∙ span.from d;
        until =
            let last : suc (end - 1) ≡ end = omega (arith, span.some) in
            ap end_of (two_parts entries start end (omega (arith, span.some)) searched.within ∙ ap (λ (n : ℕ). take n entries) (sym last))
            ∙ sym (hi_at entries (end - 1) d (omega (arith, span.some, searched.within))) ∙ span.until d;
      }

module _ (entries front : List Entry) (first : Entry) (rest back : List Entry) (level lo hi start end : ℕ) (are : AreEntries entries)
    (searched : IsSearched entries level hi start end) (parts : entries ≡ front ++ first ∷ rest ++ back) (run : IsRunOver front (first ∷ rest) back level lo hi) where
  long : length entries ≡ length front + suc (length rest) + length back
  long = ap length parts ∙ length-append (front ++ first ∷ rest) back ∙ ap (λ n. n + length back) (length-append front (first ∷ rest))

  in_front : (k : ℕ) (d : Entry) → k < length front → get_or entries k d ≡ get_or front k d
  in_front k d below =
      let whole = length-append front (first ∷ rest) in
      ap (λ (l : List Entry). get_or l k d) parts ∙ get_or_append_left (front ++ first ∷ rest) back d k (omega (arith, below, whole)) ∙ get_or_append_left front (first ∷ rest) d k below

  in_run : (k : ℕ) (d : Entry) → k < suc (length rest) → get_or entries (length front + k) d ≡ get_or (first ∷ rest) k d
  in_run k d below =
      let whole = length-append front (first ∷ rest) in
      ap (λ (l : List Entry). get_or l (length front + k) d) parts ∙ get_or_append_left (front ++ first ∷ rest) back d (length front + k) (omega (arith, below, whole)) ∙ get_or-append-add front (first ∷ rest) k d

  level_at : (k : ℕ) (d : Entry) → k < suc (length rest) → (get_or entries (length front + k) d).level ≡ level
  level_at k d below = ap (λ (entry : Entry). entry.level) (in_run k d below) ∙ run.alike k d below

  level_of_first : (d : Entry) → (get_or entries (length front) d).level ≡ level
  level_of_first d =
      let zeroth : length front + 0 ≡ length front = omega arith in
      ap (λ (n : ℕ). (get_or entries n d).level) (sym zeroth) ∙ level_at 0 d (omega arith)

  not_before : start ≤ length front
  not_before = ⊎_elim
      (λ below. absurd (omega (arith, searched.above (length front) first (omega arith) below, level_of_first first)))
      (λ le. le)
      (cases_lt (length front) start)

  not_after : length front ≤ start
  not_after = ⊎_elim
      (λ below. absurd (run.oldest start first below (ap (λ (entry : Entry). entry.level) (sym (in_front start first below))
      ∙ omega (arith, searched.others start first (omega arith) (omega (arith, long, below)), level_of_first first, are.levels start (length front) first below (omega (arith, long))))))
      (λ le. le)
      (cases_lt start (length front))

  start_is : start ≡ length front
  start_is = omega (arith, not_before, not_after)

  hi_of_last : (d : Entry) → (get_or entries (length front + length rest) d).hi ≡ hi
  hi_of_last d =
      let n = length front + length rest in
      let whole : length (front ++ first ∷ rest) ≡ suc n = omega (arith, length-append front (first ∷ rest)) in
      hi_at entries n d (omega (arith, long)) ∙ ap (λ (l : List Entry). end_of (take (suc n) l)) parts ∙ ap end_of (take_at (front ++ first ∷ rest) back (suc n) whole) ∙ run.until

  end_is : end ≡ length front + suc (length rest)
  end_is =
      let n = length front + length rest in
      let low : n < end = ⊎_elim (λ lt. lt) (λ le. absurd (omega (arith, searched.after n first le (omega (arith, long)), hi_of_last first))) (cases_lt n end) in
      let high : end ≤ suc n = ⊎_elim
      (λ lt. absurd (omega (arith, searched.before (suc n) first (omega arith) lt, hi_of_last first, hi_rises entries n (suc n) first are.divide (omega arith) (omega (arith, lt, searched.within)))))
      (λ le. le) (cases_lt (suc n) end) in
      omega (arith, low, high)

  span_of_run : IsSpan entries level lo hi start end
  span_of_run =
      let n = length front + length rest in
      let last : end - 1 ≡ n = omega (arith, end_is) in
      record {
        some = omega (arith, start_is, end_is);
        from = λ d.
            let whole = length-append front (first ∷ rest) in
            ap (λ (m : ℕ). (get_or entries m d).lo) start_is ∙ lo_at entries (length front) d are.divide (omega (arith, long))
            ∙ ap (λ (l : List Entry). end_of (take (length front) l)) (parts ∙ append_assoc front (first ∷ rest) back)
            ∙ ap end_of (take_at front (first ∷ rest ++ back) (length front) refl) ∙ run.from;
        until = λ d. ap (λ (m : ℕ). (get_or entries m d).hi) last ∙ hi_of_last d;
        alike = λ d. ap (λ (m : ℕ). (get_or entries m d).level) last ∙ level_at (length rest) d (omega arith);
      }

pub run_spans : (entries : List Entry) (level lo hi start end : ℕ) → AreEntries entries → IsSearched entries level hi start end → HasRun entries level lo hi → IsSpan entries level lo hi start end
run_spans entries level lo hi start end are searched has = by_run has.0 has.1 has.2 has.3 has.4
  where
    by_run : (front run back : List Entry) → entries ≡ front ++ run ++ back → IsRunOver front run back level lo hi → IsSpan entries level lo hi start end
    by_run front [] back parts run = absurd (run.some refl)
    by_run front (first ∷ rest) back parts run = span_of_run entries front first rest back level lo hi start end are searched parts run

-- what a search for a run found, where it found any
pub has_run : (entries : List Entry) (level lo hi : ℕ) (found : Option (ℕ × ℕ)) → is_some found ≡ true
    → IfSome found (λ run. (run.0 < run.1) × (run.1 ≤ length entries) × IsRunOver (take run.0 entries) (take (run.1 - run.0) (drop run.0 entries)) (drop run.1 entries) level lo hi)
    → HasRun entries level lo hi
has_run entries level lo hi None some run = absurd (true≢false (sym some))
has_run entries level lo hi (Some (start, end)) some run =
    (take start entries, take (end - start) (drop start entries), drop end entries, three_parts entries start end (omega (arith, run.0)), run.2)

-- there is no level above 3
pub level_of_run_known : (entries : List Entry) (level lo hi : ℕ) → HasRun entries level lo hi → level ≤ 3
level_of_run_known entries level lo hi has = by_run has.0 has.1 has.2 has.4
  where
    by_run : (front run back : List Entry) → IsRunOver front run back level lo hi → level ≤ 3
    by_run front [] back run = absurd (run.some refl)
    by_run front (first ∷ rest) back run = omega (arith, first.known, run.alike 0 first (omega arith))
