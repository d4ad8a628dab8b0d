-- Lists that lie behind one another in one list.
use Rattle.std.proofs.Common.{◌≡◌, ℕ, zero, suc, ◌-◌, ◌<◌, ◌≤◌, List, [], ◌∷◌, ◌++◌, length, get_or, drop, Some, refl, ap, arith}
use Rattle.std.specs.Prelude.{slice_range, slice_get}
use Rattle.std.proofs.lemmas.List.{take-append-le, drop-append-le, drop_all, take_rest, length-drop, get_or_read}
use Rattle.pprof_message.specs.Fields.{last_of}
use Rattle.pprof_message.specs.Runs.{cut_at, IsCut, runs_of}

-- ---- places

IsCut-begin : (from : ℕ) (ends : List ℕ) (n : ℕ) → IsCut from ends n → from ≤ n
IsCut-begin from [] n h = h
IsCut-begin from (e ∷ es) n h = omega (arith, h.0, IsCut-begin e es n h.1)

IsCut-end : (from : ℕ) (ends : List ℕ) (n : ℕ) → IsCut from ends n → last_of from ends ≤ n
IsCut-end from [] n h = h
IsCut-end from (e ∷ es) n h = IsCut-end e es n h.1

pub IsCut-more : (from : ℕ) (ends : List ℕ) (n m : ℕ) → n ≤ m → IsCut from ends n → IsCut from ends m
IsCut-more from [] n m le h = omega (arith, h, le)
IsCut-more from (e ∷ es) n m le h = (h.0, IsCut-more e es n m le h.1)

pub IsCut-push : (from : ℕ) (ends : List ℕ) (n : ℕ) → IsCut from ends n → IsCut from (ends ++ n ∷ []) n
IsCut-push from [] n h = (h, omega arith)
IsCut-push from (e ∷ es) n h = (h.0, IsCut-push e es n h.1)

last_of-push : (from : ℕ) (ends : List ℕ) (n : ℕ) → last_of from (ends ++ n ∷ []) ≡ n
last_of-push from [] n = refl
last_of-push from (e ∷ es) n = last_of-push e es n

pub IsCut-places : (from : ℕ) (ends : List ℕ) (n i : ℕ) → IsCut from ends n → i < length ends → (get_or (from ∷ ends) i 0 ≤ get_or ends i 0) × (get_or ends i 0 ≤ n)
IsCut-places from [] n i h lt = absurd (omega (arith, lt))
IsCut-places from (e ∷ es) n zero h lt = (h.0, IsCut-begin e es n h.1)
IsCut-places from (e ∷ es) n (suc i) h lt = IsCut-places e es n i h.1 (omega (arith, lt))

-- ---- the lists

module _ {T : Type 0} where
  pub length-cut_at : (from : ℕ) (ends : List ℕ) (items : List T) → length (cut_at from ends items) ≡ length ends
  length-cut_at from [] items = refl
  length-cut_at from (e ∷ es) items = ap suc (length-cut_at e es items)

  pub slice_get-cut_at : (from : ℕ) (ends : List ℕ) (items : List T) (i : ℕ) → i < length ends
      → slice_get (cut_at from ends items) i ≡ Some (slice_range items (get_or (from ∷ ends) i 0) (get_or ends i 0))
  slice_get-cut_at from [] items i lt = absurd (omega (arith, lt))
  slice_get-cut_at from (e ∷ es) items zero lt = refl
  slice_get-cut_at from (e ∷ es) items (suc i) lt = slice_get-cut_at e es items i (omega (arith, lt))

  range-append : (items more : List T) (from end : ℕ) → from ≤ end → end ≤ length items → slice_range (items ++ more) from end ≡ slice_range items from end
  range-append items more from end le within =
      let begins : from ≤ length items = omega arith in
      let fits : end - from ≤ length (drop from items) = omega (arith, length-drop from items) in
      rw (drop-append-le from items more begins) (take-append-le (end - from) (drop from items) more fits)

  cut_at-append : (from : ℕ) (ends : List ℕ) (items more : List T) → IsCut from ends (length items) → cut_at from ends (items ++ more) ≡ cut_at from ends items
  cut_at-append from [] items more h = refl
  cut_at-append from (e ∷ es) items more h = rw (range-append items more from e h.0 (IsCut-begin e es (length items) h.1), cut_at-append e es items more h.1) refl

  cut_at-push : (from : ℕ) (ends : List ℕ) (items : List T) (n : ℕ) → cut_at from (ends ++ n ∷ []) items ≡ cut_at from ends items ++ slice_range items (last_of from ends) n ∷ []
  cut_at-push from [] items n = refl
  cut_at-push from (e ∷ es) items n = ap (λ (runs : List (List T)). slice_range items from e ∷ runs) (cut_at-push e es items n)

  -- one more item
  pub runs_of-item : (items : List T) (ends : List ℕ) (x : T) → IsCut 0 ends (length items)
      → runs_of (items ++ x ∷ []) ends ≡ record { closed = cut_at 0 ends items; begun = drop (last_of 0 ends) items ++ x ∷ [] }
  runs_of-item items ends x h = rw (cut_at-append 0 ends items (x ∷ []) h, drop-append-le (last_of 0 ends) items (x ∷ []) (IsCut-end 0 ends (length items) h)) refl

  -- one more end
  pub runs_of-end : (items : List T) (ends : List ℕ) → runs_of items (ends ++ length items ∷ []) ≡ record { closed = cut_at 0 ends items ++ drop (last_of 0 ends) items ∷ []; begun = [] }
  runs_of-end items ends =
      rw (cut_at-push 0 ends items (length items), last_of-push 0 ends (length items), take_rest items (last_of 0 ends), drop_all (length items) items (omega arith)) refl

  -- what lies between the places that were read
  pub at_places : (items : List T) (ends : List ℕ) (i from end : ℕ) → IsCut 0 ends (length items) → i < length ends → from ≡ get_or (0 ∷ ends) i 0 → end ≡ get_or ends i end
      → (from ≤ end) × (end ≤ length items) × (slice_get (cut_at 0 ends items) i ≡ Some (slice_range items from end))
  at_places items ends i from end h lt p q =
      let end_is : end ≡ get_or ends i 0 = get_or_read ends i end lt q 0 in
      let places = IsCut-places 0 ends (length items) i h lt in
      (omega (arith, places.0), omega (arith, places.1), rw (p, end_is) (slice_get-cut_at 0 ends items i lt))
