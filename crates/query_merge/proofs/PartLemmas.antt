-- The rows of parts in any order, and their values.
use Rattle.std.proofs.Common.{◌≡◌, ◌∙◌, ◌+◌, ◌≤◌, ◌<◌, ℕ, zero, suc, Bool, true, false, cond, List, [], ◌∷◌, ◌++◌, length, get_or, set, map, arith, refl, sym, ap, subst, append_assoc}
use Rattle.std.specs.Prelude.{◌&&◌, filter, flat_map, nat_le, nat_lt, sum_by}
use Rattle.std.specs.List.{enumerate_from, swap}
use Rattle.std.specs.List.Sorted.{IsPermutation}
use Rattle.std.proofs.lemmas.Bool.{leb-false, leb-true, ltb-false, ltb-true}
use Rattle.std.proofs.lemmas.Grind.{flat_map-append}
use Rattle.std.proofs.lemmas.List.{map-append}
use Rattle.std.proofs.lemmas.List.Edits.{swap_is}
use Rattle.std.proofs.lemmas.List.Elements.{filter-append}
use Rattle.std.proofs.lemmas.List.Sorted.{IsPermutation-append_comm, IsPermutation-append_left, IsPermutation-append_right, IsPermutation-keeps, IsPermutation-refl, IsPermutation-trans}
use Rattle.std.proofs.lemmas.List.Sums.{sum_by-append, sum_by-cons}
use Rattle.profile_model.specs.Limits.{total_bound}
use Rattle.profile_model.specs.Pushes.{profiles_total}
use Rattle.profile_model.specs.Sums.{total_of}
use Rattle.profile_model.specs.declared.part_ask.PartAsk.{PartAsk}
use Rattle.profile_model.specs.declared.profile.Profile.{Profile}
use Rattle.profile_model.specs.declared.push.Push.{Push}
use Rattle.push_history.specs.History.{pushes_of, pushes_total, tenant_total}
use Rattle.segment_file.specs.Parts.{PartView, is_of, is_within, part_of, rows_of_push}
use Rattle.segment_file.specs.declared.part.Row.{Row}
use Rattle.query_merge.specs.Laws.{ArePartsFrom, PartsInAnyOrder, PartsStayBounded, RowsInAnyOrder}
use Rattle.query_merge.specs.Rows.{profiles_of, profiles_of_parts}

-- ---- any order

module _ {X A : Type 0} (f : X → List A) where
  flipped : (x y : X) (rest : List X) → IsPermutation (flat_map f (x ∷ y ∷ rest)) (flat_map f (y ∷ x ∷ rest))
  flipped x y rest =
      let last = flat_map f rest in
      let first = λ (all : List A). IsPermutation all (f y ++ (f x ++ last)) in
      let other = λ (all : List A). IsPermutation (f x ++ f y ++ last) all in
      subst first (append_assoc (f x) (f y) last)
      (subst other (append_assoc (f y) (f x) last) (IsPermutation-append_left last (f x ++ f y) (f y ++ f x) (IsPermutation-append_comm (f x) (f y))))

  -- the first changes places with another
  exchanged : (x d : X) (xs : List X) (j : ℕ) → j < length xs
      → IsPermutation (flat_map f (x ∷ xs)) (flat_map f (get_or xs j d ∷ set xs j x))
  exchanged x d [] j short = absurd (omega arith)
  exchanged x d (y ∷ ys) zero short = flipped x y ys
  exchanged x d (y ∷ ys) (suc j) short =
      let z = get_or ys j d in
      IsPermutation-trans _ _ _ (flipped x y ys)
      (IsPermutation-trans _ _ _ (IsPermutation-append_right (f y) (flat_map f (x ∷ ys)) (flat_map f (z ∷ set ys j x)) (exchanged x d ys j (omega arith)))
      (flipped y z (set ys j x)))

  both_exchanged : (d : X) (xs : List X) (i j : ℕ) → i < length xs → j < length xs
      → IsPermutation (flat_map f xs) (flat_map f (set (set xs i (get_or xs j d)) j (get_or xs i d)))
  both_exchanged d [] i j short too = absurd (omega arith)
  both_exchanged d (x ∷ xs) zero zero short too = IsPermutation-refl (flat_map f (x ∷ xs))
  both_exchanged d (x ∷ xs) zero (suc j) short too = exchanged x d xs j (omega arith)
  both_exchanged d (x ∷ xs) (suc i) zero short too = exchanged x d xs i (omega arith)
  both_exchanged d (x ∷ xs) (suc i) (suc j) short too =
      IsPermutation-append_right (f x) (flat_map f xs) (flat_map f (set (set xs i (get_or xs j d)) j (get_or xs i d)))
      (both_exchanged d xs i j (omega arith) (omega arith))

  swapped : (xs : List X) (i j : ℕ) → i < length xs → j < length xs → IsPermutation (flat_map f xs) (flat_map f (swap xs i j))
  swapped [] i j short too = absurd (omega arith)
  swapped (x ∷ xs) i j short too =
      let P = λ (ys : List X). IsPermutation (flat_map f (x ∷ xs)) (flat_map f ys) in
      subst P (swap_is (x ∷ xs) i j x short too) (both_exchanged x (x ∷ xs) i j short too)

  pub flat_map-IsPermutation : (xs ys : List X) → IsPermutation xs ys → IsPermutation (flat_map f xs) (flat_map f ys)
  flat_map-IsPermutation xs ys moved =
      let P = λ (zs : List X). IsPermutation (flat_map f xs) (flat_map f zs) in
      IsPermutation-keeps xs P (IsPermutation-refl (flat_map f xs))
      (λ zs i j short too so_far. IsPermutation-trans _ _ _ so_far (swapped zs i j short too)) ys moved

pub parts_in_any_order : PartsInAnyOrder
parts_in_any_order parts others moved = flat_map-IsPermutation (λ (part : PartView). profiles_of part.rows) parts others moved

one_each : (rows : List Row) → flat_map (λ row. row.profile ∷ []) rows ≡ profiles_of rows
one_each [] = refl
one_each (row ∷ rows) = ap (λ (rest : List Profile). row.profile ∷ rest) (one_each rows)

pub rows_in_any_order : RowsInAnyOrder
rows_in_any_order rows others moved =
    subst (λ profiles. IsPermutation profiles (profiles_of others)) (one_each rows)
    (subst (IsPermutation (flat_map (λ (row : Row). row.profile ∷ []) rows)) (one_each others) (flat_map-IsPermutation (λ (row : Row). row.profile ∷ []) rows others moved))

-- ---- totals

within_total : (ask : PartAsk) (rows : List Row) → profiles_total (profiles_of (filter (is_within ask) rows)) ≤ profiles_total (profiles_of rows)
within_total ask [] = omega arith
within_total ask (row ∷ rows) = by (is_within ask row) (within_total ask rows)
  where
    by : (kept : Bool) → profiles_total (profiles_of (filter (is_within ask) rows)) ≤ profiles_total (profiles_of rows)
        → profiles_total (profiles_of (cond kept (row ∷ filter (is_within ask) rows) (filter (is_within ask) rows))) ≤ profiles_total (profiles_of (row ∷ rows))
    by true later =
        let all = sum_by-cons (λ (profile : Profile). total_of profile.values) row.profile (profiles_of rows) in
        let kept = sum_by-cons (λ (profile : Profile). total_of profile.values) row.profile (profiles_of (filter (is_within ask) rows)) in
        omega arith
    by false later = let all = sum_by-cons (λ (profile : Profile). total_of profile.values) row.profile (profiles_of rows) in omega arith

pub placed_profiles : (push place : ℕ) (profiles : List Profile)
    → profiles_of (map (λ placed. record { push = push; place = placed.0; profile = placed.1 }) (enumerate_from place profiles)) ≡ profiles
placed_profiles push place [] = refl
placed_profiles push place (profile ∷ profiles) = ap (λ (rest : List Profile). profile ∷ rest) (placed_profiles push (place + 1) profiles)

-- all values of a push that is the tenant's
abbrev own_total : List ℕ → ℕ × Push → ℕ
own_total tenant numbered = cond (is_of tenant numbered) (profiles_total numbered.1.profiles) 0

-- those of the pushes from number `from` on
abbrev total_from : List ℕ → ℕ → List (ℕ × Push) → ℕ
total_from tenant from numbered = sum_by (λ one. cond (nat_le from one.0) (own_total tenant one) 0) numbered

-- all values that the ask finds in pushes
abbrev found_total : PartAsk → List (ℕ × Push) → ℕ
found_total ask numbered = profiles_total (profiles_of (filter (is_within ask) (flat_map rows_of_push (filter (is_of ask.tenant) numbered))))

found_more : (ask : PartAsk) (one : ℕ × Push) (numbered : List (ℕ × Push)) → found_total ask (one ∷ numbered) ≤ own_total ask.tenant one + found_total ask numbered
found_more ask one numbered = by (is_of ask.tenant one)
  where
    split : profiles_total (profiles_of (filter (is_within ask) (rows_of_push one ++ flat_map rows_of_push (filter (is_of ask.tenant) numbered))))
        ≡ profiles_total (profiles_of (filter (is_within ask) (rows_of_push one))) + found_total ask numbered
    split =
        let more = flat_map rows_of_push (filter (is_of ask.tenant) numbered) in
        ap (λ (found : List Row). profiles_total (profiles_of found)) (filter-append (is_within ask) (rows_of_push one) more)
        ∙ ap profiles_total (map-append (λ (row : Row). row.profile) (filter (is_within ask) (rows_of_push one)) (filter (is_within ask) more))
        ∙ sum_by-append (λ (profile : Profile). total_of profile.values) (profiles_of (filter (is_within ask) (rows_of_push one))) (profiles_of (filter (is_within ask) more))

    by : (own : Bool) → profiles_total (profiles_of (filter (is_within ask) (flat_map rows_of_push (cond own (one ∷ filter (is_of ask.tenant) numbered) (filter (is_of ask.tenant) numbered)))))
        ≤ cond own (profiles_total one.1.profiles) 0 + found_total ask numbered
    by true =
        let within = within_total ask (rows_of_push one) in
        let all : profiles_total (profiles_of (rows_of_push one)) ≡ profiles_total one.1.profiles = ap profiles_total (placed_profiles one.0 0 one.1.profiles) in
        let both = split in
        omega arith
    by false = omega arith

module _ (ask : PartAsk) (from until : ℕ) (ordered : from ≤ until) where
  -- what is found between two numbers, and all values from the second on
  found_between : (numbered : List (ℕ × Push))
      → found_total ask (filter (λ one. nat_le from one.0 && nat_lt one.0 until) numbered) + total_from ask.tenant until numbered ≤ total_from ask.tenant from numbered
  found_between [] = omega arith
  found_between (one ∷ numbered) =
      let first = sum_by-cons (λ (n : ℕ × Push). cond (nat_le from n.0) (own_total ask.tenant n) 0) one numbered in
      let second = sum_by-cons (λ (n : ℕ × Push). cond (nat_le until n.0) (own_total ask.tenant n) 0) one numbered in
      let here = by (nat_le from one.0) (nat_lt one.0 until) (nat_le until one.0) refl refl refl (found_between numbered) in
      omega arith
    where
      by : (a b d : Bool) → nat_le from one.0 ≡ a → nat_lt one.0 until ≡ b → nat_le until one.0 ≡ d
          → found_total ask (filter (λ n. nat_le from n.0 && nat_lt n.0 until) numbered) + total_from ask.tenant until numbered ≤ total_from ask.tenant from numbered
          → found_total ask (cond (a && b) (one ∷ filter (λ n. nat_le from n.0 && nat_lt n.0 until) numbered) (filter (λ n. nat_le from n.0 && nat_lt n.0 until) numbered))
          + (cond d (own_total ask.tenant one) 0 + total_from ask.tenant until numbered)
          ≤ cond a (own_total ask.tenant one) 0 + total_from ask.tenant from numbered
      by true true true is below beyond later =
          let lower = ltb-true one.0 until below in let higher = leb-true until one.0 beyond in absurd (omega arith)
      by true true false is below beyond later =
          let more = found_more ask one (filter (λ n. nat_le from n.0 && nat_lt n.0 until) numbered) in omega arith
      by true false true is below beyond later = omega arith
      by true false false is below beyond later =
          let not_below = ltb-false one.0 until below in let not_beyond = leb-false until one.0 beyond in absurd (omega arith)
      by false b true is below beyond later =
          let before = leb-false from one.0 is in let higher = leb-true until one.0 beyond in absurd (omega arith)
      by false b false is below beyond later = omega arith

total_from-all : (tenant : List ℕ) (from : ℕ) (numbered : List (ℕ × Push)) → total_from tenant from numbered ≤ sum_by (own_total tenant) numbered
total_from-all tenant from [] = omega arith
total_from-all tenant from (one ∷ numbered) =
    let some = sum_by-cons (λ (n : ℕ × Push). cond (nat_le from n.0) (own_total tenant n) 0) one numbered in
    let all = sum_by-cons (own_total tenant) one numbered in
    let here = by (nat_le from one.0) in
    let later = total_from-all tenant from numbered in
    omega arith
  where
    by : (counts : Bool) → cond counts (own_total tenant one) 0 ≤ own_total tenant one
    by true = omega arith
    by false = omega arith

own-all : (tenant : List ℕ) (lo : ℕ) (history : List Push) → sum_by (own_total tenant) (enumerate_from lo history) ≡ tenant_total history tenant
own-all tenant lo [] = refl
own-all tenant lo (push ∷ history) =
    sum_by-cons (own_total tenant) (lo, push) (enumerate_from (lo + 1) history) ∙ by (is_of tenant (lo, push)) (own-all tenant (lo + 1) history)
  where
    by : (own : Bool) → sum_by (own_total tenant) (enumerate_from (lo + 1) history) ≡ tenant_total history tenant
        → cond own (profiles_total push.profiles) 0 + sum_by (own_total tenant) (enumerate_from (lo + 1) history)
        ≡ pushes_total (cond own (push ∷ pushes_of history tenant) (pushes_of history tenant))
    by true later = let all = sum_by-cons (λ (one : Push). profiles_total one.profiles) push (pushes_of history tenant) in omega arith
    by false later = omega arith

parts_total : (history : List Push) (ask : PartAsk) (from : ℕ) (parts : List PartView) → ArePartsFrom history ask from parts
    → profiles_total (profiles_of_parts parts) ≤ total_from ask.tenant from (enumerate_from 0 history)
parts_total history ask from [] are = omega arith
parts_total history ask from (part ∷ parts) are =
    let split = sum_by-append (λ (profile : Profile). total_of profile.values) (profiles_of part.rows) (profiles_of_parts parts) in
    let found = ap (λ (found : PartView). profiles_total (profiles_of found.rows)) are.0 in
    let here = found_between ask from part.until are.1 (enumerate_from 0 history) in
    let later = parts_total history ask part.until parts are.2 in
    omega arith

pub parts_bounded : PartsStayBounded
parts_bounded history ask parts next bounded are =
    let all = parts_total history ask 0 (parts ++ next ∷ []) are in
    let some = total_from-all ask.tenant 0 (enumerate_from 0 history) in
    let own = own-all ask.tenant 0 history in
    let below = bounded ask.tenant in
    let split : profiles_total (profiles_of_parts (parts ++ next ∷ [])) ≡ profiles_total (profiles_of_parts parts) + profiles_total (profiles_of_parts (next ∷ [])) =
    ap profiles_total (flat_map-append (λ (part : PartView). profiles_of part.rows) parts (next ∷ []))
    ∙ sum_by-append (λ (profile : Profile). total_of profile.values) (profiles_of_parts parts) (profiles_of_parts (next ∷ [])) in
    let last : profiles_total (profiles_of_parts (next ∷ [])) ≡ profiles_total (profiles_of next.rows) + 0 =
    sum_by-append (λ (profile : Profile). total_of profile.values) (profiles_of next.rows) [] in
    omega arith
