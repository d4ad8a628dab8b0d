-- Keys that come in their order, each above those before it.
use Rattle.std.proofs.Common.{◌≡◌, ◌&&◌, ℕ, suc, ◌-◌, ◌<◌, Bool, true, false, cond, List, [], ◌∷◌, ◌++◌, length, get_or, Some, None, refl, subst, sym, ap, ◌∙◌, arith}
use Rattle.std.specs.List.{AllByRecursion, list_all}
use Rattle.std.specs.List.Sorted.{IsStrictlySortedBy}
use Rattle.std.specs.Map.{keys_of, lookup}
use Rattle.std.specs.BTreeMap.{insert_entry, is_at}
use Rattle.std.specs.Cmp.{IsTotalOrder}
use Rattle.std.specs.Ordering.{is_eq, is_lt, match_ordering, ordering_reverse}
use Rattle.std.specs.declared.cmp.Ordering.{Ordering}
use Rattle.std.specs.declared.cmp.Ordering.TheVariants.{Less, Equal, Greater}
use Rattle.std.proofs.lemmas.Bool.{and_parts}
use Rattle.std.proofs.lemmas.Map.Keys.{sorted_head, sorted_tail}

-- each key before is below this one
abbrev pub is_above_all : {K V : Type 0} → (K → K → Ordering) → List (K × V) → K → Bool
is_above_all cmp before key = list_all (λ other. is_lt (cmp other.0 key)) before

pub less_from : (o : Ordering) → is_lt o ≡ true → o ≡ Less
less_from Less is = refl
less_from Equal is = absurd cc
less_from Greater is = absurd cc

pub split_last : {X : Type 0} (xs : List X) (last : X) → 0 < length xs → last ≡ get_or xs (length xs - 1) last → (front : List X) × (xs ≡ front ++ last ∷ [])
split_last [] last some is = absurd (omega (arith, some))
split_last (x ∷ []) last some is = ([], (λ i. sym is i ∷ []))
split_last (x ∷ y ∷ ys) last some is =
    let place : length (x ∷ y ∷ ys) - 1 ≡ suc (length (y ∷ ys) - 1) = omega arith in
    let rest = split_last (y ∷ ys) last (omega arith) (is ∙ ap (λ (n : ℕ). get_or (x ∷ y ∷ ys) n last) place) in
    (x ∷ rest.0, (λ i. x ∷ rest.1 i))

alone_too : (b : Bool) → b ≡ (b && true)
alone_too true = refl
alone_too false = refl

one_more : (low : Bool) (later : Bool) → (later ≡ true → low ≡ true) → later ≡ (low && later)
one_more true later is = refl
one_more false true is = sym (is refl)
one_more false false is = refl

module _ {K V : Type 0} {cmp : K → K → Ordering} (o : IsTotalOrder cmp) where
  last_of : (P : K → Type 0) (front : List (K × V)) (last : K × V) → AllByRecursion P (keys_of (front ++ last ∷ [])) → P last.0
  last_of P [] last all = all.0
  last_of P (f ∷ front) last all = last_of P front last all.1

  -- where keys ascend, a key above the last is above all
  pub above_last : (front : List (K × V)) (last : K × V) (key : K) → IsStrictlySortedBy cmp (keys_of (front ++ last ∷ []))
      → is_lt (cmp last.0 key) ≡ is_above_all cmp (front ++ last ∷ []) key
  above_last [] last key sorted = alone_too (is_lt (cmp last.0 key))
  above_last (f ∷ front) last key sorted =
      let later = above_last front last key (sorted_tail cmp f.0 (keys_of (front ++ last ∷ [])) sorted) in
      let low : cmp f.0 last.0 ≡ Less = last_of (λ k. cmp f.0 k ≡ Less) front last (sorted_head cmp f.0 (keys_of (front ++ last ∷ [])) sorted) in
      later ∙ one_more (is_lt (cmp f.0 key)) (is_above_all cmp (front ++ last ∷ []) key)
      (λ all. ap is_lt (o.trans f.0 last.0 key low (less_from (cmp last.0 key) (later ∙ all))))

  pub above_by_last : (items : List (K × V)) (last : K × V) (key : K) → IsStrictlySortedBy cmp (keys_of items) → 0 < length items
      → last ≡ get_or items (length items - 1) last → is_lt (cmp last.0 key) ≡ is_above_all cmp items key
  above_by_last items last key sorted some is =
      let cut = split_last items last some is in
      above_last cut.0 last key (subst (λ (l : List (K × V)). IsStrictlySortedBy cmp (keys_of l)) cut.1 sorted)
      ∙ ap (λ (l : List (K × V)). is_above_all cmp l key) (sym cut.1)

  -- a key above all goes behind them
  pub put_last : (items : List (K × V)) (key : K) (v : V) → is_above_all cmp items key ≡ true → insert_entry cmp items key v ≡ items ++ (key, v) ∷ []
  put_last [] key v above = refl
  put_last (e ∷ items) key v above =
      let both = and_parts (is_lt (cmp e.0 key)) (is_above_all cmp items key) above in
      let order : cmp key e.0 ≡ Greater = o.antisymm key e.0 ∙ ap ordering_reverse (less_from (cmp e.0 key) both.0) in
      ap (λ (r : Ordering). match_ordering r ((key, v) ∷ e ∷ items) ((e.0, v) ∷ items) (e ∷ insert_entry cmp items key v)) order
      ∙ ap (λ (l : List (K × V)). e ∷ l) (put_last items key v both.1)

  -- and wasn't there
  pub new_above : (items : List (K × V)) (key : K) → is_above_all cmp items key ≡ true → lookup (is_at (cmp key)) items ≡ None
  new_above [] key above = refl
  new_above (e ∷ items) key above =
      let both = and_parts (is_lt (cmp e.0 key)) (is_above_all cmp items key) above in
      let order : cmp key e.0 ≡ Greater = o.antisymm key e.0 ∙ ap ordering_reverse (less_from (cmp e.0 key) both.0) in
      ap (λ (r : Ordering). cond (is_eq r) (Some e.1) (lookup (is_at (cmp key)) items)) order ∙ new_above items key both.1
