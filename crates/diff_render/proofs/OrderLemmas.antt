-- Which of two stacks is lower, both right behind the same path.
use Rattle.std.proofs.Common.{◌≡◌, ℕ, zero, suc, ◌<◌, ◌≤◌, ◌⊎◌, inl, inr, List, [], ◌∷◌, ◌++◌, length, take, arith, refl, sym, ap, ◌∙◌, ⊎_elim}
use Rattle.std.specs.Cmp.{tied_itself}
use Rattle.std.specs.Ordering.{is_eq, ordering_then}
use Rattle.std.specs.declared.cmp.Ordering.{Ordering}
use Rattle.std.specs.declared.cmp.Ordering.TheVariants.{Less, Equal, Greater}
use Rattle.std.specs.Cmp.Lexicographic.{bytes_decides, texts_ties, nat_list_cmp_total}
use Rattle.std.specs.Prelude.{nat_lt}
use Rattle.std.specs.Ordering.{ordering_reverse}
use Rattle.std.proofs.Common.{Bool, true, false, ◌-◌, cond}
use Rattle.std.proofs.lemmas.Bool.{cases_lt}
use Rattle.std.proofs.lemmas.Bool.Decides.{Decides-ltb}
use Rattle.profile_model.specs.Stacks.{name_cmp, stack_cmp}
use Rattle.profile_model.specs.StackOrder.{stack_eq, stacks_equiv, stacks_ties, stacks_total}
use Rattle.flamebearer.proofs.PrefixLemmas.{stack_same}
use Rattle.flamebearer.specs.Branches.{stack_with}
use Rattle.flamebearer.specs.declared.branches.Frame.{Frame}
use Rattle.diff_render.specs.Order.{frames_order}

abbrev Stack : Type 0
Stack = List (List ℕ)

less_not_equal : ◌≡◌ {A = Ordering} Less Equal → ⊥
less_not_equal is = cc

less_not_greater : ◌≡◌ {A = Ordering} Less Greater → ⊥
less_not_greater is = cc

equal_not_greater : ◌≡◌ {A = Ordering} Equal Greater → ⊥
equal_not_greater is = cc

pub name_same : (x y : List ℕ) → name_cmp x y ≡ Equal → x ≡ y
name_same x y tied = (bytes_decides x y).0 (texts_ties x y ∙ ap is_eq tied)

same_names : (x : List ℕ) → name_cmp x x ≡ Equal
same_names x = tied_itself nat_list_cmp_total x

greater_not_less : ◌≡◌ {A = Ordering} Greater Less → ⊥
greater_not_less is = cc

then_equal : (o : Ordering) → ordering_then o Equal ≡ o
then_equal Less = refl
then_equal Equal = refl
then_equal Greater = refl

none_lower : (xs : Stack) → stack_cmp xs [] ≡ Less → ⊥
none_lower [] is = cc
none_lower (x ∷ xs) is = cc

heads : (x y : List ℕ) (xs ys : Stack) → x ∷ xs ≡ y ∷ ys → x ≡ y
heads x y xs ys whole = cc

tails : (x y : List ℕ) (xs ys : Stack) → x ∷ xs ≡ y ∷ ys → xs ≡ ys
tails x y xs ys whole = cc

-- behind a path that isn't below a stack's parent, what is above the path begins with the parent's place in it
pub parent_in_path : (parent path : Stack) (name : List ℕ) → (parent ≡ path) ⊎ (stack_cmp parent path ≡ Less)
    → stack_cmp path (parent ++ name ∷ []) ≡ Less → take (length parent) path ≡ parent
parent_in_path [] path name low above = refl
parent_in_path (x ∷ parent) [] name (inl is) above = absurd (let long = ap length is in omega (arith, long))
parent_in_path (x ∷ parent) [] name (inr low) above = absurd (none_lower (x ∷ parent) low)
parent_in_path (x ∷ parent) (y ∷ path) name low above =
    by (name_cmp x y) refl low (ap (λ o. ordering_then o (stack_cmp path (parent ++ name ∷ []))) (sym (nat_list_cmp_total.antisymm y x)) ∙ above)
    (λ under beyond. parent_in_path parent path name under beyond)
  where
    by : (o : Ordering) → name_cmp x y ≡ o → ((x ∷ parent) ≡ (y ∷ path)) ⊎ (ordering_then (name_cmp x y) (stack_cmp parent path) ≡ Less)
        → ordering_then (ordering_reverse (name_cmp x y)) (stack_cmp path (parent ++ name ∷ [])) ≡ Less
        → ((parent ≡ path) ⊎ (stack_cmp parent path ≡ Less) → stack_cmp path (parent ++ name ∷ []) ≡ Less → take (length parent) path ≡ parent)
        → y ∷ take (length parent) path ≡ x ∷ parent
    by Less is low above more = absurd (greater_not_less (ap (λ o. ordering_then (ordering_reverse o) (stack_cmp path (parent ++ name ∷ []))) (sym is) ∙ above))
    by Equal is low above more =
        let same = name_same x y is in
        let rest = more
        (⊎_elim (λ whole. inl (tails x y parent path whole)) (λ less. inr (ap (λ o. ordering_then o (stack_cmp parent path)) (sym is) ∙ less)) low)
        (ap (λ o. ordering_then (ordering_reverse o) (stack_cmp path (parent ++ name ∷ []))) (sym is) ∙ above) in
        λ i. sym same i ∷ rest i
    by Greater is low above more = absurd (⊎_elim
        (λ whole. equal_not_greater (sym (ap (λ n. name_cmp x n) (sym (heads x y parent path whole)) ∙ same_names x) ∙ is))
        (λ less. greater_not_less (ap (λ o. ordering_then o (stack_cmp parent path)) (sym is) ∙ less)) low)

-- the deeper of two stacks right behind a path comes first
pub deeper_first : (path : Stack) (a b : List ℕ) (m n : ℕ) → n < m → m ≤ length path → stack_cmp path (take n path ++ b ∷ []) ≡ Less
    → stack_cmp (take m path ++ a ∷ []) (take n path ++ b ∷ []) ≡ Less
deeper_first [] a b m n deep within above = absurd (omega arith)
deeper_first (p ∷ path) a b zero n deep within above = absurd (omega arith)
deeper_first (p ∷ path) a b (suc m) zero deep within above = by (name_cmp p b) above
  where
    by : (o : Ordering) → ordering_then o (stack_cmp path []) ≡ Less → ordering_then o (stack_cmp (take m path ++ a ∷ []) []) ≡ Less
    by Less above = refl
    by Equal above = absurd (none_lower path above)
    by Greater above = absurd (greater_not_less above)
deeper_first (p ∷ path) a b (suc m) (suc n) deep within above =
    ap (λ o. ordering_then o (stack_cmp (take m path ++ a ∷ []) (take n path ++ b ∷ []))) (same_names p)
    ∙ deeper_first path a b m n (omega arith) (omega arith) (ap (λ o. ordering_then o (stack_cmp path (take n path ++ b ∷ []))) (sym (same_names p)) ∙ above)

pub level_by_name : (path : Stack) (a b : List ℕ) (m : ℕ) → stack_cmp (take m path ++ a ∷ []) (take m path ++ b ∷ []) ≡ name_cmp a b
level_by_name path a b zero = then_equal (name_cmp a b)
level_by_name [] a b (suc m) = then_equal (name_cmp a b)
level_by_name (p ∷ path) a b (suc m) =
    ap (λ o. ordering_then o (stack_cmp (take m path ++ a ∷ []) (take m path ++ b ∷ []))) (same_names p) ∙ level_by_name path a b m

true_not_false : ◌≡◌ {A = Bool} true false → ⊥
true_not_false is = cc

level : (m n : ℕ) → (n < m → ⊥) → (m < n → ⊥) → n - 1 ≡ m - 1
level m n not_less not_more = ⊎_elim (λ less. absurd (not_more less)) (λ most. ⊎_elim (λ less. absurd (not_less less)) (λ least. omega (arith, most, least)) (cases_lt n m)) (cases_lt m n)

-- and so their frames tell which of the stacks is lower
pub frames_ordered : (path : Stack) (left right : Frame) → 0 < left.depth → 0 < right.depth → left.depth - 1 ≤ length path → right.depth - 1 ≤ length path
    → stack_cmp path (stack_with path left) ≡ Less → stack_cmp path (stack_with path right) ≡ Less
    → stack_cmp (stack_with path left) (stack_with path right) ≡ frames_order left right
frames_ordered path left right some other within inside above beyond =
    by (nat_lt right.depth left.depth) (nat_lt left.depth right.depth) refl refl
  where
    by : (deeper shallower : Bool) → nat_lt right.depth left.depth ≡ deeper → nat_lt left.depth right.depth ≡ shallower
        → stack_cmp (stack_with path left) (stack_with path right) ≡ cond deeper Less (cond shallower Greater (name_cmp left.name right.name))
    by true shallower is so =
        let less = (Decides-ltb right.depth left.depth).0 is in
        deeper_first path left.name right.name (left.depth - 1) (right.depth - 1) (omega (arith, less, some, other)) within beyond
    by false true is so =
        let less = (Decides-ltb left.depth right.depth).0 so in
        stacks_total.antisymm (stack_with path left) (stack_with path right) ∙ ap ordering_reverse (deeper_first path right.name left.name (right.depth - 1) (left.depth - 1) (omega (arith, less, some, other)) inside above)
    by false false is so =
        let same : right.depth - 1 ≡ left.depth - 1 = level left.depth right.depth (λ less. absurd (true_not_false (sym ((Decides-ltb right.depth left.depth).1 less) ∙ is)))
        (λ less. absurd (true_not_false (sym ((Decides-ltb left.depth right.depth).1 less) ∙ so))) in
        ap (λ n. stack_cmp (stack_with path left) (take n path ++ right.name ∷ [])) same ∙ level_by_name path left.name right.name (left.depth - 1)

-- ---- one stack below another

-- a lower stack is another one
pub apart : (q s : List (List ℕ)) → stack_cmp q s ≡ Less → stack_eq q s ≡ false
apart q s less = stacks_ties q s ∙ ap is_eq less

pub apart_back : (q s : List (List ℕ)) → stack_cmp q s ≡ Less → stack_eq s q ≡ false
apart_back q s less = stacks_equiv.symm s q ∙ apart q s less

pub tied_same : (s t : List (List ℕ)) → stack_cmp s t ≡ Equal → s ≡ t
tied_same s t tied = stack_same s t (stacks_ties s t ∙ ap is_eq tied)
