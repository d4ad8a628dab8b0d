-- What stacks begin with, and how that stands in their order.
use Rattle.std.proofs.Common.{◌≡◌, ℕ, zero, suc, ◌+◌, ◌<◌, ◌≤◌, ◌||◌, List, [], ◌∷◌, length, take, drop, get_or, Bool, true, false, arith, refl, sym, ap, ◌∙◌}
use Rattle.std.specs.Prelude.{◌≢◌}
use Rattle.std.specs.List.{AllByRecursion, list_any}
use Rattle.std.specs.Cmp.{tied_itself}
use Rattle.std.specs.Ordering.{is_eq, ordering_then, match_ordering}
use Rattle.std.specs.declared.cmp.Ordering.{Ordering}
use Rattle.std.specs.declared.cmp.Ordering.TheVariants.{Less, Equal, Greater}
use Rattle.std.specs.Cmp.Lexicographic.{pointwise_decides, bytes_decides, texts_ties, nat_list_cmp_total}
use Rattle.std.proofs.lemmas.Bool.{true≢false, false_from_ne_true}
use Rattle.std.proofs.lemmas.List.{length-take-le}
use Rattle.profile_model.specs.Stacks.{name_cmp, stack_cmp}
use Rattle.profile_model.specs.StackOrder.{stack_eq, stacks_equiv, stacks_ties}
use Rattle.flamebearer.specs.Trees.{begins_with}
use Rattle.flamebearer.specs.Parts.{PartAt}

abbrev is_less : Ordering → Bool
is_less o = match_ordering o true false false

name_same : (x y : List ℕ) → name_cmp x y ≡ Equal → x ≡ y
name_same x y tied = (bytes_decides x y).0 (texts_ties x y ∙ ap is_eq tied)

pub stack_same : (xs ys : List (List ℕ)) → stack_eq xs ys ≡ true → xs ≡ ys
stack_same xs ys same = (pointwise_decides bytes_decides xs ys).0 same

pub same_stack : (xs ys : List (List ℕ)) → xs ≡ ys → stack_eq xs ys ≡ true
same_stack xs ys same = (pointwise_decides bytes_decides xs ys).1 same

-- stacks of other lengths are others
pub other_length : (xs ys : List (List ℕ)) → length xs ≢ length ys → stack_eq xs ys ≡ false
other_length xs ys other = false_from_ne_true (stack_eq xs ys) (λ same. other (ap length (stack_same xs ys same)))

part_next : (x y : List ℕ) (xs ys : List (List ℕ)) (c : ℕ) → PartAt (x ∷ xs) (y ∷ ys) (suc c) → PartAt xs ys c
part_next x y xs ys c part = record {
  in_first = let p = part.in_first in omega arith;
  in_second = let p = part.in_second in omega arith;
  shared = ap (λ (l : List (List ℕ)). drop 1 l) part.shared;
  apart = λ a b. part.apart (omega arith) (omega arith);
}

pub one_more : (n : ℕ) → n + 1 ≡ suc n
one_more n = omega arith

-- a stack below another is below all that the other begins with beyond the place where they part
cut-suc : (c n : ℕ) (xs ys : List (List ℕ)) → PartAt xs ys c → stack_cmp xs ys ≡ Less → c ≤ n → n < length ys → stack_cmp xs (take (suc n) ys) ≡ Less
cut-suc c n xs [] part below far within = absurd (omega arith)
cut-suc zero n [] (y ∷ ys) part below far within = refl
cut-suc zero n (x ∷ xs) (y ∷ ys) part below far within = by (name_cmp x y) refl below
  where
    by : (o : Ordering) → name_cmp x y ≡ o → ordering_then o (stack_cmp xs ys) ≡ Less → ordering_then o (stack_cmp xs (take n ys)) ≡ Less
    by Less is less = refl
    by Equal is less = absurd (part.apart (omega arith) (omega arith) (name_same x y is))
    by Greater is less = less
cut-suc (suc c) n [] (y ∷ ys) part below far within = refl
cut-suc (suc c) zero (x ∷ xs) (y ∷ ys) part below far within = absurd (omega arith)
cut-suc (suc c) (suc n) (x ∷ xs) (y ∷ ys) part below far within = by (name_cmp x y) refl below (cut-suc c n xs ys (part_next x y xs ys c part))
  where
    by : (o : Ordering) → name_cmp x y ≡ o → ordering_then o (stack_cmp xs ys) ≡ Less
        → (stack_cmp xs ys ≡ Less → c ≤ n → n < length ys → stack_cmp xs (take (suc n) ys) ≡ Less) → ordering_then o (stack_cmp xs (take (suc n) ys)) ≡ Less
    by Less is less later = refl
    by Equal is less later = later less (omega arith) (omega arith)
    by Greater is less later = less

pub cut : (c n : ℕ) (xs ys : List (List ℕ)) → PartAt xs ys c → stack_cmp xs ys ≡ Less → c ≤ n → n < length ys → stack_cmp xs (take (n + 1) ys) ≡ Less
cut c n xs ys part below far within = ap (λ m. stack_cmp xs (take m ys)) (one_more n) ∙ cut-suc c n xs ys part below far within

-- the greater stack is longer than what they share
pub cut_short : (c : ℕ) (xs ys : List (List ℕ)) → PartAt xs ys c → stack_cmp xs ys ≡ Less → c < length ys
cut_short c [] [] part below = absurd (true≢false (sym (ap is_less below)))
cut_short c (x ∷ xs) [] part below = absurd (true≢false (sym (ap is_less below)))
cut_short zero xs (y ∷ ys) part below = omega arith
cut_short (suc c) [] (y ∷ ys) part below = absurd (let p = part.in_first in omega arith)
cut_short (suc c) (x ∷ xs) (y ∷ ys) part below = let x_is_y = ap (λ (l : List (List ℕ)). get_or l 0 []) part.shared in
    let tied : name_cmp x y ≡ Equal = sym (ap (name_cmp x) x_is_y) ∙ tied_itself nat_list_cmp_total x in
    let later = cut_short c xs ys (part_next x y xs ys c part) (sym (ap (λ o. ordering_then o (stack_cmp xs ys)) tied) ∙ below) in omega arith

-- what a stack begins with is below all that it is below
pub take_below : (n : ℕ) (xs ys : List (List ℕ)) → stack_cmp xs ys ≡ Less → stack_cmp (take n xs) ys ≡ Less
take_below n [] [] below = absurd (true≢false (sym (ap is_less below)))
take_below n (x ∷ xs) [] below = absurd (true≢false (sym (ap is_less below)))
take_below zero xs (y ∷ ys) below = refl
take_below (suc n) [] (y ∷ ys) below = refl
take_below (suc n) (x ∷ xs) (y ∷ ys) below = by (name_cmp x y) below (take_below n xs ys)
  where
    by : (o : Ordering) → ordering_then o (stack_cmp xs ys) ≡ Less → (stack_cmp xs ys ≡ Less → stack_cmp (take n xs) ys ≡ Less)
        → ordering_then o (stack_cmp (take n xs) ys) ≡ Less
    by Less less later = refl
    by Equal less later = later less
    by Greater less later = less

-- what is above the path is above each of these stacks
abbrev pub AreBelow : List (List ℕ) → List (List (List ℕ)) → Type 0
AreBelow path found = AllByRecursion (λ q. (m : List (List ℕ)) → stack_cmp path m ≡ Less → stack_cmp q m ≡ Less) found

-- and so isn't one of them
pub above_is_new : (path p : List (List ℕ)) (found : List (List (List ℕ))) → AreBelow path found → stack_cmp path p ≡ Less → list_any (stack_eq p) found ≡ false
above_is_new path p [] below above = refl
above_is_new path p (q ∷ found) below above =
    let other : stack_eq p q ≡ false = stacks_equiv.symm p q ∙ stacks_ties q p ∙ ap is_eq (below.0 p above) in
    ap (λ b. b || list_any (stack_eq p) found) other ∙ above_is_new path p found below.1 above

pub begins_with_take : (n : ℕ) (stack : List (List ℕ)) → n ≤ length stack → begins_with (take n stack) stack ≡ true
begins_with_take n stack within = same_stack _ _ (ap (λ m. take m stack) (length-take-le n stack within))

pub begun : (p stack : List (List ℕ)) → begins_with p stack ≡ true → take (length p) stack ≡ p
begun p stack is = stack_same _ _ is

pub length_begun : (p stack : List (List ℕ)) → begins_with p stack ≡ true → length p ≤ length stack
length_begun p stack is = short (length p) stack (ap length (begun p stack is))
  where
    short : (n : ℕ) (xs : List (List ℕ)) → length (take n xs) ≡ n → n ≤ length xs
    short zero xs is = omega arith
    short (suc n) [] is = absurd (omega arith)
    short (suc n) (x ∷ xs) is = let later = short n xs (omega arith) in omega arith

-- a shorter front of a stack is below a longer one
pub shorter_below : (n m : ℕ) (stack : List (List ℕ)) → n < m → m ≤ length stack → stack_cmp (take n stack) (take m stack) ≡ Less
shorter_below n m [] less within = absurd (omega arith)
shorter_below zero zero (x ∷ xs) less within = absurd (omega arith)
shorter_below zero (suc m) (x ∷ xs) less within = refl
shorter_below (suc n) zero (x ∷ xs) less within = absurd (omega arith)
shorter_below (suc n) (suc m) (x ∷ xs) less within =
    ap (λ o. ordering_then o (stack_cmp (take n xs) (take m xs))) (tied_itself nat_list_cmp_total x) ∙ shorter_below n m xs (omega arith) (omega arith)
