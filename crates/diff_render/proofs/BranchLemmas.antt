-- The stacks of frames, one by one.
use Rattle.std.proofs.Common.{◌≡◌, ℕ, zero, suc, ◌+◌, ◌-◌, ◌<◌, ◌≤◌, ◌⊎◌, inr, List, [], ◌∷◌, ◌++◌, length, map, take, drop, get_or, arith, refl, sym, ap, ◌∙◌, subst, ⊎_elim}
use Rattle.std.specs.List.{AllByRecursion}
use Rattle.std.specs.List.Sorted.{IsStrictlySortedBy}
use Rattle.std.specs.declared.cmp.Ordering.TheVariants.{Less}
use Rattle.std.proofs.lemmas.List.{get_or-map, map-append}
use Rattle.profile_model.specs.Stacks.{stack_cmp}
use Rattle.flamebearer.specs.Branches.{AreOrdered, stack_with, stacks_after, stacks_of}
use Rattle.flamebearer.specs.declared.branches.Frame.{Frame}
use Rattle.flamebearer.proofs.PrefixLemmas.{take_below}
use Rattle.diff_render.specs.Joining.{AreUnder, last_of, stack_before}
use Rattle.diff_render.proofs.OrderLemmas.{parent_in_path}
use Rattle.diff_render.proofs.HalfLemmas.{length-push, under_are_below}

abbrev Stack : Type 0
Stack = List (List ℕ)

pub length-stacks : (path : List (List ℕ)) (frames : List Frame) → length (stacks_after path frames) ≡ length frames
length-stacks path [] = refl
length-stacks path (f ∷ frames) = let later = length-stacks (stack_with path f) frames in omega (arith, later)

-- the stack before this place, where a path is before the first
abbrev before_in : Stack → List Stack → ℕ → Stack
before_in path stacks zero = path
before_in path stacks (suc n) = get_or stacks n []

stack_in : (path : Stack) (frames : List Frame) (at : ℕ) (d : Frame) → at < length frames
    → get_or (stacks_after path frames) at [] ≡ stack_with (before_in path (stacks_after path frames) at) (get_or frames at d)
stack_in path [] at d within = absurd (omega arith)
stack_in path (f ∷ frames) zero d within = refl
stack_in path (f ∷ frames) (suc zero) d within = stack_in (stack_with path f) frames zero d (omega arith)
stack_in path (f ∷ frames) (suc (suc at)) d within = stack_in (stack_with path f) frames (suc at) d (omega arith)

before_none : (stacks : List Stack) (at : ℕ) → before_in [] stacks at ≡ stack_before stacks at
before_none stacks zero = refl
before_none stacks (suc at) = refl

pub stack_at : (frames : List Frame) (at : ℕ) (d : Frame) → at < length frames
    → get_or (stacks_of frames) at [] ≡ stack_with (stack_before (stacks_of frames) at) (get_or frames at d)
stack_at frames at d within = stack_in [] frames at d within ∙ ap (λ p. stack_with p (get_or frames at d)) (before_none (stacks_of frames) at)

-- the last of stacks that begin with a path
abbrev last_from : Stack → List Stack → Stack
last_from path [] = path
last_from path (s ∷ stacks) = last_from s stacks

last_is : (path : Stack) (s : Stack) (stacks : List Stack) → last_from path (s ∷ stacks) ≡ last_of (s ∷ stacks)
last_is path s [] = refl
last_is path s (t ∷ stacks) = last_is s t stacks

last_none : (stacks : List Stack) → last_from [] stacks ≡ last_of stacks
last_none [] = refl
last_none (s ∷ stacks) = last_is [] s stacks

stacks-push-from : (path : Stack) (frames : List Frame) (f : Frame)
    → stacks_after path (frames ++ f ∷ []) ≡ stacks_after path frames ++ stack_with (last_from path (stacks_after path frames)) f ∷ []
stacks-push-from path [] f = refl
stacks-push-from path (g ∷ frames) f = ap (λ rest. stack_with path g ∷ rest) (stacks-push-from (stack_with path g) frames f)

pub stacks-push : (frames : List Frame) (f : Frame) → stacks_of (frames ++ f ∷ []) ≡ stacks_of frames ++ stack_with (last_of (stacks_of frames)) f ∷ []
stacks-push frames f = stacks-push-from [] frames f ∙ ap (λ p. stacks_of frames ++ stack_with p f ∷ []) (last_none (stacks_of frames))

pub last-push : (stacks : List (List (List ℕ))) (s : List (List ℕ)) → last_of (stacks ++ s ∷ []) ≡ s
last-push [] s = refl
last-push (t ∷ []) s = refl
last-push (t ∷ u ∷ stacks) s = last-push (u ∷ stacks) s

ascending-push : (stacks : List Stack) (s : Stack) → IsStrictlySortedBy stack_cmp stacks → AllByRecursion (λ q. stack_cmp q s ≡ Less) stacks
    → IsStrictlySortedBy stack_cmp (stacks ++ s ∷ [])
unfolding IsStrictlySortedBy
ascending-push [] s sorted below = (tt, tt)
ascending-push (t ∷ stacks) s sorted below = (all-push t stacks s sorted.0 below.0, ascending-push stacks s sorted.1 below.1)
  where
    all-push : (t : Stack) (stacks : List Stack) (s : Stack) → AllByRecursion (λ q. stack_cmp t q ≡ Less) stacks → stack_cmp t s ≡ Less
        → AllByRecursion (λ q. stack_cmp t q ≡ Less) (stacks ++ s ∷ [])
    all-push t [] s all less = (less, tt)
    all-push t (q ∷ stacks) s all less = (all.0, all-push t stacks s all.1 less)

-- one frame more, whose stack is above all
pub ordered-push : (frames : List Frame) (f : Frame) (s : List (List ℕ)) → AreOrdered frames → AreUnder (last_of (stacks_of frames)) (stacks_of frames)
    → stack_with (last_of (stacks_of frames)) f ≡ s → stack_cmp (last_of (stacks_of frames)) s ≡ Less → f.depth ≡ length s → AreOrdered (frames ++ f ∷ [])
ordered-push frames f s ordered under is above deep =
    let whole : stacks_of (frames ++ f ∷ []) ≡ stacks_of frames ++ s ∷ [] = stacks-push frames f ∙ ap (λ q. stacks_of frames ++ q ∷ []) is in
    record {
      deep = map-append (λ (g : Frame). g.depth) frames (f ∷ []) ∙ (λ i. ordered.deep i ++ deep i ∷ []) ∙ sym (map-append length (stacks_of frames) (s ∷ [])) ∙ ap (map length) (sym whole);
      ascending = subst (IsStrictlySortedBy stack_cmp) (sym whole)
          (ascending-push (stacks_of frames) s ordered.ascending (under_are_below (last_of (stacks_of frames)) (stacks_of frames) s under above));
    }

-- ---- the next frame of a tree, behind a path that is no lower than the one before it

pub record IsHere (frame : Frame) (path stack : List (List ℕ)) : Type 0 where
  pub stack_is : stack_with path frame ≡ stack
  pub some : 0 < frame.depth
  pub within : frame.depth - 1 ≤ length path
  pub deep : frame.depth ≡ length stack

length-take : (n : ℕ) (xs : Stack) → length (take n xs) ≤ length xs
length-take zero xs = omega arith
length-take (suc n) [] = omega arith
length-take (suc n) (x ∷ xs) = let later = length-take n xs in omega (arith, later)

take-own : (n : ℕ) (xs : Stack) → length (take n xs) ≡ n → take (length (take n xs)) xs ≡ take n xs
take-own n xs is = ap (λ m. take m xs) is

pub next_here : (frames : List Frame) (at : ℕ) (d : Frame) (path : List (List ℕ)) → AreOrdered frames → at < length frames
    → (stack_before (stacks_of frames) at ≡ path) ⊎ (stack_cmp (stack_before (stacks_of frames) at) path ≡ Less)
    → stack_cmp path (get_or (stacks_of frames) at []) ≡ Less
    → IsHere (get_or frames at d) path (get_or (stacks_of frames) at [])
next_here frames at d path ordered within last above =
    let f = get_or frames at d in
    let s = get_or (stacks_of frames) at [] in
    let prior = stack_before (stacks_of frames) at in
    let parent = take (f.depth - 1) prior in
    let is : s ≡ parent ++ f.name ∷ [] = stack_at frames at d within in
    let many = length-stacks [] frames in
    let deep : f.depth ≡ length s = sym (get_or-map (λ (g : Frame). g.depth) frames at d 0 within) ∙ ap (λ ds. get_or ds at 0) ordered.deep
    ∙ get_or-map length (stacks_of frames) at [] 0 (omega (arith, many, within)) in
    let long : f.depth ≡ length parent + 1 = deep ∙ ap length is ∙ length-push parent f.name in
    let behind : take (length parent) path ≡ parent = ⊎_elim
    (λ same. ap (take (length parent)) (sym same) ∙ take-own (f.depth - 1) prior (omega (arith, long)))
    (λ less. parent_in_path parent path f.name (inr (take_below (f.depth - 1) prior path less)) (ap (stack_cmp path) (sym is) ∙ above)) last in
    let short : f.depth - 1 ≡ length parent = (omega (arith, long)) in
    let front : take (f.depth - 1) path ≡ parent = ap (λ n. take n path) short ∙ behind in
    let few = length-take (f.depth - 1) path in
    let held = ap length front in
    record {
      stack_is = ap (λ p. p ++ f.name ∷ []) front ∙ sym is;
      some = omega (arith, long);
      within = omega (arith, few, held, short);
      deep = deep;
    }

-- ---- the order of what is left

all-drop : (t : Stack) (stacks : List Stack) (n : ℕ) → AllByRecursion (λ q. stack_cmp t q ≡ Less) stacks → AllByRecursion (λ q. stack_cmp t q ≡ Less) (drop n stacks)
all-drop t stacks zero all = all
all-drop t [] (suc n) all = tt
all-drop t (q ∷ stacks) (suc n) all = all-drop t stacks n all.1

pub later_above : (stacks : List (List (List ℕ))) (at : ℕ) → IsStrictlySortedBy stack_cmp stacks → at < length stacks
    → AllByRecursion (λ q. stack_cmp (get_or stacks at []) q ≡ Less) (drop (at + 1) stacks)
unfolding IsStrictlySortedBy
later_above [] at sorted within = absurd (omega arith)
later_above (s ∷ stacks) zero sorted within = sorted.0
later_above (s ∷ stacks) (suc at) sorted within =
    subst (λ n. AllByRecursion (λ q. stack_cmp (get_or stacks at []) q ≡ Less) (drop n (s ∷ stacks))) (one_more at) (later_above stacks at sorted.1 (omega arith))
  where
    one_more : (n : ℕ) → suc (n + 1) ≡ suc n + 1
    one_more n = omega arith
