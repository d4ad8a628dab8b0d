-- Which of ordered stacks stand just below a stack.
use Rattle.std.proofs.Common.{◌≡◌, ℕ, zero, suc, ◌+◌, ◌-◌, ◌<◌, ◌≤◌, List, [], ◌∷◌, ◌++◌, length, map, take, drop, get_or, Bool, true, false, arith, refl, sym, ap, ◌∙◌, subst, ⊎_elim}
use Rattle.std.specs.Prelude.{◌&&◌, ◌==◌}
use Rattle.std.specs.Cmp.{tied_itself}
use Rattle.std.specs.Ordering.{is_eq, match_ordering, ordering_then, ordering_reverse}
use Rattle.std.specs.declared.cmp.Ordering.{Ordering}
use Rattle.std.specs.declared.cmp.Ordering.TheVariants.{Less, Equal, Greater}
use Rattle.std.specs.List.Sorted.{IsStrictlySortedBy}
use Rattle.std.specs.Cmp.Lexicographic.{bytes_decides, texts_ties, nat_list_cmp_total}
use Rattle.std.proofs.lemmas.Bool.{true≢false, false_from_ne_true, and_left, and_right, cases_lt, ne_eqb}
use Rattle.std.proofs.lemmas.List.{get_or-map, get_or_at, length-append, length-map, length-take, length-take-le, take-append-le, take-take, take_all}
use Rattle.std.proofs.lemmas.List.Elements.{All-from_recursion}
use Rattle.std.proofs.lemmas.Map.Keys.{sorted_head, sorted_tail}
use Rattle.profile_model.specs.Stacks.{name_cmp, stack_cmp}
use Rattle.profile_model.specs.StackOrder.{stacks_total}
use Rattle.flamebearer.specs.declared.branches.Frame.{Frame}
use Rattle.flamebearer.specs.Branches.{AreOrdered, stack_with, stacks_after, stacks_of}
use Rattle.flamebearer.specs.Ends.{AreEnds, IsEnd}
use Rattle.flamebearer.specs.Spots.{AreFramed, AreStacks}
use Rattle.flamebearer.specs.Trees.{begins_with}
use Rattle.flamebearer.proofs.PrefixLemmas.{begun, same_stack, take_below}

abbrev Stack : Type 0
Stack = List (List ℕ)

abbrev is_less : Ordering → Bool
is_less o = match_ordering o true false false

-- ---- each stack, from the one before it

pub record IsStep (before stack : List (List ℕ)) : Type 0 where
  pub name : List ℕ
  pub is : stack ≡ take (length stack - 1) before ++ name ∷ []

pub record AreSteps (stacks : List (List (List ℕ))) : Type 0 where
  pub first : 0 < length stacks → IsStep [] (get_or stacks 0 [])
  pub next : (n : ℕ) → n + 1 < length stacks → IsStep (get_or stacks n []) (get_or stacks (n + 1) [])
  pub ascending : (n m : ℕ) → n < m → m < length stacks → stack_cmp (get_or stacks n []) (get_or stacks m []) ≡ Less

pub length-stacks : (path : List (List ℕ)) (frames : List Frame) → length (stacks_after path frames) ≡ length frames
length-stacks path [] = refl
length-stacks path (f ∷ fs) = ap suc (length-stacks (stack_with path f) fs)

-- the stack before the n-th
abbrev pub before_at : List (List ℕ) → List (List (List ℕ)) → ℕ → List (List ℕ)
before_at path stacks zero = path
before_at path stacks (suc n) = get_or stacks n []

pub stack-at : (path : List (List ℕ)) (frames : List Frame) (n : ℕ) (d : Frame) → n < length frames
    → get_or (stacks_after path frames) n [] ≡ stack_with (before_at path (stacks_after path frames) n) (get_or frames n d)
stack-at path [] n d within = absurd (omega arith)
stack-at path (f ∷ fs) zero d within = refl
stack-at path (f ∷ fs) (suc n) d within = stack-at (stack_with path f) fs n d (omega arith) ∙ ap (λ b. stack_with b (get_or fs n d)) (shifted n)
  where
    shifted : (n : ℕ) → before_at (stack_with path f) (stacks_after (stack_with path f) fs) n ≡ get_or (stack_with path f ∷ stacks_after (stack_with path f) fs) n []
    shifted zero = refl
    shifted (suc n) = refl

sorted-at : (stacks : List Stack) → IsStrictlySortedBy stack_cmp stacks → (n m : ℕ) → n < m → m < length stacks
    → stack_cmp (get_or stacks n []) (get_or stacks m []) ≡ Less
sorted-at [] sorted n m less within = absurd (omega arith)
sorted-at (s ∷ ss) sorted n zero less within = absurd (omega arith)
sorted-at (s ∷ ss) sorted zero (suc m) less within =
    All-from_recursion (λ y. stack_cmp s y ≡ Less) ss (sorted_head stack_cmp s ss sorted) m [] (omega arith)
sorted-at (s ∷ ss) sorted (suc n) (suc m) less within = sorted-at ss (sorted_tail stack_cmp s ss sorted) n m (omega arith) (omega arith)

depth-at : (frames : List Frame) → AreOrdered frames → (n : ℕ) (d : Frame) → n < length frames → (get_or frames n d).depth ≡ length (get_or (stacks_of frames) n [])
depth-at frames ordered n d within =
    let many = length-stacks [] frames in
    sym (get_or-map (λ (f : Frame). f.depth) frames n d 0 within) ∙ ap (λ ds. get_or ds n 0) ordered.deep
    ∙ get_or-map (length {A = List ℕ}) (stacks_of frames) n [] 0 (omega arith)

step-at : (frames : List Frame) → AreOrdered frames → (n : ℕ) (d : Frame) → n < length frames → IsStep (before_at [] (stacks_of frames) n) (get_or (stacks_of frames) n [])
step-at frames ordered n d within = record {
  name = (get_or frames n d).name;
  is = stack-at [] frames n d within
      ∙ ap (λ k. take (k - 1) (before_at [] (stacks_of frames) n) ++ (get_or frames n d).name ∷ []) (depth-at frames ordered n d within);
}

-- a frame's name is the last of its stack
pub name-at : (frames : List Frame) (n : ℕ) (d : Frame) → n < length frames
    → get_or (get_or (stacks_of frames) n []) (length (get_or (stacks_of frames) n []) - 1) [] ≡ (get_or frames n d).name
name-at frames n d within =
    let is = stack-at [] frames n d within in
    ap (λ s. get_or s (length s - 1) []) is ∙ last (take ((get_or frames n d).depth - 1) (before_at [] (stacks_of frames) n)) (get_or frames n d).name
  where
    last : (xs : List (List ℕ)) (x : List ℕ) → get_or (xs ++ x ∷ []) (length (xs ++ x ∷ []) - 1) [] ≡ x
    last xs x = let long = length-append xs (x ∷ []) in get_or_at xs x [] [] (length (xs ++ x ∷ []) - 1) (omega arith)

one_more : (n : ℕ) → n + 1 ≡ suc n
one_more n = omega arith

framed-steps : (frames : List Frame) → AreOrdered frames → AreSteps (stacks_of frames)
framed-steps frames ordered =
    let many = length-stacks [] frames in
    record {
      first = λ some. step-at frames ordered 0 none (omega arith);
      next = λ n near. subst (λ m. IsStep (before_at [] (stacks_of frames) m) (get_or (stacks_of frames) (n + 1) [])) (one_more n) (step-at frames ordered (n + 1) none (omega arith));
      ascending = sorted-at (stacks_of frames) ordered.ascending;
    }
  where
    none : Frame
    none = record { name = []; depth = 0 }

pub steps : (stacks : List (List (List ℕ))) → AreFramed stacks → AreSteps stacks
steps stacks framed = subst AreSteps framed.are (framed-steps framed.frames framed.ordered)

step-some : (before stack : Stack) → IsStep before stack → 0 < length stack
step-some before stack step =
    let long = ap (length {A = List ℕ}) step.is ∙ length-append (take (length stack - 1) before) (step.name ∷ []) in omega arith

step-near : (before stack : Stack) → IsStep before stack → length stack ≤ length before + 1
step-near before stack step =
    let long = ap (length {A = List ℕ}) step.is ∙ length-append (take (length stack - 1) before) (step.name ∷ []) in
    let front = length-take (length stack - 1) before in omega arith

-- a front that a stack shares with the one before it
step-front : (before stack : Stack) (n : ℕ) → IsStep before stack → n < length stack → take n stack ≡ take n before
step-front before stack n step short =
    let near = step-near before stack step in
    let front = length-take-le (length stack - 1) before (omega arith) in
    ap (take n) step.is ∙ take-append-le n (take (length stack - 1) before) (step.name ∷ []) (omega arith) ∙ take-take n (length stack - 1) before (omega arith)

-- ---- what begins with a stack

-- all up to its end
inside : (stacks : List Stack) → AreSteps stacks → (p end : ℕ) → p < length stacks → IsEnd (map length stacks) p end → (count : ℕ) → p + count < end
    → take (length (get_or stacks p [])) (get_or stacks (p + count) []) ≡ get_or stacks p []
inside stacks steps p end within is zero near =
    ap (λ n. take (length (get_or stacks p [])) (get_or stacks n [])) (none p) ∙ take_all (length (get_or stacks p [])) (get_or stacks p []) (omega arith)
  where
    none : (n : ℕ) → n + 0 ≡ n
    none n = omega arith
inside stacks steps p end within is (suc count) near =
    let all = length-map stacks (length {A = List ℕ}) in
    let inner = is.within in
    let at = p + suc count in
    let deeper = is.deeper at (omega arith) near in
    let here = get_or-map (length {A = List ℕ}) stacks p [] 0 within in
    let there = get_or-map (length {A = List ℕ}) stacks at [] 0 (omega arith) in
    let next : p + count + 1 ≡ at = omega arith in
    let step : IsStep (get_or stacks (p + count) []) (get_or stacks at []) =
    subst (λ n. IsStep (get_or stacks (p + count) []) (get_or stacks n [])) next (steps.next (p + count) (omega arith)) in
    step-front (get_or stacks (p + count) []) (get_or stacks at []) (length (get_or stacks p [])) step (omega arith)
    ∙ inside stacks steps p end within is count (omega arith)

-- of three stacks in order, the one between begins with what the others do
between : (a b c : Stack) → stack_cmp a b ≡ Less → stack_cmp b c ≡ Less → take (length a) c ≡ a → take (length a) b ≡ a
between [] b c ab bc begins = refl
between (x ∷ a) [] c ab bc begins = absurd (true≢false (sym (ap is_less ab)))
between (x ∷ a) (y ∷ b) [] ab bc begins = absurd (true≢false (sym (ap is_less bc)))
between (x ∷ a) (y ∷ b) (z ∷ c) ab bc begins =
    let head : z ≡ x = ap (λ (l : Stack). get_or l 0 []) begins in
    let back : ordering_then (name_cmp y x) (stack_cmp b c) ≡ Less = sym (ap (λ n. ordering_then (name_cmp y n) (stack_cmp b c)) head) ∙ bc in
    by (name_cmp x y) (name_cmp y x) refl refl ab back (nat_list_cmp_total.antisymm x y) (λ one two. between a b c one two (ap (λ (l : Stack). drop 1 l) begins))
  where
    by : (o r : Ordering) → name_cmp x y ≡ o → name_cmp y x ≡ r → ordering_then o (stack_cmp a b) ≡ Less → ordering_then r (stack_cmp b c) ≡ Less
        → name_cmp x y ≡ ordering_reverse (name_cmp y x) → (stack_cmp a b ≡ Less → stack_cmp b c ≡ Less → take (length a) b ≡ a) → y ∷ take (length a) b ≡ x ∷ a
    by Less Less is is' ab bc flips later = absurd (true≢false (ap is_less (sym is ∙ flips ∙ ap ordering_reverse is')))
    by Less Equal is is' ab bc flips later = absurd (true≢false (ap is_less (sym is ∙ flips ∙ ap ordering_reverse is')))
    by Less Greater is is' ab bc flips later = absurd (true≢false (sym (ap is_less bc)))
    by Greater r is is' ab bc flips later = absurd (true≢false (sym (ap is_less ab)))
    by Equal r is is' ab bc flips later =
        let same : x ≡ y = (bytes_decides x y).0 (texts_ties x y ∙ ap is_eq is) in
        let tied : name_cmp y x ≡ Equal = ap (λ n. name_cmp n x) (sym same) ∙ tied_itself nat_list_cmp_total x in
        let rest : stack_cmp b c ≡ Less = ap (λ o. ordering_then o (stack_cmp b c)) (sym tied ∙ is') ∙ bc in
        λ i. sym same i ∷ later ab rest i

-- none before it
pub not_before : (stacks : List (List (List ℕ))) → AreSteps stacks → (n p : ℕ) → n < p → p < length stacks → begins_with (get_or stacks p []) (get_or stacks n []) ≡ false
not_before stacks steps n p less within = false_from_ne_true _ (λ begins.
    let a = get_or stacks p [] in
    let c = get_or stacks n [] in
    let below : stack_cmp (take (length a) c) a ≡ Less = take_below (length a) c a (steps.ascending n p less within) in
    let itself : stack_cmp a a ≡ Less = sym (ap (λ s. stack_cmp s a) (begun a c begins)) ∙ below in
    true≢false (sym (ap is_less (sym (tied_itself stacks_total a) ∙ itself))))

-- and none from its end on
pub not_after : (stacks : List (List (List ℕ))) → AreSteps stacks → (p end n : ℕ) → IsEnd (map length stacks) p end → p < length stacks → end ≤ n → n < length stacks
    → begins_with (get_or stacks p []) (get_or stacks n []) ≡ false
not_after stacks steps p end n is here far within = false_from_ne_true _ (λ begins.
    let all = length-map stacks (length {A = List ℕ}) in
    let later = is.later in
    let a = get_or stacks p [] in
    let b = get_or stacks end [] in
    let c = get_or stacks n [] in
    let shallow = is.stops (omega arith) in
    let first = get_or-map (length {A = List ℕ}) stacks p [] 0 here in
    let second = get_or-map (length {A = List ℕ}) stacks end [] 0 (omega arith) in
    let ab = steps.ascending p end later (omega arith) in
    let front : take (length a) b ≡ a = ⊎_elim
    (λ (before : end < n). between a b c ab (steps.ascending end n before within) (begun a c begins))
    (λ (last : n ≤ end). ap (λ m. take (length a) (get_or stacks m [])) (exact end n far last) ∙ begun a c begins)
    (cases_lt end n) in
    let same : b ≡ a = sym (take_all (length a) b (omega arith)) ∙ front in
    let itself : stack_cmp a a ≡ Less = sym (ap (stack_cmp a) same) ∙ ab in
    true≢false (sym (ap is_less (sym (tied_itself stacks_total a) ∙ itself))))
  where
    exact : (n m : ℕ) → n ≤ m → m ≤ n → n ≡ m
    exact n m a b = omega arith

-- ---- what can stand below a stack

-- whether the second stands just below the first
abbrev pub is_below : List (List ℕ) → List (List ℕ) → Bool
is_below front stack = (length stack == length front + 1) && begins_with front stack

-- what stands below a stack stands at the places from the first to the end
pub record IsUnder (stacks : List (List (List ℕ))) (ends : List ℕ) (front : List (List ℕ)) (first end : ℕ) : Type 0 where
  pub within : end ≤ length stacks
  pub starts : first < end → length (get_or stacks first []) ≡ length front + 1
  pub inside : (n : ℕ) → first ≤ n → n < end → begins_with front (get_or stacks n []) ≡ true
  pub deeper : (n : ℕ) → first ≤ n → n < end → length front < length (get_or stacks n [])
  pub before : (n : ℕ) → n < first → n < length stacks → is_below front (get_or stacks n []) ≡ false
  pub after : (n : ℕ) → end ≤ n → n < length stacks → is_below front (get_or stacks n []) ≡ false
  pub right : AreEnds 0 (map length stacks) ends

pub under-root : (stacks : List (List (List ℕ))) (ends : List ℕ) → AreStacks stacks ends → IsUnder stacks ends [] 0 (length ends)
under-root stacks ends are =
    let steps = steps stacks are.framed in
    let many = are.right.many in
    let all = length-map stacks (length {A = List ℕ}) in
    record {
      within = omega arith;
      starts = λ some. let near = step-near [] (get_or stacks 0 []) (steps.first (omega arith)) in
          let more = step-some [] (get_or stacks 0 []) (steps.first (omega arith)) in omega arith;
      inside = λ n far near. refl;
      deeper = λ n far near. some stacks steps n (omega arith);
      before = λ n near within. absurd (omega arith);
      after = λ n far within. absurd (omega arith);
      right = are.right;
    }
  where
    some : (stacks : List Stack) → AreSteps stacks → (n : ℕ) → n < length stacks → 0 < length (get_or stacks n [])
    some stacks steps zero within = step-some [] (get_or stacks 0 []) (steps.first within)
    some stacks steps (suc n) within =
        let next : n + 1 ≡ suc n = omega arith in
        subst (λ m. 0 < length (get_or stacks m [])) next (step-some (get_or stacks n []) (get_or stacks (n + 1) []) (steps.next n (omega arith)))

pub under-node : (stacks : List (List (List ℕ))) (ends : List ℕ) → AreStacks stacks ends → (p : ℕ) → p < length stacks
    → IsUnder stacks ends (get_or stacks p []) (p + 1) (get_or ends p 0)
under-node stacks ends are p here =
    let steps = steps stacks are.framed in
    let many = are.right.many in
    let all = length-map stacks (length {A = List ℕ}) in
    let is = are.right.each p (omega arith) (omega arith) in
    let inner = is.within in
    let first = get_or-map (length {A = List ℕ}) stacks p [] 0 here in
    record {
      within = omega arith;
      starts = λ some.
          let deeper = is.deeper (p + 1) (omega arith) some in
          let second = get_or-map (length {A = List ℕ}) stacks (p + 1) [] 0 (omega arith) in
          let near = step-near (get_or stacks p []) (get_or stacks (p + 1) []) (steps.next p (omega arith)) in omega arith;
      inside = λ n far near.
          let at : p + (n - p) ≡ n = omega arith in
          same_stack _ _ (ap (λ m. take (length (get_or stacks p [])) (get_or stacks m [])) (sym at) ∙ inside stacks steps p (get_or ends p 0) here is (n - p) (omega arith));
      deeper = λ n far near.
          let deeper = is.deeper n (omega arith) near in
          let second = get_or-map (length {A = List ℕ}) stacks n [] 0 (omega arith) in omega arith;
      before = λ n near within. ⊎_elim
          (λ (less : n < p). and_right (length (get_or stacks n []) == length (get_or stacks p []) + 1) _ (not_before stacks steps n p less here))
          (λ (least : p ≤ n). and_left _ (begins_with (get_or stacks p []) (get_or stacks n [])) (ne_eqb _ _ (λ same. longer n least near same)))
          (cases_lt n p);
      after = λ n far within. and_right (length (get_or stacks n []) == length (get_or stacks p []) + 1) _ (not_after stacks steps p (get_or ends p 0) n is here far within);
      right = are.right;
    }
  where
    longer : (n : ℕ) → p ≤ n → n < p + 1 → length (get_or stacks n []) ≡ length (get_or stacks p []) + 1 → ⊥
    longer n least near same =
        let at : n ≡ p = omega arith in
        let long = ap (λ m. length (get_or stacks m [])) at in absurd (omega arith)
