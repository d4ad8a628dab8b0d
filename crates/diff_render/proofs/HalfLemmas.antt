-- Where one tree stands while two are joined, one stack further.
use Rattle.std.proofs.Common.{◌≡◌, ℕ, ◌+◌, ◌⊎◌, inl, inr, List, [], ◌∷◌, ◌++◌, length, map, take, drop, Bool, true, false, cond, arith, refl, sym, ap, ◌∙◌, subst, ⊎_elim}
use Rattle.std.specs.Prelude.{if◌then◌else◌}
use Rattle.std.specs.List.{AllByRecursion}
use Rattle.std.specs.declared.cmp.Ordering.TheVariants.{Less}
use Rattle.std.proofs.lemmas.List.{map-append}
use Rattle.profile_model.specs.Stacks.{stack_cmp}
use Rattle.profile_model.specs.StackOrder.{stack_eq, stacks_total}
use Rattle.flamebearer.specs.Branches.{stacks_of}
use Rattle.flamebearer.specs.Sides.{nodes_with, own_below}
use Rattle.flamebearer.specs.Trees.{Node, begins_with}
use Rattle.flamebearer.specs.declared.branches.Frame.{Frame}
use Rattle.flamebearer.specs.declared.branches.Value.{Value}
use Rattle.diff_render.specs.Doubles.{node_at}
use Rattle.diff_render.specs.Joining.{AreUnder, IsHalf, nodes_in, stack_before}
use Rattle.diff_render.proofs.OrderLemmas.{apart, apart_back}
use Rattle.diff_render.proofs.NodeLemmas.{map-others, node_at-new, node_at-none, nodes_with-push, own_below-last}

abbrev Stack : Type 0
Stack = List (List ℕ)

pub length-push : {X : Type 0} (xs : List X) (x : X) → length (xs ++ x ∷ []) ≡ length xs + 1
length-push [] x = refl
length-push (y ∷ xs) x = let later = length-push xs x in omega (arith, later)

-- all stacks under the path are below what is above it
pub under_are_below : (path : List (List ℕ)) (stacks : List (List (List ℕ))) (s : List (List ℕ)) → AreUnder path stacks → stack_cmp path s ≡ Less
    → AllByRecursion (λ q. stack_cmp q s ≡ Less) stacks
under_are_below path [] s under above = tt
under_are_below path (q ∷ stacks) s under above = (under.0 s above, under_are_below path stacks s under.1 above)

-- and stay under it
pub under_more : (path : List (List ℕ)) (stacks : List (List (List ℕ))) (s : List (List ℕ)) → AreUnder path stacks → stack_cmp path s ≡ Less → AreUnder s (stacks ++ s ∷ [])
under_more path [] s under above = ((λ m more. more), tt)
under_more path (q ∷ stacks) s under above = ((λ m more. under.0 m (stacks_total.trans path s m above more)), under_more path stacks s under.1 above)

under_still : (path : Stack) (stacks : List Stack) (s : Stack) → AreUnder path stacks → stack_cmp path s ≡ Less → AreUnder s stacks
under_still path [] s under above = tt
under_still path (q ∷ stacks) s under above = ((λ m more. under.0 m (stacks_total.trans path s m above more)), under_still path stacks s under.1 above)

others_of : (stacks : List Stack) (s : Stack) → AllByRecursion (λ q. stack_cmp q s ≡ Less) stacks → AllByRecursion (λ q. stack_eq q s ≡ false) stacks
others_of [] s below = tt
others_of (q ∷ stacks) s below = (apart q s below.0, others_of stacks s below.1)

pub others_in : (nodes : List Node) (s : List (List ℕ)) → AllByRecursion (λ q. stack_cmp q s ≡ Less) (map (λ (n : Node). n.stack) nodes)
    → AllByRecursion (λ n. stack_eq s n.stack ≡ false) nodes
others_in [] s below = tt
others_in (n ∷ nodes) s below = (apart_back n.stack s below.0, others_in nodes s below.1)

map-push : {X Y : Type 0} (f : X → Y) (xs : List X) (x : X) → map f (xs ++ x ∷ []) ≡ map f xs ++ f x ∷ []
map-push f xs x = map-append f xs (x ∷ [])

-- what both steps have in common: at one stack more, whose node this is, some of the side's nodes have their values
half_step : (frames : List Frame) (values : List Value) (done next : ℕ) (stacks : List Stack) (path s : Stack) (told : List Value) (v : Value)
    → IsHalf frames values done stacks path told
    → map (node_at (take next (nodes_in frames values))) stacks ≡ map (node_at (take done (nodes_in frames values))) stacks
    → node_at (take next (nodes_in frames values)) s ≡ record { stack = s; own = v.own; total = v.total }
    → ((p : Stack) → own_below p (take next (nodes_in frames values)) ≡ own_below p (take done (nodes_in frames values)) + (if begins_with p s then v.own else 0))
    → (stack_before (stacks_of frames) next ≡ s) ⊎ (stack_cmp (stack_before (stacks_of frames) next) s ≡ Less)
    → AreUnder s (map (λ n. n.stack) (take next (nodes_in frames values)))
    → AllByRecursion (λ n. stack_cmp s n.stack ≡ Less) (drop next (nodes_in frames values))
    → IsHalf frames values next (stacks ++ s ∷ []) s (told ++ v ∷ [])
half_step frames values done next stacks path s told v half same here below last old above =
    let whole = nodes_with-push stacks told s v half.many in
    let new : Node = record { stack = s; own = v.own; total = v.total } in
    record {
      many = (let many = half.many in let a = length-push told v in let b = length-push stacks s in omega (arith, many, a, b));
      here = whole ∙ (λ i. half.here i ++ sym here i ∷ []) ∙ (λ i. sym same i ++ node_at (take next (nodes_in frames values)) s ∷ [])
          ∙ sym (map-push (node_at (take next (nodes_in frames values))) stacks s);
      below = λ p. ap (own_below p) whole ∙ own_below-last p (nodes_with stacks told) new
          ∙ ap (λ n. n + (if begins_with p s then v.own else 0)) (half.below p) ∙ sym (below p);
      last = last;
      old = old;
      above = above;
    }

-- the next of the side's own
pub half_taken : (frames : List Frame) (values : List Value) (done : ℕ) (stacks : List (List (List ℕ))) (path : List (List ℕ)) (told : List Value)
    (s : List (List ℕ)) (v : Value)
    → IsHalf frames values done stacks path told → AreUnder path stacks → stack_cmp path s ≡ Less
    → take (done + 1) (nodes_in frames values) ≡ take done (nodes_in frames values) ++ record { stack = s; own = v.own; total = v.total } ∷ []
    → stack_before (stacks_of frames) (done + 1) ≡ s
    → AllByRecursion (λ n. stack_cmp s n.stack ≡ Less) (drop (done + 1) (nodes_in frames values))
    → IsHalf frames values (done + 1) (stacks ++ s ∷ []) s (told ++ v ∷ [])
half_taken frames values done stacks path told s v half under beyond more before above =
    let n : Node = record { stack = s; own = v.own; total = v.total } in
    let held = take done (nodes_in frames values) in
    half_step frames values done (done + 1) stacks path s told v half
    (ap (λ ns. map (node_at ns) stacks) more ∙ map-others held n stacks (others_of stacks s (under_are_below path stacks s under beyond)))
    (ap (λ ns. node_at ns s) more ∙ node_at-new held n (others_in held s (under_are_below path (map (λ (m : Node). m.stack) held) s half.old beyond)))
    (λ p. ap (own_below p) more ∙ own_below-last p held n)
    (inl before)
    (subst (AreUnder s) (sym (ap (map (λ (m : Node). m.stack)) more ∙ map-push (λ (m : Node). m.stack) held n)) (under_more path (map (λ (m : Node). m.stack) held) s half.old beyond))
    above

-- a stack that the side hasn't
pub half_passed : (frames : List Frame) (values : List Value) (done : ℕ) (stacks : List (List (List ℕ))) (path : List (List ℕ)) (told : List Value)
    (s : List (List ℕ)) (v : Value)
    → IsHalf frames values done stacks path told → stack_cmp path s ≡ Less → v.own ≡ 0 → v.total ≡ 0
    → AllByRecursion (λ n. stack_cmp s n.stack ≡ Less) (drop done (nodes_in frames values))
    → IsHalf frames values done (stacks ++ s ∷ []) s (told ++ v ∷ [])
half_passed frames values done stacks path told s v half beyond none nothing above =
    let held = take done (nodes_in frames values) in
    half_step frames values done done stacks path s told v half
    refl
    (node_at-none held s (others_in held s (under_are_below path (map (λ (m : Node). m.stack) held) s half.old beyond))
    ∙ (λ i. record { stack = s; own = sym none i; total = sym nothing i }))
    (λ p. no_more (begins_with p s) (own_below p held) v.own none)
    (⊎_elim (λ is. inr (ap (λ q. stack_cmp q s) is ∙ beyond)) (λ less. inr (stacks_total.trans _ path s less beyond)) half.last)
    (under_still path (map (λ (m : Node). m.stack) held) s half.old beyond)
    above
  where
    no_more : (b : Bool) (n own : ℕ) → own ≡ 0 → n ≡ n + cond b own 0
    no_more true n own none = omega (arith, none)
    no_more false n own none = omega arith
