-- The nodes of a side, at stacks that may be another side's.
use Rattle.std.proofs.Common.{◌≡◌, ℕ, zero, suc, ◌+◌, ◌<◌, ◌||◌, List, [], ◌∷◌, ◌++◌, length, map, get_or, Bool, true, false, cond, Some, None, arith, refl, ap, ◌∙◌}
use Rattle.std.specs.Prelude.{find, unwrap_or, if◌then◌else◌}
use Rattle.std.specs.List.{AllByRecursion}
use Rattle.profile_model.specs.StackOrder.{stack_eq}
use Rattle.flamebearer.specs.Sides.{nodes_with, own_below}
use Rattle.flamebearer.specs.Trees.{Node, begins_with}
use Rattle.flamebearer.specs.declared.branches.Value.{Value}
use Rattle.flamebearer.proofs.PrefixLemmas.{same_stack}
use Rattle.flamebearer.proofs.SummedLemmas.{own_below-append, own_below-cons}
use Rattle.diff_render.specs.Doubles.{has, node_at}

abbrev Stack : Type 0
Stack = List (List ℕ)

abbrev node : Stack → Value → Node
node stack value = record { stack = stack; own = value.own; total = value.total }

pub nodes_with-push : (stacks : List (List (List ℕ))) (values : List Value) (stack : List (List ℕ)) (value : Value) → length values ≡ length stacks
    → nodes_with (stacks ++ stack ∷ []) (values ++ value ∷ []) ≡ nodes_with stacks values ++ record { stack = stack; own = value.own; total = value.total } ∷ []
nodes_with-push [] [] stack value many = refl
nodes_with-push [] (v ∷ values) stack value many = absurd (omega (arith, many))
nodes_with-push (s ∷ stacks) [] stack value many = absurd (omega (arith, many))
nodes_with-push (s ∷ stacks) (v ∷ values) stack value many = ap (λ rest. node s v ∷ rest) (nodes_with-push stacks values stack value (omega (arith, many)))

pub nodes_with-at : (stacks : List (List (List ℕ))) (values : List Value) (at : ℕ) (d : Node) (e : Value) → length values ≡ length stacks → at < length stacks
    → get_or (nodes_with stacks values) at d ≡ record { stack = get_or stacks at []; own = (get_or values at e).own; total = (get_or values at e).total }
nodes_with-at [] values at d e many within = absurd (omega arith)
nodes_with-at (s ∷ stacks) [] at d e many within = absurd (omega (arith, many))
nodes_with-at (s ∷ stacks) (v ∷ values) zero d e many within = refl
nodes_with-at (s ∷ stacks) (v ∷ values) (suc at) d e many within = nodes_with-at stacks values at d e (omega (arith, many)) (omega arith)

pub length-nodes_with : (stacks : List (List (List ℕ))) (values : List Value) → length values ≡ length stacks → length (nodes_with stacks values) ≡ length stacks
length-nodes_with [] [] many = refl
length-nodes_with [] (v ∷ values) many = refl
length-nodes_with (s ∷ stacks) [] many = absurd (omega (arith, many))
length-nodes_with (s ∷ stacks) (v ∷ values) many = let later = length-nodes_with stacks values (omega (arith, many)) in omega (arith, later)

pub stacks-nodes_with : (stacks : List (List (List ℕ))) (values : List Value) → length values ≡ length stacks → map (λ (n : Node). n.stack) (nodes_with stacks values) ≡ stacks
stacks-nodes_with [] [] many = refl
stacks-nodes_with [] (v ∷ values) many = refl
stacks-nodes_with (s ∷ stacks) [] many = absurd (omega (arith, many))
stacks-nodes_with (s ∷ stacks) (v ∷ values) many = ap (λ rest. s ∷ rest) (stacks-nodes_with stacks values (omega (arith, many)))

-- ---- a side's node of a stack

abbrev none_at : Stack → Node
none_at q = record { stack = q; own = 0; total = 0 }

pub node_at-other : (nodes : List Node) (n : Node) (q : List (List ℕ)) → stack_eq q n.stack ≡ false → node_at (nodes ++ n ∷ []) q ≡ node_at nodes q
node_at-other [] n q other = ap (λ b. unwrap_or (cond b (Some n) None) (none_at q)) other
node_at-other (m ∷ nodes) n q other = by (stack_eq q m.stack) (node_at-other nodes n q other)
  where
    by : (b : Bool) → node_at (nodes ++ n ∷ []) q ≡ node_at nodes q
        → unwrap_or (cond b (Some m) (find (λ one. stack_eq q one.stack) (nodes ++ n ∷ []))) (none_at q) ≡ unwrap_or (cond b (Some m) (find (λ one. stack_eq q one.stack) nodes)) (none_at q)
    by true later = refl
    by false later = later

pub node_at-none : (nodes : List Node) (q : List (List ℕ)) → AllByRecursion (λ m. stack_eq q m.stack ≡ false) nodes → node_at nodes q ≡ record { stack = q; own = 0; total = 0 }
node_at-none [] q others = refl
node_at-none (m ∷ nodes) q others =
    ap (λ b. unwrap_or (cond b (Some m) (find (λ one. stack_eq q one.stack) nodes)) (none_at q)) others.0 ∙ node_at-none nodes q others.1

pub node_at-new : (nodes : List Node) (n : Node) → AllByRecursion (λ m. stack_eq n.stack m.stack ≡ false) nodes → node_at (nodes ++ n ∷ []) n.stack ≡ n
node_at-new [] n others = ap (λ b. unwrap_or (cond b (Some n) None) (none_at n.stack)) (same_stack n.stack n.stack refl)
node_at-new (m ∷ nodes) n others =
    ap (λ b. unwrap_or (cond b (Some m) (find (λ one. stack_eq n.stack one.stack) (nodes ++ n ∷ []))) (none_at n.stack)) others.0 ∙ node_at-new nodes n others.1

pub map-others : (nodes : List Node) (n : Node) (stacks : List (List (List ℕ))) → AllByRecursion (λ q. stack_eq q n.stack ≡ false) stacks
    → map (node_at (nodes ++ n ∷ [])) stacks ≡ map (node_at nodes) stacks
map-others nodes n [] others = refl
map-others nodes n (q ∷ stacks) others = λ i. node_at-other nodes n q others.0 i ∷ map-others nodes n stacks others.1 i

-- ---- what stands below a stack

pub own_below-last : (p : List (List ℕ)) (nodes : List Node) (n : Node) → own_below p (nodes ++ n ∷ []) ≡ own_below p nodes + (if begins_with p n.stack then n.own else 0)
own_below-last p nodes n =
    let whole = own_below-append p nodes (n ∷ []) in
    let one = own_below-cons p n [] in
    let none : own_below p [] ≡ 0 = refl in omega (arith, whole, one, none)

-- ---- whether a side has a stack

pub has-last : (nodes : List Node) (n : Node) (q : List (List ℕ)) → has (nodes ++ n ∷ []) q ≡ (has nodes q || stack_eq q n.stack)
has-last [] n q = or_false (stack_eq q n.stack)
  where
    or_false : (b : Bool) → (b || false) ≡ b
    or_false true = refl
    or_false false = refl
has-last (m ∷ nodes) n q = ap (λ b. stack_eq q m.stack || b) (has-last nodes n q) ∙ regroup (stack_eq q m.stack) (has nodes q) (stack_eq q n.stack)
  where
    regroup : (a b c : Bool) → (a || (b || c)) ≡ ((a || b) || c)
    regroup true b c = refl
    regroup false b c = refl
