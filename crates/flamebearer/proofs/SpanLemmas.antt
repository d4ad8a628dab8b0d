-- A node's total is what the places up to its end have of their own.
use Rattle.std.proofs.Common.{◌≡◌, ℕ, zero, suc, ◌+◌, ◌<◌, ◌≤◌, List, [], ◌∷◌, length, take, get_or, Bool, true, false, cond, arith, refl, sym, ap, ◌∙◌, subst, ⊎_elim}
use Rattle.std.specs.Prelude.{filter, sum_by}
use Rattle.std.proofs.lemmas.Bool.{cases_lt}
use Rattle.std.proofs.lemmas.List.{get_or_default, length-map, take_all}
use Rattle.std.proofs.lemmas.List.Sums.{sum_by-cons}
use Rattle.flamebearer.specs.declared.branches.Value.{Value}
use Rattle.flamebearer.specs.Sides.{IsSide, nodes_with}
use Rattle.flamebearer.specs.Spots.{AreSpanned, AreStacks, own_before}
use Rattle.flamebearer.specs.Trees.{Node, begins_with}
use Rattle.flamebearer.proofs.PrefixLemmas.{same_stack}
use Rattle.flamebearer.proofs.ChildLemmas.{not_after, not_before, steps, under-node}
use Rattle.flamebearer.proofs.PlaceLemmas.{length-nodes, node_at}

pub node-get : (stacks : List (List (List ℕ))) (values : List Value) (n : ℕ) (d : Node) → length values ≡ length stacks → n < length stacks
    → get_or (nodes_with stacks values) n d ≡ node_at stacks values n
node-get [] values n d many within = absurd (omega arith)
node-get (s ∷ ss) [] n d many within = absurd (omega arith)
node-get (s ∷ ss) (v ∷ vs) zero d many within = refl
node-get (s ∷ ss) (v ∷ vs) (suc n) d many within = node-get ss vs n d (omega arith) (omega arith)

own-nodes : (stacks : List (List (List ℕ))) (values : List Value) (n : ℕ) → length values ≡ length stacks
    → sum_by (λ node. node.own) (take n (nodes_with stacks values)) ≡ own_before values n
own-nodes stacks values zero many = refl
own-nodes [] [] (suc n) many = refl
own-nodes [] (v ∷ vs) (suc n) many = absurd (omega arith)
own-nodes (s ∷ ss) [] (suc n) many = absurd (omega arith)
own-nodes (s ∷ ss) (v ∷ vs) (suc n) many =
    sum_by-cons (λ (m : Node). m.own) (record { stack = s; own = v.own; total = v.total }) (take n (nodes_with ss vs))
    ∙ ap (λ m. v.own + m) (own-nodes ss vs n (omega arith))
    ∙ sym (sum_by-cons (λ (w : Value). w.own) v (take n vs))

pub own-all : (stacks : List (List (List ℕ))) (values : List Value) → length values ≡ length stacks
    → sum_by (λ node. node.own) (nodes_with stacks values) ≡ own_before values (length values)
own-all stacks values many =
    let long = length-nodes stacks values many in
    ap (sum_by (λ (m : Node). m.own)) (sym (take_all (length values) (nodes_with stacks values) (omega arith))) ∙ own-nodes stacks values (length values) many

-- the sum of what passes, where that is a range
sum-range : (p : Node → Bool) (nodes : List Node) (d : Node) (a b : ℕ) → a ≤ b → b ≤ length nodes
    → ((i : ℕ) → i < a → i < length nodes → p (get_or nodes i d) ≡ false)
    → ((i : ℕ) → a ≤ i → i < b → p (get_or nodes i d) ≡ true)
    → ((i : ℕ) → b ≤ i → i < length nodes → p (get_or nodes i d) ≡ false)
    → sum_by (λ node. node.own) (filter p nodes) + sum_by (λ node. node.own) (take a nodes) ≡ sum_by (λ node. node.own) (take b nodes)
sum-range p [] d zero zero some within low mid high = refl
sum-range p [] d (suc a) zero some within low mid high = absurd (omega arith)
sum-range p [] d a (suc b) some within low mid high = absurd (omega arith)
sum-range p (x ∷ xs) d (suc a) zero some within low mid high = absurd (omega arith)
sum-range p (x ∷ xs) d zero zero some within low mid high =
    let here : filter p (x ∷ xs) ≡ filter p xs = ap (λ b. cond b (x ∷ filter p xs) (filter p xs)) (high 0 (omega arith) (omega arith)) in
    ap (λ l. sum_by (λ (n : Node). n.own) l + 0) here
    ∙ sum-range p xs d zero zero (omega arith) (omega arith) (λ i less within. absurd (omega arith)) (λ i far near. absurd (omega arith)) (λ i far near. high (suc i) (omega arith) (omega arith))
sum-range p (x ∷ xs) d zero (suc b) some within low mid high =
    let here : filter p (x ∷ xs) ≡ x ∷ filter p xs = ap (λ b. cond b (x ∷ filter p xs) (filter p xs)) (mid 0 (omega arith) (omega arith)) in
    let later = sum-range p xs d zero b (omega arith) (omega arith) (λ i less within. absurd (omega arith)) (λ i far near. mid (suc i) (omega arith) (omega arith)) (λ i far near. high (suc i) (omega arith) (omega arith)) in
    let first = ap (sum_by (λ (n : Node). n.own)) here ∙ sum_by-cons (λ (n : Node). n.own) x (filter p xs) in
    let second = sum_by-cons (λ (n : Node). n.own) x (take b xs) in omega arith
sum-range p (x ∷ xs) d (suc a) (suc b) some within low mid high =
    let here : filter p (x ∷ xs) ≡ filter p xs = ap (λ b. cond b (x ∷ filter p xs) (filter p xs)) (low 0 (omega arith) (omega arith)) in
    let later = sum-range p xs d a b (omega arith) (omega arith) (λ i less within. low (suc i) (omega arith) (omega arith)) (λ i far near. mid (suc i) (omega arith) (omega arith)) (λ i far near. high (suc i) (omega arith) (omega arith)) in
    let first = ap (sum_by (λ (n : Node). n.own)) here in
    let second = sum_by-cons (λ (n : Node). n.own) x (take a xs) in
    let third = sum_by-cons (λ (n : Node). n.own) x (take b xs) in omega arith

pub spanned : (stacks : List (List (List ℕ))) (ends : List ℕ) (values : List Value) → AreStacks stacks ends → IsSide stacks values → AreSpanned ends values
spanned stacks ends values are side =
    let many = side.many in
    let count = length-map stacks (length {A = List ℕ}) in
    let size = are.right.many in
    let long = length-nodes stacks values many in
    record {
      many = omega arith;
      later = λ n near. (are.right.each n (omega arith) (omega arith)).later;
      within = λ n near. let within = (are.right.each n (omega arith) (omega arith)).within in omega arith;
      nested = λ n m within far near.
          let outer = are.right.each n (omega arith) (omega arith) in
          let inside = outer.within in
          let inner = are.right.each m (omega arith) (omega arith) in
          ⊎_elim
          (λ (over : get_or ends n 0 < get_or ends m 0).
          let deep = outer.deeper m far near in
          let last = inner.within in
          let deeper = inner.deeper (get_or ends n 0) near over in
          let stops = outer.stops (omega arith) in absurd (omega arith))
          (λ (le : get_or ends m 0 ≤ get_or ends n 0). le)
          (cases_lt (get_or ends n 0) (get_or ends m 0));
      spans = λ n d near.
          let is = are.right.each n (omega arith) (omega arith) in
          let last = is.within in
          let later = is.later in
          let node = node_at stacks values n in
          let read = node-get stacks values n node many (omega arith) in
          let test = λ (other : Node). begins_with (get_or stacks n []) other.stack in
          let sum : node.total ≡ sum_by (λ other. other.own) (filter test (nodes_with stacks values)) =
          subst (λ (m : Node). m.total ≡ sum_by (λ other. other.own) (filter (λ other. begins_with m.stack other.stack) (nodes_with stacks values))) read (side.summed n node (omega arith)) in
          let steps = steps stacks are.framed in
          let under = under-node stacks ends are n (omega arith) in
          let stack_of = λ (i : ℕ) (within : i < length stacks). ap (λ (m : Node). begins_with (get_or stacks n []) m.stack) (node-get stacks values i node many within) in
          let range = sum-range test (nodes_with stacks values) node n (get_or ends n 0) (omega arith) (omega arith)
          (λ i less within. stack_of i (omega arith) ∙ not_before stacks steps i n less (omega arith))
          (λ i far below. stack_of i (omega arith) ∙ ⊎_elim
          (λ (more : n < i). under.inside i (omega arith) below)
          (λ (le : i ≤ n). same_stack _ _ (ap (λ m. take (length (get_or stacks n [])) (get_or stacks m [])) (exact i n le far) ∙ take_all (length (get_or stacks n [])) (get_or stacks n []) (omega arith)))
          (cases_lt n i))
          (λ i far within. stack_of i (omega arith) ∙ not_after stacks steps n (get_or ends n 0) i is (omega arith) far (omega arith)) in
          let low = own-nodes stacks values n many in
          let high = own-nodes stacks values (get_or ends n 0) many in
          let value : get_or values n d ≡ get_or values n (record { own = 0; total = 0 }) = get_or_default values n d (record { own = 0; total = 0 }) (omega arith) in
          let total = ap (λ (v : Value). v.total) value in omega arith;
      bounded = let whole = own-all stacks values many in let bounded = side.bounded in
          let same = ap (own_before values) (let same : length values ≡ length ends = omega arith in same) in omega arith;
    }
  where
    exact : (n m : ℕ) → n ≤ m → m ≤ n → n ≡ m
    exact n m a b = omega arith
