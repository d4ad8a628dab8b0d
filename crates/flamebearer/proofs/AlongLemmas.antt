-- Where the making of a tree stands between two stacks.
use Rattle.std.proofs.Common.{◌≡◌, ℕ, zero, suc, ◌+◌, ◌-◌, ◌^◌, ◌<◌, ◌⊎◌, inl, inr, List, [], ◌∷◌, ◌++◌, length, map, take, get_or, arith, refl, sym, ap, ◌∙◌, subst, append_assoc, ⊎_elim}
use Rattle.std.specs.Prelude.{sum_by, if◌then◌else◌}
use Rattle.std.specs.List.{AllByRecursion, IsDistinct, list_any}
use Rattle.std.specs.List.Sorted.{IsStrictlySortedBy}
use Rattle.std.specs.Map.{keys_of, values_of}
use Rattle.std.specs.declared.cmp.Ordering.TheVariants.{Less}
use Rattle.std.proofs.lemmas.List.{map-append}
use Rattle.std.proofs.lemmas.List.Sums.{sum_by-append, sum_by-cons}
use Rattle.std.proofs.lemmas.List.Folds.{list_any_at}
use Rattle.profile_model.specs.Stacks.{stack_cmp}
use Rattle.profile_model.specs.StackOrder.{stack_eq}
use Rattle.profile_model.specs.Sums.{Sample, total_of, AreSums}
use Rattle.flamebearer.specs.declared.tree.Entry.{Entry}
use Rattle.flamebearer.specs.Trees.{Node, begins_with, beginning_with, firsts, node_of, tree_of}
use Rattle.flamebearer.specs.Entries.{AreDeep, ArePlaces, frame_of, nodes_of, path_after, stacks_of}
use Rattle.flamebearer.specs.Branches.{AreOrdered}
use Rattle.flamebearer.specs.Sides.{AreSummed, own_below}
use Rattle.flamebearer.specs.Pushes.{IsPushed, fresh, fronts, grown}
use Rattle.flamebearer.proofs.PrefixLemmas.{cut_short, one_more, same_stack}
use Rattle.flamebearer.proofs.FirstLemmas.{found_of}
use Rattle.flamebearer.proofs.WalkLemmas.{IsWalked, IsNext, total-le, total-push, tree-push, walked-none, walked-push}
use Rattle.flamebearer.proofs.NodeLemmas.{own-last, own-more, length-stacks, take-front}
use Rattle.flamebearer.proofs.PartLemmas.{ordered-parts}
use Rattle.flamebearer.proofs.SummedLemmas.{own_below-push, summed}

pub record IsAlong (values rest : List Sample) (before : List (List ℕ)) (entries : List Entry) (spine : List ℕ) : Type 0 where
  pub done : List Sample
  pub whole : done ++ rest ≡ values
  pub nodes : nodes_of entries ≡ tree_of done
  pub path : path_after [] entries ≡ before
  pub places : ArePlaces entries spine before (length before)
  pub walked : IsWalked done before
  pub deep : AreDeep entries
  pub sum : sum_by (λ node. node.own) (nodes_of entries) ≡ total_of done
  pub summed : (p : List (List ℕ)) → own_below p (nodes_of entries) ≡ total_of (beginning_with p done)
  pub sorted : IsStrictlySortedBy stack_cmp (keys_of rest)
  pub above : (before ≡ []) ⊎ AllByRecursion (λ key. stack_cmp before key ≡ Less) (keys_of rest)
  pub bounded : total_of values < 2 ^ 63

pub along-none : (values : List Sample) → AreSums values → IsAlong values values [] [] []
unfolding tree_of firsts
along-none values sums = record {
  done = [];
  whole = refl;
  nodes = refl;
  path = refl;
  places = record { many = refl; within = λ n near. absurd (omega arith); are = λ n near. absurd (omega arith) };
  walked = walked-none;
  deep = refl;
  sum = refl;
  summed = λ p. refl;
  sorted = sums.ascending;
  above = inl refl;
  bounded = sums.bounded;
}

-- at the end
pub along-end : (values rest : List Sample) (before : List (List ℕ)) (entries : List Entry) (spine : List ℕ) → IsAlong values rest before entries spine
    → rest ≡ [] → nodes_of entries ≡ tree_of values
along-end values rest before entries spine along none =
    along.nodes ∙ ap tree_of (sym (append-none along.done) ∙ ap (λ r. along.done ++ r) (sym none) ∙ along.whole)
  where
    append-none : (xs : List Sample) → xs ++ [] ≡ xs
    append-none [] = refl
    append-none (x ∷ xs) = ap (λ r. x ∷ r) (append-none xs)

stacks-found : (samples : List Sample) (entries : List Entry) → nodes_of entries ≡ tree_of samples → stacks_of entries ≡ found_of samples
unfolding tree_of node_of
stacks-found samples entries nodes = ap (map (λ (n : Node). n.stack)) nodes ∙ each (found_of samples)
  where
    each : (found : List (List (List ℕ))) → map (λ (n : Node). n.stack) (map (node_of samples) found) ≡ found
    each [] = refl
    each (s ∷ found) = ap (λ r. s ∷ r) (each found)

total-whole : (done rest : List Sample) → total_of (done ++ rest) ≡ total_of done + total_of rest
total-whole done rest = ap (sum_by (λ (v : ℕ). v)) (map-append (λ (e : Sample). e.1) done rest) ∙ sum_by-append (λ (v : ℕ). v) (values_of done) (values_of rest)

-- what the next stack finds
pub record IsReady (before : List (List ℕ)) (entries : List Entry) (stack : List (List ℕ)) (value : ℕ) : Type 0 where
  pub greater : stack_cmp before stack ≡ Less
  pub distinct : IsDistinct stack_eq (stacks_of entries)
  pub fits : AllByRecursion (λ node. node.total + value < 2 ^ 63) (nodes_of entries)
  pub small : value < 2 ^ 63

pub ready : (values all rest : List Sample) (before : List (List ℕ)) (entries : List Entry) (spine : List ℕ) (stack : List (List ℕ)) (value : ℕ)
    → IsAlong values all before entries spine → all ≡ (stack, value) ∷ rest → 0 < length stack → IsReady before entries stack value
unfolding tree_of node_of
ready values all rest before entries spine stack value along is some =
    let whole = total-whole along.done all in
    let first : total_of all ≡ value + total_of rest = ap total_of is ∙ sum_by-cons (λ (v : ℕ). v) value (values_of rest) in
    let sum : total_of values ≡ total_of along.done + (value + total_of rest) = ap total_of (sym along.whole) ∙ whole ∙ ap (λ n. total_of along.done + n) first in
    let bounded = along.bounded in
    record {
      greater = ⊎_elim (λ none. from-none stack some none) (λ above. (subst (λ a. AllByRecursion (λ key. stack_cmp before key ≡ Less) (keys_of a)) is above).0) along.above;
      distinct = subst (IsDistinct stack_eq) (sym (stacks-found along.done entries along.nodes)) along.walked.distinct;
      fits = subst (AllByRecursion (λ node. node.total + value < 2 ^ 63)) (sym along.nodes) (each along.done (omega arith) (found_of along.done));
      small = omega arith;
    }
  where
    from-none : (stack : List (List ℕ)) → 0 < length stack → before ≡ [] → stack_cmp before stack ≡ Less
    from-none [] some none = absurd (omega arith)
    from-none (x ∷ xs) some none = ap (λ b. stack_cmp b (x ∷ xs)) none

    each : (done : List Sample) → total_of done + value < 2 ^ 63 → (found : List (List (List ℕ))) → AllByRecursion (λ node. node.total + value < 2 ^ 63) (map (node_of done) found)
    each done few [] = tt
    each done few (s ∷ found) = ((let le = total-le s done in omega arith), each done few found)

-- ---- all own values together

own-grown : (count : ℕ) (stack : List (List ℕ)) (value : ℕ) (nodes : List Node) → sum_by (λ node. node.own) (map (grown count stack value) nodes) ≡ sum_by (λ node. node.own) nodes
unfolding grown
own-grown count stack value [] = refl
own-grown count stack value (node ∷ nodes) =
    sum_by-cons (λ (n : Node). n.own) (grown count stack value node) (map (grown count stack value) nodes)
    ∙ ap (λ n. node.own + n) (own-grown count stack value nodes) ∙ sym (sum_by-cons (λ (n : Node). n.own) node nodes)

own-fresh : (stack : List (List ℕ)) (value from count : ℕ) → from + (count + 1) ≡ length stack
    → sum_by (λ node. node.own) (map (fresh stack value) (fronts stack from (count + 1))) ≡ value
unfolding fresh
own-fresh stack value from count long = ap (λ n. sum_by (λ (node : Node). node.own) (map (fresh stack value) (fronts stack from n))) (one_more count) ∙ by stack value from count long
  where
    by : (stack : List (List ℕ)) (value from count : ℕ) → from + (count + 1) ≡ length stack → sum_by (λ node. node.own) (map (fresh stack value) (fronts stack from (suc count))) ≡ value
    by stack value from zero long =
        let split = sum_by-cons (λ (n : Node). n.own) (fresh stack value (take (from + 1) stack)) [] in
        let last = own-last stack from value (omega arith) in omega arith
    by stack value from (suc count) long =
        let split = sum_by-cons (λ (n : Node). n.own) (fresh stack value (take (from + 1) stack)) (map (fresh stack value) (fronts stack (from + 1) (suc count))) in
        let none = own-more stack from value (omega arith) (λ same. absurd (omega arith)) in
        let later = by stack value (from + 1) count (omega arith) in omega arith

pub sum-push : (c : ℕ) (stack : List (List ℕ)) (value : ℕ) (old new : List Node)
    → new ≡ map (grown c stack value) old ++ map (fresh stack value) (fronts stack c (length stack - c)) → c < length stack
    → sum_by (λ node. node.own) new ≡ sum_by (λ node. node.own) old + value
sum-push c stack value old new is short =
    ap (sum_by (λ (n : Node). n.own)) is
    ∙ sum_by-append (λ (n : Node). n.own) (map (grown c stack value) old) (map (fresh stack value) (fronts stack c (length stack - c)))
    ∙ (λ i. own-grown c stack value old i + rest i)
  where
    back : (c n : ℕ) → c < n → n - c ≡ n - c - 1 + 1
    back c n short = omega arith

    rest : sum_by (λ (n : Node). n.own) (map (fresh stack value) (fronts stack c (length stack - c))) ≡ value
    rest = ap (λ n. sum_by (λ (n : Node). n.own) (map (fresh stack value) (fronts stack c n))) (back c (length stack) short)
        ∙ own-fresh stack value c (length stack - c - 1) (omega arith)

pub total-last : (done : List Sample) (stack : List (List ℕ)) (value : ℕ) → total_of (done ++ (stack, value) ∷ []) ≡ total_of done + value
total-last done stack value =
    let whole = total-whole done ((stack, value) ∷ []) in
    let one = sum_by-cons (λ (v : ℕ). v) value [] in omega arith

pub along-push : (values all rest : List Sample) (before : List (List ℕ)) (entries new : List Entry) (spine after : List ℕ) (stack : List (List ℕ)) (value : ℕ)
    → IsAlong values all before entries spine → all ≡ (stack, value) ∷ rest → 0 < length stack
    → IsPushed before stack value (nodes_of entries) (nodes_of new) → path_after [] new ≡ stack → ArePlaces new after stack (length stack)
    → (AreDeep entries → AreDeep new) → IsAlong values rest stack new after
unfolding IsStrictlySortedBy
along-push values all rest before entries new spine after stack value along is some pushed path places deep =
    let set = ready values all rest before entries spine stack value along is some in
    let found = stacks-found along.done entries along.nodes in
    let sorted = subst (λ a. IsStrictlySortedBy stack_cmp (keys_of a)) is along.sorted in
    let inner = pushed.part.in_first in
    let next : IsNext along.done before stack pushed.shared = record {
      part = pushed.part;
      greater = set.greater;
      there = λ n near.
          let within = along.places.within n (omega arith) in
          let count = length-stacks entries in
          let front = along.places.are n (omega arith) ∙ take-front (n + 1) pushed.shared before stack (omega arith) pushed.part.shared in
          ap (list_any (stack_eq (take (n + 1) stack))) (sym found)
          ∙ list_any_at (stack_eq (take (n + 1) stack)) (stacks_of entries) (get_or spine n 0) [] (omega arith) (same_stack (take (n + 1) stack) _ (sym front));
    } in
    record {
      done = along.done ++ (stack, value) ∷ [];
      whole = append_assoc along.done ((stack, value) ∷ []) rest ∙ ap (λ r. along.done ++ r) (sym is) ∙ along.whole;
      nodes = pushed.nodes
          ∙ ap (λ ns. map (grown pushed.shared stack value) ns ++ map (fresh stack value) (fronts stack pushed.shared (length stack - pushed.shared))) along.nodes
          ∙ sym (tree-push along.done before stack value pushed.shared along.walked next);
      path = path;
      places = places;
      walked = walked-push along.done before stack value pushed.shared along.walked next;
      deep = deep along.deep;
      sum = sum-push pushed.shared stack value (nodes_of entries) (nodes_of new) pushed.nodes
          (let part = pushed.part in cut_short pushed.shared before stack part set.greater)
          ∙ ap (λ n. n + value) along.sum ∙ sym (total-last along.done stack value);
      summed = λ p. own_below-push p pushed.shared stack value (nodes_of entries) (nodes_of new) pushed.nodes
          (let part = pushed.part in cut_short pushed.shared before stack part set.greater)
          ∙ ap (λ n. n + (if begins_with p stack then value else 0)) (along.summed p)
          ∙ sym (total-push p along.done stack value);
      sorted = sorted.1;
      above = inr sorted.0;
      bounded = along.bounded;
    }

pub along-sum : (values rest : List Sample) (before : List (List ℕ)) (entries : List Entry) (spine : List ℕ) → IsAlong values rest before entries spine
    → sum_by (λ node. node.own) (nodes_of entries) < 2 ^ 63
along-sum values rest before entries spine along =
    let whole = total-whole along.done rest in
    let all : total_of values ≡ total_of along.done + total_of rest = ap total_of (sym along.whole) ∙ whole in
    let bounded = along.bounded in
    let sum = along.sum in omega arith

-- in order, with totals that come to their own values
pub record AreWhole (entries : List Entry) : Type 0 where
  pub ordered : AreOrdered (map frame_of entries)
  pub summed : AreSummed (nodes_of entries)
  pub bounded : sum_by (λ node. node.own) (nodes_of entries) < 2 ^ 63

pub along-whole : (values rest : List Sample) (before : List (List ℕ)) (entries : List Entry) (spine : List ℕ) → IsAlong values rest before entries spine
    → AreWhole entries
along-whole values rest before entries spine along = record {
  ordered = ordered-parts entries along.deep (subst (IsStrictlySortedBy stack_cmp) (sym (stacks-found along.done entries along.nodes)) along.walked.ascending);
  summed = summed along.done (nodes_of entries) along.nodes along.summed;
  bounded = along-sum values rest before entries spine along;
}
