-- Trees, sample after sample.
use Rattle.std.proofs.Common.{◌≡◌, ℕ, zero, suc, ◌+◌, ◌-◌, ◌<◌, ◌≤◌, List, [], ◌∷◌, ◌++◌, length, map, take, get_or, Bool, true, false, arith, refl, sym, ap, ◌∙◌, subst, append_assoc, append-nil, ⊎_elim}
use Rattle.std.specs.Prelude.{◌^◌, nat_eq, sum_by, if◌then◌else◌, ⊤}
use Rattle.std.specs.List.{All, AllByRecursion, list_any}
use Rattle.std.specs.List.Sorted.{IsStrictlySortedBy}
use Rattle.std.specs.Map.{keys_of}
use Rattle.std.specs.Cmp.Lexicographic.{bytes_decides, pointwise}
use Rattle.std.specs.declared.cmp.Ordering.TheVariants.{Less}
use Rattle.std.proofs.lemmas.Bool.{cases_lt, or_left, or_right, true≢false}
use Rattle.std.proofs.lemmas.List.{length-map, length-take-le, take-take, take_all, take_more}
use Rattle.std.proofs.lemmas.List.Elements.{All-tail}
use Rattle.std.proofs.lemmas.List.Folds.{list_any-append, list_any_at}
use Rattle.std.proofs.lemmas.List.FromFn.{get_or-map-range_with_len, length-map-range_with_len}
use Rattle.profile_model.specs.Stacks.{IsStack, stack_cmp}
use Rattle.profile_model.specs.StackOrder.{stack_eq}
use Rattle.profile_model.specs.Sums.{Sample, total_of, value_of}
use Rattle.flamebearer.specs.declared.branches.Frame.{Frame}
use Rattle.flamebearer.specs.declared.branches.Value.{Value}
use Rattle.flamebearer.specs.Branches.{depths_of, stacks_after}
use Rattle.flamebearer.specs.Laws.{AreStackSums, RootsHaveAll, TreesAreSides}
use Rattle.flamebearer.specs.Parts.{PartAt}
use Rattle.flamebearer.specs.Pushes.{fronts}
use Rattle.flamebearer.specs.Sides.{AreSummed, nodes_with, own_below}
use Rattle.flamebearer.specs.Spots.{AreFramed}
use Rattle.flamebearer.specs.Trees.{Node, begins_with, beginning_with, firsts, node_of, tree_of}
use Rattle.flamebearer.proofs.AlongLemmas.{sum-push, total-last}
use Rattle.flamebearer.proofs.FirstLemmas.{found_of}
use Rattle.flamebearer.proofs.NodeLemmas.{take-front}
use Rattle.flamebearer.proofs.PrefixLemmas.{cut_short, same_stack}
use Rattle.flamebearer.proofs.SummedLemmas.{own_below-push, summed}
use Rattle.flamebearer.proofs.WalkLemmas.{IsNext, IsWalked, found-next, total-push, tree-push, walked-none, walked-push}

-- ---- where two stacks part

part-more : (x y : List ℕ) (xs ys : List (List ℕ)) (c : ℕ) → x ≡ y → PartAt xs ys c → PartAt (x ∷ xs) (y ∷ ys) (suc c)
part-more x y xs ys c same part = record {
  in_first = let p = part.in_first in omega arith;
  in_second = let p = part.in_second in omega arith;
  shared = λ i. same i ∷ part.shared i;
  apart = λ a b. part.apart (omega arith) (omega arith);
}

part-of : (xs ys : List (List ℕ)) → (c : ℕ) × PartAt xs ys c
part-of [] ys = (0, record { in_first = omega arith; in_second = omega arith; shared = refl; apart = λ a b. absurd (omega arith) })
part-of (x ∷ xs) [] = (0, record { in_first = omega arith; in_second = omega arith; shared = refl; apart = λ a b. absurd (omega arith) })
part-of (x ∷ xs) (y ∷ ys) = by (pointwise nat_eq x y) refl (part-of xs ys)
  where
    by : (b : Bool) → pointwise nat_eq x y ≡ b → ((c : ℕ) × PartAt xs ys c) → (c : ℕ) × PartAt (x ∷ xs) (y ∷ ys) c
    by true is later = (suc later.0, part-more x y xs ys later.0 ((bytes_decides x y).0 is) later.1)
    by false is later = (
      0,
      record {
        in_first = omega arith;
        in_second = omega arith;
        shared = refl;
        apart = λ a b same. true≢false (sym ((bytes_decides x y).1 same) ∙ is);
      },
    )

-- ---- frames

-- each stack is a frame below a front of the one before it
abbrev IsChain : List (List ℕ) → List (List (List ℕ)) → Type 0
IsChain before [] = ⊤
IsChain before (stack ∷ more) = (0 < length stack) × (take (length stack - 1) before ≡ take (length stack - 1) stack) × IsChain stack more

abbrev last_of : List (List ℕ) → List (List (List ℕ)) → List (List ℕ)
last_of before [] = before
last_of before (stack ∷ more) = last_of stack more

chain-append : (before : List (List ℕ)) (xs ys : List (List (List ℕ))) → IsChain before xs → IsChain (last_of before xs) ys → IsChain before (xs ++ ys)
chain-append before [] ys a b = b
chain-append before (x ∷ xs) ys a b = (a.0, a.1, chain-append x xs ys a.2 b)

last-append : (before : List (List ℕ)) (xs ys : List (List (List ℕ))) → last_of before (xs ++ ys) ≡ last_of (last_of before xs) ys
last-append before [] ys = refl
last-append before (x ∷ xs) ys = last-append x xs ys

chain-fronts : (before stack : List (List ℕ)) (from count : ℕ) → from + count ≤ length stack → take from before ≡ take from stack → IsChain before (fronts stack from count)
chain-fronts before stack from zero within front = tt
chain-fronts before stack from (suc count) within front =
    let long = length-take-le (from + 1) stack (omega arith) in (
      (omega arith),
      ap (λ n. take n before) (one_less (length (take (from + 1) stack)) long) ∙ front ∙ sym (take-take from (from + 1) stack (omega arith))
          ∙ ap (λ n. take n (take (from + 1) stack)) (sym (one_less (length (take (from + 1) stack)) long)),
      chain-fronts (take (from + 1) stack) stack (from + 1) count (omega arith) (take-take (from + 1) (from + 1) stack (omega arith)),
    )
  where
    one_less : (n : ℕ) → n ≡ from + 1 → n - 1 ≡ from
    one_less n is = omega arith

last-fronts : (before stack : List (List ℕ)) (from count : ℕ) → from + suc count ≡ length stack → last_of before (fronts stack from (suc count)) ≡ stack
last-fronts before stack from zero all = take_all (from + 1) stack (omega arith)
last-fronts before stack from (suc count) all = last-fronts (take (from + 1) stack) stack (from + 1) count (omega arith)

abbrev frame_in : List (List ℕ) → Frame
frame_in stack = record { name = get_or stack (length stack - 1) []; depth = length stack }

stacks-chain : (before : List (List ℕ)) (stacks : List (List (List ℕ))) → IsChain before stacks → stacks_after before (map frame_in stacks) ≡ stacks
stacks-chain before [] chain = refl
stacks-chain before (stack ∷ more) chain =
    let whole : take (length stack - 1) before ++ get_or stack (length stack - 1) [] ∷ [] ≡ stack =
    ap (λ front. front ++ get_or stack (length stack - 1) [] ∷ []) chain.1 ∙ sym (take_more stack (length stack - 1) [] (let some = chain.0 in omega arith))
    ∙ take_all (length stack - 1 + 1) stack (omega arith) in
    (λ i. whole i ∷ stacks_after (whole i) (map frame_in more)) ∙ ap (λ rest. stack ∷ rest) (stacks-chain stack more chain.2)

depths-chain : (stacks : List (List (List ℕ))) → depths_of (map frame_in stacks) ≡ map (length {A = List ℕ}) stacks
depths-chain [] = refl
depths-chain (stack ∷ more) = ap (λ rest. length stack ∷ rest) (depths-chain more)

framed-chain : (stacks : List (List (List ℕ))) → IsChain [] stacks → IsStrictlySortedBy stack_cmp stacks → AreFramed stacks
framed-chain stacks chain ascending =
    let are = stacks-chain [] stacks chain in
    record {
      frames = map frame_in stacks;
      ordered = record { deep = depths-chain stacks ∙ ap (map (length {A = List ℕ})) (sym are); ascending = subst (IsStrictlySortedBy stack_cmp) (sym are) ascending };
      are = are;
    }

-- ---- sample after sample

-- what holds of the tree of samples that end with this stack
record IsSoFar (samples : List Sample) (path : List (List ℕ)) : Type 0 where
  walked : IsWalked samples path
  there : (n : ℕ) → n < length path → list_any (stack_eq (take (n + 1) path)) (found_of samples) ≡ true
  chain : IsChain [] (found_of samples)
  last : last_of [] (found_of samples) ≡ path
  sum : sum_by (λ node. node.own) (tree_of samples) ≡ total_of samples
  summed : (p : List (List ℕ)) → own_below p (tree_of samples) ≡ total_of (beginning_with p samples)

so-far-none : IsSoFar [] []
unfolding tree_of firsts
so-far-none = record { walked = walked-none; there = λ n near. absurd (omega arith); chain = tt; last = refl; sum = refl; summed = λ p. refl }

so-far-more : (samples : List Sample) (path stack : List (List ℕ)) (value c : ℕ) → IsSoFar samples path → PartAt path stack c → stack_cmp path stack ≡ Less
    → IsSoFar (samples ++ (stack, value) ∷ []) stack
so-far-more samples path stack value c so part greater =
    let next : IsNext samples path stack c = record {
      part = part;
      greater = greater;
      there = λ n near.
          let inner = part.in_first in
          ap (λ p. list_any (stack_eq p) (found_of samples)) (sym (take-front (n + 1) c path stack (omega arith) part.shared)) ∙ so.there n (omega arith);
    } in
    let is = found-next samples path stack value c so.walked next in
    let tree = tree-push samples path stack value c so.walked next in
    let short = cut_short c path stack part greater in
    let rest : length stack - c ≡ suc (length stack - c - 1) = omega arith in
    record {
      walked = walked-push samples path stack value c so.walked next;
      there = λ n near. ap (list_any (stack_eq (take (n + 1) stack))) is ∙ list_any-append (stack_eq (take (n + 1) stack)) (found_of samples) (fronts stack c (length stack - c))
          ∙ ⊎_elim
          (λ (shared : n < c). or_left _ _ (next.there n shared))
          (λ (new : c ≤ n). or_right _ _
          (list_any_at (stack_eq (take (n + 1) stack)) (fronts stack c (length stack - c)) (n - c) []
          (let all = length-map-range_with_len (λ n. take (n + 1) stack) c (length stack - c) in omega arith)
          (same_stack _ _ (sym (get_or-map-range_with_len (λ n. take (n + 1) stack) c (length stack - c) (n - c) n [] (omega arith) (omega arith))))))
          (cases_lt n c);
      chain = subst (IsChain []) (sym is)
          (chain-append [] (found_of samples) (fronts stack c (length stack - c)) so.chain
          (subst (λ p. IsChain p (fronts stack c (length stack - c))) (sym so.last) (chain-fronts path stack c (length stack - c) (omega arith) part.shared)));
      last = ap (last_of []) is ∙ last-append [] (found_of samples) (fronts stack c (length stack - c))
          ∙ ap (λ k. last_of (last_of [] (found_of samples)) (fronts stack c k)) rest ∙ last-fronts (last_of [] (found_of samples)) stack c (length stack - c - 1) (omega arith);
      sum = sum-push c stack value (tree_of samples) (tree_of (samples ++ (stack, value) ∷ [])) tree short ∙ ap (λ n. n + value) so.sum ∙ sym (total-last samples stack value);
      summed = λ p. own_below-push p c stack value (tree_of samples) (tree_of (samples ++ (stack, value) ∷ [])) tree short
          ∙ ap (λ n. n + (if begins_with p stack then value else 0)) (so.summed p) ∙ sym (total-push p samples stack value);
    }

so-far-all : (done rest : List Sample) (path : List (List ℕ)) → IsSoFar done path → IsStrictlySortedBy stack_cmp (keys_of rest) → AllByRecursion (λ key. stack_cmp path key ≡ Less) (keys_of rest)
    → (last : List (List ℕ)) × IsSoFar (done ++ rest) last
unfolding IsStrictlySortedBy
so-far-all done [] path so sorted above = (path, subst (λ s. IsSoFar s path) (sym (append-nil done)) so)
so-far-all done (sample ∷ rest) path so sorted above =
    let part = part-of path sample.0 in
    let all = so-far-all (done ++ sample ∷ []) rest sample.0 (so-far-more done path sample.0 sample.1 part.0 so part.1 above.0) sorted.1 sorted.0 in
    (all.0, subst (λ s. IsSoFar s all.0) (append_assoc done (sample ∷ []) rest) all.1)

none-above : (keys : List (List (List ℕ))) → All IsStack keys → AllByRecursion (λ key. stack_cmp [] key ≡ Less) keys
none-above [] stacks = tt
none-above (key ∷ keys) stacks = (above key (stacks 0 key (omega arith)).some, none-above keys (All-tail IsStack key keys stacks))
  where
    above : (key : List (List ℕ)) → 0 < length key → stack_cmp [] key ≡ Less
    above [] some = absurd (omega arith)
    above (x ∷ xs) some = refl

tree-whole : (samples : List Sample) → AreStackSums samples → (last : List (List ℕ)) × IsSoFar samples last
tree-whole samples are = so-far-all [] samples [] so-far-none are.sums.ascending (none-above (keys_of samples) are.stacks)

pub roots-have-all : RootsHaveAll
roots-have-all samples are = (tree-whole samples are).1.sum

-- ---- as one side

abbrev value_at : List Sample → List (List ℕ) → Value
value_at samples stack = record { own = value_of samples stack; total = total_of (beginning_with stack samples) }

nodes-found : (samples : List Sample) (found : List (List (List ℕ))) → nodes_with found (map (value_at samples) found) ≡ map (node_of samples) found
unfolding node_of
nodes-found samples [] = refl
nodes-found samples (stack ∷ found) = ap (λ rest. node_of samples stack ∷ rest) (nodes-found samples found)

pub trees-are-sides : TreesAreSides
unfolding tree_of
trees-are-sides samples are =
    let whole = (tree-whole samples are).1 in
    let found = found_of samples in
    let values = map (value_at samples) found in
    let nodes = nodes-found samples found in
    let bounded = are.sums.bounded in
    let sum = whole.sum in
    record {
      stacks = found;
      values = values;
      framed = framed-chain found whole.chain whole.walked.ascending;
      side = record {
        many = length-map found (value_at samples);
        summed = subst AreSummed (sym nodes) (summed samples (tree_of samples) refl whole.summed);
        bounded = subst (λ ns. sum_by (λ (node : Node). node.own) ns < 2 ^ 63) (sym nodes) (omega arith);
      };
      are = nodes;
    }
