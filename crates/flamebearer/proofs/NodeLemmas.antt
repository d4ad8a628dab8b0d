-- Entries, and the nodes that they stand for.
use Rattle.std.proofs.Common.{◌≡◌, ℕ, zero, suc, ◌+◌, ◌-◌, ◌^◌, ◌<◌, ◌≤◌, List, [], ◌∷◌, ◌++◌, length, map, take, get_or, set, Bool, true, false, cond, arith, refl, sym, ap, ◌∙◌, subst, ⊎_elim}
use Rattle.std.specs.Prelude.{◌≢◌, ◌&&◌, not, nat_lt, if◌then◌else◌}
use Rattle.std.specs.List.{AllByRecursion, IsDistinct}
use Rattle.std.proofs.lemmas.Bool.{true≢false, false_from_ne_true, lt-ltb, cases_lt}
use Rattle.std.proofs.lemmas.Bool.Decides.{Decides-ltb}
use Rattle.std.proofs.lemmas.List.{append_assoc, get_or-take, get_or_append_left, get_or-append-add, length-append, length-map, length-take-le, map-append, take_all, take_more}
use Rattle.std.proofs.lemmas.List.FromFn.{map-range_with_len_more}
use Rattle.profile_model.specs.StackOrder.{stack_eq, stacks_equiv}
use Rattle.flamebearer.specs.Trees.{Node, begins_with}
use Rattle.flamebearer.specs.Entries.{AreDeep, ArePlaces, depths_of, nodes_of, stacks_of, nodes_after, path_after, stack_of}
use Rattle.flamebearer.specs.Pushes.{fresh, fronts, grown}
use Rattle.flamebearer.specs.declared.tree.Entry.{Entry}
use Rattle.flamebearer.proofs.PrefixLemmas.{begins_with_take, begun, other_length, same_stack}

abbrev Stack : Type 0
Stack = List (List ℕ)

abbrev raised : ℕ → Node → Node
raised value node = record { stack = node.stack; own = node.own; total = node.total + value }

-- the value comes to the node at a place
abbrev raised_at : ℕ → ℕ → List Node → List Node
raised_at i value [] = []
raised_at zero value (node ∷ nodes) = raised value node ∷ nodes
raised_at (suc i) value (node ∷ nodes) = node ∷ raised_at i value nodes

-- an entry with a greater total
pub record IsRaised (value : ℕ) (before after : Entry) : Type 0 where
  pub name : after.name ≡ before.name
  pub depth : after.depth ≡ before.depth
  pub own : after.own ≡ before.own
  pub total : after.total ≡ before.total + value

nodes-set : (path : Stack) (entries : List Entry) (i value : ℕ) (d e : Entry) → i < length entries → IsRaised value (get_or entries i d) e
    → (nodes_after path (set entries i e) ≡ raised_at i value (nodes_after path entries)) × (path_after path (set entries i e) ≡ path_after path entries)
nodes-set path [] i value d e within is = absurd (omega arith)
nodes-set path (x ∷ xs) zero value d e within is =
    let stack : stack_of path e ≡ stack_of path x = λ i. take (is.depth i - 1) path ++ is.name i ∷ [] in
    ((λ i. record { stack = stack i; own = is.own i; total = is.total i } ∷ nodes_after (stack i) xs), ap (λ s. path_after s xs) stack)
nodes-set path (x ∷ xs) (suc i) value d e within is =
    let later = nodes-set (stack_of path x) xs i value d e (omega arith) is in
    (ap (λ rest. record { stack = stack_of path x; own = x.own; total = x.total } ∷ rest) later.0, later.1)

other_grown : (count : ℕ) (stack : Stack) (value : ℕ) (node : Node) → count < length stack → stack_eq node.stack (take (count + 1) stack) ≡ false
    → grown count stack value node ≡ grown (count + 1) stack value node
unfolding grown
other_grown count stack value node within other = ap (λ b. record { stack = node.stack; own = node.own; total = node.total + cond b value 0 }) (by (begins_with node.stack stack) refl)
  where
    by : (b : Bool) → begins_with node.stack stack ≡ b → (b && not (nat_lt count (length node.stack))) ≡ (b && not (nat_lt (count + 1) (length node.stack)))
    by false is = refl
    by true is = ⊎_elim
        (λ long. ap not (lt-ltb count (length node.stack) (omega arith) ∙ sym (lt-ltb (count + 1) (length node.stack) long)))
        (λ short. ap not (false_from_ne_true (nat_lt count (length node.stack)) (λ over.
        let above = (Decides-ltb count (length node.stack)).0 over in
        let exact : count + 1 ≡ length node.stack = omega arith in
        true≢false (sym (same_stack node.stack (take (count + 1) stack) (sym (begun node.stack stack is) ∙ ap (λ n. take n stack) (sym exact))) ∙ other))
        ∙ sym (false_from_ne_true (nat_lt (count + 1) (length node.stack)) (λ over. let above = (Decides-ltb (count + 1) (length node.stack)).0 over in absurd (omega arith)))))
        (cases_lt (count + 1) (length node.stack))

here_grown : (count : ℕ) (stack : Stack) (value : ℕ) (node : Node) → count < length stack → node.stack ≡ take (count + 1) stack
    → raised value (grown count stack value node) ≡ grown (count + 1) stack value node
unfolding grown
here_grown count stack value node within here =
    let long : length node.stack ≡ count + 1 = ap length here ∙ length-take-le (count + 1) stack (omega arith) in
    let begins : begins_with node.stack stack ≡ true = ap (λ s. begins_with s stack) here ∙ begins_with_take (count + 1) stack (omega arith) in
    let before : (begins_with node.stack stack && not (nat_lt count (length node.stack))) ≡ false =
    λ i. begins i && not (lt-ltb count (length node.stack) (omega arith) i) in
    let after : (begins_with node.stack stack && not (nat_lt (count + 1) (length node.stack))) ≡ true =
    λ i. begins i && not (false_from_ne_true (nat_lt (count + 1) (length node.stack)) (λ over. let above = (Decides-ltb (count + 1) (length node.stack)).0 over in absurd (omega arith)) i) in
    let sums : node.total + cond false value 0 + value ≡ node.total + cond true value 0 = none node.total value in
    ap (λ total. record { stack = node.stack; own = node.own; total = total })
    (ap (λ b. node.total + cond b value 0 + value) before ∙ sums ∙ ap (λ b. node.total + cond b value 0) (sym after))
  where
    none : (a b : ℕ) → a + 0 + b ≡ a + b
    none a b = omega arith

others_grown : (count : ℕ) (stack : Stack) (value : ℕ) (nodes : List Node) → count < length stack
    → AllByRecursion (λ s. stack_eq (take (count + 1) stack) s ≡ false) (map (λ node. node.stack) nodes)
    → map (grown count stack value) nodes ≡ map (grown (count + 1) stack value) nodes
others_grown count stack value [] within other = refl
others_grown count stack value (node ∷ nodes) within other =
    λ i. other_grown count stack value node within (stacks_equiv.symm node.stack (take (count + 1) stack) ∙ other.0) i ∷ others_grown count stack value nodes within other.1 i

at : {X : Type 0} (P : X → Type 0) (xs : List X) (i : ℕ) (d : X) → AllByRecursion P xs → i < length xs → P (get_or xs i d)
at P [] i d all within = absurd (omega arith)
at P (x ∷ xs) zero d all within = all.0
at P (x ∷ xs) (suc i) d all within = at P xs i d all.1 (omega arith)

all-same : {X : Type 0} (P : X → Type 0) (Q : X → Type 0) (xs : List X) → ((x : X) → P x → Q x) → AllByRecursion P xs → AllByRecursion Q xs
all-same P Q [] f all = tt
all-same P Q (x ∷ xs) f all = (f x all.0, all-same P Q xs f all.1)

-- one more of the fronts has its value
grown-more : (count : ℕ) (stack : Stack) (value : ℕ) (nodes : List Node) (i : ℕ) → count < length stack → i < length nodes
    → IsDistinct stack_eq (map (λ node. node.stack) nodes) → get_or (map (λ node. node.stack) nodes) i [] ≡ take (count + 1) stack
    → raised_at i value (map (grown count stack value) nodes) ≡ map (grown (count + 1) stack value) nodes
unfolding IsDistinct
grown-more count stack value [] i inner within apart is = absurd (omega arith)
grown-more count stack value (node ∷ nodes) zero inner within apart is =
    let others = all-same (λ s. stack_eq node.stack s ≡ false) (λ s. stack_eq (take (count + 1) stack) s ≡ false) (map (λ n. n.stack) nodes)
    (λ s other. ap (λ q. stack_eq q s) (sym is) ∙ other) apart.0 in
    λ i. here_grown count stack value node inner is i ∷ others_grown count stack value nodes inner others i
grown-more count stack value (node ∷ nodes) (suc i) inner within apart is =
    let same : length (map (λ (n : Node). n.stack) nodes) ≡ length nodes = count_of nodes in
    let other : stack_eq node.stack (take (count + 1) stack) ≡ false =
    ap (stack_eq node.stack) (sym is) ∙ at (λ s. stack_eq node.stack s ≡ false) (map (λ n. n.stack) nodes) i [] apart.0 (omega arith) in
    λ j. other_grown count stack value node inner other j ∷ grown-more count stack value nodes i inner (omega arith) apart.1 is j
  where
    count_of : (ns : List Node) → length (map (λ (n : Node). n.stack) ns) ≡ length ns
    count_of [] = refl
    count_of (n ∷ ns) = let rest = count_of ns in omega arith

pub length-nodes : (path : List (List ℕ)) (entries : List Entry) → length (nodes_after path entries) ≡ length entries
length-nodes path [] = refl
length-nodes path (e ∷ es) = let rest = length-nodes (stack_of path e) es in omega arith

-- a step of the loop that lets nodes grow
pub grown-step : (old entries : List Entry) (count i value : ℕ) (stack : List (List ℕ)) (d e : Entry) → count < length stack → i < length entries → length entries ≡ length old
    → IsRaised value (get_or entries i d) e
    → IsDistinct stack_eq (map (λ node. node.stack) (nodes_after [] old)) → get_or (map (λ node. node.stack) (nodes_after [] old)) i [] ≡ take (count + 1) stack
    → nodes_after [] entries ≡ map (grown count stack value) (nodes_after [] old)
    → (nodes_after [] (set entries i e) ≡ map (grown (count + 1) stack value) (nodes_after [] old)) × (path_after [] (set entries i e) ≡ path_after [] entries)
grown-step old entries count i value stack d e inner within many is apart at_place held =
    let done = nodes-set [] entries i value d e within is in
    let long = length-nodes [] old in
    (done.0 ∙ ap (raised_at i value) held ∙ grown-more count stack value (nodes_after [] old) i inner (omega arith) apart at_place, done.1)

-- grown nodes stay below 2^63
grown-fits : (count : ℕ) (stack : Stack) (value : ℕ) (nodes : List Node) → AllByRecursion (λ node. node.total + value < 2 ^ 63) nodes
    → AllByRecursion (λ node. node.total < 2 ^ 63) (map (grown count stack value) nodes)
unfolding grown
grown-fits count stack value [] fits = tt
grown-fits count stack value (node ∷ nodes) fits =
    (by (begins_with node.stack stack && not (nat_lt count (length node.stack))) fits.0, grown-fits count stack value nodes fits.1)
  where
    by : (b : Bool) → node.total + value < 2 ^ 63 → node.total + cond b value 0 < 2 ^ 63
    by true fits = fits
    by false fits = omega arith

entry-fits : (path : Stack) (entries : List Entry) (i : ℕ) (d : Entry) → i < length entries → AllByRecursion (λ node. node.total < 2 ^ 63) (nodes_after path entries)
    → (get_or entries i d).total < 2 ^ 63
entry-fits path [] i d within fits = absurd (omega arith)
entry-fits path (e ∷ es) zero d within fits = fits.0
entry-fits path (e ∷ es) (suc i) d within fits = entry-fits (stack_of path e) es i d (omega arith) fits.1

pub total-fits : (old entries : List Entry) (count i value : ℕ) (stack : List (List ℕ)) (d : Entry) → i < length entries
    → AllByRecursion (λ node. node.total + value < 2 ^ 63) (nodes_after [] old)
    → nodes_after [] entries ≡ map (grown count stack value) (nodes_after [] old) → (get_or entries i d).total < 2 ^ 63
total-fits old entries count i value stack d within fits held =
    entry-fits [] entries i d within (subst (AllByRecursion (λ node. node.total < 2 ^ 63)) (sym held) (grown-fits count stack value (nodes_after [] old) fits))

-- before any grows
pub grown-none : (stack : List (List ℕ)) (value : ℕ) (nodes : List Node) → AllByRecursion (λ node. 0 < length node.stack) nodes → nodes ≡ map (grown 0 stack value) nodes
unfolding grown
grown-none stack value [] some = refl
grown-none stack value (node ∷ nodes) some =
    let none : (begins_with node.stack stack && not (nat_lt 0 (length node.stack))) ≡ false =
    ap (λ b. begins_with node.stack stack && not b) (lt-ltb 0 (length node.stack) some.0) ∙ off (begins_with node.stack stack) in
    λ i. record { stack = node.stack; own = node.own; total = (sym (plus node.total) ∙ ap (λ b. node.total + cond b value 0) (sym none)) i } ∷ grown-none stack value nodes some.1 i
  where
    off : (b : Bool) → (b && false) ≡ false
    off true = refl
    off false = refl

    plus : (n : ℕ) → n + 0 ≡ n
    plus n = omega arith

pub nodes-some : (path : List (List ℕ)) (entries : List Entry) → AllByRecursion (λ node. 0 < length node.stack) (nodes_after path entries)
nodes-some path [] = tt
nodes-some path (e ∷ es) = (last (take (e.depth - 1) path), nodes-some (stack_of path e) es)
  where
    last : (xs : Stack) → 0 < length (xs ++ e.name ∷ [])
    last [] = omega arith
    last (x ∷ xs) = omega arith

-- one entry more
pub nodes-push : (path : List (List ℕ)) (entries : List Entry) (e : Entry)
    → (nodes_after path (entries ++ e ∷ []) ≡ nodes_after path entries ++ record { stack = stack_of (path_after path entries) e; own = e.own; total = e.total } ∷ [])
    × (path_after path (entries ++ e ∷ []) ≡ stack_of (path_after path entries) e)
nodes-push path [] e = (refl, refl)
nodes-push path (x ∷ xs) e =
    let later = nodes-push (stack_of path x) xs e in
    (ap (λ rest. record { stack = stack_of path x; own = x.own; total = x.total } ∷ rest) later.0, later.1)

-- ---- one frame more

pub own-last : (frames : List (List ℕ)) (at value : ℕ) → at + 1 ≡ length frames → value ≡ (if stack_eq (take (at + 1) frames) frames then value else 0)
own-last frames at value last = sym (ap (λ b. cond b value 0) (same_stack (take (at + 1) frames) frames (take_all (at + 1) frames (omega arith))))

pub own-more : (frames : List (List ℕ)) (at value : ℕ) → at < length frames → at + 1 ≢ length frames → 0 ≡ (if stack_eq (take (at + 1) frames) frames then value else 0)
own-more frames at value within more =
    let long = length-take-le (at + 1) frames (omega arith) in
    sym (ap (λ b. cond b value 0) (other_length (take (at + 1) frames) frames (λ same. more (sym long ∙ same))))

-- what is pushed for a frame
pub record IsEntryOf (frames : List (List ℕ)) (at value : ℕ) (e : Entry) : Type 0 where
  pub name : e.name ≡ get_or frames at []
  pub depth : e.depth ≡ at + 1
  pub own : e.own ≡ (if stack_eq (take (at + 1) frames) frames then value else 0)
  pub total : e.total ≡ value

pub frame-pushed : (entries new : List Entry) (e : Entry) (frames : List (List ℕ)) (at value : ℕ) → at < length frames
    → take at (path_after [] entries) ≡ take at frames → IsEntryOf frames at value e → new ≡ entries ++ e ∷ []
    → (nodes_of new ≡ nodes_of entries ++ fresh frames value (take (at + 1) frames) ∷ []) × (path_after [] new ≡ take (at + 1) frames)
unfolding fresh
frame-pushed entries new e frames at value within path is made =
    let pushed = nodes-push [] entries e in
    let back : e.depth - 1 ≡ at = let depth = is.depth in omega arith in
    let stack : stack_of (path_after [] entries) e ≡ take (at + 1) frames =
    (λ i. take (back i) (path_after [] entries) ++ is.name i ∷ []) ∙ ap (λ front. front ++ get_or frames at [] ∷ []) path ∙ sym (take_more frames at [] within) in (
      ap nodes_of made ∙ pushed.0 ∙ (λ i. nodes_of entries ++ record { stack = stack i; own = is.own i; total = is.total i } ∷ []),
      ap (path_after []) made ∙ pushed.1 ∙ stack,
    )

pub length-stacks : (entries : List Entry) → length (stacks_of entries) ≡ length entries
length-stacks entries = length-map (nodes_of entries) (λ (n : Node). n.stack) ∙ length-nodes [] entries

pub places-more : (entries new : List Entry) (e : Entry) (spine after : List ℕ) (frames : List (List ℕ)) (at value : ℕ) → ArePlaces entries spine frames at
    → new ≡ entries ++ e ∷ [] → after ≡ spine ++ length entries ∷ []
    → nodes_of new ≡ nodes_of entries ++ fresh frames value (take (at + 1) frames) ∷ [] → ArePlaces new after frames (at + 1)
unfolding fresh
places-more entries new e spine after frames at value places made spine_is nodes =
    let many = places.many in
    let long : length new ≡ length entries + 1 = ap length made ∙ length-append entries (e ∷ []) in
    let stacks : stacks_of new ≡ stacks_of entries ++ take (at + 1) frames ∷ [] =
    ap (map (λ (n : Node). n.stack)) nodes ∙ map-append (λ (n : Node). n.stack) (nodes_of entries) _ in
    let count = length-stacks entries in
    let early : (n : ℕ) → n < at → get_or after n 0 ≡ get_or spine n 0 =
    λ n near. ap (λ s. get_or s n 0) spine_is ∙ get_or_append_left spine (length entries ∷ []) 0 n (omega arith) in
    let last : (n : ℕ) → at ≤ n → n < at + 1 → get_or after n 0 ≡ length entries =
    λ n far near. ap (λ s. get_or s n 0) spine_is ∙ ap (λ m. get_or (spine ++ length entries ∷ []) m 0) (exact n far near) ∙ get_or-append-add spine (length entries ∷ []) 0 0 in
    record {
      many = ap length spine_is ∙ length-append spine (length entries ∷ []) ∙ ap (λ n. n + 1) many;
      within = λ n near. ⊎_elim
          (λ old. let is = early n old in let was = places.within n old in omega arith)
          (λ far. let is = last n far near in omega arith)
          (cases_lt n at);
      are = λ n near. ⊎_elim
          (λ old. let was = places.within n old in
          (λ i. get_or (stacks i) (early n old i) []) ∙ get_or_append_left (stacks_of entries) (take (at + 1) frames ∷ []) [] (get_or spine n 0) (omega arith) ∙ places.are n old)
          (λ far. (λ i. get_or (stacks i) ((last n far near ∙ sym count) i) []) ∙ seam (stacks_of entries) (take (at + 1) frames) ∙ ap (λ m. take (m + 1) frames) (one n far near))
          (cases_lt n at);
    }
  where
    one : (n : ℕ) → at ≤ n → n < at + 1 → at ≡ n
    one n far near = omega arith

    exact : (n : ℕ) → at ≤ n → n < at + 1 → n ≡ length spine + 0
    exact n far near = let many = places.many in omega arith

    seam : (xs : List Stack) (x : Stack) → get_or (xs ++ x ∷ []) (length xs) [] ≡ x
    seam [] x = refl
    seam (y ∷ ys) x = seam ys x

-- one front more, of a stack whose fronts are pushed in turn
pub fresh-more : (old held new : List Node) (frames : List (List ℕ)) (shared at value : ℕ) → shared ≤ at
    → held ≡ old ++ map (fresh frames value) (fronts frames shared (at - shared))
    → new ≡ held ++ fresh frames value (take (at + 1) frames) ∷ []
    → new ≡ old ++ map (fresh frames value) (fronts frames shared (at + 1 - shared))
fresh-more old held new frames shared at value far is made =
    made ∙ ap (λ h. h ++ fresh frames value (take (at + 1) frames) ∷ []) is
    ∙ append_assoc old (map (fresh frames value) (fronts frames shared (at - shared))) (fresh frames value (take (at + 1) frames) ∷ [])
    ∙ ap (λ t. old ++ t) (sym (map-append (fresh frames value) (fronts frames shared (at - shared)) (take (at + 1) frames ∷ [])))
    ∙ ap (λ f. old ++ map (fresh frames value) f)
    (sym (map-range_with_len_more (λ n. take (n + 1) frames) shared (at - shared) at (omega arith)) ∙ ap (λ n. fronts frames shared n) (next at shared far))
  where
    next : (at shared : ℕ) → shared ≤ at → at - shared + 1 ≡ at + 1 - shared
    next at shared far = omega arith

pub take-path : (n : ℕ) (path frames : List (List ℕ)) → path ≡ take n frames → take n path ≡ take n frames
take-path n path frames is = ap (take n) is ∙ twice n frames
  where
    twice : (n : ℕ) (xs : Stack) → take n (take n xs) ≡ take n xs
    twice zero xs = refl
    twice (suc n) [] = refl
    twice (suc n) (x ∷ xs) = ap (λ rest. x ∷ rest) (twice n xs)

-- ---- another stack with the same fronts

pub take-front : (n c : ℕ) (xs ys : List (List ℕ)) → n ≤ c → take c xs ≡ take c ys → take n xs ≡ take n ys
take-front n c xs ys few same = sym (inner n c xs few) ∙ ap (take n) same ∙ inner n c ys few
  where
    inner : (n c : ℕ) (zs : Stack) → n ≤ c → take n (take c zs) ≡ take n zs
    inner zero c zs few = refl
    inner (suc n) zero zs few = absurd (omega arith)
    inner (suc n) (suc c) [] few = refl
    inner (suc n) (suc c) (z ∷ zs) few = ap (λ rest. z ∷ rest) (inner n c zs (omega arith))

pub grown-front : (count : ℕ) (xs ys : List (List ℕ)) (value : ℕ) (nodes : List Node) → take count xs ≡ take count ys
    → map (grown count xs value) nodes ≡ map (grown count ys value) nodes
unfolding grown
grown-front count xs ys value [] same = refl
grown-front count xs ys value (node ∷ nodes) same =
    λ i. record { stack = node.stack; own = node.own; total = node.total + cond (by (nat_lt count (length node.stack)) refl i) value 0 } ∷ grown-front count xs ys value nodes same i
  where
    off : (x : Bool) → (x && false) ≡ false
    off true = refl
    off false = refl

    by : (far : Bool) → nat_lt count (length node.stack) ≡ far
        → (begins_with node.stack xs && not far) ≡ (begins_with node.stack ys && not far)
    by true is = off (begins_with node.stack xs) ∙ sym (off (begins_with node.stack ys))
    by false is = ⊎_elim
        (λ long. absurd (true≢false (sym (lt-ltb count (length node.stack) long) ∙ is)))
        (λ short. ap (λ front. stack_eq front node.stack && true) (take-front (length node.stack) count xs ys short same))
        (cases_lt count (length node.stack))

-- the fronts that two stacks share have the same places
pub places-front : (entries : List Entry) (spine after : List ℕ) (xs ys : List (List ℕ)) (count shared : ℕ) → ArePlaces entries spine xs count → shared ≤ count
    → take shared xs ≡ take shared ys → after ≡ take shared spine → ArePlaces entries after ys shared
places-front entries spine after xs ys count shared places few same is =
    let many = places.many in
    let each : (n : ℕ) → n < shared → get_or after n 0 ≡ get_or spine n 0 =
    λ n near. ap (λ s. get_or s n 0) is ∙ get_or-take shared spine n 0 near in
    record {
      many = ap length is ∙ length-take-le shared spine (omega arith);
      within = λ n near. let was = places.within n (omega arith) in let same_place = each n near in omega arith;
      are = λ n near. ap (λ i. get_or (stacks_of entries) i []) (each n near) ∙ places.are n (omega arith) ∙ take-front (n + 1) shared xs ys (omega arith) same;
    }

-- growing moves no node
pub places-grown : (entries new : List Entry) (spine : List ℕ) (stack other : List (List ℕ)) (count shared value : ℕ) → ArePlaces entries spine stack count
    → length new ≡ length entries → nodes_of new ≡ map (grown shared other value) (nodes_of entries) → ArePlaces new spine stack count
unfolding grown
places-grown entries new spine stack other count shared value places many nodes = record {
  many = places.many;
  within = λ n near. let was = places.within n near in omega arith;
  are = λ n near. ap (λ s. get_or s (get_or spine n 0) []) (ap (map (λ (n : Node). n.stack)) nodes ∙ each (nodes_of entries)) ∙ places.are n near;
}
  where
    each : (ns : List Node) → map (λ (n : Node). n.stack) (map (grown shared other value) ns) ≡ map (λ (n : Node). n.stack) ns
    each [] = refl
    each (n ∷ ns) = ap (λ r. n.stack ∷ r) (each ns)

-- ---- depths

pub deep-pushed : (entries new : List Entry) (e : Entry) (frames : List (List ℕ)) (at value : ℕ) → at < length frames → e.depth ≡ at + 1 → new ≡ entries ++ e ∷ []
    → nodes_of new ≡ nodes_of entries ++ fresh frames value (take (at + 1) frames) ∷ [] → AreDeep entries → AreDeep new
unfolding fresh
deep-pushed entries new e frames at value within depth made nodes deep =
    let stacks : stacks_of new ≡ stacks_of entries ++ take (at + 1) frames ∷ [] =
    ap (map (λ (n : Node). n.stack)) nodes ∙ map-append (λ (n : Node). n.stack) (nodes_of entries) _ in
    let long : e.depth ≡ length (take (at + 1) frames) = depth ∙ sym (length-take-le (at + 1) frames (omega arith)) in
    ap depths_of made ∙ map-append (λ (x : Entry). x.depth) entries (e ∷ []) ∙ (λ i. deep i ++ long i ∷ [])
    ∙ sym (map-append length (stacks_of entries) (take (at + 1) frames ∷ [])) ∙ ap (map length) (sym stacks)

pub deep-grown : (entries new : List Entry) (other : List (List ℕ)) (shared value : ℕ) → depths_of new ≡ depths_of entries
    → nodes_of new ≡ map (grown shared other value) (nodes_of entries) → AreDeep entries → AreDeep new
unfolding grown
deep-grown entries new other shared value depths nodes deep =
    depths ∙ deep ∙ ap (map length) (sym (ap (map (λ (n : Node). n.stack)) nodes ∙ each (nodes_of entries)))
  where
    each : (ns : List Node) → map (λ (n : Node). n.stack) (map (grown shared other value) ns) ≡ map (λ (n : Node). n.stack) ns
    each [] = refl
    each (n ∷ ns) = ap (λ r. n.stack ∷ r) (each ns)
