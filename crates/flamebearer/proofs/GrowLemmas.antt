-- A level grows by what stands below a spot, child by child.
use Rattle.std.proofs.Common.{◌≡◌, ℕ, ◌+◌, ◌-◌, ◌<◌, ◌≤◌, List, [], ◌∷◌, ◌++◌, length, map, take, get_or, Bool, true, false, cond, Option, Some, None, arith, refl, sym, ap, ◌∙◌, subst, append_assoc, append-nil, ⊎_elim}
use Rattle.std.specs.Prelude.{◌^◌, filter, not, sum_by, codes, unwrap_or}
use Rattle.std.specs.List.{AllByRecursion}
use Rattle.std.proofs.lemmas.Bool.{and_from, and_left, cases_lt, eq-eqb, ne_eqb}
use Rattle.std.proofs.lemmas.List.{get_or-map, length-map, map-append, take-take, take_more}
use Rattle.std.proofs.lemmas.List.Elements.{filter-append}
use Rattle.std.proofs.lemmas.List.Sums.{sum_by-cons, sum_by-take-le, sum_by_push}
use Rattle.flamebearer.specs.declared.branches.Value.{Value}
use Rattle.flamebearer.specs.declared.levels.Stands.{Stands}
use Rattle.flamebearer.specs.declared.levels.Stands.TheVariants.{Root, At, Others}
use Rattle.flamebearer.specs.declared.levels.Spot.{Spot}
use Rattle.flamebearer.specs.Trees.{Node, begins_with}
use Rattle.flamebearer.specs.Pictures.{Shown, below, is_child, kept_nodes, left_nodes, others, shown_of, side_by_side}
use Rattle.flamebearer.specs.Sides.{nodes_with}
use Rattle.flamebearer.specs.Spots.{AreSpanned, AreStacks, IsGrown, IsSpot, below_spot, end_below, first_below, has_flag, own_before, shown_at}
use Rattle.flamebearer.proofs.ChildLemmas.{IsUnder, under-node, under-root}
use Rattle.flamebearer.proofs.PlaceLemmas.{children, children-more, kept-children, left-children, node_at}

-- ---- side by side

side_by_side-append : (begin : ℕ) (xs ys : List Shown) → side_by_side begin (xs ++ ys) ≡ side_by_side begin xs ++ side_by_side (begin + sum_by (λ s. s.total) xs) ys
unfolding side_by_side
side_by_side-append begin [] ys = ap (λ b. side_by_side b ys) (none begin)
  where
    none : (n : ℕ) → n ≡ n + 0
    none n = omega arith
side_by_side-append begin (x ∷ xs) ys =
    let sum = sum_by-cons (λ (s : Shown). s.total) x xs in
    let moved : begin + x.total + sum_by (λ s. s.total) xs ≡ begin + sum_by (λ s. s.total) (x ∷ xs) = omega arith in
    ap (λ r. record { name = x.name; stack = x.stack; own = x.own; total = x.total; begin = begin } ∷ r)
    (side_by_side-append (begin + x.total) xs ys ∙ ap (λ b. side_by_side (begin + x.total) xs ++ side_by_side b ys) moved)

-- what nodes come to, where there are any
abbrev pub summed : List Node → Option ℕ
summed [] = None
summed (node ∷ more) = Some (sum_by (λ one. one.total) (node ∷ more))

summed-push : (nodes : List Node) (node : Node) → summed (nodes ++ node ∷ []) ≡ Some (unwrap_or (summed nodes) 0 + node.total)
summed-push [] node = ap Some (sum_by-cons (λ (n : Node). n.total) node [] ∙ swap node.total)
  where
    swap : (n : ℕ) → n + 0 ≡ 0 + n
    swap n = omega arith
summed-push (x ∷ xs) node = ap Some (sum_by_push (λ (n : Node). n.total) (x ∷ xs) node)

-- what stands for them
abbrev pub tail : Option ℕ → ℕ → List Shown
tail None begin = []
tail (Some total) begin = record { name = codes "other"; stack = None; own = total; total = total; begin = begin } ∷ []

tail-others : (nodes : List Node) (begin : ℕ) → side_by_side begin (others nodes) ≡ tail (summed nodes) begin
unfolding side_by_side others
tail-others [] begin = refl
tail-others (n ∷ ns) begin = refl

-- ---- where the walk over the children stands

pub record IsShownSo (stacks : List (List (List ℕ))) (values : List Value) (kept : List Bool) (front : List (List ℕ)) (first end start : ℕ) (added : List Spot) (begin : ℕ) (left : Option ℕ) (at : ℕ) : Type 0 where
  pub child : at < end → length (get_or stacks at []) ≡ length front + 1
  pub shown : map (shown_at stacks) added ≡ side_by_side start (map shown_of (map (node_at stacks values) (filter (has_flag kept) (children stacks front first (at - first)))))
  pub begins : begin ≡ start + sum_by (λ s. s.total) (map shown_of (map (node_at stacks values) (filter (has_flag kept) (children stacks front first (at - first)))))
  pub lefts : left ≡ summed (map (node_at stacks values) (filter (λ n. not (has_flag kept n)) (children stacks front first (at - first))))

pub record IsAlong (ends : List ℕ) (values : List Value) (kept : List Bool) (spot : Spot) (old items : List Spot) (begin : ℕ) (left : Option ℕ) (at : ℕ) : Type 0 where
  pub added : List Spot
  pub holds : items ≡ old ++ added
  pub early : first_below ends spot.stands ≤ at
  pub near : at ≤ end_below ends spot.stands
  pub even : begin + unwrap_or left 0 + own_before values (first_below ends spot.stands) ≡ spot.begin + spot.own + own_before values at
  pub spots : AllByRecursion (IsSpot ends values (first_below ends spot.stands + 1)) added
  pub none : at ≡ first_below ends spot.stands → (added ≡ []) × (left ≡ None)
  pub shown : (stacks : List (List (List ℕ))) (front : List (List ℕ)) → IsUnder stacks ends front (first_below ends spot.stands) (end_below ends spot.stands) → length stacks ≡ length ends
      → IsShownSo stacks values kept front (first_below ends spot.stands) (end_below ends spot.stands) (spot.begin + spot.own) added begin left at

first-end : (ends : List ℕ) (values : List Value) (stands : Stands) → AreSpanned ends values → first_below ends stands ≤ length ends → first_below ends stands ≤ end_below ends stands
first-end ends values Root spans within = omega arith
first-end ends values (At p) spans within = let later = spans.later p (omega arith) in omega arith
first-end ends values Others spans within = omega arith

end-all : (ends : List ℕ) (values : List Value) (stands : Stands) → AreSpanned ends values → first_below ends stands ≤ length ends → end_below ends stands ≤ length ends
end-all ends values Root spans within = omega arith
end-all ends values (At p) spans within = spans.within p (omega arith)
end-all ends values Others spans within = omega arith

end-near : (ends : List ℕ) (values : List Value) (stands : Stands) → AreSpanned ends values → first_below ends stands ≤ length ends
    → (at : ℕ) → first_below ends stands ≤ at → at < end_below ends stands → get_or ends at 0 ≤ end_below ends stands
end-near ends values Root spans within at early near = spans.within at near
end-near ends values (At p) spans within at early near = spans.nested p at (omega arith) (omega arith) near
end-near ends values Others spans within at early near = absurd (omega arith)

pub own-le : (values : List Value) (n m : ℕ) → n ≤ m → own_before values n ≤ own_before values m
own-le values n m le =
    let part = sum_by-take-le (λ (v : Value). v.own) (take m values) n in
    let same = ap (sum_by (λ (v : Value). v.own)) (take-take n m values le) in omega arith

pub own-more : (values : List Value) (n : ℕ) (d : Value) → n < length values → own_before values (n + 1) ≡ own_before values n + (get_or values n d).own
own-more values n d within = ap (sum_by (λ (v : Value). v.own)) (take_more values n d within) ∙ sum_by_push (λ (v : Value). v.own) (take n values) (get_or values n d)

pub along-none : (ends : List ℕ) (values : List Value) (kept : List Bool) (spot : Spot) (old : List Spot) → AreSpanned ends values → IsSpot ends values 0 spot
    → IsAlong ends values kept spot old old (spot.begin + spot.own) None (first_below ends spot.stands)
unfolding side_by_side
along-none ends values kept spot old spans is =
    let first = first_below ends spot.stands in
    record {
      added = [];
      holds = sym (append-nil old);
      early = omega arith;
      near = first-end ends values spot.stands spans is.within;
      even = omega arith;
      spots = tt;
      none = λ _. (refl, refl);
      shown = λ stacks front under many. record {
        child = under.starts;
        shown = ap (λ c. side_by_side (spot.begin + spot.own) (map shown_of (map (node_at stacks values) (filter (has_flag kept) c)))) (sym (nothing stacks front first));
        begins = plus (spot.begin + spot.own) ∙ ap (λ c. spot.begin + spot.own + sum_by (λ (s : Shown). s.total) (map shown_of (map (node_at stacks values) (filter (has_flag kept) c)))) (sym (nothing stacks front first));
        lefts = ap (λ c. summed (map (node_at stacks values) (filter (λ n. not (has_flag kept n)) c))) (sym (nothing stacks front first));
      };
    }
  where
    plus : (n : ℕ) → n ≡ n + 0
    plus n = omega arith

    same : (n : ℕ) → n - n ≡ 0
    same n = omega arith

    nothing : (stacks : List (List (List ℕ))) (front : List (List ℕ)) (first : ℕ) → children stacks front first (first - first) ≡ []
    nothing stacks front first = ap (children stacks front first) (same first)

-- ---- one child more

pub next-children : (stacks : List (List (List ℕ))) (ends : List ℕ) (front : List (List ℕ)) (first end at : ℕ) → IsUnder stacks ends front first end → length stacks ≡ length ends
    → first ≤ at → at < end → length (get_or stacks at []) ≡ length front + 1
    → children stacks front first (get_or ends at 0 - first) ≡ children stacks front first (at - first) ++ at ∷ []
next-children stacks ends front first end at under many early near child =
    let all = length-map stacks (length {A = List ℕ}) in
    let inner = under.within in
    let is = under.right.each at (omega arith) (omega arith) in
    let later = is.later in
    let within = is.within in
    let here = get_or-map (length {A = List ℕ}) stacks at [] 0 (omega arith) in
    children-more stacks front first at (get_or ends at 0) early later
    (and_from _ _ (eq-eqb (length (get_or stacks at [])) (length front + 1) child) (under.inside at early near))
    (λ n far before.
    let deep = is.deeper n far before in
    let there = get_or-map (length {A = List ℕ}) stacks n [] 0 (omega arith) in
    and_left _ (begins_with front (get_or stacks n [])) (ne_eqb (length (get_or stacks n [])) (length front + 1) (λ same. absurd (omega arith))))

pub next-child : (stacks : List (List (List ℕ))) (ends : List ℕ) (front : List (List ℕ)) (first end at : ℕ) → IsUnder stacks ends front first end → length stacks ≡ length ends
    → first ≤ at → at < end → length (get_or stacks at []) ≡ length front + 1 → get_or ends at 0 < end → length (get_or stacks (get_or ends at 0) []) ≡ length front + 1
next-child stacks ends front first end at under many early near child more =
    let all = length-map stacks (length {A = List ℕ}) in
    let inner = under.within in
    let is = under.right.each at (omega arith) (omega arith) in
    let later = is.later in
    let deep = under.deeper (get_or ends at 0) (omega arith) more in
    let shallow = is.stops (omega arith) in
    let here = get_or-map (length {A = List ℕ}) stacks at [] 0 (omega arith) in
    let there = get_or-map (length {A = List ℕ}) stacks (get_or ends at 0) [] 0 (omega arith) in omega arith

all-push : {X : Type 0} (P : X → Type 0) (xs : List X) (x : X) → AllByRecursion P xs → P x → AllByRecursion P (xs ++ x ∷ [])
all-push P [] x all is = (is, tt)
all-push P (y ∷ ys) x all is = (all.0, all-push P ys x all.1 is)

filter-push : (p : ℕ → Bool) (xs : List ℕ) (x : ℕ) (b : Bool) → p x ≡ b → filter p (xs ++ x ∷ []) ≡ filter p xs ++ cond b (x ∷ []) []
filter-push p xs x b is = filter-append p xs (x ∷ []) ∙ ap (λ b. filter p xs ++ cond b (x ∷ []) []) is

-- what a child at this place would be
abbrev pub spot_at : List Value → ℕ → ℕ → Spot
spot_at values at begin = record {
  stands = At at;
  own = (get_or values at (record { own = 0; total = 0 })).own;
  total = (get_or values at (record { own = 0; total = 0 })).total;
  begin = begin;
}

-- how far the values come up to the child's end
pub record IsRoom (ends : List ℕ) (values : List Value) (spot : Spot) (begin : ℕ) (left : Option ℕ) (at total : ℕ) : Type 0 where
  pub room : begin + unwrap_or left 0 + total ≤ own_before values (length ends)
  pub even : begin + unwrap_or left 0 + total + own_before values (first_below ends spot.stands) ≡ spot.begin + spot.own + own_before values (get_or ends at 0)
  pub later : at < get_or ends at 0
  pub near : get_or ends at 0 ≤ end_below ends spot.stands
  pub within : at < length ends
  pub bounded : own_before values (length ends) < 2 ^ 63

pub room : (ends : List ℕ) (values : List Value) (kept : List Bool) (spot : Spot) (old items : List Spot) (begin : ℕ) (left : Option ℕ) (at : ℕ)
    → AreSpanned ends values → IsSpot ends values 0 spot → IsAlong ends values kept spot old items begin left at → at < end_below ends spot.stands
    → IsRoom ends values spot begin left at (get_or values at (record { own = 0; total = 0 })).total
room ends values kept spot old items begin left at spans is along near =
    let all = end-all ends values spot.stands spans is.within in
    let early = along.early in
    let even = along.even in
    let inner = is.inner in
    let end = end-near ends values spot.stands spans is.within at early near in
    let less = own-le values (get_or ends at 0) (end_below ends spot.stands) end in
    let span = spans.spans at (record { own = 0; total = 0 }) (omega arith) in
    record { room = omega arith; even = omega arith; later = spans.later at (omega arith); near = end; within = omega arith; bounded = spans.bounded }

new-spot : (ends : List ℕ) (values : List Value) (first at begin : ℕ) → AreSpanned ends values → first ≤ at → at < length ends
    → begin + (get_or values at (record { own = 0; total = 0 })).total ≤ own_before values (length ends) → IsSpot ends values (first + 1) (spot_at values at begin)
new-spot ends values first at begin spans early within whole =
    let many = spans.many in
    let span = spans.spans at (record { own = 0; total = 0 }) within in
    let more = own-more values at (record { own = 0; total = 0 }) (omega arith) in
    let later = spans.later at within in
    let less = own-le values (at + 1) (get_or ends at 0) (omega arith) in
    record { deep = omega arith; within = omega arith; own = omega arith; whole = whole; inner = omega arith }

pub along-kept : (ends : List ℕ) (values : List Value) (kept : List Bool) (spot : Spot) (old items : List Spot) (begin : ℕ) (left : Option ℕ) (at : ℕ)
    → AreSpanned ends values → IsSpot ends values 0 spot → IsAlong ends values kept spot old items begin left at → at < end_below ends spot.stands → has_flag kept at ≡ true
    → IsAlong ends values kept spot old (items ++ spot_at values at begin ∷ []) (begin + (get_or values at (record { own = 0; total = 0 })).total) left (get_or ends at 0)
unfolding side_by_side
along-kept ends values kept spot old items begin left at spans is along near flag =
    let early = along.early in
    let room = room ends values kept spot old items begin left at spans is along near in
    let first = first_below ends spot.stands in
    let end = end_below ends spot.stands in
    record {
      added = along.added ++ spot_at values at begin ∷ [];
      holds = ap (λ l. l ++ spot_at values at begin ∷ []) along.holds ∙ append_assoc old along.added (spot_at values at begin ∷ []);
      early = let later = room.later in omega arith;
      near = room.near;
      even = let even = room.even in omega arith;
      spots = all-push (IsSpot ends values (first + 1)) along.added (spot_at values at begin) along.spots
          (new-spot ends values first at begin spans early room.within (let fits = room.room in omega arith));
      none = λ same. absurd (let later = room.later in omega arith);
      shown = λ stacks front under many.
          let so = along.shown stacks front under many in
          let child = so.child near in
          let more = next-children stacks ends front first end at under many early near child in
          let now = map shown_of (map (node_at stacks values) (filter (has_flag kept) (children stacks front first (at - first)))) in
          let grown : map shown_of (map (node_at stacks values) (filter (has_flag kept) (children stacks front first (get_or ends at 0 - first)))) ≡ now ++ shown_of (node_at stacks values at) ∷ [] =
          ap (λ c. map shown_of (map (node_at stacks values) (filter (has_flag kept) c))) more
          ∙ ap (λ c. map shown_of (map (node_at stacks values) c)) (filter-push (has_flag kept) (children stacks front first (at - first)) at true flag)
          ∙ ap (map shown_of) (map-append (node_at stacks values) (filter (has_flag kept) (children stacks front first (at - first))) (at ∷ []))
          ∙ map-append shown_of (map (node_at stacks values) (filter (has_flag kept) (children stacks front first (at - first)))) (node_at stacks values at ∷ []) in
          record {
            child = next-child stacks ends front first end at under many early near child;
            shown = map-append (shown_at stacks) along.added (spot_at values at begin ∷ [])
                ∙ (λ i. so.shown i ++ record { name = (shown_of (node_at stacks values at)).name; stack = Some (get_or stacks at []); own = (node_at stacks values at).own; total = (node_at stacks values at).total; begin = so.begins i } ∷ [])
                ∙ sym (side_by_side-append (spot.begin + spot.own) now (shown_of (node_at stacks values at) ∷ []))
                ∙ ap (side_by_side (spot.begin + spot.own)) (sym grown);
            begins = let was = so.begins in
                let sum = sum_by_push (λ (s : Shown). s.total) now (shown_of (node_at stacks values at)) in
                let all = ap (sum_by (λ (s : Shown). s.total)) grown in omega arith;
            lefts = so.lefts
                ∙ ap (λ c. summed (map (node_at stacks values) c))
                (sym (append-nil (filter (λ n. not (has_flag kept n)) (children stacks front first (at - first))))
                ∙ sym (filter-push (λ n. not (has_flag kept n)) (children stacks front first (at - first)) at false (ap not flag))
                ∙ ap (filter (λ n. not (has_flag kept n))) (sym more));
          };
    }

pub along-left : (ends : List ℕ) (values : List Value) (kept : List Bool) (spot : Spot) (old items : List Spot) (begin : ℕ) (left : Option ℕ) (at : ℕ)
    → AreSpanned ends values → IsSpot ends values 0 spot → IsAlong ends values kept spot old items begin left at → at < end_below ends spot.stands → has_flag kept at ≡ false
    → IsAlong ends values kept spot old items begin (Some (unwrap_or left 0 + (get_or values at (record { own = 0; total = 0 })).total)) (get_or ends at 0)
along-left ends values kept spot old items begin left at spans is along near flag =
    let early = along.early in
    let room = room ends values kept spot old items begin left at spans is along near in
    let first = first_below ends spot.stands in
    let end = end_below ends spot.stands in
    record {
      added = along.added;
      holds = along.holds;
      early = let later = room.later in omega arith;
      near = room.near;
      even = let even = room.even in omega arith;
      spots = along.spots;
      none = λ same. absurd (let later = room.later in omega arith);
      shown = λ stacks front under many.
          let so = along.shown stacks front under many in
          let child = so.child near in
          let more = next-children stacks ends front first end at under many early near child in
          let same : filter (has_flag kept) (children stacks front first (at - first)) ≡ filter (has_flag kept) (children stacks front first (get_or ends at 0 - first)) =
          sym (append-nil (filter (has_flag kept) (children stacks front first (at - first))))
          ∙ sym (filter-push (has_flag kept) (children stacks front first (at - first)) at false flag)
          ∙ ap (filter (has_flag kept)) (sym more) in
          record {
            child = next-child stacks ends front first end at under many early near child;
            shown = so.shown ∙ ap (λ c. side_by_side (spot.begin + spot.own) (map shown_of (map (node_at stacks values) c))) same;
            begins = so.begins ∙ ap (λ c. spot.begin + spot.own + sum_by (λ (s : Shown). s.total) (map shown_of (map (node_at stacks values) c))) same;
            lefts = ap (λ l. Some (unwrap_or l 0 + (node_at stacks values at).total)) so.lefts
                ∙ sym (summed-push (map (node_at stacks values) (filter (λ n. not (has_flag kept n)) (children stacks front first (at - first)))) (node_at stacks values at))
                ∙ ap summed (sym (map-append (node_at stacks values) (filter (λ n. not (has_flag kept n)) (children stacks front first (at - first))) (at ∷ [])))
                ∙ ap (λ c. summed (map (node_at stacks values) c))
                (sym (filter-push (λ n. not (has_flag kept n)) (children stacks front first (at - first)) at true (ap not flag))
                ∙ ap (filter (λ n. not (has_flag kept n))) (sym more));
          };
    }

-- ---- at the end

-- what is shown, with what stands for the others
below-is : (stacks : List (List (List ℕ))) (values : List Value) (ends : List ℕ) (kept : List Bool) (front : List (List ℕ)) (first end start : ℕ) (added : List Spot) (begin : ℕ) (left : Option ℕ)
    → IsUnder stacks ends front first end → length values ≡ length stacks → first ≤ end → IsShownSo stacks values kept front first end start added begin left end
    → map (shown_at stacks) added ++ tail left begin
    ≡ side_by_side start (map shown_of (filter (is_child front) (kept_nodes (has_flag kept) (nodes_with stacks values))) ++ others (filter (is_child front) (left_nodes (has_flag kept) (nodes_with stacks values))))
below-is stacks values ends kept front first end start added begin left under many some so =
    let now = map shown_of (map (node_at stacks values) (filter (has_flag kept) (children stacks front first (end - first)))) in
    let rest = map (node_at stacks values) (filter (λ n. not (has_flag kept n)) (children stacks front first (end - first))) in
    (λ i. so.shown i ++ tail (so.lefts i) (so.begins i))
    ∙ ap (λ t. side_by_side start now ++ t) (sym (tail-others rest (start + sum_by (λ s. s.total) now)))
    ∙ sym (side_by_side-append start now (others rest))
    ∙ (λ i. side_by_side start (map shown_of (sym (kept-children stacks values ends front first end (has_flag kept) many under some) i)
    ++ others (sym (left-children stacks values ends front first end (has_flag kept) many under some) i)))

-- what is added after the walk
abbrev pub other_spot : Option ℕ → ℕ → List Spot
other_spot None begin = []
other_spot (Some total) begin = record { stands = Others; own = total; total = total; begin = begin } ∷ []

other-shown : (stacks : List (List (List ℕ))) (left : Option ℕ) (begin : ℕ) → map (shown_at stacks) (other_spot left begin) ≡ tail left begin
other-shown stacks None begin = refl
other-shown stacks (Some total) begin = refl

shown-below : (stacks : List (List (List ℕ))) (ends : List ℕ) (values : List Value) (kept : List Bool) (stands : Stands) (own total begin : ℕ) (old items : List Spot) (after : ℕ) (left : Option ℕ) (at : ℕ)
    → AreStacks stacks ends → length values ≡ length stacks → first_below ends stands ≤ length ends → end_below ends stands ≤ at → first_below ends stands ≤ end_below ends stands
    → (along : IsAlong ends values kept (record { stands = stands; own = own; total = total; begin = begin }) old items after left at)
    → map (shown_at stacks) along.added ++ tail left after ≡ below_spot stacks values kept (record { stands = stands; own = own; total = total; begin = begin })
unfolding below
shown-below stacks ends values kept stands own total begin old items after left at are many within done some along = by stands within done some along
  where
    all : length ends ≡ length stacks
    all = are.right.many ∙ length-map stacks (length {A = List ℕ})

    exact : (a b : ℕ) → a ≤ b → b ≤ a → a ≡ b
    exact a b one two = omega arith

    by : (stands : Stands) → first_below ends stands ≤ length ends → end_below ends stands ≤ at → first_below ends stands ≤ end_below ends stands
        → (along : IsAlong ends values kept (record { stands = stands; own = own; total = total; begin = begin }) old items after left at)
        → map (shown_at stacks) along.added ++ tail left after ≡ below_spot stacks values kept (record { stands = stands; own = own; total = total; begin = begin })
    by Root within done some along =
        let under = under-root stacks ends are in
        let last = exact at (length ends) along.near done in
        below-is stacks values ends kept [] 0 (length ends) (begin + own) along.added after left under many some
        (subst (IsShownSo stacks values kept [] 0 (length ends) (begin + own) along.added after left) last (along.shown stacks [] under (sym all)))
    by (At p) within done some along =
        let count = all in
        let under = under-node stacks ends are p (omega arith) in
        let last = exact at (get_or ends p 0) along.near done in
        below-is stacks values ends kept (get_or stacks p []) (p + 1) (get_or ends p 0) (begin + own) along.added after left under many some
        (subst (IsShownSo stacks values kept (get_or stacks p []) (p + 1) (get_or ends p 0) (begin + own) along.added after left) last (along.shown stacks (get_or stacks p []) under (sym all)))
    by Others within done some along =
        let nothing = along.none (exact at (length ends) along.near done) in
        λ i. map (shown_at stacks) (nothing.0 i) ++ tail (nothing.1 i) after

pub grown : (ends : List ℕ) (values : List Value) (kept : List Bool) (spot : Spot) (old items new : List Spot) (begin : ℕ) (left : Option ℕ) (at : ℕ)
    → AreSpanned ends values → IsSpot ends values 0 spot → IsAlong ends values kept spot old items begin left at → end_below ends spot.stands ≤ at
    → new ≡ items ++ other_spot left begin → IsGrown ends values kept spot old new
grown ends values kept spot old items new begin left at spans is along done new-is =
    let some = first-end ends values spot.stands spans is.within in
    record {
      added = along.added ++ other_spot left begin;
      items = new-is ∙ ap (λ l. l ++ other_spot left begin) along.holds ∙ append_assoc old along.added (other_spot left begin);
      shown = λ stacks are.
          let many : length values ≡ length stacks = spans.many ∙ are.right.many ∙ length-map stacks (length {A = List ℕ}) in
          map-append (shown_at stacks) along.added (other_spot left begin)
          ∙ ap (λ t. map (shown_at stacks) along.added ++ t) (other-shown stacks left begin)
          ∙ shown-below stacks ends values kept spot.stands spot.own spot.total spot.begin old items begin left at are many is.within done some along;
      spots = by left along;
    }
  where
    first : ℕ
    first = first_below ends spot.stands

    more : (left : Option ℕ) (total : ℕ) → left ≡ Some total → IsAlong ends values kept spot old items begin left at → IsSpot ends values (first_below ends spot.stands + 1) (record { stands = Others; own = total; total = total; begin = begin })
    more left total some along =
        let early = along.early in
        let near = along.near in
        let all = end-all ends values spot.stands spans is.within in
        let inner = is.inner in
        let le = own-le values at (end_below ends spot.stands) near in
        let even = along.even in
        let value = ap (λ l. unwrap_or l 0) some in
        let apart : at ≡ first_below ends spot.stands → ⊥ = λ same. not_none total (sym some ∙ (along.none same).1) in
        record { deep = strict at (first_below ends spot.stands) (length ends) early apart (omega arith); within = omega arith; own = omega arith; whole = omega arith; inner = omega arith }
      where
        not_none : (n : ℕ) → Some n ≡ None → ⊥
        not_none n is = cc

        strict : (a b n : ℕ) → b ≤ a → (a ≡ b → ⊥) → a ≤ n → b + 1 ≤ n
        strict a b n le apart within = ⊎_elim (λ less. omega arith) (λ more. absurd (apart (omega arith))) (cases_lt b a)

    by : (left : Option ℕ) → (along : IsAlong ends values kept spot old items begin left at) → AllByRecursion (IsSpot ends values (first_below ends spot.stands + 1)) (along.added ++ other_spot left begin)
    by None along = subst (AllByRecursion (IsSpot ends values (first_below ends spot.stands + 1))) (sym (append-nil along.added)) along.spots
    by (Some total) along = all-push (IsSpot ends values (first_below ends spot.stands + 1)) along.added (record { stands = Others; own = total; total = total; begin = begin }) along.spots
        (more (Some total) total refl along)
