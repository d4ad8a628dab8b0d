-- Labels: found by name, one left out, one put in its place, pairs that break no rule.
use Rattle.std.proofs.Common.{◌≡◌, ◌∙◌, ◌<◌, ◌≤◌, ◌+◌, ℕ, zero, suc, Bool, true, false, ◌||◌, List, [], ◌∷◌, ◌++◌, length, take, set, get_or, refl, sym, ap, arith, add-one, cond, filter, nat_eq, nat_lt, All, Option, Some, None, Ok, Err, option_map, insert}
use Rattle.std.specs.Prelude.{IfSome, IsTrue, IsSomeAnd, slice_get}
use Rattle.std.specs.BTreeMap.{is_at}
use Rattle.std.specs.List.{AllByRecursion, IsDistinct, find, list_any}
use Rattle.std.specs.List.Sorted.{IsStrictlySortedBy}
use Rattle.std.specs.Map.{keys_of, lookup}
use Rattle.std.specs.Option.{option_or}
use Rattle.std.specs.Ordering.{is_eq}
use Rattle.std.specs.declared.cmp.Ordering.TheVariants.{Less, Equal, Greater}
use Rattle.std.specs.Cmp.Lexicographic.{pointwise, bytes_decides, nat_list_cmp_total, nat_list_eq_equiv, texts_ties}
use Rattle.std.proofs.Math.Seq.{take-suc}
use Rattle.std.proofs.lemmas.Bool.{ltb-true}
use Rattle.std.proofs.lemmas.List.{map-append, take_all}
use Rattle.std.proofs.lemmas.List.Elements.{All-filter, All-push, All-from_recursion, filter_passes, recursion_from_All}
use Rattle.std.proofs.lemmas.List.Sums.{length-filter, count_by-le-length}
use Rattle.std.proofs.lemmas.Option.{slice_get_past}
use Rattle.std.proofs.lemmas.Map.{lookup-none}
use Rattle.std.proofs.lemmas.Map.Entries.{none_past_head}
use Rattle.std.proofs.lemmas.Map.Keys.{IsDistinct-push, IsDistinct-tail}
use Rattle.std.proofs.lemmas.Map.Made.{IsDistinct-keys_filter}
use Rattle.profile_model.proofs.EntryLemmas.{all_entries, length-insert_entry, lookup-insert_entry, sorted-insert_entry}
use Rattle.profile_model.specs.Limits.{most_labels, most_value_bytes}
use Rattle.profile_model.specs.Stacks.{name_cmp}
use Rattle.profile_model.specs.ReadLabels.{IsFirstFault, IsReadLabels}
use Rattle.profile_model.specs.LabelPlaces.{IsPlace, put_all}
use Rattle.profile_model.specs.LabelSets.{Label, AreLabels, AreProfileLabels, AreSound, IsLabel, has_label, is_label_name, label_of, with_label, with_value}

-- the first pair with a name has its value
pub label_from_find : (pairs : List Label) (name : List ℕ)
    → option_map (λ (pair : Label). pair.1) (find (λ pair. pointwise nat_eq name pair.0) pairs) ≡ label_of pairs name
label_from_find [] name = refl
label_from_find (x ∷ xs) name = by (pointwise nat_eq name x.0) (label_from_find xs name)
  where
    by : (b : Bool) → option_map (λ (pair : Label). pair.1) (find (λ pair. pointwise nat_eq name pair.0) xs) ≡ label_of xs name
        → option_map (λ (pair : Label). pair.1) (cond b (Some x) (find (λ pair. pointwise nat_eq name pair.0) xs)) ≡ cond b (Some x.1) (label_of xs name)
    by true later = refl
    by false later = later

-- what a filter of entries keeps stands in order
below_all-filter : (p : Label → Bool) (least : List ℕ) (pairs : List Label)
    → AllByRecursion (λ y. name_cmp least y ≡ Less) (keys_of pairs) → AllByRecursion (λ y. name_cmp least y ≡ Less) (keys_of (filter p pairs))
below_all-filter p least [] all = tt
below_all-filter p least (x ∷ xs) all = by (p x) (below_all-filter p least xs all.1)
  where
    by : (b : Bool) → AllByRecursion (λ y. name_cmp least y ≡ Less) (keys_of (filter p xs)) → AllByRecursion (λ y. name_cmp least y ≡ Less) (keys_of (cond b (x ∷ filter p xs) (filter p xs)))
    by true later = (all.0, later)
    by false later = later

pub AreLabels-filter : (p : Label → Bool) (pairs : List Label) → AreLabels pairs → AreLabels (filter p pairs)
unfolding IsStrictlySortedBy
AreLabels-filter p [] sorted = tt
AreLabels-filter p (x ∷ xs) sorted = by (p x) (AreLabels-filter p xs sorted.1)
  where
    by : (b : Bool) → AreLabels (filter p xs) → AreLabels (cond b (x ∷ filter p xs) (filter p xs))
    by true later = (below_all-filter p x.0 xs sorted.0, later)
    by false later = later

pub AreProfileLabels-filter : (p : Label → Bool) (labels : List Label) → AreProfileLabels labels → AreProfileLabels (filter p labels)
AreProfileLabels-filter p labels are = record {
  few = let kept = length-filter p labels in let less = count_by-le-length p labels in let few = are.few in omega arith;
  each = All-filter p IsLabel labels are.each;
}

-- ---- pairs that break no rule, and one more

any_key : (pairs : List Label) (name : List ℕ) → list_any (pointwise nat_eq name) (keys_of pairs) ≡ has_label pairs name
any_key [] name = refl
any_key (x ∷ xs) name = ap (λ b. pointwise nat_eq name x.0 || b) (any_key xs name)

pub AreSound-more : (pairs : List Label) (at : ℕ) (pair : Label) → at < length pairs → AreSound (take at pairs) → pair ≡ get_or pairs at pair
    → IsTrue (is_label_name pair.0) → length pair.1 ≤ most_value_bytes → has_label (take at pairs) pair.0 ≡ false → AreSound (take (at + 1) pairs)
AreSound-more pairs at pair short sound is named valued new =
    let next : take (at + 1) pairs ≡ take at pairs ++ pair ∷ [] =
    rw add-one (take-suc pairs at pair short ∙ ap (λ (last : Label). take at pairs ++ last ∷ []) (sym is)) in
    let keys : keys_of (take at pairs ++ pair ∷ []) ≡ keys_of (take at pairs) ++ pair.0 ∷ [] =
    map-append (λ (x : Label). x.0) (take at pairs) (pair ∷ []) in
    rw next (record {
      names = All-push (λ (x : Label). IsTrue (is_label_name x.0)) (take at pairs) pair sound.names named;
      values = All-push (λ (x : Label). length x.1 ≤ most_value_bytes) (take at pairs) pair sound.values valued;
      distinct = rw keys (IsDistinct-push nat_list_eq_equiv (keys_of (take at pairs)) pair.0 sound.distinct (any_key (take at pairs) pair.0 ∙ new));
    })

pub label_from_found : (pairs labels : List Label) (name : List ℕ) (found : Option Label) → found ≡ find (λ pair. pointwise nat_eq name pair.0) pairs → pairs ≡ labels
    → option_map (λ (pair : Label). pair.1) found ≡ label_of labels name
label_from_found pairs labels name found is same =
    ap (option_map (λ (pair : Label). pair.1)) is ∙ label_from_find pairs name ∙ ap (λ (all : List Label). label_of all name) same

pub AreSound-none : (pairs : List Label) → AreSound (take 0 pairs)
unfolding IsDistinct
AreSound-none pairs = record { names = λ k d short. absurd (omega arith); values = λ k d short. absurd (omega arith); distinct = tt }

pub AreSound-all : (pairs : List Label) (at : ℕ) → length pairs ≤ at → AreSound (take at pairs) → AreSound pairs
AreSound-all pairs at all sound = rw take_all at sound

-- what holds of the pair at a place
pub first_fault : (pairs : List Label) (at : ℕ) (pair : Label) (Broken : Label → Type 0) → at < length pairs → pair ≡ get_or pairs at pair
    → AreSound (take at pairs) → Broken pair → IsFirstFault pairs at Broken
first_fault pairs at pair Broken short is sound broken = record { before = sound; here = here pairs at short is }
  where
    here : (rest : List Label) (k : ℕ) → k < length rest → pair ≡ get_or rest k pair → IsSomeAnd (slice_get rest k) Broken
    here [] k inside same = absurd (omega arith)
    here (x ∷ xs) zero inside same = rw (← same) broken
    here (x ∷ xs) (suc k) inside same = here xs k (omega arith) same

-- ---- one label put in its place

same_name : (xs ys : List ℕ) → name_cmp xs ys ≡ Equal → xs ≡ ys
same_name xs ys tied = (bytes_decides xs ys).0 (texts_ties xs ys ∙ ap is_eq tied)

inserted_at : (labels : List Label) (at : ℕ) (name value : List ℕ) → at ≤ length labels → AllByRecursion (λ (label : Label). name_cmp name label.0 ≡ Greater) (take at labels)
    → IfSome (slice_get labels at) (λ (label : Label). name_cmp name label.0 ≡ Less) → with_label labels name value ≡ insert labels at (name, value)
inserted_at [] zero name value short below above = refl
inserted_at [] (suc at) name value short below above = absurd (omega arith)
inserted_at (x ∷ xs) zero name value short below above = rw above refl
inserted_at (x ∷ xs) (suc at) name value short below above = rw below.0 (ap (λ (rest : List Label). x ∷ rest) (inserted_at xs at name value (omega arith) below.1 above))

replaced_at : (labels : List Label) (at : ℕ) (name value : List ℕ) → AllByRecursion (λ (label : Label). name_cmp name label.0 ≡ Greater) (take at labels)
    → IsSomeAnd (slice_get labels at) (λ (label : Label). name_cmp name label.0 ≡ Equal) → with_label labels name value ≡ set labels at (name, value)
replaced_at [] at name value below tied = absurd tied
replaced_at (x ∷ xs) zero name value below tied = rw tied (ap (λ (key : List ℕ). (key, value) ∷ xs) (sym (same_name name x.0 tied)))
replaced_at (x ∷ xs) (suc at) name value below tied = rw below.0 (ap (λ (rest : List Label). x ∷ rest) (replaced_at xs at name value below.1 tied))

-- at the place of the name
pub label_inserted : (labels : List Label) (name value : List ℕ) (at : ℕ) → IsPlace labels name (Err at) → with_label labels name value ≡ insert labels at (name, value)
label_inserted labels name value at place =
    inserted_at labels at name value place.1 (recursion_from_All (λ (label : Label). name_cmp name label.0 ≡ Greater) (take at labels) place.0) place.2

pub label_replaced : (labels : List Label) (name value : List ℕ) (at : ℕ) → IsPlace labels name (Ok at) → with_label labels name value ≡ set labels at (name, value)
label_replaced labels name value at place =
    replaced_at labels at name value (recursion_from_All (λ (label : Label). name_cmp name label.0 ≡ Greater) (take at labels) place.0) place.1

-- past all names
pub place_past : (labels : List Label) (at : ℕ) (name : List ℕ) → length labels ≤ at → All (λ (label : Label). name_cmp name label.0 ≡ Greater) (take at labels)
    → IsPlace labels name (Err (length labels))
place_past labels at name all below =
    let whole : take at labels ≡ labels = take_all at labels all in
    let same : take (length labels) labels ≡ labels = take_all (length labels) labels (omega arith) in
    (rw same (rw whole at below), omega arith, rw (slice_get_past labels (length labels) (omega arith)) tt)

pub AreLabels-with_label : (labels : List Label) (name value : List ℕ) → AreLabels labels → AreLabels (with_label labels name value)
AreLabels-with_label labels name value sorted = sorted-insert_entry nat_list_cmp_total labels name value sorted

each-with_label : (labels : List Label) (name value : List ℕ) → IsLabel (name, value) → AllByRecursion IsLabel labels → AllByRecursion IsLabel (with_label labels name value)
each-with_label labels name value new all =
    all_entries IsLabel name_cmp name value labels new (λ e old. record { name = old.name; value = new.value }) all

pub AreProfileLabels-with_label : (labels : List Label) (name value : List ℕ) → length labels ≤ most_labels → AreProfileLabels labels → IsLabel (name, value)
    → AreProfileLabels (with_label labels name value)
AreProfileLabels-with_label labels name value few are new = record {
  few = let more = length-insert_entry name_cmp labels name value in omega arith;
  each = All-from_recursion IsLabel (with_label labels name value) (each-with_label labels name value new (recursion_from_All IsLabel labels are.each));
}

by_order : (labels : List Label) (name : List ℕ) → label_of labels name ≡ lookup (is_at (name_cmp name)) labels
by_order labels name = ap (λ (test : List ℕ → Bool). lookup test labels) (λ i key. texts_ties name key i)

pub label_of-with_label : (labels : List Label) (name value other : List ℕ)
    → label_of (with_label labels name value) other ≡ cond (pointwise nat_eq other name) (Some value) (label_of labels other)
label_of-with_label labels name value other =
    by_order (with_label labels name value) other
    ∙ lookup-insert_entry nat_list_cmp_total labels name value other
    ∙ (λ i. cond (sym (texts_ties other name) i) (Some value) (sym (by_order labels other) i))

-- ---- the labels of pairs, taken one after another

label_of-put_all : (labels pairs : List Label) (name : List ℕ) → IsDistinct (pointwise nat_eq) (keys_of pairs)
    → label_of (put_all labels pairs) name ≡ option_or (label_of pairs name) (label_of labels name)
label_of-put_all labels [] name distinct = refl
label_of-put_all labels (p ∷ ps) name distinct =
    label_of-put_all (with_label labels p.0 p.1) ps name (IsDistinct-tail (pointwise nat_eq) p.0 (keys_of ps) distinct)
    ∙ ap (option_or (label_of ps name)) (label_of-with_label labels p.0 p.1 name)
    ∙ by (pointwise nat_eq name p.0) refl
  where
    by : (b : Bool) → pointwise nat_eq name p.0 ≡ b
        → option_or (label_of ps name) (cond b (Some p.1) (label_of labels name)) ≡ option_or (cond b (Some p.1) (label_of ps name)) (label_of labels name)
    by true is = ap (λ (found : Option (List ℕ)). option_or found (Some p.1)) (lookup-none (pointwise nat_eq name) ps (none_past_head nat_list_eq_equiv name p ps distinct is))
    by false is = refl

AreLabels-put_all : (labels pairs : List Label) → AreLabels labels → AreLabels (put_all labels pairs)
AreLabels-put_all labels [] sorted = sorted
AreLabels-put_all labels (p ∷ ps) sorted = AreLabels-put_all (with_label labels p.0 p.1) ps (AreLabels-with_label labels p.0 p.1 sorted)

each-put_all : (labels pairs : List Label) → AllByRecursion IsLabel labels → AllByRecursion IsLabel pairs → AllByRecursion IsLabel (put_all labels pairs)
each-put_all labels [] all new = all
each-put_all labels (p ∷ ps) all new = each-put_all (with_label labels p.0 p.1) ps (each-with_label labels p.0 p.1 new.0 all) new.1

length-put_all : (labels pairs : List Label) → length (put_all labels pairs) ≤ length labels + length pairs
length-put_all labels [] = omega arith
length-put_all labels (p ∷ ps) =
    let first = length-insert_entry name_cmp labels p.0 p.1 in let later = length-put_all (with_label labels p.0 p.1) ps in omega arith

pub none_sorted : AreLabels []
unfolding IsStrictlySortedBy
none_sorted = tt

or_none : {X : Type 0} (found : Option X) → option_or found None ≡ found
or_none None = refl
or_none (Some x) = refl

sound_labels : (pairs : List Label) → AreSound pairs → All IsLabel (with_value pairs)
sound_labels pairs sound k d short = record {
  name = All-filter (λ (x : Label). nat_lt 0 (length x.1)) (λ (x : Label). IsTrue (is_label_name x.0)) pairs sound.names k d short;
  value = (
    ltb-true _ _ (filter_passes (λ (x : Label). nat_lt 0 (length x.1)) pairs k d short),
    All-filter (λ (x : Label). nat_lt 0 (length x.1)) (λ (x : Label). length x.1 ≤ most_value_bytes) pairs sound.values k d short,
  );
}

-- what the labels of pairs are, where these break no rule
pub record AreRead (pairs labels : List Label) : Type 0 where
  pub read : IsReadLabels pairs (Ok labels)
  pub few : length labels ≤ most_labels
  pub profile : AreProfileLabels labels

pub read_labels : (pairs : List Label) → AreSound pairs → length (with_value pairs) ≤ most_labels → AreRead pairs (put_all [] (with_value pairs))
read_labels pairs sound few =
    let kept = with_value pairs in
    let apart = IsDistinct-keys_filter (pointwise nat_eq) (λ (x : Label). nat_lt 0 (length x.1)) pairs sound.distinct in
    let size = length-put_all [] kept in
    record {
      read = (
        sound,
        few,
        record {
          ascending = AreLabels-put_all [] kept none_sorted;
          exact = λ name. label_of-put_all [] kept name apart ∙ or_none (label_of kept name);
        },
      );
      few = omega arith;
      profile = record {
        few = omega arith;
        each = All-from_recursion IsLabel (put_all [] kept) (each-put_all [] kept tt (recursion_from_All IsLabel kept (sound_labels pairs sound)));
      };
    }

-- one pair more
pub put_all-more : (labels : List Label) (pair : Label) (rest : List Label)
    → put_all (put_all labels (with_value (pair ∷ []))) (with_value rest) ≡ put_all labels (with_value (pair ∷ rest))
put_all-more labels pair rest = by (nat_lt 0 (length pair.1))
  where
    by : (b : Bool) → put_all (put_all labels (cond b (pair ∷ []) [])) (with_value rest) ≡ put_all labels (cond b (pair ∷ with_value rest) (with_value rest))
    by true = refl
    by false = refl
