-- Pairs make one list of labels, or have one first fault.
use Rattle.std.proofs.Common.{◌≡◌, ◌⊎◌, ⊎_elim, inl, inr, ℕ, zero, suc, ◌<◌, ◌≤◌, Bool, true, false, cond, ◌||◌, List, [], ◌∷◌, length, take, get_or, Option, Some, None, Ok, Err, refl, sym, ap, ◌∙◌, subst, arith, nat_eq, nat_lt}
use Rattle.std.specs.Prelude.{◌&&◌, IsFalse, IsSomeAnd, IsTrue, slice_get}
use Rattle.std.proofs.Math.Dec.{T}
use Rattle.std.specs.List.{AllByRecursion, IsDistinct}
use Rattle.std.specs.List.Sorted.{IsStrictlySortedBy}
use Rattle.std.specs.Map.{keys_of}
use Rattle.std.specs.Ordering.{is_eq}
use Rattle.std.specs.declared.cmp.Ordering.TheVariants.{Less, Equal}
use Rattle.std.specs.Cmp.Lexicographic.{pointwise, bytes_decides, nat_list_cmp_total, nat_list_eq_equiv, texts_ties}
use Rattle.std.specs.FinMap.Entries.{below_all, find, is_sorted, same_entries}
use Rattle.std.proofs.lemmas.Bool.{true≢false}
use Rattle.std.proofs.lemmas.Bool.Decides.{nat_tests}
use Rattle.std.proofs.lemmas.List.{get_or-take, length-take, take_all}
use Rattle.std.proofs.lemmas.Option.{get_or_from_slice_get, none-some, slice_get_within}
use Rattle.profile_model.specs.LabelSets.{Label, AreLabels, AreLabelsOf, AreSound, has_label, is_label_name, label_of, with_value}
use Rattle.profile_model.specs.Limits.{most_labels, most_value_bytes}
use Rattle.profile_model.specs.ReadLabels.{IsFirstFault, IsReadLabels}
use Rattle.profile_model.specs.Stacks.{name_cmp}
use Rattle.profile_model.specs.declared.labels.LabelFault.{LabelFault}
use Rattle.profile_model.specs.declared.labels.LabelFault.TheVariants.{BadName, BadValue, Repeated, TooMany}

-- ---- the labels

below_names : (name : List ℕ) (labels : List Label) → AllByRecursion (λ y. name_cmp name y ≡ Less) (keys_of labels) → T (below_all name_cmp name labels)
below_names name [] all = tt
below_names name (label ∷ labels) all = rw all.0 (below_names name labels all.1)

join : (a b : Bool) → T a → T b → T (a && b)
join true b p q = q
join false b p q = p

rising : (labels : List Label) → AreLabels labels → T (is_sorted name_cmp labels)
unfolding IsStrictlySortedBy
rising [] sorted = tt
rising (label ∷ labels) sorted =
    join (below_all name_cmp label.0 labels) (is_sorted name_cmp labels) (below_names label.0 labels sorted.0) (rising labels sorted.1)

found_label : (labels : List Label) (name : List ℕ) → find name_cmp name labels ≡ label_of labels name
found_label [] name = refl
found_label (label ∷ labels) name = λ i. cond (sym (texts_ties name label.0) i) (Some label.1) (found_label labels name i)

same_name : (name other : List ℕ) → name_cmp name other ≡ Equal → name ≡ other
same_name name other tied = (bytes_decides name other).0 (texts_ties name other ∙ ap is_eq tied)

labels_once : (pairs labels others : List Label) → AreLabelsOf pairs labels → AreLabelsOf pairs others → labels ≡ others
labels_once pairs labels others h k =
    same_entries name_cmp nat_list_cmp_total same_name labels others (rising labels h.ascending) (rising others k.ascending)
    (λ name. found_label labels name ∙ h.exact name ∙ sym (k.exact name) ∙ sym (found_label others name))

-- ---- a pair of pairs without fault

record IsSoundAt (pairs : List Label) (at : ℕ) (pair : Label) : Type 0 where
  named : IsTrue (is_label_name pair.0)
  short : length pair.1 ≤ most_value_bytes
  new : has_label (take at pairs) pair.0 ≡ false

apart_at : (P : List ℕ → Type 0) (pairs : List Label) (n at : ℕ) (pair : Label) → slice_get pairs at ≡ Some pair → at < n
    → AllByRecursion P (keys_of (take n pairs)) → P pair.0
apart_at P [] n at pair here before all = absurd (none-some pair here)
apart_at P (x ∷ xs) zero at pair here before all = absurd (omega arith)
apart_at P (x ∷ xs) (suc n) zero pair here before all = let same : x ≡ pair = cc in subst (λ (p : Label). P p.0) same all.0
apart_at P (x ∷ xs) (suc n) (suc at) pair here before all = apart_at P xs n at pair here (omega arith) all.1

new_at : (pairs : List Label) (n at : ℕ) (pair : Label) → slice_get pairs at ≡ Some pair → at < n
    → IsDistinct (pointwise nat_eq) (keys_of (take n pairs)) → has_label (take at pairs) pair.0 ≡ false
unfolding IsDistinct
new_at [] n at pair here before distinct = absurd (none-some pair here)
new_at (x ∷ xs) zero at pair here before distinct = absurd (omega arith)
new_at (x ∷ xs) (suc n) zero pair here before distinct = refl
new_at (x ∷ xs) (suc n) (suc at) pair here before distinct =
    let later = new_at xs n at pair here (omega arith) distinct.1 in
    let apart = apart_at (λ y. pointwise nat_eq x.0 y ≡ false) xs n at pair here (omega arith) distinct.0 in
    (λ i. (nat_list_eq_equiv.symm pair.0 x.0 ∙ apart) i || later i)

sound_at : (pairs : List Label) (n at : ℕ) (pair : Label) → slice_get pairs at ≡ Some pair → at < n → AreSound (take n pairs) → IsSoundAt pairs at pair
sound_at pairs n at pair here before sound =
    let within = slice_get_within pairs at pair here in
    let size = length-take n pairs in
    let inside : at < length (take n pairs) = omega arith in
    let same : get_or (take n pairs) at pair ≡ pair = get_or-take n pairs at pair before ∙ get_or_from_slice_get pairs at pair pair here in
    record {
      named = subst (λ (p : Label). IsTrue (is_label_name p.0)) same (sound.names at pair inside);
      short = subst (λ (p : Label). length p.1 ≤ most_value_bytes) same (sound.values at pair inside);
      new = new_at pairs n at pair here before sound.distinct;
    }

-- ---- the first fault

-- the rule that the pair at a place breaks
abbrev IsRule : List Label → ℕ → Label → LabelFault → Type 0
IsRule pairs at pair (BadName n) = (n ≡ at) × IsFalse (is_label_name pair.0)
IsRule pairs at pair (BadValue n) = (n ≡ at) × IsTrue (is_label_name pair.0) × (most_value_bytes < length pair.1)
IsRule pairs at pair (Repeated n) = (n ≡ at) × IsTrue (is_label_name pair.0) × (length pair.1 ≤ most_value_bytes) × IsTrue (has_label (take at pairs) pair.0)
IsRule pairs at pair fault = ⊥

record IsBroken (pairs : List Label) (fault : LabelFault) : Type 0 where
  at : ℕ
  pair : Label
  before : AreSound (take at pairs)
  here : slice_get pairs at ≡ Some pair
  rule : IsRule pairs at pair fault

clash : (b : Bool) → b ≡ true → b ≡ false → ⊥
clash b holds fails = true≢false (sym holds ∙ fails)

rule_not_sound : (pairs : List Label) (at : ℕ) (pair : Label) (fault : LabelFault) → IsSoundAt pairs at pair → IsRule pairs at pair fault → ⊥
rule_not_sound pairs at pair (BadName n) sound rule = clash (is_label_name pair.0) sound.named rule.1
rule_not_sound pairs at pair (BadValue n) sound rule = let short = sound.short in let long = rule.2 in omega arith
rule_not_sound pairs at pair (Repeated n) sound rule = clash (has_label (take at pairs) pair.0) rule.3 sound.new
rule_not_sound pairs at pair TooMany sound rule = rule

rule_once : (pairs : List Label) (at : ℕ) (pair : Label) (fault other : LabelFault) → IsRule pairs at pair fault → IsRule pairs at pair other → fault ≡ other
rule_once pairs at pair (BadName n) (BadName m) h k = ap BadName (h.0 ∙ sym k.0)
rule_once pairs at pair (BadName n) (BadValue m) h k = absurd (clash (is_label_name pair.0) k.1 h.1)
rule_once pairs at pair (BadName n) (Repeated m) h k = absurd (clash (is_label_name pair.0) k.1 h.1)
rule_once pairs at pair (BadName n) other h k = absurd k
rule_once pairs at pair (BadValue n) (BadName m) h k = absurd (clash (is_label_name pair.0) h.1 k.1)
rule_once pairs at pair (BadValue n) (BadValue m) h k = ap BadValue (h.0 ∙ sym k.0)
rule_once pairs at pair (BadValue n) (Repeated m) h k = absurd (let long = h.2 in let short = k.2 in omega arith)
rule_once pairs at pair (BadValue n) other h k = absurd k
rule_once pairs at pair (Repeated n) (BadName m) h k = absurd (clash (is_label_name pair.0) h.1 k.1)
rule_once pairs at pair (Repeated n) (BadValue m) h k = absurd (let short = h.2 in let long = k.2 in omega arith)
rule_once pairs at pair (Repeated n) (Repeated m) h k = ap Repeated (h.0 ∙ sym k.0)
rule_once pairs at pair (Repeated n) other h k = absurd k
rule_once pairs at pair fault other h k = absurd h

broken_not_sound : (pairs : List Label) (n : ℕ) (fault : LabelFault) (broken : IsBroken pairs fault) → broken.at < n → AreSound (take n pairs) → ⊥
broken_not_sound pairs n fault broken before sound =
    rule_not_sound pairs broken.at broken.pair fault (sound_at pairs n broken.at broken.pair broken.here before sound) broken.rule

broken_once : (pairs : List Label) (fault other : LabelFault) → IsBroken pairs fault → IsBroken pairs other → fault ≡ other
broken_once pairs fault other h k = by (nat_lt h.at k.at) (nat_lt k.at h.at) refl refl
  where
    here : h.at ≡ k.at → fault ≡ other
    here at =
        let pair : h.pair ≡ k.pair = let same : Some h.pair ≡ Some k.pair = sym h.here ∙ ap (slice_get pairs) at ∙ k.here in cc in
        rule_once pairs k.at k.pair fault other (subst (λ n. IsRule pairs n k.pair fault) at (subst (λ p. IsRule pairs h.at p fault) pair h.rule)) k.rule

    by : (b c : Bool) → nat_lt h.at k.at ≡ b → nat_lt k.at h.at ≡ c → fault ≡ other
    by true c less is = absurd (broken_not_sound pairs k.at fault h (grind (arith, nat_tests)) k.before)
    by false true is less = absurd (broken_not_sound pairs h.at other k (grind (arith, nat_tests)) h.before)
    by false false is also = here (grind (arith, nat_tests))

sound_not_broken : (pairs : List Label) (fault : LabelFault) → AreSound pairs → IsBroken pairs fault → ⊥
sound_not_broken pairs fault sound broken =
    broken_not_sound pairs (length pairs) fault broken (slice_get_within pairs broken.at broken.pair broken.here)
    (subst AreSound (sym (take_all (length pairs) pairs (omega arith))) sound)

some_and : (o : Option Label) (P : Label → Type 0) → IsSomeAnd o P → (pair : Label) × (o ≡ Some pair) × P pair
some_and None P h = absurd h
some_and (Some pair) P h = (pair, refl, h)

found_broken : (pairs : List Label) (at : ℕ) (fault : LabelFault) (P : Label → Type 0) → ((pair : Label) → P pair → IsRule pairs at pair fault)
    → IsFirstFault pairs at P → IsBroken pairs fault
found_broken pairs at fault P rule h =
    let one = some_and (slice_get pairs at) P h.here in record { at = at; pair = one.0; before = h.before; here = one.1; rule = rule one.0 one.2 }

-- too many labels, or a pair that breaks a rule
abbrev IsManyOrBroken : List Label → LabelFault → Type 0
IsManyOrBroken pairs fault = ((fault ≡ TooMany) × AreSound pairs × (most_labels < length (with_value pairs))) ⊎ IsBroken pairs fault

many_or_broken : (pairs : List Label) (fault : LabelFault) → IsReadLabels pairs (Err fault) → IsManyOrBroken pairs fault
many_or_broken pairs (BadName at) h =
    inr (found_broken pairs at (BadName at) (λ (pair : Label). IsFalse (is_label_name pair.0)) (λ pair rule. (refl, rule)) h)
many_or_broken pairs (BadValue at) h =
    inr (found_broken pairs at (BadValue at) (λ (pair : Label). IsTrue (is_label_name pair.0) × (most_value_bytes < length pair.1)) (λ pair rule. (refl, rule.0, rule.1)) h)
many_or_broken pairs (Repeated at) h =
    inr (found_broken pairs at (Repeated at) (λ (pair : Label). IsTrue (is_label_name pair.0) × (length pair.1 ≤ most_value_bytes) × IsTrue (has_label (take at pairs) pair.0))
    (λ pair rule. (refl, rule.0, rule.1, rule.2)) h)
many_or_broken pairs TooMany h = inl (refl, h.0, h.1)

-- ---- the answer

pub read_once : (pairs labels others : List Label) → IsReadLabels pairs (Ok labels) → IsReadLabels pairs (Ok others) → labels ≡ others
read_once pairs labels others h k = labels_once (with_value pairs) labels others h.2 k.2

pub read_not_fault : (pairs labels : List Label) (fault : LabelFault) → IsReadLabels pairs (Ok labels) → IsReadLabels pairs (Err fault) → ⊥
read_not_fault pairs labels fault h k =
    ⊎_elim (λ many. let few = h.1 in let more = many.2 in omega arith) (λ broken. sound_not_broken pairs fault h.0 broken) (many_or_broken pairs fault k)

pub fault_once : (pairs : List Label) (fault other : LabelFault) → IsReadLabels pairs (Err fault) → IsReadLabels pairs (Err other) → fault ≡ other
fault_once pairs fault other h k =
    ⊎_elim
    (λ many. ⊎_elim (λ many'. many.0 ∙ sym many'.0) (λ broken'. absurd (sound_not_broken pairs other many.1 broken')) (many_or_broken pairs other k))
    (λ broken. ⊎_elim (λ many'. absurd (sound_not_broken pairs fault many'.1 broken)) (λ broken'. broken_once pairs fault other broken broken') (many_or_broken pairs other k))
    (many_or_broken pairs fault h)
