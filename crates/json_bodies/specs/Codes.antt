-- A code of JSON values, by which a proof tells them apart: a tree of numbers for each, and no tree for two.
use Rattle.std.specs.Prelude.{◌≡◌, ◌⊎◌, ℕ, ℤ, Bool, true, false, not, Float, List, nat_eq}
use Rattle.std.proofs.Common.{refl, ap, true≢false}
use mathlib.Core.Logic.{inl, inr}
use base.Stored.{Gv, gnil, gnum, gcons, Coded, coded_ℕ, coded_ℤ, coded_bool, coded_float, coded_list, coded⊎}
use Rattle.std.specs.Coded.{code_by}
use Rattle.serde_json.specs.Data.{Num, unsigned, negative, float, Data, null, boolean, number, string, array, object, Items, no_items, item, Members, no_members, member}

abbrev pub to_sum : Num → ℕ ⊎ (ℤ ⊎ Float)
to_sum (unsigned n) = inl n
to_sum (negative z) = inr (inl z)
to_sum (float x) = inr (inr x)

abbrev pub of_sum : ℕ ⊎ (ℤ ⊎ Float) → Num
of_sum (inl n) = unsigned n
of_sum (inr (inl z)) = negative z
of_sum (inr (inr x)) = float x

pub of_sum-to_sum : (n : Num) → of_sum (to_sum n) ≡ n
of_sum-to_sum (unsigned n) = refl
of_sum-to_sum (negative z) = refl
of_sum-to_sum (float x) = refl

abbrev pub num_coded : Coded Num
num_coded = code_by (ℕ ⊎ (ℤ ⊎ Float)) (coded⊎ coded_ℕ (coded⊎ coded_ℤ coded_float)) to_sum of_sum of_sum-to_sum

abbrev pub text_coded : Coded (List ℕ)
text_coded = coded_list coded_ℕ

-- each kind of value by a number before what it holds
abbrev mutual
  pub data_code : Data → Gv
  data_code null = gcons (gnum 0) gnil
  data_code (boolean b) = gcons (gnum 1) (coded_bool.code b)
  data_code (number n) = gcons (gnum 2) (num_coded.code n)
  data_code (string text) = gcons (gnum 3) (text_coded.code text)
  data_code (array values) = gcons (gnum 4) (items_code values)
  data_code (object entries) = gcons (gnum 5) (members_code entries)

  pub items_code : Items → Gv
  items_code no_items = gnil
  items_code (item value more) = gcons (data_code value) (items_code more)

  pub members_code : Members → Gv
  members_code no_members = gnil
  members_code (member key value more) = gcons (text_coded.code key) (gcons (data_code value) (members_code more))

abbrev tag : Gv → ℕ
tag gnil = 0
tag (gnum n) = n
tag (gcons a b) = tag a

abbrev is_cons : Gv → Bool
is_cons gnil = false
is_cons (gnum n) = false
is_cons (gcons a b) = true

abbrev head : Gv → Gv
head gnil = gnil
head (gnum n) = gnil
head (gcons a b) = a

abbrev tail : Gv → Gv
tail gnil = gnil
tail (gnum n) = gnil
tail (gcons a b) = b

mutual
  pub data_inj : (x y : Data) → data_code x ≡ data_code y → x ≡ y
  data_inj null null p = refl
  data_inj (boolean a) (boolean b) p = ap boolean (coded_bool.inj a b (ap tail p))
  data_inj (number a) (number b) p = ap number (num_coded.inj a b (ap tail p))
  data_inj (string a) (string b) p = ap string (text_coded.inj a b (ap tail p))
  data_inj (array a) (array b) p = ap array (items_inj a b (ap tail p))
  data_inj (object a) (object b) p = ap object (members_inj a b (ap tail p))
  data_inj null _ p = absurd (true≢false (ap (λ g. nat_eq 0 (tag g)) p))
  data_inj (boolean a) _ p = absurd (true≢false (ap (λ g. nat_eq 1 (tag g)) p))
  data_inj (number a) _ p = absurd (true≢false (ap (λ g. nat_eq 2 (tag g)) p))
  data_inj (string a) _ p = absurd (true≢false (ap (λ g. nat_eq 3 (tag g)) p))
  data_inj (array a) _ p = absurd (true≢false (ap (λ g. nat_eq 4 (tag g)) p))
  data_inj (object a) _ p = absurd (true≢false (ap (λ g. nat_eq 5 (tag g)) p))

  pub items_inj : (x y : Items) → items_code x ≡ items_code y → x ≡ y
  items_inj no_items no_items p = refl
  items_inj (item a more) (item b bs) p = λ i. item (data_inj a b (ap head p) i) (items_inj more bs (ap tail p) i)
  items_inj no_items (item b bs) p = absurd (true≢false (ap (λ g. not (is_cons g)) p))
  items_inj (item a more) no_items p = absurd (true≢false (ap is_cons p))

  pub members_inj : (x y : Members) → members_code x ≡ members_code y → x ≡ y
  members_inj no_members no_members p = refl
  members_inj (member j a more) (member k b bs) p =
      λ i. member (text_coded.inj j k (ap head p) i) (data_inj a b (ap (λ g. head (tail g)) p) i)
      (members_inj more bs (ap (λ g. tail (tail g)) p) i)
  members_inj no_members (member k b bs) p = absurd (true≢false (ap (λ g. not (is_cons g)) p))
  members_inj (member j a more) no_members p = absurd (true≢false (ap is_cons p))

abbrev pub data_coded : Coded Data
data_coded = record { code = data_code; inj = data_inj }
