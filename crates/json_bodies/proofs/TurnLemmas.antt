-- One turn of the grammar's loops over items and members, seen as data.
use Rattle.std.proofs.Common.{◌≡◌, ℕ, zero, suc, ◌-◌, ◌<◌, ◌≤◌, List, [], ◌∷◌, length, Option, Some, None, option_map, option_and_then, refl, sym, ap, ◌∙◌, arith}
use Rattle.std.proofs.lemmas.Option.{none-some, same_Some}
use Rattle.json.specs.Token.{Token}
use Rattle.json.specs.Json as json
use Rattle.json.specs.Json.{parse_map, after_end_array, read_key, value}
use Rattle.json.proofs.Grammar.{items_end, items_fail, items_more, members_end, members_no_key, members_fail, members_more}
use Rattle.serde_json.specs.Data.{Data, array, object, no_items, item, Members, no_members, put}
use Rattle.serde_json.specs.Read.{of_json, of_items, of_members, converted}
use Rattle.json_bodies.specs.Walks.{valued, itemed, membered}

paired : {B : Type 0} (r s : List Token) (x : Option B) (b : B) → option_map {U = B × List Token} (λ y. (y, r)) x ≡ Some (b, s)
    → (r ≡ s) × (x ≡ Some b)
paired r s None b e = absurd (none-some _ e)
paired r s (Some y) b e = let same = same_Some _ _ e in (ap (λ p. p.1) same, ap (λ p. Some p.0) same)

-- what was converted was there before
pub before_conversion : {A B : Type 0} (f : A → Option B) (read : Option (A × List Token)) (b : B) (r : List Token)
    → converted f read ≡ Some (b, r) → (a : A) × (read ≡ Some (a, r)) × (f a ≡ Some b)
before_conversion f None b r e = absurd (none-some _ e)
before_conversion f (Some p) b r e = let both = paired p.1 r (f p.0) b e in (p.0, ap (λ s. Some (p.0, s)) both.0, both.1)

unmapped : {B : Type 0} (r : List Token) (x : Option B) → option_map {U = B × List Token} (λ y. (y, r)) x ≡ None → x ≡ None
unmapped r None e = refl
unmapped r (Some y) e = absurd (none-some _ (sym e))

mapped_twice : {A B : Type 0} (g : A → B) (r : List Token) (x : Option A)
    → option_map {U = B × List Token} (λ b. (b, r)) (option_map g x) ≡ parse_map g (option_map (λ a. (a, r)) x)
mapped_twice g r None = refl
mapped_twice g r (Some a) = refl

pub array_converted : (read : Option (json.Items × List Token))
    → converted of_json (parse_map json.array read) ≡ parse_map array (converted of_items read)
array_converted None = refl
array_converted (Some p) = mapped_twice array p.1 (of_items p.0)

pub object_converted : (read : Option (json.Members × List Token))
    → converted of_json (parse_map json.object read) ≡ parse_map object (converted (λ ms. of_members ms no_members) read)
object_converted None = refl
object_converted (Some p) = mapped_twice object p.1 (of_members p.0 no_members)

-- ---- the next item

item_converted : (j : json.Json) (d : Data) → of_json j ≡ Some d → (more : Option (json.Items × List Token))
    → converted of_items (parse_map (json.item j) more) ≡ parse_map (item d) (converted of_items more)
item_converted j d is None = refl
item_converted j d is (Some p) = rw is (mapped_twice (item d) p.1 (of_items p.0))

no_item_converted : (j : json.Json) → of_json j ≡ None → (more : Option (json.Items × List Token))
    → converted of_items (parse_map (json.item j) more) ≡ None
no_item_converted j is None = refl
no_item_converted j is (Some p) = rw is

no_turn : (p : json.Parse json.Json) (ts : List Token) → json.items p 0 ts ≡ None
unfolding json.items
no_turn p ts = refl

no_turn_of_members : (p : json.Parse json.Json) (ts : List Token) → json.members p 0 ts ≡ None
unfolding json.members
no_turn_of_members p ts = refl

module _ (depth : ℕ) where
  pub one_item : (n : ℕ) (ts r : List Token) (d : Data) → 0 < n → after_end_array ts ≡ None → valued depth ts ≡ Some (d, r)
      → itemed depth n ts ≡ parse_map (item d) (itemed depth (n - 1) r)
  one_item n ts r d some going read =
      let j = before_conversion of_json (value depth ts) d r read in
      ap (converted of_items) (items_more (value depth) n ts r j.0 some going j.1) ∙ item_converted j.0 d j.2 _

  wrong_item : (n : ℕ) (ts : List Token) (read : Option (json.Json × List Token)) → value depth ts ≡ read → after_end_array ts ≡ None
      → converted of_json read ≡ None → itemed depth n ts ≡ None
  wrong_item n ts None is going e = ap (converted of_items) (items_fail (value depth) n ts going is)
  wrong_item zero ts (Some p) is going e = ap (converted of_items) (no_turn (value depth) ts)
  wrong_item (suc n) ts (Some p) is going e =
      ap (converted of_items) (items_more (value depth) (suc n) ts p.1 p.0 (omega arith) going is)
      ∙ no_item_converted p.0 (unmapped p.1 (of_json p.0) e) _

  pub not_one_item : (n : ℕ) (ts : List Token) → after_end_array ts ≡ None → valued depth ts ≡ None → itemed depth n ts ≡ None
  not_one_item n ts going e = wrong_item n ts (value depth ts) refl going e

  pub items_over : (n : ℕ) (ts r : List Token) → length ts ≤ n → after_end_array ts ≡ Some r → itemed depth n ts ≡ Some (no_items, r)
  items_over n ts r enough e = ap (converted of_items) (items_end (value depth) n ts r enough e)

-- ---- the next member

member_converted : (k : List ℕ) (j : json.Json) (d : Data) (found : Members) → of_json j ≡ Some d → (more : Option (json.Members × List Token))
    → converted (λ ms. of_members ms found) (parse_map (json.member k j) more) ≡ converted (λ ms. of_members ms (put k d found)) more
member_converted k j d found is None = refl
member_converted k j d found is (Some p) = rw is

no_member_converted : (k : List ℕ) (j : json.Json) (found : Members) → of_json j ≡ None → (more : Option (json.Members × List Token))
    → converted (λ ms. of_members ms found) (parse_map (json.member k j) more) ≡ None
no_member_converted k j found is None = refl
no_member_converted k j found is (Some p) = rw is

module _ (depth : ℕ) (found : Members) where
  pub one_member : (n : ℕ) (k : List ℕ) (ts s r : List Token) (d : Data) → 0 < n → read_key ts ≡ Some (Some k, s) → valued depth s ≡ Some (d, r)
      → membered depth found n ts ≡ membered depth (put k d found) (n - 1) r
  one_member n k ts s r d some key read =
      let j = before_conversion of_json (value depth s) d r read in
      ap (converted (λ ms. of_members ms found)) (members_more (value depth) n k ts s r j.0 some key j.1)
      ∙ member_converted k j.0 d found j.2 _

  wrong_member : (n : ℕ) (k : List ℕ) (ts s : List Token) (read : Option (json.Json × List Token)) → value depth s ≡ read
      → read_key ts ≡ Some (Some k, s) → converted of_json read ≡ None → membered depth found n ts ≡ None
  wrong_member n k ts s None is key e = ap (converted (λ ms. of_members ms found)) (members_fail (value depth) n k ts s key is)
  wrong_member zero k ts s (Some p) is key e = ap (converted (λ ms. of_members ms found)) (no_turn_of_members (value depth) ts)
  wrong_member (suc n) k ts s (Some p) is key e =
      ap (converted (λ ms. of_members ms found)) (members_more (value depth) (suc n) k ts s p.1 p.0 (omega arith) key is)
      ∙ no_member_converted k p.0 found (unmapped p.1 (of_json p.0) e) _

  pub not_one_member : (n : ℕ) (k : List ℕ) (ts s : List Token) → read_key ts ≡ Some (Some k, s) → valued depth s ≡ None
      → membered depth found n ts ≡ None
  not_one_member n k ts s key e = wrong_member n k ts s (value depth s) refl key e

  pub no_key : (n : ℕ) (ts : List Token) → read_key ts ≡ None → membered depth found n ts ≡ None
  no_key n ts e = ap (converted (λ ms. of_members ms found)) (members_no_key (value depth) n ts e)

  pub members_over : (n : ℕ) (ts r : List Token) → length ts ≤ n → read_key ts ≡ Some (None, r) → membered depth found n ts ≡ Some (found, r)
  members_over n ts r enough e = ap (converted (λ ms. of_members ms found)) (members_end (value depth) n ts r enough e)

-- ---- the whole text

abbrev pub whole_of : Option (json.Json × List Token) → Option Data
whole_of read = option_and_then of_json (option_and_then (λ p. json.if_last p.0 p.1) read)

pub whole_read : (read : Option (json.Json × List Token)) (d : Data) → converted of_json read ≡ Some (d, []) → whole_of read ≡ Some d
whole_read read d e = let j = before_conversion of_json read d [] e in ap whole_of j.1 ∙ j.2

pub more_than_whole : (read : Option (json.Json × List Token)) (d : Data) (t : Token) (r : List Token)
    → converted of_json read ≡ Some (d, t ∷ r) → whole_of read ≡ None
more_than_whole read d t r e = ap whole_of (before_conversion of_json read d (t ∷ r) e).1

pub not_whole : (read : Option (json.Json × List Token)) → converted of_json read ≡ None → whole_of read ≡ None
not_whole None e = refl
not_whole (Some (j, [])) e = unmapped [] (of_json j) e
not_whole (Some (j, t ∷ r)) e = refl

pub whole_is : (read : Option (json.Json × List Token)) (d : Data) → whole_of read ≡ Some d → converted of_json read ≡ Some (d, [])
whole_is None d e = absurd (none-some _ e)
whole_is (Some (j, [])) d e = ap (option_map {U = Data × List Token} (λ b. (b, []))) e
whole_is (Some (j, t ∷ r)) d e = absurd (none-some _ e)
