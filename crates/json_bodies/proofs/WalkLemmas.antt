-- A walk over tokens, a turn at a time.
use Rattle.std.proofs.Common.{◌≡◌, ℕ, ◌-◌, ◌<◌, List, [], ◌∷◌, length, Option, Some, None, option_map, refl, sym, ap, ◌∙◌}
use Rattle.std.proofs.lemmas.Option.{none-some}
use Rattle.json.specs.Token.{Token}
use Rattle.json.specs.Json.{parse_map, after_end_array, read_key, items, members, value}
use Rattle.json.proofs.Grammar.{left_some, value_is, value-begin_array, value-begin_object, skip_value-shorter}
use Rattle.serde_json.specs.Data.{Data, null, boolean, number, string, array, object, item, Members, no_members, put}
use Rattle.serde_json.specs.Read.{number_of, of_json, converted}
use Rattle.json_bodies.proofs.TurnLemmas.{before_conversion, array_converted, object_converted, one_item, not_one_item, one_member, not_one_member}
use Rattle.json_bodies.specs.Walks.{valued, itemed, membered, rest_of}

-- ---- one value

pub valued_array : (depth : ℕ) (ts : List Token) → 0 < depth
    → valued depth (Token.begin_array ∷ ts) ≡ parse_map array (itemed (depth - 1) (length ts) ts)
valued_array depth ts some = ap (converted of_json) (value-begin_array depth ts some) ∙ array_converted (items (value (depth - 1)) (length ts) ts)

pub valued_object : (depth : ℕ) (ts : List Token) → 0 < depth
    → valued depth (Token.begin_object ∷ ts) ≡ parse_map object (membered (depth - 1) no_members (length ts) ts)
valued_object depth ts some = ap (converted of_json) (value-begin_object depth ts some) ∙ object_converted (members (value (depth - 1)) (length ts) ts)

pub valued_string : (depth : ℕ) (text : List ℕ) (ts : List Token) → valued depth (Token.string text ∷ ts) ≡ Some (string text, ts)
valued_string depth text ts = ap (converted of_json) (value_is depth (Token.string text ∷ ts))

pub valued_number : (depth : ℕ) (text : List ℕ) (ts : List Token)
    → valued depth (Token.number text ∷ ts) ≡ option_map (λ d. (d, ts)) (option_map number (number_of text))
valued_number depth text ts = ap (converted of_json) (value_is depth (Token.number text ∷ ts))

pub valued_boolean : (depth : ℕ) (b : _) (ts : List Token) → valued depth (Token.boolean b ∷ ts) ≡ Some (boolean b, ts)
valued_boolean depth b ts = ap (converted of_json) (value_is depth (Token.boolean b ∷ ts))

pub valued_null : (depth : ℕ) (ts : List Token) → valued depth (Token.null ∷ ts) ≡ Some (null, ts)
valued_null depth ts = ap (converted of_json) (value_is depth (Token.null ∷ ts))

pub valued_empty : (depth : ℕ) → valued depth [] ≡ None
valued_empty depth = ap (converted of_json) (value_is depth [])

pub valued_end_object : (depth : ℕ) (ts : List Token) → valued depth (Token.end_object ∷ ts) ≡ None
valued_end_object depth ts = ap (converted of_json) (value_is depth (Token.end_object ∷ ts))

pub valued_end_array : (depth : ℕ) (ts : List Token) → valued depth (Token.end_array ∷ ts) ≡ None
valued_end_array depth ts = ap (converted of_json) (value_is depth (Token.end_array ∷ ts))

pub valued_key : (depth : ℕ) (key : List ℕ) (ts : List Token) → valued depth (Token.key key ∷ ts) ≡ None
valued_key depth key ts = ap (converted of_json) (value_is depth (Token.key key ∷ ts))

pub valued_bad : (depth : ℕ) (ts : List Token) → valued depth (Token.bad ∷ ts) ≡ None
valued_bad depth ts = ap (converted of_json) (value_is depth (Token.bad ∷ ts))

pub too_deep_array : (ts : List Token) → valued 0 (Token.begin_array ∷ ts) ≡ None
too_deep_array ts = ap (converted of_json) (value_is 0 (Token.begin_array ∷ ts))

pub too_deep_object : (ts : List Token) → valued 0 (Token.begin_object ∷ ts) ≡ None
too_deep_object ts = ap (converted of_json) (value_is 0 (Token.begin_object ∷ ts))

pub valued_shorter : (depth : ℕ) (ts r : List Token) (d : Data) → valued depth ts ≡ Some (d, r) → length r < length ts
valued_shorter depth ts r d read =
    let j = before_conversion of_json (value depth ts) d r read in
    skip_value-shorter depth ts r (ap rest_of j.1)

-- ---- what is left

pub rest-parse_map : {A B : Type 0} (f : A → B) (read : Option (A × List Token)) → rest_of (parse_map f read) ≡ rest_of read
rest-parse_map f None = refl
rest-parse_map f (Some p) = refl

pub rest_none : {A : Type 0} (read : Option (A × List Token)) → rest_of read ≡ None → read ≡ None
rest_none None e = refl
rest_none (Some p) e = absurd (none-some _ (sym e))

pub rest_shorter : (depth : ℕ) (ts r : List Token) → rest_of (valued depth ts) ≡ Some r → length r < length ts
rest_shorter depth ts r e = let d = left_some (valued depth ts) r e in valued_shorter depth ts r d.0 d.1

module _ (depth n : ℕ) where
  pub skip_item : (ts r : List Token) → 0 < n → after_end_array ts ≡ None → rest_of (valued depth ts) ≡ Some r
      → rest_of (itemed depth n ts) ≡ rest_of (itemed depth (n - 1) r)
  skip_item ts r some going e =
      let d = left_some (valued depth ts) r e in
      ap rest_of (one_item depth n ts r d.0 some going d.1) ∙ rest-parse_map (item d.0) _

  pub no_item : (ts : List Token) → after_end_array ts ≡ None → rest_of (valued depth ts) ≡ None → rest_of (itemed depth n ts) ≡ None
  no_item ts going e = ap rest_of (not_one_item depth n ts going (rest_none _ e))

  pub skip_member : (before : Members) (ts s r : List Token) (k : List ℕ) → 0 < n → read_key ts ≡ Some (Some k, s)
      → (read : rest_of (valued depth s) ≡ Some r)
      → rest_of (membered depth before n ts) ≡ rest_of (membered depth (put k (left_some (valued depth s) r read).0 before) (n - 1) r)
  skip_member before ts s r k some key read =
      let d = left_some (valued depth s) r read in
      ap rest_of (one_member depth before n k ts s r d.0 some key d.1)

  pub no_member : (before : Members) (ts s : List Token) (k : List ℕ) → read_key ts ≡ Some (Some k, s) → rest_of (valued depth s) ≡ None
      → rest_of (membered depth before n ts) ≡ None
  no_member before ts s k key e = ap rest_of (not_one_member depth before n k ts s key (rest_none _ e))
