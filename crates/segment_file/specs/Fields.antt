-- Numbers, texts and lists, as a file of them has them one after another.
use Rattle.std.specs.Prelude.{◌&&◌, ℕ, ◌^◌, Bool, List, [], ◌∷◌, ◌++◌, length, nat_lt, Option, Some, None, IsTrue, if◌then◌else◌}
use Rattle.std.specs.Int.{bytes_high_first}
use Rattle.std.specs.List.{flat_map, list_all}
use Rattle.std.specs.Str.{is_utf8}
use Rattle.std.specs.Option.{is_none}
use Rattle.segment_file.specs.declared.fault.ObjectRule.{ObjectRule}
use Rattle.segment_file.specs.declared.fault.ObjectRule.TheVariants.{Content}

-- One field: its bytes, whether they are enough for what they say, and the rule that it breaks, judged with the fields
-- before it.
pub record Field : Type 0 where
  pub bytes : List ℕ
  pub fits : Bool
  pub breaks : Option ObjectRule

-- no rule is broken, or this one
abbrev pub unless : Bool → ObjectRule → Option ObjectRule
unless sound rule = if sound then None else Some rule

-- a number in so many bytes, the highest first
abbrev pub number : ℕ → ℕ → Option ObjectRule → Field
number size n breaks = record { bytes = bytes_high_first size n; fits = nat_lt n (256 ^ size); breaks = breaks }

-- a text, its length in four bytes before it
abbrev pub text_of : List ℕ → Bool → Field
text_of text sound = record {
  bytes = bytes_high_first 4 (length text) ++ text;
  fits = nat_lt (length text) (256 ^ 4);
  breaks = unless (sound && is_utf8 text) Content;
}

-- the fields of each item, which may depend on the items before it
abbrev pub each_of : {A : Type 0} → (List A → A → List Field) → List A → List A → List Field
each_of fields before [] = []
each_of fields before (item ∷ later) = fields before item ++ each_of fields (before ++ item ∷ []) later

-- a list: its count in four bytes, and the fields of each item
abbrev pub listed : {A : Type 0} → Bool → (List A → A → List Field) → List A → List Field
listed sound fields items = number 4 (length items) (unless sound Content) ∷ each_of fields [] items

-- the bytes of fields
abbrev pub spelled : List Field → List ℕ
spelled fields = flat_map (λ field. field.bytes) fields

-- each number and each length has room in its bytes
abbrev pub Fit : List Field → Type 0
Fit fields = IsTrue (list_all (λ field. field.fits) fields)

-- none breaks a rule
abbrev pub AreSound : List Field → Type 0
AreSound fields = IsTrue (list_all (λ field. is_none field.breaks) fields)
