-- What the fields of a request's object say: texts, lists of texts, and numbers of 64 bits.
use Rattle.std.specs.Prelude.{◌==◌, ◌&&◌, ℕ, min, Bool, List, [], ◌∷◌, length, nat_lt, nat_le, Option, Some, None, option_map, option_and_then, if◌then◌else◌}
use Rattle.std.specs.Char.{is_ascii_digit}
use Rattle.std.specs.List.{list_all}
use Rattle.std.specs.Str.Parse.{digits_value}
use Rattle.serde_json.specs.Data.{Data, null, boolean, number, string, array, object, Items, no_items, item}
use Rattle.serde_json.specs.Find.{get, as_array, as_str, as_u64}

-- what each of them says, where each says something
abbrev pub each_said : {A B : Type 0} → (A → Option B) → List A → Option (List B)
each_said says [] = Some []
each_said says (x ∷ xs) = option_and_then (λ first. option_map (λ rest. first ∷ rest) (each_said says xs)) (says x)

-- the values of a list
abbrev pub values_in : Items → List Data
values_in no_items = []
values_in (item value more) = value ∷ values_in more

-- what a field says by the kind that it has to be of: None is another kind, `null` too.
-- A field that is absent says what it says by default.
abbrev pub said : {A : Type 0} → (Data → Option A) → A → Option Data → Option A
said kind default None = Some default
said kind default (Some value) = kind value

-- a list
abbrev pub as_list : Data → Option (List Data)
as_list value = option_map values_in (as_array value)

-- a list of texts
abbrev pub as_texts : Data → Option (List (List ℕ))
as_texts value = option_and_then (each_said as_str) (as_list value)

-- 1 to 19 decimal digits, all of which are below 2^64
abbrev pub is_number_text : List ℕ → Bool
is_number_text text = nat_lt 0 (length text) && nat_le (length text) 19 && list_all is_ascii_digit text

-- a number from 0 on: a whole number of JSON below 2^64, or the text of one
abbrev pub as_number_or_text : Data → Option ℕ
as_number_or_text (number n) = as_u64 n
as_number_or_text (string text) = if is_number_text text then Some (digits_value 10 text) else None
as_number_or_text null = None
as_number_or_text (boolean b) = None
as_number_or_text (array values) = None
as_number_or_text (object entries) = None

abbrev pub text_in : List ℕ → Data → Option (List ℕ)
text_in key body = said as_str [] (get key body)

abbrev pub texts_in : List ℕ → Data → Option (List (List ℕ))
texts_in key body = said as_texts [] (get key body)

abbrev pub number_in : List ℕ → Data → Option ℕ
number_in key body = said as_number_or_text 0 (get key body)

-- an end of 0 is the last millisecond of the year 9999, and so is any that is later
abbrev pub end_of : ℕ → ℕ
end_of n = if n == 0 then 253402300799999 else min n 253402300799999
