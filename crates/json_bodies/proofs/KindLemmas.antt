-- What the first token of a value tells of it.
use Rattle.std.proofs.Common.{◌≡◌, ◌≢◌, ℕ, zero, suc, arith, ◌-◌, ◌<◌, List, ◌∷◌, length, Option, Some, None, option_map, refl, sym, ap, ◌∙◌}
use Rattle.std.proofs.lemmas.Option.{none-some, same_Some}
use Rattle.json.specs.Token.{Token}
use Rattle.json.specs.Json.{parse_map}
use Rattle.json.proofs.Grammar.{left_some}
use Rattle.serde_json.specs.Data.{Data, Num, null, boolean, number, string, array, object, Items, Members, no_members}
use Rattle.serde_json.specs.Find.{as_u64, as_array, as_object, as_str, get}
use Rattle.serde_json.specs.Read.{number_of}
use Rattle.serde_json.specs.View.{items_of}
use Rattle.json_bodies.specs.Fields.{as_list, as_number_or_text, values_in}
use Rattle.json_bodies.specs.Walks.{valued, itemed, membered, rest_of, token_text, token_number, Reads, ReadsItems, ReadsMembers}
use Rattle.json_bodies.proofs.SaidLemmas.{values_in-items_of}
use Rattle.json_bodies.proofs.WalkLemmas.{valued_array, valued_object, valued_string, valued_number, valued_boolean, valued_null, valued_end_object, valued_end_array, valued_key, valued_bad, too_deep_array, too_deep_object}

abbrev pub TellsKind : Token → Data → Type 0
TellsKind Token.begin_object d = (ms : Members) × (d ≡ object ms)
TellsKind Token.end_object d = ⊥
TellsKind Token.begin_array d = (js : Items) × (d ≡ array js)
TellsKind Token.end_array d = ⊥
TellsKind (Token.key s) d = ⊥
TellsKind (Token.string s) d = d ≡ string s
TellsKind (Token.number s) d = (n : Num) × (d ≡ number n) × (number_of s ≡ Some n)
TellsKind (Token.boolean b) d = d ≡ boolean b
TellsKind Token.null d = d ≡ null
TellsKind Token.bad d = ⊥

none_read : {A B : Type 0} (read : Option A) (a : A) → read ≡ None → read ≡ Some a → B
none_read read a none some = absurd (none-some a (sym none ∙ some))

same_value : (d e : Data) (s r : List Token) (read : Option (Data × List Token)) → read ≡ Some (d, s) → read ≡ Some (e, r) → e ≡ d
same_value d e s r read is told = ap (λ p. p.0) (same_Some _ _ (sym told ∙ is))

mapped_value : {A : Type 0} (f : A → Data) (read : Option (A × List Token)) (d : Data) (r : List Token) → parse_map f read ≡ Some (d, r)
    → (a : A) × (d ≡ f a)
mapped_value f None d r e = absurd (none-some _ e)
mapped_value f (Some p) d r e = (p.0, ap (λ q. q.0) (sym (same_Some _ _ e)))

number_value : (read : Option Num) (ts : List Token) (d : Data) (r : List Token)
    → option_map {U = Data × List Token} (λ e. (e, ts)) (option_map number read) ≡ Some (d, r) → (n : Num) × (d ≡ number n) × (read ≡ Some n)
number_value None ts d r e = absurd (none-some _ e)
number_value (Some n) ts d r e = (n, ap (λ q. q.0) (sym (same_Some _ _ e)), refl)

pub kind_told : (depth : ℕ) (t : Token) (ts r : List Token) (d : Data) → valued depth (t ∷ ts) ≡ Some (d, r) → TellsKind t d
kind_told zero Token.begin_object ts r d e = none_read _ _ (too_deep_object ts) e
kind_told (suc inside) Token.begin_object ts r d e = mapped_value object _ d r (sym (valued_object (suc inside) ts (omega arith)) ∙ e)
kind_told depth Token.end_object ts r d e = none_read _ _ (valued_end_object depth ts) e
kind_told zero Token.begin_array ts r d e = none_read _ _ (too_deep_array ts) e
kind_told (suc inside) Token.begin_array ts r d e = mapped_value array _ d r (sym (valued_array (suc inside) ts (omega arith)) ∙ e)
kind_told depth Token.end_array ts r d e = none_read _ _ (valued_end_array depth ts) e
kind_told depth (Token.key s) ts r d e = none_read _ _ (valued_key depth s ts) e
kind_told depth (Token.string s) ts r d e = same_value _ d ts r _ (valued_string depth s ts) e
kind_told depth (Token.number s) ts r d e = number_value (number_of s) ts d r (sym (valued_number depth s ts) ∙ e)
kind_told depth (Token.boolean b) ts r d e = same_value _ d ts r _ (valued_boolean depth b ts) e
kind_told depth Token.null ts r d e = same_value _ d ts r _ (valued_null depth ts) e
kind_told depth Token.bad ts r d e = none_read _ _ (valued_bad depth ts) e

pub no_text : (t : Token) (d : Data) → TellsKind t d → token_text t ≡ None → as_str d ≡ None
no_text Token.begin_object d k e = ap as_str k.1
no_text Token.end_object d k e = absurd k
no_text Token.begin_array d k e = ap as_str k.1
no_text Token.end_array d k e = absurd k
no_text (Token.key s) d k e = absurd k
no_text (Token.string s) d k e = absurd (none-some _ (sym e))
no_text (Token.number s) d k e = ap as_str k.1
no_text (Token.boolean b) d k e = ap as_str k
no_text Token.null d k e = ap as_str k
no_text Token.bad d k e = absurd k

pub no_number : (t : Token) (d : Data) → TellsKind t d → token_text t ≡ None → token_number t ≡ None → as_number_or_text d ≡ None
no_number Token.begin_object d k e f = ap as_number_or_text k.1
no_number Token.end_object d k e f = absurd k
no_number Token.begin_array d k e f = ap as_number_or_text k.1
no_number Token.end_array d k e f = absurd k
no_number (Token.key s) d k e f = absurd k
no_number (Token.string s) d k e f = absurd (none-some _ (sym e))
no_number (Token.number s) d k e f = absurd (none-some _ (sym f))
no_number (Token.boolean b) d k e f = ap as_number_or_text k
no_number Token.null d k e f = ap as_number_or_text k
no_number Token.bad d k e f = absurd k

pub no_array : (t : Token) (d : Data) → TellsKind t d → t ≢ Token.begin_array → as_array d ≡ None
no_array Token.begin_object d k e = ap as_array k.1
no_array Token.end_object d k e = absurd k
no_array Token.begin_array d k e = absurd (e refl)
no_array Token.end_array d k e = absurd k
no_array (Token.key s) d k e = absurd k
no_array (Token.string s) d k e = ap as_array k
no_array (Token.number s) d k e = ap as_array k.1
no_array (Token.boolean b) d k e = ap as_array k
no_array Token.null d k e = ap as_array k
no_array Token.bad d k e = absurd k

pub no_object : (t : Token) (d : Data) → TellsKind t d → t ≢ Token.begin_object → as_object d ≡ None
no_object Token.begin_object d k e = absurd (e refl)
no_object Token.end_object d k e = absurd k
no_object Token.begin_array d k e = ap as_object k.1
no_object Token.end_array d k e = absurd k
no_object (Token.key s) d k e = absurd k
no_object (Token.string s) d k e = ap as_object k
no_object (Token.number s) d k e = ap as_object k.1
no_object (Token.boolean b) d k e = ap as_object k
no_object Token.null d k e = ap as_object k
no_object Token.bad d k e = absurd k

-- what is no object has nothing at a key
pub nothing_at : (key : List ℕ) (d : Data) → as_object d ≡ None → get key d ≡ None
nothing_at key null e = refl
nothing_at key (boolean b) e = refl
nothing_at key (number n) e = refl
nothing_at key (string s) e = refl
nothing_at key (array js) e = refl
nothing_at key (object ms) e = absurd (none-some _ (sym e))

-- ---- a value by its first token

text_is : (t : Token) (s : List ℕ) → Some s ≡ token_text t → t ≡ Token.string s
text_is Token.begin_object s e = absurd (none-some _ (sym e))
text_is Token.end_object s e = absurd (none-some _ (sym e))
text_is Token.begin_array s e = absurd (none-some _ (sym e))
text_is Token.end_array s e = absurd (none-some _ (sym e))
text_is (Token.key x) s e = absurd (none-some _ (sym e))
text_is (Token.string x) s e = ap Token.string (sym (same_Some _ _ e))
text_is (Token.number x) s e = absurd (none-some _ (sym e))
text_is (Token.boolean b) s e = absurd (none-some _ (sym e))
text_is Token.null s e = absurd (none-some _ (sym e))
text_is Token.bad s e = absurd (none-some _ (sym e))

number_is : (t : Token) (s : List ℕ) → Some s ≡ token_number t → t ≡ Token.number s
number_is Token.begin_object s e = absurd (none-some _ (sym e))
number_is Token.end_object s e = absurd (none-some _ (sym e))
number_is Token.begin_array s e = absurd (none-some _ (sym e))
number_is Token.end_array s e = absurd (none-some _ (sym e))
number_is (Token.key x) s e = absurd (none-some _ (sym e))
number_is (Token.string x) s e = absurd (none-some _ (sym e))
number_is (Token.number x) s e = ap Token.number (sym (same_Some _ _ e))
number_is (Token.boolean b) s e = absurd (none-some _ (sym e))
number_is Token.null s e = absurd (none-some _ (sym e))
number_is Token.bad s e = absurd (none-some _ (sym e))

-- a text
pub reads_text : (P : Data → Type 0) (depth : ℕ) (t : Token) (ts : List Token) (s : List ℕ) → Some s ≡ token_text t → P (string s)
    → Reads P depth (t ∷ ts) ts
reads_text P depth t ts s is said =
    record { value = string s; read = ap (λ k. valued depth (k ∷ ts)) (text_is t s is) ∙ valued_string depth s ts; said = said }

-- a number
whole_read : (read : Option Num) (w : Option ℕ) → Some w ≡ option_map as_u64 read → (n : Num) × (read ≡ Some n) × (as_u64 n ≡ w)
whole_read None w e = absurd (none-some _ (sym e))
whole_read (Some n) w e = (n, refl, sym (same_Some _ _ e))

pub reads_number : (depth : ℕ) (t : Token) (ts : List Token) (s : List ℕ) (w : Option ℕ) → Some s ≡ token_number t
    → Some w ≡ option_map as_u64 (number_of s) → Reads (λ d. as_number_or_text d ≡ w) depth (t ∷ ts) ts
reads_number depth t ts s w is told =
    let n = whole_read (number_of s) w told in
    record {
      value = number n.0;
      read = ap (λ k. valued depth (k ∷ ts)) (number_is t s is) ∙ valued_number depth s ts
          ∙ ap (λ o. option_map {U = Data × List Token} (λ e. (e, ts)) (option_map number o)) n.1;
      said = n.2;
    }

none_whole : (read : Option Num) (ts : List Token) → None ≡ option_map as_u64 read
    → option_map {U = Data × List Token} (λ e. (e, ts)) (option_map number read) ≡ None
none_whole None ts e = refl
none_whole (Some n) ts e = absurd (none-some _ e)

pub no_number_read : (depth : ℕ) (t : Token) (ts : List Token) (s : List ℕ) → Some s ≡ token_number t → None ≡ option_map as_u64 (number_of s)
    → valued depth (t ∷ ts) ≡ None
no_number_read depth t ts s is told =
    ap (λ k. valued depth (k ∷ ts)) (number_is t s is) ∙ valued_number depth s ts ∙ none_whole (number_of s) ts told

-- a value that is passed over
pub reads_other : (P : Data → Type 0) (depth : ℕ) (t : Token) (ts r : List Token) → rest_of (valued depth (t ∷ ts)) ≡ Some r
    → ((d : Data) → TellsKind t d → P d) → Reads P depth (t ∷ ts) r
reads_other P depth t ts r left told =
    let d = left_some (valued depth (t ∷ ts)) r left in
    record { value = d.0; read = d.1; said = told d.0 (kind_told depth t ts r d.0 d.1) }

pub reads_any : (P : Data → Type 0) (depth : ℕ) (ts r : List Token) → rest_of (valued depth ts) ≡ Some r → ((d : Data) → P d) → Reads P depth ts r
reads_any P depth ts r left told = let d = left_some (valued depth ts) r left in record { value = d.0; read = d.1; said = told d.0 }

pub object_read : (depth : ℕ) (t : Token) (ts r : List Token) (ms : Members) → t ≡ Token.begin_object → 0 < depth
    → membered (depth - 1) no_members (length ts) ts ≡ Some (ms, r) → valued depth (t ∷ ts) ≡ Some (object ms, r)
object_read depth t ts r ms is some e = ap (λ k. valued depth (k ∷ ts)) is ∙ valued_object depth ts some ∙ ap (parse_map object) e

pub reads_object : (P : Data → Type 0) (depth : ℕ) (t : Token) (ts r : List Token) → t ≡ Token.begin_object → 0 < depth
    → ReadsMembers (λ ms. P (object ms)) (depth - 1) ts r → Reads P depth (t ∷ ts) r
reads_object P depth t ts r is some reads =
    record {
      value = object reads.members;
      read = object_read depth t ts r reads.members is some reads.read;
      said = reads.said;
    }

pub no_object_read : (depth : ℕ) (t : Token) (ts : List Token) → t ≡ Token.begin_object → 0 < depth
    → membered (depth - 1) no_members (length ts) ts ≡ None → valued depth (t ∷ ts) ≡ None
no_object_read depth t ts is some e = ap (λ k. valued depth (k ∷ ts)) is ∙ valued_object depth ts some ∙ ap (parse_map object) e

pub list_of_items : (ds : List Data) → as_list (array (items_of ds)) ≡ Some ds
list_of_items ds = ap Some (values_in-items_of ds)

pub no_list : (d : Data) → as_array d ≡ None → as_list d ≡ None
no_list d e = ap (option_map values_in) e

pub reads_array : (P : Data → Type 0) (depth : ℕ) (t : Token) (ts r : List Token) → t ≡ Token.begin_array → 0 < depth
    → ReadsItems (λ ds. (d : Data) → as_list d ≡ Some ds → P d) (depth - 1) ts r → Reads P depth (t ∷ ts) r
reads_array P depth t ts r is some reads =
    record {
      value = array (items_of reads.values);
      read = ap (λ k. valued depth (k ∷ ts)) is ∙ valued_array depth ts some ∙ ap (parse_map array) reads.read;
      said = reads.said (array (items_of reads.values)) (list_of_items reads.values);
    }

pub no_array_read : (depth : ℕ) (t : Token) (ts : List Token) → t ≡ Token.begin_array → 0 < depth
    → itemed (depth - 1) (length ts) ts ≡ None → valued depth (t ∷ ts) ≡ None
no_array_read depth t ts is some e = ap (λ k. valued depth (k ∷ ts)) is ∙ valued_array depth ts some ∙ ap (parse_map array) e
