-- The selectors of texts, and what the body of a query for labels asks.
use Rattle.std.proofs.Common.{◌≡◌, inr, ◌+◌, ◌<◌, ◌≤◌, ℕ, List, [], ◌∷◌, ◌++◌, true, refl, sym, ap, subst, ◌∙◌, length, take, drop, map, Ok, Err, get_or, codes}
use Rattle.std.specs.Prelude.{not, Option, Some, None, is_ok, is_some, option_map, Result, MatchResult}
use Rattle.std.specs.List.{position}
use Rattle.faults.specs.Answers.{IfFault}
use Rattle.faults.specs.declared.refused.Refused.{Refused}
use Rattle.faults.specs.declared.refused.Refused.TheVariants.{Fault, Memory}
use Rattle.std.proofs.lemmas.Bool.{false≢true}
use Rattle.std.proofs.lemmas.Result.{MatchResult-at_ok}
use Rattle.std.proofs.lemmas.List.{take_more, drop_more, take-append-drop, length-map, map-append}
use Rattle.selector.specs.Matching.{Matching}
use Rattle.selector.specs.Read.{IsReadSelector}
use Rattle.selector.specs.declared.fault.SelectorFault.{SelectorFault}
use Rattle.serde_json.specs.Data.{Data}
use Rattle.json_bodies.specs.Fields.{texts_in, number_in, end_of}
use Rattle.json_bodies.specs.Objects.{IsReadObject, or_braces}
use Rattle.request_meaning.specs.LabelAsks.{AreSelectors, HasWindow, IsFirstRefused, IsLabelAsk, IsLabelFault, IsSelectorsFault, SaysQuery, kinds_of, method_of, most_selectors}
use Rattle.request_meaning.specs.ReadParts.{IsAskOf, IsAskOfRefused, IsAskRefused, SaysLabelAsk}
use Rattle.request_meaning.specs.declared.ask.LabelAsk.{LabelAsk}
use Rattle.request_meaning.specs.declared.ask.LabelQuery.{LabelQuery}
use Rattle.request_meaning.specs.declared.ask.LabelQuery.TheVariants as ask
use Rattle.request_meaning.specs.declared.method.LabelMethod.{LabelMethod}
use Rattle.request_meaning.specs.declared.method.LabelMethod.TheVariants.{Names, Values, Series}
use Rattle.request_meaning.specs.declared.refusal.Refusal.{Refusal}
use Rattle.request_meaning.specs.declared.refusal.Refusal.TheVariants.{WrongKind, Selector, Window}

-- ---- selectors

-- one text more
selector_added : (texts : List (List ℕ)) (selectors : List (List Matching)) (text : List ℕ) (selector : List Matching)
    → AreSelectors texts selectors → IsReadSelector text (Ok selector) → AreSelectors (texts ++ text ∷ []) (selectors ++ selector ∷ [])
selector_added [] [] text selector are is = (is, tt)
selector_added [] (one ∷ more) text selector are is = absurd are
selector_added (one ∷ more) [] text selector are is = absurd are
selector_added (first ∷ texts) (one ∷ selectors) text selector are is = (are.0, selector_added texts selectors text selector are.1 is)

-- a text that is read
pub selector_read : {X : Type 0} (said : X → List ℕ) (xs : List X) (i : ℕ) (d : X) (selectors : List (List Matching)) (selector : List Matching)
    → i < length xs → AreSelectors (map said (take i xs)) selectors → IsReadSelector (said (get_or xs i d)) (Ok selector)
    → AreSelectors (map said (take (i + 1) xs)) (selectors ++ selector ∷ [])
selector_read said xs i d selectors selector within are is =
    let texts : map said (take (i + 1) xs) ≡ map said (take i xs) ++ said (get_or xs i d) ∷ [] =
    ap (map said) (take_more xs i d within) ∙ map-append said (take i xs) (get_or xs i d ∷ []) in
    rw texts (selector_added (map said (take i xs)) selectors (said (get_or xs i d)) selector are is)

-- the first text that is refused
first_refused : {X : Type 0} (said : X → List ℕ) (xs : List X) (i : ℕ) (d : X) (selectors : List (List Matching)) (fault : SelectorFault)
    → i < length xs → AreSelectors (map said (take i xs)) selectors → IsReadSelector (said (get_or xs i d)) (Err fault)
    → IsFirstRefused (map said xs) fault
first_refused said xs i d selectors fault within are is = record {
  before = map said (take i xs);
  text = said (get_or xs i d);
  after = map said (drop (i + 1) xs);
  cut = ap (map said) (sym (take-append-drop i xs) ∙ ap (λ rest. take i xs ++ rest) (drop_more xs i d within))
      ∙ map-append said (take i xs) (get_or xs i d ∷ drop (i + 1) xs);
  selectors = selectors;
  read = are;
  here = is;
}

pub selector_refused : {X : Type 0} (said : X → List ℕ) (xs : List X) (i : ℕ) (d : X) (selectors : List (List Matching)) (fault : SelectorFault)
    → i < length xs → length xs ≤ most_selectors → AreSelectors (map said (take i xs)) selectors
    → IsReadSelector (said (get_or xs i d)) (Err fault) → IsSelectorsFault (map said xs) fault
selector_refused said xs i d selectors fault within few are is =
    inr (subst (λ n. n ≤ most_selectors) (sym (length-map xs said)) few, first_refused said xs i d selectors fault within are is)

-- ---- what is asked

is_some_mapped : {X Y : Type 0} (f : X → Y) (o : Option X) (y : Y) → option_map f o ≡ Some y → is_some o ≡ true
is_some_mapped f None y is = absurd cc
is_some_mapped f (Some x) y is = refl

-- a query that is said has each field of its kind
kinds_said : (method : LabelMethod) (value : Data) (query : LabelQuery) (texts : List (List ℕ)) (from until : ℕ)
    → SaysQuery method value query → texts_in (codes "matchers") value ≡ Some texts → HasWindow value from until
    → position not (kinds_of method value) ≡ None
kinds_said Names value ask.Names texts from until says matchers window =
    rw (ap is_some matchers, ap is_some window.start, is_some_mapped end_of (number_in (codes "end") value) until window.end) refl
kinds_said Values value (ask.Values name) texts from until says matchers window =
    rw (ap is_some says, ap is_some matchers, ap is_some window.start, is_some_mapped end_of (number_in (codes "end") value) until window.end) refl
kinds_said Series value (ask.Series names) texts from until says matchers window =
    rw (ap is_some matchers, ap is_some says, ap is_some window.start, is_some_mapped end_of (number_in (codes "end") value) until window.end) refl
kinds_said method value query texts from until says matchers window = absurd says

-- what the parts of a query say is the query of its object
pub object_asks : (method : LabelMethod) (value : Data) (tenant : List ℕ) (query : LabelQuery) (texts : List (List ℕ)) (from until : ℕ)
    (result : Result LabelAsk (Refused Refusal)) → method_of query ≡ method → SaysQuery method value query
    → texts_in (codes "matchers") value ≡ Some texts → HasWindow value from until
    → MatchResult result (IsAskOf tenant query texts from until) (IfFault (IsAskOfRefused texts from until))
    → MatchResult result (SaysLabelAsk method value tenant) (IfFault (IsAskRefused method value))
object_asks method value tenant query texts from until (Ok asked) is says matchers window parts =
    let same = parts.1 in let from_is = parts.2 in let until_is = parts.3 in (
      texts,
      parts.0,
      ap method_of same ∙ is,
      subst (SaysQuery method value) (sym same) says,
      matchers,
      parts.4,
      parts.5,
      rw (from_is, until_is) window,
      rw (from_is, until_is) parts.6,
    )
object_asks method value tenant query texts from until (Err (Fault Window)) is says matchers window parts =
    (texts, parts.0, from, until, kinds_said method value query texts from until says matchers window, matchers, parts.1, parts.2, window, parts.3)
object_asks method value tenant query texts from until (Err (Fault (Selector fault))) is says matchers window parts =
    (texts, kinds_said method value query texts from until says matchers window, matchers, parts)
object_asks method value tenant query texts from until (Err Memory) is says matchers window parts = tt
object_asks method value tenant query texts from until (Err (Fault refusal)) is says matchers window parts = absurd parts

-- what the body's object asks is what the body asks
pub body_asks : (method : LabelMethod) (body : List ℕ) (tenant : List ℕ) (value : Data) (result : Result LabelAsk (Refused Refusal))
    → IsReadObject (or_braces body) (Ok value) → MatchResult result (SaysLabelAsk method value tenant) (IfFault (IsAskRefused method value))
    → MatchResult result (λ ask. (ask.part.tenant ≡ tenant) × (method_of ask.query ≡ method) × IsLabelAsk method body ask) (IfFault (IsLabelFault method body))
body_asks method body tenant value (Ok asked) object says = (
  says.1,
  says.2,
  record {
    value = value;
    texts = says.0;
    fields = record {
      object = object;
      kinds = kinds_said method value asked.query says.0 asked.part.from_ms asked.part.until_ms says.3 says.4 says.7;
      matchers = says.4;
    };
    query = says.3;
    few = says.5;
    selectors = says.6;
    window = says.7;
    ordered = says.8;
  },
)
body_asks method body tenant value (Err (Fault (WrongKind at))) object says = (value, object, says)
body_asks method body tenant value (Err (Fault (Selector fault))) object says =
    (value, says.0, record { object = object; kinds = says.1; matchers = says.2 }, says.3)
body_asks method body tenant value (Err (Fault Window)) object says =
    (value, says.0, says.1, says.2, says.3, record { object = object; kinds = says.4; matchers = says.5 }, says.6, says.7, says.8, says.9)
body_asks method body tenant value (Err Memory) object says = tt
body_asks method body tenant value (Err (Fault refusal)) object says = absurd says

-- what held of a result whose error alone was mapped
pub kept_ok : {X E F : Type 0} (P : X → Type 0) (Q R : E → Type 0) (before : Result X E) (after : Result X F) (x : X)
    → MatchResult before P Q → MatchResult before (λ y. after ≡ Ok y) R → is_ok after ≡ is_ok before → after ≡ Ok x → P x
kept_ok {F = F} P Q R (Ok y) after x holds cases same is = MatchResult-at_ok {r = Ok y} P (λ (e : F). Unit {0}) x (sym cases ∙ is) holds
kept_ok P Q R (Err e) after x holds cases same is = absurd (false≢true (sym same ∙ ap is_ok is))
