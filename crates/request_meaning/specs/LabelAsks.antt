-- What the body of a query for labels asks for (the querier service of Pyroscope's API).
use Rattle.std.specs.Prelude.{◌≡◌, ◌⊎◌, ◌<◌, ◌≤◌, ℕ, Bool, not, List, [], ◌∷◌, ◌++◌, length, codes, Some, None, option_map, Ok, Err}
use Rattle.std.specs.List.{position}
use Rattle.serde_json.specs.Data.{Data}
use Rattle.json_bodies.specs.Fields.{text_in, texts_in, number_in, end_of}
use Rattle.json_bodies.specs.Objects.{IsReadObject, or_braces}
use Rattle.json_bodies.specs.Queries.{label_names_kinds, label_values_kinds, series_kinds}
use Rattle.json_bodies.specs.declared.object.JsonFault.TheVariants.{NotObject as no_object}
use Rattle.selector.specs.Matching.{Matching}
use Rattle.selector.specs.Read.{IsReadSelector}
use Rattle.selector.specs.declared.fault.SelectorFault.{SelectorFault}
use Rattle.selector.specs.declared.fault.SelectorFault.TheVariants.{TooMany as too_many}
use Rattle.request_meaning.specs.declared.ask.LabelAsk.{LabelAsk}
use Rattle.request_meaning.specs.declared.ask.LabelQuery.{LabelQuery}
use Rattle.request_meaning.specs.declared.ask.LabelQuery.TheVariants as ask
use Rattle.request_meaning.specs.declared.method.LabelMethod.{LabelMethod}
use Rattle.request_meaning.specs.declared.method.LabelMethod.TheVariants.{Names, Values, Series}
use Rattle.request_meaning.specs.declared.refusal.Refusal.{Refusal}
use Rattle.request_meaning.specs.declared.refusal.Refusal.TheVariants.{NotObject, WrongKind, Selector, Window}

-- whether each field of the method is of its kind, in the order of its list
abbrev pub kinds_of : LabelMethod → Data → List Bool
kinds_of Names value = label_names_kinds value
kinds_of Values value = label_values_kinds value
kinds_of Series value = series_kinds value

-- the method of a query
abbrev pub method_of : LabelQuery → LabelMethod
method_of ask.Names = Names
method_of (ask.Values name) = Values
method_of (ask.Series names) = Series

-- what is asked besides selectors and window
abbrev pub SaysQuery : LabelMethod → Data → LabelQuery → Type 0
SaysQuery Names value ask.Names = Unit {0}
SaysQuery Values value (ask.Values name) = text_in (codes "name") value ≡ Some name
SaysQuery Series value (ask.Series names) = texts_in (codes "labelNames") value ≡ Some names.items
SaysQuery method value query = ⊥

-- ---- selectors

-- how many selectors a request may have
abbrev pub most_selectors : ℕ
most_selectors = 16

-- each text is read to its selector
abbrev pub AreSelectors : List (List ℕ) → List (List Matching) → Type 0
AreSelectors [] [] = Unit {0}
AreSelectors (text ∷ texts) (selector ∷ selectors) = IsReadSelector text (Ok selector) × AreSelectors texts selectors
AreSelectors texts selectors = ⊥

-- the first of the texts that is refused, where those before it are read
pub record IsFirstRefused (texts : List (List ℕ)) (fault : SelectorFault) : Type 0 where
  pub before : List (List ℕ)
  pub text : List ℕ
  pub after : List (List ℕ)
  pub cut : texts ≡ before ++ text ∷ after
  pub selectors : List (List Matching)
  pub read : AreSelectors before selectors
  pub here : IsReadSelector text (Err fault)

-- too many texts are refused before any is read
abbrev pub IsSelectorsFault : List (List ℕ) → SelectorFault → Type 0
IsSelectorsFault texts fault =
    ((most_selectors < length texts) × (fault ≡ too_many)) ⊎ ((length texts ≤ most_selectors) × IsFirstRefused texts fault)

-- ---- all of it

-- the body is an object whose fields are of their kinds, and these are its matchers
pub record HasFields (method : LabelMethod) (body : List ℕ) (value : Data) (texts : List (List ℕ)) : Type 0 where
  pub object : IsReadObject (or_braces body) (Ok value)
  pub kinds : position not (kinds_of method value) ≡ None
  pub matchers : texts_in (codes "matchers") value ≡ Some texts

-- the window is closed at both ends; an end that isn't said is the last of all
pub record HasWindow (value : Data) (from until : ℕ) : Type 0 where
  pub start : number_in (codes "start") value ≡ Some from
  pub end : option_map end_of (number_in (codes "end") value) ≡ Some until

pub record IsLabelAsk (method : LabelMethod) (body : List ℕ) (asked : LabelAsk) : Type 0 where
  pub value : Data
  pub texts : List (List ℕ)
  pub fields : HasFields method body value texts
  pub query : SaysQuery method value asked.query
  pub few : length texts ≤ most_selectors
  pub selectors : AreSelectors texts asked.selectors.items
  pub window : HasWindow value asked.part.from_ms asked.part.until_ms
  pub ordered : asked.part.from_ms ≤ asked.part.until_ms

-- the first fault: each where those before it don't hold
abbrev pub IsLabelFault : LabelMethod → List ℕ → Refusal → Type 0
IsLabelFault method body NotObject = IsReadObject (or_braces body) (Err no_object)
IsLabelFault method body (WrongKind at) =
    (value : Data) × IsReadObject (or_braces body) (Ok value) × (position not (kinds_of method value) ≡ Some at)
IsLabelFault method body (Selector fault) =
    (value : Data) × (texts : List (List ℕ)) × HasFields method body value texts × IsSelectorsFault texts fault
IsLabelFault method body Window =
    (value : Data) × (texts : List (List ℕ)) × (selectors : List (List Matching)) × (from : ℕ) × (until : ℕ)
    × HasFields method body value texts × (length texts ≤ most_selectors) × AreSelectors texts selectors × HasWindow value from until × (until < from)
IsLabelFault method body refusal = ⊥
