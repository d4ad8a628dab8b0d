-- What the parameters of a render ask for (Pyroscope's server HTTP API, "Querying"). The defaults and the order of the
-- faults are this project's own.
use Rattle.std.specs.Prelude.{◌≡◌, ◌&&◌, ◌-◌, ◌<◌, ◌≤◌, ℕ, Bool, true, false, List, codes, Option, Some, None, Ok, Err, MatchOption}
use Rattle.std.specs.Option.{is_none}
use Rattle.query_parameters.specs.Parameters.{value_of}
use Rattle.query_parameters.specs.Times.{time_of}
use Rattle.selector.specs.Read.{IsReadQuery}
use Rattle.selector.specs.declared.query.Query.{Query}
use Rattle.request_meaning.specs.Forms.{is_text}
use Rattle.request_meaning.specs.declared.ask.RenderAsk.{RenderAsk}
use Rattle.request_meaning.specs.declared.refusal.Refusal.{Refusal}
use Rattle.request_meaning.specs.declared.refusal.Refusal.TheVariants.{Unbuilt, NoQuery, Selector, From, Until, Window}

-- parameters: names and values
abbrev pub Parameters : Type 0
Parameters = List (List ℕ × List ℕ)

-- ---- a window

-- one end of it: the time that is said, or the default where none is
abbrev pub IsBound : Option (List ℕ) → ℕ → ℕ → ℕ → Type 0
IsBound said default moment ms = MatchOption said (ms ≡ default) (λ text. time_of text moment ≡ Some ms)

-- what is said is no time
abbrev pub IsNoBound : Option (List ℕ) → ℕ → Type 0
IsNoBound said moment = MatchOption said ⊥ (λ text. time_of text moment ≡ None)

-- from an hour before the moment, if `from` isn't said
abbrev pub IsFrom : Parameters → ℕ → ℕ → Type 0
IsFrom parameters moment ms = IsBound (value_of parameters (codes "from")) (moment - 3600000) moment ms

-- until the moment, if `until` isn't said
abbrev pub IsUntil : Parameters → ℕ → ℕ → Type 0
IsUntil parameters moment ms = IsBound (value_of parameters (codes "until")) moment moment ms

-- ---- the query

abbrev pub is_said : Option (List ℕ) → List ℕ → Bool
is_said None text = false
is_said (Some said) text = is_text said text

-- folded text is asked for, and no count of nodes: other forms of an answer aren't built
abbrev pub asks_for_folded : Parameters → Bool
asks_for_folded parameters =
    is_said (value_of parameters (codes "format")) (codes "folded") && is_none (value_of parameters (codes "maxNodes"))

-- this query is asked
pub record HasQuery (parameters : Parameters) (query : Query) : Type 0 where
  pub folded : asks_for_folded parameters ≡ true
  pub text : List ℕ
  pub there : value_of parameters (codes "query") ≡ Some text
  pub read : IsReadQuery text (Ok query)

-- ---- all of it

pub record IsRenderAsk (parameters : Parameters) (moment : ℕ) (ask : RenderAsk) : Type 0 where
  pub query : HasQuery parameters ask.query
  pub from : IsFrom parameters moment ask.part.from_ms
  pub until : IsUntil parameters moment ask.part.until_ms
  pub ordered : ask.part.from_ms ≤ ask.part.until_ms

-- the first fault of the query
abbrev pub IsQueryFault : Parameters → Refusal → Type 0
IsQueryFault parameters Unbuilt = asks_for_folded parameters ≡ false
IsQueryFault parameters NoQuery = (asks_for_folded parameters ≡ true) × (value_of parameters (codes "query") ≡ None)
IsQueryFault parameters (Selector fault) =
    (asks_for_folded parameters ≡ true)
    × ((text : List ℕ) × (value_of parameters (codes "query") ≡ Some text) × IsReadQuery text (Err fault))
IsQueryFault parameters refusal = ⊥

-- the first fault: each where those before it don't hold
abbrev pub IsRenderFault : Parameters → ℕ → Refusal → Type 0
IsRenderFault parameters moment From = (query : Query) × HasQuery parameters query × IsNoBound (value_of parameters (codes "from")) moment
IsRenderFault parameters moment Until =
    (query : Query) × (from : ℕ) × HasQuery parameters query × IsFrom parameters moment from × IsNoBound (value_of parameters (codes "until")) moment
IsRenderFault parameters moment Window =
    (query : Query) × (from : ℕ) × (until : ℕ) × HasQuery parameters query × IsFrom parameters moment from × IsUntil parameters moment until × (until < from)
IsRenderFault parameters moment refusal = IsQueryFault parameters refusal
