-- A refusal as a reply shows it.
use Rattle.std.specs.Prelude.{ℕ, List, [], ◌∷◌, codes, Option, Some, None}
use Rattle.ingest.specs.Faults as ingest
use Rattle.json_push.specs.Faults as pushed
use Rattle.selector.specs.Faults as selector
use Rattle.request_meaning.specs.declared.refusal.Refusal.{Refusal}
use Rattle.request_meaning.specs.declared.refusal.Refusal.TheVariants.{NoRoute, WrongMethod, Unbuilt, NoTenant, BadTenant, Encoded, Front, Ingest, Push, NoQuery, Selector, From, Until, Window, NotObject, WrongKind}

-- the code or the word that stands for it
abbrev pub code_of : Refusal → List ℕ
code_of NoRoute = codes "route"
code_of (WrongMethod method) = codes "method"
code_of Unbuilt = codes "unbuilt"
code_of NoTenant = codes "tenant"
code_of (BadTenant at) = codes "T1"
code_of Encoded = codes "encoding"
code_of Front = codes "X1"
code_of (Ingest fault) = ingest.code_of fault
code_of (Push fault) = pushed.code_of fault
code_of NoQuery = codes "Q1"
code_of (Selector fault) = selector.code_of fault
code_of From = codes "Q2"
code_of Until = codes "Q2"
code_of Window = codes "Q3"
code_of NotObject = codes "J1"
code_of (WrongKind at) = codes "J3"

-- where the fault stands, where it is one of what is read
abbrev pub place_of : Refusal → Option (List ℕ)
place_of NoRoute = None
place_of (WrongMethod method) = None
place_of Unbuilt = None
place_of NoTenant = None
place_of (BadTenant at) = Some (at ∷ [])
place_of Encoded = None
place_of Front = Some []
place_of (Ingest fault) = Some (ingest.place_of fault)
place_of (Push fault) = Some (pushed.place_of fault)
place_of NoQuery = Some []
place_of (Selector fault) = Some (selector.place_of fault)
place_of From = Some (1 ∷ [])
place_of Until = Some (2 ∷ [])
place_of Window = Some []
place_of NotObject = Some []
place_of (WrongKind at) = Some (at ∷ [])
