-- The spans of a request lie in its head.
use Rattle.std.specs.Prelude.{◌≡◌, ℕ, List, ◌++◌, length, Option, IfSome}
use Rattle.httparse.specs.declared.spans.Span.{Span}
use Rattle.httparse.specs.Spans.{IsWithin}

pub record IsInHead (head : List ℕ) (path query : Span) (tenant front encoding : Option Span) : Type 0 where
  pub path_within : IsWithin (length head) path
  pub query_within : IsWithin (length head) query
  pub tenant_within : IfSome tenant (IsWithin (length head))
  pub front_within : IfSome front (IsWithin (length head))
  pub encoding_within : IfSome encoding (IsWithin (length head))

-- the bytes are those, with more behind them
abbrev pub Grows : List ℕ → List ℕ → Type 0
Grows old new = (more : List ℕ) × (new ≡ old ++ more)
