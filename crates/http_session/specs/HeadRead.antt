-- What the reader of a head answers, and what its spans say of the head's text.
use Rattle.std.specs.Prelude.{◌≡◌, ℕ, ◌≤◌, List, length, map, drop, take, All}
use Rattle.httparse.specs.Grammar.{RequestHead, NeverHasRequest}
use Rattle.httparse.specs.Spans.{IsWithin, IsHeaderWithin, span_bytes, header_bytes}
use Rattle.httparse.specs.declared.spans.HeaderSpan.{HeaderSpan}
use Rattle.httparse.specs.declared.spans.RequestSpans.{RequestSpans}
use Rattle.http_session.specs.Heads.{BeginsWithHead, IsHeadTooLarge, IsUnfinished, headers_of}
use Rattle.http_session.specs.declared.head.HeadRead.{HeadRead}
use Rattle.http_session.specs.declared.head.HeadRead.TheVariants.{Whole, Unfinished, TooLarge, Refused}

-- The spans lie in the text and cover this head's parts.
pub record Covers (text : List ℕ) (headers : List HeaderSpan) (spans : RequestSpans) (head : RequestHead) : Type 0 where
  pub method_within : IsWithin (length text) spans.method
  pub target_within : IsWithin (length text) spans.path
  pub headers_within : All (IsHeaderWithin (length text)) headers
  pub method : span_bytes text spans.method ≡ head.method
  pub target : span_bytes text spans.path ≡ head.target
  pub version : spans.version ≡ head.minor
  pub headers_are : map (header_bytes text) headers ≡ headers_of head

-- The bytes begin with a head, which ends at the spans' length, and they cover it.
pub record IsHeadAt (bytes : List ℕ) (headers : List HeaderSpan) (spans : RequestSpans) (head : RequestHead) : Type 0 where
  pub begins : BeginsWithHead bytes head (drop spans.len bytes)
  pub fits : spans.len ≤ length bytes
  pub count : spans.headers ≤ length headers
  pub covers : Covers (take spans.len bytes) (take spans.headers headers) spans head

-- what each answer says of the bytes
abbrev pub IsHeadRead : List ℕ → List HeaderSpan → HeadRead → Type 0
IsHeadRead bytes headers (Whole spans) = (head : RequestHead) × IsHeadAt bytes headers spans head
IsHeadRead bytes headers Unfinished = IsUnfinished bytes
IsHeadRead bytes headers TooLarge = IsHeadTooLarge bytes
IsHeadRead bytes headers Refused = NeverHasRequest bytes
