-- A request, as contracts see it.
use Rattle.std.specs.Prelude.{ℕ, ◌==◌, Bool, List, Option, if◌then◌else◌, codes, nat_eq}
use Rattle.std.specs.Cmp.Lexicographic.{pointwise}
use Rattle.std.specs.List.{before_first, after_first}
use Rattle.httparse.specs.Grammar.{RequestHead}
use Rattle.http_session.specs.Heads.{headers_of, first_named}
use Rattle.http_session.specs.Framing.{closes}
use Rattle.http_session.specs.declared.method.Method.{Method}
use Rattle.http_session.specs.declared.method.Method.TheVariants.{Get, Post, Other}

pub record Asked : Type 0 where
  pub method : Method
  pub path : List ℕ
  pub query : List ℕ
  pub body : List ℕ
  -- the first header X-Scope-OrgID, X-Pyro-Front and Content-Encoding, none where it is absent
  pub tenant : Option (List ℕ)
  pub front : Option (List ℕ)
  pub encoding : Option (List ℕ)
  -- whether the connection closes after the reply
  pub close : Bool
  -- milliseconds since 1970
  pub moment : ℕ

-- GET, POST or another
abbrev pub method_of : List ℕ → Method
method_of text = if pointwise nat_eq text (codes "GET") then Get else (if pointwise nat_eq text (codes "POST") then Post else Other)

-- `?`
abbrev pub is_question_mark : ℕ → Bool
is_question_mark b = b == 63

-- what stands before the first question mark of a target
abbrev pub path_of : List ℕ → List ℕ
path_of target = before_first is_question_mark target

-- what stands after it, nothing where there is none
abbrev pub query_of : List ℕ → List ℕ
query_of target = after_first is_question_mark target

-- the request of this number on its connection, with this head and body, at this moment
abbrev pub asked_of : ℕ → ℕ → RequestHead → List ℕ → Asked
asked_of number moment head body = record {
  method = method_of head.method;
  path = path_of head.target;
  query = query_of head.target;
  body = body;
  tenant = first_named (codes "x-scope-orgid") (headers_of head);
  front = first_named (codes "x-pyro-front") (headers_of head);
  encoding = first_named (codes "content-encoding") (headers_of head);
  close = closes number head;
  moment = moment;
}
