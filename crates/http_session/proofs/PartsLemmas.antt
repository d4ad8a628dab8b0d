-- A request from its parts.
use Rattle.std.proofs.Common.{◌≡◌, ℕ, ◌-◌, List, length, arith, Option, Bool, slice_range}
use Rattle.std.proofs.lemmas.List.{take_all}
use Rattle.http_session.specs.Asked.{Asked}
use Rattle.http_session.specs.declared.method.Method.{Method}

-- all of a list
pub whole_range : (xs : List ℕ) (end : ℕ) → end ≡ length xs → slice_range xs 0 end ≡ xs
whole_range xs end is = take_all (end - 0) xs (omega arith)

-- requests of equal parts are equal
pub same_asked : (method : Method) (body : List ℕ) (close : Bool) (moment : ℕ) (p p' q q' : List ℕ) (t t' a a' e e' : Option (List ℕ)) →
    p ≡ p' → q ≡ q' → t ≡ t' → a ≡ a' → e ≡ e' →
    (let one : Asked = record { method = method; path = p; query = q; body = body; tenant = t; front = a; encoding = e; close = close; moment = moment } in one)
    ≡ record { method = method; path = p'; query = q'; body = body; tenant = t'; front = a'; encoding = e'; close = close; moment = moment }
same_asked method body close moment p p' q q' t t' a a' e e' path query tenant front encoding = cc
