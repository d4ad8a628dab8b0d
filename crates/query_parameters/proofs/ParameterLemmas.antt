-- One parameter more that was looked at.
use Rattle.std.proofs.Common.{◌≡◌, ◌∙◌, ◌+◌, ◌<◌, ◌≤◌, ℕ, List, ◌∷◌, None, Some, ap, cond, drop, get_or, length, nat_eq, sym}
use Rattle.std.specs.Cmp.Lexicographic.{pointwise}
use Rattle.std.specs.String.{string_bytes}
use Rattle.std.proofs.lemmas.List.{drop_all, drop_more}
use Rattle.query_parameters.specs.Parameters.{pairs_of, value_of}
use Rattle.query_parameters.specs.declared.parameters.Parameter.{Parameter}

pub value_of-more : (parameters : List Parameter) (i : ℕ) (p : Parameter) (name : List ℕ) → i < length parameters → p ≡ get_or parameters i p
    → value_of (pairs_of (drop i parameters)) name
    ≡ cond (pointwise nat_eq name (string_bytes p.name)) (Some (string_bytes p.value)) (value_of (pairs_of (drop (i + 1) parameters)) name)
value_of-more parameters i p name short is =
    ap (λ (rest : List Parameter). value_of (pairs_of rest) name)
    (drop_more parameters i p short ∙ ap (λ (q : Parameter). q ∷ drop (i + 1) parameters) (sym is))

pub value_of-all : (parameters : List Parameter) (i : ℕ) (name : List ℕ) → length parameters ≤ i → value_of (pairs_of (drop i parameters)) name ≡ None
value_of-all parameters i name all = ap (λ (rest : List Parameter). value_of (pairs_of rest) name) (drop_all i parameters all)
