use Rattle.std.proofs.Common.{◌≡◌, ◌≤◌, ◌<◌, ◌∙◌, List, [], ◌∷◌, length, get_or, sym, ap, arith, codes}
use Rattle.std.specs.Prelude.{map, string_bytes}
use Rattle.std.specs.Cmp.Lexicographic.{bytes_decides}
use Rattle.pyro_server.proofs.words.command_of.Goals as goal

-- a list of one element
only_one : {X : Type 0} (xs : List X) (x : X) → 1 ≤ length xs → length xs < 2 → x ≡ get_or xs 0 x → xs ≡ x ∷ []
only_one [] x some few is = absurd (omega arith)
only_one (y ∷ []) x some few is = ap (λ z. z ∷ []) (sym is)
only_one (y ∷ z ∷ zs) x some few is = absurd (omega arith)

pub returns-then-eq : goal.returns-then-eq
returns-then-eq c =
    let same = sym c.as_str.ensures.value ∙ (bytes_decides c.as_str.result.now (codes "session")).0 (sym c.eq.ensures ∙ c.if-eq.true) in
    ap (map string_bytes) (only_one c.args.words.now c.only-item.result c.in-len1.len_at_least c.in-len1.len_below c.only-item.is) ∙ ap (λ word. word ∷ []) same
