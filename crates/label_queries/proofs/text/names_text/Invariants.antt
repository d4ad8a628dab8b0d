use Rattle.std.proofs.Common.{◌≡◌, [], ◌∷◌, flat_map, take, codes}
use Rattle.json.specs.Token.{begin_array, begin_object, key}
use Rattle.json.specs.Tree.{json_tokens}
use Rattle.serde_json.specs.Data.{string}
use Rattle.serde_json.specs.Written.{outline}
use Rattle.label_queries.proofs.text.names_text.Given as goal

abbrev pub invariant-loop-name : goal.invariant-loop-name
invariant-loop-name l =
    (l.writer.before ≡ [])
    × (l.writer.tokens ≡ begin_object ∷ key (codes "names") ∷ begin_array
    ∷ flat_map (λ name. json_tokens (outline (string name))) (take l.name-index l.names))
