use Rattle.std.proofs.Common.{◌≡◌, ◌∷◌, ◌++◌, flat_map, take, codes}
use Rattle.json.specs.Token.{begin_array, begin_object, key}
use Rattle.json.specs.Tree.{json_tokens}
use Rattle.serde_json.specs.Written.{outline}
use Rattle.label_queries.specs.Texts.{label_data}
use Rattle.label_queries.proofs.text.put_set.Given as goal

abbrev pub invariant-loop-name : goal.invariant-loop-name
invariant-loop-name l =
    (l.writer.before ≡ l.fn.writer.before)
    × (l.writer.tokens ≡ l.fn.writer.tokens ++ begin_object ∷ key (codes "labels") ∷ begin_array
    ∷ flat_map (λ label. json_tokens (outline (label_data label))) (take l.name-index l.labels))
