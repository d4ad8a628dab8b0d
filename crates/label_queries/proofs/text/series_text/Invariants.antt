use Rattle.std.proofs.Common.{◌≡◌, [], ◌∷◌, flat_map, take, codes}
use Rattle.json.specs.Token.{begin_array, begin_object, key}
use Rattle.json.specs.Tree.{json_tokens}
use Rattle.serde_json.specs.Written.{outline}
use Rattle.label_queries.specs.Texts.{set_data}
use Rattle.label_queries.proofs.text.series_text.Given as goal

abbrev pub invariant-loop-set : goal.invariant-loop-set
invariant-loop-set l =
    (l.writer.before ≡ [])
    × (l.writer.tokens ≡ begin_object ∷ key (codes "labelsSet") ∷ begin_array
    ∷ flat_map (λ set. json_tokens (outline (set_data set.items))) (take l.set-index l.series))
