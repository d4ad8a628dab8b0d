use Rattle.std.proofs.Common.{◌≤◌, [], length, map, codes, arith, sym, ap, ◌∙◌}
use Rattle.std.proofs.lemmas.List.{take_all}
use Rattle.std.proofs.lemmas.Simd.{map-map}
use Rattle.serde_json.specs.Data.{array, object, member, no_members}
use Rattle.serde_json.specs.View.{items_of}
use Rattle.label_queries.specs.Texts.{series_data, set_data}
use Rattle.label_queries.proofs.TextLemmas.{list_is_written, text_of_tokens, tokens_of}
use Rattle.label_queries.proofs.text.series_text.Goals as goal

pub returns : goal.returns
returns c =
    let all : length c.args.series.now ≤ c.loop-set.set-index = omega arith in
    text_of_tokens (series_data (map (λ set. set.items) c.args.series.now)) c.into_inner.result.items
    c.end_object.new.self.before c.end_object.new.self.tokens c.into_inner.ensures.items
    (c.in_ok-end_object.ensures.room.0 ∙ c.in_ok-end_array.ensures.room.0 ∙ c.loop-set.invariant.0)
    (list_is_written (codes "labelsSet") (λ set. set_data set.items) c.args.series.now [] c.loop-set.writer.tokens
    c.end_array.new.self.tokens c.end_object.new.self.tokens
    (rw take_all at c.loop-set.invariant.1) c.in_ok-end_array.ensures.ok c.in_ok-end_object.ensures.ok
    ∙ ap (λ sets. tokens_of (object (member (codes "labelsSet") (array (items_of sets)) no_members)))
    (sym (map-map set_data (λ set. set.items) c.args.series.now)))
