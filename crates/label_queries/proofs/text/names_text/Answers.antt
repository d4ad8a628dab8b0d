use Rattle.std.proofs.Common.{◌≤◌, [], length, codes, arith, ◌∙◌}
use Rattle.std.proofs.lemmas.List.{take_all}
use Rattle.serde_json.specs.Data.{string}
use Rattle.label_queries.specs.Texts.{names_data}
use Rattle.label_queries.proofs.TextLemmas.{list_is_written, text_of_tokens}
use Rattle.label_queries.proofs.text.names_text.Goals as goal

pub returns : goal.returns
returns c =
    let all : length c.args.names.now ≤ c.loop-name.name-index = omega arith in
    text_of_tokens (names_data c.args.names.now) c.into_inner.result.items c.end_object.new.self.before
    c.end_object.new.self.tokens c.into_inner.ensures.items
    (c.in_ok-end_object.ensures.room.0 ∙ c.in_ok-end_array.ensures.room.0 ∙ c.loop-name.invariant.0)
    (list_is_written (codes "names") string c.args.names.now [] c.loop-name.writer.tokens c.end_array.new.self.tokens
    c.end_object.new.self.tokens
    (rw take_all at c.loop-name.invariant.1) c.in_ok-end_array.ensures.ok c.in_ok-end_object.ensures.ok)
