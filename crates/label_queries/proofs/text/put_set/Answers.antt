use Rattle.std.proofs.Common.{◌≤◌, length, codes, arith}
use Rattle.std.proofs.lemmas.List.{take_all}
use Rattle.std.proofs.lemmas.Result.{on_ok_weaker}
use Rattle.label_queries.specs.Texts.{label_data}
use Rattle.label_queries.proofs.TextLemmas.{list_is_written}
use Rattle.label_queries.proofs.text.put_set.Goals as goal

pub returns-clause-tokens : goal.returns-clause-tokens
returns-clause-tokens c =
    let all : length c.args.labels.now ≤ c.loop-name.name-index = omega arith in
    on_ok_weaker c.end_object.result
    (λ closed. list_is_written (codes "labels") label_data c.args.labels.now c.args.writer.now.tokens
    c.loop-name.writer.tokens c.end_array.new.self.tokens c.end_object.new.self.tokens
    (rw take_all at c.loop-name.invariant.1) c.in_ok-end_array.ensures.ok closed) c.end_object.ensures.ok
