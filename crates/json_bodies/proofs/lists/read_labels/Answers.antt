use Rattle.std.proofs.Common.{◌-◌, ap, ◌∙◌, arith}
use Rattle.std.specs.Option.{option_and_then}
use Rattle.json.specs.Reads.{token_of}
use Rattle.json_bodies.specs.Fields.{each_said}
use Rattle.json_bodies.specs.Pushes.{label_in}
use Rattle.json_bodies.specs.Walks.{valued}
use Rattle.json_bodies.proofs.FoundLemmas.{items_so}
use Rattle.json_bodies.proofs.KindLemmas.{no_array, no_array_read, no_list, reads_array, reads_other}
use Rattle.json_bodies.proofs.ListLemmas.{stop_so}
use Rattle.json_bodies.proofs.lists.read_labels.Goals as goal

pub returns-in_err-labels : goal.returns-in_err-labels
returns-in_err-labels c =
    let none = stop_so _ _ _ (λ e. ap (valued c.args.depth) c.in_ok-token.ensures
    ∙ no_array_read c.args.depth (token_of c.in_ok-token.token) c.first.new.reader c.if-opens_array.ensures (omega arith) e) c.in_err-labels.ensures in
    grind (arith, none)

pub returns-in_ok-labels : goal.returns-in_ok-labels
returns-in_ok-labels c =
    rw c.in_ok-token.ensures (reads_array _ c.args.depth (token_of c.in_ok-token.token) c.first.new.reader c.each_label.new.reader
    c.if-opens_array.ensures (omega arith)
    (items_so _ _ (c.args.depth - 1) c.first.new.reader c.each_label.new.reader
    (λ ds said d list. ap (option_and_then (each_said label_in)) list ∙ said) c.in_ok-labels.ensures))

pub returns-in_ok-skip_rest : goal.returns-in_ok-skip_rest
returns-in_ok-skip_rest c =
    rw c.in_ok-token.ensures (reads_other _ c.args.depth (token_of c.in_ok-token.token) c.first.new.reader c.skip_rest.new.reader c.in_ok-skip_rest.ensures
    (λ d kind. ap (option_and_then (each_said label_in)) (no_list d (no_array _ d kind c.if-opens_array.ensures))))
