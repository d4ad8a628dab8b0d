use Rattle.std.proofs.Common.{◌-◌, sym, ap, ◌∙◌, arith}
use Rattle.std.specs.Option.{option_and_then}
use Rattle.json.specs.Reads.{token_of}
use Rattle.serde_json.specs.Find.{as_str}
use Rattle.json_bodies.specs.Fields.{each_said}
use Rattle.json_bodies.specs.Walks.{valued}
use Rattle.json_bodies.proofs.FoundLemmas.{items_so}
use Rattle.json_bodies.proofs.KindLemmas.{no_array, no_array_read, no_list, reads_array, reads_other}
use Rattle.json_bodies.proofs.ListLemmas.{ok_texts, stop_so}
use Rattle.json_bodies.proofs.lists.read_texts.Goals as goal

pub returns-in_err-texts : goal.returns-in_err-texts
returns-in_err-texts c =
    let none = stop_so _ _ _ (λ e. ap (valued c.args.depth) c.in_ok-token.ensures
    ∙ no_array_read c.args.depth (token_of c.in_ok-token.token) c.first.new.reader c.if-opens_array.ensures (omega arith) e) c.in_err-texts.ensures in
    grind (arith, none)

pub returns-in_ok-texts : goal.returns-in_ok-texts
returns-in_ok-texts c =
    rw c.in_ok-token.ensures (reads_array _ c.args.depth (token_of c.in_ok-token.token) c.first.new.reader c.each_text.new.reader
    c.if-opens_array.ensures (omega arith)
    (items_so _ _ (c.args.depth - 1) c.first.new.reader c.each_text.new.reader
    (λ ds said d list. ap (option_and_then (each_said as_str)) list ∙ ok_texts as_str ds c.in_ok-texts.texts said ∙ sym c.ok.ensures.value) c.in_ok-texts.ensures))

pub returns-in_ok-skip_rest : goal.returns-in_ok-skip_rest
returns-in_ok-skip_rest c =
    rw c.in_ok-token.ensures (reads_other _ c.args.depth (token_of c.in_ok-token.token) c.first.new.reader c.skip_rest.new.reader c.in_ok-skip_rest.ensures
    (λ d kind. ap (option_and_then (each_said as_str)) (no_list d (no_array _ d kind c.if-opens_array.ensures))))
