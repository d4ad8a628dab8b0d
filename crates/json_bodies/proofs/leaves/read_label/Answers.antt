use Rattle.std.proofs.Common.{◌-◌, codes, ap, ap₂, sym, ◌∙◌, arith}
use Rattle.std.specs.Option.{option_and_then}
use Rattle.json.specs.Reads.{token_of}
use Rattle.serde_json.specs.Find.{as_str}
use Rattle.json_bodies.specs.Kept.{label_from}
use Rattle.json_bodies.specs.Pushes.{text_at}
use Rattle.json_bodies.specs.Walks.{valued}
use Rattle.json_bodies.proofs.FoundLemmas.{members_so}
use Rattle.json_bodies.proofs.KindLemmas.{no_object, no_object_read, nothing_at, reads_object, reads_other}
use Rattle.json_bodies.proofs.leaves.read_label.Goals as goal

pub returns-in_err-texts : goal.returns-in_err-texts
returns-in_err-texts c =
    let none = ap (valued c.args.depth) c.in_ok-token.ensures
    ∙ no_object_read c.args.depth (token_of c.in_ok-token.token) c.first.new.reader c.if-opens_object.ensures c.requires c.in_err-texts.ensures in
    grind (arith, none)

pub returns-in_ok-texts : goal.returns-in_ok-texts
returns-in_ok-texts c =
    rw c.in_ok-token.ensures (reads_object _ c.args.depth (token_of c.in_ok-token.token) c.first.new.reader c.label_texts.new.reader
    c.if-opens_object.ensures c.requires
    (members_so _ _ (c.args.depth - 1) c.first.new.reader c.label_texts.new.reader
    (λ ms texts. ap₂ label_from texts.name texts.value ∙ sym c.label_of.ensures) c.in_ok-texts.ensures))

pub returns-in_ok-skip_rest : goal.returns-in_ok-skip_rest
returns-in_ok-skip_rest c =
    rw c.in_ok-token.ensures (reads_other _ c.args.depth (token_of c.in_ok-token.token) c.first.new.reader c.skip_rest.new.reader c.in_ok-skip_rest.ensures
    (λ d kind. ap (λ o. label_from (option_and_then as_str o) (text_at (codes "value") d)) (nothing_at (codes "name") d (no_object _ d kind c.if-opens_object.ensures))))
