use Rattle.std.proofs.Common.{codes, ap, ◌∙◌, arith}
use Rattle.std.specs.Option.{option_and_then}
use Rattle.json.specs.Reads.{token_of}
use Rattle.json_bodies.specs.Walks.{valued}
use Rattle.serde_json.specs.Find.{as_str}
use Rattle.json_bodies.proofs.KindLemmas.{no_object, no_object_read, nothing_at, reads_object, reads_other}
use Rattle.json_bodies.proofs.leaves.read_sample.Goals as goal

pub returns-in_err-raw : goal.returns-in_err-raw
returns-in_err-raw c =
    let none = ap (valued c.args.depth) c.in_ok-token.ensures
    ∙ no_object_read c.args.depth (token_of c.in_ok-token.token) c.first.new.reader c.if-opens_object.ensures c.requires c.in_err-raw.ensures in
    grind (arith, none)

pub returns-in_ok-raw : goal.returns-in_ok-raw
returns-in_ok-raw c =
    rw c.in_ok-token.ensures (reads_object _ c.args.depth (token_of c.in_ok-token.token) c.first.new.reader c.sample_text.new.reader
    c.if-opens_object.ensures c.requires c.in_ok-raw.ensures)

pub returns-in_ok-skip_rest : goal.returns-in_ok-skip_rest
returns-in_ok-skip_rest c =
    rw c.in_ok-token.ensures (reads_other _ c.args.depth (token_of c.in_ok-token.token) c.first.new.reader c.skip_rest.new.reader c.in_ok-skip_rest.ensures
    (λ d kind. ap (option_and_then as_str) (nothing_at (codes "rawProfile") d (no_object _ d kind c.if-opens_object.ensures))))
