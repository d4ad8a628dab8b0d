use Rattle.std.proofs.Common.{◌-◌, codes, ap, ◌∙◌, arith}
use Rattle.std.specs.Option.{option_and_then}
use Rattle.json.specs.Reads.{token_of}
use Rattle.json_bodies.specs.Fields.{as_list, each_said}
use Rattle.json_bodies.specs.Pushes.{label_in}
use Rattle.json_bodies.specs.Walks.{valued}
use Rattle.json_bodies.proofs.FoundLemmas.{members_so}
use Rattle.json_bodies.proofs.KindLemmas.{no_object, no_object_read, nothing_at, reads_object, reads_other}
use Rattle.json_bodies.proofs.ListLemmas.{stop_so}
use Rattle.json_bodies.proofs.SeriesLemmas.{kept_without_labels}
use Rattle.json_bodies.proofs.series.read_series.Goals as goal

pub returns-in_err-parts : goal.returns-in_err-parts
returns-in_err-parts c =
    let none = stop_so _ _ _ (λ e. ap (valued c.args.depth) c.in_ok-token.ensures
    ∙ no_object_read c.args.depth (token_of c.in_ok-token.token) c.first.new.reader c.if-opens_object.ensures (omega arith) e) c.in_err-parts.ensures in
    grind (arith, none)

pub returns-in_ok-parts : goal.returns-in_ok-parts
returns-in_ok-parts c =
    rw c.in_ok-token.ensures (reads_object _ c.args.depth (token_of c.in_ok-token.token) c.first.new.reader c.read_parts.new.reader
    c.if-opens_object.ensures (omega arith)
    (members_so _ _ (c.args.depth - 1) c.first.new.reader c.read_parts.new.reader
    (λ ms parts. c.series_of.ensures ms parts) c.in_ok-parts.ensures))

pub returns-in_ok-skip_rest : goal.returns-in_ok-skip_rest
returns-in_ok-skip_rest c =
    rw c.in_ok-token.ensures (reads_other _ c.args.depth (token_of c.in_ok-token.token) c.first.new.reader c.skip_rest.new.reader c.in_ok-skip_rest.ensures
    (λ d kind. kept_without_labels d (ap (λ o. option_and_then (each_said label_in) (option_and_then as_list o))
    (nothing_at (codes "labels") d (no_object _ d kind c.if-opens_object.ensures)))))
