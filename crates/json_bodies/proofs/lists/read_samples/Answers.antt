use Rattle.std.proofs.Common.{◌-◌, Err, refl, sym, subst, ap, ◌∙◌, arith}
use Rattle.json.specs.Reads.{token_of}
use Rattle.json_bodies.specs.Fields.{as_list}
use Rattle.json_bodies.specs.Kept.{AreSamples}
use Rattle.json_bodies.specs.Walks.{valued}
use Rattle.json_bodies.proofs.FoundLemmas.{items_so}
use Rattle.json_bodies.proofs.KindLemmas.{no_array, no_array_read, no_list, reads_array, reads_other}
use Rattle.json_bodies.proofs.ListLemmas.{stop_so}
use Rattle.json_bodies.proofs.lists.read_samples.Goals as goal

pub returns-in_err-samples : goal.returns-in_err-samples
returns-in_err-samples c =
    let none = stop_so _ _ _ (λ e. ap (valued c.args.depth) c.in_ok-token.ensures
    ∙ no_array_read c.args.depth (token_of c.in_ok-token.token) c.first.new.reader c.if-opens_array.ensures (omega arith) e) c.in_err-samples.ensures in
    grind (arith, none)

pub returns-in_ok-samples : goal.returns-in_ok-samples
returns-in_ok-samples c =
    rw c.in_ok-token.ensures (reads_array (λ d. AreSamples (as_list d) c.in_ok-samples.samples) c.args.depth (token_of c.in_ok-token.token) c.first.new.reader c.each_text.new.reader
    c.if-opens_array.ensures (omega arith)
    (items_so _ _ (c.args.depth - 1) c.first.new.reader c.each_text.new.reader
    (λ ds said d list. subst (λ list. AreSamples list c.in_ok-samples.samples) (sym list) said) c.in_ok-samples.ensures))

pub returns-in_ok-skip_rest : goal.returns-in_ok-skip_rest
returns-in_ok-skip_rest c =
    rw c.in_ok-token.ensures (reads_other (λ d. AreSamples (as_list d) (Err 0)) c.args.depth (token_of c.in_ok-token.token) c.first.new.reader c.skip_rest.new.reader c.in_ok-skip_rest.ensures
    (λ d kind. subst (λ list. AreSamples list (Err 0)) (sym (no_list d (no_array _ d kind c.if-opens_array.ensures))) refl))
