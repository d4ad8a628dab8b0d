use Rattle.std.proofs.Common.{refl, sym}
use Rattle.json.specs.Reads.{token_of}
use Rattle.json_bodies.proofs.KindLemmas.{no_text, reads_other, reads_text}
use Rattle.json_bodies.proofs.leaves.read_text.Goals as goal

pub returns-in-Some : goal.returns-in-Some
returns-in-Some c =
    rw c.in_ok-token.ensures (reads_text _ c.args.depth (token_of c.in_ok-token.token) c.first.new.reader c.in-Some.text.now c.in-Some.ensures refl)

pub returns-in_ok-skip_rest-in-None : goal.returns-in_ok-skip_rest-in-None
returns-in_ok-skip_rest-in-None c =
    rw c.in_ok-token.ensures (reads_other _ c.args.depth (token_of c.in_ok-token.token) c.first.new.reader c.skip_rest.new.reader c.in_ok-skip_rest-in-None.ensures
    (λ d kind. no_text _ d kind (sym c.in-None.ensures)))
