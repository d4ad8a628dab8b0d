use Rattle.std.proofs.Common.{sym}
use Rattle.json.specs.Reads.{token_of}
use Rattle.json_bodies.proofs.KindLemmas.{no_number, no_number_read, reads_number, reads_other, reads_text}
use Rattle.json_bodies.proofs.leaves.read_number.Goals as goal

pub returns-in-Some : goal.returns-in-Some
returns-in-Some c =
    rw c.in_ok-token.ensures (reads_text _ c.args.depth (token_of c.in_ok-token.token) c.first.new.reader c.in-Some.text.now c.in-Some.ensures (sym c.number_of_text.ensures))

pub returns-in-Some-whole_number : goal.returns-in-Some-whole_number
returns-in-Some-whole_number c =
    rw c.in_ok-token.ensures (reads_number c.args.depth (token_of c.in_ok-token.token) c.first.new.reader c.in-Some-number_text.digits.now
    c.in-Some-whole_number.number c.in-Some-number_text.ensures c.in-Some-whole_number.ensures)

pub returns-in-None-whole_number : goal.returns-in-None-whole_number
returns-in-None-whole_number c =
    rw c.in_ok-token.ensures (no_number_read c.args.depth (token_of c.in_ok-token.token) c.first.new.reader c.in-Some-number_text.digits.now
    c.in-Some-number_text.ensures c.in-None-whole_number.ensures)

pub returns-in_ok-skip_rest-in-None : goal.returns-in_ok-skip_rest-in-None
returns-in_ok-skip_rest-in-None c =
    rw c.in_ok-token.ensures (reads_other _ c.args.depth (token_of c.in_ok-token.token) c.first.new.reader c.skip_rest.new.reader c.in_ok-skip_rest-in-None.ensures
    (λ d kind. no_number _ d kind (sym c.in_default.ensures) (sym c.in-None.ensures)))
