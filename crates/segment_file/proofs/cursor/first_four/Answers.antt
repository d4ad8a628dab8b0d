use Rattle.std.proofs.Common.{arith}
use Rattle.segment_file.proofs.ReadNumbers.{front_four}
use Rattle.segment_file.proofs.cursor.first_four.Goals as goal

pub returns-in-Some : goal.returns-in-Some
returns-in-Some c =
    let cut = c.in-Some.ensures.cases in
    front_four c.args.bytes.now c.in-Some.number.now c.in-Some.rest.now c.from_be_bytes.result (λ i. omega (arith, c.type_inv.bytes i)) (omega (arith, cut.2)) cut.0 cut.1
    c.from_be_bytes.ensures

pub returns-in-None : goal.returns-in-None
returns-in-None c = record { each = λ i. omega (arith, c.type_inv.bytes i); few = c.in-None.ensures.cases }
