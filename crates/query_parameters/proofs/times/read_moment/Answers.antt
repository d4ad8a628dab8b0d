use Rattle.std.proofs.Common.{arith, length}
use Rattle.wire_forms.proofs.DigitLemmas.{power-le}
use Rattle.query_parameters.proofs.times.read_moment.Goals as goal

pub returns-in-11-to-13-clause-bound : goal.returns-in-11-to-13-clause-bound
returns-in-11-to-13-clause-bound c =
    let small = c.in_ok-number.ensures.small in let power = power-le (length c.args.digits.now) 13 (omega arith) in omega arith

pub returns-in-14-to-16-clause-bound : goal.returns-in-14-to-16-clause-bound
returns-in-14-to-16-clause-bound c =
    let small = c.in_ok-number.ensures.small in let power = power-le (length c.args.digits.now) 16 (omega arith) in omega arith
