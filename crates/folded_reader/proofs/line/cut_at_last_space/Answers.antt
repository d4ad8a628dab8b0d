use Rattle.std.proofs.Common.{refl}
use Rattle.folded_reader.proofs.LineLemmas.{no_space, cut_of}
use Rattle.folded_reader.proofs.line.cut_at_last_space.Goals as goal

pub returns-in-Some-count_of : goal.returns-in-Some-count_of
returns-in-Some-count_of c =
    (c.in-Some.digits.now, cut_of c.args.line.now c.in-Some.stack.now c.in-Some.digits.now c.in-Some.ensures.cases, c.in-Some-count_of.ensures)

pub returns-in-None-count_of : goal.returns-in-None-count_of
returns-in-None-count_of c =
    (refl, c.in-Some.stack.now, c.in-Some.digits.now, cut_of c.args.line.now c.in-Some.stack.now c.in-Some.digits.now c.in-Some.ensures.cases, c.in-None-count_of.ensures)

pub returns-in-None : goal.returns-in-None
returns-in-None c = (refl, no_space c.args.line.now c.in-None.ensures.cases)
