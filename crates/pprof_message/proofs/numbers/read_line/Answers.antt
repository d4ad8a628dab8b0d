use Rattle.std.proofs.Common.{lit<}
use Rattle.pprof_message.specs.Fields.{fields_in}
use Rattle.pprof_message.proofs.NumberLemmas.{singular_of}
use Rattle.pprof_message.proofs.numbers.read_line.Goals as goal

pub returns : goal.returns
returns c =
    let numbers = c.read_numbers.new.numbers in
    let fields = fields_in c.args.part.now in
    let read = c.in_ok-read_numbers.ensures.read in
    (read.0, singular_of numbers fields 1 read.1 (lit< tt))
