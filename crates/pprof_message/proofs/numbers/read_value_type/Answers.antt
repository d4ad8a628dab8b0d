use Rattle.std.proofs.Common.{refl, lit<}
use Rattle.pprof_message.specs.Fields.{fields_in}
use Rattle.pprof_message.proofs.NumberLemmas.{int64_of}
use Rattle.pprof_message.proofs.numbers.read_value_type.Goals as goal

pub returns : goal.returns
returns c =
    let numbers = c.read_numbers.new.numbers in
    let fields = fields_in c.args.part.now in
    let read = c.in_ok-read_numbers.ensures.read in
    (read.0, rw (int64_of c.cast_signed.result numbers fields 1 c.cast_signed.type_inv c.cast_signed.ensures read.1 (lit< tt), int64_of c.cast_signed-2.result numbers fields 2 c.cast_signed-2.type_inv c.cast_signed-2.ensures read.1 (lit< tt)) refl)
