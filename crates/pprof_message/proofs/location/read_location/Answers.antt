use Rattle.std.proofs.Common.{refl, lit<}
use Rattle.pprof_message.specs.Fields.{fields_in}
use Rattle.pprof_message.proofs.NumberLemmas.{singular_of}
use Rattle.pprof_message.proofs.location.read_location.Goals as goal

pub returns : goal.returns
returns c =
    let numbers = c.read_fields.new.numbers in
    let fields = fields_in c.args.part.now in
    let read = c.in_ok-read_fields.ensures in
    let id = singular_of numbers fields 1 read.1.0 (lit< tt) in
    let address = singular_of numbers fields 3 read.1.0 (lit< tt) in
    (read.0, (rw (c.in_ok-push.ensures.items, id, address) refl, rw (c.in_ok-close.ensures, read.1.1) refl))
