use Rattle.std.proofs.Common.{◌+◌, length, sym, ap, arith}
use Rattle.std.proofs.lemmas.Result.{err_from_is_err_and}
use Rattle.faults.specs.declared.refused.Refused.TheVariants.{Fault}
use Rattle.profile_model.specs.Sums.{Sample, with_added}
use Rattle.pprof_codec.specs.Profiles.{stacks_weight}
use Rattle.pprof_codec.proofs.RoomLemmas.{new-weight, takes-along, takes-known}
use Rattle.pprof_codec.proofs.sums.add.Goals as goal

pub returns-in_err-take_room-in-Ok : goal.returns-in_err-take_room-in-Ok
returns-in_err-take_room-in-Ok c =
    let p = err_from_is_err_and c.from_residual.result c.from_residual.ensures.1 in
    let grown = ap (length {A = Sample}) c.in-Ok.ensures.ok in
    let more = new-weight c.args.sums.now c.args.stack c.args.value _ (omega arith) c.requires.weight in
    rw (p.1, p.2) (takes-along (Fault c.in_err-take_room-in-Ok.field-0.0) c.args.room.now c.args.weight (c.args.room.now + stacks_weight c.args.sums.now) (stacks_weight (with_added c.args.sums.now c.args.stack c.args.value))
    (λ less. omega arith) c.in_err-take_room-in-Ok.ensures)

pub returns-in_ok-take_room-in-Ok : goal.returns-in_ok-take_room-in-Ok
returns-in_ok-take_room-in-Ok c =
    let grown = ap (length {A = Sample}) c.in-Ok.ensures.ok in
    let more = new-weight c.args.sums.now c.args.stack c.args.value _ (omega arith) c.requires.weight in
    let taken = c.in_ok-take_room-in-Ok.ensures in
    (omega arith, c.in-Ok.ensures.ok)

pub returns-in-Ok-2 : goal.returns-in-Ok-2
returns-in-Ok-2 c =
    let grown = ap (length {A = Sample}) c.in-Ok.ensures.ok in
    let same = takes-known c.args.sums.now c.args.stack c.args.value (omega arith) in
    (ap (λ weight. c.args.room.now + weight) (sym same), c.in-Ok.ensures.ok)
