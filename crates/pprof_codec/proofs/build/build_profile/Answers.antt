use Rattle.std.proofs.Common.{◌+◌, ap, ◌∙◌, arith, rules, w64}
use Rattle.std.proofs.lemmas.Int.{to_z-of_z}
use Rattle.std.proofs.lemmas.Result.{err_from_is_err_and}
use mir.Val.{SFits}
use Rattle.faults.specs.declared.refused.Refused.TheVariants.{Fault}
use Rattle.profile_model.specs.ReadKinds.{parts_in}
use Rattle.pprof_codec.specs.Profiles.{held_weight, profile_of, stacks_weight, time_of}
use Rattle.pprof_codec.proofs.ProfileLemmas.{bare_weight, bare-weighed, bare-most, bare-taken, held-weight, held-built}
use Rattle.pprof_codec.proofs.RoomLemmas.{takes-along}
use Rattle.pprof_codec.proofs.build.build_profile.Goals as goal

pub returns-in_err-take_room : goal.returns-in_err-take_room
returns-in_err-take_room c =
    let labels = c.in_ok-clone.field-0 in
    let parts = parts_in c.in_ok-kind_of.field-0 in
    let p = err_from_is_err_and c.from_residual-in_err-take_room.result c.from_residual-in_err-take_room.ensures.1 in
    let weighed = bare-weighed c.weight.result labels parts c.new.result c.new.ensures c.weight.ensures in
    let most = bare-most c.weight.result (bare_weight labels parts) weighed in
    let whole = held-weight c.args.base.now c.args.judged.now.message c.args.number c.args.kind.now labels parts c.in_ok-clone.ensures.cases c.in_ok-kind_of.ensures in
    let own = ap stacks_weight c.requires.values in
    rw (p.1, p.2) (takes-along (Fault c.in_err-take_room.field-0.0) c.args.room.now c.weight.result (c.args.room.now + stacks_weight c.args.values)
    (held_weight (profile_of c.args.base.now c.args.judged.now.message c.args.number c.args.kind.now)) (λ less. omega arith) c.in_err-take_room.ensures)

pub returns : goal.returns
returns c =
    let labels = c.in_ok-clone.field-0 in
    let parts = parts_in c.in_ok-kind_of.field-0 in
    let weighed = bare-weighed c.weight.result labels parts c.new.result c.new.ensures c.weight.ensures in
    let taken = c.in_ok-take_room.ensures in
    let room = c.requires.room in
    let all = bare-taken c.weight.result (bare_weight labels parts) weighed (omega arith) in
    let whole = held-weight c.args.base.now c.args.judged.now.message c.args.number c.args.kind.now labels parts c.in_ok-clone.ensures.cases c.in_ok-kind_of.ensures in
    let own = ap stacks_weight c.requires.values in
    let fits : SFits w64 c.time_nanos.result = search rules in
    let timed = simp to_z-of_z at c.time_of.ensures in (
      omega arith,
      held-built c.args.base.now c.args.judged.now.message c.args.number c.args.kind.now labels parts c.time_of.result c.args.values
          c.in_ok-clone.ensures.cases c.in_ok-kind_of.ensures (timed ∙ ap (time_of c.args.base.now.fallback_ms) c.time_nanos.ensures) c.requires.values,
    )
