use Rattle.std.proofs.Common.{◌+◌, List, [], ◌∷◌, length, ap, ◌∙◌, arith}
use Rattle.std.specs.Prelude.{map, sum_by}
use Rattle.std.specs.Vec.Iter.{into_iter_items}
use Rattle.std.proofs.lemmas.List.{length-append}
use Rattle.std.proofs.lemmas.List.Sums.{sum_by-cons}
use Rattle.std.proofs.lemmas.Result.{err_from_is_err_and}
use Rattle.profile_model.specs.Sums as sums
use Rattle.profile_model.specs.declared.profile.Profile.{Profile}
use Rattle.pprof_message.specs.declared.lists.ValueType.{ValueType}
use Rattle.pprof_codec.specs.Profiles.{held_of, held_weight, stacks_weight}
use Rattle.pprof_codec.specs.Tables.{sums_weight}
use Rattle.pprof_codec.proofs.ProfileLemmas.{held-push, light-enough, next-left, profile-no_room, profiles-all, profiles-more, rest-light, room-left, sums-heavy, sums-length, too-many}
use Rattle.pprof_codec.proofs.build.build_profiles.Goals as goal

pub returns-then-kinds-gt-MAX_PROFILES-clause-built : goal.returns-then-kinds-gt-MAX_PROFILES-clause-built
returns-then-kinds-gt-MAX_PROFILES-clause-built c =
    let size = ap (length {A = ValueType}) c.sample_types-kinds.ensures in too-many c.args.base.now c.args.judged.now.message (omega arith)

pub returns-in_err-build_sums-clause-built : goal.returns-in_err-build_sums-clause-built
returns-in_err-build_sums-clause-built c =
    let p = err_from_is_err_and c.from_residual.result c.from_residual.ensures.1 in
    rw (p.1, p.2) (sums-heavy c.args.base.now c.args.judged.now.message c.in_err-build_sums.field-0.0 c.in_err-build_sums.ensures)

pub loop-number-init : goal.loop-number-init
loop-number-init c =
    let message = c.args.judged.now.message in
    let left = c.into_iter-sums.ensures.rest ∙ c.in_ok-build_sums.ensures.1 in
    let size = sums-length message in
    let count = ap (length {A = List sums.Sample}) c.in_ok-build_sums.ensures.1 in
    let weighed = ap sums_weight left in
    let taken = c.in_ok-build_sums.ensures.0 in
    let len = c.into_iter-sums.ensures.len in
    let none = c.in_ok-profiles.ensures.items in
    record {
      built = ap (map held_of) none;
      size = ap (length {A = Profile}) none;
      left = left;
      count = omega arith;
      taken = omega arith;
    }

pub build_profile-requires-clause-values : goal.build_profile-requires-clause-values
build_profile-requires-clause-values c =
    (next-left c.args.judged.now.message c.loop-number.number (into_iter_items c.loop-number.sums) (into_iter_items c.next.new.self) c.in-Some.values
    (let size = ap (length {A = ValueType}) c.sample_types-kinds.ensures in omega arith) c.loop-number.invariant.left c.in-Some.ensures.items).0

pub returns-in_err-build_profile-clause-built : goal.returns-in_err-build_profile-clause-built
returns-in_err-build_profile-clause-built c =
    let message = c.args.judged.now.message in
    let p = err_from_is_err_and c.from_residual-in_err-build_profile.result c.from_residual-in_err-build_profile.ensures.1 in
    let size = ap (length {A = ValueType}) c.sample_types-kinds.ensures in
    let next = next-left message c.loop-number.number (into_iter_items c.loop-number.sums) (into_iter_items c.next.new.self) c.in-Some.values
    (omega arith) c.loop-number.invariant.left c.in-Some.ensures.items in
    let rest = ap sums_weight next.1 in
    let all = ap sums_weight c.in-Some.ensures.items in
    let parts = sum_by-cons stacks_weight c.in-Some.values (into_iter_items c.next.new.self) in
    let light = rest-light c.args.base.now message (c.loop-number.number + 1) in
    let taken = c.loop-number.invariant.taken in
    rw (p.1, p.2)
    (profile-no_room c.args.base.now message c.sample_types-kinds.result.now c.loop-number.number _ (c.loop-number.room + stacks_weight c.in-Some.values) c.build_profile.new.room
    c.in_err-build_profile.field-0.0 (sums_weight (into_iter_items c.next.new.self))
    c.sample_types-kinds.ensures (omega arith) (omega arith) (omega arith) c.in_err-build_profile.ensures)

pub loop-number-preserved : goal.loop-number-preserved
loop-number-preserved c =
    let message = c.args.judged.now.message in
    let size = ap (length {A = ValueType}) c.sample_types-kinds.ensures in
    let next = next-left message c.loop-number.number (into_iter_items c.loop-number.sums) (into_iter_items c.next.new.self) c.in-Some.values
    (omega arith) c.loop-number.invariant.left c.in-Some.ensures.items in
    let all = ap sums_weight c.in-Some.ensures.items in
    let parts = sum_by-cons stacks_weight c.in-Some.values (into_iter_items c.next.new.self) in
    let taken = c.loop-number.invariant.taken in
    let count = c.loop-number.invariant.count in
    let len = c.in-Some.ensures.len in
    let held = c.loop-number.invariant.size in
    let more = ap (length {A = Profile}) c.in_ok-push.ensures.items in
    let longer = length-append c.loop-number.profiles.items (c.in_ok-build_profile.field-0 ∷ []) in
    record {
      built =
          held-push c.loop-number.profiles.items _ c.in_ok-build_profile.field-0 c.in_ok-push.ensures.items
          ∙ profiles-more c.args.base.now message c.sample_types-kinds.result.now _ (held_of c.in_ok-build_profile.field-0) c.loop-number.number _
          c.sample_types-kinds.ensures (omega arith) c.loop-number.invariant.built c.in_ok-build_profile.ensures.1;
      size = omega arith;
      left = next.1;
      count = omega arith;
      taken =
          room-left c.args.base.now message c.sample_types-kinds.result.now c.loop-number.number _ (c.loop-number.room + stacks_weight c.in-Some.values) c.build_profile.new.room
          (sums_weight (into_iter_items c.next.new.self)) c.sample_types-kinds.ensures (omega arith) (omega arith) c.in_ok-build_profile.ensures.0;
    }

pub returns-clause-built : goal.returns-clause-built
returns-clause-built c =
    let message = c.args.judged.now.message in
    let size = ap (length {A = ValueType}) c.sample_types-kinds.ensures in
    let all = profiles-all c.args.base.now message c.loop-number.number (omega arith) in
    let weighed = ap (sum_by held_weight) all in
    let taken = c.loop-number.invariant.taken in
    (light-enough c.args.base.now message (omega arith) (omega arith), c.loop-number.invariant.built ∙ all)

pub returns-clause-few : goal.returns-clause-few
returns-clause-few c =
    let size = ap (length {A = ValueType}) c.sample_types-kinds.ensures in
    let held = c.loop-number.invariant.size in omega arith
