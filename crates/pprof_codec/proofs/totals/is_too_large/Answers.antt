use Rattle.std.proofs.Common.{◌^◌, arith, sym, ap}
use Rattle.std.specs.Prelude.{not, sum_by}
use Rattle.std.proofs.lemmas.Bool.{lt-ltb, le-ltb}
use Rattle.std.proofs.lemmas.List.{take_all}
use Rattle.pprof_codec.specs.Profiles.{value_of}
use Rattle.pprof_codec.proofs.TotalLemmas.{total-more, total-within}
use Rattle.pprof_codec.proofs.totals.is_too_large.Goals as goal

pub returns-then-value-total : goal.returns-then-value-total
returns-then-value-total c =
    let within = total-within c.args.number c.args.message.now.samples c.loop-at.at _ c.sample.ensures in
    let summed = c.loop-at.invariant.summed in
    let own = c.value_of-value.ensures in
    sym (ap not (le-ltb (sum_by (value_of c.args.number) c.args.message.now.samples) (2 ^ 63) (omega arith)))

pub loop-at-preserved : goal.loop-at-preserved
loop-at-preserved c =
    let more = total-more c.args.number c.args.message.now.samples c.loop-at.at _ c.sample.ensures in
    let summed = c.loop-at.invariant.summed in
    let bounded = c.loop-at.invariant.bounded in
    let own = c.value_of-value.ensures in
    record { summed = omega arith; bounded = omega arith }

pub returns : goal.returns
returns c =
    let all = ap (sum_by (value_of c.args.number)) (take_all c.loop-at.at c.args.message.now.samples (omega arith)) in
    let summed = c.loop-at.invariant.summed in
    let bounded = c.loop-at.invariant.bounded in
    sym (ap not (lt-ltb (sum_by (value_of c.args.number) c.args.message.now.samples) (2 ^ 63) (omega arith)))
