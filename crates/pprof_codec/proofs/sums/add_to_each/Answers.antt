use Rattle.std.proofs.Common.{◌≡◌, ◌+◌, ◌-◌, ◌++◌, length, set, take, drop, ap, ◌∙◌, subst, arith}
use Rattle.std.proofs.lemmas.Result.{err_from_is_err_and}
use Rattle.pprof_codec.specs.Tables.{run_added, sums_weight}
use Rattle.pprof_codec.proofs.RoomLemmas.{takes-along, takes-part}
use Rattle.pprof_codec.proofs.RunLemmas.{length-run, mixed-all, step-least, step-now, step-total, step-weight}
use Rattle.pprof_codec.proofs.sums.add_to_each.Goals as goal

pub add_copy-requires-clause-total : goal.add_copy-requires-clause-total
add_copy-requires-clause-total c =
    step-total c.args.message.now c.args.run.now c.args.stack c.args.sums.now c.loop-number.number (omega arith) c.loop-number.sums c.loop-number.invariant.added
    c.index-sums-number.result c.value_of_run-value.result c.value_of_run-value.ensures (c.requires.totals c.loop-number.number (omega arith))

pub returns-in_err-add_copy : goal.returns-in_err-add_copy
returns-in_err-add_copy c =
    let p = err_from_is_err_and c.from_residual.result c.from_residual.ensures.1 in
    let more = step-weight c.args.message.now c.args.run.now c.args.stack c.args.sums.now c.loop-number.number (omega arith) c.loop-number.sums c.loop-number.invariant.added
    c.index-sums-number.result c.value_of_run-value.result c.value_of_run-value.ensures in
    let most = step-least c.args.message.now c.args.run.now c.args.stack c.args.sums.now c.loop-number.number (omega arith) c.loop-number.sums c.loop-number.invariant.added
    c.index-sums-number.result c.value_of_run-value.result c.value_of_run-value.ensures in
    let taken = c.loop-number.invariant.taken in
    rw (p.1, p.2) (takes-along c.in_err-add_copy.field-0.0 _ _
    (c.args.room.now + sums_weight c.args.sums.now) (sums_weight (run_added c.args.message.now c.args.run.now c.args.stack c.args.sums.now))
    (λ less. omega arith) c.in_err-add_copy.ensures)

pub loop-number-preserved : goal.loop-number-preserved
loop-number-preserved c =
    let next = step-now c.args.message.now c.args.run.now c.args.stack c.args.sums.now c.loop-number.number (omega arith) c.loop-number.sums c.loop-number.invariant.added
    c.index-sums-number.result c.value_of_run-value.result c.value_of_run-value.ensures in
    let more = step-weight c.args.message.now c.args.run.now c.args.stack c.args.sums.now c.loop-number.number (omega arith) c.loop-number.sums c.loop-number.invariant.added
    c.index-sums-number.result c.value_of_run-value.result c.value_of_run-value.ensures in
    let own = ap (set c.loop-number.sums c.loop-number.number) c.in_ok-add_copy.ensures.1 in
    let weighed = ap sums_weight own in
    let before = c.loop-number.invariant.taken in
    let taken = c.in_ok-add_copy.ensures.0 in
    record {
      added = own ∙ next;
      taken = omega arith;
    }

pub add-requires-clause-total : goal.add-requires-clause-total
add-requires-clause-total c =
    let e : c.loop-number.number ≡ length c.args.sums.now - 1 = omega arith in
    let mixed = subst (λ n. c.loop-number.sums ≡ take n (run_added c.args.message.now c.args.run.now c.args.stack c.args.sums.now) ++ drop n c.args.sums.now) e c.loop-number.invariant.added in
    step-total c.args.message.now c.args.run.now c.args.stack c.args.sums.now (length c.args.sums.now - 1) (omega arith) c.loop-number.sums mixed
    c.index-sums-last.result c.value_of_run-value-2.result c.value_of_run-value-2.ensures (c.requires.totals (length c.args.sums.now - 1) (omega arith))

pub returns : goal.returns
returns c =
    let message = c.args.message.now in
    let run = c.args.run.now in
    let before = c.args.sums.now in
    let after = run_added message run c.args.stack before in
    let last = length before - 1 in
    let e : c.loop-number.number ≡ last = omega arith in
    let mixed = subst (λ n. c.loop-number.sums ≡ take n after ++ drop n before) e c.loop-number.invariant.added in
    let next = step-now message run c.args.stack before last (omega arith) c.loop-number.sums mixed
    c.index-sums-last.result c.value_of_run-value-2.result c.value_of_run-value-2.ensures in
    let more = step-weight message run c.args.stack before last (omega arith) c.loop-number.sums mixed
    c.index-sums-last.result c.value_of_run-value-2.result c.value_of_run-value-2.ensures in
    let whole = next ∙ mixed-all before after (last + 1) (length-run message run c.args.stack before) (omega arith) in
    let weighed = ap sums_weight whole in
    let taken = c.loop-number.invariant.taken in
    takes-part _ _ c.add.result _ c.add.new.room _ (c.args.room.now + sums_weight before) (sums_weight after)
    (λ less. omega arith) (λ same. omega arith) (λ made. ap (set c.loop-number.sums last) made ∙ whole) c.add.ensures
