use Rattle.std.proofs.Common.{◌≡◌, ℕ, ◌+◌, ◌-◌, ◌++◌, ◌<◌, ◌^◌, List, [], length, get_or, take, drop, sym, ap, ◌∙◌, subst, arith}
use Rattle.std.specs.List.{All}
use Rattle.std.proofs.lemmas.List.{length-drop, take_all, take_rest}
use Rattle.std.proofs.lemmas.Result.{err_from_is_err_and}
use Rattle.std.proofs.Math.Seq.{take-append_seam}
use Rattle.profile_model.specs.Sums as sums
use Rattle.pprof_codec.specs.Tables.{AreAlike, all_sums, first_stack, run_added, stack_at, sums_over, sums_weight, value_over}
use Rattle.pprof_codec.proofs.OrderLemmas.{sums-all, weight-part}
use Rattle.pprof_codec.proofs.RoomLemmas.{takes-along}
use Rattle.pprof_codec.proofs.RunLemmas.{known-part, known-rest, length-over, next-part, total-part, weight-over-none}
use Rattle.pprof_codec.proofs.sums.build_sums.Goals as goal

pub loop-from-init : goal.loop-from-init
loop-from-init c =
    let weighed = ap sums_weight c.in_ok-sums.ensures in
    let none = weight-over-none c.args.judged.now.message in
    record { within = omega arith; summed = c.in_ok-sums.ensures; taken = omega arith }

pub add_run-requires-clause-known : goal.add_run-requires-clause-known
add_run-requires-clause-known c =
    let message = c.args.judged.now.message in
    let e : c.loop-from.from + c.run_length.result - c.loop-from.from ≡ c.run_length.result = omega arith in
    subst (All (λ at. at < length message.samples)) (λ k. take (sym e k) (drop c.loop-from.from (sym c.deref-in-loop-from.ensures.value k)))
    (known-part message c.in_ok-order.order.items c.in_ok-order.ensures c.loop-from.from c.run_length.result)

pub add_run-requires-clause-totals : goal.add_run-requires-clause-totals
add_run-requires-clause-totals c number within =
    let message = c.args.judged.now.message in
    let order = c.in_ok-order.order.items in
    let from = c.loop-from.from in
    let n = c.run_length.result in
    let e : from + n - from ≡ n = omega arith in
    let known = c.deref_mut.ensures.value ∙ c.loop-from.invariant.summed in
    let size = ap (length {A = List sums.Sample}) known in
    let types = length-over message (take from order) in
    let short : number < length message.sample_types = omega arith in
    let most = total-part message order c.in_ok-order.ensures from n number short in
    let below = c.args.judged.now.totals number short in
    subst (λ all. sums.total_of (get_or all number []) + value_over message number (take (from + n - from) (drop from c.deref-in-loop-from.result.now)) < 2 ^ 63) (sym known)
    (subst (λ part. sums.total_of (get_or (sums_over message (take from order)) number []) + value_over message number part < 2 ^ 63)
    (λ k. take (sym e k) (drop from (sym c.deref-in-loop-from.ensures.value k))) (omega arith))

pub returns-in_err-add_run : goal.returns-in_err-add_run
returns-in_err-add_run c =
    let message = c.args.judged.now.message in
    let order = c.in_ok-order.order.items in
    let from = c.loop-from.from in
    let n = c.run_length.result in
    let e : from + n - from ≡ n = omega arith in
    let known = c.deref_mut.ensures.value ∙ c.loop-from.invariant.summed in
    let part : take (from + n - from) (drop from c.deref-in-loop-from.result.now) ≡ take n (drop from order) = (λ k. take (e k) (drop from (c.deref-in-loop-from.ensures.value k))) in
    let rest : take (length c.deref.result.now - from) (drop from c.deref.result.now) ≡ drop from order = take_rest c.deref.result.now from ∙ ap (drop from) c.deref.ensures.value in
    let some = c.run_length.ensures.some in
    let within = c.run_length.ensures.within in
    let size = ap (length {A = ℕ}) rest in
    let alike = subst (AreAlike message) (sym c.as_slice-stacks.ensures.value) c.in_ok-numbers.ensures in
    let known_rest = subst (All (λ at. at < length message.samples)) (sym rest) (known-rest message order c.in_ok-order.ensures from n) in
    let same = subst (λ (xs : List ℕ). All (λ at. stack_at message at ≡ stack_at message (get_or xs 0 0)) (take n xs)) rest (c.run_length.ensures.same message alike known_rest) in
    let next : run_added message (take (from + n - from) (drop from c.deref-in-loop-from.result.now)) (first_stack message (take (from + n - from) (drop from c.deref-in-loop-from.result.now))) c.deref_mut.result.now ≡ sums_over message (take (from + n) order) =
    (λ k. run_added message (part k) (first_stack message (part k)) (known k)) ∙ next-part message order c.in_ok-order.ensures from n some (omega arith) same in
    let weighed = ap sums_weight next in
    let held = ap sums_weight c.deref_mut.ensures.value in
    let most = weight-part message order (from + n) in
    let whole = ap sums_weight (sums-all message order c.in_ok-order.ensures) in
    let taken = c.loop-from.invariant.taken in
    let p = err_from_is_err_and c.from_residual-in_err-add_run.result c.from_residual-in_err-add_run.ensures.1 in
    rw (p.1, p.2) (takes-along c.in_err-add_run.field-0.0 _ _ c.args.room.now (sums_weight (all_sums message))
    (λ less. omega arith) c.in_err-add_run.ensures)

pub loop-from-preserved : goal.loop-from-preserved
loop-from-preserved c =
    let message = c.args.judged.now.message in
    let order = c.in_ok-order.order.items in
    let from = c.loop-from.from in
    let n = c.run_length.result in
    let e : from + n - from ≡ n = omega arith in
    let known = c.deref_mut.ensures.value ∙ c.loop-from.invariant.summed in
    let part : take (from + n - from) (drop from c.deref-in-loop-from.result.now) ≡ take n (drop from order) = (λ k. take (e k) (drop from (c.deref-in-loop-from.ensures.value k))) in
    let rest : take (length c.deref.result.now - from) (drop from c.deref.result.now) ≡ drop from order = take_rest c.deref.result.now from ∙ ap (drop from) c.deref.ensures.value in
    let some = c.run_length.ensures.some in
    let within = c.run_length.ensures.within in
    let size = ap (length {A = ℕ}) rest in
    let alike = subst (AreAlike message) (sym c.as_slice-stacks.ensures.value) c.in_ok-numbers.ensures in
    let known_rest = subst (All (λ at. at < length message.samples)) (sym rest) (known-rest message order c.in_ok-order.ensures from n) in
    let same = subst (λ (xs : List ℕ). All (λ at. stack_at message at ≡ stack_at message (get_or xs 0 0)) (take n xs)) rest (c.run_length.ensures.same message alike known_rest) in
    let next : run_added message (take (from + n - from) (drop from c.deref-in-loop-from.result.now)) (first_stack message (take (from + n - from) (drop from c.deref-in-loop-from.result.now))) c.deref_mut.result.now ≡ sums_over message (take (from + n) order) =
    (λ k. run_added message (part k) (first_stack message (part k)) (known k)) ∙ next-part message order c.in_ok-order.ensures from n some (omega arith) same in
    let new = c.in_ok-add_run.ensures.1 ∙ next in
    let counted = ap (length {A = List sums.Sample}) new in
    let before = ap (length {A = List sums.Sample}) known in
    let types = length-over message (take from order) in
    let more = length-over message (take (from + n) order) in
    let own : c.loop-from.sums.len ≡ length c.add_run.new.sums = (let len = c.deref_mut.ensures.len in omega arith) in
    let kept : take c.loop-from.sums.len (c.add_run.new.sums ++ drop (length c.add_run.new.sums) c.loop-from.sums.items) ≡ c.add_run.new.sums =
    ap (λ k. take k (c.add_run.new.sums ++ drop (length c.add_run.new.sums) c.loop-from.sums.items)) own
    ∙ take-append_seam c.add_run.new.sums (drop (length c.add_run.new.sums) c.loop-from.sums.items) in
    let weighed = ap sums_weight (kept ∙ c.in_ok-add_run.ensures.1) in
    let held = ap sums_weight c.deref_mut.ensures.value in
    let taken = c.loop-from.invariant.taken in
    let now = c.in_ok-add_run.ensures.0 in
    let length_order = length-drop from order in
    record { within = omega arith; summed = kept ∙ new; taken = omega arith }

pub returns : goal.returns
returns c =
    let message = c.args.judged.now.message in
    let order = c.in_ok-order.order.items in
    let all : take c.loop-from.from order ≡ order = take_all c.loop-from.from order (omega arith) in
    let summed = c.loop-from.invariant.summed ∙ ap (sums_over message) all ∙ sums-all message order c.in_ok-order.ensures in
    (c.loop-from.invariant.taken ∙ ap (λ known. c.loop-from.room + sums_weight known) summed, summed)
