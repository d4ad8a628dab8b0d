use Rattle.std.proofs.Common.{◌+◌, take, length, subst, rules, arith, lit<}
use Rattle.std.proofs.lemmas.List.{length_push}
use Rattle.std.proofs.lemmas.Result.{err_from_is_err_and}
use Rattle.folded_reader.specs.Folded.{IsSumOf, lines_of}
use Rattle.wire_forms.proofs.SplitLemmas.{part_turn, part_end}
use Rattle.folded_reader.proofs.FrameLemmas.{empty_from_test, named_from_test}
use Rattle.faults.proofs.AnswerLemmas.{IfFault-weaker}
use Rattle.folded_reader.proofs.ReaderLemmas.{skipped, taken, first_fault}
use Rattle.folded_reader.proofs.reader.sums_of_text.Goals as goal

pub returns : goal.returns
returns c =
    let end = part_end 10 c.args.text.now (lit< tt) c.into_iter-line-iterator.result c.loop-line.line-iterator c.next.new.self c.next.result c.loop-line.yielded
    (search rules) (search rules) (search rules) c.loop-line.yielded_by c.in-None.is c.next.ensures.steps in
    subst (λ lines. IsSumOf c.args.form lines c.loop-line.sums) end.0 c.loop-line.invariant.summed

pub returns-in_err-add_line : goal.returns-in_err-add_line
returns-in_err-add_line c =
    let turn = part_turn 10 c.args.text.now (lit< tt) c.into_iter-line-iterator.result c.loop-line.line-iterator c.next.new.self c.next.result c.loop-line.yielded c.in-Some.line
    (search rules) (search rules) (search rules) c.loop-line.yielded_by c.in-Some.is c.next.ensures.steps in
    let p = err_from_is_err_and c.from_residual.result c.from_residual.ensures.1 in
    let before = take (length c.loop-line.yielded) (lines_of c.args.text.now) in
    let number = c.loop-line.invariant.counted in
    let count = turn.count in
    rw (p.1, p.2)
    (IfFault-weaker c.in_err-add_line.field-0.0
    (λ fault here. first_fault c.args.form (lines_of c.args.text.now) before c.in-Some.line.now _ c.loop-line.sums (c.loop-line.number + 1) fault turn.cut
    c.loop-line.invariant.summed (named_from_test _ _ c.is_empty.ensures c.if-is_empty.false) (omega arith) here)
    c.in_err-add_line.ensures)

pub loop-line-preserved : goal.loop-line-preserved
loop-line-preserved c =
    let turn = part_turn 10 c.args.text.now (lit< tt) c.into_iter-line-iterator.result c.loop-line.line-iterator c.next.new.self c.next.result c.loop-line.yielded c.in-Some.line
    (search rules) (search rules) (search rules) c.loop-line.yielded_by c.in-Some.is c.next.ensures.steps in
    let before = take (length c.loop-line.yielded) (lines_of c.args.text.now) in
    let said = c.in_ok-add_line.ensures in
    record {
      counted = let count = length_push c.loop-line.yielded c.in-Some.line in let old = c.loop-line.invariant.counted in omega arith;
      summed =
          rw turn.pushed
          (taken c.args.form before c.in-Some.line.now c.loop-line.sums c.add_line.new.sums said.0 (named_from_test _ _ c.is_empty.ensures c.if-is_empty.false)
          c.loop-line.invariant.summed said.1 said.2 said.3);
    }

pub loop-line-preserved-then-is_empty : goal.loop-line-preserved-then-is_empty
loop-line-preserved-then-is_empty c =
    let turn = part_turn 10 c.args.text.now (lit< tt) c.into_iter-line-iterator.result c.loop-line.line-iterator c.next.new.self c.next.result c.loop-line.yielded c.in-Some.line
    (search rules) (search rules) (search rules) c.loop-line.yielded_by c.in-Some.is c.next.ensures.steps in
    let before = take (length c.loop-line.yielded) (lines_of c.args.text.now) in
    record {
      counted = let count = length_push c.loop-line.yielded c.in-Some.line in let old = c.loop-line.invariant.counted in omega arith;
      summed =
          rw turn.pushed
          (skipped c.args.form before c.in-Some.line.now c.loop-line.sums (empty_from_test _ _ c.is_empty.ensures c.if-is_empty.true) c.loop-line.invariant.summed);
    }
