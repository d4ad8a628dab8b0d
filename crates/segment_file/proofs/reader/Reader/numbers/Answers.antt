use Rattle.std.proofs.Common.{◌<◌, ◌≡◌, true, false, refl, rules, sym, ◌∙◌, arith}
use Rattle.std.proofs.lemmas.Bool.Decides.{nat_tests}
use Rattle.std.specs.Prelude.{nat_lt}
use Rattle.faults.specs.Answers.{IfFault}
use Rattle.faults.specs.declared.refused.Refused.TheVariants.{Fault}
use Rattle.segment_file.specs.Files.{mark_of_objects}
use Rattle.segment_file.specs.ReadFields.{BeginsFile}
use Rattle.segment_file.specs.Reading.{Stopped}
use Rattle.segment_file.proofs.ReadAnswers.{handed}
use Rattle.segment_file.proofs.ReadFiles.{hi_cut, hi_right, hi_wrong, lo_cut, lo_right, mark_cut, mark_right, mark_wrong}
use Rattle.segment_file.proofs.reader.Reader.numbers.Goals as goal

pub returns-in_err-mark : goal.returns-in_err-mark
returns-in_err-mark c =
    let from = c.args.self.now.cursor in
    handed c.from_residual.result (Fault c.in_err-mark.field-0.0) _ (IfFault (Stopped BeginsFile from)) c.from_residual.ensures.1
    (mark_cut from c.in_err-mark.field-0.0 c.in_err-mark.ensures)

pub returns-then-not-is_mark : goal.returns-then-not-is_mark
returns-then-not-is_mark c =
    let other : c.is_mark.result ≡ false = search rules in
    rw c.form.ensures
    (mark_wrong c.args.self.now.cursor c.mark.new.self c.in_ok-mark.mark.now _ c.in_ok-mark.ensures (sym c.is_mark.ensures ∙ other) refl c.at-at.ensures)

pub returns-in_err-lo : goal.returns-in_err-lo
returns-in_err-lo c =
    let from = c.args.self.now.cursor in
    let same : c.is_mark.result ≡ true = search rules in
    let marked = mark_right from c.mark.new.self c.in_ok-mark.mark.now c.in_ok-mark.ensures (sym c.is_mark.ensures ∙ same) in
    handed c.from_residual-in_err-lo.result (Fault c.in_err-lo.field-0.0) _ (IfFault (Stopped BeginsFile from)) c.from_residual-in_err-lo.ensures.1
    (lo_cut mark_of_objects from c.mark.new.self c.in_err-lo.field-0.0 marked c.in_err-lo.ensures)

pub returns-in_err-hi : goal.returns-in_err-hi
returns-in_err-hi c =
    let from = c.args.self.now.cursor in
    let same : c.is_mark.result ≡ true = search rules in
    let marked = mark_right from c.mark.new.self c.in_ok-mark.mark.now c.in_ok-mark.ensures (sym c.is_mark.ensures ∙ same) in
    let first = lo_right mark_of_objects c.in_ok-lo.lo from c.mark.new.self c.eight.new.self marked c.in_ok-lo.ensures in
    handed c.from_residual-in_err-hi.result (Fault c.in_err-hi.field-0.0) _ (IfFault (Stopped BeginsFile from)) c.from_residual-in_err-hi.ensures.1
    (hi_cut mark_of_objects c.in_ok-lo.lo from c.eight.new.self c.in_err-hi.field-0.0 first c.in_err-hi.ensures)

pub returns-then-hi-lo : goal.returns-then-hi-lo
returns-then-hi-lo c =
    let from = c.args.self.now.cursor in
    let same : c.is_mark.result ≡ true = search rules in
    let marked = mark_right from c.mark.new.self c.in_ok-mark.mark.now c.in_ok-mark.ensures (sym c.is_mark.ensures ∙ same) in
    let first = lo_right mark_of_objects c.in_ok-lo.lo from c.mark.new.self c.eight.new.self marked c.in_ok-lo.ensures in
    let low : nat_lt c.in_ok-lo.lo c.in_ok-hi.hi ≡ false = grind (arith, nat_tests) in
    rw c.form-then-hi-lo.ensures
    (hi_wrong mark_of_objects c.in_ok-lo.lo c.in_ok-hi.hi from c.eight.new.self c.eight-2.new.self _ first c.in_ok-hi.ensures low refl c.at-at-2.ensures)

pub returns : goal.returns
returns c =
    let from = c.args.self.now.cursor in
    let same : c.is_mark.result ≡ true = search rules in
    let marked = mark_right from c.mark.new.self c.in_ok-mark.mark.now c.in_ok-mark.ensures (sym c.is_mark.ensures ∙ same) in
    let first = lo_right mark_of_objects c.in_ok-lo.lo from c.mark.new.self c.eight.new.self marked c.in_ok-lo.ensures in
    let low : c.in_ok-lo.lo < c.in_ok-hi.hi = omega arith in
    (low, hi_right mark_of_objects c.in_ok-lo.lo c.in_ok-hi.hi from c.eight.new.self c.eight-2.new.self first c.in_ok-hi.ensures low)
