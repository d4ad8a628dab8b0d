use Rattle.std.proofs.Common.{List, ℕ, arith, ◌∙◌, Bor}
use Rattle.std.proofs.lemmas.Result.{err_from_is_err_and}
use Rattle.pprof_codec.specs.Checks.{faults_of_text, text_faults}
use Rattle.pprof_codec.proofs.FaultLemmas.{shown-push, shown-kept, shown-first, shown-all}
use Rattle.pprof_codec.proofs.JudgedLemmas.{judged-part}
use Rattle.pprof_codec.proofs.texts.read_names.Goals as goal

pub loop-number-preserved : goal.loop-number-preserved
loop-number-preserved c = record {
  kept =
      c.in_ok-push.ensures.items
      ∙ shown-push (λ (text : Bor (List ℕ)). text.now) c.loop-number.names.items c.in_ok-name.name c.args.texts.now c.loop-number.number _ (omega arith)
      c.loop-number.invariant.kept c.in_ok-name.ensures.1;
  judged =
      shown-kept (λ (text : Bor (List ℕ)). text.now) faults_of_text c.args.texts.now c.loop-number.number _ (omega arith)
      c.loop-number.invariant.judged c.in_ok-name.ensures.0;
}

pub returns : goal.returns
unfolding text_faults
returns c =
    let all = shown-all (λ (text : Bor (List ℕ)). text.now) c.args.texts.now c.loop-number.number (omega arith) in
    (rw all at c.loop-number.invariant.judged, c.loop-number.invariant.kept ∙ all)

pub returns-in_err-name : goal.returns-in_err-name
unfolding text_faults
returns-in_err-name c =
    let p = err_from_is_err_and c.from_residual-in_err-name.result c.from_residual-in_err-name.ensures.1 in
    rw (p.1, p.2)
    (judged-part _ _ c.in_err-name.field-0.0
    (λ fault here. shown-first (λ (text : Bor (List ℕ)). text.now) faults_of_text c.args.texts.now c.loop-number.number _ fault (omega arith) c.loop-number.invariant.judged here)
    c.in_err-name.ensures)
