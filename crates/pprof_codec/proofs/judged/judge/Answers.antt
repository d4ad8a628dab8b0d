use Rattle.std.proofs.Common.{◌≡◌, [], refl, sym, ◌∙◌}
use Rattle.std.proofs.lemmas.Result.{err_from_is_err_and}
use Rattle.pprof_codec.specs.Checks.{value_faults}
use Rattle.pprof_codec.proofs.FaultLemmas.{first-none}
use Rattle.pprof_codec.proofs.JudgedLemmas.{judged-part, to_types-lead, places-lead, values-lead, judged-none, functions-none, samples-none, totals-none}
use Rattle.pprof_codec.proofs.StackLemmas.{functions-HaveFrames, samples-IsStack}
use Rattle.pprof_codec.proofs.TotalLemmas.{totals-below}
use Rattle.pprof_codec.proofs.judged.judge.Goals as goal

pub returns-in_err-names : goal.returns-in_err-names
returns-in_err-names c =
    let p = err_from_is_err_and c.from_residual.result c.from_residual.ensures.1 in
    rw (p.1, p.2) (judged-part _ _ c.in_err-names.field-0.0 (to_types-lead c.args.message) c.in_err-names.ensures)

pub judge_locations-requires-clause-texts : goal.judge_locations-requires-clause-texts
judge_locations-requires-clause-texts c = c.deref.ensures.value ∙ c.in_ok-names.ensures.1

pub judge_locations-requires-clause-name : goal.judge_locations-requires-clause-name
judge_locations-requires-clause-name c = c.in_ok-unknown.ensures.ok

pub returns-in_err-locations : goal.returns-in_err-locations
returns-in_err-locations c =
    let p = err_from_is_err_and c.from_residual-in_err-locations.result c.from_residual-in_err-locations.ensures.1 in
    rw (p.1, p.2) (judged-part _ _ c.in_err-locations.field-0.0 (places-lead c.args.message c.in_ok-names.ensures.0) c.in_err-locations.ensures)

pub first_value_fault-requires-clause-texts : goal.first_value_fault-requires-clause-texts
first_value_fault-requires-clause-texts c = c.deref-2.ensures.value ∙ c.in_ok-names.ensures.1

pub first_value_fault-requires-clause-locations : goal.first_value_fault-requires-clause-locations
first_value_fault-requires-clause-locations c = c.in_ok-locations.ensures.1.0

pub returns-in-Some : goal.returns-in-Some
returns-in-Some c =
    values-lead c.args.message c.in_ok-names.ensures.0 c.in_ok-locations.ensures.0 c.in-Some.fault (sym c.first_value_fault.ensures ∙ c.in-Some.is)

pub invariant_of-result : goal.invariant_of-result
invariant_of-result c =
    let values : value_faults c.args.message ≡ [] = first-none _ (sym c.first_value_fault.ensures ∙ c.in_default.is) in
    record {
      cleaned = c.in_ok-parts.ensures;
      texts = c.in_ok-names.ensures.1;
      named = c.in_ok-unknown.ensures.ok;
      located = c.in_ok-locations.ensures.1.0;
      numbered = c.in_ok-locations.ensures.1.1;
      stacks = samples-IsStack c.args.message (functions-HaveFrames c.args.message (functions-none c.args.message c.in_ok-locations.ensures.0)) (samples-none c.args.message values);
      totals = totals-below c.args.message (totals-none c.args.message values);
    }

pub returns : goal.returns
returns c =
    let values : value_faults c.args.message ≡ [] = first-none _ (sym c.first_value_fault.ensures ∙ c.in_default.is) in
    (judged-none c.args.message c.in_ok-names.ensures.0 c.in_ok-locations.ensures.0 values, refl)
