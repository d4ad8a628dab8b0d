use Rattle.std.proofs.Common.{◌≡◌, ◌+◌, ◌<◌, ◌∙◌, ap, map, subst}
use Rattle.std.specs.Prelude.{MatchOption}
use Rattle.selector.specs.Read.{pattern_bytes}
use Rattle.selector.specs.Rests.{matching_of}
use Rattle.selector.proofs.BudgetLemmas.{no_selector}
use Rattle.selector.proofs.MeaningLemmas.{one_selector}
use Rattle.selector.proofs.budget.left_by_patterns.Goals as goal

pub returns-in-Ok : goal.returns-in-Ok
returns-in-Ok c matchers form =
    let one : map matching_of c.deref.result.now ≡ matchers =
    ap (map matching_of) c.deref.ensures.value ∙ one_selector c.args.text.now (map matching_of c.in-Ok.written.items) matchers c.in-Ok.ensures form in
    subst (λ all. MatchOption c.left_of.result (c.args.bytes < pattern_bytes all) (λ rest. rest + pattern_bytes all ≡ c.args.bytes)) one c.left_of.ensures

pub returns-in-Err-Fault : goal.returns-in-Err-Fault
returns-in-Err-Fault c matchers form =
    absurd (no_selector c.args.text.now c.in-Err-Fault.field-0 c.in-Err-Fault.field-0-0 c.in-Err-Fault.field-0-is c.in-Err-Fault.ensures matchers form)
