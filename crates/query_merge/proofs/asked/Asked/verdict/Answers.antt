use Rattle.std.proofs.Common.{◌≡◌, List, ap, sym, ◌∙◌}
use Rattle.profile_model.specs.LabelSets.{Label}
use Rattle.selector.specs.Matching.{Matching, matches}
use Rattle.query_merge.proofs.AskedLemmas.{verdict_put}
use Rattle.query_merge.proofs.asked.Asked.verdict.Goals as goal

pub invariant_of-self-2 : goal.invariant_of-self-2
invariant_of-self-2 c = λ labels verdict has.
    let query = c.self.inside.query in
    let said : c.in_ok-verdict.verdict ≡ matches query.selector c.in_ok-clone.field-0 query.kind =
    c.in_ok-verdict.ensures.exact ∙ ap (λ (l : List Label). matches query.selector l query.kind) (sym c.in_ok-clone.ensures.cases) in
    verdict_put c.insert.result query c.self.inside.verdicts c.insert.new.self c.in_ok-clone.field-0 c.in_ok-verdict.verdict c.self.invariant said
    c.insert.ensures.updates c.insert.ensures.err labels verdict has
    ∙ ap (λ (s : List Matching). matches s labels query.kind) (sym c.matches.ensures.unchanged)
