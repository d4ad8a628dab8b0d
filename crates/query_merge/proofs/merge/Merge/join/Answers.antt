use Rattle.std.proofs.Common.{◌≡◌, rules, ◌∙◌}
use Rattle.query_merge.specs.Asked.{stacks_of}
use Rattle.query_merge.specs.Merging.{asked_samples, with_samples}
use Rattle.query_merge.proofs.SumLemmas.{joined_right, of_both}
use Rattle.query_merge.proofs.merge.Merge.join.Goals as goal

pub returns-clause-more : goal.returns-clause-more
returns-clause-more c = λ profiles others one other.
    let query = c.self.inside.asked in
    let held : c.self.inside.runs ≡ stacks_of query profiles = search rules in
    let more : c.in_ok-samples.field-0.items ≡ stacks_of query others = search rules in
    joined_right (asked_samples query profiles) (asked_samples query others) c.self.inside.runs c.in_ok-samples.field-0.items c.put.new.self held more
    c.in_ok-put.ensures.ok ∙ of_both query profiles others
