use Rattle.std.proofs.Common.{◌≡◌, ◌++◌, ap, rules, sym, ◌∙◌}
use Rattle.query_merge.specs.Asked.{stacks_of}
use Rattle.query_merge.specs.Merging.{asked_samples}
use Rattle.query_merge.specs.Rows.{profiles_of}
use Rattle.query_merge.proofs.SumLemmas.{joined_right, of_both}
use Rattle.query_merge.proofs.merge.Merge.add.Goals as goal

pub returns-clause-more : goal.returns-clause-more
returns-clause-more c = λ profiles one.
    let query = c.self.inside.asked in
    let rows = profiles_of c.args.part.now.rows in
    let held : c.self.inside.runs ≡ stacks_of query profiles = search rules in
    let more : c.in_ok-samples.samples.items ≡ stacks_of query rows = search rules in
    joined_right (asked_samples query profiles) (asked_samples query rows) c.self.inside.runs c.in_ok-samples.samples.items c.put.new.self held more
    c.in_ok-put.ensures.ok ∙ of_both query profiles rows ∙ ap (λ asked. stacks_of asked (profiles ++ rows)) (sym c.samples_of_part.ensures.unchanged)
