use Rattle.std.proofs.Common.{refl, drop, take}
use Rattle.compaction_plan.proofs.JobLemmas.{begins, ends, oldest, rises}
use Rattle.compaction_plan.proofs.plan.job_of.Goals as goal

pub invariant_of-result-clause-some : goal.invariant_of-result-clause-some
invariant_of-result-clause-some c =
    let es = c.of_level-entries.ensures in
    rises c.args.index.now.entries c.args.level c.of_level-entries.result.now c.in_ok-count.count es.sound es.entries c.in_ok-count.ensures.count _ _

pub returns-clause-job : goal.returns-clause-job
returns-clause-job c =
    let es = c.of_level-entries.ensures in
    let all = c.of_level-entries.result.now in
    let count = c.in_ok-count.count in
    let found = c.in_ok-count.ensures.count in
    let entries = c.args.index.now.entries in
    let level = c.args.level in (
      refl,
      record {
        run = take count all;
        newer = drop count all;
        below = c.requires;
        oldest = oldest entries level all count es.sound es.entries found;
        fewest = found.1;
        from = begins entries level all count es.sound es.entries found _;
        until = ends entries level all count es.sound es.entries found _;
      },
    )
