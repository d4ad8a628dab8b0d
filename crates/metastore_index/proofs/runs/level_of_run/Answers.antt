use Rattle.std.proofs.Common.{◌∙◌, sym, below_more, arith}
use Rattle.metastore_index.proofs.RunLemmas.{has_run, level_of_run_known}
use Rattle.metastore_index.proofs.runs.level_of_run.Goals as goal

pub returns-then-is_some-clause-level : goal.returns-then-is_some-clause-level
returns-then-is_some-clause-level c = has_run c.args.entries.now c.loop-level.level c.args.lo c.args.hi c.find_run.result (sym c.is_some.ensures ∙ c.if-is_some.true) c.find_run.ensures.found

pub loop-level-preserved : goal.loop-level-preserved
loop-level-preserved c = below_more _ _ c.loop-level.invariant (c.find_run.ensures.none (sym c.is_some.ensures ∙ c.if-is_some.false))

pub returns-clause-none : goal.returns-clause-none
returns-clause-none c _ level has =
    let known = level_of_run_known c.args.entries.now level c.args.lo c.args.hi has in
    c.loop-level.invariant level (omega arith) has
