use Rattle.std.proofs.Common.{◌-◌, ◌∙◌, ap, arith}
use Rattle.std.proofs.lemmas.List.{get_or_default}
use Rattle.metastore_index.specs.declared.entry.Entry.{Entry}
use Rattle.metastore_index.proofs.RunLemmas.{IsSearched, run_found, run_spans}
use Rattle.metastore_index.proofs.runs.find_run.Goals as goal
use Rattle.metastore_index.proofs.runs.find_run.Goals.{else-start-end-via-then-start-end+then-entries-start+then-entries-end+else-entries-end-2, else-start-end-via-then-start-end+then-entries-start+else-entries-end, else-start-end-via-then-start-end+else-entries-start, else-start-end-via-else-start-end, After-count_before-end}

searched : (c : After-count_before-end) → IsSearched c.args.entries.now c.args.level c.args.hi c.count_above-start.result c.count_before-end.result
searched c = record {
  above = c.count_above-start.ensures.above;
  others = c.count_above-start.ensures.others;
  before = c.count_before-end.ensures.before;
  after = c.count_before-end.ensures.others;
  within = c.count_before-end.ensures.within;
}

pub returns-then-entries-end-2-clause-found : goal.returns-then-entries-end-2-clause-found
returns-then-entries-end-2-clause-found c =
    let entries = c.args.entries.now in
    let start = c.count_above-start.result in
    let end = c.count_before-end.result in
    let some = c.if-start-end.true in
    let within = c.count_before-end.ensures.within in (
      some,
      within,
      run_found entries c.args.level c.args.lo c.args.hi start end c.requires
          (searched (goal.at.returns-then-entries-end-2-clause-found c).After-count_before-end) c.index-entries-start.result (record {
            some = some;
            from = λ d. omega (arith, ap (λ (entry : Entry). entry.lo) (get_or_default entries start d c.index-entries-start.result (omega arith)), c.if-entries-start.true);
            until = λ d. ap (λ (entry : Entry). entry.hi) (get_or_default entries (end - 1) d c.index-entries-end.result (omega arith)) ∙ c.if-entries-end.true;
            alike = λ d. ap (λ (entry : Entry). entry.level) (get_or_default entries (end - 1) d c.index-entries-end-then-entries-end.result (omega arith)) ∙ c.if-entries-end-2.true;
          }),
    )

pub returns-else-start-end-clause-none : goal.returns-else-start-end-clause-none
returns-else-start-end-clause-none c _ has =
    let span = run_spans c.args.entries.now c.args.level c.args.lo c.args.hi _ _ c.requires (searched (goal.at.returns-else-start-end-clause-none c).After-count_before-end) has in
    elim c.else-start-end.branch [
      | else-start-end-via-then-start-end+then-entries-start+then-entries-end+else-entries-end-2 w ↦
          w.if-entries-end-2.false (span.alike w.index-entries-end-then-entries-end.result)
      | else-start-end-via-then-start-end+then-entries-start+else-entries-end w ↦
          w.if-entries-end.false (span.until w.index-entries-end.result)
      | else-start-end-via-then-start-end+else-entries-start w ↦
          omega (arith, span.from w.index-entries-start.result, w.if-entries-start.false)
      | else-start-end-via-else-start-end w ↦ omega (arith, span.some, w.if-start-end.false)
    ]
