use Rattle.std.proofs.Common.{◌≡◌, ◌≤◌, drop, take}
use Rattle.profile_model.specs.Pushes.{profiles_total}
use Rattle.profile_model.specs.Sums.{total_of}
use Rattle.query_merge.specs.Asked.{stacks_of}
use Rattle.query_merge.specs.Merging.{asked_samples, with_samples}
use Rattle.query_merge.specs.Rows.{profiles_of}
use Rattle.query_merge.proofs.merge.samples_of_part.Given as goal

abbrev pub invariant-loop-row : goal.invariant-loop-row
invariant-loop-row l = record {
  same : l.asked ≡ l.fn.asked;
  sums : with_samples l.runs (asked_samples l.fn.asked (profiles_of (drop l.row-index l.rows))) ≡ stacks_of l.fn.asked (profiles_of l.rows);
  total : total_of l.runs ≤ profiles_total (profiles_of (take l.row-index l.rows));
}
