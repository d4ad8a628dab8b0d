use Rattle.compaction_plan.proofs.JobLemmas.{due_ones_are_jobs, jobs_are_bounded, jobs_are_runs, jobs_are_small, jobs_have_places, one_job}
use Rattle.compaction_plan.proofs.laws.jobs_of_entries.Goals as goal

pub returns-clause-due : goal.returns-clause-due
returns-clause-due c = due_ones_are_jobs

pub returns-clause-one : goal.returns-clause-one
returns-clause-one c = one_job

pub returns-clause-run : goal.returns-clause-run
returns-clause-run c = jobs_are_runs

pub returns-clause-place : goal.returns-clause-place
returns-clause-place c = jobs_have_places

pub returns-clause-small : goal.returns-clause-small
returns-clause-small c = jobs_are_small

pub returns-clause-bytes : goal.returns-clause-bytes
returns-clause-bytes c = jobs_are_bounded
