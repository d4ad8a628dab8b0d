-- Jobs, and that one is due.
use Rattle.std.proofs.Common.{◌≡◌, ℕ, zero, suc, ◌-◌, ◌<◌, ◌≤◌, List, [], ◌∷◌, ◌++◌, length, get_or, take, drop, refl, subst, sym, ap, ◌∙◌, inr, ⊎_elim, arith, length-take}
use Rattle.std.proofs.lemmas.Bool.{cases_order}
use Rattle.std.proofs.lemmas.List.{take-append-drop}
use Rattle.metastore_index.proofs.DivideLemmas.{hi_at}
use Rattle.metastore_index.specs.declared.entry.Entry.{Entry}
use Rattle.metastore_index.specs.Entries.{AreEntries, HasRun, end_of, of_level}
use Rattle.compaction_plan.specs.declared.job.Job.{Job}
use Rattle.compaction_plan.specs.Jobs.{AreEnough, AreFewest, HasJob, IsDue, IsJob, begin_of}
use Rattle.compaction_plan.specs.Laws.{DueOnesAreJobs, JobsAreBounded, JobsAreRuns, JobsAreSmall, JobsHavePlaces, OneJob}
use Rattle.compaction_plan.proofs.FewestLemmas.{enough_more, enough_not_none, enough_some, fewest_bytes, fewest_once, fewest_small}
use Rattle.compaction_plan.proofs.RunLemmas.{oldest_rise, oldest_run}
use mathlib.Core.HLevel.{is_prop→PathP}
use Rattle.std.proofs.Props.{props}

begin_of-take : (entries : List Entry) (count : ℕ) (d : Entry) → 1 ≤ count → 1 ≤ length entries → (get_or entries 0 d).lo ≡ begin_of (take count entries)
begin_of-take [] count d some within = absurd (omega (arith, within))
begin_of-take (entry ∷ more) zero d some within = absurd (omega (arith, some))
begin_of-take (entry ∷ more) (suc count) d some within = refl

-- the oldest of a level's entries, so many that they are the fewest that are enough
module _ (entries : List Entry) (level : ℕ) (all : List Entry) (count : ℕ) (are : AreEntries entries) (is : all ≡ of_level level entries)
    (found : (count ≤ length all) × AreFewest (take count all)) where
  some : 1 ≤ count
  some = omega (arith, length-take count all, enough_some (take count all) found.1.enough)

  pub oldest : of_level level entries ≡ take count all ++ drop count all
  oldest = sym is ∙ sym (take-append-drop count all)

  pub begins : (d : Entry) → (get_or all 0 d).lo ≡ begin_of (take count all)
  begins d = begin_of-take all count d some (omega (arith, some, found.0))

  pub ends : (d : Entry) → (get_or all (count - 1) d).hi ≡ end_of (take count all)
  ends d =
      let last : suc (count - 1) ≡ count = omega (arith, some) in
      hi_at all (count - 1) d (omega (arith, some, found.0)) ∙ ap (λ (n : ℕ). end_of (take n all)) last

  pub rises : (d e : Entry) → (get_or all 0 d).lo < (get_or all (count - 1) e).hi
  rises d e =
      omega (arith, begins d, ends e, oldest_rise entries level (take count all) (drop count all) are oldest (enough_not_none (take count all) found.1.enough))

has_job : (entries : List Entry) (job : Job) → IsJob entries job → HasJob entries job.level
has_job entries job is = (is.below, subst AreEnough (sym is.oldest) (enough_more is.run is.newer is.fewest.enough))

pub due_ones_are_jobs : DueOnesAreJobs
due_ones_are_jobs entries job due = has_job entries job due.is

pub jobs_are_runs : JobsAreRuns
jobs_are_runs entries are job is =
    let run = oldest_run entries job.level is.run is.newer are is.oldest (enough_not_none is.run is.fewest.enough) in
    let from : begin_of is.run ≡ job.lo = sym is.from in
    let until : end_of is.run ≡ job.hi = sym is.until in
    subst (λ (lo : ℕ). HasRun entries job.level lo job.hi) from (subst (λ (hi : ℕ). HasRun entries job.level (begin_of is.run) hi) until run)

pub jobs_have_places : JobsHavePlaces
jobs_have_places entries are job entry is lo hi level =
    let below : entry.level - 1 ≡ job.level = omega (arith, level) in
    let run = jobs_are_runs entries are job is in
    inr (
      omega (arith, level),
      subst (λ (l : ℕ). HasRun entries l entry.lo entry.hi) (sym below)
          (subst (λ (n : ℕ). HasRun entries job.level n entry.hi) (sym lo) (subst (λ (n : ℕ). HasRun entries job.level job.lo n) (sym hi) run)),
    )

pub jobs_are_small : JobsAreSmall
jobs_are_small entries job is = (enough_some is.run is.fewest.enough, fewest_small is.run is.fewest)

pub jobs_are_bounded : JobsAreBounded
jobs_are_bounded entries job is most each = fewest_bytes is.run is.fewest most each

same_job : (job other : Job) → job.lo ≡ other.lo → job.hi ≡ other.hi → job.level ≡ other.level → job ≡ other
same_job job other lo hi level = λ i. record {
  lo = lo i;
  hi = hi i;
  level = level i;
  some = is_prop→PathP (λ j. lo j < hi j) (λ j. hlevel props) job.some other.some i;
  below = is_prop→PathP (λ j. level j < 3) (λ j. hlevel props) job.below other.below i;
}

same_level : (entries : List Entry) (job other : Job) → IsDue entries job → IsDue entries other → job.level ≡ other.level
same_level entries job other due also =
    ⊎_elim
    (λ same. same)
    (λ differ. absurd (⊎_elim
    (λ lower. also.lowest job.level lower (has_job entries job due.is))
    (λ higher. due.lowest other.level higher (has_job entries other also.is)) differ))
    (cases_order job.level other.level)

pub one_job : OneJob
one_job entries job other due also =
    let level = same_level entries job other due also in
    let run : due.is.run ≡ also.is.run = fewest_once due.is.run also.is.run due.is.newer also.is.newer due.is.fewest also.is.fewest
    (sym due.is.oldest ∙ ap (λ (l : ℕ). of_level l entries) level ∙ also.is.oldest) in
    same_job job other (due.is.from ∙ ap begin_of run ∙ sym also.is.from) (due.is.until ∙ ap end_of run ∙ sym also.is.until) level
