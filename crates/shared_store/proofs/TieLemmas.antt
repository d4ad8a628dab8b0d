-- What becomes of a store and its spine's list.
use Rattle.std.proofs.Common.{◌≡◌, inl, inr, ⊎_elim, ℕ, ◌+◌, ◌≤◌, List, [], ◌++◌, length, refl, sym, ap, ◌∙◌, subst, arith, length-append}
use Rattle.disk_trait.specs.Disk.{DiskView, Files, GoesOn, Rose, Tells}
use Rattle.metastore_index.specs.Entries.{end_of}
use Rattle.profile_model.specs.declared.push.Push.{Push}
use Rattle.push_history.specs.History.{HasBoundedTotals}
use Rattle.tenant_books.proofs.HistoryLemmas.{bounded-front}
use Rattle.history_files.specs.History.{StandFor}
use Rattle.history_files.specs.Keeps.{StandForEither, Start}
use Rattle.history_files.proofs.KeepLemmas.{rose_from}
use Rattle.history_pass.specs.declared.view.Mark.{Mark}
use Rattle.history_pass.specs.Marks.{Below, mark}
use Rattle.history_pass.proofs.MarkLemmas.{prefix_self, prefix_trans}
use Rattle.store_core.specs.Store.{HasHistory, IsKeeping, StoreView, in_flight}
use Rattle.store_core.specs.Changes.{KeepsOn}
use Rattle.shared_store.specs.Holds.{AreTied, HasKept, IsAtEnd, IsHold, Run}

-- a run begins
pub new_hold : {D : Type 0} (run : Run) (disk : DiskView) (store : StoreView D) (m : Mark) → (run.tells → Tells disk) → store.records ≡ run.records → store.limits ≡ run.limits
    → length run.start.history ≡ end_of store.index.entries → (run.tells → IsKeeping run.start [] disk store run.start.history) → m ≡ mark run.start.history disk.faults 0
    → IsHold run disk store m
new_hold run disk store m tells records limits long keeps is =
    subst (λ (n : Mark). IsHold run disk store n) (sym is)
    (record {
      tied = record {
        tells = tells;
        records = records;
        limits = limits;
        begins = prefix_self run.start.history;
        long = long;
        kept = λ t. record { flights = []; few = λ k d less. absurd (omega (arith, less)); keeps = keeps t };
      };
      faults = refl;
      full = inl refl;
    })

-- what is kept on is still kept
pub kept_on : {D : Type 0} (start : Start) (old new : DiskView) (before after : StoreView D) (list next : List Push) → KeepsOn old new before after list next → HasKept start old before list → HasKept start new after next
kept_on start old new before after list next keeps it = record { flights = it.flights; few = it.few; keeps = keeps start it.flights it.keeps }

-- a call that keeps on with the list leaves them tied
pub tied_still : {D : Type 0} (run : Run) (old new : DiskView) (before after : StoreView D) (list : List Push) → AreTied run old before list → GoesOn old new → after.records ≡ before.records
    → after.limits ≡ before.limits → end_of after.index.entries ≡ end_of before.index.entries
    → (Tells old → HasHistory old before list → HasKept run.start old before list → HasKept run.start new after list) → AreTied run new after list
tied_still run old new before after list it goes records limits end keeps = record {
  tells = λ t. goes.honest ∙ it.tells t;
  records = records ∙ it.records;
  limits = limits ∙ it.limits;
  begins = it.begins;
  long = it.long ∙ sym end;
  kept = λ t. keeps (it.tells t) (it.kept t).keeps.has (it.kept t);
}

-- a call that brings pushes behind the list leaves them tied
pub tied_on : {D : Type 0} (run : Run) (old new : DiskView) (before after : StoreView D) (list came : List Push) → AreTied run old before list → GoesOn old new → after.records ≡ before.records
    → after.limits ≡ before.limits → end_of after.index.entries ≡ end_of before.index.entries + length came
    → (Tells old → HasHistory old before list → HasKept run.start old before list → HasKept run.start new after (list ++ came)) → AreTied run new after (list ++ came)
tied_on run old new before after list came it goes records limits end keeps = record {
  tells = λ t. goes.honest ∙ it.tells t;
  records = records ∙ it.records;
  limits = limits ∙ it.limits;
  begins = prefix_trans run.start.history list (list ++ came) it.begins (came, refl);
  long = omega (arith, it.long, end, length-append list came);
  kept = λ t. keeps (it.tells t) (it.kept t).keeps.has (it.kept t);
}

-- the disk was looked at
pub read_hold : {D : Type 0} (run : Run) (old new : DiskView) (before after : StoreView D) (d : D) (m n : Mark) → IsHold run old before m → after ≡ record before { disk = d }
    → n ≡ mark m.list new.faults m.full → GoesOn old new
    → ((history : List Push) → Tells old → HasHistory old before history → KeepsOn old new before after history history) → IsHold run new after n
read_hold {D} run old new before after d m n it same is goes keeps =
    subst (λ (x : Mark). IsHold run new after x) (sym is)
    (record {
      tied = tied_still run old new before after m.list it.tied goes (ap (λ (s : StoreView D). s.records) same) (ap (λ (s : StoreView D). s.limits) same)
          (ap (λ (s : StoreView D). end_of s.index.entries) same)
          (λ t has kept. kept_on run.start old new before after m.list m.list (keeps m.list t has) kept);
      faults = refl;
      full = ⊎_elim (λ none. inl none) (λ full. inr (full.0, λ t. subst (λ (s : StoreView D). IsAtEnd s) (sym same) (record { full = (full.1 t).full; lands = (full.1 t).lands }))) it.full;
    })

-- a fault's count rose from what was seen before it, and is among what is seen after it
pub fault_told : (seen old : Mark) (before now count : ℕ) → Below seen old → old.faults ≡ before → (count ≡ now) × Rose before count → Rose seen.faults count × (count ≤ now)
fault_told seen old before now count below same failed = (rose_from seen.faults before count (omega (arith, below.faults, same)) failed.1, omega (arith, failed.0))

-- what can't be where a disk tells is where it isn't known to
pub never_tells : (disk : DiskView) (run : Run) → (run.tells → Tells disk) → (Tells disk → ⊥) → ¬ run.tells
never_tells disk run tells never t = never (tells t)

-- what a store stands for has bounded totals
pub tied_bounded : {D : Type 0} (run : Run) (disk : DiskView) (store : StoreView D) (list : List Push) → AreTied run disk store list
    → ((history : List Push) → Tells disk → HasHistory disk store history → (image : Files) → disk.images_now image → StandForEither store.records history (history ++ in_flight store.flight) image)
    → run.tells → HasBoundedTotals list
tied_bounded run disk store list it images t =
    let tells = it.tells t in
    ⊎_elim (λ (one : StandFor store.records disk.files list). one.totals) (λ (other : StandFor store.records disk.files (list ++ in_flight store.flight)). bounded-front list (in_flight store.flight) other.totals)
    (images list tells (it.kept t).keeps.has disk.files (disk.as_read tells))
