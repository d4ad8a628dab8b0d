-- What is kept since a start goes on over calls.
use Rattle.std.proofs.Common.{◌≡◌, ◌⊎◌, inl, inr, ⊎_elim, ℕ, ◌≤◌, List, [], ◌++◌, Option, refl, sym, ◌∙◌, ap, subst, arith, append_assoc, append-nil}
use Rattle.disk_trait.specs.declared.disk.FileId.TheVariants.{Index}
use Rattle.disk_trait.specs.Disk.{Files, DiskView, Leads, Rose, GoesOn, IsQuiet, bytes_of}
use Rattle.disk_trait.proofs.Steps.{widen}
use Rattle.gate_journal.specs.Slots.{bodies_of}
use Rattle.profile_model.specs.declared.push.Push.{Push}
use Rattle.history_files.specs.History.{StandFor}
use Rattle.history_files.specs.Keeps.{IsFront, Keeping, Keeps, StandForEither, Start, start_at}
use Rattle.history_files.specs.Standing.{SameOrStand, StandAlike}
use Rattle.history_files.proofs.StandLemmas.{alike}

pub rose_on : (a n m : ℕ) → Rose a n → n ≤ m → Rose a m
rose_on a n m rose more = omega (arith, rose, more)

pub rose_from : (a b n : ℕ) → a ≤ b → Rose b n → Rose a n
rose_from a b n less rose = omega (arith, less, rose)

module _ (records : ℕ) (start : Start) (IsFlight : List Push → List Push → Type 0) (faults : ℕ) where
  -- what came to it later, an image of before doesn't mind
  front_longer : (now : ℕ) (rest added : List Push) (image : Files) → faults ≤ now → IsFront records start IsFlight faults rest image → IsFront records start IsFlight now (rest ++ added) image
  front_longer now rest added image more it = record {
    front = it.front;
    back = it.back ++ added;
    flight = it.flight;
    is = ap (λ (l : List Push). l ++ added) it.is ∙ append_assoc it.front it.back added;
    risen = ⊎_elim (λ none. inl none) (λ both. inr (both.0, rose_on start.faults faults now both.1 more)) it.risen;
    stands = it.stands;
  }

  -- all of it, with no flight
  front_whole : (whole rest : List Push) (image : Files) → whole ≡ start.history ++ rest → StandFor records image whole → IsFront records start IsFlight faults rest image
  front_whole whole rest image begins has = record {
    front = rest;
    back = [];
    flight = [];
    is = sym (append-nil rest);
    risen = inl refl;
    stands = subst (λ (l : List Push). StandFor records image l) (begins ∙ ap (λ (l : List Push). start.history ++ l) (sym (append-nil rest))) has;
  }

  -- all of it, with a flight
  front_flight : (whole rest flight : List Push) (image : Files) → whole ≡ start.history ++ rest → IsFlight whole flight → Rose start.faults faults → StandFor records image (whole ++ flight) → IsFront records start IsFlight faults rest image
  front_flight whole rest flight image begins is_flight rose has = record {
    front = rest;
    back = [];
    flight = flight;
    is = sym (append-nil rest);
    risen = inr (subst (λ (l : List Push). IsFlight l flight) begins is_flight, rose);
    stands = subst (λ (l : List Push). StandFor records image l) (ap (λ (l : List Push). l ++ flight) begins ∙ append_assoc start.history rest flight) has;
  }

-- A call, whose images are each a front of what is kept then.
pub keeps_on : (records : ℕ) (start : Start) (IsFlight : List Push → List Push → Type 0) (P : Files → Type 0) (old new : DiskView) (whole added : List Push) (kept : Keeps records start IsFlight old whole) → GoesOn old new → Leads (λ before image. P image) old new
    → ((image : Files) → P image → IsFront records start IsFlight new.faults (kept.rest ++ added) image) → Keeps records start IsFlight new (whole ++ added)
keeps_on records start IsFlight P old new whole added kept goes run late = record {
  since = omega (arith, kept.since, run.later);
  counts = omega (arith, kept.counts, goes.faults);
  rest = kept.rest ++ added;
  begins = ap (λ (l : List Push). l ++ added) kept.begins ∙ append_assoc start.history kept.rest added;
  each = λ image left. ⊎_elim
      (λ past. front_longer records start IsFlight old.faults new.faults kept.rest added image goes.faults (kept.each image past))
      (λ now. late image now.2)
      (run.since start.moment image kept.since left);
}

module _ (records : ℕ) (start : Start) (IsFlight : List Push → List Push → Type 0) (old new : DiskView) (whole : List Push) (kept : Keeps records start IsFlight old whole) (goes : GoesOn old new) where
  -- nothing came to it
  pub keeps_same : Leads (λ before image. StandFor records image whole) old new → Keeps records start IsFlight new whole
  keeps_same run = subst (λ (l : List Push). Keeps records start IsFlight new l) (append-nil whole)
      (keeps_on records start IsFlight (λ image. StandFor records image whole) old new whole [] kept goes run
      (λ image has. front_whole records start IsFlight new.faults whole (kept.rest ++ []) image (kept.begins ∙ ap (λ (l : List Push). start.history ++ l) (sym (append-nil kept.rest))) has))

  module _ (more : List Push) (run : Leads (λ before image. StandForEither records whole (whole ++ more) image) old new) where
    -- the pushes were kept: they are no flight
    pub keeps_kept : Keeps records start IsFlight new (whole ++ more)
    keeps_kept = keeps_on records start IsFlight (λ image. StandForEither records whole (whole ++ more) image) old new whole more kept goes run
        (λ image step. ⊎_elim
        (λ has. front_longer records start IsFlight new.faults new.faults kept.rest more image (omega arith) (front_whole records start IsFlight new.faults whole kept.rest image kept.begins has))
        (λ has. front_whole records start IsFlight new.faults (whole ++ more) (kept.rest ++ more) image (ap (λ (l : List Push). l ++ more) kept.begins ∙ append_assoc start.history kept.rest more) has)
        step)

    -- they may not have been: they are a flight
    pub keeps_failed : IsFlight whole more → Rose start.faults new.faults → Keeps records start IsFlight new whole
    keeps_failed is_flight rose = subst (λ (l : List Push). Keeps records start IsFlight new l) (append-nil whole)
        (keeps_on records start IsFlight (λ image. StandForEither records whole (whole ++ more) image) old new whole [] kept goes run
        (λ image step.
        let begins : whole ≡ start.history ++ (kept.rest ++ []) = kept.begins ∙ ap (λ (l : List Push). start.history ++ l) (sym (append-nil kept.rest)) in
        ⊎_elim
        (λ has. front_whole records start IsFlight new.faults whole (kept.rest ++ []) image begins has)
        (λ has. front_flight records start IsFlight new.faults whole (kept.rest ++ []) more image begins is_flight rose has)
        step))

-- What may come to a history, over a call.
module _ (records : ℕ) (start : Start) (IsFlight : List Push → List Push → Type 0) (old new : DiskView) (h added : List Push) (it : Keeping records start IsFlight old h added) (goes : GoesOn old new) where
  rose_now : Rose start.faults old.faults → Rose start.faults new.faults
  rose_now rose = rose_on start.faults old.faults new.faults rose goes.faults

  -- A mend, whole or not: the history is one of both, and what may come to it is nothing, or as it was.
  pub mended : (h-new added-new : List Push) → Leads (λ before image. StandForEither records h (h ++ added) image) old new → (h-new ≡ h) ⊎ (h-new ≡ h ++ added)
      → (added-new ≡ []) ⊎ ((h-new ≡ h) × (added-new ≡ added)) → Keeping records start IsFlight new h-new added-new
  mended h-new added-new run which rest = record {
    keeps = ⊎_elim
        (λ none.
        let now : Leads (λ before image. StandForEither records h (h ++ []) image) old new = subst (λ (l : List Push). Leads (λ before image. StandForEither records h (h ++ l) image) old new) none run in
        let same : h-new ≡ h ++ [] = ⊎_elim (λ is. is ∙ sym (append-nil h)) (λ is. is ∙ ap (λ (l : List Push). h ++ l) none) which in
        subst (λ (l : List Push). Keeps records start IsFlight new l) (sym same) (keeps_kept records start IsFlight old new h it.keeps goes [] now))
        (λ both. ⊎_elim
        (λ is. subst (λ (l : List Push). Keeps records start IsFlight new l) (sym is) (keeps_failed records start IsFlight old new h it.keeps goes added run both.0 (rose_now both.1)))
        (λ is. subst (λ (l : List Push). Keeps records start IsFlight new l) (sym is) (keeps_kept records start IsFlight old new h it.keeps goes added run))
        which)
        it.risen;
    risen = ⊎_elim (λ none. inl none) (λ same. ⊎_elim (λ none. inl (same.1 ∙ none)) (λ both. inr (subst (λ (l : List Push). IsFlight l added-new) (sym same.0) (subst (λ (l : List Push). IsFlight h l) (sym same.1) both.0), rose_now both.1)) it.risen) rest;
  }

  -- A call that leaves the history, with nothing to come.
  pub stayed : Leads (λ before image. StandFor records image h) old new → Keeping records start IsFlight new h []
  stayed run = record { keeps = keeps_same records start IsFlight old new h it.keeps goes run; risen = inl refl }

  module _ (pushes : List Push) (run : Leads (λ before image. StandForEither records h (h ++ pushes) image) old new) where
    -- Pushes were kept.
    pub was_kept : Keeping records start IsFlight new (h ++ pushes) []
    was_kept = record { keeps = keeps_kept records start IsFlight old new h it.keeps goes pushes run; risen = inl refl }

    -- They may turn out to be.
    pub was_doubted : IsFlight h pushes → Rose old.faults new.faults → (added-new : List Push) → (added-new ≡ []) ⊎ (added-new ≡ pushes) → Keeping records start IsFlight new h added-new
    was_doubted is_flight rise added-new rest =
        let rose : Rose start.faults new.faults = rose_from start.faults old.faults new.faults it.keeps.counts rise in
        record {
          keeps = keeps_failed records start IsFlight old new h it.keeps goes pushes run is_flight rose;
          risen = ⊎_elim (λ none. inl none) (λ same. inr (subst (λ (l : List Push). IsFlight h l) (sym same) is_flight, rose)) rest;
        }

-- at a start, where each image has the history
pub keeps_begun : (records : ℕ) (IsFlight : List Push → List Push → Type 0) (disk : DiskView) (history : List Push) → ((image : Files) → disk.images_now image → StandFor records image history)
    → Keeps records (record { moment = disk.moment; faults = disk.faults; history = history }) IsFlight disk history
keeps_begun records IsFlight disk history all =
    let start : Start = record { moment = disk.moment; faults = disk.faults; history = history } in record {
      since = omega arith;
      counts = omega arith;
      rest = [];
      begins = sym (append-nil history);
      each = λ image left. front_whole records start IsFlight disk.faults history [] image (sym (append-nil history)) (all image (disk.only_now image left));
    }

-- On a disk where nothing waits for a sync, each image stands for what the files stand for.
pub quiet_alike : (records : ℕ) (disk : DiskView) → IsQuiet disk → (image : Files) → disk.images_now image → StandAlike records disk.files image
quiet_alike records disk quiet image left =
    alike records disk.files image (ap (λ (o : Option (List ℕ)). bodies_of (bytes_of o)) (quiet (Index 0) image left)) (λ file other. quiet file image left)

-- An opening keeps what was kept since an earlier start: an image is one of before, or stands for the history.
pub keeps_opened : (records : ℕ) (start : Start) (IsFlight : List Push → List Push → Type 0) (old new : DiskView) (history : List Push)
    → Keeps records start IsFlight old history → GoesOn old new → Leads (SameOrStand records history) old new → Keeps records start IsFlight new history
keeps_opened records start IsFlight old new history kept goes run =
    let IsOne : Files → Type 0 = IsFront records start IsFlight old.faults kept.rest in
    let moments : Leads (λ before image. IsOne image) old new = widen run (λ before image left step. ⊎_elim
    (λ same. subst IsOne (sym same) (kept.each before (old.counts_now start.moment before kept.since left)))
    (λ has. front_whole records start IsFlight old.faults history kept.rest image kept.begins has)
    step) in
    subst (λ (l : List Push). Keeps records start IsFlight new l) (append-nil history)
    (keeps_on records start IsFlight IsOne old new history [] kept goes moments
    (λ image is. front_longer records start IsFlight old.faults new.faults kept.rest [] image goes.faults is))

-- It keeps the history that the files stand for.
pub opened_keeps : (records : ℕ) (IsFlight : List Push → List Push → Type 0) (old new : DiskView) (history : List Push) → IsQuiet old → StandFor records old.files history → GoesOn old new
    → Leads (λ before image. StandAlike records old.files image) old new → Keeping records (start_at old history) IsFlight new history []
opened_keeps records IsFlight old new history quiet stands goes run = record {
  keeps = keeps_same records (start_at old history) IsFlight old new history
      (keeps_begun records IsFlight old history (λ image left. (quiet_alike records old quiet image left history).0 stands)) goes
      (widen run (λ before image left step. (step history).0 stands));
  risen = inl refl;
}
