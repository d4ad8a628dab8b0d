-- What an opening leads to.
use Rattle.std.proofs.Common.{◌≡◌, ◌⊎◌, inl, inr, ⊎_elim, ℕ, ◌<◌, ◌≤◌, List, length, take, Option, Some, None, refl, sym, ◌∙◌, ap, subst, arith}
use Rattle.std.specs.Prelude.{IsSome, MatchOption}
use Rattle.std.proofs.lemmas.Option.{same_Some}
use Rattle.disk_trait.specs.declared.disk.FileId.{FileId}
use Rattle.disk_trait.specs.declared.disk.FileId.TheVariants.{Index, Object}
use Rattle.disk_trait.specs.Disk.{Files, DiskView, Tells, Leads, Looks, Stays, Touches, IsDurable, IsQuiet, bytes_of}
use Rattle.disk_trait.proofs.Steps.{goes_on, widen, stays_after, stays_before, durable_beside, looked_durable}
use Rattle.gate_journal.specs.Slots.{bodies_of, AtRest}
use Rattle.gate_journal.proofs.Gates.{bodies-at_rest}
use Rattle.gate_journal.specs.Journal.{JournalView, list_of, InAnyWay, IsSettled, IsUnsettled, MaybeAppended, OthersStay, SameBodies}
use Rattle.metastore_index.specs.declared.entry.Entry.{Entry}
use Rattle.metastore_index.specs.Entries.{IndexView}
use Rattle.profile_model.specs.declared.push.Push.{Push}
use Rattle.push_history.specs.History.{HasBoundedTotals}
use Rattle.history_files.specs.History.{AreHeld, HasIndex, IsBlamed, Lists, StandFor}
use Rattle.history_files.specs.History.IsBlamed.{index as no_index}
use Rattle.history_files.specs.Standing.{IsAtRest, IsInFlight, IsPrepared, IsSynced, SameOrStand, StandAlike}
use Rattle.history_files.proofs.HeldLemmas.{held_alike}
use Rattle.history_files.proofs.KeepLemmas.{quiet_alike}
use Rattle.history_files.proofs.RestLemmas.{flies_still}
use Rattle.history_files.proofs.StandLemmas.{alike, not_index}

-- ---- other files

module _ (file : FileId) where
  pub still_beside : {old new : DiskView} → Leads Stays old new → Leads (OthersStay file) old new
  still_beside look = widen look (λ before image left stays other differs. ap (λ (f : Files). f other) stays)

  -- the files are synced, and a journal is opened on this one
  pub opened_beside : {old mid new : DiskView} → Leads Stays old mid → Leads (Touches file InAnyWay) mid new → Leads (OthersStay file) old new
  opened_beside look run = stays_before {one = OthersStay file} (λ before left other differs. refl) look (widen run (λ before image left touch. touch.others))

  -- it is looked at
  pub looked_beside : {old mid new last : DiskView} → Leads Stays old mid → Leads (Touches file InAnyWay) mid new → Leads Stays new last → Leads (OthersStay file) old last
  looked_beside look run more = stays_after {one = OthersStay file} (opened_beside look run) more

  -- its bodies stay, where the files are synced
  pub bodies_still : {old new : DiskView} → Leads Stays old new → Leads (Touches file SameBodies) old new
  bodies_still look = widen look (λ before image left stays. record {
    here = ap (λ (f : Files). bodies_of (bytes_of (f file))) stays;
    others = λ other differs. ap (λ (f : Files). f other) stays;
  })

  -- and a journal is opened on it
  pub bodies_opened : {old mid new : DiskView} → Leads Stays old mid → Leads (Touches file SameBodies) mid new → Leads (Touches file SameBodies) old new
  bodies_opened look run = stays_before {one = Touches file SameBodies} (λ before left. record { here = refl; others = λ other differs. refl }) look run

  -- and it is looked at
  pub bodies_looked : {old mid new last : DiskView} → Leads Stays old mid → Leads (Touches file SameBodies) mid new → Leads Stays new last → Leads (Touches file SameBodies) old last
  bodies_looked look run more = stays_after {one = Touches file SameBodies} (bodies_opened look run) more

-- ---- each moment, where nothing waited for a sync

module _ (records : ℕ) (old : DiskView) (quiet : IsQuiet old) where
  -- its files are synced
  pub synced_alike : (mid : DiskView) → Leads Stays old mid → Leads (λ before image. StandAlike records old.files image) old mid
  synced_alike mid run = widen run (λ before image left stays. subst (λ (f : Files). StandAlike records old.files f) (sym stays) (quiet_alike records old quiet before left))

  -- the index file as well
  pub index_synced : (mid : DiskView) → Leads Stays old mid → mid.files ≡ old.files → IsDurable (Index 0) mid
  index_synced mid run files image left =
      let before = run.now image left in
      ap (λ (f : Files). f (Index 0)) before.2 ∙ quiet (Index 0) before.0 before.1 ∙ sym (ap (λ (f : Files). f (Index 0)) files)

  -- its journal is opened
  pub opened_alike : (mid new : DiskView) → Leads Stays old mid → Leads (Touches (Index 0) SameBodies) mid new → Leads (λ before image. StandAlike records old.files image) old new
  opened_alike mid new one two = goes_on one two
      (λ before image left stays. subst (λ (f : Files). StandAlike records old.files f) (sym stays) (quiet_alike records old quiet before left))
      (λ before between image left stays now touches.
      let there : (file : FileId) → between file ≡ old.files file = λ file. ap (λ (f : Files). f file) stays ∙ quiet file before left in
      alike records old.files image (touches.here ∙ ap (λ (o : Option (List ℕ)). bodies_of (bytes_of o)) (there (Index 0))) (λ file other. touches.others file other ∙ there file))

  -- it is looked at
  pub looked_alike : (mid new : DiskView) → Leads (λ before image. StandAlike records old.files image) old mid → Leads Stays mid new
      → Leads (λ before image. StandAlike records old.files image) old new
  looked_alike mid new one two = stays_after one two

-- ---- each moment after the sync, where calls waited for one

-- while the files are synced
pub synced_on : (records : ℕ) (history : List Push) (old mid : DiskView) → Leads Stays old mid → Leads (SameOrStand records history) old mid
synced_on records history old mid run = widen run (λ before image left stays. inl stays)

module _ (old mid : DiskView) (synced : IsSynced old mid) (listed : IsSome (old.files (Index 0)) ⊎ IsDurable (Index 0) old) where
  pub index_waited : IsDurable (Index 0) mid
  index_waited image left = ⊎_elim
      (λ there. synced.durable (Index 0) there image left)
      (λ durable.
      let before = synced.stays.now image left in
      ap (λ (f : Files). f (Index 0)) before.2 ∙ durable before.0 before.1 ∙ sym (ap (λ (f : Files). f (Index 0)) synced.files))
      listed

  there_in : (image : Files) → mid.images_now image → (file : FileId) → IsSome (old.files file) → image file ≡ old.files file
  there_in image left file there = synced.durable file there image left ∙ ap (λ (f : Files). f file) synced.files

  index_in : (image : Files) → mid.images_now image → image (Index 0) ≡ old.files (Index 0)
  index_in image left = index_waited image left ∙ ap (λ (f : Files). f (Index 0)) synced.files

  module _ (records : ℕ) (history : List Push) (stands : StandFor records old.files history) where
    -- files with the index file's bodies, and with each object that was there
    stand_by : (image : Files) → bodies_of (bytes_of (image (Index 0))) ≡ bodies_of (bytes_of (old.files (Index 0)))
        → ((id : ℕ) → IsSome (old.files (Object id)) → image (Object id) ≡ old.files (Object id)) → StandFor records image history
    stand_by image bodies objects = record {
      index = stands.index;
      has = record {
        lists = subst (λ (bs : List (List ℕ)). Lists bs stands.index) (sym bodies) stands.has.lists;
        few = omega (arith, ap length bodies, stands.has.few);
      };
      held = held_alike old.files image stands.index.entries history objects stands.held;
      totals = stands.totals;
    }

    stand_after : (before image : Files) → mid.images_now before → Touches (Index 0) SameBodies before image → StandFor records image history
    stand_after before image left step =
        stand_by image (step.here ∙ ap (λ (o : Option (List ℕ)). bodies_of (bytes_of o)) (index_in before left))
        (λ id there. step.others (Object id) (λ same. not_index id (sym same)) ∙ there_in before left (Object id) there)

    -- the journal is opened, and its index looked at
    pub opened_stand : (new last : DiskView) → Leads (Touches (Index 0) SameBodies) mid new → Leads Stays new last → Leads (λ before image. StandFor records image history) mid last
    opened_stand new last run look = stays_after (widen run stand_after) look

    -- from before the sync on
    pub opened_on : (new : DiskView) → Leads (Touches (Index 0) SameBodies) mid new → Leads (SameOrStand records history) old new
    opened_on new run = goes_on synced.stays run
        (λ before image left stays. inl stays)
        (λ before between image left stays now step. inr (stand_after between image now step))

    pub looked_on : (new last : DiskView) → Leads (Touches (Index 0) SameBodies) mid new → Leads Stays new last → Leads (SameOrStand records history) old last
    looked_on new last run look = stays_after (opened_on new run) look

-- ---- what was opened

-- a settled journal over the index file has the records of its index, and counts them
pub index_reads : (records : ℕ) (disk : DiskView) (journal : JournalView) (index : IndexView) → journal.file ≡ Index 0 → journal.limit ≡ records → journal.count ≤ journal.limit
    → Lists (list_of disk journal) index → IsSettled disk journal → HasIndex records disk.files index × (journal.count ≡ length (bodies_of (bytes_of (disk.files (Index 0)))))
index_reads records disk journal index file limit within lists settled =
    let is : bodies_of (bytes_of (disk.files (Index 0))) ≡ list_of disk journal =
    ap (λ (f : FileId). bodies_of (bytes_of (disk.files f))) (sym file) ∙ bodies-at_rest (list_of disk journal) (disk.files journal.file) settled.rest in (
      record {
        lists = subst (λ (bs : List (List ℕ)). Lists bs index) (sym is) lists;
        few = omega (arith, ap length is, settled.count, within, limit);
      },
      settled.count ∙ sym (ap length is),
    )

-- a look leaves a journal settled
pub settled_looked : (old new : DiskView) (journal : JournalView) → IsSettled old journal → Looks old new → IsSettled new journal
settled_looked old new journal settled look = record {
  rest = subst (λ (f : Files). AtRest (take journal.count (bodies_of (bytes_of (f journal.file)))) (f journal.file)) (sym look.files) settled.rest;
  count = subst (λ (f : Files). journal.count ≡ length (take journal.count (bodies_of (bytes_of (f journal.file))))) (sym look.files) settled.count;
  durable = looked_durable journal.file settled.durable look;
}

-- nor does it settle one whose append failed
pub unsettled_looked : (old new : DiskView) (journal : JournalView) (body : List ℕ) → IsUnsettled old journal body → Looks old new → IsUnsettled new journal body
unsettled_looked old new journal body unsettled look = record {
  count = subst (λ (f : Files). journal.count ≡ length (take journal.count (bodies_of (bytes_of (f journal.file))))) (sym look.files) unsettled.count;
  each = λ image left.
      let before = look.stays.now image left in
      subst (λ (f : Files). MaybeAppended (take journal.count (bodies_of (bytes_of (f journal.file)))) body (image journal.file)) (sym look.files)
      (subst (λ (f : Files). MaybeAppended (list_of old journal) body (f journal.file)) (sym before.2) (unsettled.each before.0 before.1));
}

-- and a flight stays in the air
pub flies_looked : (old new : DiskView) (journal : JournalView) (index : IndexView) (entry : Entry) (history added : List Push) → IsInFlight old journal index entry history added → Looks old new
    → IsInFlight new journal index entry history added
flies_looked old new journal index entry history added it look =
    flies_still old new journal journal index entry history added it look.stays refl refl refl (unsettled_looked old new journal it.body it.unsettled look)
    (ap (λ (f : Files). take journal.count (bodies_of (bytes_of (f journal.file)))) look.files)

-- too many records
pub too_many : (records : ℕ) (old mid : Files) → mid ≡ old → records < length (bodies_of (bytes_of (mid (Index 0)))) → IsBlamed records old (Index 0)
too_many records old mid same many = no_index (λ index has. absurd (omega (arith, has.few, many, ap (λ (f : Files). length (bodies_of (bytes_of (f (Index 0))))) same)))

-- a disk that was synced, a journal opened on it, and a look at its index
module _ (records : ℕ) (old mid new : DiskView) (journal : JournalView) (files : mid.files ≡ old.files) (durable : (file : FileId) → IsSome (old.files file) → IsDurable file mid)
    (file : journal.file ≡ Index 0) (limit : journal.limit ≡ records) (settled : IsSettled new journal) (list : list_of new journal ≡ bodies_of (bytes_of (mid.files (Index 0))))
    (within : length (bodies_of (bytes_of (mid.files (Index 0)))) ≤ records) (tells : Tells new) (touches : Leads (Touches (Index 0) InAnyWay) mid new)
    (others : OthersStay (Index 0) mid.files new.files) where
  same_list : list_of new journal ≡ bodies_of (bytes_of (old.files (Index 0)))
  same_list = list ∙ ap (λ (f : Files). bodies_of (bytes_of (f (Index 0)))) files

  pub none_listed : ((index : IndexView) → ¬ (Lists (list_of new journal) index)) → IsBlamed records old.files (Index 0)
  none_listed none = no_index (λ index has. none index (subst (λ (bs : List (List ℕ)). Lists bs index) (sym same_list) has.lists))

  pub prepares : (last : DiskView) (index : IndexView) → Looks new last → Lists (list_of new journal) index → IsPrepared records old last journal index
  prepares last index look lists = record {
    file = file;
    limit = limit;
    within = omega (arith, settled.count, ap length list, within, limit);
    has = record {
      lists = subst (λ (bs : List (List ℕ)). Lists bs index) same_list lists;
      few = omega (arith, within, ap (λ (f : Files). length (bodies_of (bytes_of (f (Index 0))))) files);
    };
    lists = subst (λ (f : Files). Lists (take journal.count (bodies_of (bytes_of (f journal.file)))) index) (sym look.files) lists;
    settled = settled_looked new last journal settled look;
    others = λ other differs. ap (λ (f : Files). f other) look.files ∙ others other differs ∙ ap (λ (f : Files). f other) files;
    durable = λ id there. looked_durable (Object id)
        (durable_beside mid new (Object id) (Index 0) (λ same. not_index id (sym same)) (durable (Object id) there) tells touches) look;
  }

-- What was opened reads its index.
pub prepared_reads : (records : ℕ) (old new : DiskView) (journal : JournalView) (index : IndexView) → IsPrepared records old new journal index
    → HasIndex records new.files index × (journal.count ≡ length (bodies_of (bytes_of (new.files (Index 0)))))
prepared_reads records old new journal index it = index_reads records new journal index it.file it.limit it.within it.lists it.settled

-- What was opened is at rest with the history that its objects hold, and the files stood for that.
module _ (records : ℕ) (old new : DiskView) (journal : JournalView) (index : IndexView) (history : List Push) (it : IsPrepared records old new journal index)
    (held : AreHeld new.files index.entries history) (totals : HasBoundedTotals history) where
  object_same : (id : ℕ) → new.files (Object id) ≡ old.files (Object id)
  object_same id = it.others (Object id) (λ same. not_index id (sym same))

  pub prepared_rests : IsAtRest new journal index history
  prepared_rests = record {
    holds = record {
      file = it.file;
      within = it.within;
      lists = it.lists;
      held = λ image left. held_alike new.files image index.entries history
          (λ id there. it.durable id (subst (λ (o : Option (List ℕ)). IsSome o) (object_same id) there) image left) held;
      totals = totals;
    };
    settled = it.settled;
  }

  pub prepared_stands : StandFor records old.files history
  prepared_stands = record {
    index = index;
    has = it.has;
    held = held_alike new.files old.files index.entries history (λ id there. sym (object_same id)) held;
    totals = totals;
  }

-- ---- what was found, and that nothing was

pub at_none : {A : Type 0} (found : Option A) (P : Type 0) (Q : A → Type 0) → found ≡ None → MatchOption found P Q → P
at_none None P Q is holds = holds
at_none (Some x) P Q is holds = absurd (cc)

pub at_some : {A : Type 0} (found : Option A) (x : A) (P : Type 0) (Q : A → Type 0) → found ≡ Some x → MatchOption found P Q → Q x
at_some None x P Q is holds = absurd (cc)
at_some {A} (Some y) x P Q is holds = subst (λ (z : A). Q z) (same_Some y x is) holds
