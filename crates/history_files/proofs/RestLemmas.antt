-- What calls leave of a store at rest.
use Rattle.std.proofs.Common.{◌≡◌, ◌≢◌, inl, inr, ⊎_elim, ℕ, zero, suc, ◌+◌, ◌<◌, ◌≤◌, List, [], ◌∷◌, ◌++◌, length, take, drop, Option, Some, None, refl, sym, ◌∙◌, ap, subst, arith, length-append, append-nil}
use Rattle.disk_trait.specs.declared.disk.FileId.{FileId}
use Rattle.disk_trait.specs.declared.disk.FileId.TheVariants.{Index, Object}
use Rattle.disk_trait.specs.Disk.{Files, DiskView, Tells, Leads, Stays, Touches, Written, IsDurable, bytes_of, written}
use Rattle.disk_trait.proofs.Steps.{goes_on, widen}
use Rattle.gate_journal.specs.Slots.{bodies_of, AtRest}
use Rattle.gate_journal.specs.Journal.{JournalView, list_of, IsSettled, IsUnsettled, MaybeAppended, Appends}
use Rattle.gate_journal.proofs.Beside.{settled_beside, list_beside}
use Rattle.metastore_index.specs.declared.entry.Entry.{Entry}
use Rattle.metastore_index.specs.Entries.{IndexView}
use Rattle.metastore_index.specs.Taken.{IsBodyOf, Takes}
use Rattle.profile_model.specs.declared.push.Push.{Push}
use Rattle.history_files.specs.History.{AreHeld, IsObjectOf, Lists, StandFor}
use Rattle.history_files.specs.Keeps.{StandForEither}
use Rattle.history_files.specs.Standing.{AllHold, Commits, Holds, IsAtRest, IsInFlight}
use Rattle.history_files.proofs.HeldLemmas.{IsDead, held_beside}
use Rattle.history_files.proofs.StandLemmas.{dead_id, dead_index, lists_ids, lists_once, lists_push, not_index, stands_for}

-- ---- other files

-- a call on one file, and one on another, change no third
pub besides_both : {one two : Option (List ℕ) → Option (List ℕ) → Type 0} {old mid new : DiskView} (first second : FileId) → Leads (Touches first one) old mid → Leads (Touches second two) mid new
    → Leads (λ before image. (file : FileId) → file ≢ first → file ≢ second → image file ≡ before file) old new
besides_both first second run more = goes_on run more
    (λ before image left touch file differs differs_too. touch.others file differs)
    (λ before between image left touch now touch_too file differs differs_too. touch_too.others file differs_too ∙ touch.others file differs)

-- ---- each image

-- each image of a store at rest stands for the history
module _ (disk : DiskView) (journal : JournalView) (index : IndexView) (history : List Push) (it : IsAtRest disk journal index history) where
  pub rest_in : (image : Files) → disk.images_now image → AtRest (list_of disk journal) (image (Index 0))
  rest_in image left =
      subst (λ (o : Option (List ℕ)). AtRest (list_of disk journal) o) (sym (it.settled.durable image left) ∙ ap (λ (f : FileId). image f) it.holds.file) it.settled.rest

  pub rests_within : length (list_of disk journal) ≤ journal.limit
  rests_within = omega (arith, it.settled.count, it.holds.within)

  pub rests_stand : (image : Files) → disk.images_now image → StandFor journal.limit image history
  rests_stand image left =
      stands_for journal.limit image (list_of disk journal) index history (rest_in image left) rests_within it.holds.lists (it.holds.held image left) it.holds.totals

  -- and does after a step on an object that isn't live, too
  module _ (id : ℕ) (dead : IsDead (Object id) index.entries) {step : Option (List ℕ) → Option (List ℕ) → Type 0} where
    pub touched_stand : (before image : Files) → disk.images_now before → Touches (Object id) step before image → StandFor journal.limit image history
    touched_stand before image left touch =
        stands_for journal.limit image (list_of disk journal) index history
        (subst (λ (o : Option (List ℕ)). AtRest (list_of disk journal) o) (sym (touch.others (Index 0) (not_index id))) (rest_in before left))
        rests_within it.holds.lists
        (held_beside before image (Object id) index.entries history touch.others dead (it.holds.held before left)) it.holds.totals

-- what each image holds, it holds after a step on a file that isn't live
pub all_hold_beside : (old new : DiskView) (entries : List Entry) (history : List Push) (other : FileId) {step : Option (List ℕ) → Option (List ℕ) → Type 0}
    → AllHold old entries history → IsDead other entries → Leads (Touches other step) old new → AllHold new entries history
all_hold_beside old new entries history other hold dead run image left =
    let b = run.now image left in
    held_beside b.0 image other entries history b.2.others dead (hold b.0 b.1)

pub all_hold_still : (old new : DiskView) (entries : List Entry) (history : List Push) → AllHold old entries history → Leads Stays old new → AllHold new entries history
all_hold_still old new entries history hold run image left =
    let b = run.now image left in subst (λ (f : Files). AreHeld f entries history) (sym b.2) (hold b.0 b.1)

-- ---- a store at rest

-- it is so after a call on an object that isn't live, also one that failed
pub rests_beside : (old new : DiskView) (journal : JournalView) (index : IndexView) (history : List Push) (id : ℕ) {step : Option (List ℕ) → Option (List ℕ) → Type 0}
    → IsAtRest old journal index history → IsDead (Object id) index.entries → Tells new → Leads (Touches (Object id) step) old new → IsAtRest new journal index history
rests_beside old new journal index history id it dead tells run =
    let differs : journal.file ≢ Object id = λ same. not_index id (sym it.holds.file ∙ same) in
    let list = list_beside old new journal (Object id) differs it.settled tells run in
    record {
      holds = record {
        file = it.holds.file;
        within = it.holds.within;
        lists = subst (λ (bs : List (List ℕ)). Lists bs index) (sym list) it.holds.lists;
        held = all_hold_beside old new index.entries history (Object id) it.holds.held dead run;
        totals = it.holds.totals;
      };
      settled = settled_beside old new journal (Object id) differs it.settled tells run;
    }

-- and after a look
pub rests_still : (old new : DiskView) (journal : JournalView) (index : IndexView) (history : List Push)
    → IsAtRest old journal index history → Tells new → Leads Stays old new → IsAtRest new journal index history
rests_still old new journal index history it tells run =
    let read : new.files journal.file ≡ old.files journal.file = let b = run.now new.files (new.as_read tells) in ap (λ (f : Files). f journal.file) b.2 ∙ it.settled.durable b.0 b.1 in
    let list : list_of new journal ≡ list_of old journal = ap (λ (o : Option (List ℕ)). take journal.count (bodies_of (bytes_of o))) read in
    record {
      holds = record {
        file = it.holds.file;
        within = it.holds.within;
        lists = subst (λ (bs : List (List ℕ)). Lists bs index) (sym list) it.holds.lists;
        held = all_hold_still old new index.entries history it.holds.held run;
        totals = it.holds.totals;
      };
      settled = record {
        rest = subst (λ (bs : List (List ℕ)). AtRest bs (new.files journal.file)) (sym list) (subst (λ (o : Option (List ℕ)). AtRest (list_of old journal) o) (sym read) it.settled.rest);
        count = it.settled.count ∙ ap length (sym list);
        durable = λ image left. let b = run.now image left in ap (λ (f : Files). f journal.file) b.2 ∙ it.settled.durable b.0 b.1 ∙ sym read;
      };
    }

-- whatever index reads its list
pub rests_same : (disk : DiskView) (journal : JournalView) (index other : IndexView) (history : List Push) → IsAtRest disk journal index history → Lists (list_of disk journal) other
    → IsAtRest disk journal other history
rests_same disk journal index other history it lists = record {
  holds = record {
    file = it.holds.file;
    within = it.holds.within;
    lists = lists;
    held = subst (λ (es : List Entry). AllHold disk es history) (lists_once (list_of disk journal) index other it.holds.lists lists) it.holds.held;
    totals = it.holds.totals;
  };
  settled = it.settled;
}

-- what reads is the history
pub rests_read : (disk : DiskView) (journal : JournalView) (index : IndexView) (history : List Push) → Tells disk → Holds disk journal index history → AreHeld disk.files index.entries history
rests_read disk journal index history tells holds = holds.held disk.files (disk.as_read tells)

drop_none : (n : ℕ) → ◌≡◌ {A = List ℕ} (drop n []) []
drop_none zero = refl
drop_none (suc n) = refl

-- a new file has what is written into it
written_new : (bytes : List ℕ) → written [] 0 bytes ≡ bytes
written_new bytes = ap (λ (l : List ℕ). bytes ++ l) (drop_none (0 + length bytes)) ∙ append-nil bytes

-- ---- an object is written and synced, and then its entry is appended: the one way in which a store writes

module _ (old : DiskView) (journal : JournalView) (index later : IndexView) (entry : Entry) (bytes : List ℕ) (history added : List Push)
    (it : Commits old journal index later entry bytes history added) where
  pub dead_now : IsDead (Object entry.id) index.entries
  dead_now = dead_id index.greatest entry.id index.entries (lists_ids (list_of old journal) index it.rest.holds.lists) it.takes.taken.later

  module _ (mid : DiskView) where
    -- at each moment of the first the history stays
    pub staged_leads : {step : Option (List ℕ) → Option (List ℕ) → Type 0} → Leads (Touches (Object entry.id) step) old mid
        → Leads (λ before image. StandForEither journal.limit history (history ++ added) image) old mid
    staged_leads run = widen run (λ before image left step. inl (touched_stand old journal index history it.rest entry.id dead_now before image left step))

    pub staged_rests : {step : Option (List ℕ) → Option (List ℕ) → Type 0} → Tells mid → Leads (Touches (Object entry.id) step) old mid → IsAtRest mid journal index history
    staged_rests tells run = rests_beside old mid journal index history entry.id it.rest dead_now tells run

    module _ {step : Option (List ℕ) → Option (List ℕ) → Type 0} (run : Leads (Touches (Object entry.id) step) old mid) (tells : Tells mid)
        (fresh : old.files (Object entry.id) ≡ None) (wrote : Written (Object entry.id) 0 bytes old.files mid.files) (durable : IsDurable (Object entry.id) mid)
        (body : List ℕ) (reads : IsBodyOf body entry) where
      -- the object is there in each image
      there : (image : Files) → mid.images_now image → IsObjectOf entry it.pushes (image (Object entry.id))
      there image left =
          let is : image (Object entry.id) ≡ Some bytes =
          durable image left ∙ wrote.here ∙ ap (λ (o : Option (List ℕ)). Some (written (bytes_of o) 0 bytes)) fresh ∙ ap Some (written_new bytes) in
          subst (λ (o : Option (List ℕ)). IsObjectOf entry it.pushes o) (sym is) it.object

      pub hold_later : AllHold mid later.entries (history ++ added)
      hold_later image left = it.turns image (all_hold_beside old mid index.entries history (Object entry.id) it.rest.holds.held dead_now run image left) (there image left)

      abbrev mid_rests : IsAtRest mid journal index history
      mid_rests = staged_rests tells run

      -- the bodies with the entry's behind them
      lists_later : Lists (list_of mid journal ++ body ∷ []) later
      lists_later = lists_push (list_of mid journal) body index later entry mid_rests.holds.lists reads it.bounded it.takes

      module _ (new : DiskView) (room : journal.count < journal.limit) (append : Leads (Appends journal.file (list_of mid journal) body) mid new) where
        append_at : Leads (Appends (Index 0) (list_of mid journal) body) mid new
        append_at = subst (λ (f : FileId). Leads (Appends f (list_of mid journal) body) mid new) it.rest.holds.file append

        appended_stand : (between image : Files) → mid.images_now between → Appends (Index 0) (list_of mid journal) body between image
            → StandForEither journal.limit history (history ++ added) image
        appended_stand between image now step = ⊎_elim
            (λ rest. inl (stands_for journal.limit image (list_of mid journal) index history rest (rests_within mid journal index history mid_rests) mid_rests.holds.lists
            (held_beside between image (Index 0) index.entries history step.others (dead_index 0 index.entries) (mid_rests.holds.held between now)) mid_rests.holds.totals))
            (λ rest. inr (stands_for journal.limit image (list_of mid journal ++ body ∷ []) later (history ++ added) rest
            (omega (arith, length-append (list_of mid journal) (body ∷ []), room, mid_rests.settled.count)) lists_later
            (held_beside between image (Index 0) later.entries (history ++ added) step.others (dead_index 0 later.entries) (hold_later between now)) it.totals))
            step.here

        -- at each moment of both the history is the one or the other
        pub committed_leads : Leads (λ before image. StandForEither journal.limit history (history ++ added) image) old new
        committed_leads = goes_on run append_at
            (λ before image left step. inl (touched_stand old journal index history it.rest entry.id dead_now before image left step))
            (λ before between image left one now two. appended_stand between image now two)

        -- after an append that failed
        pub flies : (failed : JournalView) → failed.file ≡ journal.file → failed.limit ≡ journal.limit → failed.count ≡ journal.count
            → IsUnsettled new failed body → list_of new failed ≡ list_of mid journal → IsInFlight new failed index entry history added
        flies failed file limit count unsettled list = record {
          holds = record {
            file = file ∙ it.rest.holds.file;
            within = omega (arith, it.rest.holds.within, limit, count);
            lists = subst (λ (bs : List (List ℕ)). Lists bs index) (sym list) mid_rests.holds.lists;
            held = all_hold_beside mid new index.entries history (Index 0) mid_rests.holds.held (dead_index 0 index.entries) append_at;
            totals = it.rest.holds.totals;
          };
          room = omega (arith, room, limit, count);
          body = body;
          reads = reads;
          bounded = it.bounded;
          unsettled = unsettled;
          later = later;
          takes = it.takes;
          held = all_hold_beside mid new later.entries (history ++ added) (Index 0) hold_later (dead_index 0 later.entries) append_at;
          totals = it.totals;
        }

        -- after one that didn't
        pub commits : (done : JournalView) → done.file ≡ journal.file → done.limit ≡ journal.limit → done.count ≡ journal.count + 1
            → IsSettled new done → list_of new done ≡ list_of mid journal ++ body ∷ [] → IsAtRest new done later (history ++ added)
        commits done file limit count settled list = record {
          holds = record {
            file = file ∙ it.rest.holds.file;
            within = omega (arith, room, limit, count);
            lists = subst (λ (bs : List (List ℕ)). Lists bs later) (sym list) lists_later;
            held = all_hold_beside mid new later.entries (history ++ added) (Index 0) hold_later (dead_index 0 later.entries) append_at;
            totals = it.totals;
          };
          settled = settled;
        }

-- ---- an append in the air

-- each image has one history or the other
pub flies_stand : (disk : DiskView) (journal : JournalView) (index : IndexView) (entry : Entry) (history added : List Push) → IsInFlight disk journal index entry history added
    → (image : Files) → disk.images_now image → StandForEither journal.limit history (history ++ added) image
flies_stand disk journal index entry history added it image left = ⊎_elim
    (λ rest. inl (stands_for journal.limit image (list_of disk journal) index history rest (omega (arith, it.unsettled.count, it.holds.within)) it.holds.lists (it.holds.held image left) it.holds.totals))
    (λ rest. inr (stands_for journal.limit image (list_of disk journal ++ it.body ∷ []) it.later (history ++ added) rest
    (omega (arith, length-append (list_of disk journal) (it.body ∷ []), it.room, it.unsettled.count))
    (lists_push (list_of disk journal) it.body index it.later entry it.holds.lists it.reads it.bounded it.takes)
    (it.held image left) it.totals))
    (subst (λ (f : FileId). MaybeAppended (list_of disk journal) it.body (image f)) it.holds.file (it.unsettled.each image left))

-- A journal that looked whether an append came through.
module _ (old new : DiskView) (journal done : JournalView) (index : IndexView) (entry : Entry) (history added : List Push) (it : IsInFlight old journal index entry history added)
    (run : Leads Stays old new) (file : done.file ≡ journal.file) (limit : done.limit ≡ journal.limit) (settled : IsSettled new done) where
  -- It didn't.
  pub decides_none : done.count ≡ journal.count → list_of new done ≡ list_of old journal → IsAtRest new done index history
  decides_none count list = record {
    holds = record {
      file = file ∙ it.holds.file;
      within = omega (arith, count, limit, it.holds.within);
      lists = subst (λ (bs : List (List ℕ)). Lists bs index) (sym list) it.holds.lists;
      held = all_hold_still old new index.entries history it.holds.held run;
      totals = it.holds.totals;
    };
    settled = settled;
  }

  -- It did.
  pub decides_some : (body : List ℕ) → body ≡ it.body → done.count ≡ journal.count + 1 → list_of new done ≡ list_of old journal ++ body ∷ [] → IsAtRest new done it.later (history ++ added)
  decides_some body is count list = record {
    holds = record {
      file = file ∙ it.holds.file;
      within = omega (arith, count, limit, it.room);
      lists = subst (λ (bs : List (List ℕ)). Lists bs it.later) (sym (list ∙ ap (λ (b : List ℕ). list_of old journal ++ b ∷ []) is))
          (lists_push (list_of old journal) it.body index it.later entry it.holds.lists it.reads it.bounded it.takes);
      held = all_hold_still old new it.later.entries (history ++ added) it.held run;
      totals = it.totals;
    };
    settled = settled;
  }

  -- It did, and the index took the entry.
  pub decides_taken : (body : List ℕ) → body ≡ it.body → done.count ≡ journal.count + 1 → list_of new done ≡ list_of old journal ++ body ∷ []
      → (after : IndexView) → Takes index entry after → IsAtRest new done after (history ++ added)
  decides_taken body is count list after takes =
      rests_same new done it.later after (history ++ added) (decides_some body is count list)
      (subst (λ (bs : List (List ℕ)). Lists bs after) (sym (list ∙ ap (λ (b : List ℕ). list_of old journal ++ b ∷ []) is))
      (lists_push (list_of old journal) it.body index after entry it.holds.lists it.reads it.bounded takes))

-- and one that may still have come through stays so over a look
pub flies_still : (old new : DiskView) (journal done : JournalView) (index : IndexView) (entry : Entry) (history added : List Push) (it : IsInFlight old journal index entry history added)
    → Leads Stays old new → done.file ≡ journal.file → done.limit ≡ journal.limit → done.count ≡ journal.count → IsUnsettled new done it.body → list_of new done ≡ list_of old journal
    → IsInFlight new done index entry history added
flies_still old new journal done index entry history added it run file limit count unsettled list = record {
  holds = record {
    file = file ∙ it.holds.file;
    within = omega (arith, it.holds.within, limit, count);
    lists = subst (λ (bs : List (List ℕ)). Lists bs index) (sym list) it.holds.lists;
    held = all_hold_still old new index.entries history it.holds.held run;
    totals = it.holds.totals;
  };
  room = omega (arith, it.room, limit, count);
  body = it.body;
  reads = it.reads;
  bounded = it.bounded;
  unsettled = unsettled;
  later = it.later;
  takes = it.takes;
  held = all_hold_still old new it.later.entries (history ++ added) it.held run;
  totals = it.totals;
}
