-- What an opening reads.
use Rattle.std.proofs.Common.{◌≡◌, ◌≢◌, inl, inr, ℕ, zero, suc, ◌+◌, ◌^◌, ◌<◌, ◌≤◌, List, [], ◌∷◌, ◌++◌, length, get_or, take, drop, true, false, Option, None, Result, Err, All, length-append, refl, sym, ◌∙◌, ap, subst, arith}
use Rattle.std.proofs.lemmas.List.{take-append-drop, take_more}
use Rattle.disk_trait.specs.declared.disk.FileId.{FileId}
use Rattle.disk_trait.specs.declared.disk.FileId.TheVariants.{Index, Object}
use Rattle.disk_trait.specs.Disk.{Files, DiskView, GoesOn, IsDurable, Leads, Looks, Tells, bytes_of}
use Rattle.disk_trait.proofs.Steps.{goes_on, stays_after}
use Rattle.faults.specs.Answers.{IfFault}
use Rattle.faults.specs.declared.refused.Refused.{Refused}
use Rattle.faults.specs.declared.refused.Refused.TheVariants.{Fault, Memory}
use Rattle.gate_journal.specs.Journal.{JournalView, OthersStay}
use Rattle.gate_journal.specs.Slots.{bodies_of}
use Rattle.metastore_index.specs.declared.entry.Entry.{Entry}
use Rattle.metastore_index.specs.Entries.{AreEntries, DivideFrom, IndexView, end_of}
use Rattle.metastore_index.proofs.DivideLemmas.{DivideFrom-first, end_from, end_of-from, lo_at}
use Rattle.profile_model.specs.declared.push.Push.{Push}
use Rattle.push_history.specs.History.{HasBoundedTotals}
use Rattle.tenant_books.specs.Books.{BooksView}
use Rattle.history_files.specs.History.{AreHeld, HasIndex, IsBlamed, IsObjectOf, StandFor}
use Rattle.history_files.specs.History.IsBlamed.{object as blames_object}
use Rattle.history_files.specs.Keeps.{Keeping, start_at}
use Rattle.history_files.specs.Standing.{IsAtRest, IsPrepared, LosesSpares, NoneFrom, SameOrStand, Spares, StandAlike}
use Rattle.store_core.specs.Changes.{OnlyClears}
use Rattle.history_files.proofs.HeldLemmas.{held_alike, held_append, held_one, length_held, one_object}
use Rattle.history_files.proofs.KeepLemmas.{keeps_begun, keeps_same}
use Rattle.history_files.proofs.OpenLemmas.{index_reads, prepared_rests, prepared_stands}
use Rattle.history_files.proofs.RestLemmas.{rests_stand, rests_still}
use Rattle.history_files.proofs.StandLemmas.{lists_divide, lists_ids, lists_once, not_index, stand_once}
use Rattle.store_core.specs.declared.fault.OpenCause.{OpenCause}
use Rattle.store_core.specs.declared.fault.OpenCause.TheVariants.{Damaged}
use Rattle.store_core.specs.Opening.{AreCounted, HasDurableIndex, IsRead, StopsAt}
use Rattle.store_core.proofs.KeptLemmas.{kept_reads}
use Rattle.store_core.proofs.OtherLemmas.{live_cleared}
use Rattle.store_core.proofs.RoomLemmas.{lists_short}
use Rattle.store_core.proofs.StoreLemmas.{ids_below}

-- ---- answers that are known

pub cause_is : {T : Type 0} (one other : OpenCause) → ◌≡◌ {A = Result T OpenCause} (Err one) (Err other) → one ≡ other
cause_is one other is = cc

pub file_is : (one other : FileId) → Damaged one ≡ Damaged other → other ≡ one
file_is one other is = cc

pub at_fault : {F : Type 0} (refused : Refused F) (fault : F) (P : F → Type 0) → refused ≡ Fault fault → IfFault P refused → P fault
at_fault {F} (Fault found) fault P is holds = subst P (the_fault found fault is) holds
  where
    the_fault : (one other : F) → Fault one ≡ Fault other → one ≡ other
    the_fault one other same = cc
at_fault Memory fault P is holds = absurd (cc)

-- ---- the object of an entry that begins where the history ends

module _ (entry : Entry) (content : Option (List ℕ)) (found : List Push) (object : IsObjectOf entry found content) (history : List Push) where
  pub stays_short : length history ≡ entry.lo → entry.hi < 2 ^ 63 → length (history ++ found) < 2 ^ 63
  stays_short long short = omega (arith, length-append history found, long, short, object.until)

  -- what is wrong with its pushes is wrong with whatever pushes it has
  pub passes : ¬ (HasBoundedTotals (history ++ found)) → (pushes : List Push) → IsObjectOf entry pushes content → ¬ (HasBoundedTotals (history ++ pushes))
  passes none pushes other bounded = none (subst (λ (l : List Push). HasBoundedTotals (history ++ l)) (one_object entry content pushes found other object) bounded)

-- ---- an entry among others

split_at : (entries : List Entry) (i : ℕ) (d : Entry) → i < length entries → entries ≡ take i entries ++ get_or entries i d ∷ drop (suc i) entries
split_at [] i d within = absurd (omega (arith, within))
split_at (x ∷ xs) zero d within = refl
split_at (x ∷ xs) (suc i) d within = ap (λ (es : List Entry). x ∷ es) (split_at xs i d (omega (arith, within)))

end_after : (start : ℕ) (entries : List Entry) → DivideFrom start entries → start ≤ end_from start entries
end_after start [] divide = omega arith
end_after start (x ∷ xs) divide = omega (arith, divide.0, x.some, end_after x.hi xs divide.1)

hi_within : (start : ℕ) (entries : List Entry) (i : ℕ) (d : Entry) → DivideFrom start entries → i < length entries → (get_or entries i d).hi ≤ end_from start entries
hi_within start [] i d divide within = absurd (omega (arith, within))
hi_within start (x ∷ xs) zero d divide within = end_after x.hi xs divide.1
hi_within start (x ∷ xs) (suc i) d divide within = hi_within x.hi xs i d divide.1 (omega (arith, within))

module _ (files : Files) (entries : List Entry) (i : ℕ) (d entry : Entry) (within : i < length entries) (here : get_or entries i d ≡ entry) (are : AreEntries entries) where
  -- no entry ends behind the last one
  pub ends_short : end_of entries < 2 ^ 63 → entry.hi < 2 ^ 63
  ends_short short =
      omega (arith, short, ap (λ (e : Entry). e.hi) here, hi_within 0 entries i d are.divide within, end_of-from entries)

  module _ (earlier : List Push) (held : AreHeld files (take i entries) earlier) where
    -- it begins behind the pushes of those before it
    pub begins_at : length earlier ≡ entry.lo
    begins_at =
        let divide : DivideFrom 0 (take i entries) = DivideFrom-first 0 (take i entries) (drop i entries) (subst (DivideFrom 0) (sym (take-append-drop i entries)) are.divide) in
        length_held files (take i entries) earlier divide held ∙ sym (lo_at entries i d are.divide within) ∙ ap (λ (e : Entry). e.lo) here

    -- and adds its object's
    pub held_more : (pushes : List Push) → IsObjectOf entry pushes (files (Object entry.id)) → AreHeld files (take (i + 1) entries) (earlier ++ pushes)
    held_more pushes object =
        subst (λ (es : List Entry). AreHeld files es (earlier ++ pushes)) (sym (take_more entries i d within ∙ ap (λ (e : Entry). take i entries ++ e ∷ []) here))
        (held_append files (take i entries) (entry ∷ []) earlier pushes held (held_one files entry pushes object))

    -- or it is the first that is wrong
    pub stops_here : (file : FileId) → file ≡ Object entry.id → HasBoundedTotals earlier
        → ((pushes : List Push) → IsObjectOf entry pushes (files (Object entry.id)) → ¬ (HasBoundedTotals (earlier ++ pushes))) → StopsAt files entries file
    stops_here file is totals stops = record {
      before = take i entries;
      entry = entry;
      after = drop (suc i) entries;
      earlier = earlier;
      is = is;
      divides = split_at entries i d within ∙ ap (λ (e : Entry). take i entries ++ e ∷ drop (suc i) entries) here;
      held = held;
      totals = totals;
      stops = stops;
    }

-- ---- what was prepared, looked at, and cleared of spares

module _ (records : ℕ) (old mid : DiskView) (journal : JournalView) (index : IndexView) (it : IsPrepared records old mid journal index) (entries : List Entry) (same : entries ≡ index.entries) where
  objects_same : (id : ℕ) → mid.files (Object id) ≡ old.files (Object id)
  objects_same id = it.others (Object id) (λ is. not_index id (sym is))

  pub entries_are : AreEntries entries
  entries_are = subst AreEntries (sym same) (lists_divide (bodies_of (bytes_of (old.files (Index 0)))) index it.has.lists)

  pub entries_short : end_of entries < 2 ^ 63
  entries_short = subst (λ (es : List Entry). end_of es < 2 ^ 63) (sym same) (lists_short (bodies_of (bytes_of (old.files (Index 0)))) index it.has.lists)

  pub stops_blamed : (file : FileId) → StopsAt mid.files entries file → IsBlamed records old.files file
  stops_blamed file stop =
      subst (IsBlamed records old.files) (sym stop.is)
      (blames_object index stop.before stop.entry stop.after stop.earlier it.has (sym same ∙ stop.divides)
      (held_alike mid.files old.files stop.before stop.earlier (λ id there. sym (objects_same id)) stop.held) stop.totals
      (λ pushes object. stop.stops pushes (subst (λ (o : Option (List ℕ)). IsObjectOf stop.entry pushes o) (sym (objects_same stop.entry.id)) object)))

  -- their ids are below the next
  pub ids_next : All (λ (entry : Entry). entry.id < index.greatest + 1) entries
  ids_next = ids_below index.greatest index.entries entries same (lists_ids (bodies_of (bytes_of (old.files (Index 0)))) index it.has.lists)

  -- it is the one index of what the files were
  pub same_entries : (other : IndexView) → HasIndex records old.files other → entries ≡ other.entries
  same_entries other has = same ∙ lists_once (bodies_of (bytes_of (old.files (Index 0)))) index other it.has.lists has.lists

  -- a fault of the disk while they were cleared of spares
  pub spares_failed : (look new : DiskView) → Leads (λ before image. (one : FileId) → one ≢ Index 0 → image one ≡ before one) old mid → Looks mid look → Leads (LosesSpares entries) look new
      → (other : IndexView) → HasIndex records old.files other → Leads (OnlyClears other.entries) old new
  spares_failed look new touches looks cleared other has =
      subst (λ (es : List Entry). Leads (OnlyClears es) old new) (same_entries other has)
      (live_cleared entries old look new (stays_after touches looks.stays) cleared)

  module _ (books : BooksView) (count : AreEntries entries → end_of entries < 2 ^ 63 → (history : List Push) × AreCounted mid.files entries books history) where
    abbrev history : List Push
    history = (count entries_are entries_short).0

    counted : AreCounted mid.files entries books history
    counted = (count entries_are entries_short).1

    reads : AreHeld mid.files index.entries history
    reads = subst (λ (es : List Entry). AreHeld mid.files es history) same counted.held

    stood : StandFor records old.files history
    stood = prepared_stands records old mid journal index history it reads counted.totals

    -- where they stood for none it wasn't read
    pub not_nothing : {P : Type 0} → ((other : List Push) → ¬ (StandFor records old.files other)) → P
    not_nothing none = absurd (none history stood)

    -- an image that stands for the history stands for what the files stood for
    stand_still : (image : Files) → StandFor records image history → StandAlike records old.files image
    stand_still image has other = (
      λ stands. subst (λ (h : List Push). StandFor records image h) (stand_once records old.files history other stood stands) has,
      λ stands. subst (λ (h : List Push). StandFor records old.files h) (stand_once records image history other has stands) stood,
    )

    -- what was prepared has its index file on the disk
    pub prepared_durable : (other : List Push) → StandFor records old.files other → Leads (OthersStay (Index 0)) old mid → HasDurableIndex records old mid other
    prepared_durable other stands run = record {
      durable = subst (λ (file : FileId). IsDurable file mid) it.file it.settled.durable;
      others = it.others;
      touches = run;
      stands = λ image left.
          subst (λ (h : List Push). StandFor records image h) (stand_once records old.files history other stood stands)
          (subst (λ (n : ℕ). StandFor n image history) it.limit
          (rests_stand mid journal index history (prepared_rests records old mid journal index history it reads counted.totals) image left));
    }

    module _ (look new : DiskView) (looks : Looks mid look) (tells : Tells look) (others : List Entry) (alike : others ≡ index.entries) (spares : Spares others look new) where
      rests : IsAtRest mid journal index history
      rests = prepared_rests records old mid journal index history it reads counted.totals

      cleared : IsAtRest new journal index history × Leads (λ before image. StandFor journal.limit image history) look new
      cleared = spares journal index history (sym alike) (rests_still mid look journal index history rests tells looks.stays)

      pub is_read : NoneFrom (index.greatest + 1) new.files → (read : List Push) × IsRead records old new journal index books read
      is_read none = (
        history,
        record {
          stood = stood;
          kept = record { state = cleared.0; booked = counted.booked; none = λ is. none };
        },
      )

      -- each moment, where nothing waited for a sync
      pub cleared_alike : Leads (λ before image. StandAlike records old.files image) old mid → Leads (λ before image. StandAlike records old.files image) old new
      cleared_alike run = goes_on (stays_after run looks.stays) cleared.1
          (λ before image left step. step)
          (λ before between image left first now stands. stand_still image (subst (λ (n : ℕ). StandFor n image history) it.limit stands))

      module _ (other : List Push) (stands : StandFor records old.files other) where
        stand_after : (image : Files) → StandFor journal.limit image history → StandFor records image other
        stand_after image after =
            subst (λ (h : List Push). StandFor records image h) (stand_once records old.files history other stood stands)
            (subst (λ (n : ℕ). StandFor n image history) it.limit after)

        before_stands : (image : Files) → mid.images_now image → StandFor records image other
        before_stands image left = stand_after image (rests_stand mid journal index history rests image left)

        -- each since the sync, where calls did
        pub cleared_stand : (synced : DiskView) → Leads (λ before image. StandFor records image other) synced mid → Leads (λ before image. StandFor records image other) synced new
        cleared_stand synced run = goes_on (stays_after run looks.stays) cleared.1
            (λ before image left step. step)
            (λ before between image left first now after. stand_after image after)

        -- each since the index file was on the disk
        pub cleared_after : Leads (λ before image. StandFor records image other) mid new
        cleared_after = goes_on looks.stays cleared.1
            (λ before image left same. subst (λ (f : Files). StandFor records f other) (sym same) (before_stands before left))
            (λ before between image left first now after. stand_after image after)

        -- and each from the first on
        pub cleared_on : Leads (SameOrStand records other) old mid → Leads (SameOrStand records other) old new
        cleared_on run = goes_on (stays_after run looks.stays) cleared.1
            (λ before image left step. step)
            (λ before between image left first now after. inr (stand_after image after))

-- ---- what was read

module _ (records : ℕ) (old new : DiskView) (journal : JournalView) (index : IndexView) (books : BooksView) (history : List Push)
    (it : IsRead records old new journal index books history) (limit : journal.limit ≡ records) where
  pub read_has : Tells new → AreHeld new.files index.entries history
  read_has tells = kept_reads new journal index None books true history tells it.kept

  -- it reads the index
  pub read_reads : HasIndex records new.files index × (journal.count ≡ length (bodies_of (bytes_of (new.files (Index 0)))))
  read_reads = index_reads records new journal index it.kept.state.holds.file limit it.kept.state.holds.within it.kept.state.holds.lists it.kept.state.settled

  module _ (other : List Push) (stands : StandFor records old.files other) where
    same_history : history ≡ other
    same_history = stand_once records old.files history other it.stood stands

    pub other_has : Tells new → AreHeld new.files index.entries other
    other_has tells = subst (λ (h : List Push). AreHeld new.files index.entries h) same_history (read_has tells)

    -- each image stands for what the files stood for
    pub read_images : (image : Files) → new.images_now image → StandFor records image other
    read_images image left =
        subst (λ (h : List Push). StandFor records image h) same_history
        (subst (λ (n : ℕ). StandFor n image history) limit (rests_stand new journal index history it.kept.state image left))

    -- a start there keeps it
    pub read_keeps : (IsFlight : List Push → List Push → Type 0) → Keeping records (start_at new other) IsFlight new other []
    read_keeps IsFlight = record { keeps = keeps_begun records IsFlight new other read_images; risen = inl refl }

-- ---- since the index file was on the disk

pub keeps_since : (records : ℕ) (IsFlight : List Push → List Push → Type 0) (old mid new : DiskView) (history : List Push) → HasDurableIndex records old mid history → GoesOn mid new
    → Leads (λ before image. StandFor records image history) mid new → Keeping records (start_at mid history) IsFlight new history []
keeps_since records IsFlight old mid new history has goes run = record {
  keeps = keeps_same records (start_at mid history) IsFlight mid new history (keeps_begun records IsFlight mid history has.stands) goes run;
  risen = inl refl;
}
