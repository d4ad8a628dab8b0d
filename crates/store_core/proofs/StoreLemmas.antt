-- What methods make of a store.
use Rattle.std.proofs.Common.{◌≡◌, ◌⊎◌, inl, inr, ⊎_elim, ℕ, ◌+◌, ◌≤◌, List, [], ◌++◌, length, Bool, true, false, Option, Some, None, Result, Ok, Err, refl, sym, ◌∙◌, ap, subst, arith, append-nil, All, ◌<◌, ◌^◌}
use Rattle.std.specs.Prelude.{Contains, IfSome, MatchOption, OnOk, OnErr, is_none}
use Rattle.std.proofs.lemmas.Bool.{false≢true}
use Rattle.disk_trait.specs.declared.disk.FileId.TheVariants.{Index}
use Rattle.disk_trait.specs.Disk.{Files, DiskView, GoesOn, Leads, Rose, Stays, Tells}
use Rattle.disk_trait.proofs.Steps.{goes_on, still, widen}
use Rattle.gate_journal.specs.Journal.{JournalView}
use Rattle.metastore_index.specs.declared.entry.Entry.{Entry}
use Rattle.metastore_index.specs.Entries.{IndexView, end_of}
use Rattle.profile_model.specs.declared.push.Push.{Push}
use Rattle.tenant_books.specs.Books.{AreBooksOf, BooksView}
use Rattle.history_files.specs.History.{AreHeld, StandFor}
use Rattle.history_files.specs.Keeps.{Keeping, StandForEither, Start, most_pushes}
use Rattle.history_files.specs.Standing.{IsAtRest, IsInFlight, LosesSpares, NoneFrom, Spares}
use Rattle.history_files.proofs.KeepLemmas.{mended}
use Rattle.history_files.proofs.RestLemmas.{rests_stand}
use Rattle.history_files.proofs.SpareLemmas.{loses_again, loses_look}
use Rattle.std.specs.Option.{option_map}
use Rattle.tenant_books.specs.Limits.{LimitsView}
use Rattle.store_core.specs.declared.flight.Flight.{Flight}
use Rattle.store_core.specs.Store.{FlightView, HasHistory, Invariant, IsBehind, IsKeeping, IsKept, Mends, StandsWith, StoreView, in_flight}
use Rattle.store_core.specs.Changes.{IsMended, KeepsOn}
use Rattle.store_core.proofs.KeptLemmas.{images_as, kept_at, kept_reads}

-- over a call that wrote nothing each image stands as before
pub still_leads : (old new : DiskView) (P : Files → Type 0) → ((image : Files) → old.images_now image → P image) → Leads Stays old new → Leads (λ before image. P image) old new
still_leads old new P all run = widen run (λ before image left stays. subst P (sym stays) (all before left))

-- ---- a store, by its fields

abbrev pub seen_flight : Flight → FlightView
seen_flight f = record { entry = f.entry; pushes = f.pushes.items }

abbrev pub store_of : {D : Type 0} → D → IndexView → Option Flight → Bool → ℕ → ℕ → LimitsView → StoreView D
store_of disk index flight sure records count limits = record { disk = disk; index = index; flight = option_map seen_flight flight; sure = sure; records = records; count = count; limits = limits }

pub flight_none : (o r : Option Flight) → r ≡ o → r ≡ None → option_map seen_flight o ≡ None
flight_none o r value is = ap (option_map seen_flight) (sym value ∙ is)

-- the same flight, its pushes by another name
pub same_pushes : (f : Flight) (pushes : List Push) → pushes ≡ f.pushes.items → ◌≡◌ {A = Option FlightView} (Some (seen_flight f)) (Some (record { entry = f.entry; pushes = pushes }))
same_pushes f pushes same = ap (λ (ps : List Push). Some (record { entry = f.entry; pushes = ps })) (sym same)

pub flight_there : (o r : Option Flight) (f : Flight) (pushes : List Push) → r ≡ o → r ≡ Some f → pushes ≡ f.pushes.items → option_map seen_flight o ≡ Some (record { entry = f.entry; pushes = pushes })
flight_there o r f pushes value is same = ap (option_map seen_flight) (sym value ∙ is) ∙ same_pushes f pushes same

-- ---- a mend, by what it does to the history, the flight and the images

pub is_mended : {D : Type 0} (old new : DiskView) (before after : StoreView D) (history next : List Push) → GoesOn old new → after.records ≡ before.records
    → Mends history before.flight next → HasHistory new after next → (after.flight ≡ None) ⊎ ((next ≡ history) × (after.flight ≡ before.flight))
    → Leads (λ before_image image. StandForEither before.records history (history ++ in_flight before.flight) image) old new
    → Leads (LosesSpares after.index.entries) old new
    → IsMended old new before after history next
is_mended {D} old new before after history next goes records which has flight leads fewer = record {
  which = which;
  has = has;
  flight = flight;
  leads = leads;
  fewer = fewer;
  keeps = λ start flights was. record {
    has = has;
    keeping = subst (λ (n : ℕ). Keeping n start (λ past flight. Contains flights (past, flight)) new next (in_flight after.flight)) (sym records)
        (mended before.records start (λ past flight. Contains flights (past, flight)) old new history (in_flight before.flight) was.keeping goes next (in_flight after.flight) leads which
        (⊎_elim (λ none. inl (ap in_flight none)) (λ is. inr (is.0, ap in_flight is.1)) flight));
  };
}

-- two in turn, the first of which leaves nothing in the air
pub mended_again : {D : Type 0} (old mid new : DiskView) (before between after : StoreView D) (history one two : List Push) → between.records ≡ before.records → between.flight ≡ None
    → after.index.entries ≡ between.index.entries → IsMended old mid before between history one → IsMended mid new between after one two → IsMended old new before after history two
mended_again {D} old mid new before between after history one two records none entries first second =
    let same : two ≡ one = ⊎_elim (λ is. is) (λ is. is ∙ ap (λ (f : Option FlightView). one ++ in_flight f) none ∙ append-nil one) second.which in
    let which : Mends history before.flight two = ⊎_elim (λ is. inl (same ∙ is)) (λ is. inr (same ∙ is)) first.which in
    let at_one : (image : Files) → StandForEither before.records one (one ++ in_flight between.flight) image → StandForEither before.records history (history ++ in_flight before.flight) image =
    λ image stands.
    let now : StandFor before.records image one = ⊎_elim (λ is. is) (λ is. subst (λ (l : List Push). StandFor before.records image l) (ap (λ (f : Option FlightView). one ++ in_flight f) none ∙ append-nil one) is) stands in
    ⊎_elim (λ is. inl (subst (λ (l : List Push). StandFor before.records image l) is now)) (λ is. inr (subst (λ (l : List Push). StandFor before.records image l) is now)) first.which in
    record {
      which = which;
      has = second.has;
      flight = ⊎_elim (λ is. inl is) (λ is. inl (is.1 ∙ none)) second.flight;
      fewer = loses_again after.index.entries (subst (λ (es : List Entry). Leads (LosesSpares es) old mid) (sym entries) first.fewer) second.fewer;
      leads = goes_on first.leads second.leads (λ before_image image left step. step)
          (λ before_image between_image image left one_step now two_step. at_one image (subst (λ (n : ℕ). StandForEither n one (one ++ in_flight between.flight) image) records two_step));
      keeps = λ start flights was. second.keeps start flights (first.keeps start flights was);
    }

-- ---- the entry in the air

module _ {D : Type 0} (old new : DiskView) (journal done : JournalView) (before after : StoreView D) (books booked : BooksView) (sure : Bool)
    (it : Invariant old journal before.index before.flight books sure before.records) (f : FlightView) (there : before.flight ≡ Some f) where
  pub flight_unsure : journal.sure ≡ false
  flight_unsure = it.journal_sure ∙ ap (λ (o : Option FlightView). is_none o) there

  pub unsure : sure ≡ false
  unsure = by_case sure it.settled
    where
      none_there : None ≡ Some f → ⊥
      none_there is = cc

      by_case : (b : Bool) → (b ≡ true → before.flight ≡ None) → b ≡ false
      by_case false settled = refl
      by_case true settled = absurd (none_there (sym (settled refl) ∙ there))

  pub flight_behind : IsBehind before.index.entries f
  flight_behind = subst (λ (o : Option FlightView). IfSome o (IsBehind before.index.entries)) there it.behind

  few_in_flight : length f.pushes ≤ most_pushes
  few_in_flight = subst (λ (o : Option FlightView). length (in_flight o) ≤ most_pushes) there it.few

  kept_unsure : (history : List Push) → IsKept old journal before.index before.flight books sure history → IsKept old journal before.index (Some f) books false history
  kept_unsure history kept = record {
    state = subst (λ (o : Option FlightView). StandsWith old journal before.index o history) there kept.state;
    booked = kept.booked;
    none = λ is. absurd (false≢true is);
  }

  pub flight_flies : Tells old → (history : List Push) × IsInFlight old journal before.index f.entry history f.pushes
  flight_flies t = let kept = it.told t in (kept.0, (kept_unsure kept.0 kept.1).state)

  module _ (goes : GoesOn old new) (file : done.file ≡ journal.file) (limit : done.limit ≡ journal.limit) where
    told_before : Tells new → Tells old
    told_before t = sym goes.honest ∙ t

    -- these came of it
    module _ (came : List Push) (which : (came ≡ []) ⊎ (came ≡ f.pushes))
        (decided : (history : List Push) → Tells old → IsKept old journal before.index (Some f) books false history → IsKept new done after.index None booked false (history ++ came)) where
      pub decided_invariant : done.sure ≡ true → end_of after.index.entries ≡ end_of before.index.entries + length came → Invariant new done after.index None booked sure before.records
      decided_invariant is_sure long = record {
        file = file ∙ it.file;
        limit = limit ∙ it.limit;
        journal_sure = is_sure;
        settled = λ is. refl;
        few = omega arith;
        short = ⊎_elim
            (λ none. omega (arith, long, ap length none, it.short))
            (λ all. omega (arith, long, ap length all, flight_behind.from, flight_behind.until, flight_behind.short))
            which;
        behind = tt;
        bound = it.bound;
        told = λ t. let kept = it.told (told_before t) in (
          kept.0 ++ came,
          subst (λ (b : Bool). IsKept new done after.index None booked b (kept.0 ++ came)) (sym unsure) (decided kept.0 (told_before t) (kept_unsure kept.0 kept.1)),
        );
      }

      pub decided_mends : Leads Stays old new → after.records ≡ before.records → after.flight ≡ None → (history : List Push) → Tells old → HasHistory old before history
          → IsMended old new before after history (history ++ came)
      decided_mends run records none history t held =
          let kept = kept_at old journal before.index before.flight books sure before.records it history t held in
          is_mended old new before after history (history ++ came) goes records
          (⊎_elim (λ no. inl (ap (λ (l : List Push). history ++ l) no ∙ append-nil history))
          (λ all. inr (ap (λ (l : List Push). history ++ l) (all ∙ sym (ap in_flight there)))) which)
          (kept_reads new done after.index None booked false (history ++ came) (goes.honest ∙ t) (decided history t (kept_unsure history kept))) (inl none)
          (still_leads old new (λ image. StandForEither before.records history (history ++ in_flight before.flight) image)
          (images_as old journal before.index before.flight books sure before.records it history t held) run)
          (loses_look after.index.entries run)

      -- the files stood for the history with these
      pub decided_read : ((history : List Push) → Tells old → IsKept old journal before.index (Some f) books false history → StandFor journal.limit old.files (history ++ came))
          → (history : List Push) → Tells old → HasHistory old before history → StandFor before.records old.files (history ++ came)
      decided_read read history t held =
          let kept = kept_at old journal before.index before.flight books sure before.records it history t held in
          subst (λ (n : ℕ). StandFor n old.files (history ++ came)) it.limit (read history t (kept_unsure history kept))

    module _ (doubted : (history : List Push) → Tells old → IsKept old journal before.index (Some f) books false history → IsKept new done after.index (Some f) booked false history) where
      pub doubted_invariant : done.sure ≡ journal.sure → after.index.entries ≡ before.index.entries → Invariant new done after.index (Some f) booked sure before.records
      doubted_invariant is_unsure same = record {
        file = file ∙ it.file;
        limit = limit ∙ it.limit;
        journal_sure = is_unsure ∙ flight_unsure;
        settled = λ is. absurd (false≢true (sym unsure ∙ is));
        few = few_in_flight;
        short = subst (λ (es : List Entry). end_of es < 2 ^ 63) (sym same) it.short;
        behind = subst (λ (es : List Entry). IsBehind es f) (sym same) flight_behind;
        bound = it.bound;
        told = λ t. let kept = it.told (told_before t) in (
          kept.0,
          subst (λ (b : Bool). IsKept new done after.index (Some f) booked b kept.0) (sym unsure) (doubted kept.0 (told_before t) (kept_unsure kept.0 kept.1)),
        );
      }

      pub doubted_mends : Leads Stays old new → after.records ≡ before.records → after.flight ≡ Some f → (history : List Push) → Tells old → HasHistory old before history
          → IsMended old new before after history history
      doubted_mends run records some history t held =
          let kept = kept_at old journal before.index before.flight books sure before.records it history t held in
          is_mended old new before after history history goes records (inl refl)
          (kept_reads new done after.index (Some f) booked false history (goes.honest ∙ t) (doubted history t (kept_unsure history kept)))
          (inr (refl, some ∙ sym there))
          (still_leads old new (λ image. StandForEither before.records history (history ++ in_flight before.flight) image)
          (images_as old journal before.index before.flight books sure before.records it history t held) run)
          (loses_look after.index.entries run)

-- ---- nothing in the air

module _ {D : Type 0} (old : DiskView) (journal : JournalView) (before : StoreView D) (books : BooksView) (sure : Bool)
    (it : Invariant old journal before.index before.flight books sure before.records) (none : before.flight ≡ None) where
  pub still_mends : (after : StoreView D) → after.index ≡ before.index → after.records ≡ before.records → after.flight ≡ None → (history : List Push) → Tells old → HasHistory old before history
      → IsMended old old before after history history
  still_mends after index records nothing history t held =
      is_mended old old before after history history (record { honest = refl; faults = omega arith }) records (inl refl)
      (subst (λ (i : IndexView). AreHeld old.files i.entries history) (sym index) held) (inl nothing)
      (still_leads old old (λ image. StandForEither before.records history (history ++ in_flight before.flight) image)
      (images_as old journal before.index before.flight books sure before.records it history t held) (still old))
      (loses_look after.index.entries (still old))

  -- the files stand for the history
  pub still_read : (history : List Push) → Tells old → HasHistory old before history → StandFor before.records old.files history
  still_read history t held = ⊎_elim
      (λ stands. stands)
      (λ stands. subst (λ (h : List Push). StandFor before.records old.files h) (ap (λ (o : Option FlightView). history ++ in_flight o) none ∙ append-nil history) stands)
      (images_as old journal before.index before.flight books sure before.records it history t held old.files (old.as_read t))

  pub at_rest : (history : List Push) → IsKept old journal before.index before.flight books sure history → IsAtRest old journal before.index history
  at_rest history kept = subst (λ (o : Option FlightView). StandsWith old journal before.index o history) none kept.state

  -- objects that are no entry's are removed, or can't be
  module _ (new : DiskView) (goes : GoesOn old new) (entries : List Entry) (same : before.index.entries ≡ entries) (run : Tells old → Spares entries old new) where
    cleared : (history : List Push) → Tells old → IsKept old journal before.index before.flight books sure history
        → IsAtRest new journal before.index history × Leads (λ before_image image. StandFor journal.limit image history) old new
    cleared history t kept = run t journal before.index history same (at_rest history kept)

    pub cleared_invariant : (after_sure : Bool) → (after_sure ≡ true → Tells old → NoneFrom (before.index.greatest + 1) new.files)
        → Invariant new journal before.index None books after_sure before.records
    cleared_invariant after_sure clean = record {
      file = it.file;
      limit = it.limit;
      journal_sure = it.journal_sure ∙ ap (λ (o : Option FlightView). is_none o) none;
      settled = λ is. refl;
      few = omega arith;
      short = it.short;
      behind = tt;
      bound = it.bound;
      told = λ t.
          let t-old : Tells old = sym goes.honest ∙ t in
          let kept = it.told t-old in
          (kept.0, record { state = (cleared kept.0 t-old kept.1).0; booked = kept.1.booked; none = λ is. clean is t-old });
    }

    pub cleared_mends : (after : StoreView D) → after.index ≡ before.index → after.records ≡ before.records → after.flight ≡ None → Leads (LosesSpares entries) old new
        → (history : List Push) → Tells old → HasHistory old before history → IsMended old new before after history history
    cleared_mends after index records nothing loses history t held =
        let kept = kept_at old journal before.index before.flight books sure before.records it history t held in
        let both = cleared history t kept in
        is_mended old new before after history history goes records (inl refl)
        (subst (λ (i : IndexView). AreHeld new.files i.entries history) (sym index) (both.0.holds.held new.files (new.as_read (goes.honest ∙ t)))) (inl nothing)
        (widen both.1 (λ before_image image left stands. inl (subst (λ (n : ℕ). StandFor n image history) it.limit stands)))
        (subst (λ (es : List Entry). Leads (LosesSpares es) old new) (sym (ap (λ (i : IndexView). i.entries) index ∙ same)) loses)

-- ids within the greatest are below the next
pub ids_below : (greatest : ℕ) (entries others : List Entry) → others ≡ entries → All (λ (entry : Entry). entry.id ≤ greatest) entries → All (λ (entry : Entry). entry.id < greatest + 1) others
ids_below greatest entries others same ids =
    subst (λ (es : List Entry). All (λ (entry : Entry). entry.id < greatest + 1) es) (sym same) (λ k d within. omega (arith, ids k d within))
