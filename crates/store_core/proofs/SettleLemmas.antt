-- What becomes of pushes that ask a store to keep them, after a mend.
use Rattle.std.proofs.Common.{◌≡◌, ◌≢◌, ◌⊎◌, inl, inr, ⊎_elim, ℕ, ◌+◌, ◌^◌, ◌<◌, ◌≤◌, List, [], ◌++◌, length, Bool, true, false, Option, Some, None, Result, Ok, Err, refl, sym, ◌∙◌, ap, subst, arith, append-nil, length-append}
use Rattle.std.proofs.Common.{Vec, Global}
use Rattle.std.specs.Prelude.{IfOk, IsErrOf, OnErr, OnOk}
use Rattle.store_core.specs.declared.fault.SettleFault.TheVariants.{Full}
use Rattle.std.proofs.lemmas.Bool.{cases_lt, false≢true}
use Rattle.disk_trait.specs.Disk.{DiskView, Files, Leads, Tells}
use Rattle.disk_trait.proofs.Steps.{still}
use Rattle.gate_journal.specs.Journal.{JournalView}
use Rattle.metastore_index.specs.Entries.{end_of}
use Rattle.profile_model.specs.declared.push.Push.{Push}
use Rattle.push_history.specs.History.{HasBoundedTotals}
use Rattle.tenant_books.specs.declared.asks.PushAsk.{PushAsk}
use Rattle.tenant_books.specs.declared.verdict.Verdict.{Verdict}
use Rattle.tenant_books.specs.Books.{AreBooksOf, BooksView}
use Rattle.tenant_books.specs.Keeping.{is_some_kept}
use Rattle.tenant_books.specs.Limits.{limit_of}
use Rattle.tenant_books.specs.Verdicts.{AreVerdicts, kept_of}
use Rattle.tenant_books.proofs.KeptLemmas.{kept_is_empty, none_is_kept, verdicts_long, verdicts_some}
use Rattle.history_files.specs.History.{AreHeld, StandFor}
use Rattle.history_files.specs.Keeps.{StandForEither}
use Rattle.segment_file.specs.Decoded.{Spells}
use Rattle.segment_file.specs.Objects.{ObjectView}
use Rattle.metastore_index.specs.declared.entry.Entry.{Entry}
use Rattle.history_files.specs.Keeps.{most_pushes}
use Rattle.history_files.specs.Standing.{Describes}
use Rattle.history_files.proofs.HeldLemmas.{push_turns}
use Rattle.history_files.proofs.ObjectLemmas.{object_is}
use Rattle.store_core.specs.Store.{FlightView, HasHistory, HasNumbers, Invariant, IsBehind, IsFull, IsKept, StoreView, in_flight}
use Rattle.store_core.specs.Changes.{CanPut, FliesNext, HasNoSpares, HasOneMore, HasSameIndex, IsAdded, IsMended, IsNextEntry, IsNotAdded, LeavesAllBut, TakesFlight}
use Rattle.store_core.specs.Settling.{FirstMended, IsDoubted, IsFullFor, IsSettled}
use Rattle.store_core.proofs.KeptLemmas.{holds_of, images_as, kept_at, kept_long}
use Rattle.store_core.proofs.AddLemmas.{is_added}
use Rattle.store_core.proofs.OtherLemmas.{leaves_still}
use Rattle.store_core.proofs.StoreLemmas.{still_leads}

-- the same store, with other room in its index
abbrev pub with_spare : {D : Type 0} → StoreView D → ℕ → StoreView D
with_spare store spare = record store { index = record store.index { spare = spare } }

-- which a mend leaves as well
pub mended_spare : {D : Type 0} (view : D → DiskView) (before after last : StoreView D) (history next : List Push) → last ≡ with_spare after last.index.spare
    → IsMended (view before.disk) (view after.disk) before after history next → IsMended (view before.disk) (view last.disk) before last history next
mended_spare {D} view before after last history next same it =
    subst (λ (s : StoreView D). IsMended (view before.disk) (view s.disk) before s history next) (sym same) (record {
      which = it.which;
      has = it.has;
      flight = it.flight;
      leads = it.leads;
      fewer = it.fewer;
      keeps = λ start flights was. let kept = it.keeps start flights was in record { has = kept.has; keeping = kept.keeping };
    })

module _ {D : Type 0} (view : D → DiskView) (before between : StoreView D) (history : List Push)
    (mended : (next : List Push) × IsMended (view before.disk) (view between.disk) before between history next × StandFor before.records (view before.disk).files next) where
  pub first_mended : (Then : StoreView D → List Push → Type 0) → between.sure ≡ true → between.flight ≡ None → (before.sure ≡ true → between ≡ before) → between.records ≡ before.records
      → between.limits ≡ before.limits → TakesFlight before between → (before.sure ≡ false → HasNoSpares (view between.disk) between) → Then between mended.0 → FirstMended view before history Then
  first_mended Then is_sure lands at_once records limits index gone follows = record {
    between = between;
    next = mended.0;
    mended = mended.1;
    read = mended.2;
    is_sure = is_sure;
    lands = lands;
    at_once = at_once;
    records = records;
    limits = limits;
    index = index;
    gone = gone;
    follows = follows;
  }

pub if_ok : {A E : Type 0} (r : Result A E) (P Q : A → Type 0) → ((a : A) → P a → Q a) → IfOk r P → IfOk r Q
if_ok (Ok a) P Q f p = f a p
if_ok (Err e) P Q f p = p

pub on_ok : {A E : Type 0} (r : Result A E) (P Q : Type 0) → (P → Q) → OnOk r P → OnOk r Q
on_ok (Ok a) P Q f p = f p
on_ok (Err e) P Q f p = p

pub on_err_weaker : {A E : Type 0} (r : Result A E) (P Q : Type 0) → (P → Q) → OnErr r P → OnErr r Q
on_err_weaker (Ok a) P Q f p = p
on_err_weaker (Err e) P Q f p = f p

pub on_ok_any : {A E : Type 0} (r : Result A E) (P : Type 0) → P → OnOk r P
on_ok_any (Ok a) P p = p
on_ok_any (Err e) P p = tt

-- ---- a sure store

module _ {D : Type 0} (view : D → DiskView) (journal : JournalView) (before : StoreView D) (books : BooksView)
    (it : Invariant (view before.disk) journal before.index before.flight books before.sure before.records) (is_sure : before.sure ≡ true) where
  lands_now : before.flight ≡ None
  lands_now = it.settled is_sure

  module _ (history : List Push) (tells : Tells (view before.disk)) (held : HasHistory (view before.disk) before history) where
    kept_now : IsKept (view before.disk) journal before.index before.flight books before.sure history
    kept_now = kept_at (view before.disk) journal before.index before.flight books before.sure before.records it history tells held

    images_now : (image : Files) → (view before.disk).images_now image → StandForEither before.records history (history ++ []) image
    images_now image left = subst (λ (o : Option FlightView). StandForEither before.records history (history ++ in_flight o) image) lands_now
        (images_as (view before.disk) journal before.index before.flight books before.sure before.records it history tells held image left)

    -- what judging wants of the books
    pub books_now : AreBooksOf books history
    books_now = kept_now.booked

    pub totals_now : HasBoundedTotals history
    totals_now = (holds_of (view before.disk) journal before.index before.flight history kept_now.state).totals

    pub long_now : length history ≡ end_of before.index.entries
    long_now = kept_long (view before.disk) journal before.index before.flight books before.sure history tells kept_now

    -- nothing is added where nothing is done
    pub nothing_added : IsAdded (view before.disk) (view before.disk) before before history []
    nothing_added = is_added (view before.disk) (view before.disk) before before history [] (record { honest = refl; faults = omega arith }) refl
        (still_leads (view before.disk) (view before.disk) (λ image. StandForEither before.records history (history ++ []) image) images_now (still (view before.disk)))
        lands_now
        (subst (λ (h : List Push). AreHeld (view before.disk).files before.index.entries h) (sym (append-nil history)) held)
        (λ image left. ⊎_elim (λ stands. subst (λ (h : List Push). StandFor before.records image h) (sym (append-nil history)) stands) (λ stands. stands) (images_now image left))

    module _ (asks : List PushAsk) (verdicts : List Verdict) (kept : List Push) (is : kept ≡ kept_of asks verdicts)
        (judged : AreVerdicts (limit_of before.limits) history asks verdicts (history ++ kept)) where
      -- all asks were refused
      pub settled_none : kept ≡ [] → IsSettled view before before history asks verdicts
      settled_none none = record {
        kept = [];
        which = sym none ∙ is;
        judged = subst (λ (l : List Push). AreVerdicts (limit_of before.limits) history asks verdicts (history ++ l)) none judged;
        room = λ some. absurd (false≢true (sym (none_is_kept asks verdicts (verdicts_long (limit_of before.limits) history asks verdicts (history ++ kept) judged) (sym is ∙ none)) ∙ some));
        entry = inl (refl, refl);
        added = nothing_added;
        others = λ file other object. refl;
        others_at_each_moment = leaves_still (before.index.greatest + 1) (view before.disk);
      }

      module _ (after : StoreView D) (not_full : ¬ (IsFull before)) where
        -- those that weren't stand behind the history
        pub settled_some : (entry : Entry) × IsNextEntry before kept entry × HasOneMore before after entry → IsAdded (view before.disk) (view after.disk) before after history kept
            → LeavesAllBut (before.index.greatest + 1) (view before.disk).files (view after.disk).files → Leads (LeavesAllBut (before.index.greatest + 1)) (view before.disk) (view after.disk)
            → IsSettled view before after history asks verdicts
        settled_some one added others moments = record {
          kept = kept;
          which = is;
          judged = judged;
          room = λ some. not_full;
          entry = inr one;
          added = added;
          others = others;
          others_at_each_moment = moments;
        }

        -- or may come to stand there
        pub settled_doubt : kept ≢ [] → HasSameIndex before after → IsNotAdded (view before.disk) (view after.disk) before after history kept → FliesNext before after kept
            → Leads (LeavesAllBut (before.index.greatest + 1)) (view before.disk) (view after.disk) → IsDoubted view before after history asks
        settled_doubt some index not_added flight moments = record {
          verdicts = verdicts;
          kept = kept;
          judged = judged;
          some = some_is_kept asks verdicts (λ none. some (is ∙ none));
          room = not_full;
          index = index;
          not_added = not_added;
          flight = flight;
          others_at_each_moment = moments;
        }
          where
            some_is_kept : (asks : List PushAsk) (verdicts : List Verdict) → kept_of asks verdicts ≢ [] → is_some_kept verdicts ≡ true
            some_is_kept asks verdicts some = by_case (is_some_kept verdicts) (λ none. absurd (some (kept_is_empty asks verdicts none)))
              where
                by_case : (b : Bool) → (b ≡ false → b ≡ true) → b ≡ true
                by_case true f = refl
                by_case false f = f refl

    -- the index is full, and some would be kept
    pub full_for : (asks : List PushAsk) → IsFull before → ((verdicts : List Verdict) (last : List Push) → AreVerdicts (limit_of before.limits) history asks verdicts last → is_some_kept verdicts ≡ true)
        → IsFullFor before history asks
    full_for asks full some =
        let v = verdicts_some (limit_of before.limits) history asks in
        record { full = full; verdicts = v.0; last = v.1; judged = v.2; some = some v.0 v.1 v.2 }

    -- so many pushes behind the history, in an object of their own, can be put there
    pub can_put_now : (object : ObjectView) (bytes : List ℕ) (entry : Entry) → Spells bytes object → entry.length ≡ length bytes → length bytes < 2 ^ 32 → Describes entry object → entry.level ≡ 0
        → object.lo ≡ end_of before.index.entries → HasNumbers before → length object.pushes ≤ most_pushes → HasBoundedTotals (history ++ object.pushes)
        → CanPut before.index entry bytes history object.pushes
    can_put_now object bytes entry spells long short describes level begins numbers few totals = record {
      bounded = record { until = omega (arith, describes.until, begins, numbers.pushes, few); long = omega (arith, long, short) };
      pushes = object.pushes;
      object = object_is entry bytes object (sym long) spells describes;
      turns = λ next becomes. push_turns entry object.pushes before.index.entries next history becomes level;
      totals = totals;
      short = omega (arith, length-append history object.pushes, long_now, numbers.pushes, few);
    }

-- ---- what a store that isn't full has

module _ {D : Type 0} (store : StoreView D) (not_full : ¬ (IsFull store)) where
  pub has_room : store.count < store.records
  has_room = ⊎_elim (λ less. less) (λ full. absurd (not_full (inl full))) (cases_lt store.count store.records)

  pub has_numbers : HasNumbers store
  has_numbers = record {
    pushes = ⊎_elim (λ less. less) (λ past. absurd (not_full (inr (inr (omega (arith, past)))))) (cases_lt (end_of store.index.entries + most_pushes) (2 ^ 63));
    object = ⊎_elim (λ less. less) (λ past. absurd (not_full (inr (inl past)))) (cases_lt (store.index.greatest + 1) (2 ^ 63));
  }

-- ---- the entry of what is put

pub next_entry : {D : Type 0} (store : StoreView D) (object : ObjectView) (entry : Entry) (pushes : List Push) → object.pushes ≡ pushes → Describes entry object → entry.level ≡ 0
    → entry.id ≡ store.index.greatest + 1 → object.lo ≡ end_of store.index.entries → IsNextEntry store pushes entry
next_entry store object entry pushes same describes level id begins = record {
  level = level;
  id = id;
  from = sym describes.from ∙ begins;
  until = omega (arith, describes.until, begins, ap length same);
}

pub is_behind : {D : Type 0} (store : StoreView D) (object : ObjectView) (entry : Entry) (pushes : List Push) → object.pushes ≡ pushes → Describes entry object → entry.level ≡ 0
    → object.lo ≡ end_of store.index.entries → HasNumbers store → length pushes ≤ most_pushes → IsBehind store.index.entries (record { entry = entry; pushes = pushes })
is_behind store object entry pushes same describes level begins numbers few = record {
  level = level;
  from = sym describes.from ∙ begins;
  until = omega (arith, describes.from, describes.until, ap length same);
  short = omega (arith, describes.until, begins, ap length same, numbers.pushes, few);
}

pub flies_next : {D : Type 0} (before after : StoreView D) (entry : Entry) (put pushes : List Push) → put ≡ pushes → IsNextEntry before pushes entry
    → (after.flight ≡ None) ⊎ (after.flight ≡ Some (record { entry = entry; pushes = put })) → FliesNext before after pushes
flies_next before after entry put pushes same next which =
    ⊎_elim (λ none. inl none) (λ some. inr (record { entry = entry; pushes = put }, some, same, next)) which

-- ---- what a fault says

pub full_records : {T : Type 0} (records other : ℕ) (asks back : Vec PushAsk Global) → IsErrOf {T = T} (Err (Full records asks)) (Full other back) → other ≡ records
full_records records other asks back is = cc

pub full_asks : {T : Type 0} (records other : ℕ) (asks back : Vec PushAsk Global) → IsErrOf {T = T} (Err (Full records asks)) (Full other back) → back ≡ asks
full_asks records other asks back is = cc
