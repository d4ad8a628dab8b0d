-- What a settling leaves of a store and its spine's list.
use Rattle.std.proofs.Common.{◌≡◌, ◌⊎◌, inl, inr, ⊎_elim, ℕ, ◌+◌, ◌<◌, ◌≤◌, ◌^◌, Bool, true, false, List, [], ◌∷◌, ◌++◌, length, None, Option, Err, refl, sym, ap, ◌∙◌, subst, arith, append-nil, length-append}
use Rattle.std.specs.Global.{Vec}
use Rattle.std.specs.Prelude.{Result, Ok, IfErr, IsErrOf}
use Rattle.std.specs.List.{Contains}
use Rattle.std.proofs.lemmas.Bool.{false≢true}
use Rattle.std.proofs.lemmas.List.{append_cancel_left}
use Rattle.std.proofs.lemmas.Option.{none-some}
use Rattle.std.proofs.lemmas.List.Elements.{All-push, Contains-append_left, Contains-push}
use Rattle.disk_trait.specs.Disk.{DiskView, Files}
use Rattle.metastore_index.specs.declared.entry.Entry.{Entry}
use Rattle.metastore_index.specs.Entries.{end_of}
use Rattle.profile_model.specs.declared.push.Push.{Push}
use Rattle.tenant_books.specs.declared.asks.PushAsk.{PushAsk}
use Rattle.tenant_books.specs.declared.verdict.Verdict.{Verdict}
use Rattle.tenant_books.specs.declared.verdict.Verdict.TheVariants.{Kept, FrontAhead, OverLimit}
use Rattle.tenant_books.specs.declared.verdict.Receipt.{Receipt}
use Rattle.tenant_books.specs.Keeping.{is_some_kept}
use Rattle.tenant_books.specs.Limits.{limit_of}
use Rattle.tenant_books.specs.Verdicts.{AreVerdicts, IsVerdict, kept_of}
use Rattle.tenant_books.proofs.KeptLemmas.{verdicts_kept}
use Rattle.history_files.specs.Keeps.{IsFront, Keeping, Start, most_pushes}
use Rattle.store_core.specs.declared.fault.SettleFault.{SettleFault}
use Rattle.store_core.specs.declared.fault.SettleFault.TheVariants.{Disk, Full, Memory}
use Rattle.store_core.specs.Store.{FlightView, IsFull, IsKeeping, Mends, StoreView, in_flight}
use Rattle.store_core.specs.Changes.{HasOneMore, HasSameIndex, IsMended, KeepsOn, TakesFlight}
use Rattle.store_core.specs.Settling.{FirstMended, IsDoubted, IsFullFor, IsSettled, MendFailed}
use Rattle.shared_store.specs.Holds.{HasKept, IsAtEnd, Run}
use Rattle.shared_store.specs.declared.refusal.Refusal.{Refusal}
use Rattle.shared_store.specs.declared.refusal.Refusal.TheVariants as refusals
use Rattle.shared_store.specs.Settled as settled
use Rattle.shared_store.proofs.TieLemmas.{kept_on}
use Rattle.shared_store.specs.Settled.{AreSettled, HaveVerdicts, SomeWouldBeKept}

-- ---- mends

mends_none : (history next : List Push) (flight : Option FlightView) → flight ≡ None → Mends history flight next → next ≡ history
mends_none history next flight none mends =
    ⊎_elim (λ same. same) (λ more. more ∙ ap (λ (f : Option FlightView). history ++ in_flight f) none ∙ append-nil history) mends

-- a mend that leaves in the air what was there leaves the history
pub mended_same : {D : Type 0} (old new : DiskView) (before after : StoreView D) (history next : List Push) → IsMended old new before after history next → after.flight ≡ before.flight → next ≡ history
mended_same old new before after history next it same =
    ⊎_elim (λ none. mends_none history next before.flight (sym same ∙ none) it.which) (λ both. both.0) it.flight

mended_none : {D : Type 0} (old new : DiskView) (before after : StoreView D) (history next : List Push) → before.flight ≡ None → IsMended old new before after history next → next ≡ history
mended_none old new before after history next none it = mends_none history next before.flight none it.which

-- ---- what is kept

-- one flight more
module _ (records : ℕ) (start : Start) (Few More : List Push → List Push → Type 0) (wider : (past flight : List Push) → Few past flight → More past flight) where
  front_wider : (faults : ℕ) (since : List Push) (image : Files) → IsFront records start Few faults since image → IsFront records start More faults since image
  front_wider faults since image it = record {
    front = it.front;
    back = it.back;
    flight = it.flight;
    is = it.is;
    risen = ⊎_elim (λ none. inl none) (λ both. inr (wider (start.history ++ it.front) it.flight both.0, both.1)) it.risen;
    stands = it.stands;
  }

  keeping_wider : (disk : DiskView) (history added : List Push) → Keeping records start Few disk history added → Keeping records start More disk history added
  keeping_wider disk history added it = record {
    keeps = record {
      since = it.keeps.since;
      counts = it.keeps.counts;
      rest = it.keeps.rest;
      begins = it.keeps.begins;
      each = λ image left. front_wider disk.faults it.keeps.rest image (it.keeps.each image left);
    };
    risen = ⊎_elim (λ none. inl none) (λ both. inr (wider history added both.0, both.1)) it.risen;
  }

more_flights : {D : Type 0} (start : Start) (flights : List (List Push × List Push)) (flight : List Push × List Push) (disk : DiskView) (store : StoreView D) (history : List Push)
    → IsKeeping start flights disk store history → IsKeeping start (flights ++ flight ∷ []) disk store history
more_flights start flights flight disk store history it = record {
  has = it.has;
  keeping = keeping_wider store.records start (λ past pushes. Contains flights (past, pushes)) (λ past pushes. Contains (flights ++ flight ∷ []) (past, pushes))
      (λ past pushes among. Contains-append_left flights (flight ∷ []) (past, pushes) among) disk history (in_flight store.flight) it.keeping;
}

-- ---- a settling where nothing is in the air

module _ {D : Type 0} (view : D → DiskView) (before after : StoreView D) (list : List Push) (lands : before.flight ≡ None) where
  -- that was mended first has still the history
  still : (Then : StoreView D → List Push → Type 0) (first : FirstMended view before list Then) → first.next ≡ list
  still Then first = mended_none (view before.disk) (view first.between.disk) before first.between list first.next lands first.mended

  failed_on : MendFailed view before after list → KeepsOn (view before.disk) (view after.disk) before after list list
  failed_on failed start flights keeps =
      subst (λ (l : List Push). IsKeeping start flights (view after.disk) after l)
      (mended_none (view before.disk) (view after.disk) before after list failed.next lands failed.mended) (failed.mended.keeps start flights keeps)

  module _ (asks : List PushAsk) where
    pub settled_on : (verdicts : List Verdict) (kept : List Push) → kept ≡ kept_of asks verdicts → FirstMended view before list (λ between next. IsSettled view between after next asks verdicts)
        → KeepsOn (view before.disk) (view after.disk) before after list (list ++ kept)
    settled_on verdicts kept is first start flights keeps =
        let it = first.follows in
        subst (λ (l : List Push). IsKeeping start flights (view after.disk) after l)
        (ap (λ (l : List Push). l ++ it.kept) (still (λ between next. IsSettled view between after next asks verdicts) first) ∙ ap (λ (l : List Push). list ++ l) (it.which ∙ sym is))
        (it.added.keeps start flights (first.mended.keeps start flights keeps))

    pub settled_judged : (run : Run) (verdicts : List Verdict) (kept : List Push) → before.limits ≡ run.limits → kept ≡ kept_of asks verdicts
        → FirstMended view before list (λ between next. IsSettled view between after next asks verdicts) → AreVerdicts (limit_of run.limits) list asks verdicts (list ++ kept)
    settled_judged run verdicts kept limits is first =
        let it = first.follows in
        let same = still (λ between next. IsSettled view between after next asks verdicts) first in
        let judged = subst (λ x. AreVerdicts (limit_of x) first.next asks verdicts (first.next ++ it.kept)) (first.limits ∙ limits) it.judged in
        subst (λ (l : List Push). AreVerdicts (limit_of run.limits) list asks verdicts (list ++ l)) (it.which ∙ sym is)
        (subst (λ (l : List Push). AreVerdicts (limit_of run.limits) l asks verdicts (l ++ it.kept)) same judged)

    pub full_on : FirstMended view before list (λ between next. (after ≡ between) × IsFullFor between next asks) → KeepsOn (view before.disk) (view after.disk) before after list list
    full_on first start flights keeps =
        let Then = λ (between : StoreView D) (next : List Push). (after ≡ between) × IsFullFor between next asks in
        let k = subst (λ (l : List Push). IsKeeping start flights (view first.between.disk) first.between l) (still Then first) (first.mended.keeps start flights keeps) in
        subst (λ (s : StoreView D). IsKeeping start flights (view s.disk) s list) (sym first.follows.0) k

    pub would_be_kept : (run : Run) → before.limits ≡ run.limits → FirstMended view before list (λ between next. (after ≡ between) × IsFullFor between next asks) → SomeWouldBeKept run list asks
    would_be_kept run limits first =
        let Then = λ (between : StoreView D) (next : List Push). (after ≡ between) × IsFullFor between next asks in
        let it = first.follows.1 in record {
          verdicts = it.verdicts;
          last = it.last;
          judged = subst (λ (l : List Push). AreVerdicts (limit_of run.limits) l asks it.verdicts it.last) (still Then first)
              (subst (λ x. AreVerdicts (limit_of x) first.next asks it.verdicts it.last) (first.limits ∙ limits) it.judged);
          some = it.some;
        }

    pub doubted_kept : (start : Start) → length asks ≤ most_pushes → MendFailed view before after list ⊎ FirstMended view before list (λ between next. IsDoubted view between after next asks)
        → HasKept start (view before.disk) before list → HasKept start (view after.disk) after list
    doubted_kept start few (inl failed) kept = record { flights = kept.flights; few = kept.few; keeps = failed_on failed start kept.flights kept.keeps }
    doubted_kept start few (inr first) kept =
        let it = first.follows in
        let flight : List Push × List Push = (first.next, it.kept) in
        let between = more_flights start kept.flights flight (view first.between.disk) first.between first.next (first.mended.keeps start kept.flights kept.keeps) in
        record {
          flights = kept.flights ++ flight ∷ [];
          few = All-push (λ (one : List Push × List Push). length one.1 ≤ most_pushes) kept.flights flight kept.few
              (few_kept (limit_of first.between.limits) first.next asks it.verdicts it.kept it.judged few);
          keeps = subst (λ (l : List Push). IsKeeping start (kept.flights ++ flight ∷ []) (view after.disk) after l) (still (λ between next. IsDoubted view between after next asks) first)
              (it.not_added.keeps start (kept.flights ++ flight ∷ []) (Contains-push kept.flights flight) between);
        }
      where
        kept_few : (xs : List PushAsk) (verdicts : List Verdict) → length (kept_of xs verdicts) ≤ length xs
        kept_few [] verdicts = omega arith
        kept_few (x ∷ xs) [] = omega arith
        kept_few (x ∷ xs) (Kept receipt ∷ verdicts) = omega (arith, kept_few xs verdicts)
        kept_few (x ∷ xs) (FrontAhead asked front ∷ verdicts) = omega (arith, kept_few xs verdicts)
        kept_few (x ∷ xs) (OverLimit held adds told front ∷ verdicts) = omega (arith, kept_few xs verdicts)

        few_kept : (limit : List ℕ → ℕ) (history : List Push) (xs : List PushAsk) (verdicts : List Verdict) (added : List Push) → AreVerdicts limit history xs verdicts (history ++ added) → length xs ≤ most_pushes
            → length added ≤ most_pushes
        few_kept limit history xs verdicts added are few =
            omega (arith, few, kept_few xs verdicts, ap length (verdicts_kept limit history xs verdicts (history ++ added) are), length-append history added, length-append history (kept_of xs verdicts))

  pub memory_on : MendFailed view before after list ⊎ FirstMended view before list (λ between next. after ≡ record between { index = record between.index { spare = after.index.spare } })
      → KeepsOn (view before.disk) (view after.disk) before after list list
  memory_on (inl failed) start flights keeps = failed_on failed start flights keeps
  memory_on (inr first) start flights keeps =
      let Then = λ (between : StoreView D) (next : List Push). after ≡ record between { index = record between.index { spare = after.index.spare } } in
      let k = subst (λ (l : List Push). IsKeeping start flights (view first.between.disk) first.between l) (still Then first) (first.mended.keeps start flights keeps) in
      subst (λ (s : StoreView D). IsKeeping start flights (view s.disk) s list) (sym first.follows) (record { has = k.has; keeping = k.keeping })

-- ---- where no further record can be taken

full_same : {D : Type 0} (before after : StoreView D) → HasSameIndex before after → after.records ≡ before.records → IsFull before → IsFull after
full_same before after same records full =
    ⊎_elim (λ counts. inl (omega (arith, counts, records, same.count)))
    (λ numbers. inr (⊎_elim (λ ids. inl (subst (λ (n : ℕ). 2 ^ 63 ≤ n + 1) (sym same.greatest) ids)) (λ ends. inr (subst (λ (es : List Entry). 2 ^ 63 < end_of es + 65) (sym same.entries) ends)) numbers)) full

full_more : {D : Type 0} (before after : StoreView D) (entry : Entry) → HasOneMore before after entry → entry.id ≡ before.index.greatest + 1 → after.records ≡ before.records
    → end_of before.index.entries ≤ end_of after.index.entries → IsFull before → IsFull after
full_more before after entry more id records ends full =
    ⊎_elim (λ counts. inl (omega (arith, counts, records, more.count)))
    (λ numbers. inr (⊎_elim (λ ids. inl (omega (arith, ids, more.greatest, id))) (λ last. inr (omega (arith, last, ends))) numbers)) full

-- no flight came where none was in the air
same_index : {D : Type 0} (before after : StoreView D) → before.flight ≡ None → TakesFlight before after → HasSameIndex before after
same_index before after lands taken = ⊎_elim (λ same. same) (λ some. absurd (none-some some.0 (sym lands ∙ some.1))) taken

module _ {D : Type 0} (view : D → DiskView) (before after : StoreView D) (list : List Push) (at_end : IsAtEnd before) (records : after.records ≡ before.records) where
  between_end : (Then : StoreView D → List Push → Type 0) (first : FirstMended view before list Then) → IsAtEnd first.between
  between_end Then first = record { full = full_same before first.between (same_index before first.between at_end.lands first.index) first.records at_end.full; lands = first.lands }

  failed_end : MendFailed view before after list → IsAtEnd after
  failed_end failed = record {
    full = full_same before after (same_index before after at_end.lands failed.index) records at_end.full;
    lands = ⊎_elim (λ none. none) (λ both. both.1 ∙ at_end.lands) failed.mended.flight;
  }

  module _ (asks : List PushAsk) where
    pub settled_end : (verdicts : List Verdict) → after.flight ≡ None → end_of before.index.entries ≤ end_of after.index.entries
        → FirstMended view before list (λ between next. IsSettled view between after next asks verdicts) → IsAtEnd after
    settled_end verdicts lands ends first =
        let Then = λ (between : StoreView D) (next : List Push). IsSettled view between after next asks verdicts in
        let between = between_end Then first in
        let same = same_index before first.between at_end.lands first.index in record {
          full = ⊎_elim (λ none. subst (λ (s : StoreView D). IsFull s) (sym none.1) between.full)
              (λ one. full_more first.between after one.0 one.2 one.1.id (records ∙ sym first.records) (omega (arith, ends, ap end_of same.entries)) between.full) first.follows.entry;
          lands = lands;
        }

    -- what was full keeps nothing
    pub none_at_end : (verdicts : List Verdict) (kept : List Push) → kept ≡ kept_of asks verdicts → FirstMended view before list (λ between next. IsSettled view between after next asks verdicts) → kept ≡ []
    none_at_end verdicts kept is first = by (is_some_kept verdicts) refl
      where
        none_of : (xs : List PushAsk) (vs : List Verdict) → is_some_kept vs ≡ false → kept_of xs vs ≡ []
        none_of [] vs none = refl
        none_of (x ∷ xs) [] none = refl
        none_of (x ∷ xs) (Kept receipt ∷ vs) none = absurd (false≢true (sym none))
        none_of (x ∷ xs) (FrontAhead asked front ∷ vs) none = none_of xs vs none
        none_of (x ∷ xs) (OverLimit held adds told front ∷ vs) none = none_of xs vs none

        by : (b : Bool) → is_some_kept verdicts ≡ b → kept ≡ []
        by true some = absurd (first.follows.room some (between_end (λ between next. IsSettled view between after next asks verdicts) first).full)
        by false none = is ∙ none_of asks verdicts none

    pub full_end : FirstMended view before list (λ between next. (after ≡ between) × IsFullFor between next asks) → IsAtEnd after
    full_end first = subst (λ (s : StoreView D). IsAtEnd s) (sym first.follows.0) (between_end (λ between next. (after ≡ between) × IsFullFor between next asks) first)

    pub doubted_end : MendFailed view before after list ⊎ FirstMended view before list (λ between next. IsDoubted view between after next asks) → IsAtEnd after
    doubted_end (inl failed) = failed_end failed
    doubted_end (inr first) = absurd (first.follows.room (between_end (λ between next. IsDoubted view between after next asks) first).full)

  pub memory_end : MendFailed view before after list ⊎ FirstMended view before list (λ between next. after ≡ record between { index = record between.index { spare = after.index.spare } }) → IsAtEnd after
  memory_end (inl failed) = failed_end failed
  memory_end (inr first) =
      let between = between_end (λ between next. after ≡ record between { index = record between.index { spare = after.index.spare } }) first in
      subst (λ (s : StoreView D). IsAtEnd s) (sym first.follows) (record { full = between.full; lands = between.lands })

-- the index was found full
pub found_end : {D : Type 0} (view : D → DiskView) (before after : StoreView D) (list : List Push) (asks : List PushAsk) → IsFull after
    → FirstMended view before list (λ between next. (after ≡ between) × IsFullFor between next asks) → IsAtEnd after
found_end view before after list asks full first = record { full = full; lands = ap (λ s. s.flight) first.follows.0 ∙ first.lands }

-- ---- a settling that was refused

pub same_err : {X E : Type 0} (fault other : E) → IsErrOf {T = X} (Err fault) other → fault ≡ other
same_err fault other is = cc

-- what a refusal tells of the store, whichever it is
pub record WasRefused {D : Type 0} (view : D → DiskView) (before after : StoreView D) (list : List Push) (asks : List PushAsk) (fault : SettleFault) : Type 0 where
  pub memory : fault ≡ Memory
      → MendFailed view before after list ⊎ FirstMended view before list (λ between next. after ≡ record between { index = record between.index { spare = after.index.spare } })
  pub full : (records : ℕ) (back : Vec PushAsk) → fault ≡ Full records back → FirstMended view before list (λ between next. (after ≡ between) × IsFullFor between next asks)
  pub disk : (count : ℕ) → fault ≡ Disk count → MendFailed view before after list ⊎ FirstMended view before list (λ between next. IsDoubted view between after next asks)

pub refused_kept : {D : Type 0} (view : D → DiskView) (before after : StoreView D) (list : List Push) (asks : List PushAsk) (fault : SettleFault) (start : Start) → before.flight ≡ None → length asks ≤ most_pushes
    → WasRefused view before after list asks fault → HasKept start (view before.disk) before list → HasKept start (view after.disk) after list
refused_kept view before after list asks Memory start lands few was kept =
    kept_on start (view before.disk) (view after.disk) before after list list (memory_on view before after list lands (was.memory refl)) kept
refused_kept view before after list asks (Full records back) start lands few was kept =
    kept_on start (view before.disk) (view after.disk) before after list list (full_on view before after list lands asks (was.full records back refl)) kept
refused_kept view before after list asks (Disk count) start lands few was kept = doubted_kept view before after list lands asks start few (was.disk count refl) kept

pub refused_end : {D : Type 0} (view : D → DiskView) (before after : StoreView D) (list : List Push) (asks : List PushAsk) (fault : SettleFault) → after.records ≡ before.records
    → WasRefused view before after list asks fault → IsAtEnd before → IsAtEnd after
refused_end view before after list asks Memory records was at_end = memory_end view before after list at_end records (was.memory refl)
refused_end view before after list asks (Full told back) records was at_end = full_end view before after list at_end records asks (was.full told back refl)
refused_end view before after list asks (Disk count) records was at_end = doubted_end view before after list at_end records asks (was.disk count refl)

-- ---- what is in the air without a verdict

-- where nothing was in the air
pub refused_left : {D : Type 0} (view : D → DiskView) (before after : StoreView D) (list : List Push) (asks : List PushAsk) (fault : SettleFault) (run : Run) → before.flight ≡ None → before.limits ≡ run.limits
    → WasRefused view before after list asks fault → settled.AreLeft run before.flight list asks fault after.flight list
refused_left {D} view before after list asks fault run lands limits was = by fault was
  where
    nothing : (left : Option FlightView) → left ≡ None → in_flight left ≡ []
    nothing left none = ap in_flight none

    failed : (f : SettleFault) → MendFailed view before after list → settled.AreLeft run before.flight list asks f after.flight list
    failed f it = inl (nothing after.flight (⊎_elim (λ none. none) (λ both. both.1 ∙ lands) it.mended.flight))

    by : (f : SettleFault) → WasRefused view before after list asks f → settled.AreLeft run before.flight list asks f after.flight list
    by Memory it =
        ⊎_elim (λ no. failed Memory no) (λ first. inl (nothing after.flight (ap (λ (s : StoreView D). s.flight) first.follows ∙ first.lands))) (it.memory refl)
    by (Full records back) it =
        let first = it.full records back refl in inl (nothing after.flight (ap (λ (s : StoreView D). s.flight) first.follows.0 ∙ first.lands))
    by (Disk count) it = ⊎_elim (λ no. failed (Disk count) no) (λ first. doubted count first) (it.disk count refl)
      where
        doubted : (count : ℕ) → FirstMended view before list (λ between next. IsDoubted view between after next asks) → settled.AreLeft run before.flight list asks (Disk count) after.flight list
        doubted count first =
            let them = first.follows in
            let same = still view before after list lands (λ between next. IsDoubted view between after next asks) first in
            let judged = subst (λ (l : List Push). AreVerdicts (limit_of run.limits) l asks them.verdicts (l ++ them.kept)) same
            (subst (λ x. AreVerdicts (limit_of x) first.next asks them.verdicts (first.next ++ them.kept)) (first.limits ∙ limits) them.judged) in
            ⊎_elim (λ none. inl none)
            (λ all. inr (inr ((count, refl), (them.verdicts, subst (λ (p : List Push). AreVerdicts (limit_of run.limits) list asks them.verdicts (list ++ p)) (sym all) judged))))
            them.not_added.flight

-- where what was in the air was decided before
pub decided_left : {T : Type 0} (run : Run) (first flight left : Option FlightView) (old mid new : List Push) (asks : List PushAsk) (r : Result T SettleFault) → flight ≡ None
    → IfErr r (λ why. settled.AreLeft run flight mid asks why left new) → IfErr r (λ why. settled.AreLeft run first old asks why left new)
decided_left run first flight left old mid new asks (Ok told) lands it = it
decided_left run first flight left old mid new asks (Err why) lands it =
    ⊎_elim (λ none. inl none) (λ more. ⊎_elim (λ stays. inl (ap in_flight (stays.0 ∙ lands))) (λ doubted. inr (inr doubted)) more) it

-- of one push
pub one_left : (run : Run) (flight left : Option FlightView) (old new : List Push) (ask : PushAsk) (fault : SettleFault) (refusal : Refusal)
    → ((count : ℕ) → fault ≡ Disk count → refusal ≡ refusals.Disk count) → settled.AreLeft run flight old (ask ∷ []) fault left new → settled.IsLeft flight old ask.push refusal left new
one_left run flight left old new ask fault refusal same it =
    ⊎_elim (λ none. inl none) (λ more. ⊎_elim (λ stays. inr (inl stays)) (λ doubted. by (one doubted.1.0 doubted.1.1) doubted.0) more) it
  where
    one : (verdicts : List Verdict) → AreVerdicts (limit_of run.limits) new (ask ∷ []) verdicts (new ++ in_flight left) → (in_flight left ≡ []) ⊎ (in_flight left ≡ ask.push ∷ [])
    one verdicts are = kept verdicts (append_cancel_left new (in_flight left) (kept_of (ask ∷ []) verdicts) (verdicts_kept (limit_of run.limits) new (ask ∷ []) verdicts (new ++ in_flight left) are))
      where
        kept : (told : List Verdict) → in_flight left ≡ kept_of (ask ∷ []) told → (in_flight left ≡ []) ⊎ (in_flight left ≡ ask.push ∷ [])
        kept [] is = inl is
        kept (Kept receipt ∷ told) is = inr is
        kept (FrontAhead asked front ∷ told) is = inl is
        kept (OverLimit held adds limit front ∷ told) is = inl is

    by : (in_flight left ≡ []) ⊎ (in_flight left ≡ ask.push ∷ []) → ((count : ℕ) × (fault ≡ Disk count)) → settled.IsLeft flight old ask.push refusal left new
    by (inl none) disk = inl none
    by (inr push) disk = inr (inr ((disk.0, same disk.0 disk.1), push))

-- ---- one push

pub one_would_be : (run : Run) (history : List Push) (ask : PushAsk) (records : ℕ) → records ≡ run.records → (run.tells → SomeWouldBeKept run history (ask ∷ [])) → settled.IsFullFor run history ask records
one_would_be run history ask records is some = record { records_is = is; would_be = λ t. by (some t).verdicts (some t).last (some t).judged (some t).some }
  where
    by : (verdicts : List Verdict) (last : List Push) → AreVerdicts (limit_of run.limits) history (ask ∷ []) verdicts last → is_some_kept verdicts ≡ true
        → (receipt : Receipt) × IsVerdict (limit_of run.limits) history ask (Kept receipt)
    by [] last are kept = absurd are
    by (Kept receipt ∷ []) last are kept = (receipt, are.0)
    by (FrontAhead asked front ∷ []) last are kept = absurd (false≢true kept)
    by (OverLimit held adds told front ∷ []) last are kept = absurd (false≢true kept)
    by (first ∷ second ∷ more) last are kept = absurd are.1

pub same_records : {T : Type 0} (told other : ℕ) → IsErrOf {T = T} (Err (refusals.Full told)) (refusals.Full other) → told ≡ other
same_records told other is = cc
