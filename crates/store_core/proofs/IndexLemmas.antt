-- What comes to a store's index.
use Rattle.std.proofs.Common.{◌≡◌, ◌⊎◌, inl, inr, ⊎_elim, ℕ, ◌+◌, ◌<◌, ◌^◌, List, length, Some, Option, None, [], refl, sym, ◌∙◌, ap, subst, arith}
use Rattle.metastore_index.specs.declared.entry.Entry.{Entry}
use Rattle.faults.specs.declared.refused.Refused.{Refused}
use Rattle.faults.specs.declared.refused.Refused.TheVariants.{Fault, Memory}
use Rattle.metastore_index.specs.declared.fault.ApplyFault.{ApplyFault}
use Rattle.metastore_index.specs.declared.fault.ApplyFault.TheVariants.{NotARun}
use Rattle.metastore_index.specs.Entries.{Becomes, IndexView, IsTaken, end_of}
use Rattle.metastore_index.proofs.EndLemmas.{end_moves}
use Rattle.profile_model.specs.declared.push.Push.{Push}
use Rattle.store_core.specs.Store.{FlightView, IsBehind, StoreView, in_flight}
use Rattle.store_core.specs.Changes.{EndsWithFlight, HasOneMore, HasSameIndex, IsNextEntry, TakesFlight}
use Rattle.store_core.proofs.RoomLemmas.{roomy}

pub same_index : {D : Type 0} (before after : StoreView D) → after.index ≡ before.index → after.count ≡ before.count → HasSameIndex before after
same_index before after index count = record { entries = ap (λ (i : IndexView). i.entries) index; greatest = ap (λ (i : IndexView). i.greatest) index; count = count }

-- by way of an index where room was made
module _ {D : Type 0} (before after : StoreView D) (made : IndexView) (same : made ≡ roomy before.index made.spare) where
  pub one_more_put : (entry : Entry) → Becomes made.entries entry after.index.entries × (after.index.greatest ≡ entry.id) × (after.count ≡ before.count + 1) → HasOneMore before after entry
  one_more_put entry taken = record {
    becomes = subst (λ (es : List Entry). Becomes es entry after.index.entries) (ap (λ (i : IndexView). i.entries) same) taken.0;
    greatest = taken.1;
    count = taken.2;
  }

  pub same_put : after.index ≡ made → after.count ≡ before.count → HasSameIndex before after
  same_put index count = record {
    entries = ap (λ (i : IndexView). i.entries) (index ∙ same);
    greatest = ap (λ (i : IndexView). i.greatest) (index ∙ same);
    count = count;
  }

-- where the numbers end once some of the flight's pushes came, all or none
pub ends_with : {D : Type 0} (store : StoreView D) (came : List Push) (end : ℕ) → (came ≡ []) ⊎ (came ≡ in_flight store.flight)
    → end ≡ end_of store.index.entries + length came → EndsWithFlight store end
ends_with store came end which is = ⊎_elim
    (λ none. let short = ap (length {A = Push}) none in inl (omega arith))
    (λ all. inr (is ∙ ap (λ (pushes : List Push). end_of store.index.entries + length pushes) all))
    which

-- with nothing in the air they end where they did
pub lands_at : {D : Type 0} (store : StoreView D) (end : ℕ) → store.flight ≡ None → EndsWithFlight store end → end ≡ end_of store.index.entries
lands_at store end none which = ⊎_elim
    (λ same. same)
    (λ all. let short = ap (λ flight. length (in_flight flight)) none in omega arith)
    which

pub takes_same : {D : Type 0} (before between after : StoreView D) → TakesFlight before between → HasSameIndex between after → TakesFlight before after
takes_same before between after takes same = ⊎_elim
    (λ was. inl (record { entries = same.entries ∙ was.entries; greatest = same.greatest ∙ was.greatest; count = same.count ∙ was.count }))
    (λ more. inr (
      more.0,
      more.1,
      record {
        becomes = subst (λ (es : List Entry). Becomes before.index.entries more.0.entry es) (sym same.entries) more.2.becomes;
        greatest = same.greatest ∙ more.2.greatest;
        count = same.count ∙ more.2.count;
      },
    ))
    takes

-- what was found out of the flight's entry
pub takes_of : {D : Type 0} (before after : StoreView D) (flight : FlightView) → before.flight ≡ Some flight
    → (((after.index.entries ≡ before.index.entries) × (after.index.greatest ≡ before.index.greatest) × (after.count ≡ before.count))
    ⊎ (Becomes before.index.entries flight.entry after.index.entries × (after.index.greatest ≡ flight.entry.id) × (after.count ≡ before.count + 1)))
    → TakesFlight before after
takes_of before after flight there took = ⊎_elim
    (λ same. inl (record { entries = same.0; greatest = same.1; count = same.2 }))
    (λ more. inr (flight, there, record { becomes = more.0; greatest = more.1; count = more.2 }))
    took

-- an entry that is taken is so with more room
pub taken_room : (index made : IndexView) → made ≡ roomy index made.spare → (entry : Entry) → IsTaken index entry → IsTaken made entry
taken_room index made same entry taken = subst (λ (i : IndexView). IsTaken i entry) (sym same) (record { later = taken.later; bounded = taken.bounded; fits = taken.fits })

-- ---- where the pushes end

-- behind an entry that follows them
pub ends_behind : (entries next : List Entry) (flight : FlightView) → IsBehind entries flight → Becomes entries flight.entry next → end_of next ≡ end_of entries + length flight.pushes
ends_behind entries next flight behind becomes =
    omega (arith, ((end_moves entries flight.entry next becomes).0 behind.level).1, behind.until, behind.from)

pub ends_short : (entries next : List Entry) (flight : FlightView) → IsBehind entries flight → Becomes entries flight.entry next → end_of next < 2 ^ 63
ends_short entries next flight behind becomes =
    omega (arith, ((end_moves entries flight.entry next becomes).0 behind.level).1, behind.short)

pub ends_next : {D : Type 0} (before after : StoreView D) (pushes : List Push) (entry : Entry) → IsNextEntry before pushes entry → HasOneMore before after entry
    → end_of after.index.entries ≡ end_of before.index.entries + length pushes
ends_next before after pushes entry next more =
    omega (arith, ((end_moves before.index.entries entry after.index.entries more.becomes).0 next.level).1, next.until)

-- where room was made
module _ (index made : IndexView) (same : made ≡ roomy index made.spare) where
  pub short_made : end_of index.entries < 2 ^ 63 → end_of made.entries < 2 ^ 63
  short_made short = subst (λ (i : IndexView). end_of i.entries < 2 ^ 63) (sym same) short

  pub behind_made : (flight : FlightView) → IsBehind index.entries flight → IsBehind made.entries flight
  behind_made flight behind = subst (λ (i : IndexView). IsBehind i.entries flight) (sym same) behind

-- no fault is left, where an entry is taken and there is room for it
pub never_refused : (fault : Refused ApplyFault) → (fault ≡ Fault NotARun → ⊥) → (fault ≡ Memory → ⊥) → ⊥
never_refused (Fault NotARun) refused memory = refused refl
never_refused Memory refused memory = memory refl
