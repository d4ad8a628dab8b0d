-- An index with more room is the same index.
use Rattle.std.proofs.Common.{◌≡◌, inl, inr, ℕ, suc, ◌+◌, ◌^◌, ◌<◌, ◌≤◌, List, [], ◌∷◌, ◌++◌, length, get_or, Bool, Option, Some, None, Result, Ok, Err, refl, sym, ◌∙◌, ap, subst, arith, All}
use Rattle.std.specs.Prelude.{OnOk, OnErr, IsErrOf}
use Rattle.disk_trait.specs.Disk.{DiskView, Tells}
use Rattle.faults.specs.declared.refused.Refused.{Refused}
use Rattle.faults.specs.declared.refused.Refused.TheVariants.{Fault, Memory}
use Rattle.gate_journal.specs.Journal.{JournalView, list_of}
use Rattle.metastore_index.specs.declared.entry.Entry.{Entry}
use Rattle.metastore_index.specs.declared.fault.ApplyFault.{ApplyFault}
use Rattle.metastore_index.specs.declared.fault.ApplyFault.TheVariants.{NotARun}
use Rattle.metastore_index.specs.Entries.{Becomes, HasPlace, IndexView, IsTaken, end_of}
use Rattle.metastore_index.specs.Entries.Becomes.{follows, stands}
use Rattle.metastore_index.specs.Taken.{ComesFrom, Takes, nothing}
use Rattle.metastore_index.proofs.TakenLemmas.{live_ones_were_taken}
use Rattle.profile_model.specs.declared.push.Push.{Push}
use Rattle.tenant_books.specs.Books.{AreBooksOf, BooksView, standing_in}
use Rattle.push_history.specs.declared.kept.Standing.{Standing}
use Rattle.history_files.specs.History.{IsBounded, Lists}
use Rattle.history_files.specs.Standing.{Holds, IsAtRest, IsInFlight}
use Rattle.history_files.proofs.HeldLemmas.{length_held}
use Rattle.history_files.proofs.StandLemmas.{lists_divide, lists_push}
use Rattle.store_core.specs.Store.{FlightView, IsKept, StandsWith}

abbrev pub roomy : IndexView → ℕ → IndexView
roomy index spare = record { entries = index.entries; greatest = index.greatest; spare = spare }

comes_room : (index : IndexView) (taken : List Entry) (last : IndexView) (spare : ℕ) → ComesFrom index taken last → ComesFrom index taken (roomy last spare)
comes_room index [] last spare comes = comes
comes_room index (entry ∷ later) last spare comes = (comes.0, comes.1, comes_room comes.0 later last spare comes.2)

lists_room : (bodies : List (List ℕ)) (index : IndexView) (spare : ℕ) → Lists bodies index → Lists bodies (roomy index spare)
lists_room bodies index spare lists = record { taken = lists.taken; read = lists.read; bounded = lists.bounded; comes = comes_room nothing lists.taken index spare lists.comes }

module _ (disk : DiskView) (journal : JournalView) (index : IndexView) (spare : ℕ) (history : List Push) where
  holds_room : Holds disk journal index history → Holds disk journal (roomy index spare) history
  holds_room it = record { file = it.file; within = it.within; lists = lists_room (list_of disk journal) index spare it.lists; held = it.held; totals = it.totals }

  pub rests_room : IsAtRest disk journal index history → IsAtRest disk journal (roomy index spare) history
  rests_room it = record { holds = holds_room it.holds; settled = it.settled }

  pub flies_room : (entry : Entry) (added : List Push) → IsInFlight disk journal index entry history added → IsInFlight disk journal (roomy index spare) entry history added
  flies_room entry added it = record {
    holds = holds_room it.holds;
    room = it.room;
    body = it.body;
    reads = it.reads;
    bounded = it.bounded;
    unsettled = it.unsettled;
    later = it.later;
    takes = record { taken = record { later = it.takes.taken.later; bounded = it.takes.taken.bounded; fits = it.takes.taken.fits }; becomes = it.takes.becomes; greatest = it.takes.greatest };
    held = it.held;
    totals = it.totals;
  }

  state_room : (flight : Option FlightView) → StandsWith disk journal index flight history → StandsWith disk journal (roomy index spare) flight history
  state_room None it = rests_room it
  state_room (Some flight) it = flies_room flight.entry flight.pushes it

  -- what a store keeps it keeps where room was made
  pub kept_room : (flight : Option FlightView) (books room : BooksView) (sure : Bool) → IsKept disk journal index flight books sure history → AreBooksOf room history
      → IsKept disk journal (roomy index spare) flight room sure history
  kept_room flight books room sure kept booked = record { state = state_room flight kept.state; booked = booked; none = kept.none }

-- ---- where the pushes end

end_short : (xs : List Entry) → All IsBounded xs → end_of xs < 2 ^ 63
end_short [] bounded = omega arith
end_short (x ∷ []) bounded = (bounded 0 x (omega arith)).until
end_short (x ∷ y ∷ more) bounded = end_short (y ∷ more) (λ k d within. bounded (suc k) d (omega (arith, within)))

-- the entries that are listed end below 2^63
pub lists_short : (bodies : List (List ℕ)) (index : IndexView) → Lists bodies index → end_of index.entries < 2 ^ 63
lists_short bodies index lists = end_short index.entries (λ k d within.
    let among = live_ones_were_taken lists.taken index lists.comes k d within in
    subst IsBounded among.2 (lists.bounded among.0 (get_or index.entries k d) among.1))

-- and so does a history with a flight behind it
pub flight_short : (disk : DiskView) (journal : JournalView) (index : IndexView) (entry : Entry) (history added : List Push) → Tells disk → IsInFlight disk journal index entry history added
    → length (history ++ added) < 2 ^ 63
flight_short disk journal index entry history added tells it =
    let bodies = list_of disk journal ++ it.body ∷ [] in
    let lists : Lists bodies it.later = lists_push (list_of disk journal) it.body index it.later entry it.holds.lists it.reads it.bounded it.takes in
    let long : length (history ++ added) ≡ end_of it.later.entries = length_held disk.files it.later.entries (history ++ added) (lists_divide bodies it.later lists).divide (it.held disk.files (disk.as_read tells)) in
    omega (arith, long, lists_short bodies it.later lists)

-- ---- an entry that is taken

-- is taken, with room
pub applied : {P : Type 0} (r : Result (Unit {0}) (Refused ApplyFault)) → OnOk r P → (IsErrOf r (Fault NotARun) → ⊥) → (IsErrOf r Memory → ⊥) → P
applied (Ok u) ok refused memory = ok
applied (Err (Fault NotARun)) ok refused memory = absurd (refused refl)
applied (Err Memory) ok refused memory = absurd (memory refl)

becomes_some : (entries : List Entry) (entry : Entry) → HasPlace entries entry → (next : List Entry) × Becomes entries entry next
becomes_some entries entry (inl place) = (entries ++ entry ∷ [], follows place refl)
becomes_some entries entry (inr place) =
    let run = place.1 in
    (run.0 ++ entry ∷ run.2, stands run.0 run.1 run.2 run.3 place.0 run.4 refl)

-- leaves an index
pub takes_some : (index : IndexView) (entry : Entry) → IsTaken index entry → (later : IndexView) × Takes index entry later
takes_some index entry taken =
    let next = becomes_some index.entries entry taken.fits in
    (record { entries = next.0; greatest = entry.id; spare = 0 }, record { taken = taken; becomes = next.1; greatest = refl })

pub on_err : {A E : Type 0} {P : Type 0} (r : Result A E) → P → OnErr r P
on_err (Ok a) holds = tt
on_err (Err e) holds = holds

-- an index where room was made
pub kept_made : (disk : DiskView) (journal : JournalView) (index made : IndexView) → made ≡ roomy index made.spare → (history : List Push) (flight : Option FlightView) (books room : BooksView) (sure : Bool)
    → IsKept disk journal index flight books sure history → AreBooksOf room history → IsKept disk journal made flight room sure history
kept_made disk journal index made same history flight books room sure kept booked =
    subst (λ (i : IndexView). IsKept disk journal i flight room sure history) (sym same) (kept_room disk journal index made.spare history flight books room sure kept booked)

-- the same books, by what they say of each tenant
pub books_alike : (one other : BooksView) (history : List Push) → ((tenant : List ℕ) → standing_in other tenant ≡ standing_in one tenant) → AreBooksOf one history → AreBooksOf other history
books_alike one other history same are = record {
  front = λ tenant. ap (λ (s : Standing). s.front) (same tenant) ∙ are.front tenant;
  total = λ tenant. ap (λ (s : Standing). s.total) (same tenant) ∙ are.total tenant;
}
