-- What is read of a store's objects, and what a look at the disk leaves of the store.
use Rattle.std.proofs.Common.{◌≡◌, inl, inr, ℕ, zero, suc, ◌+◌, ◌-◌, ◌<◌, ◌≤◌, min, List, [], ◌∷◌, ◌++◌, length, take, drop, get_or, filter, Bool, ◌&&◌, cond, Option, Some, None, Err, refl, sym, ◌∙◌, ap, subst, arith, append-nil, false}
use Rattle.std.specs.Prelude.{nat_le, nat_lt, IsErrOf}
use Rattle.std.specs.List.{enumerate_from, flat_map}
use Rattle.std.proofs.lemmas.Bool.{and_left, and_right}
use Rattle.std.proofs.lemmas.List.{drop_at, length-drop, length-take, length-take-le, take-append-drop, take_at}
use Rattle.std.proofs.lemmas.List.Elements.{filter-append}
use Rattle.disk_trait.specs.declared.disk.FileId.TheVariants.{Object}
use Rattle.disk_trait.specs.Disk.{Files, DiskView, GoesOn, Looks, Tells}
use Rattle.gate_journal.specs.Journal.{JournalView, list_of}
use Rattle.gate_journal.proofs.Appending.{unsettled_still}
use Rattle.metastore_index.specs.declared.entry.Entry.{Entry}
use Rattle.metastore_index.specs.Entries.{Covers, DivideFrom, IndexView}
use Rattle.metastore_index.proofs.DivideLemmas.{DivideFrom-first, DivideFrom-second, end_of-from}
use Rattle.profile_model.specs.declared.part_ask.PartAsk.{PartAsk}
use Rattle.profile_model.specs.declared.push.Push.{Push}
use Rattle.segment_file.specs.Objects.{ObjectView}
use Rattle.segment_file.specs.Parts.{PartView, is_of, is_within, part_of, pushes_between, rows_of_push}
use Rattle.tenant_books.specs.Books.{BooksView}
use Rattle.history_files.specs.History.{AreHeld, IsObjectOf}
use Rattle.history_files.specs.Keeps.{StandForEither}
use Rattle.history_files.specs.Standing.{Describes}
use Rattle.history_files.proofs.HeldLemmas.{held_first, held_split, length_held, one_object}
use Rattle.history_files.proofs.RestLemmas.{flies_still, rests_still}
use Rattle.history_files.proofs.StandLemmas.{lists_divide}
use Rattle.store_core.specs.declared.fault.ReadFault.TheVariants.{Damaged}
use Rattle.store_core.specs.Store.{FlightView, HasHistory, Invariant, IsKept, StandsWith, StoreView, in_flight}
use Rattle.store_core.specs.Changes.{KeepsOn}
use Rattle.history_files.proofs.SpareLemmas.{loses_look}
use Rattle.store_core.specs.Reading.{IsHeldAt}
use Rattle.store_core.proofs.KeptLemmas.{holds_of, images_as, kept_at, kept_reads}
use Rattle.store_core.proofs.StoreLemmas.{is_mended, still_leads}

-- ---- elements with their numbers, in a window of these

enumerate-append : {X : Type 0} (lo : ℕ) (xs ys : List X) → enumerate_from lo (xs ++ ys) ≡ enumerate_from lo xs ++ enumerate_from (lo + length xs) ys
enumerate-append lo [] ys = ap (λ (n : ℕ). enumerate_from n ys) (omega arith)
enumerate-append lo (x ∷ xs) ys =
    let next : lo + 1 + length xs ≡ lo + length (x ∷ xs) = omega arith in
    ap (λ l. (lo, x) ∷ l) (enumerate-append (lo + 1) xs ys ∙ ap (λ (n : ℕ). enumerate_from (lo + 1) xs ++ enumerate_from n ys) next)

-- whether the number is in the window
abbrev pub is_in : {X : Type 0} → ℕ → ℕ → ℕ × X → Bool
is_in from until numbered = nat_le from numbered.0 && nat_lt numbered.0 until

-- those in the window, of elements that are numbered from lo on
abbrev pub between : {X : Type 0} → ℕ → List X → ℕ → ℕ → List (ℕ × X)
between lo xs from until = filter (is_in from until) (enumerate_from lo xs)

-- of two lists, one behind the other
pub between-append : {X : Type 0} (lo : ℕ) (xs ys : List X) (from until : ℕ) → between lo (xs ++ ys) from until ≡ between lo xs from until ++ between (lo + length xs) ys from until
between-append lo xs ys from until =
    ap (filter (is_in from until)) (enumerate-append lo xs ys) ∙ filter-append (is_in from until) (enumerate_from lo xs) (enumerate_from (lo + length xs) ys)

-- none of them, where they end before it
pub between_before : {X : Type 0} (lo : ℕ) (xs : List X) (from until : ℕ) → lo + length xs ≤ from → between lo xs from until ≡ []
between_before lo [] from until ends = refl
between_before lo (x ∷ xs) from until ends =
    let out : nat_le from lo ≡ false = grind arith in
    ap (λ b. cond b ((lo, x) ∷ between (lo + 1) xs from until) (between (lo + 1) xs from until)) (and_left (nat_le from lo) (nat_lt lo until) out)
    ∙ between_before (lo + 1) xs from until (omega (arith, ends))

-- or begin behind it
pub between_behind : {X : Type 0} (lo : ℕ) (xs : List X) (from until : ℕ) → until ≤ lo → between lo xs from until ≡ []
between_behind lo [] from until begins = refl
between_behind lo (x ∷ xs) from until begins =
    let out : nat_lt lo until ≡ false = grind arith in
    ap (λ b. cond b ((lo, x) ∷ between (lo + 1) xs from until) (between (lo + 1) xs from until)) (and_right (nat_le from lo) (nat_lt lo until) out)
    ∙ between_behind (lo + 1) xs from until (omega (arith, begins))

-- and the same, where it ends with them
pub between_until : {X : Type 0} (lo : ℕ) (xs : List X) (from until last : ℕ) → lo + length xs ≤ last → between lo xs from (min until last) ≡ between lo xs from until
between_until lo [] from until last ends = refl
between_until lo (x ∷ xs) from until last ends =
    let same : nat_lt lo (min until last) ≡ nat_lt lo until = grind arith in
    ap (λ b. cond (nat_le from lo && b) ((lo, x) ∷ between (lo + 1) xs from (min until last)) (between (lo + 1) xs from (min until last))) same
    ∙ ap (λ l. cond (is_in from until (lo, x)) ((lo, x) ∷ l) l) (between_until (lo + 1) xs from until last (omega (arith, ends)))

-- A stretch of a list, in a window that begins in it, is all that the window up to its end has of the list.
module _ {X : Type 0} (xs : List X) (lo hi from until : ℕ) (begins : lo ≤ from) (ends : from < hi) (within : hi ≤ length xs) where
  abbrev stretch : List X
  stretch = take (hi - lo) (drop lo xs)

  abbrev behind : List X
  behind = drop (hi - lo) (drop lo xs)

  long : length stretch ≡ hi - lo
  long = length-take-le (hi - lo) (drop lo xs) (omega (arith, length-drop lo xs, within, begins, ends))

  whole : take lo xs ++ (stretch ++ behind) ≡ xs
  whole = ap (λ (l : List X). take lo xs ++ l) (take-append-drop (hi - lo) (drop lo xs)) ∙ take-append-drop lo xs

  pub between_stretch : between lo stretch from until ≡ between 0 xs from (min until hi)
  between_stretch =
      let last = min until hi in
      let before : 0 + length (take lo xs) ≡ lo = omega (arith, length-take-le lo xs (omega (arith, within, begins, ends))) in
      let first : between 0 (take lo xs) from last ≡ [] = between_before 0 (take lo xs) from last (omega (arith, before, begins)) in
      let past : between (lo + length stretch) behind from last ≡ [] = between_behind (lo + length stretch) behind from last (omega (arith, long, begins, ends)) in
      let mine : between lo stretch from last ≡ between lo stretch from until = between_until lo stretch from until hi (omega (arith, long, begins, ends)) in
      sym (ap (λ (l : List X). between 0 l from last) (sym whole)
      ∙ between-append 0 (take lo xs) (stretch ++ behind) from last
      ∙ ap (λ l. l ++ between (0 + length (take lo xs)) (stretch ++ behind) from last) first
      ∙ ap (λ (n : ℕ). between n (stretch ++ behind) from last) before
      ∙ between-append lo stretch behind from last
      ∙ ap (λ l. between lo stretch from last ++ l) past
      ∙ append-nil (between lo stretch from last)
      ∙ mine)

-- ---- parts

-- what an ask finds in these pushes, each with its number
abbrev found : PartAsk → ℕ → ℕ → List (ℕ × Push) → PartView
found ask from until pushes = record { from = from; until = until; rows = filter (is_within ask) (flat_map rows_of_push (filter (is_of ask.tenant) pushes)) }

same_found : (ask : PartAsk) (from until last : ℕ) (xs ys : List (ℕ × Push)) → until ≡ last → xs ≡ ys → found ask from until xs ≡ found ask from last ys
same_found ask from until last xs ys ends same = ap (λ (n : ℕ). found ask from n xs) ends ∙ ap (λ (l : List (ℕ × Push)). found ask from last l) same

-- What is found in an entry's object is what is found in the history, up to the object's end.
part_in_history : (history : List Push) (ask : PartAsk) (lo hi at until : ℕ) → lo ≤ at → at < hi → hi ≤ length history
    → part_of lo (take (hi - lo) (drop lo history)) at until ask ≡ part_of 0 history at (min until hi) ask
part_in_history history ask lo hi at until begins ends within =
    let mine = take (hi - lo) (drop lo history) in
    same_found ask at (min until (lo + length mine)) (min (min until hi) (0 + length history)) (pushes_between lo mine at until) (pushes_between 0 history at (min until hi))
    (omega (arith, long history lo hi at until begins ends within, begins, ends, within)) (between_stretch history lo hi at until begins ends within)

-- the pushes that an entry says stand in a history, where they are as many as it says
stands_within : (history : List Push) (lo hi at : ℕ) → lo ≤ at → at < hi → lo + length (take (hi - lo) (drop lo history)) ≡ hi → hi ≤ length history
stands_within history lo hi at begins ends until = omega (arith, begins, ends, until, length-take (hi - lo) (drop lo history), length-drop lo history)

pub part_stands : (history : List Push) (ask : PartAsk) (entry : Entry) (object : ObjectView) (at until : ℕ) (part : PartView) → entry.lo ≤ at → at < entry.hi → Describes entry object
    → object.pushes ≡ take (entry.hi - entry.lo) (drop entry.lo history) → part ≡ part_of object.lo object.pushes at until ask → part ≡ part_of 0 history at part.until ask
part_stands history ask entry object at until part begins ends describes are is =
    let mine = take (entry.hi - entry.lo) (drop entry.lo history) in
    let same : part ≡ part_of entry.lo mine at until ask = is ∙ ap (λ (n : ℕ). part_of n object.pushes at until ask) describes.from ∙ ap (λ (l : List Push). part_of entry.lo l at until ask) are in
    let long-mine : entry.lo + length mine ≡ entry.hi = omega (arith, describes.from, describes.until, ap length are) in
    let within = stands_within history entry.lo entry.hi at begins ends long-mine in
    let until-is : part.until ≡ min until entry.hi = ap (λ (p : PartView). p.until) same ∙ ap (λ (n : ℕ). min until n) long-mine in
    same ∙ part_in_history history ask entry.lo entry.hi at until begins ends within ∙ ap (λ (n : ℕ). part_of 0 history at n ask) (sym until-is)

-- a part ends where its entry does
pub part_until : (ask : PartAsk) (entry : Entry) (object : ObjectView) (at until : ℕ) (part : PartView) → Describes entry object → part ≡ part_of object.lo object.pushes at until ask
    → part.until ≡ min until entry.hi
part_until ask entry object at until part describes is = ap (λ (p : PartView). p.until) is ∙ ap (λ (n : ℕ). min until n) describes.until

-- ---- objects

-- a fault of an object names it
pub damaged_id : {X : Type 0} (at id : ℕ) → IsErrOf {T = X} (Err (Damaged at)) (Damaged id) → id ≡ at
damaged_id at id is = cc

-- the same fault of another call
pub same_fault : {X Y E : Type 0} (fault other : E) → IsErrOf {T = X} (Err fault) other → IsErrOf {T = Y} (Err fault) other
same_fault fault other is = let same : fault ≡ other = cc in ap (λ e. Err e) same

-- an entry, and those before and behind it
split_entries : (entries : List Entry) (k : ℕ) (d : Entry) → k < length entries → (front : List Entry) × (back : List Entry) × (entries ≡ front ++ get_or entries k d ∷ back)
split_entries [] k d within = absurd (omega (arith, within))
split_entries (x ∷ xs) zero d within = ([], xs, refl)
split_entries (x ∷ xs) (suc k) d within =
    let s = split_entries xs k d (omega (arith, within)) in
    (x ∷ s.0, s.1, ap (λ (l : List Entry). x ∷ l) s.2)

-- among entries whose objects hold a history, an entry's object has the pushes that it says
pub object_at : (files : Files) (entries : List Entry) (entry : Entry) (history : List Push) → IsHeldAt files entries entry history
    → IsObjectOf entry (take (entry.hi - entry.lo) (drop entry.lo history)) (files (Object entry.id))
object_at files entries entry history it =
    let s = split_entries entries it.among.0 entry it.among.1 in
    let front = s.0 in
    let back = s.1 in
    let parts : entries ≡ front ++ entry ∷ back = s.2 ∙ ap (λ (e : Entry). front ++ e ∷ back) it.among.2 in
    let divide : DivideFrom 0 (front ++ entry ∷ back) = subst (DivideFrom 0) parts it.divide.divide in
    let all = held_split files front (entry ∷ back) history (subst (λ (es : List Entry). AreHeld files es history) parts it.held) in
    let mine = held_first files entry back all.two all.second in
    let from : length all.one ≡ entry.lo =
    length_held files front all.one (DivideFrom-first 0 front (entry ∷ back) divide) all.first ∙ end_of-from front ∙ sym (DivideFrom-second 0 front (entry ∷ back) divide).0 in
    let whole : history ≡ all.one ++ (mine.part ++ mine.rest) = all.all ∙ ap (λ (l : List Push). all.one ++ l) mine.all in
    let behind : drop entry.lo history ≡ mine.part ++ mine.rest = ap (λ (l : List Push). drop entry.lo l) whole ∙ drop_at all.one (mine.part ++ mine.rest) entry.lo from in
    let many : length mine.part ≡ entry.hi - entry.lo = omega (arith, mine.object.until) in
    let part : take (entry.hi - entry.lo) (drop entry.lo history) ≡ mine.part =
    ap (λ (l : List Push). take (entry.hi - entry.lo) l) behind ∙ take_at mine.part mine.rest (entry.hi - entry.lo) many in
    subst (λ (l : List Push). IsObjectOf entry l (files (Object entry.id))) (sym part) mine.object

-- what an entry's object holds was found there
pub object_has : (files : Files) (entries : List Entry) (entry : Entry) (history pushes : List Push) → IsObjectOf entry pushes (files (Object entry.id)) → IsHeldAt files entries entry history
    → pushes ≡ take (entry.hi - entry.lo) (drop entry.lo history)
object_has files entries entry history pushes object it =
    one_object entry (files (Object entry.id)) pushes (take (entry.hi - entry.lo) (drop entry.lo history)) object (object_at files entries entry history it)

-- ---- a store over a disk that was looked at

module _ (old new : DiskView) (journal : JournalView) (index : IndexView) (flight : Option FlightView) (books : BooksView) (sure : Bool) (looks : Looks old new) where
  looked_state : (f : Option FlightView) (history : List Push) → Tells new → StandsWith old journal index f history → StandsWith new journal index f history
  looked_state None history tells state = rests_still old new journal index history state tells looks.stays
  looked_state (Some f) history tells state =
      let still = unsettled_still old new journal state.body state.unsettled tells looks.stays in
      flies_still old new journal journal index f.entry history f.pushes state looks.stays refl refl refl still.0 still.1

  -- what it keeps stays
  pub kept_looks : (history : List Push) → Tells new → IsKept old journal index flight books sure history → IsKept new journal index flight books sure history
  kept_looks history tells kept = record {
    state = looked_state flight history tells kept.state;
    booked = kept.booked;
    none = λ is id more. ap (λ (f : Files). f (Object id)) looks.files ∙ kept.none is id more;
  }

  module _ (goes : GoesOn old new) (records : ℕ) (it : Invariant old journal index flight books sure records) where
    pub looked_invariant : Invariant new journal index flight books sure records
    looked_invariant = record {
      file = it.file;
      limit = it.limit;
      journal_sure = it.journal_sure;
      settled = it.settled;
      few = it.few;
      short = it.short;
      behind = it.behind;
      bound = it.bound;
      told = λ tells. let kept = it.told (sym goes.honest ∙ tells) in (kept.0, kept_looks kept.0 tells kept.1);
    }

-- and what was kept since any start is kept still
pub looked_keeps : {D : Type 0} (old new : DiskView) (journal : JournalView) (before after : StoreView D) (books : BooksView) (sure : Bool) → Looks old new → GoesOn old new
    → Invariant old journal before.index before.flight books sure before.records → after.index ≡ before.index → after.flight ≡ before.flight → after.records ≡ before.records
    → (history : List Push) → Tells old → HasHistory old before history → KeepsOn old new before after history history
looked_keeps {D} old new journal before after books sure looks goes it index flight records history tells held =
    let has : HasHistory new after history =
    subst (λ (i : IndexView). AreHeld new.files i.entries history) (sym index) (subst (λ (f : Files). AreHeld f before.index.entries history) (sym looks.files) held) in
    (is_mended old new before after history history goes records (inl refl) has (inr (refl, flight))
    (still_leads old new (λ image. StandForEither before.records history (history ++ in_flight before.flight) image)
    (images_as old journal before.index before.flight books sure before.records it history tells held) looks.stays) (loses_look after.index.entries looks.stays)).keeps

-- ---- the entry that covers a push

module _ (disk : DiskView) (journal : JournalView) (index : IndexView) (flight : Option FlightView) (books : BooksView) (sure : Bool) (records : ℕ)
    (it : Invariant disk journal index flight books sure records) (at : ℕ) (entry : Entry) (covers : Covers index.entries at entry) (tells : Tells disk) where
  -- is held, whichever history it is
  pub covered_held : (history : List Push) → AreHeld disk.files index.entries history → IsHeldAt disk.files index.entries entry history
  covered_held history held =
      let kept = kept_at disk journal index flight books sure records it history tells held in record {
        divide = lists_divide (list_of disk journal) index (holds_of disk journal index flight history kept.state).lists;
        among = covers.among;
        held = held;
      }

  pub covered_once : (history : List Push) × IsHeldAt disk.files index.entries entry history
  covered_once = let kept = it.told tells in (kept.0, covered_held kept.0 (kept_reads disk journal index flight books sure kept.0 tells kept.1))
