-- What the bodies of an index file list, read one after another.
use Rattle.std.proofs.Common.{◌≡◌, inl, inr, ℕ, zero, suc, ◌+◌, ◌^◌, ◌<◌, ◌≤◌, Bool, true, false, List, [], ◌∷◌, ◌++◌, length, take, drop, Some, refl, sym, ◌∙◌, ap, subst, arith, All}
use Rattle.std.specs.Prelude.{MatchBool, slice_get}
use Rattle.std.specs.List.{AllZip}
use Rattle.std.proofs.lemmas.List.{take_all, take-append-drop, take_more}
use Rattle.std.proofs.lemmas.Option.{same_Some, slice_get_within, get_or_from_slice_get}
use Rattle.disk_trait.specs.Disk.{DiskView}
use Rattle.gate_journal.specs.Journal.{JournalView, list_of, IsOpen, IsSettled, IsUnsettled}
use Rattle.metastore_index.specs.declared.entry.Entry.{Entry}
use Rattle.metastore_index.specs.declared.fault.ApplyFault.{ApplyFault}
use Rattle.metastore_index.specs.declared.fault.ApplyFault.TheVariants.{NotARun}
use Rattle.metastore_index.specs.Entries.{Becomes, HasPlace, IndexView, IsTaken, end_of}
use Rattle.metastore_index.specs.Entries.Becomes.{follows, stands}
use Rattle.metastore_index.specs.Taken.{IsBodyOf, Takes}
use Rattle.metastore_index.proofs.EndLemmas.{end_moves}
use Rattle.metastore_index.proofs.OneIndexLemmas.{next_is_taken}
use Rattle.history_files.specs.History.{IsBounded, Lists}
use Rattle.history_files.proofs.StandLemmas.{lists_come, lists_push}

-- the bodies before one, itself, and those behind it
drop_here : (bodies : List (List ℕ)) (i : ℕ) (body : List ℕ) → slice_get bodies i ≡ Some body → drop i bodies ≡ body ∷ drop (suc i) bodies
drop_here [] i body at = absurd (cc)
drop_here (x ∷ xs) zero body at = ap (λ (b : List ℕ). b ∷ xs) (same_Some x body at)
drop_here (x ∷ xs) (suc i) body at = drop_here xs i body at

split_here : (bodies : List (List ℕ)) (i : ℕ) (body : List ℕ) → slice_get bodies i ≡ Some body → bodies ≡ take i bodies ++ body ∷ drop (suc i) bodies
split_here bodies i body at = sym (take-append-drop i bodies) ∙ ap (λ (l : List (List ℕ)). take i bodies ++ l) (drop_here bodies i body at)

take_here : (bodies : List (List ℕ)) (i : ℕ) (body : List ℕ) → slice_get bodies i ≡ Some body → take (i + 1) bodies ≡ take i bodies ++ body ∷ []
take_here bodies i body at =
    take_more bodies i body (slice_get_within bodies i body at) ∙ ap (λ (b : List ℕ). take i bodies ++ b ∷ []) (get_or_from_slice_get bodies i body body at)

-- each body is the record of an entry within the bounds
read_at : (bodies : List (List ℕ)) (taken : List Entry) (i : ℕ) (body : List ℕ) → AllZip IsBodyOf bodies taken → All IsBounded taken → slice_get bodies i ≡ Some body
    → (entry : Entry) × IsBodyOf body entry × IsBounded entry
read_at [] taken i body are bounded at = absurd (cc)
read_at (x ∷ xs) [] i body are bounded at = absurd are
read_at (x ∷ xs) (entry ∷ more) zero body are bounded at = (entry, subst (λ (b : List ℕ). IsBodyOf b entry) (same_Some x body at) are.0, bounded 0 entry (omega arith))
read_at (x ∷ xs) (entry ∷ more) (suc i) body are bounded at = read_at xs more i body are.1 (λ k d within. bounded (suc k) d (omega (arith, within))) at

module _ (bodies : List (List ℕ)) (i : ℕ) (body : List ℕ) (at : slice_get bodies i ≡ Some body) where
  -- where a body isn't such a record, no index is listed
  pub lists_unread : ((entry : Entry) → IsBodyOf body entry → ¬ (IsBounded entry)) → (index : IndexView) → ¬ (Lists bodies index)
  lists_unread none index lists = let it = read_at bodies lists.taken i body lists.read lists.bounded at in none it.0 it.1 it.2

  -- nor where the index of those before doesn't take the entry
  pub lists_refused : (entry : Entry) (before : IndexView) → IsBodyOf body entry → Lists (take i bodies) before → ¬ (IsTaken before entry) → (index : IndexView) → ¬ (Lists bodies index)
  lists_refused entry before is so_far refused index lists =
      refused (next_is_taken (take i bodies) body (drop (suc i) bodies) before index entry
      (lists_come _ index (subst (λ (bs : List (List ℕ)). Lists bs index) (split_here bodies i body at) lists))
      (lists_come (take i bodies) before so_far) is)

  -- and where it does, one body more is listed
  pub lists_more : (entry : Entry) (before after : IndexView) → IsBodyOf body entry → IsBounded entry → Lists (take i bodies) before → Takes before entry after → Lists (take (i + 1) bodies) after
  lists_more entry before after is bounded so_far takes =
      subst (λ (bs : List (List ℕ)). Lists bs after) (sym (take_here bodies i body at)) (lists_push (take i bodies) body before after entry so_far is bounded takes)

-- an open journal's list is as long as its count says
pub opened_long : (disk : DiskView) (journal : JournalView) → IsOpen disk journal → journal.count ≡ length (list_of disk journal)
opened_long disk journal opened = by_sure journal.sure opened
  where
    by_sure : (b : Bool) → MatchBool b (IsSettled disk journal) ((body : List ℕ) × IsUnsettled disk journal body) → journal.count ≡ length (list_of disk journal)
    by_sure true settled = settled.count
    by_sure false unsettled = unsettled.1.count

-- all of them were read
pub lists_all : (disk : DiskView) (journal : JournalView) (i : ℕ) (index : IndexView) → IsOpen disk journal → journal.count ≤ i → Lists (take i (list_of disk journal)) index → Lists (list_of disk journal) index
lists_all disk journal i index opened all lists =
    subst (λ (bs : List (List ℕ)). Lists bs index) (take_all i (list_of disk journal) (omega (arith, opened_long disk journal opened, all))) lists

-- an entry is refused for one reason
pub not_a_run : (fault : ApplyFault) → fault ≡ NotARun
not_a_run NotARun = refl

-- an entry that is taken leaves some index
pub takes_some : (index : IndexView) (entry : Entry) → IsTaken index entry → (later : IndexView) × Takes index entry later
takes_some index entry taken = by_place taken.fits
  where
    by_place : HasPlace index.entries entry → (later : IndexView) × Takes index entry later
    by_place (inl place) = (
      record { entries = index.entries ++ entry ∷ []; greatest = entry.id; spare = 0 },
      record { taken = taken; becomes = follows place refl; greatest = refl },
    )
    by_place (inr (high, (before, run, after, parts, over))) = (
      record { entries = before ++ entry ∷ after; greatest = entry.id; spare = 0 },
      record { taken = taken; becomes = stands before run after parts high over refl; greatest = refl },
    )

-- ---- where the pushes end

pub ends_short : (entries : List Entry) (entry : Entry) (next : List Entry) → Becomes entries entry next → end_of entries < 2 ^ 63 → IsBounded entry → end_of next < 2 ^ 63
ends_short entries entry next becomes short bounded =
    let moves = end_moves entries entry next becomes in
    by_level entry.level moves.0 moves.1
  where
    by_level : (level : ℕ) → (level ≡ 0 → (entry.lo ≡ end_of entries) × (end_of next ≡ entry.hi)) → (1 ≤ level → end_of next ≡ end_of entries) → end_of next < 2 ^ 63
    by_level zero low high = omega (arith, (low refl).1, bounded.until)
    by_level (suc n) low high = omega (arith, high (omega arith), short)
