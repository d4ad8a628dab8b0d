-- What is read of a list that begins another is what is read of the other.
use Rattle.std.proofs.Common.{◌≡◌, ℕ, ◌+◌, ◌≤◌, min, List, ◌++◌, length, filter, refl, sym, ap, ◌∙◌, subst, arith, append-nil, length-append}
use Rattle.std.specs.List.{flat_map}
use mathlib.Core.List.{IsPrefix}
use Rattle.history_pass.specs.declared.view.Mark.{Mark}
use Rattle.history_pass.specs.Marks.{Below}
use Rattle.history_pass.proofs.MarkLemmas.{below_length}
use Rattle.metastore_index.specs.declared.entry.Entry.{Entry}
use Rattle.metastore_index.specs.Entries.{Covers}
use Rattle.profile_model.specs.declared.part_ask.PartAsk.{PartAsk}
use Rattle.profile_model.specs.declared.push.Push.{Push}
use Rattle.segment_file.specs.Parts.{PartView, is_of, is_within, part_of, pushes_between, rows_of_push}
use Rattle.store_core.proofs.ReadLemmas.{between, between-append, between_behind}
use Rattle.shared_store.specs.declared.cursor.Cursor.{Cursor}
use Rattle.shared_store.specs.Cursors.{IsNextPart, IsOn}

-- what stands in a window that ends within a list is the same where more follows
between_longer : {X : Type 0} (xs more : List X) (from until : ℕ) → until ≤ length xs → between 0 (xs ++ more) from until ≡ between 0 xs from until
between_longer xs more from until within =
    between-append 0 xs more from until
    ∙ ap (λ l. between 0 xs from until ++ l) (between_behind (0 + length xs) more from until (omega (arith, within)))
    ∙ append-nil (between 0 xs from until)

-- what an ask finds in these pushes, each with its number
abbrev found : PartAsk → ℕ → ℕ → List (ℕ × Push) → PartView
found ask from until pushes = record { from = from; until = until; rows = filter (is_within ask) (flat_map rows_of_push (filter (is_of ask.tenant) pushes)) }

same_found : (ask : PartAsk) (from until last : ℕ) (xs ys : List (ℕ × Push)) → until ≡ last → xs ≡ ys → found ask from until xs ≡ found ask from last ys
same_found ask from until last xs ys ends same = ap (λ (n : ℕ). found ask from n xs) ends ∙ ap (λ (l : List (ℕ × Push)). found ask from last l) same

part_longer : (xs more : List Push) (ask : PartAsk) (from until : ℕ) → until ≤ length xs → part_of 0 (xs ++ more) from until ask ≡ part_of 0 xs from until ask
part_longer xs more ask from until within =
    same_found ask from (min until (0 + length (xs ++ more))) (min until (0 + length xs)) (pushes_between 0 (xs ++ more) from until) (pushes_between 0 xs from until)
    (omega (arith, within, length-append xs more)) (between_longer xs more from until within)

-- what an ask finds in a stretch of a list is what it finds there in a list that goes on from it
pub part_prefix : (list whole : List Push) (ask : PartAsk) (from until : ℕ) → IsPrefix list whole → until ≤ length list → part_of 0 whole from until ask ≡ part_of 0 list from until ask
part_prefix list whole ask from until begins within = subst (λ (l : List Push). part_of 0 l from until ask ≡ part_of 0 list from until ask) begins.1 (part_longer list begins.0 ask from until within)

-- the part of a cursor is that of the list which the cursor is over
pub is_next_part : (tells : Type 0) (list whole : List Push) (old : Cursor) (entries : List Entry) (part : PartView) → IsOn list old → (old.at ≡ old.until → ⊥) → IsPrefix list whole → part.from ≡ old.at
    → (entry : Entry) × Covers entries old.at entry × (part.until ≡ min old.until entry.hi) → (tells → part ≡ part_of 0 whole old.at part.until old.ask)
    → IsNextPart tells list old (record old { at = part.until }) part
is_next_part tells list whole old entries part on more begins from until rows =
    let within : part.until ≤ old.until = omega (arith, until.2) in record {
      from = from;
      later = omega (arith, until.2, until.1.until, on.at, more);
      within = within;
      moves = refl;
      rows = λ t. rows t ∙ part_prefix list whole old.ask old.at part.until begins (omega (arith, within, on.until));
    }

-- a cursor is on each list that has more
pub on_more : (seen now : Mark) (cursor : Cursor) → Below seen now → IsOn seen.list cursor → IsOn now.list cursor
on_more seen now cursor below on = record { at = on.at; until = omega (arith, on.until, below_length seen now below) }

-- also where a part moved it
pub on_moved : (tells : Type 0) (seen now : Mark) (old new : Cursor) (part : PartView) → Below seen now → IsOn seen.list old → IsNextPart tells seen.list old new part → IsOn now.list new
on_moved tells seen now old new part below on next =
    subst (λ (c : Cursor). IsOn now.list c) (sym next.moves) (record { at = next.within; until = omega (arith, on.until, below_length seen now below) })
