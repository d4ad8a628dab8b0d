-- What was gathered of a list, part by part.
use Rattle.std.proofs.Common.{◌≡◌, ℕ, ◌+◌, ◌<◌, ◌≤◌, true, Option, None, Some, List, [], ◌∷◌, ◌++◌, length, refl, sym, ap, ◌∙◌, subst, arith, append-nil}
use Rattle.std.specs.Prelude.{filter, flat_map, nat_le}
use Rattle.std.specs.List.{All}
use Rattle.std.specs.Option.{MatchOption}
use Rattle.std.proofs.lemmas.Grind.{flat_map-append}
use Rattle.std.proofs.lemmas.Bool.{and_parts, leb-true}
use Rattle.std.proofs.lemmas.List.{append_assoc}
use Rattle.std.proofs.lemmas.List.Elements.{All-weaker, filter_passes}
use Rattle.std.proofs.lemmas.List.Sums.{sum_by-append}
use mathlib.Core.List.{IsPrefix}
use Rattle.profile_model.specs.Limits.{total_bound}
use Rattle.profile_model.specs.Pushes.{profiles_total}
use Rattle.profile_model.specs.declared.part_ask.PartAsk.{PartAsk}
use Rattle.profile_model.specs.declared.profile.Profile.{Profile}
use Rattle.profile_model.specs.declared.push.Push.{Push}
use Rattle.push_history.specs.History.{HasBoundedTotals}
use Rattle.profile_model.specs.Sums.{total_of}
use Rattle.segment_file.specs.Parts.{PartView, is_of, is_within, part_of, pushes_between, rows_of_push}
use Rattle.segment_file.specs.declared.part.Row.{Row}
use Rattle.query_merge.specs.Laws.{ArePartsFrom, end_of}
use Rattle.query_merge.specs.Rows.{profiles_of, profiles_of_parts}
use Rattle.query_merge.proofs.PartLemmas.{parts_bounded}
use Rattle.query_merge.proofs.PartRowLemmas.{parts_are_rows}
use Rattle.shared_store.specs.declared.cursor.Cursor.{Cursor}
use Rattle.shared_store.specs.Cursors.{Alone, HasEnded, IsNextPart, IsOwn}
use Rattle.shared_store.proofs.CursorLemmas.{part_prefix}
use Rattle.query_reading.specs.Reading.{profiles_in}

-- ---- one part more

parts_push : (list : List Push) (ask : PartAsk) (from : ℕ) (parts : List PartView) (part : PartView) → ArePartsFrom list ask from parts
    → part ≡ part_of 0 list (end_of from parts) part.until ask → end_of from parts ≤ part.until → ArePartsFrom list ask from (parts ++ part ∷ [])
parts_push list ask from [] part are is later = (is, later, tt)
parts_push list ask from (one ∷ parts) part are is later = (are.0, are.1, parts_push list ask one.until parts part are.2 is later)

end_push : (from : ℕ) (parts : List PartView) (part : PartView) → end_of from (parts ++ part ∷ []) ≡ part.until
end_push from [] part = refl
end_push from (one ∷ parts) part = end_push one.until parts part

profiles_push : (parts : List PartView) (part : PartView) → profiles_of_parts (parts ++ part ∷ []) ≡ profiles_of_parts parts ++ profiles_of part.rows
profiles_push parts part =
    flat_map-append (λ (p : PartView). profiles_of p.rows) parts (part ∷ [])
    ∙ ap (λ (l : List Profile). profiles_of_parts parts ++ l) (append-nil (profiles_of part.rows))

total-append : (one more : List Profile) → profiles_total (one ++ more) ≡ profiles_total one + profiles_total more
total-append one more = sum_by-append (λ (profile : Profile). total_of profile.values) one more

-- ---- one part

-- what the ask finds from this place on, up to a later one
pub record IsFound (list : List Push) (ask : PartAsk) (at : ℕ) (part : PartView) : Type 0 where
  pub rows : part ≡ part_of 0 list at part.until ask
  pub later : at ≤ part.until

-- what an ask finds stands in its window
pub found_in_time : (list : List Push) (ask : PartAsk) (at latest : ℕ) (part : PartView) → IsFound list ask at part → ask.until_ms ≤ latest
    → All (λ row. row.profile.time_ms ≤ latest) part.rows
found_in_time list ask at latest part found ends =
    subst (λ (one : PartView). All (λ row. row.profile.time_ms ≤ latest) one.rows) (sym found.rows)
    (All-weaker (λ row. is_within ask row ≡ true) (λ row. row.profile.time_ms ≤ latest) in_time (part_of 0 list at part.until ask).rows
    (filter_passes (is_within ask) (flat_map rows_of_push (filter (is_of ask.tenant) (pushes_between 0 list at part.until)))))
  where
    in_time : (row : Row) → is_within ask row ≡ true → row.profile.time_ms ≤ latest
    in_time row passes =
        let both = and_parts (nat_le ask.from_ms row.profile.time_ms) (nat_le row.profile.time_ms ask.until_ms) passes in
        let before = leb-true row.profile.time_ms ask.until_ms both.1 in
        omega (arith, before, ends)

-- A cursor that was begun as another one, and what it finds next along a pass that has seen more.
module _ (first old new : Cursor) (part : PartView) (moved : old ≡ record first { at = old.at }) where
  pub cursor_found : (tells : Type 0) (list seen : List Push) → IsPrefix list seen → first.until ≡ length list → IsNextPart tells seen old new part → tells
      → IsFound list first.ask old.at part
  cursor_found tells list seen begins whole next told = record {
    rows =
        next.rows told
        ∙ part_prefix list seen old.ask old.at part.until begins (omega (arith, next.within, ap (λ (c : Cursor). c.until) moved, whole))
        ∙ ap (λ (c : Cursor). part_of 0 list old.at part.until c.ask) moved;
    later = omega (arith, next.later);
  }

  pub cursor_went_on : (tells : Type 0) (seen : List Push) (found : Option PartView) → found ≡ Some part
      → MatchOption found (HasEnded old new) (IsNextPart tells seen old new) → IsNextPart tells seen old new part
  cursor_went_on tells seen found is was = subst (λ (one : Option PartView). MatchOption one (HasEnded old new) (IsNextPart tells seen old new)) is was

  pub cursor_moved : new ≡ record old { at = part.until } → new ≡ record first { at = new.at }
  cursor_moved moves =
      moves ∙ ap (λ (c : Cursor). record c { at = part.until }) moved
      ∙ ap (λ (n : ℕ). record first { at = n }) (sym (ap (λ (c : Cursor). c.at) moves))

-- it ends where the list does
pub cursor_ends : (first old new : Cursor) (tells : Type 0) (list seen : List Push) (found : Option PartView) → old ≡ record first { at = old.at } → first.until ≡ length list
    → found ≡ None → MatchOption found (HasEnded old new) (IsNextPart tells seen old new) → old.at ≡ length list
cursor_ends first old new tells list seen found moved whole is was =
    let ended = subst (λ (one : Option PartView). MatchOption one (HasEnded old new) (IsNextPart tells seen old new)) is was in
    ended.ended ∙ ap (λ (c : Cursor). c.until) moved ∙ whole

-- ---- what was read so far

-- The parts up to a place of the list were read, their values come to this total, and who held what some profiles come to, by
-- whatever is asked, now holds what these come to with the parts' behind them.
pub record HasRead {A : Type 0} (list : List Push) (ask : PartAsk) (at total : ℕ) (Was Is : A → List Profile → Type 0) : Type 0 where
  pub parts : List PartView
  pub are : ArePartsFrom list ask 0 parts
  pub ends : end_of 0 parts ≡ at
  pub total_is : total ≡ profiles_total (profiles_of_parts parts)
  pub more : (asked : A) (profiles : List Profile) → Was asked profiles → Is asked (profiles ++ profiles_of_parts parts)

module _ {A : Type 0} (list : List Push) (ask : PartAsk) where
  pub read_none : (at total : ℕ) (Was : A → List Profile → Type 0) → at ≡ 0 → total ≡ 0 → HasRead list ask at total Was Was
  read_none at total Was begins none = record {
    parts = [];
    are = tt;
    ends = sym begins;
    total_is = none;
    more = λ asked profiles was. subst (Was asked) (sym (append-nil profiles)) was;
  }

  module _ (at total : ℕ) (Was Is : A → List Profile → Type 0) (it : HasRead list ask at total Was Is) (part : PartView) (found : IsFound list ask at part) where
    all : ArePartsFrom list ask 0 (it.parts ++ part ∷ [])
    all =
        parts_push list ask 0 it.parts part it.are (found.rows ∙ ap (λ n. part_of 0 list n part.until ask) (sym it.ends))
        (subst (λ n. n ≤ part.until) (sym it.ends) found.later)

    pub read_bounded : HasBoundedTotals list → total + profiles_total (profiles_of part.rows) < total_bound
    read_bounded bounded =
        subst (λ n. n + profiles_total (profiles_of part.rows) < total_bound) (sym it.total_is) (parts_bounded list ask it.parts part bounded all)

    pub read_more : (next : ℕ) (Now : A → List Profile → Type 0) → next ≡ total + profiles_total (profiles_of part.rows)
        → ((asked : A) (profiles : List Profile) → Is asked profiles → Now asked (profiles ++ profiles_of part.rows)) → HasRead list ask part.until next Was Now
    read_more next Now sum takes = record {
      parts = it.parts ++ part ∷ [];
      are = all;
      ends = end_push 0 it.parts part;
      total_is =
          sum ∙ ap (λ n. n + profiles_total (profiles_of part.rows)) it.total_is
          ∙ sym (ap profiles_total (profiles_push it.parts part) ∙ total-append (profiles_of_parts it.parts) (profiles_of part.rows));
      more = λ asked profiles was.
          subst (Now asked)
          (append_assoc profiles (profiles_of_parts it.parts) (profiles_of part.rows) ∙ ap (λ (l : List Profile). profiles ++ l) (sym (profiles_push it.parts part)))
          (takes asked (profiles ++ profiles_of_parts it.parts) (it.more asked profiles was));
    }

  -- all of it
  pub read_whole : (at total : ℕ) (Was Is : A → List Profile → Type 0) → HasRead list ask at total Was Is → at ≡ length list
      → (asked : A) (profiles : List Profile) → Was asked profiles → Is asked (profiles ++ profiles_in list ask)
  read_whole at total Was Is it ends asked profiles was =
      subst (λ (l : List Profile). Is asked (profiles ++ l)) (parts_are_rows list ask it.parts it.are (it.ends ∙ ends)) (it.more asked profiles was)

-- ---- who is alone

-- a call that leaves who is alone, and its list, leaves the list of who was alone
pub own_stays : (before now : Option Alone) (old new : List Push) → now ≡ before → (IsOwn now old → IsOwn now new) → IsOwn before old → IsOwn before new
own_stays before now old new same keeps was = subst (λ (a : Option Alone). IsOwn a new) same (keeps (subst (λ (a : Option Alone). IsOwn a old) (sym same) was))
