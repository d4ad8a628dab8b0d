-- All parts of a query together.
use Rattle.std.proofs.Common.{◌≡◌, ℕ, ◌+◌, ◌≤◌, Bool, true, false, cond, List, [], ◌∷◌, ◌++◌, length, take, map, filter, refl, sym, ap, ◌∙◌, subst, arith, append-nil}
use Rattle.std.specs.Prelude.{◌&&◌, nat_eq, nat_le, nat_lt}
use Rattle.std.specs.List.{enumerate_from, flat_map}
use Rattle.std.specs.Cmp.Lexicographic.{pointwise}
use Rattle.std.proofs.Math.Seq.{take-append_seam}
use Rattle.std.proofs.lemmas.Bool.{leb-false, leb-true, ltb-false, ltb-true}
use Rattle.std.proofs.lemmas.Grind.{flat_map-append}
use Rattle.std.proofs.lemmas.List.{map-append}
use Rattle.std.proofs.lemmas.List.Elements.{filter-append}
use Rattle.profile_model.specs.declared.part_ask.PartAsk.{PartAsk}
use Rattle.profile_model.specs.declared.profile.Profile.{Profile}
use Rattle.profile_model.specs.declared.push.Push.{Push}
use Rattle.push_history.specs.History.{front_of, pushes_of, rows_of}
use Rattle.segment_file.specs.Parts.{PartView, is_of, is_within, part_of, rows_of_push}
use Rattle.segment_file.specs.declared.part.Row.{Row}
use Rattle.store_core.proofs.ReadLemmas.{between, between_behind}
use Rattle.shared_store.specs.declared.cursor.Cursor.{Cursor}
use Rattle.shared_store.specs.Readings.{AreParts, PartsAreWhole, rows_in}
use Rattle.shared_store.proofs.CursorLemmas.{part_prefix}

-- ---- windows of numbers

-- a window that ends where it begins has nothing
between_none : {X : Type 0} (lo : ℕ) (xs : List X) (at : ℕ) → between lo xs at at ≡ []
between_none lo [] at = refl
between_none lo (x ∷ xs) at =
    let out : (nat_le at lo && nat_lt lo at) ≡ false = grind arith in
    ap (λ b. cond b ((lo, x) ∷ between (lo + 1) xs at at) (between (lo + 1) xs at at)) out ∙ between_none (lo + 1) xs at

-- one from 0 to the end has all
between_all : {X : Type 0} (lo : ℕ) (xs : List X) (until : ℕ) → lo + length xs ≤ until → between lo xs 0 until ≡ enumerate_from lo xs
between_all lo [] until within = refl
between_all lo (x ∷ xs) until within =
    let in_it : (nat_le 0 lo && nat_lt lo until) ≡ true = grind arith in
    ap (λ b. cond b ((lo, x) ∷ between (lo + 1) xs 0 until) (between (lo + 1) xs 0 until)) in_it
    ∙ ap (λ l. (lo, x) ∷ l) (between_all (lo + 1) xs until (omega (arith, within)))

module _ {X : Type 0} (a b c : ℕ) (low : a ≤ b) (high : b ≤ c) where
  -- two windows, one behind the other
  between_split : (lo : ℕ) (xs : List X) → between lo xs a b ++ between lo xs b c ≡ between lo xs a c
  between_split lo [] = refl
  between_split lo (x ∷ xs) = by (nat_le a lo) (nat_lt lo b) (nat_le b lo) (nat_lt lo c) refl refl refl refl (between_split (lo + 1) xs)
    where
      first : List (ℕ × X)
      first = between (lo + 1) xs a b

      second : List (ℕ × X)
      second = between (lo + 1) xs b c

      both : List (ℕ × X)
      both = between (lo + 1) xs a c

      by : (p q r s : Bool) → nat_le a lo ≡ p → nat_lt lo b ≡ q → nat_le b lo ≡ r → nat_lt lo c ≡ s → first ++ second ≡ both
          → cond (p && q) ((lo, x) ∷ first) first ++ cond (r && s) ((lo, x) ∷ second) second ≡ cond (p && s) ((lo, x) ∷ both) both
      by false q true s is1 is2 is3 is4 later = let i = leb-false a lo is1 in let j = leb-true b lo is3 in absurd (omega arith)
      by false q false s is1 is2 is3 is4 later = later
      by true true true s is1 is2 is3 is4 later = let i = ltb-true lo b is2 in let j = leb-true b lo is3 in absurd (omega arith)
      by true true false false is1 is2 is3 is4 later = let i = ltb-true lo b is2 in let j = ltb-false lo c is4 in absurd (omega arith)
      by true true false true is1 is2 is3 is4 later = ap (λ l. (lo, x) ∷ l) later
      by true false false s is1 is2 is3 is4 later = let i = ltb-false lo b is2 in let j = leb-false b lo is3 in absurd (omega arith)
      by true false true false is1 is2 is3 is4 later = later
      by true false true true is1 is2 is3 is4 later =
          let past = leb-true b lo is3 in
          let none : first ≡ [] = between_behind (lo + 1) xs a b (omega arith) in
          let rest : second ≡ both = ap (λ l. l ++ second) (sym none) ∙ later in
          ap (λ l. l ++ (lo, x) ∷ second) none ∙ ap (λ l. (lo, x) ∷ l) rest

-- ---- rows

-- what an ask finds in these pushes, each with its number
abbrev found : PartAsk → List (ℕ × Push) → List Row
found ask numbered = filter (is_within ask) (flat_map rows_of_push (filter (is_of ask.tenant) numbered))

found-append : (ask : PartAsk) (xs ys : List (ℕ × Push)) → found ask (xs ++ ys) ≡ found ask xs ++ found ask ys
found-append ask xs ys =
    let mine = filter (is_of ask.tenant) xs in
    let others = filter (is_of ask.tenant) ys in
    ap (λ (l : List (ℕ × Push)). filter (is_within ask) (flat_map rows_of_push l)) (filter-append (is_of ask.tenant) xs ys)
    ∙ ap (filter (is_within ask)) (flat_map-append rows_of_push mine others)
    ∙ filter-append (is_within ask) (flat_map rows_of_push mine) (flat_map rows_of_push others)

-- what an ask finds in a stretch of a list
abbrev found_between : PartAsk → List Push → ℕ → ℕ → List Row
found_between ask list from until = found ask (between 0 list from until)

-- A cursor that gave parts stands at a later place of its stretch, and gave all that its ask finds in between.
record Gave (list : List Push) (old new : Cursor) (parts : List PartView) : Type 0 where
  forward : old.at ≤ new.at
  until : new.until ≡ old.until
  rows : rows_in parts ≡ found_between old.ask list old.at new.at

gave : (list : List Push) (old new : Cursor) (parts : List PartView) → old.until ≤ length list → AreParts list old parts new → Gave list old new parts
gave list old new [] within are =
    subst (λ (c : Cursor). Gave list old c []) (sym are)
    (record { forward = omega arith; until = refl; rows = ap (found old.ask) (sym (between_none 0 list old.at)) })
gave list old new (part ∷ parts) within are =
    let one = are.3 in
    let moved : Cursor = record old { at = part.until } in
    let rest = gave list moved new parts within (subst (λ (c : Cursor). AreParts list c parts new) one.moves are.4) in
    let here : part ≡ part_of 0 list old.at part.until old.ask = one.rows tt ∙ part_prefix list are.0 old.ask old.at part.until are.2 (omega (arith, one.within, within)) in
    let forward : old.at ≤ part.until = omega (arith, one.later) in
    record {
      forward = omega (arith, one.later, rest.forward);
      until = rest.until;
      rows =
          ap (λ (l : List Row). part.rows ++ l) rest.rows
          ∙ ap (λ (p : PartView). p.rows ++ found_between old.ask list part.until new.at) here
          ∙ sym (found-append old.ask (between 0 list old.at part.until) (between 0 list part.until new.at))
          ∙ ap (found old.ask) (between_split old.at part.until new.at forward rest.forward 0 list);
    }

-- ---- profiles

module _ (ask : PartAsk) where
  abbrev in_time : Profile → Bool
  in_time profile = nat_le ask.from_ms profile.time_ms && nat_le profile.time_ms ask.until_ms

  abbrev profile_of : Row → Profile
  profile_of row = row.profile

  -- those of one push
  placed_in_time : (push place : ℕ) (profiles : List Profile)
      → map profile_of (filter (is_within ask) (map (λ placed. record { push = push; place = placed.0; profile = placed.1 }) (enumerate_from place profiles))) ≡ filter in_time profiles
  placed_in_time push place [] = refl
  placed_in_time push place (profile ∷ profiles) = by (in_time profile) (placed_in_time push (place + 1) profiles)
    where
      rest : List Row
      rest = filter (is_within ask) (map (λ placed. record { push = push; place = placed.0; profile = placed.1 }) (enumerate_from (place + 1) profiles))

      by : (kept : Bool) → map profile_of rest ≡ filter in_time profiles
          → map profile_of (cond kept (record { push = push; place = place; profile = profile } ∷ rest) rest) ≡ cond kept (profile ∷ filter in_time profiles) (filter in_time profiles)
      by true later = ap (λ (l : List Profile). profile ∷ l) later
      by false later = later

  -- those of all pushes
  profiles_found : (lo : ℕ) (list : List Push) → map profile_of (found ask (enumerate_from lo list)) ≡ filter in_time (flat_map (λ push. push.profiles) (pushes_of list ask.tenant))
  profiles_found lo [] = refl
  profiles_found lo (push ∷ list) = by (pointwise nat_eq push.tenant ask.tenant) (profiles_found (lo + 1) list)
    where
      numbered : List (ℕ × Push)
      numbered = filter (is_of ask.tenant) (enumerate_from (lo + 1) list)

      own : List Push
      own = pushes_of list ask.tenant

      by : (kept : Bool) → map profile_of (filter (is_within ask) (flat_map rows_of_push numbered)) ≡ filter in_time (flat_map (λ push. push.profiles) own)
          → map profile_of (filter (is_within ask) (flat_map rows_of_push (cond kept ((lo, push) ∷ numbered) numbered)))
          ≡ filter in_time (flat_map (λ push. push.profiles) (cond kept (push ∷ own) own))
      by true later =
          let first = rows_of_push (lo, push) in
          let rest = flat_map rows_of_push numbered in
          ap (map profile_of) (filter-append (is_within ask) first rest)
          ∙ map-append profile_of (filter (is_within ask) first) (filter (is_within ask) rest)
          ∙ ap (λ (l : List Profile). l ++ map profile_of (filter (is_within ask) rest)) (placed_in_time lo 0 push.profiles)
          ∙ ap (λ (l : List Profile). filter in_time push.profiles ++ l) later
          ∙ sym (filter-append in_time push.profiles (flat_map (λ one. one.profiles) own))
      by false later = later

take_whole : {X : Type 0} (xs : List X) → take (length xs) xs ≡ xs
take_whole {X} xs = subst (λ (l : List X). take (length xs) l ≡ xs) (append-nil xs) (take-append_seam xs [])

-- what an ask finds in a whole list is the rows of its tenant's whole front
whole_profiles : (list : List Push) (ask : PartAsk) → map (λ row. row.profile) (found_between ask list 0 (length list)) ≡ rows_of list ask.tenant (front_of list ask.tenant) ask.from_ms ask.until_ms
whole_profiles list ask =
    let own = pushes_of list ask.tenant in
    ap (λ (l : List (ℕ × Push)). map (profile_of ask) (found ask l)) (between_all 0 list (length list) (omega arith))
    ∙ profiles_found ask 0 list
    ∙ ap (λ (l : List Push). filter (in_time ask) (flat_map (λ push. push.profiles) l)) (sym (take_whole own))

pub parts_are_whole : PartsAreWhole
parts_are_whole list ask asked first last parts begun are ended =
    let all = gave list first last parts (omega (arith, begun.until)) are in
    let end : last.at ≡ length list = ended ∙ all.until ∙ begun.until in
    let found : rows_in parts ≡ found_between first.ask list 0 (length list) =
    all.rows ∙ ap (λ (n : ℕ). found_between first.ask list n last.at) begun.at ∙ ap (λ (n : ℕ). found_between first.ask list 0 n) end in
    let front : first.front ≡ front_of list first.ask.tenant = begun.front tt ∙ ap (λ (a : PartAsk). front_of list a.tenant) (sym begun.ask_is) in
    record {
      found = found;
      profiles = ap (map (λ (row : Row). row.profile)) found ∙ whole_profiles list first.ask ∙ ap (λ (n : ℕ). rows_of list first.ask.tenant n first.ask.from_ms first.ask.until_ms) (sym front);
    }
