-- Parts that follow one another have the rows of the history.
use Rattle.std.proofs.Common.{◌≡◌, ◌∙◌, ◌+◌, ◌≤◌, ◌<◌, ℕ, Bool, true, false, cond, List, [], ◌∷◌, ◌++◌, length, map, take, arith, refl, sym, ap}
use Rattle.std.specs.Prelude.{◌&&◌, filter, flat_map, nat_le, nat_lt}
use Rattle.std.specs.List.{enumerate_from}
use Rattle.std.specs.List.Sorted.{IsPermutation}
use Rattle.std.proofs.lemmas.Bool.{leb-false, leb-true, ltb-false, ltb-true}
use Rattle.std.proofs.lemmas.Grind.{flat_map-append}
use Rattle.std.proofs.lemmas.List.{map-append}
use Rattle.std.proofs.lemmas.List.Elements.{filter-append}
use Rattle.profile_model.specs.declared.part_ask.PartAsk.{PartAsk}
use Rattle.profile_model.specs.declared.profile.Profile.{Profile}
use Rattle.profile_model.specs.declared.push.Push.{Push}
use Rattle.push_history.specs.History.{front_of, pushes_of, rows_of}
use Rattle.segment_file.specs.Parts.{PartView, is_of, is_within, part_of, rows_of_push}
use Rattle.segment_file.specs.declared.part.Row.{Row}
use Rattle.query_merge.proofs.PartLemmas.{placed_profiles}
use Rattle.query_merge.specs.Laws.{ArePartsFrom, PartsAreRows, end_of}
use Rattle.query_merge.specs.Rows.{profiles_of, profiles_of_parts}

-- ---- stretches of pushes

-- those with a number from `from` to below `until`
abbrev between : ℕ → ℕ → List (ℕ × Push) → List (ℕ × Push)
between from until numbered = filter (λ one. nat_le from one.0 && nat_lt one.0 until) numbered

none_below : (lo from until : ℕ) (history : List Push) → until ≤ lo → between from until (enumerate_from lo history) ≡ []
none_below lo from until [] beyond = refl
none_below lo from until (push ∷ history) beyond = by (nat_le from lo) (nat_lt lo until) refl (none_below (lo + 1) from until history (omega arith))
  where
    by : (a b : Bool) → nat_lt lo until ≡ b → between from until (enumerate_from (lo + 1) history) ≡ []
        → cond (a && b) ((lo, push) ∷ between from until (enumerate_from (lo + 1) history)) (between from until (enumerate_from (lo + 1) history)) ≡ []
    by a true is later = let below = ltb-true lo until is in absurd (omega arith)
    by true false is later = later
    by false false is later = later

none_between : (lo from : ℕ) (history : List Push) → between from from (enumerate_from lo history) ≡ []
none_between lo from [] = refl
none_between lo from (push ∷ history) = by (nat_le from lo) (nat_lt lo from) refl refl (none_between (lo + 1) from history)
  where
    by : (a b : Bool) → nat_le from lo ≡ a → nat_lt lo from ≡ b → between from from (enumerate_from (lo + 1) history) ≡ []
        → cond (a && b) ((lo, push) ∷ between from from (enumerate_from (lo + 1) history)) (between from from (enumerate_from (lo + 1) history)) ≡ []
    by true true is below later = let higher = leb-true from lo is in let lower = ltb-true lo from below in absurd (omega arith)
    by true false is below later = later
    by false b is below later = later

all_between : (lo from until : ℕ) (history : List Push) → from ≤ lo → lo + length history ≤ until
    → between from until (enumerate_from lo history) ≡ enumerate_from lo history
all_between lo from until [] begins ends = refl
all_between lo from until (push ∷ history) begins ends =
    by (nat_le from lo) (nat_lt lo until) refl refl (all_between (lo + 1) from until history (omega arith) (omega arith))
  where
    by : (a b : Bool) → nat_le from lo ≡ a → nat_lt lo until ≡ b → between from until (enumerate_from (lo + 1) history) ≡ enumerate_from (lo + 1) history
        → cond (a && b) ((lo, push) ∷ between from until (enumerate_from (lo + 1) history)) (between from until (enumerate_from (lo + 1) history))
        ≡ (lo, push) ∷ enumerate_from (lo + 1) history
    by true true is below later = ap (λ rest. (lo, push) ∷ rest) later
    by true false is below later = let not_below = ltb-false lo until below in absurd (omega arith)
    by false b is below later = let before = leb-false from lo is in absurd (omega arith)

-- one stretch behind another
stretches : (lo from middle until : ℕ) (history : List Push) → from ≤ middle → middle ≤ until
    → between from middle (enumerate_from lo history) ++ between middle until (enumerate_from lo history) ≡ between from until (enumerate_from lo history)
stretches lo from middle until [] first second = refl
stretches lo from middle until (push ∷ history) first second =
    by (nat_le from lo) (nat_lt lo middle) (nat_le middle lo) (nat_lt lo until) refl refl refl refl (stretches (lo + 1) from middle until history first second)
  where
    by : (a b c d : Bool) → nat_le from lo ≡ a → nat_lt lo middle ≡ b → nat_le middle lo ≡ c → nat_lt lo until ≡ d
        → between from middle (enumerate_from (lo + 1) history) ++ between middle until (enumerate_from (lo + 1) history) ≡ between from until (enumerate_from (lo + 1) history)
        → cond (a && b) ((lo, push) ∷ between from middle (enumerate_from (lo + 1) history)) (between from middle (enumerate_from (lo + 1) history))
        ++ cond (c && d) ((lo, push) ∷ between middle until (enumerate_from (lo + 1) history)) (between middle until (enumerate_from (lo + 1) history))
        ≡ cond (a && d) ((lo, push) ∷ between from until (enumerate_from (lo + 1) history)) (between from until (enumerate_from (lo + 1) history))
    by a true true d is_a is_b is_c is_d later = let lower = ltb-true lo middle is_b in let higher = leb-true middle lo is_c in absurd (omega arith)
    by true true false true is_a is_b is_c is_d later = ap (λ rest. (lo, push) ∷ rest) later
    by false true false true is_a is_b is_c is_d later = later
    by a true false false is_a is_b is_c is_d later = let lower = ltb-true lo middle is_b in let beyond = ltb-false lo until is_d in absurd (omega arith)
    by a false false d is_a is_b is_c is_d later = let beyond = ltb-false lo middle is_b in let before = leb-false middle lo is_c in absurd (omega arith)
    by false false true d is_a is_b is_c is_d later = let before = leb-false from lo is_a in let higher = leb-true middle lo is_c in absurd (omega arith)
    by true false true true is_a is_b is_c is_d later =
        let none = none_below (lo + 1) from middle history (let higher = leb-true middle lo is_c in omega arith) in
        ap (λ before. before ++ (lo, push) ∷ between middle until (enumerate_from (lo + 1) history)) none
        ∙ ap (λ rest. (lo, push) ∷ rest) (sym (ap (λ before. before ++ between middle until (enumerate_from (lo + 1) history)) none) ∙ later)
    by true false true false is_a is_b is_c is_d later = later

-- ---- what is found in them

abbrev found : PartAsk → List (ℕ × Push) → List Profile
found ask numbered = profiles_of (filter (is_within ask) (flat_map rows_of_push (filter (is_of ask.tenant) numbered)))

found-append : (ask : PartAsk) (xs ys : List (ℕ × Push)) → found ask (xs ++ ys) ≡ found ask xs ++ found ask ys
found-append ask xs ys =
    ap (λ own. profiles_of (filter (is_within ask) (flat_map rows_of_push own))) (filter-append (is_of ask.tenant) xs ys)
    ∙ ap (λ rows. profiles_of (filter (is_within ask) rows)) (flat_map-append rows_of_push (filter (is_of ask.tenant) xs) (filter (is_of ask.tenant) ys))
    ∙ ap profiles_of (filter-append (is_within ask) (flat_map rows_of_push (filter (is_of ask.tenant) xs)) (flat_map rows_of_push (filter (is_of ask.tenant) ys)))
    ∙ map-append (λ (row : Row). row.profile) (filter (is_within ask) (flat_map rows_of_push (filter (is_of ask.tenant) xs)))
    (filter (is_within ask) (flat_map rows_of_push (filter (is_of ask.tenant) ys)))

goes_up : (history : List Push) (ask : PartAsk) (from : ℕ) (parts : List PartView) → ArePartsFrom history ask from parts → from ≤ end_of from parts
goes_up history ask from [] are = omega arith
goes_up history ask from (part ∷ parts) are = let later = goes_up history ask part.until parts are.2 in let here = are.1 in omega arith

parts_found : (history : List Push) (ask : PartAsk) (from : ℕ) (parts : List PartView) → ArePartsFrom history ask from parts
    → profiles_of_parts parts ≡ found ask (between from (end_of from parts) (enumerate_from 0 history))
parts_found history ask from [] are = sym (ap (found ask) (none_between 0 from history))
parts_found history ask from (part ∷ parts) are =
    (λ i. profiles_of (are.0 i).rows ++ parts_found history ask part.until parts are.2 i)
    ∙ sym (found-append ask (between from part.until (enumerate_from 0 history)) (between part.until (end_of part.until parts) (enumerate_from 0 history)))
    ∙ ap (found ask) (stretches 0 from part.until (end_of part.until parts) history are.1 (goes_up history ask part.until parts are.2))

-- ---- all pushes

filter_profiles : (ask : PartAsk) (rows : List Row)
    → profiles_of (filter (is_within ask) rows) ≡ filter (λ profile. nat_le ask.from_ms profile.time_ms && nat_le profile.time_ms ask.until_ms) (profiles_of rows)
filter_profiles ask [] = refl
filter_profiles ask (row ∷ rows) = by (is_within ask row) (filter_profiles ask rows)
  where
    by : (kept : Bool)
        → profiles_of (filter (is_within ask) rows) ≡ filter (λ profile. nat_le ask.from_ms profile.time_ms && nat_le profile.time_ms ask.until_ms) (profiles_of rows)
        → profiles_of (cond kept (row ∷ filter (is_within ask) rows) (filter (is_within ask) rows))
        ≡ cond kept (row.profile ∷ filter (λ profile. nat_le ask.from_ms profile.time_ms && nat_le profile.time_ms ask.until_ms) (profiles_of rows))
        (filter (λ profile. nat_le ask.from_ms profile.time_ms && nat_le profile.time_ms ask.until_ms) (profiles_of rows))
    by true later = ap (λ rest. row.profile ∷ rest) later
    by false later = later

own_profiles : (tenant : List ℕ) (lo : ℕ) (history : List Push)
    → profiles_of (flat_map rows_of_push (filter (is_of tenant) (enumerate_from lo history))) ≡ flat_map (λ (push : Push). push.profiles) (pushes_of history tenant)
own_profiles tenant lo [] = refl
own_profiles tenant lo (push ∷ history) = by (is_of tenant (lo, push)) (own_profiles tenant (lo + 1) history)
  where
    by : (own : Bool)
        → profiles_of (flat_map rows_of_push (filter (is_of tenant) (enumerate_from (lo + 1) history))) ≡ flat_map (λ (push : Push). push.profiles) (pushes_of history tenant)
        → profiles_of (flat_map rows_of_push (cond own ((lo, push) ∷ filter (is_of tenant) (enumerate_from (lo + 1) history)) (filter (is_of tenant) (enumerate_from (lo + 1) history))))
        ≡ flat_map (λ (push : Push). push.profiles) (cond own (push ∷ pushes_of history tenant) (pushes_of history tenant))
    by true later =
        map-append (λ (row : Row). row.profile) (rows_of_push (lo, push)) (flat_map rows_of_push (filter (is_of tenant) (enumerate_from (lo + 1) history)))
        ∙ (λ i. placed_profiles lo 0 push.profiles i ++ later i)
    by false later = later

take_all : {X : Type 0} (xs : List X) → take (length xs) xs ≡ xs
take_all [] = refl
take_all (x ∷ xs) = ap (λ rest. x ∷ rest) (take_all xs)

pub parts_are_rows : PartsAreRows
parts_are_rows history ask parts are ends =
    parts_found history ask 0 parts are
    ∙ ap (λ until. found ask (between 0 until (enumerate_from 0 history))) ends
    ∙ ap (found ask) (all_between 0 0 (length history) history (omega arith) (omega arith))
    ∙ filter_profiles ask (flat_map rows_of_push (filter (is_of ask.tenant) (enumerate_from 0 history)))
    ∙ ap (filter (λ profile. nat_le ask.from_ms profile.time_ms && nat_le profile.time_ms ask.until_ms)) (own_profiles ask.tenant 0 history)
    ∙ ap (λ pushes. filter (λ profile. nat_le ask.from_ms profile.time_ms && nat_le profile.time_ms ask.until_ms) (flat_map (λ (push : Push). push.profiles) pushes))
    (sym (take_all (pushes_of history ask.tenant)))
