-- Members found by their ids in the tables.
use Rattle.std.proofs.Common.{◌≡◌, ⊎_elim, ℕ, suc, ◌+◌, ◌<◌, ◌≤◌, List, [], ◌∷◌, length, Bool, true, false, cond, Option, Some, None, Bor, refl, sym, ap, ◌∙◌}
use Rattle.std.specs.Prelude.{◌==◌, nat_lt, not, map, is_some, ◌||◌, ◌&&◌, option_map, option_and_then, slice_get, unwrap_or, find, if◌then◌else◌}
use Rattle.std.specs.List.{position_or_len, list_all}
use Rattle.std.specs.Option.{option_copied}
use Rattle.std.proofs.lemmas.Bool.{cases_lt, lt-ltb, le-ltb}
use Rattle.std.proofs.lemmas.List.Folds.{find_at}
use Rattle.std.proofs.lemmas.Option.{slice_get-map, slice_get_past}
use Rattle.pprof_message.specs.Pprof.{Pprof}
use Rattle.pprof_codec.specs.Members.{function_with, location_with}
use Rattle.pprof_codec.specs.Frames.{function_frame, line_frame, location_frames, frames_at, unknown_frame}
use Rattle.pprof_codec.specs.Checks.{has_function}
use Rattle.pprof_codec.specs.Tables.{AreFunctions, AreLocations, found_in}

-- ---- a list of members, their ids and what each has

module _ {A X : Type 0} (key : A → ℕ) (value : A → X) (id : ℕ) where
  place-map : (xs : List A) → position_or_len (λ known. known == id) (map key xs) ≡ position_or_len (λ x. key x == id) xs
  place-map [] = refl
  place-map (x ∷ xs) = ap (λ n. cond (not (key x == id)) (1 + n) 0) (place-map xs)

  length-keys : (xs : List A) → length (map key xs) ≡ length xs
  length-keys [] = refl
  length-keys (x ∷ xs) = ap suc (length-keys xs)

  at-place : (xs : List A) (n : ℕ) → option_and_then (slice_get (map value xs)) (cond (nat_lt n (length xs)) (Some n) None) ≡ option_map value (slice_get xs n)
  at-place xs n = ⊎_elim within past (cases_lt n (length xs))
    where
      within : n < length xs → option_and_then (slice_get (map value xs)) (cond (nat_lt n (length xs)) (Some n) None) ≡ option_map value (slice_get xs n)
      within less = ap (λ b. option_and_then (slice_get (map value xs)) (cond b (Some n) None)) (lt-ltb n (length xs) less) ∙ slice_get-map value xs n

      past : length xs ≤ n → option_and_then (slice_get (map value xs)) (cond (nat_lt n (length xs)) (Some n) None) ≡ option_map value (slice_get xs n)
      past least =
          ap (λ b. option_and_then (slice_get (map value xs)) (cond b (Some n) None)) (le-ltb n (length xs) least)
          ∙ ap (option_map value) (sym (slice_get_past xs n least))

  pub found-map : (xs : List A) → found_in (map key xs) (map value xs) id ≡ option_map value (find (λ x. key x == id) xs)
  found-map xs =
      ap (λ n. option_and_then (slice_get (map value xs)) (cond (nat_lt n (length (map key xs))) (Some n) None)) (place-map xs)
      ∙ ap (λ m. option_and_then (slice_get (map value xs)) (cond (nat_lt (position_or_len (λ x. key x == id) xs) m) (Some (position_or_len (λ x. key x == id) xs)) None)) (length-keys xs)
      ∙ at-place xs (position_or_len (λ x. key x == id) xs)
      ∙ ap (option_map value) (sym (find_at (λ x. key x == id) xs))

-- what a reference points to is there where it is
pub is_some-copied : {X : Type 0} (found : Option (Bor X)) → is_some found ≡ is_some (option_copied found)
is_some-copied None = refl
is_some-copied (Some x) = refl

pub list_all-same : {X : Type 0} (p q : X → Bool) → ((x : X) → p x ≡ q x) → (xs : List X) → list_all p xs ≡ list_all q xs
list_all-same p q same [] = refl
list_all-same p q same (x ∷ xs) = (λ k. same x k && list_all-same p q same xs k)

-- ---- functions

pub found-function : (pprof : Pprof) (ids : List ℕ) (frames : List (List ℕ)) (id : ℕ) → AreFunctions pprof ids frames
    → found_in ids frames id ≡ option_map (function_frame pprof.texts) (function_with pprof id)
found-function pprof ids frames id are =
    ap (λ known. found_in known frames id) are.known ∙ ap (λ framed. found_in (map (λ f. f.id) pprof.functions) framed id) are.framed
    ∙ found-map (λ f. f.id) (function_frame pprof.texts) id pprof.functions

is_some-map : {A X : Type 0} (f : A → X) (found : Option A) → is_some (option_map f found) ≡ is_some found
is_some-map f None = refl
is_some-map f (Some x) = refl

pub function-is_found : (pprof : Pprof) (ids : List ℕ) (frames : List (List ℕ)) (id : ℕ) → AreFunctions pprof ids frames
    → is_some (found_in ids frames id) ≡ is_some (function_with pprof id)
function-is_found pprof ids frames id are =
    ap is_some (found-function pprof ids frames id are) ∙ is_some-map (function_frame pprof.texts) (function_with pprof id)

pub line-zero : (pprof : Pprof) (id : ℕ) → (id == 0) ≡ true → line_frame pprof id ≡ unknown_frame
unfolding line_frame
line-zero pprof id is = ap (λ b. if b then unknown_frame else unwrap_or (option_map (function_frame pprof.texts) (function_with pprof id)) unknown_frame) is

pub line-found : (pprof : Pprof) (ids : List ℕ) (frames : List (List ℕ)) (id : ℕ) → AreFunctions pprof ids frames → (id == 0) ≡ false
    → line_frame pprof id ≡ unwrap_or (found_in ids frames id) unknown_frame
unfolding line_frame
line-found pprof ids frames id are is =
    ap (λ b. if b then unknown_frame else unwrap_or (option_map (function_frame pprof.texts) (function_with pprof id)) unknown_frame) is
    ∙ ap (λ found. unwrap_or found unknown_frame) (sym (found-function pprof ids frames id are))

-- ---- locations

pub found-location : (pprof : Pprof) (ids : List ℕ) (frames : List (List (List ℕ))) (id : ℕ) → AreLocations pprof ids frames
    → found_in ids frames id ≡ option_map (location_frames pprof) (location_with pprof id)
found-location pprof ids frames id are =
    ap (λ known. found_in known frames id) are.known ∙ ap (λ framed. found_in (map (λ l. l.id) pprof.locations) framed id) are.framed
    ∙ found-map (λ l. l.id) (location_frames pprof) id pprof.locations

pub location-is_found : (pprof : Pprof) (ids : List ℕ) (frames : List (List (List ℕ))) (id : ℕ) → AreLocations pprof ids frames
    → is_some (found_in ids frames id) ≡ is_some (location_with pprof id)
location-is_found pprof ids frames id are =
    ap is_some (found-location pprof ids frames id are) ∙ is_some-map (location_frames pprof) (location_with pprof id)

pub frames-found : (pprof : Pprof) (ids : List ℕ) (frames : List (List (List ℕ))) (id : ℕ) → AreLocations pprof ids frames
    → frames_at pprof id ≡ unwrap_or (found_in ids frames id) []
unfolding frames_at
frames-found pprof ids frames id are = ap (λ found. unwrap_or found []) (sym (found-location pprof ids frames id are))

-- ---- whether members are there

pub lines-known : (pprof : Pprof) (ids : List ℕ) (frames : List (List ℕ)) (lines : List ℕ) → AreFunctions pprof ids frames
    → list_all (λ id. (id == 0) || is_some (found_in ids frames id)) lines ≡ list_all (has_function pprof) lines
lines-known pprof ids frames lines are =
    list_all-same (λ id. (id == 0) || is_some (found_in ids frames id)) (has_function pprof) (λ id. ap (λ b. (id == 0) || b) (function-is_found pprof ids frames id are)) lines

pub locations-known : (pprof : Pprof) (ids : List ℕ) (frames : List (List (List ℕ))) (location_ids : List ℕ) → AreLocations pprof ids frames
    → list_all (λ id. is_some (found_in ids frames id)) location_ids ≡ list_all (λ id. is_some (location_with pprof id)) location_ids
locations-known pprof ids frames location_ids are =
    list_all-same (λ id. is_some (found_in ids frames id)) (λ id. is_some (location_with pprof id)) (λ id. location-is_found pprof ids frames id are) location_ids
