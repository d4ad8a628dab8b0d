-- What the numbers of a written profile name.
use Rattle.std.proofs.Common.{◌≡◌, ◌==◌, ℕ, zero, suc, ◌+◌, ◌<◌, ◌||◌, List, [], ◌∷◌, ◌++◌, length, map, reverse, Bool, true, false, cond, Some, refl, sym, ap, ◌∙◌, arith}
use Rattle.std.specs.Prelude.{find, nat_eq, pos, slice_index_or, unwrap_or, option_map, is_some, ◌&&◌}
use Rattle.std.specs.List.{All, enumerate_from, flat_map, list_all, range_with_len}
use Rattle.std.specs.Cmp.Lexicographic.{bytes_decides, pointwise}
use Rattle.std.proofs.lemmas.Bool.{eq-eqb, ne_eqb, true≢false}
use Rattle.std.proofs.lemmas.List.{get_or-map, length-map, length-reverse, reverse-reverse}
use Rattle.std.proofs.lemmas.List.Elements.{All-head, All-tail}
use Rattle.std.proofs.lemmas.List.Folds.{find_at}
use Rattle.profile_model.specs.Sums.{Sample}
use Rattle.profile_model.specs.declared.kind.ProfileType.{ProfileType}
use Rattle.pprof_message.specs.Pprof.{Location, Pprof}
use Rattle.pprof_message.specs.declared.lists.Function.{Function}
use Rattle.pprof_codec.specs.Members.{function_with, location_with, text_at}
use Rattle.pprof_codec.specs.Frames.{filled_or, frames_at, function_frame, line_frame, location_frames, root_first, stack_of, unknown_frame}
use Rattle.pprof_codec.specs.Profiles as profiles
use Rattle.pprof_codec.specs.Profiles.{samples_of}
use Rattle.pprof_writer.specs.Messages.{said, said_function, said_location, said_sample}
use Rattle.pprof_writer.specs.Tables.{id_of, is_among, place_of}
use Rattle.pprof_writer.proofs.PlaceLemmas.{among-below, at-place}

-- ---- members by their ids

pub find-location : (from n k id : ℕ) → k < n → id ≡ from + k → find (λ (l : Location). l.id == id) (map said_location (range_with_len from n)) ≡ Some (said_location id)
find-location from zero k id within is = absurd (omega arith)
find-location from (suc n) zero id within is =
    let same : from ≡ id = omega arith in
    ap (λ b. cond b (Some (said_location from)) (find (λ (l : Location). l.id == id) (map said_location (range_with_len (from + 1) n)))) (eq-eqb from id same)
    ∙ ap (λ i. Some (said_location i)) same
find-location from (suc n) (suc k) id within is =
    ap (λ b. cond b (Some (said_location from)) (find (λ (l : Location). l.id == id) (map said_location (range_with_len (from + 1) n)))) (ne_eqb from id (λ same. omega arith))
    ∙ find-location (from + 1) n k id (omega arith) (omega arith)

pub find-function : (from : ℕ) (places : List ℕ) (k id : ℕ) → k < length places → id ≡ from + k
    → find (λ (f : Function). f.id == id) (map said_function (enumerate_from from places)) ≡ Some (said_function (id, slice_index_or places k 0))
find-function from [] k id within is = absurd (omega arith)
find-function from (p ∷ places) zero id within is =
    let same : from ≡ id = omega arith in
    ap (λ b. cond b (Some (said_function (from, p))) (find (λ (f : Function). f.id == id) (map said_function (enumerate_from (from + 1) places)))) (eq-eqb from id same)
    ∙ ap (λ i. Some (said_function (i, p))) same
find-function from (p ∷ places) (suc k) id within is =
    ap (λ b. cond b (Some (said_function (from, p))) (find (λ (f : Function). f.id == id) (map said_function (enumerate_from (from + 1) places)))) (ne_eqb from id (λ same. omega arith))
    ∙ find-function (from + 1) places k id (omega arith) (omega arith)

-- ---- texts by their places

find-own : (texts : List (List ℕ)) (text : List ℕ) → is_among texts text ≡ true → find (pointwise nat_eq text) texts ≡ Some text
find-own [] text among = absurd (true≢false (sym among))
find-own (t ∷ texts) text among = by (pointwise nat_eq text t) refl among (find-own texts text)
  where
    by : (b : Bool) → pointwise nat_eq text t ≡ b → (b || is_among texts text) ≡ true → (is_among texts text ≡ true → find (pointwise nat_eq text) texts ≡ Some text)
        → cond b (Some t) (find (pointwise nat_eq text) texts) ≡ Some text
    by true is h later = ap Some (sym ((bytes_decides text t).0 is))
    by false is h later = later h

pub text-found : (texts : List (List ℕ)) (text : List ℕ) → is_among texts text ≡ true → text_at texts (pos (place_of texts text)) ≡ text
text-found texts text among = ap (λ o. unwrap_or o []) (sym (find_at (pointwise nat_eq text) texts) ∙ find-own texts text among)

filled : (frame other : List ℕ) → 0 < length frame → filled_or frame other ≡ frame
filled [] other some = absurd (omega arith)
filled (b ∷ bs) other some = refl

-- what is known of a frame
pub record IsNamed (frames texts : List (List ℕ)) (frame : List ℕ) : Type 0 where
  pub some : 0 < length frame
  pub among_frames : is_among frames frame ≡ true
  pub among_texts : is_among texts frame ≡ true

pub function-named : (texts frames : List (List ℕ)) (frame : List ℕ) (id : ℕ) → IsNamed frames texts frame → function_frame texts (said_function (id, place_of texts frame)) ≡ frame
unfolding function_frame
function-named texts frames frame id named =
    let other = filled_or (text_at texts (pos 0)) unknown_frame in
    ap (λ t. filled_or t other) (text-found texts frame named.among_texts) ∙ filled frame other named.some

module _ (frames texts : List (List ℕ)) (kind : ProfileType) (sums : List Sample) where
  abbrev whole : Pprof
  whole = said frames texts kind sums

  location-known : (frame : List ℕ) → IsNamed frames texts frame → location_with whole (id_of frames frame) ≡ Some (said_location (id_of frames frame))
  location-known frame named =
      let below = among-below frames frame named.among_frames in
      find-location 1 (length frames) (place_of frames frame) (id_of frames frame) below (omega arith)

  pub function-known : (frame : List ℕ) → IsNamed frames texts frame → function_with whole (id_of frames frame) ≡ Some (said_function (id_of frames frame, place_of texts frame))
  function-known frame named =
      let below = among-below frames frame named.among_frames in
      let long = length-map frames (place_of texts) in
      find-function 1 (map (place_of texts) frames) (place_of frames frame) (id_of frames frame) (omega arith) (omega arith)
      ∙ ap (λ p. Some (said_function (id_of frames frame, p)))
      (get_or-map (place_of texts) frames (place_of frames frame) [] 0 below ∙ ap (place_of texts) (sym (at-place frames frame [] below)))

  pub line-known : (frame : List ℕ) → IsNamed frames texts frame → line_frame whole (id_of frames frame) ≡ frame
  unfolding line_frame
  line-known frame named =
      ap (λ b. cond b unknown_frame (unwrap_or (option_map (function_frame texts) (function_with whole (id_of frames frame))) unknown_frame)) (ne_eqb (id_of frames frame) 0 (λ same. omega arith))
      ∙ ap (λ o. unwrap_or (option_map (function_frame texts) o) unknown_frame) (function-known frame named)
      ∙ function-named texts frames frame (id_of frames frame) named

  pub frames-known : (frame : List ℕ) → IsNamed frames texts frame → frames_at whole (id_of frames frame) ≡ frame ∷ []
  unfolding frames_at location_frames
  frames-known frame named =
      ap (λ o. unwrap_or (option_map (location_frames whole) o) []) (location-known frame named)
      ∙ ap (λ f. f ∷ []) (line-known frame named)

  flat-known : (stack : List (List ℕ)) → All (IsNamed frames texts) stack → flat_map (frames_at whole) (map (id_of frames) stack) ≡ stack
  flat-known [] named = refl
  flat-known (f ∷ stack) named =
      (λ i. frames-known f (All-head (IsNamed frames texts) f stack named) i ++ flat-known stack (All-tail (IsNamed frames texts) f stack named) i)

  root-some : (ids : List ℕ) → 0 < length ids → root_first whole ids ≡ reverse (flat_map (frames_at whole) ids)
  root-some [] some = absurd (omega arith)
  root-some (id ∷ ids) some = refl

  pub stack-known : (sample : Sample) → 0 < length sample.0 → All (IsNamed frames texts) (reverse sample.0) → stack_of whole (said_sample frames sample) ≡ sample.0
  unfolding stack_of
  stack-known sample some named =
      let one = length-map (reverse sample.0) (id_of frames) in
      let two = length-reverse sample.0 in
      root-some (map (id_of frames) (reverse sample.0)) (omega arith)
      ∙ ap reverse (flat-known (reverse sample.0) named) ∙ reverse-reverse sample.0

  samples-from : (rest : List Sample) → All (λ s. 0 < length s.0) rest → All (λ s. All (IsNamed frames texts) (reverse s.0)) rest
      → map (λ sample. (stack_of whole sample, profiles.value_of 0 sample)) (map (said_sample frames) rest) ≡ rest
  samples-from [] some named = refl
  samples-from (s ∷ rest) some named =
      let stack = stack-known s (All-head (λ (s : Sample). 0 < length s.0) s rest some) (All-head (λ (s : Sample). All (IsNamed frames texts) (reverse s.0)) s rest named) in
      let later = samples-from rest (All-tail (λ (s : Sample). 0 < length s.0) s rest some) (All-tail (λ (s : Sample). All (IsNamed frames texts) (reverse s.0)) s rest named) in
      (λ i. (stack i, s.1) ∷ later i)

  pub samples-known : All (λ s. 0 < length s.0) sums → All (λ s. All (IsNamed frames texts) (reverse s.0)) sums → samples_of whole 0 ≡ sums
  unfolding samples_of
  samples-known some named = samples-from sums some named

  pub locations-known : (stack : List (List ℕ)) → All (IsNamed frames texts) stack → list_all (λ id. is_some (location_with whole id)) (map (id_of frames) stack) ≡ true
  locations-known [] named = refl
  locations-known (f ∷ stack) named =
      (λ i. is_some (location-known f (All-head (IsNamed frames texts) f stack named) i) && locations-known stack (All-tail (IsNamed frames texts) f stack named) i)
