-- A written profile has no fault.
use Rattle.std.proofs.Common.{◌≡◌, ◌==◌, ℕ, zero, suc, ◌+◌, ◌<◌, ◌≤◌, ◌||◌, ◌&&◌, List, [], ◌∷◌, ◌++◌, length, map, reverse, take, Bool, true, false, refl, sym, ap, ◌∙◌, subst, arith}
use Rattle.std.specs.Prelude.{nat_lt, not, is_some, pos, slice_index_or}
use Rattle.std.specs.Str.{IsUtf8, is_utf8}
use Rattle.std.specs.List.{All, enumerate_from, flat_map, range_with_len}
use Rattle.std.proofs.lemmas.Bool.{le-ltb, lt-ltb, ne_eqb}
use Rattle.std.proofs.lemmas.List.{get_or-map, length-map}
use Rattle.std.proofs.lemmas.List.FromFn.{get_or-enumerate_from, get_or-map-range_with_len, length-enumerate_from, length-map-range_with_len}
use Rattle.std.proofs.lemmas.Str.{is_utf8-from_IsUtf8}
use Rattle.profile_model.specs.Limits.{most_frame_bytes, most_frames, total_bound}
use Rattle.profile_model.specs.Sums.{Sample, total_of}
use Rattle.profile_model.specs.declared.kind.ProfileType.{ProfileType}
use Rattle.pprof_message.specs.Pprof.{Location, Pprof}
use Rattle.pprof_message.specs.declared.lists.Function.{Function}
use Rattle.pprof_codec.specs.declared.fault.PprofFault.{PprofFault}
use Rattle.pprof_codec.specs.Checks.{begins_empty, fault_if, faults_of_function, faults_of_location, faults_of_sample, faults_of_text, faults_to_types, first_text_faults, function_faults, has_function, has_id, has_texts, judged_faults, location_faults, period_type_faults, place_faults, sample_faults, sample_type_faults, text_faults, total_faults, type_faults, value_faults}
use Rattle.pprof_codec.specs.Members.{has_text}
use Rattle.pprof_codec.specs.Frames.{function_frame, stack_of}
use Rattle.pprof_codec.specs.Profiles.{samples_of}
use Rattle.pprof_writer.specs.Messages.{said, said_function, said_location, said_sample, said_type}
use Rattle.pprof_writer.specs.Tables.{id_of, is_among, place_of}
use Rattle.pprof_writer.proofs.LookLemmas.{IsNamed, function-known, function-named, locations-known, samples-known, stack-known}
use Rattle.pprof_writer.proofs.PlaceLemmas.{among-below}

none-if : (found : Bool) (fault : PprofFault) → found ≡ false → fault_if found fault ≡ []
none-if found fault is = ap (λ b. fault_if b fault) is

none-unless : (kept : Bool) (fault : PprofFault) → kept ≡ true → fault_if (not kept) fault ≡ []
none-unless kept fault is = ap (λ b. fault_if (not b) fault) is

-- no member has a fault
each-none : {X : Type 0} (faults : ℕ → X → List PprofFault) (from : ℕ) (xs : List X) (d : X) → ((k : ℕ) → k < length xs → faults (from + k) (slice_index_or xs k d) ≡ [])
    → flat_map (λ one. faults one.0 one.1) (enumerate_from from xs) ≡ []
each-none faults from [] d none = refl
each-none faults from (x ∷ xs) d none =
    let here : faults from x ≡ [] = subst (λ n. faults n x ≡ []) (zero_more from) (none 0 (omega arith)) in
    let later = each-none faults (from + 1) xs d (λ k within. subst (λ n. faults n (slice_index_or xs k d) ≡ []) (along from k) (none (suc k) (omega arith))) in
    (λ i. here i ++ later i)
  where
    zero_more : (n : ℕ) → n + 0 ≡ n
    zero_more n = omega arith

    along : (n k : ℕ) → n + suc k ≡ n + 1 + k
    along n k = omega arith

-- ---- ids

lacks : (from n k id : ℕ) → from + k ≤ id → has_id (take k (range_with_len from n)) id ≡ false
lacks from n zero id above = refl
lacks from zero (suc k) id above = refl
lacks from (suc n) (suc k) id above = (λ i. ne_eqb from id (λ same. omega arith) i || lacks (from + 1) n k id (omega arith) i)

function-ids : (from : ℕ) (places : List ℕ) → map (λ (f : Function). f.id) (map said_function (enumerate_from from places)) ≡ range_with_len from (length places)
function-ids from [] = refl
function-ids from (p ∷ places) = ap (λ ids. from ∷ ids) (function-ids (from + 1) places)

location-ids : (from n : ℕ) → map (λ (l : Location). l.id) (map said_location (range_with_len from n)) ≡ range_with_len from n
location-ids from zero = refl
location-ids from (suc n) = ap (λ ids. from ∷ ids) (location-ids (from + 1) n)

-- ---- texts

has-place : (texts : List (List ℕ)) (text : List ℕ) → is_among texts text ≡ true → has_text texts (pos (place_of texts text)) ≡ true
has-place texts text among = lt-ltb (place_of texts text) (length texts) (among-below texts text among)

both : (a b : Bool) → a ≡ true → b ≡ true → (a && b) ≡ true
both true true ha hb = refl
both true false ha hb = hb
both false b ha hb = ha

has-type : (texts : List (List ℕ)) (kind unit : List ℕ) → is_among texts kind ≡ true → is_among texts unit ≡ true → has_texts texts (said_type texts kind unit) ≡ true
has-type texts kind unit first second = both _ _ (has-place texts kind first) (has-place texts unit second)

-- what is known of a profile's frames, texts and sums
pub record AreKnown (frames texts : List (List ℕ)) (kind : ProfileType) (sums : List Sample) : Type 0 where
  pub named : All (IsNamed frames texts) frames
  pub short : All (λ f. length f ≤ most_frame_bytes) frames
  pub own : (k : ℕ) → k < length frames → place_of frames (slice_index_or frames k []) ≡ k
  pub stacks : All (λ s. All (IsNamed frames texts) (reverse s.0)) sums
  pub some : All (λ s. 0 < length s.0) sums
  pub few : All (λ s. length s.0 ≤ most_frames) sums
  pub utf8 : All IsUtf8 texts
  pub begins : begins_empty texts ≡ true
  pub has_some : 0 < length texts
  pub sample_type : is_among texts kind.sample_type ≡ true
  pub sample_unit : is_among texts kind.sample_unit ≡ true
  pub period_type : is_among texts kind.period_type ≡ true
  pub period_unit : is_among texts kind.period_unit ≡ true
  pub total : total_of sums < total_bound

module _ (frames texts : List (List ℕ)) (kind : ProfileType) (sums : List Sample) (known : AreKnown frames texts kind sums) where
  abbrev whole : Pprof
  whole = said frames texts kind sums

  to-types : faults_to_types whole ≡ []
  unfolding faults_to_types first_text_faults text_faults type_faults sample_type_faults period_type_faults
  to-types =
      let first = none-unless (begins_empty texts) _ known.begins in
      let second = each-none faults_of_text 0 texts [] (λ k within. none-unless (is_utf8 (slice_index_or texts k [])) _ (is_utf8-from_IsUtf8 (slice_index_or texts k []) (known.utf8 k [] within))) in
      let third = none-unless (has_texts texts (said_type texts kind.sample_type kind.sample_unit)) _ (has-type texts kind.sample_type kind.sample_unit known.sample_type known.sample_unit) in
      let fourth = none-unless (has_texts texts (said_type texts kind.period_type kind.period_unit)) _ (has-type texts kind.period_type kind.period_unit known.period_type known.period_unit) in
      (λ i. first i ++ second i ++ ((third i ++ []) ++ fourth i))

  function-sound : (ids : List ℕ) (number id : ℕ) (frame : List ℕ) → 0 < id → has_id ids id ≡ false → IsNamed frames texts frame → length frame ≤ most_frame_bytes
      → faults_of_function texts ids number (said_function (id, place_of texts frame)) ≡ []
  unfolding faults_of_function
  function-sound ids number id frame some new named short =
      let first = none-if (id == 0) _ (ne_eqb id 0 (λ same. omega arith)) in
      let second = none-if (has_id ids id) _ new in
      let third = none-unless (has_text texts (pos (place_of texts frame)) && has_text texts (pos 0)) _ (both _ _ (has-place texts frame named.among_texts) (lt-ltb 0 (length texts) known.has_some)) in
      let fourth = none-if (nat_lt most_frame_bytes (length (function_frame texts (said_function (id, place_of texts frame))))) _
      (ap (λ f. nat_lt most_frame_bytes (length f)) (function-named texts frames frame id named) ∙ le-ltb most_frame_bytes (length frame) short) in
      (λ i. first i ++ second i ++ third i ++ fourth i)

  abbrev places : List ℕ
  places = map (place_of texts) frames

  nth-function : (k : ℕ) (d : Function) → k < length frames → slice_index_or (map said_function (enumerate_from 1 places)) k d ≡ said_function (1 + k, place_of texts (slice_index_or frames k []))
  nth-function k d within =
      let long = length-map frames (place_of texts) in
      let count = length-enumerate_from 1 places in
      get_or-map said_function (enumerate_from 1 places) k (0, 0) d (omega arith)
      ∙ ap said_function (get_or-enumerate_from 1 places k (0, 0) (omega arith) ∙ (λ i. (1 + k, get_or-map (place_of texts) frames k [] 0 within i)))

  functions-none : function_faults texts (map said_function (enumerate_from 1 places)) ≡ []
  unfolding function_faults
  functions-none =
      let functions = map said_function (enumerate_from 1 places) in
      let long = length-map frames (place_of texts) in
      let count = length-enumerate_from 1 places in
      let all = length-map (enumerate_from 1 places) said_function in
      let none : Function = said_function (0, 0) in
      each-none (λ number function. faults_of_function texts (take number (map (λ (f : Function). f.id) functions)) number function) 0 functions none
      (λ k within. let inside : k < length frames = omega arith in
      let shift : 0 + k ≡ k = omega arith in
      subst (λ n. faults_of_function texts (take n (map (λ (f : Function). f.id) functions)) n (slice_index_or functions k none) ≡ []) (sym shift)
      (ap (faults_of_function texts (take k (map (λ (f : Function). f.id) functions)) k) (nth-function k none inside)
      ∙ function-sound (take k (map (λ (f : Function). f.id) functions)) k (1 + k) (slice_index_or frames k []) (omega arith)
      (ap (λ ids. has_id (take k ids) (1 + k)) (function-ids 1 places) ∙ lacks 1 (length places) k (1 + k) (omega arith))
      (known.named k [] inside) (known.short k [] inside)))

  line-has : (k : ℕ) → k < length frames → has_function whole (1 + k) ≡ true
  line-has k within =
      let frame = slice_index_or frames k [] in
      let named = known.named k [] within in
      let same : id_of frames frame ≡ 1 + k = (let own = known.own k within in omega arith) in
      subst (λ id. has_function whole id ≡ true) same
      (ap (λ o. (id_of frames frame == 0) || is_some o) (function-known frames texts kind sums frame named) ∙ last (id_of frames frame == 0))
    where
      last : (b : Bool) → (b || true) ≡ true
      last true = refl
      last false = refl

  location-sound : (ids : List ℕ) (number id : ℕ) → 0 < id → has_id ids id ≡ false → has_function whole id ≡ true → faults_of_location whole ids number (said_location id) ≡ []
  unfolding faults_of_location
  location-sound ids number id some new has =
      let first = none-if (id == 0) _ (ne_eqb id 0 (λ same. omega arith)) in
      let second = none-if (has_id ids id) _ new in
      let third = none-unless (has_function whole id && true) _ (both _ _ has refl) in
      (λ i. first i ++ second i ++ third i)

  locations-none : location_faults whole ≡ []
  unfolding location_faults
  locations-none =
      let locations = map said_location (range_with_len 1 (length frames)) in
      let long = length-map-range_with_len said_location 1 (length frames) in
      let none : Location = said_location 0 in
      each-none (λ number location. faults_of_location whole (take number (map (λ (l : Location). l.id) locations)) number location) 0 locations none
      (λ k within. let inside : k < length frames = omega arith in
      let shift : 0 + k ≡ k = omega arith in
      subst (λ n. faults_of_location whole (take n (map (λ (l : Location). l.id) locations)) n (slice_index_or locations k none) ≡ []) (sym shift)
      (ap (faults_of_location whole (take k (map (λ (l : Location). l.id) locations)) k) (get_or-map-range_with_len said_location 1 (length frames) k (1 + k) none inside refl)
      ∙ location-sound (take k (map (λ (l : Location). l.id) locations)) k (1 + k) (omega arith)
      (ap (λ ids. has_id (take k ids) (1 + k)) (location-ids 1 (length frames)) ∙ lacks 1 (length frames) k (1 + k) (omega arith)) (line-has k inside)))

  sample-sound : (number : ℕ) (s : Sample) → 0 < length s.0 → length s.0 ≤ most_frames → All (IsNamed frames texts) (reverse s.0) → faults_of_sample whole number (said_sample frames s) ≡ []
  unfolding faults_of_sample
  sample-sound number s some few named =
      let second = none-unless _ _ (locations-known frames texts kind sums (reverse s.0) named) in
      let third = none-if (nat_lt most_frames (length (stack_of whole (said_sample frames s)))) _
      (ap (λ f. nat_lt most_frames (length f)) (stack-known frames texts kind sums s some named) ∙ le-ltb most_frames (length s.0) few) in
      (λ i. [] ++ second i ++ third i ++ [] ++ [])

  samples-none : sample_faults whole ≡ []
  unfolding sample_faults
  samples-none =
      let long = length-map sums (said_sample frames) in
      let none : Sample = ([], 0) in
      each-none (faults_of_sample whole) 0 (map (said_sample frames) sums) (said_sample frames none)
      (λ k within. let inside : k < length sums = omega arith in
      let s = slice_index_or sums k none in
      ap (faults_of_sample whole (0 + k)) (get_or-map (said_sample frames) sums k none (said_sample frames none) inside)
      ∙ sample-sound (0 + k) s (known.some k none inside) (known.few k none inside) (known.stacks k none inside))

  totals-none : total_faults whole ≡ []
  unfolding total_faults
  totals-none =
      let is = none-unless (nat_lt (total_of (samples_of whole 0)) total_bound) _
      (ap (λ s. nat_lt (total_of s) total_bound) (samples-known frames texts kind sums known.some known.stacks) ∙ lt-ltb (total_of sums) total_bound known.total) in
      (λ i. is i ++ [])

  pub judged-none : judged_faults whole ≡ []
  unfolding judged_faults place_faults value_faults
  judged-none = (λ i. to-types i ++ (functions-none i ++ locations-none i) ++ (samples-none i ++ totals-none i))
