-- Frames by their numbers.
use Rattle.std.proofs.Common.{◌≡◌, ℕ, suc, Bool, cond, ◌+◌, ◌<◌, List, [], ◌∷◌, ◌++◌, length, get_or, Option, Some, None, Result, Ok, Err, refl, sym, ap, ◌∙◌, subst, arith}
use Rattle.std.specs.Prelude.{◌==◌, false, true, map, reverse, option_map, option_and_then, slice_get, unwrap_or, IfOk, MatchResult, Vec}
use Rattle.std.proofs.lemmas.List.{get_or_append_left, get_or-append-add, get_or-map}
use Rattle.std.specs.List.{flat_map}
use Rattle.std.proofs.lemmas.List.FromFn.{get_or-range_with_len, length-range_with_len}
use Rattle.std.specs.Map.{lookup}
use Rattle.std.specs.BTreeMap.{is_at}
use Rattle.std.specs.Ordering.{nat_cmp}
use Rattle.std.specs.declared.cmp.Ordering.{Ordering}
use Rattle.std.specs.Cmp.Lexicographic.{bytes_decides, slice_cmp, texts_ties}
use Rattle.std.proofs.lemmas.Option.{slice_get-map}
use Rattle.std.proofs.Math.Seq.{get_or-append_seam}
use Rattle.profile_model.specs.CleanedTexts.{cleaned}
use Rattle.profile_model.specs.Kinds.{IsPart}
use Rattle.profile_model.specs.Stacks.{name_cmp}
use Rattle.pprof_message.specs.declared.lists.Function.{Function}
use Rattle.pprof_message.specs.Pprof.{Location, Pprof, Sample}
use Rattle.pprof_codec.specs.Members.{text_at}
use Rattle.pprof_codec.specs.Frames.{address_frame, frames_of, function_frame, line_frame, location_frames, frames_at, root_first, stack_of, unknown_frame}
use Rattle.pprof_codec.specs.Tables.{AreAlike, AreFirsts, AreFunctions, AreLocations, AreNumberedFrames, AreParts, found_in, frame_numbered, number_of, numbered_frames, numbers_of, stack_at}
use Rattle.pprof_codec.proofs.FaultLemmas.{get-some}
use Rattle.pprof_codec.proofs.MemberLemmas.{function-named, function-system_named, function-unnamed}
use Rattle.pprof_codec.proofs.LineLemmas.{lines-framed}
use Rattle.pprof_codec.proofs.TableLemmas.{frames-found, line-found, line-zero}
use Rattle.pprof_codec.proofs.OrderLemmas.{ids-at}

-- ---- the place of a function's frame

module _ (texts : List (List ℕ)) (function : Function) (rest : List (List ℕ)) where
  pub placed-named : (place : ℕ) → place < length texts → get_or texts place [] ≡ text_at texts function.name → 0 < length (get_or texts place [])
      → get_or (texts ++ unknown_frame ∷ rest) place [] ≡ function_frame texts function
  placed-named place within is some =
      get_or_append_left texts (unknown_frame ∷ rest) [] place within ∙ function-named texts function (get_or texts place []) is some

  pub placed-system_named : (place : ℕ) → text_at texts function.name ≡ [] → place < length texts → get_or texts place [] ≡ text_at texts function.system_name
      → 0 < length (get_or texts place []) → get_or (texts ++ unknown_frame ∷ rest) place [] ≡ function_frame texts function
  placed-system_named place none within is some =
      get_or_append_left texts (unknown_frame ∷ rest) [] place within ∙ function-system_named texts function (get_or texts place []) none is some

  pub placed-unnamed : (place : ℕ) → place ≡ length texts → text_at texts function.name ≡ [] → text_at texts function.system_name ≡ []
      → get_or (texts ++ unknown_frame ∷ rest) place [] ≡ function_frame texts function
  placed-unnamed place last none no_system =
      ap (λ n. get_or (texts ++ unknown_frame ∷ rest) n []) last ∙ get_or-append_seam texts unknown_frame rest [] ∙ function-unnamed texts function none no_system

-- ---- what a number tells

pub unknown-numbered : (pprof : Pprof) (number : ℕ) → number ≡ length pprof.texts → frame_numbered pprof number ≡ unknown_frame
unfolding numbered_frames
unknown-numbered pprof number last =
    let rest = map (λ (l : Location). address_frame l.address) pprof.locations in
    ap (λ n. get_or (pprof.texts ++ unknown_frame ∷ rest) n []) last ∙ get_or-append_seam pprof.texts unknown_frame rest []

pub address-numbered : (pprof : Pprof) (at number : ℕ) (location : Location) → slice_get pprof.locations at ≡ Some location → number ≡ length pprof.texts + 1 + at
    → frame_numbered pprof number ≡ address_frame location.address
unfolding numbered_frames
address-numbered pprof at number location is place =
    let rest = map (λ (l : Location). address_frame l.address) pprof.locations in
    let read = get-some pprof.locations at location is in
    let e : number ≡ length pprof.texts + suc at = omega arith in
    ap (λ n. get_or (pprof.texts ++ unknown_frame ∷ rest) n []) e
    ∙ get_or-append-add pprof.texts (unknown_frame ∷ rest) (suc at) []
    ∙ get_or-map (λ (l : Location). address_frame l.address) pprof.locations at location [] read.0
    ∙ ap (λ (l : Location). address_frame l.address) read.1

-- ---- members found

found-numbered : {A X : Type 0} (view : A → X) (ids : List ℕ) (values : List A) (id : ℕ) → found_in ids (map view values) id ≡ option_map view (found_in ids values id)
found-numbered view ids values id = by (number_of ids id)
  where
    by : (found : Option ℕ) → option_and_then (slice_get (map view values)) found ≡ option_map view (option_and_then (slice_get values) found)
    by None = refl
    by (Some n) = slice_get-map view values n

some-line : {A X : Type 0} (view : A → X) (found : Option A) (one : A) (d : X) → found ≡ Some one → view one ≡ unwrap_or (option_map view found) d
some-line view found one d is = ap (λ f. unwrap_or (option_map view f) d) (sym is)

module _ (pprof : Pprof) (ids : List ℕ) (frames : List (List ℕ)) (places : List ℕ) (are : AreFunctions pprof ids frames) (placed : map (frame_numbered pprof) places ≡ frames) (id : ℕ) where
  line-from : (id == 0) ≡ false → line_frame pprof id ≡ unwrap_or (option_map (frame_numbered pprof) (found_in ids places id)) unknown_frame
  line-from other =
      line-found pprof ids frames id are other
      ∙ ap (λ known. unwrap_or (found_in ids known id) unknown_frame) (sym placed)
      ∙ ap (λ found. unwrap_or found unknown_frame) (found-numbered (frame_numbered pprof) ids places id)

  pub line-numbered : (place : ℕ) → (id == 0) ≡ false → Some place ≡ found_in ids places id → frame_numbered pprof place ≡ line_frame pprof id
  line-numbered place other is =
      some-line (frame_numbered pprof) (found_in ids places id) place unknown_frame (sym is) ∙ sym (line-from other)

  pub line-unnumbered : (place : ℕ) → place ≡ length pprof.texts → (id == 0) ≡ false → None ≡ found_in ids places id → frame_numbered pprof place ≡ line_frame pprof id
  line-unnumbered place last other is =
      unknown-numbered pprof place last ∙ ap (λ found. unwrap_or (option_map (frame_numbered pprof) found) unknown_frame) is ∙ sym (line-from other)

  pub line-none : (place : ℕ) → place ≡ length pprof.texts → (id == 0) ≡ true → frame_numbered pprof place ≡ line_frame pprof id
  line-none place last is = unknown-numbered pprof place last ∙ sym (line-zero pprof id is)

-- ---- the numbers of a location's frames

pub lines-numbered : {E Z : Type 0} (pprof : Pprof) (location : Location) (made : Result (Vec ℕ Z) E) → 0 < length location.lines
    → IfOk made (λ numbers. map (frame_numbered pprof) numbers.items ≡ map (line_frame pprof) location.lines)
    → IfOk made (λ numbers. map (frame_numbered pprof) numbers.items ≡ location_frames pprof location)
lines-numbered pprof location (Err e) some is = tt
lines-numbered pprof location (Ok numbers) some is = lines-framed pprof location (map (frame_numbered pprof) numbers.items) some is

pub address-framed_by : (pprof : Pprof) (at number : ℕ) (location : Location) → slice_get pprof.locations at ≡ Some location → number ≡ length pprof.texts + 1 + at
    → length location.lines ≡ 0 → frame_numbered pprof number ∷ [] ≡ location_frames pprof location
unfolding location_frames
address-framed_by pprof at number location is place none =
    ap (λ f. f ∷ []) (address-numbered pprof at number location is place) ∙ by location.lines none
  where
    by : (ids : List ℕ) → length ids ≡ 0 → address_frame location.address ∷ [] ≡ frames_of pprof ids location.address
    by [] h = refl
    by (id ∷ ids) h = absurd (omega arith)

-- ---- stacks by numbers

pub stack-told : (pprof : Pprof) (at : ℕ) (sample : Sample) (stack : List (List ℕ)) → slice_get pprof.samples at ≡ Some sample → stack ≡ stack_of pprof sample
    → stack ≡ stack_at pprof at
unfolding stack_of
stack-told pprof at sample stack read is =
    let found = get-some pprof.samples at sample read in
    is ∙ ap (root_first pprof) (sym (ids-at pprof at sample found.0 found.1))

module _ {Z : Type 0} (pprof : Pprof) (key : Vec ℕ Z) (at : ℕ) (old new : List (Vec ℕ Z × ℕ)) where
  abbrev compare : Vec ℕ Z → Vec ℕ Z → Ordering
  compare a b = slice_cmp nat_cmp a.items b.items

  pub firsts-more : ((q : Vec ℕ Z) → lookup (is_at (compare q)) new ≡ cond (is_at (compare key) q) (Some at) (lookup (is_at (compare q)) old))
      → AreFirsts pprof old → reverse (map (frame_numbered pprof) key.items) ≡ stack_at pprof at → AreFirsts pprof new
  firsts-more step before own q other is = by (is_at (compare key) q) refl (sym (step q) ∙ is)
    where
      by : (b : Bool) → is_at (compare key) q ≡ b → cond b (Some at) (lookup (is_at (compare q)) old) ≡ Some other
          → reverse (map (frame_numbered pprof) q.items) ≡ stack_at pprof other
      by true same held =
          let e : at ≡ other = cc in
          ap (λ xs. reverse (map (frame_numbered pprof) xs)) (sym ((bytes_decides key.items q.items).0 (texts_ties key.items q.items ∙ same)))
          ∙ own ∙ ap (stack_at pprof) e
      by false none held = before q other held

-- the sample that is told for another has its stack
alike-at : (pprof : Pprof) (numbers : List ℕ) (at : ℕ) → AreAlike pprof numbers → at < length pprof.samples
    → stack_at pprof (unwrap_or (slice_get numbers at) at) ≡ stack_at pprof at
alike-at pprof numbers at alike within = by (slice_get numbers at) refl
  where
    by : (found : Option ℕ) → slice_get numbers at ≡ found → stack_at pprof (unwrap_or found at) ≡ stack_at pprof at
    by None none = refl
    by (Some number) is =
        let read = get-some numbers at number is in
        let size = length-range_with_len 0 (length pprof.samples) in
        let place : get_or (numbers_of pprof) at at ≡ at = (let e : 0 + at ≡ at = omega arith in get_or-range_with_len 0 (length pprof.samples) at at (omega arith) ∙ e) in
        ap (stack_at pprof) (sym read.1)
        ∙ sym (get_or-map (stack_at pprof) numbers at number [] read.0)
        ∙ ap (λ (stacks : List (List (List ℕ))). get_or stacks at []) alike
        ∙ get_or-map (stack_at pprof) (numbers_of pprof) at at [] (omega arith)
        ∙ ap (stack_at pprof) place

pub alike-both : (pprof : Pprof) (numbers : List ℕ) (a b : ℕ) → AreAlike pprof numbers → a < length pprof.samples → b < length pprof.samples
    → unwrap_or (slice_get numbers a) a ≡ unwrap_or (slice_get numbers b) b → stack_at pprof a ≡ stack_at pprof b
alike-both pprof numbers a b alike first second same =
    sym (alike-at pprof numbers a alike first) ∙ ap (stack_at pprof) same ∙ alike-at pprof numbers b alike second

-- the frames of a sample's locations by their numbers
pub numbers-found : {Z : Type 0} (pprof : Pprof) (ids : List ℕ) (frames : List (List (List ℕ))) (numbers : List (Vec ℕ Z)) (id : ℕ)
    → AreLocations pprof ids frames → AreNumberedFrames pprof numbers
    → unwrap_or (option_map (λ one. map (frame_numbered pprof) one.items) (found_in ids numbers id)) [] ≡ frames_at pprof id
numbers-found {Z} pprof ids frames numbers id are numbered =
    let view : Vec ℕ Z → List (List ℕ) = λ one. map (frame_numbered pprof) one.items in
    ap (λ found. unwrap_or found []) (sym (found-numbered view ids numbers id))
    ∙ ap (λ known. unwrap_or (found_in ids known id) []) (numbered ∙ sym are.framed)
    ∙ sym (frames-found pprof ids frames id are)

pub leaves-turned : (pprof : Pprof) (sample : Sample) (frames : List (List ℕ)) → 0 < length sample.location_ids
    → frames ≡ flat_map (frames_at pprof) sample.location_ids → reverse frames ≡ stack_of pprof sample
unfolding stack_of
leaves-turned pprof sample frames some is = ap reverse is ∙ by sample.location_ids some
  where
    by : (ids : List ℕ) → 0 < length ids → reverse (flat_map (frames_at pprof) ids) ≡ root_first pprof ids
    by [] h = absurd (omega arith)
    by (id ∷ ids) h = refl

none-turned : (pprof : Pprof) (sample : Sample) (frames : List (List ℕ)) → length sample.location_ids ≡ 0
    → frames ≡ unknown_frame ∷ [] → reverse frames ≡ stack_of pprof sample
unfolding stack_of
none-turned pprof sample frames none is = ap reverse is ∙ by sample.location_ids none
  where
    by : (ids : List ℕ) → length ids ≡ 0 → reverse (unknown_frame ∷ []) ≡ root_first pprof ids
    by [] h = refl
    by (id ∷ ids) h = absurd (omega arith)

pub alone-turned : {E Z : Type 0} (pprof : Pprof) (sample : Sample) (made : Result (Vec ℕ Z) E) → length sample.location_ids ≡ 0
    → IfOk made (λ numbers. map (frame_numbered pprof) numbers.items ≡ unknown_frame ∷ [])
    → IfOk made (λ numbers. reverse (map (frame_numbered pprof) numbers.items) ≡ stack_of pprof sample)
alone-turned pprof sample (Err e) none is = tt
alone-turned pprof sample (Ok numbers) none is = none-turned pprof sample (map (frame_numbered pprof) numbers.items) none is

-- ---- the parts of types

module _ (key part : List ℕ) (old new : List (List ℕ × List ℕ)) where
  pub parts-more : ((q : List ℕ) → lookup (is_at (name_cmp q)) new ≡ cond (is_at (name_cmp key) q) (Some part) (lookup (is_at (name_cmp q)) old))
      → AreParts old → part ≡ cleaned key → IsPart part → AreParts new
  parts-more step before own is_part q other is = by (is_at (name_cmp key) q) refl (sym (step q) ∙ is)
    where
      by : (b : Bool) → is_at (name_cmp key) q ≡ b → cond b (Some part) (lookup (is_at (name_cmp q)) old) ≡ Some other
          → (other ≡ cleaned q) × IsPart other
      by true same held =
          let e : part ≡ other = cc in
          let texts : key ≡ q = (bytes_decides key q).0 (texts_ties key q ∙ same) in
          (sym e ∙ own ∙ ap cleaned texts, subst IsPart e is_part)
      by false none held = before q other held

pub part-copied : {E : Type 0} (Q : E → Type 0) (made : Result (List ℕ) E) (part text other : List ℕ) → MatchResult made (λ copy. copy ≡ part) Q
    → part ≡ cleaned text → text ≡ other → IfOk made (λ name. name ≡ cleaned other)
part-copied Q (Err e) part text other copied is same = tt
part-copied Q (Ok name) part text other copied is same = copied ∙ is ∙ ap cleaned same

pub part-kept : {E : Type 0} (Q : E → Type 0) (made : Result (List ℕ) E) (part : List ℕ) → MatchResult made (λ copy. copy ≡ part) Q → IsPart part → IfOk made IsPart
part-kept Q (Err e) part copied is = tt
part-kept Q (Ok name) part copied is = subst IsPart (sym copied) is
