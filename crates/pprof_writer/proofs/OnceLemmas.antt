-- That the tables hold each frame and each text once, and nothing else.
use Rattle.std.proofs.Common.{◌≡◌, ℕ, suc, ◌<◌, List, [], ◌∷◌, ◌++◌, length, map, fold, Bool, true, false, cond, refl, sym, ap, ◌∙◌, subst, arith}
use Rattle.std.specs.Prelude.{nat_eq, slice_index_or, IsTrue}
use Rattle.std.specs.List.{All, IsDistinct, flat_map}
use Rattle.std.specs.Cmp.Lexicographic.{bytes_decides, nat_list_eq_equiv, pointwise}
use Rattle.std.proofs.lemmas.Bool.{ne_eqb, true≢false}
use Rattle.std.proofs.lemmas.List.{get_or-map, length-map}
use Rattle.std.proofs.lemmas.List.Elements.{All-nil}
use Rattle.std.proofs.lemmas.List.Folds.{list_any_at}
use Rattle.std.proofs.lemmas.List.Sums.{fold-append}
use Rattle.std.proofs.lemmas.Map.Keys.{IsDistinct-from_apart, IsDistinct-push}
use Rattle.profile_model.specs.Sums.{Sample}
use Rattle.profile_model.specs.declared.kind.ProfileType.{ProfileType}
use Rattle.pprof_codec.specs.Checks.{begins_empty}
use Rattle.pprof_writer.specs.Laws.{said_parts}
use Rattle.pprof_writer.specs.Once.{AreFramesOf, AreTextsOf}
use Rattle.pprof_writer.specs.Tables.{frames_in, is_among, place_of, texts_of, type_texts, with_text}
use Rattle.pprof_writer.proofs.BoundLemmas.{fold-all, frames-sorted, texts-all}
use Rattle.pprof_writer.proofs.FrameLemmas.{frames-among}
use Rattle.pprof_writer.proofs.PlaceLemmas.{among-below, at-place, place-sorted}
use Rattle.pprof_writer.proofs.TextLemmas.{fold-own}

-- ---- the first text

begins-with : (texts : List (List ℕ)) (text : List ℕ) → begins_empty texts ≡ true → begins_empty (with_text texts text) ≡ true
begins-with [] text begins = absurd (true≢false (sym begins))
begins-with (t ∷ texts) text begins = by (is_among (t ∷ texts) text)
  where
    by : (b : Bool) → begins_empty (cond b (t ∷ texts) ((t ∷ texts) ++ text ∷ [])) ≡ true
    by true = begins
    by false = begins

pub begins-fold : (texts more : List (List ℕ)) → begins_empty texts ≡ true → begins_empty (fold with_text texts more) ≡ true
begins-fold texts [] begins = begins
begins-fold texts (m ∷ more) begins = begins-fold (with_text texts m) more (begins-with texts m begins)

-- ---- what is there

pub own-among : (texts : List (List ℕ)) (k : ℕ) (d : List ℕ) → k < length texts → is_among texts (slice_index_or texts k d) ≡ true
own-among texts k d within =
    list_any_at (pointwise nat_eq (slice_index_or texts k d)) texts k d within ((bytes_decides (slice_index_or texts k d) (slice_index_or texts k d)).1 refl)

-- the texts in the order in which they are met
abbrev met : ProfileType → List (List ℕ) → List (List ℕ)
met kind frames = ([] ∷ said_parts kind) ++ frames

texts-met : (kind : ProfileType) (frames : List (List ℕ)) → texts_of kind frames ≡ fold with_text [] (met kind frames)
texts-met kind frames = sym (fold-append with_text [] ([] ∷ said_parts kind) frames)

pub each-among : (kind : ProfileType) (frames : List (List ℕ)) → All (λ text. IsTrue (is_among (texts_of kind frames) text)) (said_parts kind ++ frames)
each-among kind frames k d within =
    let text = slice_index_or (said_parts kind ++ frames) k d in
    ap (λ texts. is_among texts text) (texts-met kind frames) ∙ fold-own [] (met kind frames) text (own-among (met kind frames) (suc k) d (omega arith))

frames-only : (sums : List Sample) → All (λ frame. IsTrue (is_among (flat_map (λ (s : Sample). s.0) sums) frame)) (frames_in sums)
frames-only sums =
    let all = flat_map (λ (s : Sample). s.0) sums in
    fold-all (λ frame. IsTrue (is_among all frame)) [] all (All-nil _) (λ k d within. own-among all k d within)

texts-only : (kind : ProfileType) (frames : List (List ℕ)) → All (λ text. IsTrue (is_among (met kind frames) text)) (texts_of kind frames)
texts-only kind frames =
    let IsMet : List ℕ → Type 0 = λ text. IsTrue (is_among (met kind frames) text) in
    subst (All IsMet) (sym (texts-met kind frames)) (texts-all IsMet [] (met kind frames) (All-nil IsMet) (λ k d within. own-among (met kind frames) k d within))

-- ---- each once

once-with : (texts : List (List ℕ)) (text : List ℕ) → IsDistinct (pointwise nat_eq) texts → IsDistinct (pointwise nat_eq) (with_text texts text)
once-with texts text once = by (is_among texts text) refl
  where
    by : (b : Bool) → is_among texts text ≡ b → IsDistinct (pointwise nat_eq) (cond b texts (texts ++ text ∷ []))
    by true there = once
    by false none = IsDistinct-push nat_list_eq_equiv texts text once none

once-fold : (texts more : List (List ℕ)) → IsDistinct (pointwise nat_eq) texts → IsDistinct (pointwise nat_eq) (fold with_text texts more)
once-fold texts [] once = once
once-fold texts (m ∷ more) once = once-fold (with_text texts m) more (once-with texts m once)

once-none : IsDistinct (pointwise nat_eq) []
unfolding IsDistinct
once-none = tt

-- texts at one place are one text
same-place : (texts : List (List ℕ)) (x y : List ℕ) → is_among texts x ≡ true → is_among texts y ≡ true → place_of texts x ≡ place_of texts y → x ≡ y
same-place texts x y left right same =
    at-place texts x [] (among-below texts x left) ∙ ap (λ n. slice_index_or texts n []) same ∙ sym (at-place texts y [] (among-below texts y right))

pub frames-once : (sums : List Sample) → AreFramesOf sums (frames_in sums)
frames-once sums = record { ascending = frames-sorted sums; each = frames-among sums; only = frames-only sums }

module _ (kind : ProfileType) (sums : List Sample) where
  abbrev frames : List (List ℕ)
  frames = frames_in sums

  abbrev texts : List (List ℕ)
  texts = texts_of kind frames

  frame-among : (k : ℕ) → k < length frames → is_among texts (slice_index_or frames k []) ≡ true
  frame-among k within = fold-own (type_texts kind) frames (slice_index_or frames k []) (own-among frames k [] within)

  names-apart : (i j d : ℕ) → i < j → j < length (map (place_of texts) frames)
      → nat_eq (slice_index_or (map (place_of texts) frames) i d) (slice_index_or (map (place_of texts) frames) j d) ≡ false
  names-apart i j d less within =
      let long = length-map frames (place_of texts) in
      let low : i < length frames = omega arith in
      let high : j < length frames = omega arith in
      let x = slice_index_or frames i [] in
      let y = slice_index_or frames j [] in
      let first = get_or-map (place_of texts) frames i [] d low in
      let second = get_or-map (place_of texts) frames j [] d high in
      let i-place = place-sorted frames x i (frames-sorted sums) low refl in
      let j-place = place-sorted frames y j (frames-sorted sums) high refl in
      ne_eqb _ _ (λ same.
      let one = ap (place_of frames) (same-place texts x y (frame-among i low) (frame-among j high) (sym first ∙ same ∙ second)) in
      omega arith)

  pub texts-once : AreTextsOf kind frames texts
  texts-once = record {
    first = begins-fold (type_texts kind) frames (begins-fold ([] ∷ []) (said_parts kind) refl);
    each = each-among kind frames;
    only = texts-only kind frames;
    once = once-fold (type_texts kind) frames (once-fold [] ([] ∷ said_parts kind) once-none);
    names = IsDistinct-from_apart nat_eq (map (place_of texts) frames) names-apart;
  }
