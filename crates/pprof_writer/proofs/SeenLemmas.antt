-- What a run that wrote all of it has seen, and that its bytes can be read back.
use Rattle.std.proofs.Common.{◌≡◌, ℕ, suc, ◌^◌, ◌<◌, ◌==◌, ◌||◌, ◌&&◌, List, [], ◌∷◌, length, Bool, true, false, cond, refl, sym, subst, arith}
use Rattle.std.specs.Prelude.{not, slice_index_or}
use Rattle.std.specs.List.{All, list_all}
use Rattle.std.specs.Map.{keys_of}
use Rattle.std.specs.Str.{IsUtf8}
use Rattle.std.proofs.lemmas.Bool.{true≢false}
use Rattle.std.proofs.lemmas.List.Elements.{All-cons, All-map, All-nil}
use Rattle.profile_model.specs.CleanedTexts.{cleaned}
use Rattle.profile_model.specs.Kinds.{IsPart, is_colon}
use Rattle.profile_model.specs.Stacks.{IsStack}
use Rattle.profile_model.specs.Sums.{AreSums, Sample}
use Rattle.profile_model.specs.declared.kind.ProfileType.{ProfileType}
use Rattle.pprof_codec.specs.declared.base.Base.{Base}
use Rattle.pprof_writer.specs.Laws.{AreReadable, CanBeReadBack, IsKept, IsReadBack, is_other_mark, said_parts}
use Rattle.pprof_writer.specs.Messages.{AreHeld}
use Rattle.pprof_writer.specs.Tables.{frames_in, is_among, place_of, texts_of, type_texts}
use Rattle.pprof_writer.specs.Written.{written_pprof}
use Rattle.pprof_writer.proofs.BackLemmas.{read-again}
use Rattle.pprof_writer.proofs.BoundLemmas.{samples-all, value-below}
use Rattle.pprof_writer.proofs.FrameLemmas.{frames-among}
use Rattle.pprof_writer.proofs.OnceLemmas.{own-among}
use Rattle.pprof_writer.proofs.PlaceLemmas.{among-below, at-place}
use Rattle.pprof_writer.proofs.TextLemmas.{fold-kept, fold-own}

-- ---- parts without marks

kept-byte : (b : ℕ) (p q r s : Bool) → p ≡ false → (q || r || s) ≡ false → cond (p || q || r || s) 95 b ≡ b
kept-byte b true q r s none others = absurd (true≢false none)
kept-byte b false true r s none others = absurd (true≢false others)
kept-byte b false false true s none others = absurd (true≢false others)
kept-byte b false false false true none others = absurd (true≢false others)
kept-byte b false false false false none others = refl

-- a part holds no colon: so a reader keeps it where it holds no other mark
unmarked-kept : (part : List ℕ) → IsPart part → list_all (λ b. not (is_other_mark b)) part ≡ true → cleaned part ≡ part
unmarked-kept [] colons others = refl
unmarked-kept (b ∷ bytes) colons others = by (is_colon b) (is_other_mark b) refl refl (unmarked-kept bytes) colons others
  where
    by : (colon mark : Bool) → is_colon b ≡ colon → is_other_mark b ≡ mark
        → (IsPart bytes → list_all (λ b. not (is_other_mark b)) bytes ≡ true → cleaned bytes ≡ bytes)
        → (not colon && list_all (λ b. not (is_colon b)) bytes) ≡ true → (not mark && list_all (λ b. not (is_other_mark b)) bytes) ≡ true
        → cleaned (b ∷ bytes) ≡ b ∷ bytes
    by true mark colon-is mark-is later colons others = absurd (true≢false (sym colons))
    by false true colon-is mark-is later colons others = absurd (true≢false (sym others))
    by false false colon-is mark-is later colons others =
        let own = kept-byte b (b == 58) (b == 123) (b == 125) (b == 34) colon-is mark-is in
        let rest = later colons others in
        (λ i. own i ∷ rest i)

-- ---- a run

-- what holds of each text holds of one among them
text-holds : (P : List ℕ → Type 0) (texts : List (List ℕ)) (text : List ℕ) → All P texts → is_among texts text ≡ true → P text
text-holds P texts text all among =
    let below = among-below texts text among in subst P (sym (at-place texts text [] below)) (all (place_of texts text) [] below)

-- the sums and the stacks as they are lent, the texts as they are written, and lists that memory holds
pub record AreSeen (kind : ProfileType) (sums : List Sample) : Type 0 where
  pub are_sums : AreSums sums
  pub stacks : All IsStack (keys_of sums)
  pub utf8 : All IsUtf8 (texts_of kind (frames_in sums))
  pub short : All (λ text. length text < 2 ^ 64) (texts_of kind (frames_in sums))
  pub few_frames : length (frames_in sums) < 2 ^ 63
  pub few_texts : length (texts_of kind (frames_in sums)) < 2 ^ 63

module _ (kind : ProfileType) (sums : List Sample) (seen : AreSeen kind sums) where
  abbrev frames : List (List ℕ)
  frames = frames_in sums

  abbrev texts : List (List ℕ)
  texts = texts_of kind frames

  pub seen-held : AreHeld frames texts sums
  seen-held = record {
    frames_fit = seen.few_frames;
    texts_fit = seen.few_texts;
    each_text = seen.short;
    stacks = samples-all (λ stack. length stack < 2 ^ 50) sums (λ k d within. let bound = (seen.stacks k d within).few in omega arith);
    values = λ k d within. let own = value-below sums k d within in let bound = seen.are_sums.bounded in omega arith;
  }

  frames-text : All (λ (s : Sample). All IsUtf8 s.0) sums
  frames-text k d within j e inside =
      let frame = slice_index_or (slice_index_or sums k d).0 j e in
      text-holds IsUtf8 texts frame seen.utf8 (fold-own (type_texts kind) frames frame (frames-among sums k d within j e inside))

  parts-text : All IsUtf8 (said_parts kind)
  parts-text k d within =
      let part = slice_index_or (said_parts kind) k d in
      text-holds IsUtf8 texts part seen.utf8
      (fold-kept (type_texts kind) frames part (fold-own [] ([] ∷ said_parts kind) part (own-among ([] ∷ said_parts kind) (suc k) d (omega arith))))

  are-parts : All IsPart (said_parts kind)
  are-parts =
      let last = kind.period_unit ∷ [] in
      let period = kind.period_type ∷ last in
      All-cons IsPart kind.sample_type (kind.sample_unit ∷ period) kind.parts.1
      (All-cons IsPart kind.sample_unit period kind.parts.2
      (All-cons IsPart kind.period_type last kind.parts.3
      (All-cons IsPart kind.period_unit [] kind.parts.4 (All-nil IsPart))))

  parts-kept : {base : Base} → CanBeReadBack base kind sums → All IsKept (said_parts kind)
  parts-kept can k d within = record {
    utf8 = parts-text k d within;
    unmarked = unmarked-kept (slice_index_or (said_parts kind) k d) (are-parts k d within) (can.unmarked k d within);
  }

  pub seen-readable : (base : Base) → CanBeReadBack base kind sums → AreReadable base kind sums
  seen-readable base can = record {
    are_sums = seen.are_sums;
    stacks = seen.stacks;
    utf8 = All-map (All IsUtf8) (λ (s : Sample). s.0) sums frames-text;
    parts = parts-kept can;
    light = can.light;
  }

  pub seen-back : (bytes : List ℕ) → bytes ≡ written_pprof kind sums → (base : Base) → CanBeReadBack base kind sums → IsReadBack base kind sums bytes
  seen-back bytes is base can = subst (IsReadBack base kind sums) (sym is) (read-again base kind sums (seen-readable base can))
