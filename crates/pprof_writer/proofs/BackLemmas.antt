-- What was written is read back.
use Rattle.std.proofs.Common.{◌≡◌, ⊎_elim, ℕ, suc, ◌+◌, ◌^◌, ◌<◌, ◌≤◌, ◌||◌, List, [], ◌∷◌, ◌++◌, length, true, Some, None, Result, Ok, Err, Vec, Global, refl, sym, ap, ◌∙◌, arith}
use Rattle.std.specs.Prelude.{nat_lt, pos, slice_index_or, sum_by}
use Rattle.std.specs.Str.{IsUtf8}
use Rattle.std.specs.List.{All}
use Rattle.std.specs.Map.{keys_of}
use Rattle.std.proofs.lemmas.Bool.{le-ltb, true≢false}
use Rattle.std.proofs.lemmas.List.Elements.{All-cons, All-nil}
use Rattle.std.proofs.lemmas.Str.{IsUtf8-nil}
use Rattle.wire_forms.specs.Gzip.{IsGzip}
use Rattle.wire_proto.specs.Writing.{groups_of, varint}
use Rattle.profile_model.specs.CleanedTexts.{cleaned}
use Rattle.profile_model.specs.Limits.{most_frames, most_profiles, most_weight}
use Rattle.profile_model.specs.Stacks.{IsFrame}
use Rattle.profile_model.specs.Sums.{Sample, sums_of}
use Rattle.profile_model.specs.declared.kind.ProfileType.{ProfileType}
use Rattle.profile_model.specs.declared.profile.Profile.{Profile}
use Rattle.pprof_message.specs.Pprof.{Pprof}
use Rattle.pprof_codec.specs.declared.base.Base.{Base}
use Rattle.pprof_codec.specs.declared.fault.PprofFault.{PprofFault}
use Rattle.pprof_codec.specs.declared.fault.PprofFault.TheVariants.{Weight}
use Rattle.pprof_codec.specs.Checks.{begins_empty, fault_if, faults_of, first_of, weight_faults}
use Rattle.pprof_codec.specs.Members.{text_at}
use Rattle.pprof_codec.specs.Profiles.{held_of, held_weight, parts_of, profile_of, profiles_of, samples_of, stacks_weight, weight_of}
use Rattle.pprof_codec.specs.Read.{AreProfilesOf, IsBroken, IsMessageFault, IsReadPprof}
use Rattle.pprof_writer.specs.Laws.{AreReadable, IsReadAs, held_again, said_parts}
use Rattle.pprof_writer.specs.Messages.{AreHeld, said}
use Rattle.pprof_writer.specs.Tables.{frames_in, is_among, place_of, texts_of, type_texts}
use Rattle.pprof_writer.specs.Written.{written_pprof}
use Rattle.pprof_writer.proofs.AgainLemmas.{sums-again}
use Rattle.pprof_writer.proofs.BoundLemmas.{frames-all, frames-length, frames-sorted, part-weighs, reverse-all, samples-all, sum-cons, texts-all, texts-length, value-below}
use Rattle.pprof_writer.proofs.FaultlessLemmas.{AreKnown, judged-none}
use Rattle.pprof_writer.proofs.FrameLemmas.{frames-among}
use Rattle.pprof_writer.proofs.LookLemmas.{IsNamed, samples-known, text-found}
use Rattle.pprof_writer.proofs.OnceLemmas.{begins-fold, own-among}
use Rattle.pprof_writer.proofs.PlaceLemmas.{place-sorted}
use Rattle.pprof_writer.proofs.SaidLemmas.{written_is}
use Rattle.pprof_writer.proofs.TextLemmas.{fold-kept, fold-own}

begins-some : (texts : List (List ℕ)) → begins_empty texts ≡ true → 0 < length texts
begins-some [] begins = absurd (true≢false (sym begins))
begins-some (t ∷ texts) begins = omega arith

abbrev five : ProfileType → List (List ℕ)
five kind = [] ∷ said_parts kind

module _ (base : Base) (kind : ProfileType) (sums : List Sample) (readable : AreReadable base kind sums) where
  abbrev frames : List (List ℕ)
  frames = frames_in sums

  abbrev texts : List (List ℕ)
  texts = texts_of kind frames

  frame-bounds : All (All IsFrame) (keys_of sums)
  frame-bounds k d within = (readable.stacks k d within).each

  frames-bound : All IsFrame frames
  frames-bound = frames-all IsFrame sums frame-bounds

  weight-parts : stacks_weight sums + sum_by length (base.name ∷ said_parts kind) ≤ most_weight
  weight-parts = let light = readable.light in omega arith

  five-short : All (λ text. length text < 2 ^ 64) (five kind)
  five-short = All-cons (λ text. length text < 2 ^ 64) [] (said_parts kind) (omega arith)
      (λ k d within. let own = part-weighs (base.name ∷ said_parts kind) (suc k) d (omega arith) in let all = weight-parts in omega arith)

  texts-held : length texts ≤ 5 + length frames
  texts-held =
      let one = texts-length [] (five kind) in
      let two = texts-length (type_texts kind) frames in
      omega arith

  are_held : AreHeld frames texts sums
  are_held =
      let few = frames-length sums in
      let weight = weight-parts in
      let long = texts-held in
      record {
        frames_fit = omega arith;
        texts_fit = omega arith;
        each_text =
            texts-all (λ text. length text < 2 ^ 64) (type_texts kind) frames
            (texts-all (λ text. length text < 2 ^ 64) [] (five kind) (All-nil (λ text. length text < 2 ^ 64)) five-short)
            (λ k d within. let bound = (frames-bound k d within).1 in omega arith);
        stacks = samples-all (λ stack. length stack < 2 ^ 50) sums (λ k d within. let bound = (readable.stacks k d within).few in omega arith);
        values = λ k d within. let own = value-below sums k d within in let bound = readable.are_sums.bounded in omega arith;
      }

  named-frame : (frame : List ℕ) → 0 < length frame → is_among frames frame ≡ true → IsNamed frames texts frame
  named-frame frame some among = record { some = some; among_frames = among; among_texts = fold-own (type_texts kind) frames frame among }

  among-five : (k : ℕ) → k < 5 → is_among texts (slice_index_or (five kind) k []) ≡ true
  among-five k within =
      fold-kept (type_texts kind) frames (slice_index_or (five kind) k []) (fold-own [] (five kind) (slice_index_or (five kind) k []) (own-among (five kind) k [] (omega arith)))

  begins : begins_empty texts ≡ true
  begins = begins-fold (type_texts kind) frames (begins-fold ([] ∷ []) (said_parts kind) refl)

  known : AreKnown frames texts kind sums
  known = record {
    named = λ k d within. named-frame (slice_index_or frames k d) (frames-bound k d within).0 (own-among frames k d within);
    short = λ k d within. (frames-bound k d within).1;
    own = λ k within. place-sorted frames (slice_index_or frames k []) k (frames-sorted sums) within refl;
    stacks = λ k d within. reverse-all (IsNamed frames texts) (slice_index_or sums k d).0
        (λ j e inside. named-frame (slice_index_or (slice_index_or sums k d).0 j e) (samples-all (All IsFrame) sums frame-bounds k d within j e inside).0 (frames-among sums k d within j e inside));
    some = samples-all (λ stack. 0 < length stack) sums (λ k d within. (readable.stacks k d within).some);
    few = samples-all (λ stack. length stack ≤ most_frames) sums (λ k d within. (readable.stacks k d within).few);
    utf8 =
        texts-all IsUtf8 (type_texts kind) frames
        (texts-all IsUtf8 [] (five kind) (All-nil IsUtf8) (All-cons IsUtf8 [] (said_parts kind) IsUtf8-nil (λ k d within. (readable.parts k d within).utf8)))
        (frames-all IsUtf8 sums readable.utf8);
    begins = begins;
    has_some = begins-some texts begins;
    sample_type = among-five 1 (omega arith);
    sample_unit = among-five 2 (omega arith);
    period_type = among-five 3 (omega arith);
    period_unit = among-five 4 (omega arith);
    total = readable.are_sums.bounded;
  }

  abbrev whole : Pprof
  whole = said frames texts kind sums

  part-again : (k : ℕ) → k < 4 → is_among texts (slice_index_or (said_parts kind) k []) ≡ true
      → cleaned (text_at texts (pos (place_of texts (slice_index_or (said_parts kind) k [])))) ≡ slice_index_or (said_parts kind) k []
  part-again k within among =
      ap cleaned (text-found texts (slice_index_or (said_parts kind) k []) among) ∙ (readable.parts k [] (omega arith)).unmarked

  profiles-are : profiles_of base whole ≡ held_again base kind sums ∷ []
  unfolding profiles_of profile_of parts_of
  profiles-are =
      let a = part-again 0 (omega arith) known.sample_type in
      let b = part-again 1 (omega arith) known.sample_unit in
      let c = part-again 2 (omega arith) known.period_type in
      let d = part-again 3 (omega arith) known.period_unit in
      let values : sums_of (samples_of whole 0) ≡ sums =
      ap sums_of (samples-known frames texts kind sums known.some known.stacks) ∙ sums-again [] sums readable.are_sums.ascending readable.are_sums.positive in
      (λ i. record { labels = base.labels; parts = base.name ∷ a i ∷ b i ∷ c i ∷ d i ∷ []; time_ms = base.fallback_ms; values = values i } ∷ [])

  weight-none : weight_faults base whole ≡ []
  unfolding weight_faults weight_of
  weight-none =
      let own = sum-cons held_weight (held_again base kind sums) [] in
      let light = readable.light in
      ap (λ profiles. fault_if (nat_lt most_profiles 1 || nat_lt most_weight (sum_by held_weight profiles)) Weight) profiles-are
      ∙ ap (λ b. fault_if (nat_lt most_profiles 1 || b) Weight) (le-ltb most_weight (sum_by held_weight (held_again base kind sums ∷ [])) (omega arith))

  faultless : faults_of base whole ≡ []
  unfolding faults_of
  faultless = (λ i. judged-none frames texts kind sums known i ++ weight-none i)

  plain : IsGzip (written_pprof kind sums) → ⊥
  unfolding written_pprof varint groups_of
  plain begins = absurd (true≢false (sym begins))

  not-broken : (fault : PprofFault) → IsBroken (written_pprof kind sums) fault → ⊥
  not-broken fault h = absurd (let wrong : None ≡ Some h.place = sym (written_is kind sums are_held).0 ∙ h.broken in cc)

  no-fault : (fault : PprofFault) → IsMessageFault base (written_pprof kind sums) fault → ⊥
  no-fault fault h =
      let same : h.pprof ≡ whole = h.spelled.1 ∙ sym (written_is kind sums are_held).1 in
      let none : first_of (faults_of base h.pprof) ≡ None = ap (λ p. first_of (faults_of base p)) same ∙ ap first_of faultless in
      absurd (let wrong : None ≡ Some fault = sym none ∙ h.first in cc)

  pub read-again : (answer : Result (Vec Profile Global) PprofFault) → IsReadPprof base (written_pprof kind sums) answer → IsReadAs (held_again base kind sums) answer
  read-again (Ok profiles) h =
      let same : h.pprof ≡ whole = h.spelled.1 ∙ sym (written_is kind sums are_held).1 in
      h.own ∙ ap (profiles_of base) same ∙ profiles-are
  read-again (Err fault) h =
      ⊎_elim (λ gzip. plain gzip.0) (λ rest. ⊎_elim (λ broken. not-broken fault broken) (λ message. no-fault fault message) rest.1) h

  pub profile-again : (profile : Profile) → held_of profile ≡ held_again base kind sums → AreProfilesOf base (written_pprof kind sums) (profile ∷ [])
  profile-again profile same = record {
    plain = plain;
    pprof = whole;
    spelled = written_is kind sums are_held;
    faultless = faultless;
    own = ap (λ held. held ∷ []) same ∙ sym profiles-are;
  }
