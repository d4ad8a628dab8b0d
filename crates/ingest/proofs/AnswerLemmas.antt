-- Parameters and a body have one answer.
use Rattle.std.proofs.Common.{◌≡◌, ◌⊎◌, ⊎_elim, inl, inr, ℕ, ◌<◌, List, [], ◌∷◌, Result, Ok, Err, refl, sym, ap, ◌∙◌, subst, arith}
use Rattle.folded_reader.specs.declared.fault.FoldedFault.{FoldedFault}
use Rattle.folded_reader.proofs.AnswerLemmas as stacks
use Rattle.pprof_codec.specs.Read.{AreProfilesOf, IsFirstFault}
use Rattle.pprof_codec.specs.declared.base.Base.{Base}
use Rattle.pprof_codec.specs.declared.fault.PprofFault.{PprofFault}
use Rattle.pprof_codec.proofs.AnswerLemmas.{base_once, fault_once, profile_once, profiles_not_fault, profiles_once}
use Rattle.profile_model.specs.Limits.{most_weight}
use Rattle.profile_model.specs.Sums.{Sample}
use Rattle.profile_model.specs.Weights.{weight_in_push}
use Rattle.profile_model.specs.declared.profile.Profile.{Profile}
use Rattle.profile_model.specs.declared.push.Push.{Push}
use Rattle.ingest.specs.Forms.{IsForm, IsFormFault, Parameters}
use Rattle.ingest.specs.Ingests.{AreProfiles, AreProfilesAs, IsBaseOf, IsBodyFault, IsIngestFault, IsReadStacks, IsStackProfile, SaysProfiles}
use Rattle.ingest.specs.Laws.{IsAnswer}
use Rattle.ingest.specs.declared.form.Form.{Form}
use Rattle.ingest.specs.declared.form.Format.{Format}
use Rattle.ingest.specs.declared.form.Format.TheVariants.{Folded, Lines, Pprof}
use Rattle.ingest.specs.declared.fault.IngestFault.{IngestFault}
use Rattle.ingest.specs.declared.fault.IngestFault.TheVariants as told
use Rattle.ingest.proofs.FormAnswers.{form_fault_once, form_not_fault, form_once}

-- ---- a body of stacks

stacks_once : (format : Format) (body : List ℕ) (first second : Result (List Sample) FoldedFault) → IsReadStacks format body first → IsReadStacks format body second → first ≡ second
stacks_once Folded body first second h k = stacks.one_answer _ body first second h k
stacks_once Lines body first second h k = stacks.one_answer _ body first second h k
stacks_once Pprof body first second h k = absurd h

sums_once : (format : Format) (body : List ℕ) (sums others : List Sample) → IsReadStacks format body (Ok sums) → IsReadStacks format body (Ok others) → sums ≡ others
sums_once format body sums others h k =
    let same : Ok sums ≡ Ok others = stacks_once format body (Ok sums) (Ok others) h k in cc

sums_not_fault : (format : Format) (body : List ℕ) (sums : List Sample) (wrong : FoldedFault) → IsReadStacks format body (Ok sums) → IsReadStacks format body (Err wrong) → ⊥
sums_not_fault format body sums wrong h k =
    let same : Ok sums ≡ Err wrong = stacks_once format body (Ok sums) (Err wrong) h k in cc

stack_fault_once : (format : Format) (body : List ℕ) (wrong other : FoldedFault) → IsReadStacks format body (Err wrong) → IsReadStacks format body (Err other) → wrong ≡ other
stack_fault_once format body wrong other h k =
    let same : Err wrong ≡ Err other = stacks_once format body (Err wrong) (Err other) h k in cc

stack_profile_once : (form : Form) (sums others : List Sample) (profile other : Profile) → sums ≡ others
    → IsStackProfile form sums profile → IsStackProfile form others other → profile ≡ other
stack_profile_once form sums others profile other same h k =
    let labels = h.labels ∙ sym k.labels in
    let parts = h.kind ∙ sym k.kind in
    let time = h.time ∙ sym k.time in
    let values = h.values ∙ same ∙ sym k.values in
    profile_once profile other (λ i. record { labels = labels i; parts = parts i; time_ms = time i; values = values i })

-- ---- a body

module _ (form : Form) where
  based_once : (base other : Base) → IsBaseOf form base → IsBaseOf form other → base ≡ other
  based_once base other h k = base_once base other (h.labels ∙ sym k.labels) (h.name ∙ sym k.name) (h.time ∙ sym k.time)

  module _ (body : List ℕ) where
    as_once : (format : Format) (profiles others : List Profile) → AreProfilesAs format form body profiles → AreProfilesAs format form body others → profiles ≡ others
    as_once Pprof profiles others h k =
        profiles_once k.0 body profiles others (subst (λ base. AreProfilesOf base body profiles) (based_once h.0 k.0 h.1 k.1) h.2) k.2
    as_once format profiles others h k =
        h.4 ∙ (λ i. stack_profile_once form h.0 k.0 h.1 k.1 (sums_once format body h.0 k.0 h.2 k.2) h.3 k.3 i ∷ []) ∙ sym k.4

    as_not_stack_fault : (format : Format) (profiles : List Profile) (wrong : FoldedFault) → AreProfilesAs format form body profiles → IsReadStacks format body (Err wrong) → ⊥
    as_not_stack_fault Pprof profiles wrong h k = k
    as_not_stack_fault format profiles wrong h k = sums_not_fault format body h.0 wrong h.2 k

    as_not_pprof_fault : (format : Format) (profiles : List Profile) (base : Base) (wrong : PprofFault) → format ≡ Pprof → IsBaseOf form base
        → AreProfilesAs format form body profiles → IsFirstFault base body wrong → ⊥
    as_not_pprof_fault format profiles base wrong is based h k = by (subst (λ one. AreProfilesAs one form body profiles) is h)
      where
        by : AreProfilesAs Pprof form body profiles → ⊥
        by own = profiles_not_fault base body profiles wrong (subst (λ one. AreProfilesOf one body profiles) (based_once own.0 base own.1 based) own.2) k

    profiles_not_body_fault : (profiles : List Profile) (fault : IngestFault) → AreProfiles form body profiles → IsBodyFault form body fault → ⊥
    profiles_not_body_fault profiles (told.Folded wrong) h k = as_not_stack_fault form.format profiles wrong h k
    profiles_not_body_fault profiles (told.Pprof wrong) h k = as_not_pprof_fault form.format profiles k.1 wrong k.0 k.2 h k.3
    profiles_not_body_fault profiles fault h k = k

    body_fault_once : (fault other : IngestFault) → IsBodyFault form body fault → IsBodyFault form body other → fault ≡ other
    body_fault_once (told.Folded wrong) (told.Folded other) h k = ap told.Folded (stack_fault_once form.format body wrong other h k)
    body_fault_once (told.Folded wrong) (told.Pprof other) h k = absurd (subst (λ format. IsReadStacks format body (Err wrong)) k.0 h)
    body_fault_once (told.Folded wrong) other h k = absurd k
    body_fault_once (told.Pprof wrong) (told.Folded other) h k = absurd (subst (λ format. IsReadStacks format body (Err other)) h.0 k)
    body_fault_once (told.Pprof wrong) (told.Pprof other) h k =
        ap told.Pprof (fault_once k.1 body wrong other (subst (λ base. IsFirstFault base body wrong) (based_once h.1 k.1 h.2 k.2) h.3) k.3)
    body_fault_once (told.Pprof wrong) other h k = absurd k
    body_fault_once fault other h k = absurd h

-- ---- the answer

module _ (parameters : Parameters) (body : List ℕ) (moment : ℕ) where
  -- the form, and the profiles of the body
  record AreRead (profiles : List Profile) : Type 0 where
    form : Form
    said : IsForm parameters moment form
    own : AreProfiles form body profiles

  -- the first fault before the weight
  abbrev IsReadFault : IngestFault → Type 0
  IsReadFault fault = IsFormFault parameters moment fault ⊎ ((form : Form) × IsForm parameters moment form × IsBodyFault form body fault)

  read_once : (profiles others : List Profile) → AreRead profiles → AreRead others → profiles ≡ others
  read_once profiles others h k =
      as_once k.form body k.form.format profiles others (subst (λ form. AreProfiles form body profiles) (form_once parameters moment h.form k.form h.said k.said) h.own) k.own

  read_not_fault : (profiles : List Profile) (fault : IngestFault) → AreRead profiles → IsReadFault fault → ⊥
  read_not_fault profiles fault h k =
      ⊎_elim (λ wrong. form_not_fault parameters moment h.form fault h.said wrong)
      (λ wrong. profiles_not_body_fault h.form body profiles fault h.own
      (subst (λ form. IsBodyFault form body fault) (form_once parameters moment wrong.0 h.form wrong.1 h.said) wrong.2))
      k

  read_fault_once : (fault other : IngestFault) → IsReadFault fault → IsReadFault other → fault ≡ other
  read_fault_once fault other h k =
      ⊎_elim
      (λ wrong. ⊎_elim (λ wrong'. form_fault_once parameters moment fault other wrong wrong')
      (λ said'. absurd (form_not_fault parameters moment said'.0 fault said'.1 wrong)) k)
      (λ said. ⊎_elim (λ wrong'. absurd (form_not_fault parameters moment said.0 other said.1 wrong'))
      (λ said'. body_fault_once said'.0 body fault other
      (subst (λ form. IsBodyFault form body fault) (form_once parameters moment said.0 said'.0 said.1 said'.1) said.2) said'.2)
      k)
      h

  -- too heavy, or a fault before
  abbrev IsHeavyOrWrong : IngestFault → Type 0
  IsHeavyOrWrong fault = ((fault ≡ told.Weight) × ((profiles : List Profile) × AreRead profiles × (most_weight < weight_in_push profiles))) ⊎ IsReadFault fault

  heavy_or_wrong : (fault : IngestFault) → IsIngestFault parameters body moment fault → IsHeavyOrWrong fault
  heavy_or_wrong told.Weight h = inl (refl, (h.1, record { form = h.0; said = h.2; own = h.3 }, h.4))
  heavy_or_wrong fault h = inr h

  said_once : (profiles others : List Profile) → SaysProfiles parameters body moment profiles → SaysProfiles parameters body moment others → profiles ≡ others
  said_once profiles others h k = read_once profiles others (record { form = h.0; said = h.1; own = h.2 }) (record { form = k.0; said = k.1; own = k.2 })

  said_not_fault : (profiles : List Profile) (fault : IngestFault) → SaysProfiles parameters body moment profiles → IsIngestFault parameters body moment fault → ⊥
  said_not_fault profiles fault h k =
      let own : AreRead profiles = record { form = h.0; said = h.1; own = h.2 } in
      ⊎_elim
      (λ heavy. let same = ap weight_in_push (read_once profiles heavy.1.0 own heavy.1.1) in let light = h.3 in let over = heavy.1.2 in omega arith)
      (λ wrong. read_not_fault profiles fault own wrong) (heavy_or_wrong fault k)

  ingest_fault_once : (fault other : IngestFault) → IsIngestFault parameters body moment fault → IsIngestFault parameters body moment other → fault ≡ other
  ingest_fault_once fault other h k =
      ⊎_elim
      (λ heavy. ⊎_elim (λ heavy'. heavy.0 ∙ sym heavy'.0) (λ wrong'. absurd (read_not_fault heavy.1.0 other heavy.1.1 wrong')) (heavy_or_wrong other k))
      (λ wrong. ⊎_elim (λ heavy'. absurd (read_not_fault heavy'.1.0 fault heavy'.1.1 wrong))
      (λ wrong'. read_fault_once fault other wrong wrong') (heavy_or_wrong other k))
      (heavy_or_wrong fault h)

  pub one_answer : (tenant : List ℕ) (first second : Result Push IngestFault) → IsAnswer tenant parameters body moment first → IsAnswer tenant parameters body moment second
      → first ≡ second
  one_answer tenant (Ok push) (Ok other) h k =
      let own = h.0 ∙ sym k.0 in
      let profiles = said_once push.profiles other.profiles h.1 k.1 in
      λ i. Ok (record { tenant = own i; profiles = profiles i })
  one_answer tenant (Ok push) (Err fault) h k = absurd (said_not_fault push.profiles fault h.1 k)
  one_answer tenant (Err fault) (Ok push) h k = absurd (said_not_fault push.profiles fault k.1 h)
  one_answer tenant (Err fault) (Err other) h k =
      ap Err (ingest_fault_once fault other h k)
