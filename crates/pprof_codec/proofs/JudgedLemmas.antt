-- The faults of the checks, one list after another.
use Rattle.std.proofs.Common.{◌≡◌, List, [], ◌∷◌, ◌++◌, Some, Result, Ok, Err, refl, ap, ◌∙◌}
use Rattle.faults.specs.Answers.{IfFault}
use Rattle.faults.specs.declared.refused.Refused.{Refused}
use Rattle.faults.proofs.AnswerLemmas.{IfFault-weaker}
use Rattle.pprof_message.specs.Pprof.{Pprof}
use Rattle.pprof_codec.specs.declared.base.Base.{Base}
use Rattle.pprof_codec.specs.declared.fault.PprofFault.{PprofFault}
use Rattle.pprof_codec.specs.Checks.{first_of, first_text_faults, text_faults, type_faults, faults_to_types, function_faults, location_faults, place_faults, sample_faults, total_faults, value_faults, judged_faults, weight_faults, faults_of}
use Rattle.std.specs.Option.{option_or}
use Rattle.pprof_codec.specs.Tables.{IsFirst, Judges}
use Rattle.pprof_codec.proofs.FaultLemmas.{first-here, first-after}
use Rattle.pprof_codec.proofs.StackLemmas.{no-parts}

-- a fault of these is the first of those
abbrev pub Leads : List PprofFault → List PprofFault → Type 0
Leads part whole = (fault : PprofFault) → first_of part ≡ Some fault → first_of whole ≡ Some fault

pub leads-itself : (xs : List PprofFault) → Leads xs xs
leads-itself xs fault h = h

pub leads-before : (xs ys whole : List PprofFault) → Leads (xs ++ ys) whole → Leads xs whole
leads-before xs ys whole all fault h = all fault (first-here xs ys fault h)

pub leads-after : (xs ys whole : List PprofFault) → xs ≡ [] → Leads (xs ++ ys) whole → Leads ys whole
leads-after xs ys whole none all fault h = all fault (first-after xs ys none ∙ h)

-- a part was judged, and with it the whole
pub judged-part : (part whole : List PprofFault) (refused : Refused PprofFault) → Leads part whole → IfFault (IsFirst part) refused → IfFault (IsFirst whole) refused
judged-part part whole refused along h = IfFault-weaker {P = IsFirst part} {Q = IsFirst whole} refused along h

-- the last part was judged, and with it the whole
pub judged-last : {T : Type 0} (P : T → Type 0) (part whole : List PprofFault) (result : Result T (Refused PprofFault))
    → Leads part whole → (part ≡ [] → whole ≡ []) → Judges result part P → Judges result whole P
judged-last P part whole (Ok x) along none h = (none h.0, h.1)
judged-last P part whole (Err refused) along none h = judged-part part whole refused along h

pub both-none : (xs ys : List PprofFault) → xs ≡ [] → ys ≡ [] → xs ++ ys ≡ []
both-none xs ys x y = ap (λ zs. zs ++ ys) x ∙ y

pub fault-parts : (xs ys : List PprofFault) → first_of (xs ++ ys) ≡ option_or (first_of xs) (first_of ys)
fault-parts [] ys = refl
fault-parts (x ∷ xs) ys = refl

-- ---- the parts of all checks but the last

module _ (pprof : Pprof) where
  pub first_text-leads : Leads (first_text_faults pprof.texts) (faults_to_types pprof)
  unfolding faults_to_types
  first_text-leads fault h =
      first-here (first_text_faults pprof.texts ++ text_faults pprof.texts) (type_faults pprof.texts pprof) fault (first-here (first_text_faults pprof.texts) (text_faults pprof.texts) fault h)

  pub texts-lead : first_text_faults pprof.texts ≡ [] → Leads (text_faults pprof.texts) (faults_to_types pprof)
  unfolding faults_to_types
  texts-lead first fault h =
      first-here (first_text_faults pprof.texts ++ text_faults pprof.texts) (type_faults pprof.texts pprof) fault
      (first-after (first_text_faults pprof.texts) (text_faults pprof.texts) first ∙ h)

  pub types-lead : first_text_faults pprof.texts ≡ [] → text_faults pprof.texts ≡ [] → Leads (type_faults pprof.texts pprof) (faults_to_types pprof)
  unfolding faults_to_types
  types-lead first texts fault h =
      first-after (first_text_faults pprof.texts ++ text_faults pprof.texts) (type_faults pprof.texts pprof) (both-none _ _ first texts) ∙ h

  pub to_types-none : first_text_faults pprof.texts ≡ [] → text_faults pprof.texts ≡ [] → type_faults pprof.texts pprof ≡ [] → faults_to_types pprof ≡ []
  unfolding faults_to_types
  to_types-none first texts types = both-none (first_text_faults pprof.texts ++ text_faults pprof.texts) (type_faults pprof.texts pprof) (both-none _ _ first texts) types

  pub functions-lead : Leads (function_faults pprof.texts pprof.functions) (place_faults pprof)
  unfolding place_faults
  functions-lead = first-here (function_faults pprof.texts pprof.functions) (location_faults pprof)

  pub locations-lead : function_faults pprof.texts pprof.functions ≡ [] → Leads (location_faults pprof) (place_faults pprof)
  unfolding place_faults
  locations-lead none fault h = first-after (function_faults pprof.texts pprof.functions) (location_faults pprof) none ∙ h

  pub places-none : function_faults pprof.texts pprof.functions ≡ [] → location_faults pprof ≡ [] → place_faults pprof ≡ []
  unfolding place_faults
  places-none functions locations = both-none (function_faults pprof.texts pprof.functions) (location_faults pprof) functions locations

  pub functions-none : place_faults pprof ≡ [] → function_faults pprof.texts pprof.functions ≡ []
  unfolding place_faults
  functions-none none = (no-parts (function_faults pprof.texts pprof.functions) (location_faults pprof) none).0

  pub samples-none : value_faults pprof ≡ [] → sample_faults pprof ≡ []
  unfolding value_faults
  samples-none none = (no-parts (sample_faults pprof) (total_faults pprof) none).0

  pub totals-none : value_faults pprof ≡ [] → total_faults pprof ≡ []
  unfolding value_faults
  totals-none none = (no-parts (sample_faults pprof) (total_faults pprof) none).1

  pub to_types-lead : Leads (faults_to_types pprof) (judged_faults pprof)
  unfolding judged_faults
  to_types-lead fault h =
      first-here (faults_to_types pprof ++ place_faults pprof) (value_faults pprof) fault (first-here (faults_to_types pprof) (place_faults pprof) fault h)

  pub places-lead : faults_to_types pprof ≡ [] → Leads (place_faults pprof) (judged_faults pprof)
  unfolding judged_faults
  places-lead types fault h =
      first-here (faults_to_types pprof ++ place_faults pprof) (value_faults pprof) fault (first-after (faults_to_types pprof) (place_faults pprof) types ∙ h)

  pub values-lead : faults_to_types pprof ≡ [] → place_faults pprof ≡ [] → Leads (value_faults pprof) (judged_faults pprof)
  unfolding judged_faults
  values-lead types places fault h =
      first-after (faults_to_types pprof ++ place_faults pprof) (value_faults pprof) (both-none _ _ types places) ∙ h

  pub judged-none : faults_to_types pprof ≡ [] → place_faults pprof ≡ [] → value_faults pprof ≡ [] → judged_faults pprof ≡ []
  unfolding judged_faults
  judged-none types places values = both-none (faults_to_types pprof ++ place_faults pprof) (value_faults pprof) (both-none _ _ types places) values

-- ---- the weight

pub judged-leads : (base : Base) (pprof : Pprof) → Leads (judged_faults pprof) (faults_of base pprof)
unfolding faults_of
judged-leads base pprof =
    leads-before (judged_faults pprof) (weight_faults base pprof) (judged_faults pprof ++ weight_faults base pprof) (leads-itself _)

pub weight-leads : (base : Base) (pprof : Pprof) → judged_faults pprof ≡ [] → Leads (weight_faults base pprof) (faults_of base pprof)
unfolding faults_of
weight-leads base pprof none =
    leads-after (judged_faults pprof) (weight_faults base pprof) (judged_faults pprof ++ weight_faults base pprof) none (leads-itself _)

pub faults-none : (base : Base) (pprof : Pprof) → judged_faults pprof ≡ [] → weight_faults base pprof ≡ [] → faults_of base pprof ≡ []
unfolding faults_of
faults-none base pprof judged weight = both-none (judged_faults pprof) (weight_faults base pprof) judged weight
