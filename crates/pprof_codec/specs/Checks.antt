-- The faults of a pprof, check by check. Which members may name which, and that ids aren't 0 and differ, is pprof's
-- profile.proto; that values aren't negative, the limits and the order are this project's own rules.
use Rattle.std.specs.Prelude.{◌==◌, ℕ, ℤ, pos, negsuc, Bool, true, false, not, ◌&&◌, ◌||◌, List, [], ◌∷◌, ◌++◌, length, map, take, nat_lt, is_some, Option, Some, None, if◌then◌else◌}
use Rattle.std.specs.List.{enumerate_from, flat_map, list_all, list_any}
use Rattle.std.specs.Str.{is_utf8}
use Rattle.profile_model.specs.Limits.{most_frame_bytes, most_frames, most_profiles, most_weight, total_bound}
use Rattle.profile_model.specs.Sums.{total_of}
use Rattle.pprof_message.specs.declared.lists.ValueType.{ValueType}
use Rattle.pprof_message.specs.declared.lists.Label.{Label}
use Rattle.pprof_message.specs.declared.lists.Function.{Function}
use Rattle.pprof_message.specs.Pprof.{Sample, Location, Pprof}
use Rattle.pprof_codec.specs.declared.base.Base.{Base}
use Rattle.pprof_codec.specs.declared.fault.Member.TheVariants as members
use Rattle.pprof_codec.specs.declared.fault.PprofFault.{PprofFault}
use Rattle.pprof_codec.specs.declared.fault.PprofFault.TheVariants.{NoEmptyText, NoSuchText, ZeroId, RepeatedId, NoSuchLocation, NoSuchFunction, WrongValueCount, NegativeValue, TooLarge, TooDeep, NotUtf8, LongFrame, Weight}
use Rattle.pprof_codec.specs.Members.{function_with, location_with, has_text}
use Rattle.pprof_codec.specs.Frames.{function_frame, stack_of}
use Rattle.pprof_codec.specs.Profiles.{samples_of, profiles_of, weight_of}

-- ---- lists of faults

-- the fault, where the test finds it
abbrev pub fault_if : Bool → PprofFault → List PprofFault
fault_if found fault = if found then fault ∷ [] else []

-- the faults of each member with its number, from 0
abbrev pub faults_of_each : {X : Type 0} → (ℕ → X → List PprofFault) → List X → List PprofFault
faults_of_each faults members = flat_map (λ one. faults one.0 one.1) (enumerate_from 0 members)

abbrev pub first_of : List PprofFault → Option PprofFault
first_of [] = None
first_of (fault ∷ faults) = Some fault

-- ---- the texts

-- the table begins with the empty text
abbrev pub begins_empty : List (List ℕ) → Bool
begins_empty [] = false
begins_empty (text ∷ texts) = length text == 0

unfoldable pub first_text_faults : List (List ℕ) → List PprofFault
first_text_faults texts = fault_if (not (begins_empty texts)) NoEmptyText

abbrev pub faults_of_text : ℕ → List ℕ → List PprofFault
faults_of_text number text = fault_if (not (is_utf8 text)) (NotUtf8 number)

unfoldable pub text_faults : List (List ℕ) → List PprofFault
text_faults texts = faults_of_each faults_of_text texts

-- ---- the types

abbrev pub has_texts : List (List ℕ) → ValueType → Bool
has_texts texts kind = has_text texts kind.kind && has_text texts kind.unit

unfoldable pub sample_type_faults : List (List ℕ) → List ValueType → List PprofFault
sample_type_faults texts kinds =
    faults_of_each (λ number kind. fault_if (not (has_texts texts kind)) (NoSuchText members.SampleType number)) kinds

unfoldable pub period_type_faults : List (List ℕ) → ValueType → List PprofFault
period_type_faults texts kind = fault_if (not (has_texts texts kind)) (NoSuchText members.PeriodType 0)

-- ---- functions and locations

-- an id is one of these
abbrev pub has_id : List ℕ → ℕ → Bool
has_id ids id = list_any (λ known. known == id) ids

abbrev pub has_names : List (List ℕ) → Function → Bool
has_names texts function = has_text texts function.name && has_text texts function.system_name

-- where the functions before have these ids
unfoldable pub faults_of_function : List (List ℕ) → List ℕ → ℕ → Function → List PprofFault
faults_of_function texts ids number function =
    fault_if (function.id == 0) (ZeroId members.Function number)
    ++ fault_if (has_id ids function.id) (RepeatedId members.Function number)
    ++ fault_if (not (has_names texts function)) (NoSuchText members.Function number)
    ++ fault_if (nat_lt most_frame_bytes (length (function_frame texts function))) (LongFrame number)

unfoldable pub function_faults : List (List ℕ) → List Function → List PprofFault
function_faults texts functions =
    faults_of_each (λ number function. faults_of_function texts (take number (map (λ f. f.id) functions)) number function) functions

-- a line names a function, or 0 for none
abbrev pub has_function : Pprof → ℕ → Bool
has_function pprof id = (id == 0) || is_some (function_with pprof id)

-- where the locations before have these ids
unfoldable pub faults_of_location : Pprof → List ℕ → ℕ → Location → List PprofFault
faults_of_location pprof ids number location =
    fault_if (location.id == 0) (ZeroId members.Location number)
    ++ fault_if (has_id ids location.id) (RepeatedId members.Location number)
    ++ fault_if (not (list_all (has_function pprof) location.lines)) (NoSuchFunction number)

unfoldable pub location_faults : Pprof → List PprofFault
location_faults pprof =
    faults_of_each (λ number location. faults_of_location pprof (take number (map (λ l. l.id) pprof.locations)) number location) pprof.locations

-- ---- samples

abbrev pub has_label_texts : List (List ℕ) → Label → Bool
has_label_texts texts label = has_text texts label.key && has_text texts label.text && has_text texts label.num_unit

abbrev pub is_negative : ℤ → Bool
is_negative (pos n) = false
is_negative (negsuc n) = true

abbrev pub faults_of_value : ℕ → ℕ → ℤ → List PprofFault
faults_of_value sample number value = fault_if (is_negative value) (NegativeValue sample number)

unfoldable pub faults_of_sample : Pprof → ℕ → Sample → List PprofFault
faults_of_sample pprof number sample =
    fault_if (not (length sample.values == length pprof.sample_types)) (WrongValueCount number)
    ++ fault_if (not (list_all (λ id. is_some (location_with pprof id)) sample.location_ids)) (NoSuchLocation number)
    ++ fault_if (nat_lt most_frames (length (stack_of pprof sample))) (TooDeep number)
    ++ fault_if (not (list_all (has_label_texts pprof.texts) sample.labels)) (NoSuchText members.Sample number)
    ++ faults_of_each (faults_of_value number) sample.values

unfoldable pub sample_faults : Pprof → List PprofFault
sample_faults pprof = faults_of_each (faults_of_sample pprof) pprof.samples

-- ---- the whole

unfoldable pub total_faults : Pprof → List PprofFault
total_faults pprof =
    faults_of_each (λ number kind. fault_if (not (nat_lt (total_of (samples_of pprof number)) total_bound)) (TooLarge number)) pprof.sample_types

unfoldable pub weight_faults : Base → Pprof → List PprofFault
weight_faults base pprof =
    fault_if (nat_lt most_profiles (length pprof.sample_types) || nat_lt most_weight (weight_of (profiles_of base pprof))) Weight

-- the types' places
unfoldable pub type_faults : List (List ℕ) → Pprof → List PprofFault
type_faults texts pprof = sample_type_faults texts pprof.sample_types ++ period_type_faults texts pprof.period_type

unfoldable pub faults_to_types : Pprof → List PprofFault
faults_to_types pprof = first_text_faults pprof.texts ++ text_faults pprof.texts ++ type_faults pprof.texts pprof

-- functions and locations
unfoldable pub place_faults : Pprof → List PprofFault
place_faults pprof = function_faults pprof.texts pprof.functions ++ location_faults pprof

-- samples and their sums
unfoldable pub value_faults : Pprof → List PprofFault
value_faults pprof = sample_faults pprof ++ total_faults pprof

-- the faults of all checks but the last, in their order
unfoldable pub judged_faults : Pprof → List PprofFault
judged_faults pprof = faults_to_types pprof ++ place_faults pprof ++ value_faults pprof

-- all faults, in the order of the checks
unfoldable pub faults_of : Base → Pprof → List PprofFault
faults_of base pprof = judged_faults pprof ++ weight_faults base pprof
