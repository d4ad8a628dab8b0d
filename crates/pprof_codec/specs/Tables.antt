-- What is kept of a profile's message while it is read.
use Rattle.std.specs.Prelude.{◌≡◌, ◌==◌, ◌&&◌, ℕ, ◌+◌, ◌-◌, ◌<◌, Bool, List, [], ◌∷◌, ◌++◌, length, map, reverse, position, get_or, nat_lt, slice_get, sum_by, option_and_then, Option, Some, Result, Ok, Err, Vec, if◌then◌else◌}
use Rattle.std.specs.List.{range_with_len}
use Rattle.std.specs.Map.{lookup}
use Rattle.std.specs.BTreeMap.{is_at}
use Rattle.std.specs.Ordering.{nat_cmp}
use Rattle.std.specs.Cmp.Lexicographic.{slice_cmp}
use Rattle.faults.specs.Answers.{IfFault}
use Rattle.faults.specs.declared.refused.Refused.{Refused}
use Rattle.profile_model.specs.CleanedTexts.{cleaned}
use Rattle.profile_model.specs.Kinds.{IsPart}
use Rattle.profile_model.specs.Stacks.{name_cmp}
use Rattle.profile_model.specs.Sums as sums
use Rattle.profile_model.specs.Sums.{sums_of, with_added}
use Rattle.pprof_message.specs.Pprof.{Pprof}
use Rattle.pprof_codec.specs.declared.fault.PprofFault.{PprofFault}
use Rattle.pprof_codec.specs.declared.fault.PprofFault.TheVariants.{Weight}
use Rattle.pprof_codec.specs.Frames.{address_frame, function_frame, location_frames, root_first, unknown_frame}
use Rattle.pprof_codec.specs.Profiles.{samples_of, stacks_weight}
use Rattle.pprof_codec.specs.Checks.{first_of}

-- the first of these faults
abbrev pub IsFirst : List PprofFault → PprofFault → Type 0
IsFirst faults fault = first_of faults ≡ Some fault

-- a part was judged: it has no fault and P holds, or this is its first fault
abbrev pub Judges : {T : Type 0} → Result T (Refused PprofFault) → List PprofFault → (T → Type 0) → Type 0
Judges (Ok x) faults P = (faults ≡ []) × P x
Judges (Err refused) faults P = IfFault (IsFirst faults) refused

-- the number of the member with this id
abbrev pub number_of : List ℕ → ℕ → Option ℕ
number_of ids id = position (λ known. known == id) ids

-- the member with the id n + 1 has the number n
abbrev pub is_in_place : List ℕ → ℕ → Bool
is_in_place ids id = nat_lt 0 id && nat_lt (id - 1) (length ids) && (get_or ids (id - 1) 0 == id)

-- each id's number is told by its place, or else by the others
abbrev pub AreNumbered : List ℕ → List (ℕ × ℕ) → Type 0
AreNumbered ids others =
    (id : ℕ) → (if is_in_place ids id then Some (id - 1) else lookup (is_at (nat_cmp id)) others) ≡ number_of ids id

-- the ids of all functions, and their frames
pub record AreFunctions (pprof : Pprof) (ids : List ℕ) (frames : List (List ℕ)) : Type 0 where
  pub known : ids ≡ map (λ function. function.id) pprof.functions
  pub framed : frames ≡ map (function_frame pprof.texts) pprof.functions

-- the ids of all locations, and the frames of each
pub record AreLocations (pprof : Pprof) (ids : List ℕ) (frames : List (List (List ℕ))) : Type 0 where
  pub known : ids ≡ map (λ location. location.id) pprof.locations
  pub framed : frames ≡ map (location_frames pprof) pprof.locations

-- the frames that locations may have: each text, the unknown frame, and that of each location's address
unfoldable pub numbered_frames : Pprof → List (List ℕ)
numbered_frames pprof = pprof.texts ++ unknown_frame ∷ map (λ location. address_frame location.address) pprof.locations

-- the frame with this number
abbrev pub frame_numbered : Pprof → ℕ → List ℕ
frame_numbered pprof number = get_or (numbered_frames pprof) number []

-- the frames of each location, by their numbers
abbrev pub AreNumberedFrames : {Z : Type 0} → Pprof → List (Vec ℕ Z) → Type 0
AreNumberedFrames pprof numbers = map (λ one. map (frame_numbered pprof) one.items) numbers ≡ map (location_frames pprof) pprof.locations

-- what the member with this id has
abbrev pub found_in : {X : Type 0} → List ℕ → List X → ℕ → Option X
found_in ids values id = option_and_then (slice_get values) (number_of ids id)

-- texts and what each is as a part of a type
abbrev pub AreParts : List (List ℕ × List ℕ) → Type 0
AreParts parts = (text part : List ℕ) → lookup (is_at (name_cmp text)) parts ≡ Some part → (part ≡ cleaned text) × IsPart part

-- there is too little room for a weight
abbrev pub IsShort : ℕ → ℕ → PprofFault → Type 0
IsShort room weight fault = (fault ≡ Weight) × (room < weight)

-- what is made weighs so much: there was room for it, or there is too little
abbrev pub TakesRoom : {T : Type 0} → Result T (Refused PprofFault) → ℕ → ℕ → ℕ → (T → Type 0) → Type 0
TakesRoom (Ok x) before after weight P = (before ≡ after + weight) × P x
TakesRoom (Err refused) before after weight P = IfFault (IsShort before weight) refused

-- ---- samples by their numbers

-- the numbers of all samples
abbrev pub numbers_of : Pprof → List ℕ
numbers_of pprof = range_with_len 0 (length pprof.samples)

-- the location ids of the sample with this number
abbrev pub ids_at : Pprof → ℕ → List ℕ
ids_at pprof at = get_or (map (λ sample. sample.location_ids) pprof.samples) at []

-- the stack of the sample with this number
abbrev pub stack_at : Pprof → ℕ → List (List ℕ)
stack_at pprof at = root_first pprof (ids_at pprof at)

-- each sample's stack is that of the sample whose number is told
abbrev pub AreAlike : Pprof → List ℕ → Type 0
AreAlike pprof numbers = map (stack_at pprof) numbers ≡ map (stack_at pprof) (numbers_of pprof)

-- numbers of frames, the leaf first, each with a sample that has their stack
abbrev pub AreFirsts : {Z : Type 0} → Pprof → List (Vec ℕ Z × ℕ) → Type 0
AreFirsts {Z} pprof firsts =
    (frames : Vec ℕ Z) (at : ℕ) → lookup (is_at (λ known. slice_cmp nat_cmp frames.items known.items)) firsts ≡ Some at
    → reverse (map (frame_numbered pprof) frames.items) ≡ stack_at pprof at

-- the stack of the sample with this number, and its value of a sample type
abbrev pub sample_at : Pprof → ℕ → ℕ → sums.Sample
sample_at pprof number at = get_or (samples_of pprof number) at ([], 0)

-- these samples' values of a sample type, together
abbrev pub value_over : Pprof → ℕ → List ℕ → ℕ
value_over pprof number run = sum_by (λ at. (sample_at pprof number at).1) run

-- the stack of the first of these samples
abbrev pub first_stack : Pprof → List ℕ → List (List ℕ)
first_stack pprof run = root_first pprof (ids_at pprof (get_or run 0 0))

-- each sample type's sums of these samples
unfoldable pub sums_over : Pprof → List ℕ → List (List sums.Sample)
sums_over pprof order =
    map (λ number. sums_of (map (sample_at pprof number) order)) (range_with_len 0 (length pprof.sample_types))

-- each sample type's sums
unfoldable pub all_sums : Pprof → List (List sums.Sample)
all_sums pprof = map (λ number. sums_of (samples_of pprof number)) (range_with_len 0 (length pprof.sample_types))

-- each sample type's sums, with the values of samples that have this stack
unfoldable pub run_added : Pprof → List ℕ → List (List ℕ) → List (List sums.Sample) → List (List sums.Sample)
run_added pprof run stack before =
    map (λ number. with_added (get_or before number []) stack (value_over pprof number run)) (range_with_len 0 (length before))

abbrev pub sums_weight : List (List sums.Sample) → ℕ
sums_weight all = sum_by stacks_weight all
