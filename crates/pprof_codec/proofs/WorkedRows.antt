-- The definitions, worked out on small messages.
use Rattle.std.proofs.Common.{◌≡◌, ℕ, ℤ, List, [], ◌∷◌, Some, refl}
use Rattle.std.specs.Prelude.{pos, negsuc, codes}
use Rattle.pprof_message.specs.Pprof.{Sample, Pprof}
use Rattle.pprof_codec.specs.declared.fault.Member.TheVariants as members
use Rattle.pprof_codec.specs.declared.fault.PprofFault.TheVariants.{NoSuchText, RepeatedId, NoSuchLocation, WrongValueCount, NegativeValue, TooLarge}
use Rattle.pprof_codec.specs.Frames.{function_frame, line_frame, location_frames, frames_at, stack_of}
use Rattle.pprof_codec.specs.Profiles.{samples_of, time_of}
use Rattle.pprof_codec.specs.Checks.{first_of, faults_of_function, function_faults, faults_of_sample, sample_faults, total_faults, value_faults}

-- a message of two lines at one location, with these samples
abbrev message : List Sample → Pprof
message samples = record {
  sample_types = record { kind = pos 1; unit = pos 2 } ∷ [];
  samples = samples;
  locations = record { id = 1; address = 0; lines = 1 ∷ 2 ∷ [] } ∷ record { id = 5; address = 0; lines = 0 ∷ [] } ∷ [];
  functions = record { id = 1; name = pos 3; system_name = pos 0 } ∷ record { id = 2; name = pos 0; system_name = pos 4 } ∷ [];
  texts = [] ∷ codes "samples" ∷ codes "count" ∷ codes "leaf" ∷ codes "main" ∷ [];
  time_nanos = pos 0;
  period_type = record { kind = pos 0; unit = pos 0 };
}

abbrev sample : List ℕ → List ℤ → Sample
sample ids values = record { location_ids = ids; values = values; labels = [] }

pub the_first_line_is_the_leaf : samples_of (message (sample (1 ∷ []) (pos 7 ∷ []) ∷ [])) 0 ≡ (codes "main" ∷ codes "leaf" ∷ [], 7) ∷ []
unfolding samples_of stack_of frames_at location_frames line_frame function_frame
the_first_line_is_the_leaf = refl

pub the_first_location_is_the_leaf : stack_of (message []) (sample (5 ∷ 1 ∷ []) []) ≡ codes "main" ∷ codes "leaf" ∷ codes "[unknown]" ∷ []
unfolding stack_of frames_at location_frames line_frame function_frame
the_first_location_is_the_leaf = refl

pub no_location_is_unknown : stack_of (message []) (sample [] []) ≡ codes "[unknown]" ∷ []
unfolding stack_of
no_location_is_unknown = refl

pub no_function_is_unknown : line_frame (message []) 0 ≡ codes "[unknown]"
unfolding line_frame
no_function_is_unknown = refl

pub time-down : time_of 9 (pos 1999999) ≡ 1
time-down = refl

pub time-none : time_of 9 (pos 0) ≡ 9
time-none = refl

pub time-before : time_of 9 (negsuc 0) ≡ 9
time-before = refl

-- ---- the order of the checks

pub without_a_fault : value_faults (message (sample (1 ∷ []) (pos 7 ∷ []) ∷ [])) ≡ []
unfolding value_faults sample_faults faults_of_sample total_faults samples_of stack_of frames_at location_frames line_frame function_frame
without_a_fault = refl

pub an_earlier_sample : first_of (value_faults (message (sample (1 ∷ []) (negsuc 0 ∷ []) ∷ sample [] [] ∷ []))) ≡ Some (NegativeValue 0 0)
unfolding value_faults sample_faults faults_of_sample total_faults samples_of stack_of frames_at location_frames line_frame function_frame
an_earlier_sample = refl

pub count_before_location : first_of (value_faults (message (sample (9 ∷ []) [] ∷ []))) ≡ Some (WrongValueCount 0)
unfolding value_faults sample_faults faults_of_sample total_faults samples_of stack_of frames_at location_frames line_frame function_frame
count_before_location = refl

pub location_before_value : first_of (value_faults (message (sample (9 ∷ []) (negsuc 0 ∷ []) ∷ []))) ≡ Some (NoSuchLocation 0)
unfolding value_faults sample_faults faults_of_sample total_faults samples_of stack_of frames_at location_frames line_frame function_frame
location_before_value = refl

pub samples_before_sums : first_of (value_faults (message (sample [] (pos 9223372036854775807 ∷ []) ∷ sample [] (pos 1 ∷ []) ∷ sample [] (negsuc 4 ∷ []) ∷ []))) ≡ Some (NegativeValue 2 0)
unfolding value_faults sample_faults faults_of_sample total_faults samples_of stack_of frames_at location_frames line_frame function_frame
samples_before_sums = refl

pub sums_after_samples : first_of (value_faults (message (sample [] (pos 9223372036854775807 ∷ []) ∷ sample [] (pos 1 ∷ []) ∷ []))) ≡ Some (TooLarge 0)
unfolding value_faults sample_faults faults_of_sample total_faults samples_of stack_of frames_at location_frames line_frame function_frame
sums_after_samples = refl

pub an_id_comes_again : first_of (function_faults ([] ∷ []) (record { id = 3; name = pos 0; system_name = pos 0 } ∷ record { id = 3; name = pos 9; system_name = pos 0 } ∷ [])) ≡ Some (RepeatedId members.Function 1)
unfolding function_faults faults_of_function function_frame
an_id_comes_again = refl

pub a_place_is_below_the_count : first_of (function_faults ([] ∷ []) (record { id = 3; name = pos 0; system_name = pos 1 } ∷ [])) ≡ Some (NoSuchText members.Function 0)
unfolding function_faults faults_of_function function_frame
a_place_is_below_the_count = refl
