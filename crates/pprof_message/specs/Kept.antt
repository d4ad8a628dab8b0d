-- What is kept of a profile while its fields are read.
use Rattle.std.specs.Prelude.{ℕ, List, [], ◌∷◌, ◌++◌, map}
use Rattle.std.specs.List.{filter_map}
use Rattle.wire_proto.specs.Message.{WireField}
use Rattle.pprof_message.specs.declared.lists.ValueType.{ValueType}
use Rattle.pprof_message.specs.declared.lists.Function.{Function}
use Rattle.pprof_message.specs.declared.gathered.Head.{Head}
use Rattle.pprof_message.specs.declared.gathered.Samples.{Samples}
use Rattle.pprof_message.specs.declared.gathered.Gathered.{Gathered}
use Rattle.pprof_message.specs.Fields.{Part, number_of, last_of, fields_in, parts, messages, merged}
use Rattle.pprof_message.specs.Messages.{value_type_of, function_of}
use Rattle.pprof_message.specs.Numbers.{last_numbers}
use Rattle.pprof_message.specs.Runs.{Runs, closed_run}
use Rattle.pprof_message.specs.Readers.{sample_with, sample_closed, head_of, lines_with}

pub record Kept : Type 0 where
  pub sample_types : List ValueType
  pub samples : Samples
  pub heads : List Head
  pub lines : Runs ℕ
  pub functions : List Function
  pub texts : List (List ℕ)
  pub time_nanos : ℕ
  pub period_type : List ℕ

-- the kept lists
abbrev pub kept : Gathered → Kept
kept g = record {
  sample_types = g.sample_types.items;
  samples = g.samples;
  heads = g.locations.heads.items;
  lines = g.locations.lines;
  functions = g.functions.items;
  texts = map (λ text. text.now) g.texts.items;
  time_nanos = g.time_nanos;
  period_type = g.period_type;
}

abbrev pub no_runs : {T : Type 0} → Runs T
no_runs = record { closed = []; begun = [] }

abbrev pub none_kept : Kept
none_kept = record {
  sample_types = [];
  samples = record { location_ids = no_runs; values = no_runs; labels = no_runs };
  heads = [];
  lines = no_runs;
  functions = [];
  texts = [];
  time_nanos = 0;
  period_type = 0 ∷ 0 ∷ 0 ∷ 0 ∷ 0 ∷ 0 ∷ [];
}

-- the samples, the lines of locations, that stand in these parts come behind the others
abbrev pub samples_after : Samples → List Part → Samples
samples_after samples [] = samples
samples_after samples (part ∷ more) = samples_after (sample_closed (sample_with samples (fields_in part))) more

abbrev pub lines_after : Runs ℕ → List Part → Runs ℕ
lines_after lines [] = lines
lines_after lines (part ∷ more) = lines_after (closed_run (lines_with lines (fields_in part))) more

-- what these fields add
abbrev pub kept_with : Kept → List WireField → Kept
kept_with k fields = record {
  sample_types = k.sample_types ++ messages 1 value_type_of fields;
  samples = samples_after k.samples (parts 2 fields);
  heads = k.heads ++ messages 4 head_of fields;
  lines = lines_after k.lines (parts 4 fields);
  functions = k.functions ++ messages 5 function_of fields;
  texts = k.texts ++ map (λ part. part.bytes) (parts 6 fields);
  time_nanos = last_of k.time_nanos (filter_map (number_of 9) fields);
  period_type = last_numbers k.period_type (merged 11 fields);
}
