-- What the kept lists stand for.
use Rattle.std.specs.Prelude.{◌≡◌, ℕ, ℤ, List, [], ◌∷◌, length, map, slice_index}
use Rattle.pprof_message.specs.declared.lists.ValueType.{ValueType}
use Rattle.pprof_message.specs.declared.lists.Label.{Label}
use Rattle.pprof_message.specs.declared.lists.SampleRef.{SampleRef}
use Rattle.pprof_message.specs.declared.lists.LocationRef.{LocationRef}
use Rattle.pprof_message.specs.declared.gathered.Head.{Head}
use Rattle.pprof_message.specs.declared.gathered.Gathered.{Gathered}
use Rattle.pprof_message.specs.Pprof.{Sample, Location, Pprof}
use Rattle.pprof_message.specs.Messages.{int64}

-- a sample, a location that a caller sees
abbrev pub sample_in : SampleRef → Sample
sample_in s = record { location_ids = s.location_ids.now; values = s.values.now; labels = s.labels.now }

abbrev pub location_in : LocationRef → Location
location_in l = record { id = l.id; address = l.address; lines = l.lines.now }

-- samples from their lists, side by side
abbrev pub samples_from : List (List ℕ) → List (List ℤ) → List (List Label) → List Sample
samples_from [] values labels = []
samples_from (ids ∷ more) [] labels = []
samples_from (ids ∷ more) (values ∷ rest) [] = []
samples_from (ids ∷ more) (values ∷ rest) (labels ∷ others) = record { location_ids = ids; values = values; labels = labels } ∷ samples_from more rest others

abbrev pub locations_from : List Head → List (List ℕ) → List Location
locations_from [] lines = []
locations_from (head ∷ heads) [] = []
locations_from (head ∷ heads) (lines ∷ more) = record { id = head.id; address = head.address; lines = lines } ∷ locations_from heads more

-- a value type from the last numbers of its fields
abbrev pub value_type_from : List ℕ → ValueType
value_type_from numbers = record { kind = int64 (slice_index numbers 1); unit = int64 (slice_index numbers 2) }

-- as many lists of each kind
pub record IsEven (g : Gathered) : Type 0 where
  pub values : length g.samples.values.closed ≡ length g.samples.location_ids.closed
  pub labels : length g.samples.labels.closed ≡ length g.samples.location_ids.closed
  pub lines : length g.locations.lines.closed ≡ length g.locations.heads.items

abbrev pub gathered_pprof : Gathered → Pprof
gathered_pprof g = record {
  sample_types = g.sample_types.items;
  samples = samples_from g.samples.location_ids.closed g.samples.values.closed g.samples.labels.closed;
  locations = locations_from g.locations.heads.items g.locations.lines.closed;
  functions = g.functions.items;
  texts = map (λ text. text.now) g.texts.items;
  time_nanos = int64 g.time_nanos;
  period_type = value_type_from g.period_type;
}
