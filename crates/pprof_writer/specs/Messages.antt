-- The lists that a written pprof says.
use Rattle.std.specs.Prelude.{ℕ, ◌^◌, ◌<◌, pos, List, [], ◌∷◌, length, map, reverse}
use Rattle.std.specs.List.{All, enumerate_from, range_with_len}
use Rattle.profile_model.specs.Sums.{Sample}
use Rattle.profile_model.specs.declared.kind.ProfileType.{ProfileType}
use Rattle.pprof_message.specs.declared.lists.Function.{Function}
use Rattle.pprof_message.specs.declared.lists.ValueType.{ValueType}
use Rattle.pprof_message.specs.Pprof as pprof
use Rattle.pprof_message.specs.Pprof.{Location, Pprof}
use Rattle.pprof_writer.specs.Tables.{id_of, place_of}

abbrev pub said_type : List (List ℕ) → List ℕ → List ℕ → ValueType
said_type texts kind unit = record { kind = pos (place_of texts kind); unit = pos (place_of texts unit) }

abbrev pub said_sample : List (List ℕ) → Sample → pprof.Sample
said_sample frames sample = record { location_ids = map (id_of frames) (reverse sample.0); values = pos sample.1 ∷ []; labels = [] }

-- one line, of the function with the same id
abbrev pub said_location : ℕ → Location
said_location id = record { id = id; address = 0; lines = id ∷ [] }

abbrev pub said_function : ℕ × ℕ → Function
said_function one = record { id = one.0; name = pos one.1; system_name = pos 0 }

abbrev pub said : List (List ℕ) → List (List ℕ) → ProfileType → List Sample → Pprof
said frames texts kind sums = record {
  sample_types = said_type texts kind.sample_type kind.sample_unit ∷ [];
  samples = map (said_sample frames) sums;
  locations = map said_location (range_with_len 1 (length frames));
  functions = map said_function (enumerate_from 1 (map (place_of texts) frames));
  texts = texts;
  time_nanos = pos 0;
  period_type = said_type texts kind.period_type kind.period_unit;
}

-- Lengths and values that fit their fields: no memory holds what doesn't, but a list may.
pub record AreHeld (frames texts : List (List ℕ)) (sums : List Sample) : Type 0 where
  pub frames_fit : length frames < 2 ^ 63
  pub texts_fit : length texts < 2 ^ 63
  pub each_text : All (λ text. length text < 2 ^ 64) texts
  pub stacks : All (λ sample. length sample.0 < 2 ^ 50) sums
  pub values : All (λ sample. sample.1 < 2 ^ 63) sums
