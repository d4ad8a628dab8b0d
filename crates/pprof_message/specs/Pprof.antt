-- What a profile's message says, as its bytes spell it: the lists of pprof's profile.proto. No place is looked up, and
-- no rule of a valid profile is asked for.
use Rattle.std.specs.Prelude.{ℕ, ℤ, List}
use Rattle.pprof_message.specs.declared.lists.ValueType.{ValueType}
use Rattle.pprof_message.specs.declared.lists.Label.{Label}
use Rattle.pprof_message.specs.declared.lists.Function.{Function}

pub record Sample : Type 0 where
  pub location_ids : List ℕ
  pub values : List ℤ
  pub labels : List Label

-- its lines are told by the ids of their functions
pub record Location : Type 0 where
  pub id : ℕ
  pub address : ℕ
  pub lines : List ℕ

pub record Pprof : Type 0 where
  pub sample_types : List ValueType
  pub samples : List Sample
  pub locations : List Location
  pub functions : List Function
  pub texts : List (List ℕ)
  pub time_nanos : ℤ
  pub period_type : ValueType
