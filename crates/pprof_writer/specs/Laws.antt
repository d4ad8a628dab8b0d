-- What is read again of a written pprof.
use Rattle.std.specs.Prelude.{◌≡◌, ◌≤◌, ◌==◌, ◌||◌, ℕ, Bool, IsTrue, not, List, [], ◌∷◌, map, Result, Ok, Err, Vec}
use Rattle.std.specs.List.{All, list_all}
use Rattle.std.specs.Map.{keys_of}
use Rattle.std.specs.Str.{IsUtf8}
use Rattle.std.specs.declared.alloc.Global.{Global}
use Rattle.profile_model.specs.CleanedTexts.{cleaned}
use Rattle.profile_model.specs.Limits.{most_weight}
use Rattle.profile_model.specs.Stacks.{IsStack}
use Rattle.profile_model.specs.Sums.{AreSums, Sample}
use Rattle.profile_model.specs.declared.kind.ProfileType.{ProfileType}
use Rattle.profile_model.specs.declared.profile.Profile.{Profile}
use Rattle.pprof_codec.specs.Profiles.{Held, held_of, held_weight}
use Rattle.pprof_codec.specs.Read.{IsReadPprof}
use Rattle.pprof_codec.specs.declared.base.Base.{Base}
use Rattle.pprof_codec.specs.declared.fault.PprofFault.{PprofFault}

-- the parts of a type that a pprof says
abbrev pub said_parts : ProfileType → List (List ℕ)
said_parts kind = kind.sample_type ∷ kind.sample_unit ∷ kind.period_type ∷ kind.period_unit ∷ []

-- the base's labels, name and time, the parts, and the sums
abbrev pub held_again : Base → ProfileType → List Sample → Held
held_again base kind sums = record { labels = base.labels; parts = base.name ∷ said_parts kind; time_ms = base.fallback_ms; values = sums }

-- a part that is text, and holds none of the marks that a reader replaces
pub record IsKept (part : List ℕ) : Type 0 where
  pub utf8 : IsUtf8 part
  pub unmarked : cleaned part ≡ part

-- sums of stacks of text, and the parts of a type, that together weigh no more than a push may
pub record AreReadable (base : Base) (kind : ProfileType) (sums : List Sample) : Type 0 where
  pub are_sums : AreSums sums
  pub stacks : All IsStack (keys_of sums)
  pub utf8 : All (All IsUtf8) (keys_of sums)
  pub parts : All IsKept (said_parts kind)
  pub light : held_weight (held_again base kind sums) ≤ most_weight

-- one profile, which holds this
abbrev pub IsReadAs : {Z : Type 0} → Held → Result (Vec Profile Z) PprofFault → Type 0
IsReadAs held (Ok profiles) = map held_of profiles.items ≡ held ∷ []
IsReadAs held (Err fault) = ⊥

-- ---- what a caller owes

-- `{`, `}` and `"`: with the colon, which no part of a type holds, the marks that a reader replaces
abbrev pub is_other_mark : ℕ → Bool
is_other_mark b = (b == 123) || (b == 125) || (b == 34)

-- what isn't so of every type and its sums: no such mark in the parts that are said, and a weight that a push may have
pub record CanBeReadBack (base : Base) (kind : ProfileType) (sums : List Sample) : Type 0 where
  pub unmarked : All (λ part. IsTrue (list_all (λ b. not (is_other_mark b)) part)) (said_parts kind)
  pub light : held_weight (held_again base kind sums) ≤ most_weight

-- each right answer to these bytes is one profile of these sums
abbrev pub IsReadBack : Base → ProfileType → List Sample → List ℕ → Type 0
IsReadBack base kind sums bytes =
    (answer : Result (Vec Profile Global) PprofFault) → IsReadPprof base bytes answer → IsReadAs (held_again base kind sums) answer
