-- What stands in the tables of a written pprof: each frame and each text once, and nothing else.
use Rattle.std.specs.Prelude.{◌≡◌, ◌++◌, ℕ, IsTrue, List, [], ◌∷◌, map, nat_eq, true}
use Rattle.std.specs.Cmp.Lexicographic.{pointwise}
use Rattle.std.specs.List.{All, IsDistinct, flat_map}
use Rattle.std.specs.List.Sorted.{IsStrictlySortedBy}
use Rattle.profile_model.specs.Stacks.{name_cmp}
use Rattle.profile_model.specs.Sums.{Sample}
use Rattle.profile_model.specs.declared.kind.ProfileType.{ProfileType}
use Rattle.pprof_codec.specs.Checks.{begins_empty}
use Rattle.pprof_writer.specs.Laws.{said_parts}
use Rattle.pprof_writer.specs.Tables.{is_among, place_of}

-- all frames of the stacks and no others, each above the one before
pub record AreFramesOf (sums : List Sample) (frames : List (List ℕ)) : Type 0 where
  pub ascending : IsStrictlySortedBy name_cmp frames
  pub each : All (λ sample. All (λ frame. IsTrue (is_among frames frame)) sample.0) sums
  pub only : All (λ frame. IsTrue (is_among (flat_map (λ (sample : Sample). sample.0) sums) frame)) frames

-- the empty text first, the parts of the type and the frames, no others, and each once; so no two functions have one name
pub record AreTextsOf (kind : ProfileType) (frames texts : List (List ℕ)) : Type 0 where
  pub first : begins_empty texts ≡ true
  pub each : All (λ text. IsTrue (is_among texts text)) (said_parts kind ++ frames)
  pub only : All (λ text. IsTrue (is_among (([] ∷ said_parts kind) ++ frames) text)) texts
  pub once : IsDistinct (pointwise nat_eq) texts
  pub names : IsDistinct nat_eq (map (place_of texts) frames)
