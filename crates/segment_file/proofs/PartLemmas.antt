-- The rows of pushes, taken one after another.
use Rattle.std.proofs.Common.{ℕ, List, map, filter}
use Rattle.std.specs.List.{enumerate_from, flat_map}
use Rattle.profile_model.specs.declared.part_ask.PartAsk.{PartAsk}
use Rattle.profile_model.specs.declared.profile.Profile.{Profile}
use Rattle.profile_model.specs.declared.push.Push.{Push}
use Rattle.segment_file.specs.Parts.{is_of, is_within, pushes_between, rows_of_push}
use Rattle.segment_file.specs.declared.part.Row.{Row}

-- profiles of the push with this number, the first of them at this place
abbrev pub placed : ℕ → ℕ → List Profile → List Row
placed push place profiles = map (λ at. record { push = push; place = at.0; profile = at.1 }) (enumerate_from place profiles)

-- what the ask finds in those of the pushes that have a number from `from` to below `until`; the first has the number lo
abbrev pub found_in : PartAsk → ℕ → ℕ → ℕ → List Push → List Row
found_in ask from until lo pushes = filter (is_within ask) (flat_map rows_of_push (filter (is_of ask.tenant) (pushes_between lo pushes from until)))
