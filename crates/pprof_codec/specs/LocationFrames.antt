-- How a location's frames are kept.
use Rattle.std.specs.Prelude.{ℕ, List, [], ◌∷◌}
use Rattle.pprof_codec.specs.declared.locations.Names.{Names}
use Rattle.pprof_codec.specs.declared.locations.Names.TheVariants.{One, Many}

abbrev pub names_in : Names → List (List ℕ)
names_in (One name) = name ∷ []
names_in (Many names) = names.items
