-- What holds for a whole run, whatever its requests say.
use Rattle.std.specs.Prelude.{ℕ, ◌-◌, ◌^◌, Bool, List}
use Rattle.request_meaning.specs.declared.config.Config.{Config}

pub record Facts : Type 0 where
  -- every request's tenant is `anonymous`, whatever its header says
  pub single : Bool
  -- the most that the values of all pushes of a tenant may sum to
  pub limit : List ℕ → ℕ

-- the facts that an operator settles: each tenant's limit is 2^63 - 1
abbrev pub facts_of : Config → Facts
facts_of config = record { single = config.single_tenant; limit = λ tenant. 2 ^ 63 - 1 }
