use Rattle.std.proofs.Common.{◌≡◌, drop}
use Rattle.query_parameters.specs.Parameters.{pairs_of, value_of}
use Rattle.query_parameters.proofs.parameters.first_value.Given as goal

-- what the rest has, the whole has
abbrev pub invariant-loop-parameter : goal.invariant-loop-parameter
invariant-loop-parameter l = value_of (pairs_of (drop l.parameter-index l.parameters)) l.name ≡ value_of (pairs_of l.parameters) l.name
