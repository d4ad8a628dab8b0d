use Rattle.std.proofs.Common.{◌≡◌, ◌++◌, map}
use Rattle.form_urlencoded.specs.Parse.{pairs_left}
use Rattle.query_parameters.specs.Parameters.{decoded_pair, pairs_of, parameters_of}
use Rattle.query_parameters.proofs.parameters.read_parameters.Given as goal

abbrev pub invariant-loop-pair : goal.invariant-loop-pair
invariant-loop-pair l = pairs_of l.parameters.items ++ map decoded_pair (pairs_left l.pair-iterator) ≡ parameters_of l.query
