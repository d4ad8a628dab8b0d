use Rattle.pprof_codec.specs.Tables.{AreParts}
use Rattle.pprof_codec.proofs.parts.read_parts.Given as goal

abbrev pub invariant-loop-kind : goal.invariant-loop-kind
invariant-loop-kind l = AreParts l.parts.entries
