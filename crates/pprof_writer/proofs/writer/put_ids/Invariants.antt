use Rattle.std.proofs.Common.{◌≡◌, ◌++◌, map, reverse}
use Rattle.std.specs.Prelude.{IsTrue}
use Rattle.std.specs.List.{All}
use Rattle.pprof_writer.specs.Tables.{id_of, is_among}
use Rattle.pprof_writer.specs.Written.{packed}
use Rattle.pprof_writer.proofs.writer.put_ids.Given as goal

abbrev pub invariant-loop-frame : goal.invariant-loop-frame
invariant-loop-frame l = record {
  there : All (λ frame. IsTrue (is_among l.frames frame)) l.frame-iterator.iter.rest.now;
  written : l.ids.items ++ packed (map (id_of l.frames) (reverse l.frame-iterator.iter.rest.now)) ≡ l.fn.ids.items ++ packed (map (id_of l.frames) (reverse l.stack));
}
