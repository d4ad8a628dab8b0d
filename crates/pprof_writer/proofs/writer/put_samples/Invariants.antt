use Rattle.std.proofs.Common.{◌≡◌, ◌++◌}
use Rattle.std.specs.List.{All}
use Rattle.std.specs.Map.{keys_of}
use Rattle.std.specs.Prelude.{IsTrue}
use Rattle.profile_model.specs.Stacks.{IsStack}
use Rattle.pprof_writer.specs.Fields.{message}
use Rattle.pprof_writer.specs.Tables.{is_among}
use Rattle.pprof_writer.specs.Written.{fields_with, written_sample}
use Rattle.pprof_writer.proofs.writer.put_samples.Given as goal

abbrev pub invariant-loop-stack : goal.invariant-loop-stack
invariant-loop-stack l = record {
  there : All (λ sample. All (λ frame. IsTrue (is_among l.frames frame)) sample.0) l.stack-iterator;
  written : l.out.items ++ message (fields_with 2 (written_sample l.frames) l.stack-iterator) ≡ l.fn.out.items ++ message (fields_with 2 (written_sample l.frames) l.values);
  stacks : All IsStack (keys_of l.stack-iterator) → All IsStack (keys_of l.values);
}
