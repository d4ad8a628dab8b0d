use Rattle.std.proofs.Common.{false}
use Rattle.std.specs.Prelude.{[], replicate}
use Rattle.metastore_index.specs.Entries.{end_of}
use Rattle.query_reading.proofs.tests.read.Given as goal

-- Of the store's pushes only their number is said, since nothing is known of its disk.
abbrev pub ghosts-read_as-J-Naming : goal.ghosts-read_as-J-Naming
ghosts-read_as-J-Naming g a = record { spine = a.blank }

abbrev pub ghosts-read_as-J-Names : goal.ghosts-read_as-J-Names
ghosts-read_as-J-Names g a = record {
  run = record {
    start = record { moment = 0; faults = 0; history = replicate (end_of a.store.index.entries) (record { tenant = []; profiles = [] }) };
    tells = ⊥;
    records = a.store.records;
    limits = a.store.limits;
  };
}
