use Rattle.std.proofs.Common.{◌<◌, ◌≤◌}
use Rattle.link_trait.proofs.memory_link.piece_end.Given as goal

abbrev pub invariant-loop-cut : goal.invariant-loop-cut
invariant-loop-cut l = record {
  within : l.end ≤ l.length;
  never_before : l.at ≤ l.end;
  past : l.at < l.length → l.at < l.end;
}
