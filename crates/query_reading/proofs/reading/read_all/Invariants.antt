use Rattle.std.proofs.Common.{◌≡◌, ◌-◌, ◌<◌, ◌≤◌}
use Rattle.history_pass.specs.Marks.{Below}
use Rattle.profile_model.specs.Limits.{total_bound}
use Rattle.shared_store.specs.Cursors.{IsOn, IsOwn}
use Rattle.query_reading.proofs.GatherLemmas.{HasRead}
use Rattle.query_reading.proofs.reading.read_all.Given as goal

abbrev pub invariant-loop-part : goal.invariant-loop-part
invariant-loop-part g l = let gather = g.S.Gather in record {
  below : Below l.fn.pass l.pass;
  on : IsOn l.pass.list l.cursor;
  alone : g.P.Profiles.alone l.profiles ≡ g.P.Profiles.alone l.fn.profiles;
  own : IsOwn (g.P.Profiles.alone l.fn.profiles) l.fn.pass.list → IsOwn (g.P.Profiles.alone l.fn.profiles) l.pass.list;
  same : l.cursor ≡ record l.fn.cursor { at = l.cursor.at };
  held : gather.total l.gathered ≤ l.total;
  room : l.total < total_bound;
  latest : gather.latest l.gathered ≡ gather.latest l.fn.gathered;
  read : g.J.Names.run.tells → HasRead l.fn.pass.list l.fn.cursor.ask l.cursor.at l.total (λ asked. gather.holds asked l.fn.gathered) (λ asked. gather.holds asked l.gathered);
}

abbrev pub decreases-loop-part : goal.decreases-loop-part
decreases-loop-part g l = l.cursor.until - l.cursor.at
