use Rattle.std.proofs.Common.{◌≡◌, ◌≤◌, take}
use Rattle.push_history.specs.History.{front_of, tenant_total}
use Rattle.push_history.proofs.history.standing.Given as goal

abbrev pub invariant-loop-push : goal.invariant-loop-push
invariant-loop-push l = record {
  counted : l.front ≡ front_of (take l.push-index l.history) l.tenant;
  few : l.front ≤ l.push-index;
  summed : l.total ≡ tenant_total (take l.push-index l.history) l.tenant;
}
