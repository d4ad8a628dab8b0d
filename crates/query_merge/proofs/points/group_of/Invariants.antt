use Rattle.std.proofs.Common.{◌≡◌, filter, take}
use Rattle.query_merge.proofs.GroupLemmas.{stays_after}
use Rattle.query_merge.proofs.points.group_of.Given as goal

-- a label stays where its name is one of the names, or wasn't looked at yet
abbrev pub invariant-loop-name : goal.invariant-loop-name
invariant-loop-name l = l.group ≡ filter (stays_after l.names (take l.name-index l.labels)) l.labels
