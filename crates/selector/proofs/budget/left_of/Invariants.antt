use Rattle.std.proofs.Common.{◌≡◌, ◌+◌, take, map}
use Rattle.selector.specs.Read.{pattern_bytes}
use Rattle.selector.specs.Rests.{matching_of}
use Rattle.selector.proofs.budget.left_of.Given as goal

abbrev pub invariant-loop-matcher : goal.invariant-loop-matcher
invariant-loop-matcher l = l.left + pattern_bytes (map matching_of (take l.matcher-index l.written)) ≡ l.fn.bytes
