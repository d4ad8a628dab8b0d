use Rattle.std.proofs.Common.{◌≡◌, ◌+◌, ◌≤◌, drop}
use Rattle.http_session.specs.Heads.{newlines}
use Rattle.http_session.proofs.head.newline_count.Given as goal

abbrev pub invariant-loop-byte : goal.invariant-loop-byte
invariant-loop-byte l = record { all : l.count + newlines (drop l.byte-index l.bytes) ≡ newlines l.bytes; few : l.count ≤ l.byte-index }
