use Rattle.std.proofs.Common.{◌≡◌, map, drop}
use Rattle.httparse.specs.Spans.{header_bytes}
use Rattle.http_session.specs.Heads.{all_named}
use Rattle.http_session.proofs.head.first_header.Given as goal

abbrev pub invariant-loop-i : goal.invariant-loop-i
invariant-loop-i l =
    all_named l.name (map (header_bytes l.text) (drop l.i l.headers)) ≡ all_named l.name (map (header_bytes l.text) l.headers)
