use Rattle.std.proofs.Common.{◌≡◌, length, map, codes}
use Rattle.std.specs.List.{list_any, All}
use Rattle.httparse.specs.Spans.{IsHeaderWithin, header_bytes}
use Rattle.http_session.specs.Heads.{all_named}
use Rattle.http_session.specs.Framing.{has_close}
use Rattle.http_session.proofs.framing.asks_to_close.Given as goal

abbrev pub invariant-loop-value : goal.invariant-loop-value
invariant-loop-value l = record {
  within : All (IsHeaderWithin (length l.text)) l.rest;
  same : list_any has_close (all_named (codes "connection") (map (header_bytes l.text) l.rest))
      ≡ list_any has_close (all_named (codes "connection") (map (header_bytes l.text) l.headers));
}

abbrev pub decreases-loop-value : goal.decreases-loop-value
decreases-loop-value l = length l.rest
