use Rattle.std.proofs.Common.{◌∙◌, None, arith, sym}
use Rattle.query_parameters.proofs.ScanLemmas.{broken_end, broken_within, scan_more, whole_name}
use Rattle.query_parameters.proofs.scan.broken_place.Goals as goal

pub returns-in-None : goal.returns-in-None
returns-in-None c =
    broken_within c.args.text.now c.loop-at.at c.loop-at.part (omega arith) c.loop-at.invariant
    (scan_more c.args.text.now c.loop-at.at c.loop-at.part None (omega arith) c.loop-at.invariant c.in-None.ensures)

pub returns-then-is_whole : goal.returns-then-is_whole
returns-then-is_whole c =
    whole_name c.args.text.now c.loop-at.at c.loop-at.part (omega arith) c.loop-at.invariant (sym c.is_whole.ensures ∙ c.if-is_whole.true)

pub returns-else-is_whole : goal.returns-else-is_whole
returns-else-is_whole c =
    broken_end c.args.text.now c.loop-at.at c.loop-at.part (omega arith) c.loop-at.invariant (sym c.is_whole.ensures ∙ c.if-is_whole.false)
