use Rattle.std.proofs.Common.{[], sym, ◌∙◌, arith}
use Rattle.std.specs.Cmp.Lexicographic.{bytes_decides}
use Rattle.std.proofs.lemmas.List.{get_or_default, take_more_same}
use Rattle.flamebearer.proofs.tree.shared_frames.Goals as goal

pub loop-shared-preserved : goal.loop-shared-preserved
loop-shared-preserved c =
    let alike = (bytes_decides c.index-first-shared.result c.index-second-shared.result).0 (sym c.eq.ensures ∙ c.if-eq.true) in
    record {
      in_first = omega arith;
      in_second = omega arith;
      same = take_more_same c.args.first.now c.args.second.now c.loop-shared.shared [] (omega arith) (omega arith) c.loop-shared.invariant.same
          (get_or_default c.args.first.now c.loop-shared.shared [] c.index-first-shared.result (omega arith) ∙ sym c.index-first-shared.is ∙ alike
          ∙ c.index-second-shared.is ∙ get_or_default c.args.second.now c.loop-shared.shared c.index-second-shared.result [] (omega arith));
    }
