use Rattle.selector.proofs.InsideLemmas.{broken_end, filled}
use Rattle.selector.proofs.inside.read_end.Goals as goal

pub returns-else-is_empty : goal.returns-else-is_empty
returns-else-is_empty c =
    let space = c.skip_space-rest.ensures in
    broken_end c.args.text.now space.0 c.skip_space-rest.result.now space.1
    (filled c.skip_space-rest.result.now c.is_empty.result c.is_empty.ensures c.if-is_empty.false)
