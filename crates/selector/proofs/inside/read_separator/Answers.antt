use Rattle.selector.proofs.InsideLemmas.{no_separator}
use Rattle.selector.proofs.inside.read_separator.Goals as goal

pub returns-in-None : goal.returns-in-None
returns-in-None c =
    let space = c.skip_space-next.ensures in
    no_separator c.args.text.now space.0 c.skip_space-next.result.now space.1 c.in_default.ensures c.in-None.ensures
