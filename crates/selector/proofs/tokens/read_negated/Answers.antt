use Rattle.selector.proofs.TokenLemmas.{no_negated}
use Rattle.selector.proofs.tokens.read_negated.Goals as goal

pub returns-in-None : goal.returns-in-None
returns-in-None c = no_negated c.args.text.now c.in_default.ensures c.in-None.ensures
