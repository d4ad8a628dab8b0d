use Rattle.selector.proofs.WrittenLemmas.{no_written, no_letter}
use Rattle.selector.proofs.tokens.read_escape.Goals as goal

pub returns-in_default : goal.returns-in_default
returns-in_default c = no_written c.args.text.now c.requires.plain c.requires.quote c.in_default.ensures

pub returns-in-None : goal.returns-in-None
returns-in-None c = no_letter c.args.text.now c.in-Some.rest.now c.in-Some.ensures c.in-None.ensures
