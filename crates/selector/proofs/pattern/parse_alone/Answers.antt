use Rattle.selector.proofs.PatternLemmas.{unreadable_alone}
use Rattle.selector.proofs.pattern.parse_alone.Goals.{in-Ok, in-Err}
use Rattle.selector.proofs.pattern.parse_alone.Goals as goal

pub returns-clause-err : goal.returns-clause-err
returns-clause-err c = elim c.match-parse.branch [
  | in-Ok w ↦ rw w.result-is tt
  | in-Err w ↦ rw w.result-is
      (unreadable_alone c.default.result c.args.text.now w.in-Err.error.kind w.of_parser.result c.default.ensures w.in-Err.ensures.err w.of_parser.ensures)
]
