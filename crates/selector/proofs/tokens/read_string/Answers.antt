use Rattle.std.proofs.lemmas.Result.{MatchResult-weaker}
use Rattle.std.proofs.Common.{string_bytes}
use Rattle.selector.specs.Rests.{AtWritten, AtString}
use Rattle.selector.proofs.WrittenLemmas.{no_string, string_of, read_refused, broken_after_quote}
use Rattle.selector.proofs.tokens.read_string.Goals as goal

pub returns-in-None : goal.returns-in-None
returns-in-None c = no_string c.args.text.now c.in-None.ensures

pub returns-in-Some : goal.returns-in-Some
returns-in-Some c =
    let inside = c.in-Some.inside.now in
    MatchResult-weaker c.read_written.result c.read_written.ensures
    (λ said h. string_of c.args.text.now h.0 inside said.1.now (string_bytes said.0) c.in-Some.ensures h.1 h.2)
    (read_refused AtString AtWritten c.args.text.now inside (λ left broken. broken_after_quote c.args.text.now inside left c.in-Some.ensures broken))
