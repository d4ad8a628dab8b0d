use Rattle.std.proofs.Common.{◌≡◌, None, sym, ◌∙◌}
use Rattle.selector.proofs.WrittenLemmas.{no_letter_first}
use Rattle.selector.proofs.tokens.unescape.Goals as goal

pub returns-in_err-meant : goal.returns-in_err-meant
returns-in_err-meant c =
    let none : c.from_residual-in_err-meant.result ≡ None = cc in
    rw none
    (no_letter_first c.args.text.now c.next.new.self.rest.now c.in_ok-letter.letter (sym c.chars-chars.ensures.rest ∙ c.in_ok-letter.ensures.steps.0) (sym c.in_err-meant.ensures))
