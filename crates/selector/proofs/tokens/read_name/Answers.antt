use Rattle.std.proofs.Common.{◌∙◌, ap, sym}
use Rattle.selector.specs.Grammar.{is_name_start}
use Rattle.selector.specs.Runs.{begins_with}
use Rattle.selector.proofs.TokenLemmas.{no_name, no_start}
use Rattle.selector.proofs.tokens.read_name.Goals as goal

pub returns-else-begins_name : goal.returns-else-begins_name
returns-else-begins_name c =
    no_name c.args.text.now
    (no_start c.args.text.now c.run.result.0.now c.run.result.1.now c.run.ensures
    (ap (begins_with is_name_start) (sym c.as_bytes.ensures.value) ∙ sym c.begins_name.ensures ∙ c.if-begins_name.false))
