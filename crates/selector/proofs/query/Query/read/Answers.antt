use Rattle.std.proofs.Common.{◌≡◌, ◌∙◌, true, sym, ap, subst, length, rules}
use Rattle.profile_model.specs.Kinds.{parts_of}
use Rattle.profile_model.specs.ReadKinds.{parts_in}
use Rattle.selector.specs.Grammar.{IsQueryOf, kind_of}
use Rattle.selector.proofs.SelectorLemmas.{placed_query}
use Rattle.selector.proofs.query.Query.read.Goals as goal

pub returns-in-Err-Fault-NotFiveParts : goal.returns-in-Err-Fault-NotFiveParts
returns-in-Err-Fault-NotFiveParts c = record { read = (λ _. true, search rules) }

pub returns-in-Err : goal.returns-in-Err
returns-in-Err c =
    let five = ap (λ text. length (parts_of text)) (sym c.kind_text.ensures) ∙ ap length c.in-Ok.ensures.read in
    record { read = placed_query c.args.text.now five c.in-Err.refused c.placed.result c.placed.ensures c.in-Err.ensures }

pub returns : goal.returns
returns c =
    let parts : parts_of (kind_of c.args.text.now) ≡ parts_in c.in-Ok.kind = ap parts_of (sym c.kind_text.ensures) ∙ c.in-Ok.ensures.read in
    let selector = c.in_ok-selector.ensures in
    let form = subst (IsQueryOf c.args.text.now) (sym selector.0) c.in-Ok-read_selected.ensures in
    record { read = (λ _. true, (parts, record { form = form; few = selector.1; short = selector.2; each = selector.3 })) }
