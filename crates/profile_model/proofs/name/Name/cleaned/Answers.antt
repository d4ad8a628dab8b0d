use Rattle.std.proofs.Common.{◌≡◌, IfOk, rules}
use Rattle.profile_model.specs.CleanedTexts.{cleaned}
use Rattle.profile_model.proofs.KindLemmas.{cleaned_name}
use Rattle.profile_model.proofs.name.Name.cleaned.Goals as goal

pub returns-in-Ok-clause-part : goal.returns-in-Ok-clause-part
returns-in-Ok-clause-part c =
    let value : IfOk c.from_text.result (λ name. name ≡ cleaned c.args.text.now) = search rules in cleaned_name c.args.text.now c.from_text.result value
