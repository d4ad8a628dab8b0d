use Rattle.std.proofs.Common.{◌∷◌, ◌++◌, [], List, ℕ, Bor, sym, ap, subst, ◌∙◌}
use Rattle.std.specs.Prelude.{⊤}
use Rattle.std.specs.Option.{option_map}
use Rattle.json_bodies.specs.KeptTexts.{AreTexts, IsCutAt}
use Rattle.json_bodies.proofs.ListLemmas.{cut_here, texts_pushed}
use Rattle.json_bodies.proofs.SaidLemmas.{each_said_length}
use Rattle.json_bodies.proofs.lists.with_text.Goals as goal

abbrev now_of : Bor (List ℕ) → List ℕ
now_of t = t.now

pub returns-in_ok-push-in-Some : goal.returns-in_ok-push-in-Some
returns-in_ok-push-in-Some c = λ says ds d are here.
    texts_pushed says ds d c.in-Ok.texts c.push.new.self c.in-Some.text.now (subst (AreTexts says ds) c.in-Ok.is are)
    (here ∙ ap (option_map now_of) c.in-Some.is) c.in_ok-push-in-Some.ensures

pub returns-in-None : goal.returns-in-None
returns-in-None c = λ says ds d are here.
    let said = subst (AreTexts says ds) c.in-Ok.is are in
    subst (λ at. IsCutAt says (λ _. ⊤) (ds ++ d ∷ []) at) (sym (each_said_length says ds c.in-Ok.texts said) ∙ sym c.len.ensures)
    (cut_here says (λ _. ⊤) ds d c.in-Ok.texts said (here ∙ ap (option_map now_of) c.in-None.is) tt)
