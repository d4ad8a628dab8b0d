use Rattle.std.proofs.Common.{arith, map, subst, sym}
use Rattle.request_meaning.proofs.MeaningLemmas.{told_so}
use Rattle.request_meaning.proofs.LabelLemmas.{selector_read, selector_refused}
use Rattle.request_meaning.proofs.label_form.read_selectors.Goals as goal
use Rattle.request_meaning.specs.ReadParts.{IsSelectorsRefused}

pub returns-in-Err : goal.returns-in-Err
returns-in-Err c =
    told_so c.in-Err.refused c.map.result c.map.ensures
    (λ fault refusal is wrong. subst (IsSelectorsRefused (map (λ text. text.now) c.args.texts.now)) (sym is)
    (selector_refused (λ text. text.now) c.args.texts.now c.loop-text.text-index _ c.loop-text.selectors.items fault
    (omega arith) (omega (arith, c.if-texts-gt-MAX_SELECTORS.false)) c.loop-text.invariant wrong))
    c.in-Err.ensures.read

pub loop-text-preserved : goal.loop-text-preserved
loop-text-preserved c =
    rw c.in_ok-push-in-Ok.ensures.items
    (selector_read (λ text. text.now) c.args.texts.now c.loop-text.text-index _ c.loop-text.selectors.items c.in-Ok.selector
    (omega arith) c.loop-text.invariant c.in-Ok.ensures.read)
