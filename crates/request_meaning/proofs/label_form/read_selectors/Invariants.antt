use Rattle.std.proofs.Common.{map, take}
use Rattle.request_meaning.specs.LabelAsks.{AreSelectors}
use Rattle.request_meaning.proofs.label_form.read_selectors.Given as goal

abbrev pub invariant-loop-text : goal.invariant-loop-text
invariant-loop-text l = AreSelectors (map (λ text. text.now) (take l.text-index l.texts)) l.selectors.items
