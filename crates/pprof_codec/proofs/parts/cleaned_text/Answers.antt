use Rattle.std.proofs.Common.{rules, sym, w64}
use Rattle.std.proofs.lemmas.Int.{to_z-of_z}
use mir.Val.{SFits}
use Rattle.pprof_codec.proofs.PlaceLemmas.{part-copied, part-kept}
use Rattle.pprof_codec.proofs.parts.cleaned_text.Goals as goal

pub returns-in-Some-get-clause-value : goal.returns-in-Some-get-clause-value
returns-in-Some-get-clause-value c =
    let fits : SFits w64 c.args.place = search rules in
    let is = simp to_z-of_z at c.in-Some.ensures in
    let known = c.requires c.in-Some.text.now c.in-Some-get.part.now (sym c.in-Some-get.ensures.value) in
    part-copied _ c.clone.result c.in-Some-get.part.now c.in-Some.text.now _ c.clone.ensures.cases known.0 is

pub returns-in-Some-get-clause-part : goal.returns-in-Some-get-clause-part
returns-in-Some-get-clause-part c =
    let known = c.requires c.in-Some.text.now c.in-Some-get.part.now (sym c.in-Some-get.ensures.value) in
    part-kept _ c.clone.result c.in-Some-get.part.now c.clone.ensures.cases known.1
