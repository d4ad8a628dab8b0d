use Rattle.std.proofs.Common.{rules, w64}
use Rattle.std.proofs.lemmas.Int.{to_z-of_z}
use mir.Val.{SFits}
use Rattle.pprof_codec.proofs.BuildLemmas.{cleaned-same, parts-built}
use Rattle.pprof_codec.proofs.build.kind_of.Goals as goal

pub returns : goal.returns
returns c =
    let names = c.args.judged.now.names.items in
    let fits1 : SFits w64 c.args.kind.now.kind = search rules in
    let fits2 : SFits w64 c.args.kind.now.unit = search rules in
    let fits3 : SFits w64 c.period_type-period.result.kind = search rules in
    let fits4 : SFits w64 c.period_type-period.result.unit = search rules in
    let type = simp to_z-of_z at c.in_ok-cleaned_text.ensures.value in
    let unit = simp to_z-of_z at c.in_ok-cleaned_text-2.ensures.value in
    let period_type = simp to_z-of_z at c.in_ok-cleaned_text-3.ensures.value in
    let period_unit = simp to_z-of_z at c.in_ok-cleaned_text-4.ensures.value in
    parts-built c.args.base.now c.args.judged.now.message c.args.kind.now c.period_type-period.result names _ _ _ _ _
    c.args.judged.now.texts c.period_type-period.ensures c.in_ok-clone.ensures.cases
    (cleaned-same c.deref.result.now names _ _ c.deref.ensures.value type)
    (cleaned-same c.deref-2.result.now names _ _ c.deref-2.ensures.value unit)
    (cleaned-same c.deref-3.result.now names _ _ c.deref-3.ensures.value period_type)
    (cleaned-same c.deref-4.result.now names _ _ c.deref-4.ensures.value period_unit)
