use Rattle.std.proofs.Common.{rules, ◌∙◌, w64}
use Rattle.std.proofs.lemmas.Int.{to_z-of_z}
use mir.Val.{SFits}
use Rattle.pprof_codec.proofs.MemberLemmas.{function-named, function-system_named, function-unnamed}
use Rattle.pprof_codec.proofs.functions.frame_of.Goals as goal

pub returns-in-Some : goal.returns-in-Some
returns-in-Some c =
    let fits : SFits w64 c.args.function.now.name = search rules in
    let is = simp to_z-of_z at c.in-Some.ensures in
    function-named c.args.names.now c.args.function.now c.in-Some.name.now is.0 is.1

pub returns-in-Some-filled : goal.returns-in-Some-filled
returns-in-Some-filled c =
    let fits : SFits w64 c.args.function.now.name = search rules in
    let also : SFits w64 c.args.function.now.system_name = search rules in
    let none = simp to_z-of_z at c.in_default.ensures in
    let is = simp to_z-of_z at c.in-Some-filled.ensures in
    function-system_named c.args.names.now c.args.function.now c.in-Some-filled.name.now none is.0 is.1

pub returns-in-None : goal.returns-in-None
returns-in-None c =
    let fits : SFits w64 c.args.function.now.name = search rules in
    let also : SFits w64 c.args.function.now.system_name = search rules in
    let none = simp to_z-of_z at c.in_default.ensures in
    let no_system = simp to_z-of_z at c.in-None.ensures in
    c.requires ∙ function-unnamed c.args.names.now c.args.function.now none no_system
