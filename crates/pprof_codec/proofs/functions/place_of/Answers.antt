use Rattle.std.proofs.Common.{rules, refl, w64}
use Rattle.std.proofs.lemmas.Int.{to_z-of_z}
use mir.Val.{SFits}
use Rattle.pprof_codec.proofs.PlaceLemmas.{placed-named, placed-system_named, placed-unnamed}
use Rattle.pprof_codec.proofs.functions.place_of.Goals as goal

pub returns-in-Some : goal.returns-in-Some
returns-in-Some c = λ rest.
    let fits : SFits w64 c.args.function.now.name = search rules in
    let is = simp to_z-of_z at c.in-Some.ensures in
    placed-named c.args.names.now c.args.function.now rest c.in-Some.place is.0 is.1 is.2

pub returns-in-Some-filled_place : goal.returns-in-Some-filled_place
returns-in-Some-filled_place c = λ rest.
    let fits : SFits w64 c.args.function.now.name = search rules in
    let also : SFits w64 c.args.function.now.system_name = search rules in
    let none = simp to_z-of_z at c.in_default.ensures in
    let is = simp to_z-of_z at c.in-Some-filled_place.ensures in
    placed-system_named c.args.names.now c.args.function.now rest c.in-Some-filled_place.place none is.0 is.1 is.2

pub returns-in-None : goal.returns-in-None
returns-in-None c = λ rest.
    let fits : SFits w64 c.args.function.now.name = search rules in
    let also : SFits w64 c.args.function.now.system_name = search rules in
    let none = simp to_z-of_z at c.in_default.ensures in
    let no_system = simp to_z-of_z at c.in-None.ensures in
    placed-unnamed c.args.names.now c.args.function.now rest _ refl none no_system
