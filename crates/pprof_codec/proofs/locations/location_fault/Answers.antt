use Rattle.std.proofs.Common.{◌≡◌, true, false, refl, sym, ap, ◌∙◌}
use Rattle.std.specs.Prelude.{◌==◌, is_some}
use Rattle.std.specs.List.{list_all}
use Rattle.std.proofs.lemmas.Bool.{eq-eqb, ne_eqb}
use Rattle.pprof_codec.specs.Checks.{faults_of_location, has_function, has_id}
use Rattle.pprof_codec.proofs.IdLemmas.{position-is_some}
use Rattle.pprof_codec.proofs.TableLemmas.{lines-known}
use Rattle.pprof_codec.proofs.locations.location_fault.Goals as goal

pub returns-then-location-eq0 : goal.returns-then-location-eq0
unfolding faults_of_location
returns-then-location-eq0 c = λ pprof are.
    let zero_id : (c.args.location.now.id == 0) ≡ true = eq-eqb _ _ c.if-location-eq0.true in rw zero_id refl

pub returns-then-is_some : goal.returns-then-is_some
unfolding faults_of_location
returns-then-is_some c = λ pprof are.
    let zero_id : (c.args.location.now.id == 0) ≡ false = ne_eqb _ _ c.if-location-eq0.false in
    let known : has_id c.args.ids.now c.args.location.now.id ≡ true =
    sym (position-is_some (λ id. id == c.args.location.now.id) c.args.ids.now) ∙ ap is_some (sym c.number.ensures) ∙ sym c.is_some.ensures ∙ c.if-is_some.true in
    rw (zero_id, known) refl

pub returns-then-not-has_functions : goal.returns-then-not-has_functions
unfolding faults_of_location
returns-then-not-has_functions c = λ pprof are.
    let zero_id : (c.args.location.now.id == 0) ≡ false = ne_eqb _ _ c.if-location-eq0.false in
    let known : has_id c.args.ids.now c.args.location.now.id ≡ false =
    sym (position-is_some (λ id. id == c.args.location.now.id) c.args.ids.now) ∙ ap is_some (sym c.number.ensures) ∙ sym c.is_some.ensures ∙ c.if-is_some.false in
    let named : list_all (has_function pprof) c.args.location.now.lines.now ≡ false =
    sym (lines-known pprof c.args.functions.now.ids c.args.functions.now.frames.items c.args.location.now.lines.now are) ∙ sym c.has_functions.ensures ∙ c.if-not-has_functions.true in
    rw (zero_id, known, named) refl

pub returns : goal.returns
unfolding faults_of_location
returns c = λ pprof are.
    let zero_id : (c.args.location.now.id == 0) ≡ false = ne_eqb _ _ c.if-location-eq0.false in
    let known : has_id c.args.ids.now c.args.location.now.id ≡ false =
    sym (position-is_some (λ id. id == c.args.location.now.id) c.args.ids.now) ∙ ap is_some (sym c.number.ensures) ∙ sym c.is_some.ensures ∙ c.if-is_some.false in
    let named : list_all (has_function pprof) c.args.location.now.lines.now ≡ true =
    sym (lines-known pprof c.args.functions.now.ids c.args.functions.now.frames.items c.args.location.now.lines.now are) ∙ sym c.has_functions.ensures ∙ c.if-not-has_functions.false in
    rw (zero_id, known, named) refl
