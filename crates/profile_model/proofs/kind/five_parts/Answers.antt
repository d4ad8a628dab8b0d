use Rattle.profile_model.proofs.KindLemmas.{more_than_five}
use Rattle.profile_model.proofs.kind.five_parts.Goals as goal

pub returns-in-Some : goal.returns-in-Some
returns-in-Some c =
    more_than_five c.args.text.now c.in_ok-name.rest.now c.in_ok-sample_type.rest.now c.in_ok-sample_unit.rest.now c.in_ok-period_type.period_unit.now c.in-Some.field-0.1.now
    c.in_ok-name.name.now c.in_ok-sample_type.sample_type.now c.in_ok-sample_unit.sample_unit.now c.in_ok-period_type.period_type.now c.in-Some.field-0.0.now
    c.in_ok-name.ensures.parts c.in_ok-sample_type.ensures.parts c.in_ok-sample_unit.ensures.parts c.in_ok-period_type.ensures.parts c.in-Some.ensures.parts
