use Rattle.std.proofs.Common.{◌≡◌, length, rules, arith}
use Rattle.metastore_index.proofs.BodyLemmas.{ends_zero, ends_otherwise}
use Rattle.metastore_index.proofs.entry.ends_in_zeros.Goals as goal

pub returns-clause-zeros : goal.returns-clause-zeros
returns-clause-zeros c =
    let long : length c.args.body.now ≡ 63 = omega arith in
    let means = ends_zero c.args.body.now c.eq.result long in
    search rules

pub returns-clause-others : goal.returns-clause-others
returns-clause-others c =
    let long : length c.args.body.now ≡ 63 = omega arith in
    let means = ends_otherwise c.args.body.now c.eq.result long in
    search rules
