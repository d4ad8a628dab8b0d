use Rattle.std.proofs.Common.{arith}
use Rattle.metastore_index.proofs.BodyLemmas.{body_is, record_of}
use Rattle.metastore_index.proofs.entry.Entry.read.Goals as goal
use Rattle.metastore_index.proofs.entry.Entry.read.Goals.{then-lo-hi-via-then-lo-hi, then-lo-hi-via-else-lo-hi+then-level-gt-MAX_LEVEL, then-lo-hi-via-else-lo-hi+else-level-gt-MAX_LEVEL+then-not-ends_in_zeros}

pub returns-then-lo-hi-clause-none : goal.returns-then-lo-hi-clause-none
returns-then-lo-hi-clause-none c _ entry some within known is =
    let lo = c.number_at-lo.result in
    let hi = c.number_at-hi.result in
    let stands = record_of c.args.body.now entry lo hi (omega arith) (omega arith) within c.number_at-lo.ensures c.number_at-hi.ensures is in
    elim c.then-lo-hi.branch [
      | then-lo-hi-via-then-lo-hi w ↦ omega (arith, stands.from, stands.until, w.if-lo-hi.true, some)
      | then-lo-hi-via-else-lo-hi+then-level-gt-MAX_LEVEL w ↦ omega (arith, stands.level, w.if-level-gt-MAX_LEVEL.true, known)
      | then-lo-hi-via-else-lo-hi+else-level-gt-MAX_LEVEL+then-not-ends_in_zeros w ↦ w.ends_in_zeros.ensures.others w.if-not-ends_in_zeros.true stands.zeros
    ]

pub returns-clause-entry : goal.returns-clause-entry
returns-clause-entry c =
    body_is c.args.body.now _ _ _ _ _ _ (omega arith) c.number_at-lo.ensures c.number_at-hi.ensures c.number_at.ensures c.number_at-2.ensures c.number_at-3.ensures c.number_at-4.ensures
    (c.ends_in_zeros.ensures.zeros c.if-not-ends_in_zeros.false)
