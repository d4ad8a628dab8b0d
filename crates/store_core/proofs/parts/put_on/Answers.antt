use Rattle.std.proofs.Common.{refl, arith}
use Rattle.metastore_index.specs.Entries.{IndexView}
use Rattle.metastore_index.specs.Taken.{Takes}
use Rattle.store_core.proofs.RoomLemmas.{applied, takes_some}
use Rattle.store_core.proofs.PartLemmas.{commits_it, may_be_put, was_not_put, was_put}
use Rattle.store_core.proofs.OtherLemmas.{leaves_put, others_put, reads_put}
use Rattle.store_core.proofs.parts.put_on.Goals as goal

pub commit-requires-clause-fresh : goal.commit-requires-clause-fresh
commit-requires-clause-fresh g c t = (c.requires.kept t).1.none refl c.args.entry.now.id (omega (arith, c.requires.taken.later))

pub returns-clause-ok : goal.returns-clause-ok
returns-clause-ok g c history t kept can =
    let old = g.D.Disk.view c.args.disk.now in
    let new = g.D.Disk.view c.commit.new.disk in
    let taken = applied c.apply.result c.apply.ensures.ok (λ is. c.apply.ensures.refused is c.requires.taken) (λ is. absurd (omega (arith, (c.apply.ensures.memory is).0, c.requires.spare))) in
    let later : IndexView = c.apply.new.self in
    let takes : Takes c.args.index.now c.args.entry.now later = record { taken = taken.0; becomes = taken.1; greatest = taken.2 } in
    let all = commits_it old c.args.journal.now c.args.index.now c.args.books.now c.args.entry.now c.args.bytes.now history c.args.pushes.now kept can later takes in
    was_put old c.args.journal.now c.args.index.now c.args.books.now c.args.entry.now c.args.bytes.now history c.args.pushes.now kept can new c.commit.new.journal later takes
    kept.state.holds.file
    (c.in-Ok.ensures.ok c.args.index.now later history c.args.pushes.now t all)
    (c.in-Ok.ensures.others t)
    c.take.new.self (c.take.ensures.books history kept.booked can.totals can.short)

pub returns-in-Err-clause-object : goal.returns-in-Err-clause-object
returns-in-Err-clause-object g c history t kept can is =
    let old = g.D.Disk.view c.args.disk.now in
    let new = g.D.Disk.view c.commit.new.disk in
    let some = takes_some c.args.index.now c.args.entry.now c.requires.taken in
    was_not_put old c.args.journal.now c.args.index.now c.args.books.now c.args.entry.now c.args.bytes.now history c.args.pushes.now kept can new c.commit.new.journal
    (c.in-Err.ensures.object c.args.index.now some.0 history c.args.pushes.now t (commits_it old c.args.journal.now c.args.index.now c.args.books.now c.args.entry.now c.args.bytes.now history c.args.pushes.now kept can some.0 some.1) is)

pub returns-in-Err-clause-append : goal.returns-in-Err-clause-append
returns-in-Err-clause-append g c history t kept can is =
    let old = g.D.Disk.view c.args.disk.now in
    let new = g.D.Disk.view c.commit.new.disk in
    let some = takes_some c.args.index.now c.args.entry.now c.requires.taken in
    may_be_put old c.args.journal.now c.args.index.now c.args.books.now c.args.entry.now c.args.bytes.now history c.args.pushes.now kept can new c.commit.new.journal
    (c.in-Err.ensures.append c.args.index.now some.0 history c.args.pushes.now t (commits_it old c.args.journal.now c.args.index.now c.args.books.now c.args.entry.now c.args.bytes.now history c.args.pushes.now kept can some.0 some.1) is)

pub returns-in-Err-clause-any_moment : goal.returns-in-Err-clause-any_moment
returns-in-Err-clause-any_moment g c history t kept can =
    let old = g.D.Disk.view c.args.disk.now in
    let some = takes_some c.args.index.now c.args.entry.now c.requires.taken in
    c.commit.ensures.any_moment c.args.index.now some.0 history c.args.pushes.now t (commits_it old c.args.journal.now c.args.index.now c.args.books.now c.args.entry.now c.args.bytes.now history c.args.pushes.now kept can some.0 some.1)

pub returns-clause-any_moment : goal.returns-clause-any_moment
returns-clause-any_moment g c history t kept can =
    let old = g.D.Disk.view c.args.disk.now in
    let some = takes_some c.args.index.now c.args.entry.now c.requires.taken in
    c.commit.ensures.any_moment c.args.index.now some.0 history c.args.pushes.now t (commits_it old c.args.journal.now c.args.index.now c.args.books.now c.args.entry.now c.args.bytes.now history c.args.pushes.now kept can some.0 some.1)

pub returns-clause-others : goal.returns-clause-others
returns-clause-others g c index =
    others_put c.args.entry.now.id c.args.journal.now.file (g.D.Disk.view c.args.disk.now) (g.D.Disk.view c.commit.new.disk) index c.commit.ensures.others_at_each_moment

pub returns-in-Err-clause-others_at_each_moment : goal.returns-in-Err-clause-others_at_each_moment
returns-in-Err-clause-others_at_each_moment g c index =
    leaves_put c.args.entry.now.id c.args.journal.now.file (g.D.Disk.view c.args.disk.now) (g.D.Disk.view c.commit.new.disk) index c.commit.ensures.others_at_each_moment

pub returns-clause-others_at_each_moment : goal.returns-clause-others_at_each_moment
returns-clause-others_at_each_moment g c index =
    leaves_put c.args.entry.now.id c.args.journal.now.file (g.D.Disk.view c.args.disk.now) (g.D.Disk.view c.commit.new.disk) index c.commit.ensures.others_at_each_moment

pub returns-clause-others_read : goal.returns-clause-others_read
returns-clause-others_read g c t index =
    reads_put c.args.entry.now.id c.args.journal.now.file (g.D.Disk.view c.args.disk.now).files (g.D.Disk.view c.commit.new.disk).files index (c.in-Ok.ensures.others t)

pub returns-clause-one_more : goal.returns-clause-one_more
returns-clause-one_more g c =
    let taken = applied c.apply.result c.apply.ensures.ok (λ is. c.apply.ensures.refused is c.requires.taken) (λ is. absurd (omega (arith, (c.apply.ensures.memory is).0, c.requires.spare))) in
    (taken.1, taken.2, c.in-Ok.ensures.count)
