use Rattle.std.proofs.Common.{◌∙◌, ap, Err}
use Rattle.std.specs.Prelude.{Contains}
use Rattle.disk_trait.specs.Disk.{Tells}
use Rattle.history_files.proofs.KeepLemmas.{keeps_opened, opened_keeps}
use Rattle.store_core.proofs.OpenLemmas.{keeps_since, other_has, read_images, read_keeps, read_reads}
use Rattle.store_core.proofs.store.Store.open.Goals as goal

pub returns-in-Ok-clause-images : goal.returns-in-Ok-clause-images
returns-in-Ok-clause-images g c history t stands image left =
    let old = g.D.Disk.view c.args.disk in
    let new = g.D.Disk.view c.read_all.new.disk in
    let read = c.in-Ok.ensures.told t in
    read_images c.args.records old new c.in-Ok.journal c.in-Ok.index c.in-Ok.books read.0 read.1 c.in-Ok.ensures.journal.1 history stands image left

pub returns-in-Ok-clause-since : goal.returns-in-Ok-clause-since
returns-in-Ok-clause-since g c history flights t quiet stands =
    let old = g.D.Disk.view c.args.disk in
    let new = g.D.Disk.view c.read_all.new.disk in
    let t-new : Tells new = c.read_all.ensures.goes_on.honest ∙ t in
    let read = c.in-Ok.ensures.told t in
    record {
      has = other_has c.args.records old new c.in-Ok.journal c.in-Ok.index c.in-Ok.books read.0 read.1 c.in-Ok.ensures.journal.1 history stands t-new;
      keeping = opened_keeps c.args.records (λ past flight. Contains flights (past, flight)) old new history quiet stands c.read_all.ensures.goes_on (c.read_all.ensures.any_moment t quiet);
    }

pub returns-in-Ok-clause-since_opened : goal.returns-in-Ok-clause-since_opened
returns-in-Ok-clause-since_opened g c history flights t stands =
    let old = g.D.Disk.view c.args.disk in
    let new = g.D.Disk.view c.read_all.new.disk in
    let t-new : Tells new = c.read_all.ensures.goes_on.honest ∙ t in
    let read = c.in-Ok.ensures.told t in
    record {
      has = other_has c.args.records old new c.in-Ok.journal c.in-Ok.index c.in-Ok.books read.0 read.1 c.in-Ok.ensures.journal.1 history stands t-new;
      keeping = read_keeps c.args.records old new c.in-Ok.journal c.in-Ok.index c.in-Ok.books read.0 read.1 c.in-Ok.ensures.journal.1 history stands (λ past flight. Contains flights (past, flight));
    }

pub returns-in-Ok-clause-index_durable : goal.returns-in-Ok-clause-index_durable
returns-in-Ok-clause-index_durable g c history t stands =
    let it = c.in-Ok.ensures.index_durable history t stands in
    (it.0, it.1, it.3)

pub returns-in-Ok-clause-since_index_durable : goal.returns-in-Ok-clause-since_index_durable
returns-in-Ok-clause-since_index_durable g c history flights t stands =
    let old = g.D.Disk.view c.args.disk in
    let new = g.D.Disk.view c.read_all.new.disk in
    let t-new : Tells new = c.read_all.ensures.goes_on.honest ∙ t in
    let read = c.in-Ok.ensures.told t in
    let it = c.in-Ok.ensures.index_durable history t stands in (
      it.0,
      it.1,
      record {
        has = other_has c.args.records old new c.in-Ok.journal c.in-Ok.index c.in-Ok.books read.0 read.1 c.in-Ok.ensures.journal.1 history stands t-new;
        keeping = keeps_since c.args.records (λ past flight. Contains flights (past, flight)) old (g.D.Disk.view it.0) new history it.1 it.2 it.3;
      },
    )

pub returns-in-Ok-clause-index_read : goal.returns-in-Ok-clause-index_read
returns-in-Ok-clause-index_read g c t =
    let old = g.D.Disk.view c.args.disk in
    let new = g.D.Disk.view c.read_all.new.disk in
    let read = c.in-Ok.ensures.told t in
    read_reads c.args.records old new c.in-Ok.journal c.in-Ok.index c.in-Ok.books read.0 read.1 c.in-Ok.ensures.journal.1

pub returns-in-Ok-clause-keeps : goal.returns-in-Ok-clause-keeps
returns-in-Ok-clause-keeps g c start flights history t listed stands kept =
    let old = g.D.Disk.view c.args.disk in
    let new = g.D.Disk.view c.read_all.new.disk in
    keeps_opened c.args.records start (λ past flight. Contains flights (past, flight)) old new history kept c.read_all.ensures.goes_on (c.read_all.ensures.stands_on history t stands listed)

pub returns-in-Err-clause-keeps_refused : goal.returns-in-Err-clause-keeps_refused
returns-in-Err-clause-keeps_refused g c start flights history t listed stands kept =
    let old = g.D.Disk.view c.args.disk in
    let new = g.D.Disk.view c.read_all.new.disk in
    keeps_opened c.args.records start (λ past flight. Contains flights (past, flight)) old new history kept c.read_all.ensures.goes_on (c.read_all.ensures.stands_on history t stands listed)

pub returns-in-Err-clause-disk_leaves : goal.returns-in-Err-clause-disk_leaves
returns-in-Err-clause-disk_leaves g c index count t has is = c.in-Err.ensures.disk_leaves index count t has (ap Err is)

pub returns-in-Err-clause-same_bodies_damaged : goal.returns-in-Err-clause-same_bodies_damaged
returns-in-Err-clause-same_bodies_damaged g c file t listed is = c.in-Err.ensures.same_bodies_damaged file t listed (ap Err is)
