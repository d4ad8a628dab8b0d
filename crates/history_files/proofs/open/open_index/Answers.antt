use Rattle.std.proofs.Common.{ap, inr, subst, ◌∙◌, ◌^◌, ◌<◌, Err}
use Rattle.std.specs.Prelude.{IfSome, Option}
use Rattle.metastore_index.specs.Entries.{IndexView, end_of}
use Rattle.disk_trait.specs.Disk.{Tells}
use Rattle.disk_trait.proofs.Steps.{stays_after}
use Rattle.history_files.specs.Standing.{IsSynced}
use Rattle.history_files.proofs.OpenLemmas.{at_none, at_some, bodies_looked, bodies_opened, bodies_still, index_synced, index_waited, looked_alike, looked_beside, looked_on, none_listed, opened_alike, opened_beside, opened_on, opened_stand, prepared_reads, prepares, still_beside, synced_on, too_many}
use Rattle.history_files.proofs.open.open_index.Goals as goal

pub returns-in-Err-Damaged-clause-damaged : goal.returns-in-Err-Damaged-clause-damaged
returns-in-Err-Damaged-clause-damaged g c t asked =
    let old = g.D.Disk.view c.args.disk.now in
    let mid = g.D.Disk.view c.sync_all.new.disk in
    let t-mid : Tells mid = c.sync_all.ensures.goes_on.honest ∙ t in
    too_many c.args.records old.files mid.files (c.in-Ok.ensures.told t) (c.in-Err-Damaged.ensures.damaged t-mid (ap Err c.in-Err-Damaged.field-0-is))

pub returns-in-Err-Disk-open-clause-any_moment : goal.returns-in-Err-Disk-open-clause-any_moment
returns-in-Err-Disk-open-clause-any_moment g c t quiet =
    let old = g.D.Disk.view c.args.disk.now in
    let mid = g.D.Disk.view c.sync_all.new.disk in
    let t-mid : Tells mid = c.sync_all.ensures.goes_on.honest ∙ t in
    opened_alike c.args.records old quiet mid _ c.sync_all.ensures.leads (c.open.ensures.any_moment t-mid (index_synced c.args.records old quiet mid c.sync_all.ensures.leads (c.in-Ok.ensures.told t)))

pub returns-in-Ok-Some-clause-any_moment : goal.returns-in-Ok-Some-clause-any_moment
returns-in-Ok-Some-clause-any_moment g c t quiet =
    let old = g.D.Disk.view c.args.disk.now in
    let mid = g.D.Disk.view c.sync_all.new.disk in
    let t-mid : Tells mid = c.sync_all.ensures.goes_on.honest ∙ t in
    looked_alike c.args.records old quiet (g.D.Disk.view c.open.new.disk) _
    (opened_alike c.args.records old quiet mid _ c.sync_all.ensures.leads (c.open.ensures.any_moment t-mid (index_synced c.args.records old quiet mid c.sync_all.ensures.leads (c.in-Ok.ensures.told t))))
    c.read_index.ensures.looks.stays

pub returns-in-Ok-None-clause-any_moment : goal.returns-in-Ok-None-clause-any_moment
returns-in-Ok-None-clause-any_moment g c t quiet =
    let old = g.D.Disk.view c.args.disk.now in
    let mid = g.D.Disk.view c.sync_all.new.disk in
    let t-mid : Tells mid = c.sync_all.ensures.goes_on.honest ∙ t in
    looked_alike c.args.records old quiet (g.D.Disk.view c.open.new.disk) _
    (opened_alike c.args.records old quiet mid _ c.sync_all.ensures.leads (c.open.ensures.any_moment t-mid (index_synced c.args.records old quiet mid c.sync_all.ensures.leads (c.in-Ok.ensures.told t))))
    c.read_index.ensures.looks.stays

pub returns-in-Err-Memory-read_index-clause-any_moment : goal.returns-in-Err-Memory-read_index-clause-any_moment
returns-in-Err-Memory-read_index-clause-any_moment g c t quiet =
    let old = g.D.Disk.view c.args.disk.now in
    let mid = g.D.Disk.view c.sync_all.new.disk in
    let t-mid : Tells mid = c.sync_all.ensures.goes_on.honest ∙ t in
    looked_alike c.args.records old quiet (g.D.Disk.view c.open.new.disk) _
    (opened_alike c.args.records old quiet mid _ c.sync_all.ensures.leads (c.open.ensures.any_moment t-mid (index_synced c.args.records old quiet mid c.sync_all.ensures.leads (c.in-Ok.ensures.told t))))
    c.read_index.ensures.looks.stays

pub returns-in-Err-Disk-read_index-clause-any_moment : goal.returns-in-Err-Disk-read_index-clause-any_moment
returns-in-Err-Disk-read_index-clause-any_moment g c t quiet =
    let old = g.D.Disk.view c.args.disk.now in
    let mid = g.D.Disk.view c.sync_all.new.disk in
    let t-mid : Tells mid = c.sync_all.ensures.goes_on.honest ∙ t in
    looked_alike c.args.records old quiet (g.D.Disk.view c.open.new.disk) _
    (opened_alike c.args.records old quiet mid _ c.sync_all.ensures.leads (c.open.ensures.any_moment t-mid (index_synced c.args.records old quiet mid c.sync_all.ensures.leads (c.in-Ok.ensures.told t))))
    c.read_index.ensures.looks.stays

pub returns-in-Ok-None-clause-damaged : goal.returns-in-Ok-None-clause-damaged
returns-in-Ok-None-clause-damaged g c t asked =
    let old = g.D.Disk.view c.args.disk.now in
    let mid = g.D.Disk.view c.sync_all.new.disk in
    let new = g.D.Disk.view c.open.new.disk in
    let t-mid : Tells mid = c.sync_all.ensures.goes_on.honest ∙ t in
    let t-new : Tells new = c.open.ensures.goes_on.honest ∙ t-mid in
    let ok = c.in-Ok-open.ensures.ok in
    let settled = c.in-Ok-open.ensures.settled t-mid in
    none_listed c.args.records old mid new c.in-Ok-open.journal (c.in-Ok.ensures.told t) (c.in-Ok.ensures.durable t) ok.0 ok.1 settled.0 settled.1 (c.in-Ok-open.ensures.within t-mid) t-new c.open.ensures.touches (c.in-Ok-open.ensures.others t-mid)
    (at_none c.in-Ok-None.field-0 _ _ c.in-Ok-None.field-0-is (c.in-Ok-None.ensures.told t-new))

pub returns-in-Ok-Some-clause-prepared : goal.returns-in-Ok-Some-clause-prepared
returns-in-Ok-Some-clause-prepared g c t =
    let old = g.D.Disk.view c.args.disk.now in
    let mid = g.D.Disk.view c.sync_all.new.disk in
    let new = g.D.Disk.view c.open.new.disk in
    let t-mid : Tells mid = c.sync_all.ensures.goes_on.honest ∙ t in
    let t-new : Tells new = c.open.ensures.goes_on.honest ∙ t-mid in
    let ok = c.in-Ok-open.ensures.ok in
    let settled = c.in-Ok-open.ensures.settled t-mid in
    prepares c.args.records old mid new c.in-Ok-open.journal (c.in-Ok.ensures.told t) (c.in-Ok.ensures.durable t) ok.0 ok.1 settled.0 settled.1 (c.in-Ok-open.ensures.within t-mid) t-new c.open.ensures.touches (c.in-Ok-open.ensures.others t-mid)
    _ c.in-Ok-Some.index c.read_index.ensures.looks (at_some c.in-Ok-Some.field-0 c.in-Ok-Some.index _ _ c.in-Ok-Some.field-0-is (c.in-Ok-Some.ensures.told t-new))

pub returns-in-Ok-Some-clause-synced : goal.returns-in-Ok-Some-clause-synced
returns-in-Ok-Some-clause-synced g c history t stands listed =
    let old = g.D.Disk.view c.args.disk.now in
    let mid = g.D.Disk.view c.sync_all.new.disk in
    let t-mid : Tells mid = c.sync_all.ensures.goes_on.honest ∙ t in
    let synced : IsSynced old mid = record { stays = c.sync_all.ensures.leads; files = c.in-Ok.ensures.told t; durable = c.in-Ok.ensures.durable t } in (
      c.sync_all.new.disk,
      synced,
      opened_stand old mid synced listed c.args.records history stands (g.D.Disk.view c.open.new.disk) (g.D.Disk.view c.read_index.new.disk)
          (c.open.ensures.any_moment t-mid (index_waited old mid synced listed)) c.read_index.ensures.looks.stays,
    )

pub returns-in-Ok-Some-clause-index_read : goal.returns-in-Ok-Some-clause-index_read
returns-in-Ok-Some-clause-index_read g c t =
    let old = g.D.Disk.view c.args.disk.now in
    let mid = g.D.Disk.view c.sync_all.new.disk in
    let new = g.D.Disk.view c.open.new.disk in
    let last = g.D.Disk.view c.read_index.new.disk in
    let t-mid : Tells mid = c.sync_all.ensures.goes_on.honest ∙ t in
    let t-new : Tells new = c.open.ensures.goes_on.honest ∙ t-mid in
    let ok = c.in-Ok-open.ensures.ok in
    let settled = c.in-Ok-open.ensures.settled t-mid in
    prepared_reads c.args.records old last c.in-Ok-open.journal c.in-Ok-Some.index
    (prepares c.args.records old mid new c.in-Ok-open.journal (c.in-Ok.ensures.told t) (c.in-Ok.ensures.durable t) ok.0 ok.1 settled.0 settled.1 (c.in-Ok-open.ensures.within t-mid) t-new c.open.ensures.touches (c.in-Ok-open.ensures.others t-mid)
    last c.in-Ok-Some.index c.read_index.ensures.looks (at_some c.in-Ok-Some.field-0 c.in-Ok-Some.index _ _ c.in-Ok-Some.field-0-is (c.in-Ok-Some.ensures.told t-new)))

pub returns-in-Ok-Some-clause-same_bodies : goal.returns-in-Ok-Some-clause-same_bodies
returns-in-Ok-Some-clause-same_bodies g c t listed =
    let old = g.D.Disk.view c.args.disk.now in
    let mid = g.D.Disk.view c.sync_all.new.disk in
    let t-mid : Tells mid = c.sync_all.ensures.goes_on.honest ∙ t in
    let synced : IsSynced old mid = record { stays = c.sync_all.ensures.leads; files = c.in-Ok.ensures.told t; durable = c.in-Ok.ensures.durable t } in
    (c.sync_all.new.disk, synced, stays_after (c.open.ensures.any_moment t-mid (index_waited old mid synced listed)) c.read_index.ensures.looks.stays)

pub returns-in-Err-Damaged-clause-same_bodies_damaged : goal.returns-in-Err-Damaged-clause-same_bodies_damaged
returns-in-Err-Damaged-clause-same_bodies_damaged g c t listed asked =
    let old = g.D.Disk.view c.args.disk.now in
    let mid = g.D.Disk.view c.sync_all.new.disk in
    let t-mid : Tells mid = c.sync_all.ensures.goes_on.honest ∙ t in
    let synced : IsSynced old mid = record { stays = c.sync_all.ensures.leads; files = c.in-Ok.ensures.told t; durable = c.in-Ok.ensures.durable t } in
    (c.sync_all.new.disk, synced, c.open.ensures.any_moment t-mid (index_waited old mid synced listed))

pub returns-in-Ok-None-clause-same_bodies_damaged : goal.returns-in-Ok-None-clause-same_bodies_damaged
returns-in-Ok-None-clause-same_bodies_damaged g c t listed asked =
    let old = g.D.Disk.view c.args.disk.now in
    let mid = g.D.Disk.view c.sync_all.new.disk in
    let t-mid : Tells mid = c.sync_all.ensures.goes_on.honest ∙ t in
    let synced : IsSynced old mid = record { stays = c.sync_all.ensures.leads; files = c.in-Ok.ensures.told t; durable = c.in-Ok.ensures.durable t } in
    (c.sync_all.new.disk, synced, stays_after (c.open.ensures.any_moment t-mid (index_waited old mid synced listed)) c.read_index.ensures.looks.stays)

pub returns-in-Err-Memory-clause-touches : goal.returns-in-Err-Memory-clause-touches
returns-in-Err-Memory-clause-touches g c = still_beside _ c.sync_all.ensures.leads

pub returns-in-Err-Disk-clause-touches : goal.returns-in-Err-Disk-clause-touches
returns-in-Err-Disk-clause-touches g c = still_beside _ c.sync_all.ensures.leads

pub returns-in-Err-Damaged-clause-touches : goal.returns-in-Err-Damaged-clause-touches
returns-in-Err-Damaged-clause-touches g c = opened_beside _ c.sync_all.ensures.leads c.open.ensures.touches

pub returns-in-Err-Disk-open-clause-touches : goal.returns-in-Err-Disk-open-clause-touches
returns-in-Err-Disk-open-clause-touches g c = opened_beside _ c.sync_all.ensures.leads c.open.ensures.touches

pub returns-in-Ok-Some-clause-touches : goal.returns-in-Ok-Some-clause-touches
returns-in-Ok-Some-clause-touches g c = looked_beside _ c.sync_all.ensures.leads c.open.ensures.touches c.read_index.ensures.looks.stays

pub returns-in-Ok-None-clause-touches : goal.returns-in-Ok-None-clause-touches
returns-in-Ok-None-clause-touches g c = looked_beside _ c.sync_all.ensures.leads c.open.ensures.touches c.read_index.ensures.looks.stays

pub returns-in-Err-Memory-read_index-clause-touches : goal.returns-in-Err-Memory-read_index-clause-touches
returns-in-Err-Memory-read_index-clause-touches g c = looked_beside _ c.sync_all.ensures.leads c.open.ensures.touches c.read_index.ensures.looks.stays

pub returns-in-Err-Disk-read_index-clause-touches : goal.returns-in-Err-Disk-read_index-clause-touches
returns-in-Err-Disk-read_index-clause-touches g c = looked_beside _ c.sync_all.ensures.leads c.open.ensures.touches c.read_index.ensures.looks.stays

pub returns-in-Ok-Some-clause-short : goal.returns-in-Ok-Some-clause-short
returns-in-Ok-Some-clause-short g c = subst (λ (o : Option IndexView). IfSome o (λ index. end_of index.entries < 2 ^ 63)) c.in-Ok-Some.field-0-is c.in-Ok-Some.ensures.short

pub returns-in-Err-Memory-clause-stands_on : goal.returns-in-Err-Memory-clause-stands_on
returns-in-Err-Memory-clause-stands_on g c history t stands listed = synced_on c.args.records history _ _ c.sync_all.ensures.leads

pub returns-in-Err-Memory-clause-bodies_stay : goal.returns-in-Err-Memory-clause-bodies_stay
returns-in-Err-Memory-clause-bodies_stay g c t durable = bodies_still _ c.sync_all.ensures.leads

pub returns-in-Err-Disk-clause-stands_on : goal.returns-in-Err-Disk-clause-stands_on
returns-in-Err-Disk-clause-stands_on g c history t stands listed = synced_on c.args.records history _ _ c.sync_all.ensures.leads

pub returns-in-Err-Disk-clause-bodies_stay : goal.returns-in-Err-Disk-clause-bodies_stay
returns-in-Err-Disk-clause-bodies_stay g c t durable = bodies_still _ c.sync_all.ensures.leads

pub returns-in-Err-Damaged-clause-stands_on : goal.returns-in-Err-Damaged-clause-stands_on
returns-in-Err-Damaged-clause-stands_on g c history t stands listed =
    let old = g.D.Disk.view c.args.disk.now in
    let mid = g.D.Disk.view c.sync_all.new.disk in
    let t-mid : Tells mid = c.sync_all.ensures.goes_on.honest ∙ t in
    let synced : IsSynced old mid = record { stays = c.sync_all.ensures.leads; files = c.in-Ok.ensures.told t; durable = c.in-Ok.ensures.durable t } in
    opened_on old mid synced listed c.args.records history stands _ (c.open.ensures.any_moment t-mid (index_waited old mid synced listed))

pub returns-in-Err-Damaged-clause-bodies_stay : goal.returns-in-Err-Damaged-clause-bodies_stay
returns-in-Err-Damaged-clause-bodies_stay g c t durable =
    let old = g.D.Disk.view c.args.disk.now in
    let mid = g.D.Disk.view c.sync_all.new.disk in
    let t-mid : Tells mid = c.sync_all.ensures.goes_on.honest ∙ t in
    let synced : IsSynced old mid = record { stays = c.sync_all.ensures.leads; files = c.in-Ok.ensures.told t; durable = c.in-Ok.ensures.durable t } in
    bodies_opened _ c.sync_all.ensures.leads (c.open.ensures.any_moment t-mid (index_waited old mid synced (inr durable)))

pub returns-in-Err-Disk-open-clause-stands_on : goal.returns-in-Err-Disk-open-clause-stands_on
returns-in-Err-Disk-open-clause-stands_on g c history t stands listed =
    let old = g.D.Disk.view c.args.disk.now in
    let mid = g.D.Disk.view c.sync_all.new.disk in
    let t-mid : Tells mid = c.sync_all.ensures.goes_on.honest ∙ t in
    let synced : IsSynced old mid = record { stays = c.sync_all.ensures.leads; files = c.in-Ok.ensures.told t; durable = c.in-Ok.ensures.durable t } in
    opened_on old mid synced listed c.args.records history stands _ (c.open.ensures.any_moment t-mid (index_waited old mid synced listed))

pub returns-in-Err-Disk-open-clause-bodies_stay : goal.returns-in-Err-Disk-open-clause-bodies_stay
returns-in-Err-Disk-open-clause-bodies_stay g c t durable =
    let old = g.D.Disk.view c.args.disk.now in
    let mid = g.D.Disk.view c.sync_all.new.disk in
    let t-mid : Tells mid = c.sync_all.ensures.goes_on.honest ∙ t in
    let synced : IsSynced old mid = record { stays = c.sync_all.ensures.leads; files = c.in-Ok.ensures.told t; durable = c.in-Ok.ensures.durable t } in
    bodies_opened _ c.sync_all.ensures.leads (c.open.ensures.any_moment t-mid (index_waited old mid synced (inr durable)))

pub returns-in-Ok-Some-clause-stands_on : goal.returns-in-Ok-Some-clause-stands_on
returns-in-Ok-Some-clause-stands_on g c history t stands listed =
    let old = g.D.Disk.view c.args.disk.now in
    let mid = g.D.Disk.view c.sync_all.new.disk in
    let t-mid : Tells mid = c.sync_all.ensures.goes_on.honest ∙ t in
    let synced : IsSynced old mid = record { stays = c.sync_all.ensures.leads; files = c.in-Ok.ensures.told t; durable = c.in-Ok.ensures.durable t } in
    looked_on old mid synced listed c.args.records history stands _ _ (c.open.ensures.any_moment t-mid (index_waited old mid synced listed)) c.read_index.ensures.looks.stays

pub returns-in-Ok-Some-clause-bodies_stay : goal.returns-in-Ok-Some-clause-bodies_stay
returns-in-Ok-Some-clause-bodies_stay g c t durable =
    let old = g.D.Disk.view c.args.disk.now in
    let mid = g.D.Disk.view c.sync_all.new.disk in
    let t-mid : Tells mid = c.sync_all.ensures.goes_on.honest ∙ t in
    let synced : IsSynced old mid = record { stays = c.sync_all.ensures.leads; files = c.in-Ok.ensures.told t; durable = c.in-Ok.ensures.durable t } in
    bodies_looked _ c.sync_all.ensures.leads (c.open.ensures.any_moment t-mid (index_waited old mid synced (inr durable))) c.read_index.ensures.looks.stays

pub returns-in-Ok-None-clause-stands_on : goal.returns-in-Ok-None-clause-stands_on
returns-in-Ok-None-clause-stands_on g c history t stands listed =
    let old = g.D.Disk.view c.args.disk.now in
    let mid = g.D.Disk.view c.sync_all.new.disk in
    let t-mid : Tells mid = c.sync_all.ensures.goes_on.honest ∙ t in
    let synced : IsSynced old mid = record { stays = c.sync_all.ensures.leads; files = c.in-Ok.ensures.told t; durable = c.in-Ok.ensures.durable t } in
    looked_on old mid synced listed c.args.records history stands _ _ (c.open.ensures.any_moment t-mid (index_waited old mid synced listed)) c.read_index.ensures.looks.stays

pub returns-in-Ok-None-clause-bodies_stay : goal.returns-in-Ok-None-clause-bodies_stay
returns-in-Ok-None-clause-bodies_stay g c t durable =
    let old = g.D.Disk.view c.args.disk.now in
    let mid = g.D.Disk.view c.sync_all.new.disk in
    let t-mid : Tells mid = c.sync_all.ensures.goes_on.honest ∙ t in
    let synced : IsSynced old mid = record { stays = c.sync_all.ensures.leads; files = c.in-Ok.ensures.told t; durable = c.in-Ok.ensures.durable t } in
    bodies_looked _ c.sync_all.ensures.leads (c.open.ensures.any_moment t-mid (index_waited old mid synced (inr durable))) c.read_index.ensures.looks.stays

pub returns-in-Err-Memory-read_index-clause-stands_on : goal.returns-in-Err-Memory-read_index-clause-stands_on
returns-in-Err-Memory-read_index-clause-stands_on g c history t stands listed =
    let old = g.D.Disk.view c.args.disk.now in
    let mid = g.D.Disk.view c.sync_all.new.disk in
    let t-mid : Tells mid = c.sync_all.ensures.goes_on.honest ∙ t in
    let synced : IsSynced old mid = record { stays = c.sync_all.ensures.leads; files = c.in-Ok.ensures.told t; durable = c.in-Ok.ensures.durable t } in
    looked_on old mid synced listed c.args.records history stands _ _ (c.open.ensures.any_moment t-mid (index_waited old mid synced listed)) c.read_index.ensures.looks.stays

pub returns-in-Err-Memory-read_index-clause-bodies_stay : goal.returns-in-Err-Memory-read_index-clause-bodies_stay
returns-in-Err-Memory-read_index-clause-bodies_stay g c t durable =
    let old = g.D.Disk.view c.args.disk.now in
    let mid = g.D.Disk.view c.sync_all.new.disk in
    let t-mid : Tells mid = c.sync_all.ensures.goes_on.honest ∙ t in
    let synced : IsSynced old mid = record { stays = c.sync_all.ensures.leads; files = c.in-Ok.ensures.told t; durable = c.in-Ok.ensures.durable t } in
    bodies_looked _ c.sync_all.ensures.leads (c.open.ensures.any_moment t-mid (index_waited old mid synced (inr durable))) c.read_index.ensures.looks.stays

pub returns-in-Err-Disk-read_index-clause-stands_on : goal.returns-in-Err-Disk-read_index-clause-stands_on
returns-in-Err-Disk-read_index-clause-stands_on g c history t stands listed =
    let old = g.D.Disk.view c.args.disk.now in
    let mid = g.D.Disk.view c.sync_all.new.disk in
    let t-mid : Tells mid = c.sync_all.ensures.goes_on.honest ∙ t in
    let synced : IsSynced old mid = record { stays = c.sync_all.ensures.leads; files = c.in-Ok.ensures.told t; durable = c.in-Ok.ensures.durable t } in
    looked_on old mid synced listed c.args.records history stands _ _ (c.open.ensures.any_moment t-mid (index_waited old mid synced listed)) c.read_index.ensures.looks.stays

pub returns-in-Err-Disk-read_index-clause-bodies_stay : goal.returns-in-Err-Disk-read_index-clause-bodies_stay
returns-in-Err-Disk-read_index-clause-bodies_stay g c t durable =
    let old = g.D.Disk.view c.args.disk.now in
    let mid = g.D.Disk.view c.sync_all.new.disk in
    let t-mid : Tells mid = c.sync_all.ensures.goes_on.honest ∙ t in
    let synced : IsSynced old mid = record { stays = c.sync_all.ensures.leads; files = c.in-Ok.ensures.told t; durable = c.in-Ok.ensures.durable t } in
    bodies_looked _ c.sync_all.ensures.leads (c.open.ensures.any_moment t-mid (index_waited old mid synced (inr durable))) c.read_index.ensures.looks.stays
