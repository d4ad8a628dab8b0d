use Rattle.std.proofs.Common.{◌≡◌, ◌+◌, List, Err, ap, arith, ◌∙◌, subst}
use Rattle.disk_trait.specs.Disk.{GoesOn, Leads, Tells}
use Rattle.metastore_index.specs.declared.entry.Entry.{Entry}
use Rattle.store_core.specs.Changes.{OnlyClears}
use Rattle.disk_trait.proofs.Steps.{stays_after, widen}
use Rattle.store_core.proofs.OtherLemmas.{bodies_cleared, live_cleared, live_opened, others_again, others_cleared, others_opened}
use Rattle.store_core.proofs.OpenLemmas.{cause_is, cleared_after, cleared_alike, cleared_on, cleared_stand, entries_are, entries_short, ids_next, is_read, not_nothing, prepared_durable, spares_failed, stops_blamed}
use Rattle.store_core.proofs.opening.read_all.Goals as goal

pub returns-in-Err-clause-damaged : goal.returns-in-Err-clause-damaged
returns-in-Err-clause-damaged g c file t is =
    let old = g.D.Disk.view c.args.disk.now in
    let mid = g.D.Disk.view c.open_index.new.disk in
    let t-mid : Tells mid = c.open_index.ensures.goes_on.honest ∙ t in
    let it = c.in-Ok.ensures.prepared t in
    let entries = c.entries.result.now in
    let same : entries ≡ c.in-Ok.pair.1.entries = c.entries.ensures.entries in
    stops_blamed c.args.records old mid c.in-Ok.pair.0 c.in-Ok.pair.1 it entries same file
    (c.in-Err.ensures.stopped file t-mid (entries_are c.args.records old mid c.in-Ok.pair.0 c.in-Ok.pair.1 it entries same)
    (entries_short c.args.records old mid c.in-Ok.pair.0 c.in-Ok.pair.1 it entries same) (ap Err (cause_is c.in-Err.cause _ is)))

pub returns-in-Ok-remove_spares-clause-told : goal.returns-in-Ok-remove_spares-clause-told
returns-in-Ok-remove_spares-clause-told g c t =
    let old = g.D.Disk.view c.args.disk.now in
    let mid = g.D.Disk.view c.open_index.new.disk in
    let look = g.D.Disk.view c.count_objects.new.disk in
    let new = g.D.Disk.view c.remove_spares.new.disk in
    let t-mid : Tells mid = c.open_index.ensures.goes_on.honest ∙ t in
    let t-look : Tells look = c.count_objects.ensures.goes_on.honest ∙ t-mid in
    let it = c.in-Ok.ensures.prepared t in
    is_read c.args.records old mid c.in-Ok.pair.0 c.in-Ok.pair.1 it _ c.entries.ensures.entries c.in-Ok-count_objects.books (c.in-Ok-count_objects.ensures.counted t-mid)
    look new c.count_objects.ensures.looks t-look _ c.entries-2.ensures.entries (c.remove_spares.ensures.spares t-look)
    (c.in-Ok-remove_spares.ensures.none (c.in-Ok.pair.1.greatest + 1) t-look (ids_next c.args.records old mid c.in-Ok.pair.0 c.in-Ok.pair.1 it _ c.entries-2.ensures.entries))

pub returns-in-Ok-remove_spares-clause-any_moment : goal.returns-in-Ok-remove_spares-clause-any_moment
returns-in-Ok-remove_spares-clause-any_moment g c t quiet =
    let old = g.D.Disk.view c.args.disk.now in
    let mid = g.D.Disk.view c.open_index.new.disk in
    let look = g.D.Disk.view c.count_objects.new.disk in
    let new = g.D.Disk.view c.remove_spares.new.disk in
    let t-mid : Tells mid = c.open_index.ensures.goes_on.honest ∙ t in
    let t-look : Tells look = c.count_objects.ensures.goes_on.honest ∙ t-mid in
    let it = c.in-Ok.ensures.prepared t in
    cleared_alike c.args.records old mid c.in-Ok.pair.0 c.in-Ok.pair.1 it _ c.entries.ensures.entries c.in-Ok-count_objects.books (c.in-Ok-count_objects.ensures.counted t-mid)
    look new c.count_objects.ensures.looks t-look _ c.entries-2.ensures.entries (c.remove_spares.ensures.spares t-look)
    (c.open_index.ensures.any_moment t quiet)

pub returns-in-Err-Memory-remove_spares-clause-any_moment : goal.returns-in-Err-Memory-remove_spares-clause-any_moment
returns-in-Err-Memory-remove_spares-clause-any_moment g c t quiet =
    let old = g.D.Disk.view c.args.disk.now in
    let mid = g.D.Disk.view c.open_index.new.disk in
    let look = g.D.Disk.view c.count_objects.new.disk in
    let new = g.D.Disk.view c.remove_spares.new.disk in
    let t-mid : Tells mid = c.open_index.ensures.goes_on.honest ∙ t in
    let t-look : Tells look = c.count_objects.ensures.goes_on.honest ∙ t-mid in
    let it = c.in-Ok.ensures.prepared t in
    cleared_alike c.args.records old mid c.in-Ok.pair.0 c.in-Ok.pair.1 it _ c.entries.ensures.entries c.in-Ok-count_objects.books (c.in-Ok-count_objects.ensures.counted t-mid)
    look new c.count_objects.ensures.looks t-look _ c.entries-2.ensures.entries (c.remove_spares.ensures.spares t-look)
    (c.open_index.ensures.any_moment t quiet)

pub returns-clause-any_moment : goal.returns-clause-any_moment
returns-clause-any_moment g c t quiet =
    let old = g.D.Disk.view c.args.disk.now in
    let mid = g.D.Disk.view c.open_index.new.disk in
    let look = g.D.Disk.view c.count_objects.new.disk in
    let new = g.D.Disk.view c.remove_spares.new.disk in
    let t-mid : Tells mid = c.open_index.ensures.goes_on.honest ∙ t in
    let t-look : Tells look = c.count_objects.ensures.goes_on.honest ∙ t-mid in
    let it = c.in-Ok.ensures.prepared t in
    cleared_alike c.args.records old mid c.in-Ok.pair.0 c.in-Ok.pair.1 it _ c.entries.ensures.entries c.in-Ok-count_objects.books (c.in-Ok-count_objects.ensures.counted t-mid)
    look new c.count_objects.ensures.looks t-look _ c.entries-2.ensures.entries (c.remove_spares.ensures.spares t-look)
    (c.open_index.ensures.any_moment t quiet)

pub returns-in-Ok-remove_spares-clause-synced : goal.returns-in-Ok-remove_spares-clause-synced
returns-in-Ok-remove_spares-clause-synced g c history t stands listed =
    let old = g.D.Disk.view c.args.disk.now in
    let mid = g.D.Disk.view c.open_index.new.disk in
    let look = g.D.Disk.view c.count_objects.new.disk in
    let new = g.D.Disk.view c.remove_spares.new.disk in
    let t-mid : Tells mid = c.open_index.ensures.goes_on.honest ∙ t in
    let t-look : Tells look = c.count_objects.ensures.goes_on.honest ∙ t-mid in
    let it = c.in-Ok.ensures.prepared t in
    let waited = c.in-Ok.ensures.synced history t stands listed in (
      waited.0,
      waited.1,
      cleared_stand c.args.records old mid c.in-Ok.pair.0 c.in-Ok.pair.1 it _ c.entries.ensures.entries c.in-Ok-count_objects.books (c.in-Ok-count_objects.ensures.counted t-mid)
          look new c.count_objects.ensures.looks t-look _ c.entries-2.ensures.entries (c.remove_spares.ensures.spares t-look)
          history stands (g.D.Disk.view waited.0) waited.2,
    )

pub returns-in-Ok-remove_spares-clause-index_durable : goal.returns-in-Ok-remove_spares-clause-index_durable
returns-in-Ok-remove_spares-clause-index_durable g c history t stands =
    let old = g.D.Disk.view c.args.disk.now in
    let mid = g.D.Disk.view c.open_index.new.disk in
    let look = g.D.Disk.view c.count_objects.new.disk in
    let new = g.D.Disk.view c.remove_spares.new.disk in
    let t-mid : Tells mid = c.open_index.ensures.goes_on.honest ∙ t in
    let t-look : Tells look = c.count_objects.ensures.goes_on.honest ∙ t-mid in
    let it = c.in-Ok.ensures.prepared t in
    let goes : GoesOn mid new = record {
      honest = c.remove_spares.ensures.goes_on.honest ∙ c.count_objects.ensures.goes_on.honest;
      faults = omega (arith, c.count_objects.ensures.goes_on.faults, c.remove_spares.ensures.goes_on.faults);
    } in (
      c.open_index.new.disk,
      prepared_durable c.args.records old mid c.in-Ok.pair.0 c.in-Ok.pair.1 it _ c.entries.ensures.entries c.in-Ok-count_objects.books (c.in-Ok-count_objects.ensures.counted t-mid)
          history stands c.open_index.ensures.touches,
      goes,
      cleared_after c.args.records old mid c.in-Ok.pair.0 c.in-Ok.pair.1 it _ c.entries.ensures.entries c.in-Ok-count_objects.books (c.in-Ok-count_objects.ensures.counted t-mid)
          look new c.count_objects.ensures.looks t-look _ c.entries-2.ensures.entries (c.remove_spares.ensures.spares t-look)
          history stands,
    )

pub returns-in-Ok-remove_spares-clause-same_bodies : goal.returns-in-Ok-remove_spares-clause-same_bodies
returns-in-Ok-remove_spares-clause-same_bodies g c t listed =
    let waited = c.in-Ok.ensures.same_bodies t listed in (
      waited.0,
      waited.1,
      bodies_cleared c.entries-2.result.now (g.D.Disk.view waited.0) (g.D.Disk.view c.open_index.new.disk) (g.D.Disk.view c.count_objects.new.disk) (g.D.Disk.view c.remove_spares.new.disk)
          waited.2 c.count_objects.ensures.looks.stays c.remove_spares.ensures.others,
    )

pub returns-clause-disk_leaves : goal.returns-clause-disk_leaves
returns-clause-disk_leaves g c index count t has asked =
    let old = g.D.Disk.view c.args.disk.now in
    let mid = g.D.Disk.view c.open_index.new.disk in
    let look = g.D.Disk.view c.count_objects.new.disk in
    let new = g.D.Disk.view c.remove_spares.new.disk in
    spares_failed c.args.records old mid c.in-Ok.pair.0 c.in-Ok.pair.1 (c.in-Ok.ensures.prepared t) _ c.entries-2.ensures.entries
    look new c.open_index.ensures.touches c.count_objects.ensures.looks c.remove_spares.ensures.loses index has

pub returns-in-Ok-remove_spares-clause-only_clears : goal.returns-in-Ok-remove_spares-clause-only_clears
returns-in-Ok-remove_spares-clause-only_clears g c =
    let old = g.D.Disk.view c.args.disk.now in
    let look = g.D.Disk.view c.count_objects.new.disk in
    let new = g.D.Disk.view c.remove_spares.new.disk in
    subst (λ (es : List Entry). Leads (OnlyClears es) old new) c.entries-2.ensures.entries
    (live_cleared c.entries-2.result.now old look new (stays_after c.open_index.ensures.touches c.count_objects.ensures.looks.stays) c.remove_spares.ensures.loses)

pub returns-in-Err-Disk-clause-disk_leaves : goal.returns-in-Err-Disk-clause-disk_leaves
returns-in-Err-Disk-clause-disk_leaves g c index count t has asked = live_opened index.entries _ _ c.open_index.ensures.touches

pub returns-in-Err-clause-disk_leaves : goal.returns-in-Err-clause-disk_leaves
returns-in-Err-clause-disk_leaves g c index count t has asked = live_opened index.entries _ _ (stays_after c.open_index.ensures.touches c.count_objects.ensures.looks.stays)

pub returns-in-Err-Memory-remove_spares-clause-others : goal.returns-in-Err-Memory-remove_spares-clause-others
returns-in-Err-Memory-remove_spares-clause-others g c =
    let mid = g.D.Disk.view c.open_index.new.disk in
    let look = g.D.Disk.view c.count_objects.new.disk in
    let new = g.D.Disk.view c.remove_spares.new.disk in
    others_again _ look new (stays_after (others_opened _ mid c.open_index.ensures.touches) c.count_objects.ensures.looks.stays) (others_cleared _ look new c.remove_spares.ensures.others)

pub returns-in-Err-Damaged-clause-same_bodies_damaged : goal.returns-in-Err-Damaged-clause-same_bodies_damaged
returns-in-Err-Damaged-clause-same_bodies_damaged g c file t listed asked =
    let waited = c.in-Err-Damaged.ensures.same_bodies_damaged t listed (ap Err c.in-Err-Damaged.field-0-is) in
    (waited.0, waited.1, widen waited.2 (λ before image left step. step.here))

pub returns-in-Err-clause-same_bodies_damaged : goal.returns-in-Err-clause-same_bodies_damaged
returns-in-Err-clause-same_bodies_damaged g c file t listed asked =
    let waited = c.in-Ok.ensures.same_bodies t listed in
    (waited.0, waited.1, widen (stays_after waited.2 c.count_objects.ensures.looks.stays) (λ before image left step. step.here))

pub returns-in-Err-Memory-clause-bodies_stay : goal.returns-in-Err-Memory-clause-bodies_stay
returns-in-Err-Memory-clause-bodies_stay g c t durable = widen (c.open_index.ensures.bodies_stay t durable) (λ before image left step. step.here)

pub returns-in-Err-Disk-clause-bodies_stay : goal.returns-in-Err-Disk-clause-bodies_stay
returns-in-Err-Disk-clause-bodies_stay g c t durable = widen (c.open_index.ensures.bodies_stay t durable) (λ before image left step. step.here)

pub returns-in-Err-Damaged-clause-bodies_stay : goal.returns-in-Err-Damaged-clause-bodies_stay
returns-in-Err-Damaged-clause-bodies_stay g c t durable = widen (c.open_index.ensures.bodies_stay t durable) (λ before image left step. step.here)

pub returns-in-Err-clause-bodies_stay : goal.returns-in-Err-clause-bodies_stay
returns-in-Err-clause-bodies_stay g c t durable = widen (stays_after (c.open_index.ensures.bodies_stay t durable) c.count_objects.ensures.looks.stays) (λ before image left step. step.here)

pub returns-in-Err-clause-stands_on : goal.returns-in-Err-clause-stands_on
returns-in-Err-clause-stands_on g c history t stands listed = stays_after (c.open_index.ensures.stands_on history t stands listed) c.count_objects.ensures.looks.stays

pub returns-in-Err-clause-nothing_leaves : goal.returns-in-Err-clause-nothing_leaves
returns-in-Err-clause-nothing_leaves g c t none = stays_after c.open_index.ensures.touches c.count_objects.ensures.looks.stays

pub returns-in-Ok-remove_spares-clause-bodies_stay : goal.returns-in-Ok-remove_spares-clause-bodies_stay
returns-in-Ok-remove_spares-clause-bodies_stay g c t durable =
    bodies_cleared c.entries-2.result.now (g.D.Disk.view c.args.disk.now) (g.D.Disk.view c.open_index.new.disk) (g.D.Disk.view c.count_objects.new.disk) (g.D.Disk.view c.remove_spares.new.disk)
    (c.open_index.ensures.bodies_stay t durable) c.count_objects.ensures.looks.stays c.remove_spares.ensures.others

pub returns-in-Ok-remove_spares-clause-stands_on : goal.returns-in-Ok-remove_spares-clause-stands_on
returns-in-Ok-remove_spares-clause-stands_on g c history t stands listed =
    let old = g.D.Disk.view c.args.disk.now in
    let mid = g.D.Disk.view c.open_index.new.disk in
    let look = g.D.Disk.view c.count_objects.new.disk in
    let new = g.D.Disk.view c.remove_spares.new.disk in
    let t-mid : Tells mid = c.open_index.ensures.goes_on.honest ∙ t in
    let t-look : Tells look = c.count_objects.ensures.goes_on.honest ∙ t-mid in
    let it = c.in-Ok.ensures.prepared t in
    cleared_on c.args.records old mid c.in-Ok.pair.0 c.in-Ok.pair.1 it _ c.entries.ensures.entries c.in-Ok-count_objects.books (c.in-Ok-count_objects.ensures.counted t-mid)
    look new c.count_objects.ensures.looks t-look _ c.entries-2.ensures.entries (c.remove_spares.ensures.spares t-look)
    history stands (c.open_index.ensures.stands_on history t stands listed)

pub returns-in-Ok-remove_spares-clause-nothing_leaves : goal.returns-in-Ok-remove_spares-clause-nothing_leaves
returns-in-Ok-remove_spares-clause-nothing_leaves g c t none =
    let old = g.D.Disk.view c.args.disk.now in
    let mid = g.D.Disk.view c.open_index.new.disk in
    let t-mid : Tells mid = c.open_index.ensures.goes_on.honest ∙ t in
    not_nothing c.args.records old mid c.in-Ok.pair.0 c.in-Ok.pair.1 (c.in-Ok.ensures.prepared t) _ c.entries.ensures.entries c.in-Ok-count_objects.books (c.in-Ok-count_objects.ensures.counted t-mid) none

pub returns-in-Err-Memory-remove_spares-clause-bodies_stay : goal.returns-in-Err-Memory-remove_spares-clause-bodies_stay
returns-in-Err-Memory-remove_spares-clause-bodies_stay g c t durable =
    bodies_cleared c.entries-2.result.now (g.D.Disk.view c.args.disk.now) (g.D.Disk.view c.open_index.new.disk) (g.D.Disk.view c.count_objects.new.disk) (g.D.Disk.view c.remove_spares.new.disk)
    (c.open_index.ensures.bodies_stay t durable) c.count_objects.ensures.looks.stays c.remove_spares.ensures.others

pub returns-in-Err-Memory-remove_spares-clause-stands_on : goal.returns-in-Err-Memory-remove_spares-clause-stands_on
returns-in-Err-Memory-remove_spares-clause-stands_on g c history t stands listed =
    let old = g.D.Disk.view c.args.disk.now in
    let mid = g.D.Disk.view c.open_index.new.disk in
    let look = g.D.Disk.view c.count_objects.new.disk in
    let new = g.D.Disk.view c.remove_spares.new.disk in
    let t-mid : Tells mid = c.open_index.ensures.goes_on.honest ∙ t in
    let t-look : Tells look = c.count_objects.ensures.goes_on.honest ∙ t-mid in
    let it = c.in-Ok.ensures.prepared t in
    cleared_on c.args.records old mid c.in-Ok.pair.0 c.in-Ok.pair.1 it _ c.entries.ensures.entries c.in-Ok-count_objects.books (c.in-Ok-count_objects.ensures.counted t-mid)
    look new c.count_objects.ensures.looks t-look _ c.entries-2.ensures.entries (c.remove_spares.ensures.spares t-look)
    history stands (c.open_index.ensures.stands_on history t stands listed)

pub returns-in-Err-Memory-remove_spares-clause-nothing_leaves : goal.returns-in-Err-Memory-remove_spares-clause-nothing_leaves
returns-in-Err-Memory-remove_spares-clause-nothing_leaves g c t none =
    let old = g.D.Disk.view c.args.disk.now in
    let mid = g.D.Disk.view c.open_index.new.disk in
    let t-mid : Tells mid = c.open_index.ensures.goes_on.honest ∙ t in
    not_nothing c.args.records old mid c.in-Ok.pair.0 c.in-Ok.pair.1 (c.in-Ok.ensures.prepared t) _ c.entries.ensures.entries c.in-Ok-count_objects.books (c.in-Ok-count_objects.ensures.counted t-mid) none

pub returns-clause-bodies_stay : goal.returns-clause-bodies_stay
returns-clause-bodies_stay g c t durable =
    bodies_cleared c.entries-2.result.now (g.D.Disk.view c.args.disk.now) (g.D.Disk.view c.open_index.new.disk) (g.D.Disk.view c.count_objects.new.disk) (g.D.Disk.view c.remove_spares.new.disk)
    (c.open_index.ensures.bodies_stay t durable) c.count_objects.ensures.looks.stays c.remove_spares.ensures.others

pub returns-clause-stands_on : goal.returns-clause-stands_on
returns-clause-stands_on g c history t stands listed =
    let old = g.D.Disk.view c.args.disk.now in
    let mid = g.D.Disk.view c.open_index.new.disk in
    let look = g.D.Disk.view c.count_objects.new.disk in
    let new = g.D.Disk.view c.remove_spares.new.disk in
    let t-mid : Tells mid = c.open_index.ensures.goes_on.honest ∙ t in
    let t-look : Tells look = c.count_objects.ensures.goes_on.honest ∙ t-mid in
    let it = c.in-Ok.ensures.prepared t in
    cleared_on c.args.records old mid c.in-Ok.pair.0 c.in-Ok.pair.1 it _ c.entries.ensures.entries c.in-Ok-count_objects.books (c.in-Ok-count_objects.ensures.counted t-mid)
    look new c.count_objects.ensures.looks t-look _ c.entries-2.ensures.entries (c.remove_spares.ensures.spares t-look)
    history stands (c.open_index.ensures.stands_on history t stands listed)

pub returns-clause-nothing_leaves : goal.returns-clause-nothing_leaves
returns-clause-nothing_leaves g c t none =
    let old = g.D.Disk.view c.args.disk.now in
    let mid = g.D.Disk.view c.open_index.new.disk in
    let t-mid : Tells mid = c.open_index.ensures.goes_on.honest ∙ t in
    not_nothing c.args.records old mid c.in-Ok.pair.0 c.in-Ok.pair.1 (c.in-Ok.ensures.prepared t) _ c.entries.ensures.entries c.in-Ok-count_objects.books (c.in-Ok-count_objects.ensures.counted t-mid) none
