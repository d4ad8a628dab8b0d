use Rattle.std.proofs.Common.{◌++◌, Err, ap, sym, ◌∙◌, subst, arith}
use Rattle.disk_trait.specs.Disk.{Files, Tells}
use Rattle.disk_trait.specs.declared.disk.FileId.TheVariants as names
use Rattle.disk_trait.proofs.Steps.{looks_again}
use Rattle.history_files.specs.History.{IsObjectOf}
use Rattle.store_core.proofs.OpenLemmas.{begins_at, cause_is, ends_short, held_more, stops_here}
use Rattle.store_core.proofs.opening.count_objects.Goals as goal

pub returns-in-Err-clause-stopped : goal.returns-in-Err-clause-stopped
returns-in-Err-clause-stopped g c file t are short is =
    let old = g.D.Disk.view c.args.disk.now in
    let i = c.loop-entry.invariant in
    let t-mid : Tells (g.D.Disk.view c.loop-entry.disk) = i.goes_on.honest ∙ t in
    let entries = c.args.entries.now in
    let entry = c.entry-item.result in
    let so = i.so_far t are short in
    let stop = c.in-Err.ensures.stopped file (ap Err (cause_is c.in-Err.cause _ is)) in
    stops_here old.files entries c.loop-entry.entry-index entry entry c.loop-entry-test.true (sym c.entry-item.is) are so.0 so.1.held file stop.0 so.1.totals
    (λ pushes object. stop.1 so.0 t-mid so.1.booked so.1.totals
    (begins_at old.files entries c.loop-entry.entry-index entry entry c.loop-entry-test.true (sym c.entry-item.is) are so.0 so.1.held)
    (ends_short old.files entries c.loop-entry.entry-index entry entry c.loop-entry-test.true (sym c.entry-item.is) are short)
    pushes (subst (λ (f : Files). IsObjectOf entry pushes (f (names.Object entry.id))) (sym i.looks.files) object))

pub loop-entry-preserved : goal.loop-entry-preserved
loop-entry-preserved g c =
    let old = g.D.Disk.view c.args.disk.now in
    let i = c.loop-entry.invariant in
    let entries = c.args.entries.now in
    let entry = c.entry-item.result in
    record {
      goes_on = record { honest = c.count_object.ensures.goes_on.honest ∙ i.goes_on.honest; faults = omega (arith, c.count_object.ensures.goes_on.faults, i.goes_on.faults) };
      faults = c.in-Ok.ensures.quiet ∙ i.faults;
      looks = looks_again i.looks c.count_object.ensures.looks;
      so_far = λ t are short.
          let t-mid : Tells (g.D.Disk.view c.loop-entry.disk) = i.goes_on.honest ∙ t in
          let so = i.so_far t are short in
          let more = c.in-Ok.ensures.counted so.0 t-mid so.1.booked so.1.totals
          (begins_at old.files entries c.loop-entry.entry-index entry entry c.loop-entry-test.true (sym c.entry-item.is) are so.0 so.1.held)
          (ends_short old.files entries c.loop-entry.entry-index entry entry c.loop-entry-test.true (sym c.entry-item.is) are short) in (
            so.0 ++ more.0,
            record {
              held = held_more old.files entries c.loop-entry.entry-index entry entry c.loop-entry-test.true (sym c.entry-item.is) are so.0 so.1.held more.0
                  (subst (λ (f : Files). IsObjectOf entry more.0 (f (names.Object entry.id))) i.looks.files more.1);
              totals = more.2;
              booked = more.3;
            },
          );
    }
