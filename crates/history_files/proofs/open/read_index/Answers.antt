use Rattle.std.proofs.Common.{◌≡◌, ap, sym, ◌∙◌, Err, Some, arith, take, refl}
use Rattle.std.specs.Prelude.{slice_get}
use Rattle.disk_trait.specs.Disk.{Tells, Files, bytes_of}
use Rattle.faults.specs.declared.refused.Refused.TheVariants.{Fault}
use Rattle.disk_trait.proofs.Steps.{looks_again}
use Rattle.gate_journal.specs.Slots.{bodies_of}
use Rattle.gate_journal.specs.Journal.{list_of}
use Rattle.history_files.proofs.IndexLemmas.{lists_unread, lists_refused, ends_short, lists_more, not_a_run}
use Rattle.history_files.proofs.open.read_index.Goals as goal

pub returns-in_default-clause-told : goal.returns-in_default-clause-told
returns-in_default-clause-told g c t =
    let old = g.D.Disk.view c.args.disk.now in
    let i = c.loop-i.invariant in
    let t-mid : Tells (g.D.Disk.view c.loop-i.disk) = i.goes_on.honest ∙ t in
    let list = list_of old c.args.journal.now in
    let here : slice_get list c.loop-i.i ≡ Some c.in_ok-body.body = ap (λ (f : Files). slice_get (take c.args.journal.now.count (bodies_of (bytes_of (f c.args.journal.now.file)))) c.loop-i.i) (sym i.looks.files) ∙ c.in_ok-body.ensures.told t-mid in
    lists_unread list c.loop-i.i c.in_ok-body.body here (c.in_default.ensures.none refl)

pub returns-in-Err-Fault-clause-told : goal.returns-in-Err-Fault-clause-told
returns-in-Err-Fault-clause-told g c t =
    let old = g.D.Disk.view c.args.disk.now in
    let i = c.loop-i.invariant in
    let t-mid : Tells (g.D.Disk.view c.loop-i.disk) = i.goes_on.honest ∙ t in
    let list = list_of old c.args.journal.now in
    let here : slice_get list c.loop-i.i ≡ Some c.in_ok-body.body = ap (λ (f : Files). slice_get (take c.args.journal.now.count (bodies_of (bytes_of (f c.args.journal.now.file)))) c.loop-i.i) (sym i.looks.files) ∙ c.in_ok-body.ensures.told t-mid in
    lists_refused list c.loop-i.i c.in_ok-body.body here c.in-Some.entry c.loop-i.index c.in-Some.ensures.body (i.so_far t) (c.in-Err-Fault.ensures.refused (ap Err (c.in-Err-Fault.field-0-is ∙ ap Fault (not_a_run c.in-Err-Fault.field-0-0))))

pub loop-i-preserved : goal.loop-i-preserved
loop-i-preserved g c =
    let old = g.D.Disk.view c.args.disk.now in
    let mid = g.D.Disk.view c.loop-i.disk in
    let i = c.loop-i.invariant in
    let list = list_of old c.args.journal.now in
    record {
      goes_on = record { honest = c.body.ensures.goes_on.honest ∙ i.goes_on.honest; faults = omega (arith, c.body.ensures.goes_on.faults, i.goes_on.faults) };
      faults = c.in_ok-body.ensures.quiet ∙ i.faults;
      looks = looks_again i.looks c.body.ensures.looks;
      opened = λ t. let t-mid : Tells mid = i.goes_on.honest ∙ t in c.body.ensures.opened t-mid;
      short = ends_short c.loop-i.index.entries c.in-Some.entry c.apply.new.self.entries c.in-Ok.ensures.ok.1 i.short c.in-Some.ensures.bounded;
      so_far = λ t.
          let t-mid : Tells mid = i.goes_on.honest ∙ t in
          let here : slice_get list c.loop-i.i ≡ Some c.in_ok-body.body = ap (λ (f : Files). slice_get (take c.args.journal.now.count (bodies_of (bytes_of (f c.args.journal.now.file)))) c.loop-i.i) (sym i.looks.files) ∙ c.in_ok-body.ensures.told t-mid in
          lists_more list c.loop-i.i c.in_ok-body.body here c.in-Some.entry c.loop-i.index c.apply.new.self c.in-Some.ensures.body c.in-Some.ensures.bounded (i.so_far t)
          (record { taken = c.in-Ok.ensures.ok.0; becomes = c.in-Ok.ensures.ok.1; greatest = c.in-Ok.ensures.ok.2 });
    }
