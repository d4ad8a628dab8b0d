use Rattle.std.proofs.Common.{ap, sym, ◌∙◌, Some, List, ℕ}
use Rattle.disk_trait.specs.declared.disk.FileId.TheVariants as names
use Rattle.history_files.proofs.ObjectLemmas.{found_in}
use Rattle.history_files.proofs.OpenLemmas.{at_none, at_some}
use Rattle.history_files.proofs.object.read_object.Goals as goal

pub returns-in_default-clause-told : goal.returns-in_default-clause-told
returns-in_default-clause-told g c t = at_none c.in_ok-bytes.field-0 _ _ c.in_default.is (c.in_ok-bytes.ensures.told t)

pub returns-clause-told : goal.returns-clause-told
returns-clause-told g c t =
    let there = at_some c.in_ok-bytes.field-0 c.in-Some.bytes _ _ c.in-Some.is (c.in_ok-bytes.ensures.told t) in
    found_in (λ object. object) c.args.entry.now ((g.D.Disk.view c.args.disk.now).files (names.Object c.args.entry.now.id)) c.deref.result.now c.in_ok-object_in.field-0
    (there ∙ ap (λ (l : List ℕ). Some l) (sym c.deref.ensures.value)) c.in_ok-object_in.ensures.told
