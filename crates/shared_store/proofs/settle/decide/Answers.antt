use Rattle.std.proofs.Common.{ap, sym, subst, ◌∙◌, List, ◌++◌}
use Rattle.history_pass.specs.declared.view.Mark.{Mark}
use Rattle.metastore_index.specs.Entries.{end_of}
use Rattle.profile_model.specs.declared.push.Push.{Push}
use Rattle.shared_store.specs.Holds.{AreTied, HasKept}
use Rattle.shared_store.proofs.SettleLemmas.{mended_same}
use Rattle.shared_store.proofs.TieLemmas.{kept_on, tied_on, tied_still}
use Rattle.shared_store.proofs.settle.decide.Goals as goal

pub returns-in-Ok-clause-tied : goal.returns-in-Ok-clause-tied
returns-in-Ok-clause-tied g c =
    let run = g.J.Names.run in
    let old = g.D.Disk.view c.args.store.now.disk in
    let after = c.decide.new.self in
    let new = g.D.Disk.view after.disk in
    let list = c.args.spine.now.list in
    let came = c.in-Ok.came.items in
    let it = c.in-Ok.ensures in
    subst (λ (m : Mark). AreTied run new after m.list) (sym (c.extend.ensures ∙ ap (λ (l : List Push). record c.args.spine.now { list = list ++ l }) c.deref.ensures.value))
    (tied_on run old new c.args.store.now after list came c.requires it.goes_on it.records it.limits it.end
    (λ t has kept. let mended = it.mended list t has in
    subst (λ (l : List Push). HasKept run.start new after l) mended.2 (kept_on run.start old new c.args.store.now after list mended.0 mended.1.keeps kept)))

pub returns-in-Err-clause-tied : goal.returns-in-Err-clause-tied
returns-in-Err-clause-tied g c =
    let run = g.J.Names.run in
    let old = g.D.Disk.view c.args.store.now.disk in
    let after = c.decide.new.self in
    let new = g.D.Disk.view after.disk in
    let list = c.args.spine.now.list in
    let it = c.in-Err.ensures in
    tied_still run old new c.args.store.now after list c.requires it.goes_on it.records it.limits (ap end_of it.same.0.entries)
    (λ t has kept. let mended = it.mended list t has in
    let same = mended_same old new c.args.store.now after list mended.0 mended.1 it.same.1 in
    subst (λ (l : List Push). HasKept run.start new after l) same (kept_on run.start old new c.args.store.now after list mended.0 mended.1.keeps kept))
