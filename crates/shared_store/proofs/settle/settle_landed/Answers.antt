use Rattle.std.proofs.Common.{◌≡◌, ℕ, ◌+◌, List, ◌++◌, length, ap, sym, subst, ◌∙◌, arith, Err, append-nil}
use Rattle.history_pass.specs.declared.view.Mark.{Mark}
use Rattle.metastore_index.specs.Entries.{end_of}
use Rattle.profile_model.specs.declared.push.Push.{Push}
use Rattle.store_core.specs.declared.fault.SettleFault.TheVariants.{Full}
use Rattle.store_core.proofs.IndexLemmas.{lands_at}
use Rattle.tenant_books.specs.Limits.{limit_of}
use Rattle.tenant_books.specs.Verdicts.{AreVerdicts}
use Rattle.shared_store.specs.Holds.{AreTied}
use Rattle.shared_store.proofs.SettleLemmas.{WasRefused, found_end, refused_end, refused_kept, refused_left, same_err, settled_end, settled_judged, settled_on, would_be_kept, none_at_end}
use Rattle.shared_store.proofs.TieLemmas.{kept_on, tied_on, tied_still}
use Rattle.shared_store.proofs.settle.settle_landed.Given.{Over}
use Rattle.shared_store.proofs.settle.settle_landed.Goals as goal

-- the list is then the one before, with the kept pushes behind it
longer : (g : Over) (c : goal.After-drop-settled g) → c.extend.new.self ≡ record c.args.spine.now { list = c.args.spine.now.list ++ c.in-Ok.settled.kept.items }
longer g c = c.extend.ensures ∙ ap (λ (l : List Push). record c.args.spine.now { list = c.args.spine.now.list ++ l }) c.deref.ensures.value

-- the index ends behind them
ends : (g : Over) (c : goal.After-drop-settled g) → end_of c.settle.new.self.index.entries ≡ end_of c.args.store.now.index.entries + length c.in-Ok.settled.kept.items
ends g c =
    let end = c.in-Ok.ensures.end in
    end.2 ∙ ap (λ (n : ℕ). n + length c.in-Ok.settled.kept.items) (lands_at c.args.store.now end.0 c.requires.lands end.1)

pub returns-in-Ok-clause-tied : goal.returns-in-Ok-clause-tied
returns-in-Ok-clause-tied g c =
    let run = g.J.Names.run in
    let view = g.D.Disk.view in
    let before = c.args.store.now in
    let after = c.settle.new.self in
    let list = c.args.spine.now.list in
    let asks = c.args.asks.items in
    let kept = c.in-Ok.settled.kept.items in
    let it = c.in-Ok.ensures in
    subst (λ (m : Mark). AreTied run (view after.disk) after m.list) (sym (longer g c))
    (tied_on run (view before.disk) (view after.disk) before after list kept c.requires.tied it.goes_on it.records it.limits (ends g c)
    (λ t has had. kept_on run.start (view before.disk) (view after.disk) before after list (list ++ kept)
    (settled_on view before after list c.requires.lands asks c.in-Ok.settled.verdicts.items kept it.kept (it.settled list t has)) had))

pub returns-in-Ok-clause-settled : goal.returns-in-Ok-clause-settled
returns-in-Ok-clause-settled g c =
    let run = g.J.Names.run in
    let view = g.D.Disk.view in
    let list = c.args.spine.now.list in
    let asks = c.args.asks.items in
    let verdicts = c.in-Ok.settled.verdicts.items in
    let kept = c.in-Ok.settled.kept.items in
    let it = c.in-Ok.ensures in
    let tied = c.requires.tied in
    let is = ap (λ (m : Mark). m.list) (longer g c) in record {
      many = it.many;
      kept = is ∙ ap (λ (l : List Push). list ++ l) it.kept;
      judged = λ t. subst (λ (l : List Push). AreVerdicts (limit_of run.limits) list asks verdicts l) (sym is)
          (settled_judged view c.args.store.now c.settle.new.self list c.requires.lands asks run verdicts kept tied.limits it.kept (it.settled list (tied.tells t) (tied.kept t).keeps.has));
    }

pub returns-in-Ok-clause-at_end : goal.returns-in-Ok-clause-at_end
returns-in-Ok-clause-at_end g c t at_end =
    let it = c.in-Ok.ensures in
    let tied = c.requires.tied in
    settled_end g.D.Disk.view c.args.store.now c.settle.new.self c.args.spine.now.list at_end it.records c.args.asks.items c.in-Ok.settled.verdicts.items it.sure.1
    (omega (arith, ends g c)) (it.settled c.args.spine.now.list (tied.tells t) (tied.kept t).keeps.has)

pub returns-in-Ok-clause-none : goal.returns-in-Ok-clause-none
returns-in-Ok-clause-none g c t at_end =
    let list = c.args.spine.now.list in
    let it = c.in-Ok.ensures in
    let tied = c.requires.tied in
    let kept = none_at_end g.D.Disk.view c.args.store.now c.settle.new.self list at_end it.records c.args.asks.items c.in-Ok.settled.verdicts.items c.in-Ok.settled.kept.items it.kept
    (it.settled list (tied.tells t) (tied.kept t).keeps.has) in
    ap (λ (m : Mark). m.list) (longer g c) ∙ ap (λ (l : List Push). list ++ l) kept ∙ append-nil list

-- what the refusal tells, where the disk is known to tell
refused : (g : Over) (c : goal.In-Err g) → g.J.Names.run.tells → WasRefused g.D.Disk.view c.args.store.now c.settle.new.self c.args.spine.now.list c.args.asks.items c.in-Err.fault
refused g c t =
    let it = c.in-Err.ensures in
    let list = c.args.spine.now.list in
    let tells = c.requires.tied.tells t in
    let has = (c.requires.tied.kept t).keeps.has in record {
      memory = λ is. it.memory (ap Err is) list tells has;
      full = λ records back is. (it.full records back (ap Err is)).5 list tells has;
      disk = λ count is. it.doubted count (ap Err is) list tells has;
    }

pub returns-in-Err-clause-tied : goal.returns-in-Err-clause-tied
returns-in-Err-clause-tied g c =
    let run = g.J.Names.run in
    let view = g.D.Disk.view in
    let before = c.args.store.now in
    let after = c.settle.new.self in
    let list = c.args.spine.now.list in
    let it = c.in-Err.ensures in
    tied_still run (view before.disk) (view after.disk) before after list c.requires.tied it.goes_on it.records it.limits (lands_at before (end_of after.index.entries) c.requires.lands it.end_refused)
    (λ t has had. refused_kept view before after list c.args.asks.items c.in-Err.fault run.start c.requires.lands c.requires.few
    (record { memory = λ is. it.memory (ap Err is) list t has; full = λ records back is. (it.full records back (ap Err is)).5 list t has; disk = λ count is. it.doubted count (ap Err is) list t has }) had)

pub returns-in-Err-clause-full : goal.returns-in-Err-clause-full
returns-in-Err-clause-full g c records back is =
    let same = same_err c.in-Err.fault (Full records back) is in
    let it = c.in-Err.ensures.full records back (ap Err same) in
    let tied = c.requires.tied in (
      it.0 ∙ tied.records,
      λ t. would_be_kept g.D.Disk.view c.args.store.now c.settle.new.self c.args.spine.now.list c.requires.lands c.args.asks.items g.J.Names.run tied.limits ((refused g c t).full records back same),
    )

pub returns-in-Err-clause-found_full : goal.returns-in-Err-clause-found_full
returns-in-Err-clause-found_full g c records back is t =
    let same = same_err c.in-Err.fault (Full records back) is in
    let it = c.in-Err.ensures.full records back (ap Err same) in
    found_end g.D.Disk.view c.args.store.now c.settle.new.self c.args.spine.now.list c.args.asks.items it.3 ((refused g c t).full records back same)

pub returns-in-Err-clause-at_end : goal.returns-in-Err-clause-at_end
returns-in-Err-clause-at_end g c t at_end =
    refused_end g.D.Disk.view c.args.store.now c.settle.new.self c.args.spine.now.list c.args.asks.items c.in-Err.fault c.in-Err.ensures.records (refused g c t) at_end

pub returns-in-Err-clause-left : goal.returns-in-Err-clause-left
returns-in-Err-clause-left g c t =
    let view = g.D.Disk.view in
    refused_left view c.args.store.now c.settle.new.self c.args.spine.now.list c.args.asks.items c.in-Err.fault g.J.Names.run c.requires.lands c.requires.tied.limits (refused g c t)
