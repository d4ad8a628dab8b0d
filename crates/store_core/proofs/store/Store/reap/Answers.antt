use Rattle.std.proofs.Common.{◌≡◌, ◌∙◌, ap, refl, sym, subst, inl}
use Rattle.metastore_index.specs.Entries.{end_of}
use Rattle.history_files.specs.History.{StandFor}
use Rattle.store_core.specs.Changes.{EndsWithFlight, HasSameIndex}
use Rattle.store_core.proofs.SettleLemmas.{on_ok_any}
use Rattle.store_core.proofs.StoreLemmas.{mended_again}
use Rattle.store_core.proofs.IndexLemmas.{ends_with, takes_same}
use Rattle.store_core.proofs.OtherLemmas.{others_again}
use Rattle.store_core.proofs.store.Store.reap.Goals as goal

pub returns-clause-mended : goal.returns-clause-mended
returns-clause-mended g c history t held =
    let d = c.in-Ok.ensures.mended history t held in (
      d.0,
      mended_again (g.D.Disk.view c.args.self.now.disk) (g.D.Disk.view c.decide.new.self.disk) (g.D.Disk.view c.clear.new.self.disk) c.args.self.now c.decide.new.self c.clear.new.self history d.0 d.0
          c.decide.ensures.records c.in-Ok.ensures.flight c.clear.ensures.index.entries d.1 (c.clear.ensures.mended d.0 (c.decide.ensures.goes_on.honest ∙ t) d.1.has),
      on_ok_any c.clear.result (StandFor c.args.self.now.records (g.D.Disk.view c.args.self.now.disk).files d.0) d.3,
    )

pub returns-in-Err-clause-mended : goal.returns-in-Err-clause-mended
returns-in-Err-clause-mended g c history t held = let d = c.decide.ensures.mended history t held in (d.0, d.1, tt)

pub returns-clause-index : goal.returns-clause-index
returns-clause-index g c t = takes_same c.args.self.now c.decide.new.self c.clear.new.self (c.decide.ensures.index t) c.clear.ensures.index

pub returns-clause-lands : goal.returns-clause-lands
returns-clause-lands g c none =
    (c.clear.ensures.flight, subst (λ s. HasSameIndex s c.clear.new.self) (c.decide.ensures.nothing none).0 c.clear.ensures.index)

pub returns-in-Err-clause-lands : goal.returns-in-Err-clause-lands
returns-in-Err-clause-lands g c none = (c.in-Err.ensures.same.1 ∙ none, c.in-Err.ensures.same.0)

pub returns-clause-end : goal.returns-clause-end
returns-clause-end g c =
    subst (EndsWithFlight c.args.self.now) (sym (ap end_of c.clear.ensures.index.entries))
    (ends_with c.args.self.now c.in-Ok.field-0.items (end_of c.decide.new.self.index.entries) c.in-Ok.ensures.came c.in-Ok.ensures.end)

pub returns-in-Err-clause-end : goal.returns-in-Err-clause-end
returns-in-Err-clause-end g c = inl (ap end_of c.in-Err.ensures.same.0.entries)

pub returns-clause-others : goal.returns-clause-others
returns-clause-others g c =
    others_again (g.D.Disk.view c.args.self.now.disk) (g.D.Disk.view c.decide.new.self.disk) (g.D.Disk.view c.clear.new.self.disk) c.decide.ensures.others c.clear.ensures.others
