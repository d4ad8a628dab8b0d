use Rattle.std.proofs.Common.{◌≡◌, ◌+◌, ℕ, List, length, ap, sym, ◌∙◌, inl, inr, subst}
use Rattle.metastore_index.specs.Entries.{end_of}
use Rattle.store_core.specs.Store.{IsFull}
use Rattle.store_core.specs.Changes.{EndsWithFlight, HasSameIndex}
use Rattle.store_core.specs.Settling.{FirstMended, IsDoubted, IsFullFor, IsSettled}
use Rattle.store_core.proofs.SettleLemmas.{first_mended, if_ok, on_err_weaker, with_spare}
use Rattle.store_core.proofs.OtherLemmas.{others_again}
use Rattle.store_core.proofs.store.Store.settle.Goals as goal

pub returns-in-Ok-clause-settled : goal.returns-in-Ok-clause-settled
returns-in-Ok-clause-settled g c history t held =
    let view = g.D.Disk.view in
    let d = c.in-Ok.ensures.mended history t held in
    if_ok c.settle_sure.result (λ settled. IsSettled view c.mend.new.self c.settle_sure.new.self d.0 c.args.asks.items settled.verdicts.items)
    (λ settled. FirstMended view c.args.self.now history (λ between next. IsSettled view between c.settle_sure.new.self next c.args.asks.items settled.verdicts.items))
    (λ answer settled. first_mended view c.args.self.now c.mend.new.self history d (λ between next. IsSettled view between c.settle_sure.new.self next c.args.asks.items answer.verdicts.items)
    c.in-Ok.ensures.sure c.in-Ok.ensures.flight (λ is. (c.mend.ensures.nothing is).0) c.mend.ensures.records c.mend.ensures.limits (c.mend.ensures.index t) (λ unsure. c.in-Ok.ensures.gone unsure t) settled)
    (c.settle_sure.ensures.settled d.0 (c.mend.ensures.goes_on.honest ∙ t) d.1.has)

pub returns-in-Ok-clause-full : goal.returns-in-Ok-clause-full
returns-in-Ok-clause-full g c records back is =
    let view = g.D.Disk.view in
    let f = c.settle_sure.ensures.full records back is in (
      f.1 ∙ c.mend.ensures.records,
      f.2,
      ap (λ s. s.sure) f.0 ∙ c.in-Ok.ensures.sure,
      subst IsFull (sym f.0) f.3,
      λ is. f.0 ∙ (c.mend.ensures.nothing is).0,
      λ history t held.
          let d = c.in-Ok.ensures.mended history t held in
          first_mended view c.args.self.now c.mend.new.self history d (λ between next. (c.settle_sure.new.self ≡ between) × IsFullFor between next c.args.asks.items)
          c.in-Ok.ensures.sure c.in-Ok.ensures.flight (λ is. (c.mend.ensures.nothing is).0) c.mend.ensures.records c.mend.ensures.limits (c.mend.ensures.index t) (λ unsure. c.in-Ok.ensures.gone unsure t) (f.0, f.4 d.0 (c.mend.ensures.goes_on.honest ∙ t) d.1.has),
    )

pub returns-in-Ok-clause-memory : goal.returns-in-Ok-clause-memory
returns-in-Ok-clause-memory g c is history t held =
    let view = g.D.Disk.view in
    let d = c.in-Ok.ensures.mended history t held in
    inr (first_mended view c.args.self.now c.mend.new.self history d (λ between next. c.settle_sure.new.self ≡ with_spare between c.settle_sure.new.self.index.spare)
    c.in-Ok.ensures.sure c.in-Ok.ensures.flight (λ is. (c.mend.ensures.nothing is).0) c.mend.ensures.records c.mend.ensures.limits (c.mend.ensures.index t) (λ unsure. c.in-Ok.ensures.gone unsure t) (c.settle_sure.ensures.memory is))

pub returns-in-Ok-clause-doubted : goal.returns-in-Ok-clause-doubted
returns-in-Ok-clause-doubted g c count is history t held =
    let view = g.D.Disk.view in
    let d = c.in-Ok.ensures.mended history t held in
    inr (first_mended view c.args.self.now c.mend.new.self history d (λ between next. IsDoubted view between c.settle_sure.new.self next c.args.asks.items)
    c.in-Ok.ensures.sure c.in-Ok.ensures.flight (λ is. (c.mend.ensures.nothing is).0) c.mend.ensures.records c.mend.ensures.limits (c.mend.ensures.index t) (λ unsure. c.in-Ok.ensures.gone unsure t) (c.settle_sure.ensures.doubted count is d.0 (c.mend.ensures.goes_on.honest ∙ t) d.1.has))

pub returns-in-Ok-clause-others : goal.returns-in-Ok-clause-others
returns-in-Ok-clause-others g c =
    others_again (g.D.Disk.view c.args.self.now.disk) (g.D.Disk.view c.mend.new.self.disk) (g.D.Disk.view c.settle_sure.new.self.disk) c.mend.ensures.others c.settle_sure.ensures.others

pub returns-in-Err-Memory-clause-memory : goal.returns-in-Err-Memory-clause-memory
returns-in-Err-Memory-clause-memory g c is history t held =
    let d = c.mend.ensures.mended history t held in
    inl (record { was_unsure = c.in-Err-Memory.ensures.was_unsure; is_unsure = c.in-Err-Memory.ensures.unsure; next = d.0; mended = d.1; index = c.mend.ensures.index t })

pub returns-clause-doubted : goal.returns-clause-doubted
returns-clause-doubted g c count is history t held =
    let d = c.mend.ensures.mended history t held in
    inl (record { was_unsure = c.in-Err-Disk.ensures.was_unsure; is_unsure = c.in-Err-Disk.ensures.unsure; next = d.0; mended = d.1; index = c.mend.ensures.index t })

pub returns-in-Ok-clause-end : goal.returns-in-Ok-clause-end
returns-in-Ok-clause-end g c =
    if_ok c.settle_sure.result
    (λ settled. end_of c.settle_sure.new.self.index.entries ≡ end_of c.mend.new.self.index.entries + length settled.kept.items)
    (λ settled. (before : ℕ) × EndsWithFlight c.args.self.now before × (end_of c.settle_sure.new.self.index.entries ≡ before + length settled.kept.items))
    (λ settled is. (end_of c.mend.new.self.index.entries, c.mend.ensures.end, is))
    c.settle_sure.ensures.end

pub returns-in-Ok-clause-end_refused : goal.returns-in-Ok-clause-end_refused
returns-in-Ok-clause-end_refused g c =
    on_err_weaker c.settle_sure.result (HasSameIndex c.mend.new.self c.settle_sure.new.self) (EndsWithFlight c.args.self.now (end_of c.settle_sure.new.self.index.entries))
    (λ same. subst (EndsWithFlight c.args.self.now) (sym (ap end_of same.entries)) c.mend.ensures.end) c.settle_sure.ensures.same
