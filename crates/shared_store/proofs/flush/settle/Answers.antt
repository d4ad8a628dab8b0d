use Rattle.std.proofs.Common.{inl, inr, ℕ, List, Err, Result, replicate, refl, ap, sym, subst, ◌∙◌}
use Rattle.std.specs.List.{All}
use Rattle.history_pass.specs.declared.view.Mark.{Mark}
use Rattle.store_core.specs.Store.{Mends}
use Rattle.tenant_books.specs.declared.asks.PushAsk.{PushAsk}
use Rattle.tenant_books.specs.declared.verdict.Verdict.{Verdict}
use Rattle.shared_store.specs.declared.refusal.Refusal.{Refusal}
use Rattle.shared_store.specs.declared.refusal.Refusal.TheVariants.{Disk, Memory}
use Rattle.shared_store.specs.Holds.{IsAtEnd}
use Rattle.shared_store.specs.Settled.{AreSettled}
use Rattle.shared_store.specs.Flushes.{AreAnswers, HasFailed}
use Rattle.shared_store.proofs.FlushLemmas.{disk_failed, failed_since, memory_failed, refused_failed, refused_not_full, verdicts_failed, verdicts_not_full}
use Rattle.shared_store.proofs.flush.settle.Goals as goal
use Rattle.shared_store.proofs.flush.settle.Goals.{in-Ok, in-Err-Memory, in-Err-Disk, in-Err-Full}

pub returns-clause-found_full : goal.returns-clause-found_full
returns-clause-found_full g c t any = elim c.match-settle_asks.branch [
  | in-Ok w ↦ absurd (verdicts_not_full w.in-Ok.verdicts.items c.match-settle_asks.told.items (ap (λ v. v.items) w.told-is ∙ w.tell_verdicts.ensures) any)
  | in-Err-Memory w ↦ absurd (refused_not_full c.len-count.result (Err Memory) c.match-settle_asks.told.items refl (ap (λ v. v.items) w.told-is ∙ w.tell_refusal.ensures) any)
  | in-Err-Disk w ↦ absurd (refused_not_full c.len-count.result (Err (Disk w.in-Err-Disk.faults)) c.match-settle_asks.told.items refl (ap (λ v. v.items) w.told-is ∙ w.tell_refusal-in-Err-Disk.ensures) any)
  | in-Err-Full w ↦ subst (λ s. IsAtEnd s) (sym w.store-is) (w.settle_each.ensures.at_end t)
]

pub returns-clause-failed : goal.returns-clause-failed
returns-clause-failed g c =
    let view = g.D.Disk.view in
    let before = (view c.args.store.now.disk).faults in
    let between = (view c.settle_asks.new.store.disk).faults in
    let now = (view c.match-settle_asks.store.disk).faults in
    let told = c.match-settle_asks.told.items in
    elim c.match-settle_asks.branch [
      | in-Ok w ↦ verdicts_failed before now w.in-Ok.verdicts.items told (ap (λ v. v.items) w.told-is ∙ w.tell_verdicts.ensures)
      | in-Err-Memory w ↦ refused_failed before now c.len-count.result (Err Memory) told (memory_failed before now) (ap (λ v. v.items) w.told-is ∙ w.tell_refusal.ensures)
      | in-Err-Disk w ↦
          let failed = w.in-Err-Disk.ensures.failed w.in-Err-Disk.faults (ap Err w.in-Err-Disk.field-0-is) in
          refused_failed before now c.len-count.result (Err (Disk w.in-Err-Disk.faults)) told
          (disk_failed before now w.in-Err-Disk.faults (failed.0 ∙ ap (λ s. (view s.disk).faults) (sym w.store-is), failed.1))
          (ap (λ v. v.items) w.told-is ∙ w.tell_refusal-in-Err-Disk.ensures)
      | in-Err-Full w ↦
          let each = failed_since before between (view w.settle_each.new.store.disk).faults w.settle_each.new.told.items w.in-Err-Full.ensures.goes_on.faults w.settle_each.ensures.failed in
          subst (λ (n : ℕ). All (HasFailed before n) told) (ap (λ s. (view s.disk).faults) (sym w.store-is))
          (subst (λ (l : List (Result Verdict Refusal)). All (HasFailed before (view w.settle_each.new.store.disk).faults) l) (ap (λ v. v.items) (sym w.told-is)) each)
    ]

pub returns-clause-told : goal.returns-clause-told
returns-clause-told g c =
    let run = g.J.Names.run in
    let flight = c.args.store.now.flight in
    let old = c.args.spine.now.list in
    let asks = c.args.asks.items in
    let told = c.match-settle_asks.told.items in
    let mid = c.settle_asks.new.spine.list in
    let long = c.len-count.ensures ∙ c.args.asks.ok.0 in
    elim c.match-settle_asks.branch [
      | in-Ok w ↦ inl (record {
        verdicts = w.in-Ok.verdicts.items;
        told_is = ap (λ v. v.items) w.told-is ∙ w.tell_verdicts.ensures;
        settled = subst (λ (m : Mark). AreSettled run flight old asks w.in-Ok.verdicts.items m.list) (sym w.spine-is) w.in-Ok.ensures.settled;
      })
      | in-Err-Memory w ↦ inr (inl (record {
        cause = Memory;
        other = inl refl;
        told_is = ap (λ v. v.items) w.told-is ∙ w.tell_refusal.ensures ∙ ap (λ (n : ℕ). replicate n (Err Memory)) long;
        mends = subst (λ (m : Mark). Mends old flight m.list) (sym w.spine-is) w.in-Err-Memory.ensures.mends;
      }))
      | in-Err-Disk w ↦ inr (inl (record {
        cause = Disk w.in-Err-Disk.faults;
        other = inr (w.in-Err-Disk.faults, refl);
        told_is = ap (λ v. v.items) w.told-is ∙ w.tell_refusal-in-Err-Disk.ensures ∙ ap (λ (n : ℕ). replicate n (Err (Disk w.in-Err-Disk.faults))) long;
        mends = subst (λ (m : Mark). Mends old flight m.list) (sym w.spine-is) w.in-Err-Disk.ensures.mends;
      }))
      | in-Err-Full w ↦
          let is = ap Err w.in-Err-Full.field-0-is in
          let same = w.in-Err-Full.ensures.back w.in-Err-Full.field-0-0 w.in-Err-Full.asks is in
          inr (inr (record {
            mid = mid;
            mends = w.in-Err-Full.ensures.mends;
            some = (w.in-Err-Full.ensures.full w.in-Err-Full.field-0-0 w.in-Err-Full.asks is).1;
            answers = subst (λ (m : Mark). AreAnswers run mid asks told m.list) (sym w.spine-is)
                (subst (λ (l : List (Result Verdict Refusal)). AreAnswers run mid asks l w.settle_each.new.spine.list) (ap (λ v. v.items) (sym w.told-is))
                (subst (λ (l : List PushAsk). AreAnswers run mid l w.settle_each.new.told.items w.settle_each.new.spine.list) (ap (λ v. v.items) same) w.settle_each.ensures.answers));
            none = λ t. ap (λ (m : Mark). m.list) w.spine-is ∙ w.settle_each.ensures.none t;
          }))
    ]
