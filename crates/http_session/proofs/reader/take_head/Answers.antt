use Rattle.std.proofs.Common.{◌≡◌, subst, arith, [], Ok, Err, List, ℕ}
use Rattle.httparse.specs.declared.spans.RequestSpans.{RequestSpans}
use Rattle.link_trait.specs.Link.{Goes}
use Rattle.http_session.specs.Pulled.{Pulled, FillStep}
use Rattle.http_session.specs.Heads.{IsHeadTooLarge, IsUnfinished}
use Rattle.http_session.specs.Steps.{HeadStep, StopsAt}
use Rattle.link_trait.proofs.GoesLemmas.{goes_weaker, goes_then}
use Rattle.http_session.proofs.ReaderLemmas.{failed, stopped}
use Rattle.http_session.specs.declared.reader.Stop.TheVariants as stop
use Rattle.http_session.proofs.reader.take_head.Goals as goal

pub returns-in-TooLarge-clause-told : goal.returns-in-TooLarge-clause-told
returns-in-TooLarge-clause-told g c =
    let bad : IsHeadTooLarge c.loop-spans.buffer = subst IsHeadTooLarge c.held.ensures.value c.in-TooLarge.ensures in
    goes_weaker (Pulled c.args.buffer.now c.loop-spans.buffer) _ _ _ (λ before now pulled. (pulled, (bad, λ same. cc))) c.loop-spans.invariant.told

pub returns-in-Ok-eq0-clause-fault : goal.returns-in-Ok-eq0-clause-fault
returns-in-Ok-eq0-clause-fault g c = c.unfinished.ensures.fault _ _

pub returns-in-Ok-eq0-clause-told : goal.returns-in-Ok-eq0-clause-told
returns-in-Ok-eq0-clause-told g c =
    let held = c.loop-spans.buffer in
    let new = c.fill.new.self in
    let open_ : IsUnfinished held = subst IsUnfinished c.held.ensures.value c.in-Unfinished.ensures in
    let zero : c.in-Ok-eq0.field-0 ≡ 0 = omega arith in
    let P : ℕ → Type 0 = λ n. Goes (FillStep (Ok n) held new) (g.L.Link.told c.loop-spans.link) (g.L.Link.told c.fill.new.link) in
    let fill : P 0 = subst P zero c.in-Ok-eq0.ensures.told in
    goes_then (Pulled c.args.buffer.now held) (FillStep (Ok 0) held new) (HeadStep {T = RequestSpans} (Err c.unfinished.result) c.args.buffer.now new) _ _ _
    (λ a b d. stopped RequestSpans c.args.buffer.now held new c.unfinished.result a b d open_ (λ now. let P : List ℕ → Type 0 = λ xs. IsUnfinished xs → now.to_come ≡ [] → StopsAt xs now c.unfinished.result in subst P c.held-in-Ok-eq0.ensures.value (c.unfinished.ensures.stops now)))
    c.loop-spans.invariant.told fill

pub returns-in-Err-clause-told : goal.returns-in-Err-clause-told
returns-in-Err-clause-told g c =
    let held = c.loop-spans.buffer in
    let new = c.fill.new.self in
    let open_ : IsUnfinished held = subst IsUnfinished c.held.ensures.value c.in-Unfinished.ensures in
    goes_then (Pulled c.args.buffer.now held) (FillStep (Err c.in-Err.field-0) held new) (HeadStep {T = RequestSpans} (Err (stop.LinkFault c.faults.result)) c.args.buffer.now new) _ _ _
    (λ a b d. failed RequestSpans c.args.buffer.now held new c.faults.result c.in-Err.field-0 a b d open_ c.in-Err.ensures.kept) c.loop-spans.invariant.told c.in-Err.ensures.told
