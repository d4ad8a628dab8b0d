use Rattle.std.proofs.Common.{◌≡◌, ◌≢◌, ⊎_elim, ◌+◌, ◌<◌, ◌^◌, ◌++◌, [], refl, ap, sym, ◌∙◌, subst, List, false, length, arith, Err}
use Rattle.std.proofs.Common.{vec_len}
use Rattle.std.specs.List.{All, list_any}
use Rattle.std.proofs.lemmas.Bool.{eqb-false, eqb-true}
use Rattle.std.proofs.lemmas.List.{nil_from_length}
use Rattle.metastore_index.specs.Entries.{end_of}
use Rattle.profile_model.specs.declared.push.Push.{Push}
use Rattle.tenant_books.specs.declared.asks.PushAsk.{PushAsk}
use Rattle.tenant_books.specs.Keeping.{is_kept_alone}
use Rattle.tenant_books.specs.Limits.{limit_of}
use Rattle.tenant_books.specs.Verdicts.{AreVerdicts}
use Rattle.tenant_books.proofs.KeptLemmas.{kept_all}
use Rattle.segment_file.specs.Laws.{IsLight}
use Rattle.store_core.specs.Store.{HasNumbers, Invariant, IsFull}
use Rattle.store_core.specs.Changes.{HasSameIndex}
use Rattle.store_core.proofs.SettleLemmas.{books_now, full_asks, full_for, full_records, has_numbers, has_room, long_now, settled_doubt, settled_none, settled_some, totals_now}
use Rattle.store_core.proofs.IndexLemmas.{ends_next}
use Rattle.store_core.proofs.store.Store.settle_sure.Goals as goal

pub returns-then-is_full_for-clause-full : goal.returns-then-is_full_for-clause-full
returns-then-is_full_for-clause-full g c records back is =
    let view = g.D.Disk.view in
    let now = c.args.self.now in
    let it = subst (λ s. Invariant (view s.disk) c.self.inside.journal s.index s.flight c.self.inside.books s.sure s.records) c.self.view_is c.self.invariant in
    let full : IsFull now = subst (λ s. IsFull s) c.self.view_is (c.is_full_for.ensures.full c.if-is_full_for.true) in (
      refl,
      full_records c.self.inside.records records c.args.asks back is ∙ ap (λ s. s.records) c.self.view_is,
      full_asks c.self.inside.records records c.args.asks back is,
      full,
      λ history t held. full_for view c.self.inside.journal now c.self.inside.books it c.requires.sure history t held c.args.asks.items full
          (λ verdicts last judged. c.is_full_for.ensures.some c.if-is_full_for.true history verdicts last (books_now view c.self.inside.journal now c.self.inside.books it c.requires.sure history t held)
          (subst (λ (l : List PushAsk). AreVerdicts (limit_of c.self.inside.limits) history l verdicts last) (sym c.deref.ensures.value)
          (subst (λ limits. AreVerdicts (limit_of limits) history c.args.asks.items verdicts last) (sym (ap (λ s. s.limits) c.self.view_is)) judged))),
    )

pub returns-then-is_empty-clause-settled : goal.returns-then-is_empty-clause-settled
returns-then-is_empty-clause-settled g c history t held =
    let view = g.D.Disk.view in
    let now = c.args.self.now in
    let it = subst (λ s. Invariant (view s.disk) c.self.inside.journal s.index s.flight c.self.inside.books s.sure s.records) c.self.view_is c.self.invariant in
    let same = eqb-true (vec_len c.in-Ok.judged.kept) 0 (sym c.is_empty.ensures ∙ c.if-is_empty.true) in
    let none : c.in-Ok.judged.kept.items ≡ [] = nil_from_length c.in-Ok.judged.kept.items (omega (arith, same, c.in-Ok.judged.kept.ok.0)) in
    let end = long_now view c.self.inside.journal now c.self.inside.books it c.requires.sure history t held in
    let long = end ∙ sym (c.end.ensures ∙ ap (λ s. end_of s.index.entries) c.self.view_is) in
    let few : c.end.result + length c.in-Ok.judged.kept.items < 2 ^ 63 = omega (arith, long, end, it.short, ap length none) in
    settled_none view c.self.inside.journal now c.self.inside.books it c.requires.sure history t held c.args.asks.items c.in-Ok.judged.verdicts.items c.in-Ok.judged.kept.items c.in-Ok.ensures.kept
    (subst (λ limits. AreVerdicts (limit_of limits) history c.args.asks.items c.in-Ok.judged.verdicts.items (history ++ c.in-Ok.judged.kept.items)) (ap (λ s. s.limits) c.self.view_is)
    (c.in-Ok.ensures.verdicts history (books_now view c.self.inside.journal now c.self.inside.books it c.requires.sure history t held) (totals_now view c.self.inside.journal now c.self.inside.books it c.requires.sure history t held) long few))
    none

pub returns-then-is_empty-clause-end : goal.returns-then-is_empty-clause-end
returns-then-is_empty-clause-end g c =
    let same = eqb-true (vec_len c.in-Ok.judged.kept) 0 (sym c.is_empty.ensures ∙ c.if-is_empty.true) in
    omega (arith, same, c.in-Ok.judged.kept.ok.0, ap (λ s. end_of s.index.entries) c.self.view_is)

pub settle_kept-requires-clause-numbers : goal.settle_kept-requires-clause-numbers
settle_kept-requires-clause-numbers g c =
    let now = c.args.self.now in
    let apart = eqb-false (vec_len c.in-Ok.judged.kept) 0 (sym c.is_empty.ensures ∙ c.if-is_empty.false) in
    let some : c.in-Ok.judged.kept.items ≢ [] = λ none. apart (c.in-Ok.judged.kept.ok.0 ∙ ap length none) in
    let not_full : ¬ (IsFull now) = ⊎_elim
    (λ no. subst (λ s. ¬ (IsFull s)) c.self.view_is no)
    (λ none. absurd (some (c.in-Ok.ensures.none (subst (λ (l : List PushAsk). list_any (is_kept_alone c.self.inside.books c.self.inside.limits) l ≡ false) c.deref.ensures.value none))))
    (c.is_full_for.ensures.no c.if-is_full_for.false) in
    has_numbers now not_full

pub settle_kept-requires-clause-room : goal.settle_kept-requires-clause-room
settle_kept-requires-clause-room g c =
    let now = c.args.self.now in
    let apart = eqb-false (vec_len c.in-Ok.judged.kept) 0 (sym c.is_empty.ensures ∙ c.if-is_empty.false) in
    let some : c.in-Ok.judged.kept.items ≢ [] = λ none. apart (c.in-Ok.judged.kept.ok.0 ∙ ap length none) in
    let not_full : ¬ (IsFull now) = ⊎_elim
    (λ no. subst (λ s. ¬ (IsFull s)) c.self.view_is no)
    (λ none. absurd (some (c.in-Ok.ensures.none (subst (λ (l : List PushAsk). list_any (is_kept_alone c.self.inside.books c.self.inside.limits) l ≡ false) c.deref.ensures.value none))))
    (c.is_full_for.ensures.no c.if-is_full_for.false) in
    has_room now not_full

pub settle_kept-requires-clause-light : goal.settle_kept-requires-clause-light
settle_kept-requires-clause-light g c =
    subst (λ (l : List Push). All IsLight l) (sym c.in-Ok.ensures.kept) (kept_all IsLight c.args.asks.items c.in-Ok.judged.verdicts.items c.requires.light)

pub settle_kept-requires-clause-totals : goal.settle_kept-requires-clause-totals
settle_kept-requires-clause-totals g c history t held =
    let view = g.D.Disk.view in
    let now = c.args.self.now in
    let it = subst (λ s. Invariant (view s.disk) c.self.inside.journal s.index s.flight c.self.inside.books s.sure s.records) c.self.view_is c.self.invariant in
    let apart = eqb-false (vec_len c.in-Ok.judged.kept) 0 (sym c.is_empty.ensures ∙ c.if-is_empty.false) in
    let some : c.in-Ok.judged.kept.items ≢ [] = λ none. apart (c.in-Ok.judged.kept.ok.0 ∙ ap length none) in
    let not_full : ¬ (IsFull now) = ⊎_elim
    (λ no. subst (λ s. ¬ (IsFull s)) c.self.view_is no)
    (λ none. absurd (some (c.in-Ok.ensures.none (subst (λ (l : List PushAsk). list_any (is_kept_alone c.self.inside.books c.self.inside.limits) l ≡ false) c.deref.ensures.value none))))
    (c.is_full_for.ensures.no c.if-is_full_for.false) in
    let numbers = has_numbers now not_full in
    let end = long_now view c.self.inside.journal now c.self.inside.books it c.requires.sure history t held in
    let long = end ∙ sym (c.end.ensures ∙ ap (λ s. end_of s.index.entries) c.self.view_is) in
    let few : c.end.result + length c.in-Ok.judged.kept.items < 2 ^ 63 = omega (arith, long, end, numbers.pushes, c.in-Ok.ensures.few, c.requires.few) in
    c.in-Ok.ensures.bounded history (books_now view c.self.inside.journal now c.self.inside.books it c.requires.sure history t held) (totals_now view c.self.inside.journal now c.self.inside.books it c.requires.sure history t held) long few

pub returns-in-Ok-settle_kept-clause-settled : goal.returns-in-Ok-settle_kept-clause-settled
returns-in-Ok-settle_kept-clause-settled g c history t held =
    let view = g.D.Disk.view in
    let now = c.args.self.now in
    let it = subst (λ s. Invariant (view s.disk) c.self.inside.journal s.index s.flight c.self.inside.books s.sure s.records) c.self.view_is c.self.invariant in
    let apart = eqb-false (vec_len c.in-Ok.judged.kept) 0 (sym c.is_empty.ensures ∙ c.if-is_empty.false) in
    let some : c.in-Ok.judged.kept.items ≢ [] = λ none. apart (c.in-Ok.judged.kept.ok.0 ∙ ap length none) in
    let not_full : ¬ (IsFull now) = ⊎_elim
    (λ no. subst (λ s. ¬ (IsFull s)) c.self.view_is no)
    (λ none. absurd (some (c.in-Ok.ensures.none (subst (λ (l : List PushAsk). list_any (is_kept_alone c.self.inside.books c.self.inside.limits) l ≡ false) c.deref.ensures.value none))))
    (c.is_full_for.ensures.no c.if-is_full_for.false) in
    let numbers = has_numbers now not_full in
    let end = long_now view c.self.inside.journal now c.self.inside.books it c.requires.sure history t held in
    let long = end ∙ sym (c.end.ensures ∙ ap (λ s. end_of s.index.entries) c.self.view_is) in
    let few : c.end.result + length c.in-Ok.judged.kept.items < 2 ^ 63 = omega (arith, long, end, numbers.pushes, c.in-Ok.ensures.few, c.requires.few) in
    settled_some view c.self.inside.journal now c.self.inside.books it c.requires.sure history t held c.args.asks.items c.in-Ok.judged.verdicts.items c.in-Ok.judged.kept.items c.in-Ok.ensures.kept
    (subst (λ limits. AreVerdicts (limit_of limits) history c.args.asks.items c.in-Ok.judged.verdicts.items (history ++ c.in-Ok.judged.kept.items)) (ap (λ s. s.limits) c.self.view_is)
    (c.in-Ok.ensures.verdicts history (books_now view c.self.inside.journal now c.self.inside.books it c.requires.sure history t held) (totals_now view c.self.inside.journal now c.self.inside.books it c.requires.sure history t held) long few))
    c.settle_kept.new.self not_full c.in-Ok-settle_kept.ensures.one_more (c.in-Ok-settle_kept.ensures.added history t held) (c.in-Ok-settle_kept.ensures.others_read t) c.settle_kept.ensures.others_at_each_moment

pub returns-in-Ok-settle_kept-clause-kept : goal.returns-in-Ok-settle_kept-clause-kept
returns-in-Ok-settle_kept-clause-kept g c = c.in-Ok-settle_kept.ensures.given ∙ c.in-Ok.ensures.kept

pub returns-in-Ok-settle_kept-clause-end : goal.returns-in-Ok-settle_kept-clause-end
returns-in-Ok-settle_kept-clause-end g c =
    let one = c.in-Ok-settle_kept.ensures.one_more in
    ends_next c.args.self.now c.settle_kept.new.self c.in-Ok.judged.kept.items one.0 one.1 one.2
    ∙ ap (λ (l : List Push). end_of c.args.self.now.index.entries + length l) (sym c.in-Ok-settle_kept.ensures.given)

pub returns-clause-doubted : goal.returns-clause-doubted
returns-clause-doubted g c count is history t held =
    let view = g.D.Disk.view in
    let now = c.args.self.now in
    let it = subst (λ s. Invariant (view s.disk) c.self.inside.journal s.index s.flight c.self.inside.books s.sure s.records) c.self.view_is c.self.invariant in
    let apart = eqb-false (vec_len c.in-Ok.judged.kept) 0 (sym c.is_empty.ensures ∙ c.if-is_empty.false) in
    let some : c.in-Ok.judged.kept.items ≢ [] = λ none. apart (c.in-Ok.judged.kept.ok.0 ∙ ap length none) in
    let not_full : ¬ (IsFull now) = ⊎_elim
    (λ no. subst (λ s. ¬ (IsFull s)) c.self.view_is no)
    (λ none. absurd (some (c.in-Ok.ensures.none (subst (λ (l : List PushAsk). list_any (is_kept_alone c.self.inside.books c.self.inside.limits) l ≡ false) c.deref.ensures.value none))))
    (c.is_full_for.ensures.no c.if-is_full_for.false) in
    let numbers = has_numbers now not_full in
    let end = long_now view c.self.inside.journal now c.self.inside.books it c.requires.sure history t held in
    let long = end ∙ sym (c.end.ensures ∙ ap (λ s. end_of s.index.entries) c.self.view_is) in
    let few : c.end.result + length c.in-Ok.judged.kept.items < 2 ^ 63 = omega (arith, long, end, numbers.pushes, c.in-Ok.ensures.few, c.requires.few) in
    settled_doubt view c.self.inside.journal now c.self.inside.books it c.requires.sure history t held c.args.asks.items c.in-Ok.judged.verdicts.items c.in-Ok.judged.kept.items c.in-Ok.ensures.kept
    (subst (λ limits. AreVerdicts (limit_of limits) history c.args.asks.items c.in-Ok.judged.verdicts.items (history ++ c.in-Ok.judged.kept.items)) (ap (λ s. s.limits) c.self.view_is)
    (c.in-Ok.ensures.verdicts history (books_now view c.self.inside.journal now c.self.inside.books it c.requires.sure history t held) (totals_now view c.self.inside.journal now c.self.inside.books it c.requires.sure history t held) long few))
    c.settle_kept.new.self not_full some c.in-Err-Disk.ensures.same (c.in-Err-Disk.ensures.not_added history t held (ap Err c.in-Err-Disk.field-0-is))
    (c.in-Err-Disk.ensures.flight (ap Err c.in-Err-Disk.field-0-is)) c.settle_kept.ensures.others_at_each_moment
