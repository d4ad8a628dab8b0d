use Rattle.std.proofs.Common.{◌≡◌, ℕ, [], sym, ap, ◌∙◌, arith}
use Rattle.atomic_table.specs.Table.{Me}
use Rattle.history_pass.specs.declared.view.View.{View}
use Rattle.history_pass.specs.Views.{spine_at, with_older}
use Rattle.history_pass.proofs.StepLemmas.{takes_in, learns}
use Rattle.history_pass.proofs.spine.Spine.take_in.Goals as goal

pub join_seat-requires : goal.join_seat-requires
join_seat-requires g c =
    let i = c.self.invariant.0 in
    let p = c.old.invariant.0 in
    (i.seat_is ∙ sym i.table_is, p.seat_is ∙ sym i.table_is, ap (λ x. x.1) p.me_is, omega (arith, i.words_are), takes_in _ _ _ _ (ap (λ x. x.0.is_spine) i.me_is))

pub load-requires : goal.load-requires
load-requires g c =
    let i = c.self.invariant.0 in
    let j = c.join_seat.ensures in
    let older = c.old.inside.seat.me.0.has in
    let joined : c.join_seat.new.seat.me ≡ (with_older (spine_at c.self.inside.seat.me.0.has) older, []) =
    ◌∙◌ {A = Me ℕ View} j.2 (ap (λ (x : Me ℕ View). (with_older x.0 older, x.1)) i.me_is) in
    (j.0 ∙ i.seat_is ∙ sym i.table_is, omega (arith, i.words_are), learns _ _ _ c.self.inside.seat.me.0.has older joined)
