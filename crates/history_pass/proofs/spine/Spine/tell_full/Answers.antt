use Rattle.std.proofs.Common.{◌≤◌, sym, ap, ◌∙◌, arith}
use Rattle.history_pass.specs.declared.view.Mark.{Mark}
use Rattle.history_pass.proofs.StepLemmas.{tells_full}
use Rattle.history_pass.proofs.spine.Spine.tell_full.Goals as goal

pub store-requires : goal.store-requires
store-requires g c =
    let i = c.self.invariant.0 in
    let m = c.self.inside.seat.me.0.has in
    let more : m.full ≤ c.args.full = rw (ap (λ (x : Mark). x.full) c.self.view_is) c.requires in
    (i.seat_is ∙ sym i.table_is, omega (arith, i.words_are), tells_full _ _ _ c.self.inside.seat.me m i.me_is more)
