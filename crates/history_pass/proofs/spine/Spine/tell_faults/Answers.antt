use Rattle.std.proofs.Common.{◌≤◌, sym, ap, ◌∙◌, arith}
use Rattle.history_pass.specs.declared.view.Mark.{Mark}
use Rattle.history_pass.proofs.StepLemmas.{tells_faults}
use Rattle.history_pass.proofs.spine.Spine.tell_faults.Goals as goal

pub store-requires : goal.store-requires
store-requires g c =
    let i = c.self.invariant.0 in
    let m = c.self.inside.seat.me.0.has in
    let more : m.faults ≤ c.args.faults = rw (ap (λ (x : Mark). x.faults) c.self.view_is) c.requires in
    (i.seat_is ∙ sym i.table_is, omega (arith, i.words_are), tells_faults _ _ _ c.self.inside.seat.me m i.me_is more)
