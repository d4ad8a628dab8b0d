use Rattle.std.proofs.Common.{◌≡◌, ◌++◌, length, sym, ◌∙◌, arith}
use Rattle.history_pass.proofs.StepLemmas.{extends}
use Rattle.history_pass.proofs.spine.Spine.extend_by.Goals as goal

pub store-requires : goal.store-requires
store-requires g c =
    let i = c.self.invariant.0 in
    let m = c.self.inside.seat.me.0.has in
    let count : c.count_with-count.result ≡ length (m.list ++ g.X.Adding.list) = rw (c.self.view_is, sym c.requires.adds) c.count_with-count.ensures in
    (i.seat_is ∙ sym i.table_is, omega (arith, i.words_are), extends _ _ _ c.self.inside.seat.me m g.X.Adding.list i.me_is count)
