use Rattle.std.proofs.Common.{sym, ◌∙◌, arith}
use Rattle.history_pass.proofs.StepLemmas.{gives}
use Rattle.history_pass.proofs.spine.Spine.new_pass.Goals as goal

pub split_seat-seat-requires : goal.split_seat-seat-requires
split_seat-seat-requires g c = let i = c.self.invariant.0 in (i.seat_is ∙ sym i.table_is, omega (arith, i.words_are), gives _ _)
