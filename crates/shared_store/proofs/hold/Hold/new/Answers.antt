use Rattle.std.proofs.Common.{ℕ, ap, ◌∙◌, arith}
use Rattle.history_pass.specs.declared.view.Mark.{Mark}
use Rattle.history_pass.specs.Marks.{mark}
use Rattle.shared_store.proofs.TieLemmas.{new_hold}
use Rattle.shared_store.proofs.hold.Hold.new.Goals as goal

pub open-spine-requires-clause-room : goal.open-spine-requires-clause-room
open-spine-requires-clause-room g c = omega (arith, c.requires.long, c.len.ensures.end, c.len.ensures.small)

pub invariant_of-result : goal.invariant_of-result
invariant_of-result g c =
    let run = g.J.Names.run in
    new_hold run (g.D.Disk.view c.args.store.disk) c.args.store c.tell.new.self c.requires.tells c.requires.records c.requires.limits c.requires.long c.requires.keeps
    (c.tell.ensures ∙ (ap (λ (m : Mark). mark m.list c.faults.result 0) c.open-spine.ensures ∙ ap (λ (n : ℕ). mark run.start.history n 0) c.faults.ensures))
