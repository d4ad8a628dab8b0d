use Rattle.std.proofs.Common.{ℕ, ap, sym, subst, ◌∙◌}
use Rattle.history_pass.specs.declared.view.Mark.{Mark}
use Rattle.history_pass.specs.Marks.{mark}
use Rattle.segment_file.specs.Parts.{PartView}
use Rattle.shared_store.specs.Cursors.{IsNextPart}
use Rattle.shared_store.proofs.CursorLemmas.{is_next_part}
use Rattle.shared_store.proofs.TieLemmas.{read_hold}
use Rattle.shared_store.proofs.hold.Hold.next_part.Goals as goal
use Rattle.shared_store.proofs.hold.Hold.next_part.Goals.{in-Ok, in-Err}

pub invariant_of-self : goal.invariant_of-self
invariant_of-self g c =
    let old = c.self.inside in
    let read = c.read_part-read in
    let same = c.meet.ensures.unchanged in
    read_hold g.J.Names.run (g.D.Disk.view old.store.disk) (g.D.Disk.view read.new.self.disk) old.store read.new.self read.new.self.disk old.spine c.meet-2.new.self c.self.invariant read.ensures.same
    (c.meet-2.ensures.unchanged ∙ (c.tell.ensures ∙ (ap (λ (m : Mark). mark m.list c.faults.result c.full.result) same
    ∙ (ap (λ (n : ℕ). mark old.spine.list n c.full.result) c.faults.ensures
    ∙ ap (λ (n : ℕ). mark old.spine.list (g.D.Disk.view read.new.self.disk).faults n) (c.full.ensures ∙ ap (λ (m : Mark). m.full) same)))))
    read.ensures.goes_on read.ensures.keeps

pub returns-clause-part : goal.returns-clause-part
returns-clause-part g c = elim c.match-read.branch [
  | in-Ok w ↦
      let tied = c.self.invariant.tied in
      let found = w.in-Ok.ensures in
      let cursor = c.args.cursor.now in
      rw (w.result-is, w.cursor-is)
      (subst (λ (n : ℕ). IsNextPart g.J.Names.run.tells c.args.pass.now.list cursor (record cursor { at = n }) w.in-Ok.part) (sym (ap (λ (p : PartView). p.until) w.part.view_is))
      (is_next_part g.J.Names.run.tells c.args.pass.now.list c.self.inside.spine.list cursor c.self.inside.store.index.entries w.in-Ok.part c.requires c.if-cursor.false c.meet.ensures.meets.0.list found.from found.until
      (λ t. found.part c.self.inside.spine.list (tied.tells t) (tied.kept t).keeps.has)))
  | in-Err w ↦ rw w.result-is tt
]
