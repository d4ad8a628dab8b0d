use Rattle.std.proofs.Common.{ℕ, Err, arith, ap, sym, subst, ◌∙◌}
use Rattle.history_pass.proofs.MarkLemmas.{below_trans}
use Rattle.shared_store.specs.declared.cursor.Cursor.{Cursor}
use Rattle.query_reading.specs.declared.reading.ReadingFault.TheVariants as of_all
use Rattle.query_reading.proofs.FaultLemmas.{damaged_of, disk_of, same_fault}
use Rattle.query_reading.proofs.GatherLemmas.{HasRead, cursor_ends, cursor_found, cursor_moved, cursor_went_on, found_in_time, own_stays, read_bounded, read_more, read_whole}
use Rattle.query_reading.proofs.reading.read_all.Goals as goal

pub returns-in_err-part-clause-damaged : goal.returns-in_err-part-clause-damaged
returns-in_err-part-clause-damaged g c tells bounded within is =
    let damaged = damaged_of c.from_residual.result c.in_err-part.field-0.0 c.from_residual.ensures.1 is in
    let never = c.in_err-part.ensures.damaged damaged.0 (ap Err damaged.1) in
    absurd (never tells)

pub returns-in_err-part-clause-failed : goal.returns-in_err-part-clause-failed
returns-in_err-part-clause-failed g c count is =
    let disk = disk_of c.from_residual.result c.in_err-part.field-0.0 c.from_residual.ensures.1 count is in
    let told = c.in_err-part.ensures.failed count (ap Err disk) in
    let below = c.loop-part.invariant.below.faults in
    (omega (arith, told.0, below), told.1)

pub returns-in_err-total-clause-damaged : goal.returns-in_err-total-clause-damaged
returns-in_err-total-clause-damaged g c tells bounded within is =
    let so_far = c.loop-part.invariant in
    let old = c.loop-part.cursor in
    let new = c.next_part.new.cursor in
    let first = c.args.cursor.now in
    let list = c.args.pass.now.list in
    let part = c.in-Some.part in
    let next = cursor_went_on first old new part so_far.same g.J.Names.run.tells c.loop-part.pass.list c.in_ok-part.field-0 c.in-Some.is c.in_ok-part.ensures.part in
    let found = cursor_found first old new part so_far.same g.J.Names.run.tells list c.loop-part.pass.list so_far.below.list c.requires.fresh.until next tells in
    let room = read_bounded list first.ask old.at c.loop-part.total (λ asked. g.S.Gather.holds asked c.args.gathered.now) (λ asked. g.S.Gather.holds asked c.loop-part.gathered) (so_far.read tells) part found bounded in
    let damaged = same_fault c.from_residual-in_err-total.result c.in_err-total.field-0.0 of_all.Damaged c.from_residual-in_err-total.ensures.1 is in
    let over = c.in_err-total.ensures.damaged (ap Err damaged)
    (found_in_time list first.ask old.at (g.S.Gather.latest c.loop-part.gathered) part found (omega (arith, within, so_far.latest))) in
    absurd (omega (arith, room, over))

pub loop-part-preserved : goal.loop-part-preserved
loop-part-preserved g c =
    let so_far = c.loop-part.invariant in
    let old = c.loop-part.cursor in
    let new = c.next_part.new.cursor in
    let first = c.args.cursor.now in
    let list = c.args.pass.now.list in
    let part = c.in-Some.part in
    let next = cursor_went_on first old new part so_far.same g.J.Names.run.tells c.loop-part.pass.list c.in_ok-part.field-0 c.in-Some.is c.in_ok-part.ensures.part in
    let takes = c.in_ok-total.ensures in
    record {
      below = below_trans c.args.pass.now c.loop-part.pass c.next_part.new.pass so_far.below c.in_ok-part.ensures.below;
      on = c.in_ok-part.ensures.on;
      alone = c.in_ok-part.ensures.alone ∙ so_far.alone;
      own = λ was. own_stays (g.P.Profiles.alone c.args.profiles.now) (g.P.Profiles.alone c.loop-part.profiles) c.loop-part.pass.list c.next_part.new.pass.list so_far.alone c.in_ok-part.ensures.own (so_far.own was);
      same = cursor_moved first old new part so_far.same next.moves;
      held = takes.held;
      room = takes.total.1;
      latest = takes.same ∙ so_far.latest;
      read = λ tells.
          let found = cursor_found first old new part so_far.same g.J.Names.run.tells list c.loop-part.pass.list so_far.below.list c.requires.fresh.until next tells in
          subst (λ (n : ℕ). HasRead list first.ask n c.in_ok-total.total (λ asked. g.S.Gather.holds asked c.args.gathered.now) (λ asked. g.S.Gather.holds asked c.take_part.new.gathered))
          (sym (ap (λ (c : Cursor). c.at) next.moves))
          (read_more list first.ask old.at c.loop-part.total (λ asked. g.S.Gather.holds asked c.args.gathered.now) (λ asked. g.S.Gather.holds asked c.loop-part.gathered) (so_far.read tells) part found
          c.in_ok-total.total (λ asked. g.S.Gather.holds asked c.take_part.new.gathered) takes.total.0 takes.more);
    }

pub returns-clause-rows : goal.returns-clause-rows
returns-clause-rows g c asked profiles tells was =
    let so_far = c.loop-part.invariant in
    let old = c.loop-part.cursor in
    let first = c.args.cursor.now in
    let list = c.args.pass.now.list in
    let ended = cursor_ends first old c.next_part.new.cursor g.J.Names.run.tells list c.loop-part.pass.list c.in_ok-part.field-0 so_far.same c.requires.fresh.until c.in_default.is c.in_ok-part.ensures.part in
    read_whole list first.ask old.at c.loop-part.total (λ asked. g.S.Gather.holds asked c.args.gathered.now) (λ asked. g.S.Gather.holds asked c.loop-part.gathered) (so_far.read tells) ended asked profiles was
