use Rattle.std.proofs.Common.{sym, ◌∙◌, ap, subst, arith, inl, refl}
use Rattle.disk_trait.specs.Disk.{Tells, Files, Lists}
use Rattle.history_files.proofs.SpareLemmas.{spares_again, spares_step, spares_look, fewer_step, gone_step, gone_again, seen_more, spare_gone, none_left, live_look, live_again, live_step, live_read, loses_look, loses_again, loses_step}
use Rattle.history_files.proofs.spare.remove_spares.Goals as goal

pub returns-in-Err-Memory-clause-spares : goal.returns-in-Err-Memory-clause-spares
returns-in-Err-Memory-clause-spares g c t =
    spares_look (g.D.Disk.view c.args.disk.now) (g.D.Disk.view c.files.new.self) _ (c.files.ensures.goes_on.honest ∙ t) c.files.ensures.looks.stays

pub returns-in-Err-Failed-clause-spares : goal.returns-in-Err-Failed-clause-spares
returns-in-Err-Failed-clause-spares g c t =
    spares_look (g.D.Disk.view c.args.disk.now) (g.D.Disk.view c.files.new.self) _ (c.files.ensures.goes_on.honest ∙ t) c.files.ensures.looks.stays

pub loop-name-init : goal.loop-name-init
loop-name-init g c = record {
  goes_on = c.files.ensures.goes_on;
  faults = c.in-Ok.ensures.quiet;
  spares = λ t. spares_look (g.D.Disk.view c.args.disk.now) (g.D.Disk.view c.files.new.self) _ (c.files.ensures.goes_on.honest ∙ t) c.files.ensures.looks.stays;
  others = live_look _ c.files.ensures.looks.stays;
  loses = loses_look _ c.files.ensures.looks.stays;
  others_read = λ t file live. ap (λ (f : Files). f file) c.files.ensures.looks.files;
  fewer = λ t file. inl (ap (λ (f : Files). f file) c.files.ensures.looks.files);
  seen = λ t k file below at spare. absurd (omega (arith, below));
}

pub returns-in_err-remove_spare-clause-spares : goal.returns-in_err-remove_spare-clause-spares
returns-in_err-remove_spare-clause-spares g c t =
    let i = c.loop-name.invariant in
    let t-mid : Tells (g.D.Disk.view c.loop-name.disk) = i.goes_on.honest ∙ t in
    spares_again _ (g.D.Disk.view c.loop-name.disk) (g.D.Disk.view c.remove_spare.new.disk) c.args.entries.now (i.spares t)
    (spares_step g.D.Disk.view c.loop-name.disk c.remove_spare.new.disk c.args.entries.now _ (c.remove_spare.ensures.goes_on.honest ∙ t-mid) c.remove_spare.ensures.step)

pub loop-name-preserved : goal.loop-name-preserved
loop-name-preserved g c =
    let i = c.loop-name.invariant in
    let old = g.D.Disk.view c.args.disk.now in
    let mid = g.D.Disk.view c.loop-name.disk in
    let new = g.D.Disk.view c.remove_spare.new.disk in
    record {
      goes_on = record { honest = c.remove_spare.ensures.goes_on.honest ∙ i.goes_on.honest; faults = omega (arith, c.remove_spare.ensures.goes_on.faults, i.goes_on.faults) };
      faults = c.in_ok-remove_spare.ensures.quiet ∙ i.faults;
      spares = λ t. let t-mid : Tells mid = i.goes_on.honest ∙ t in
          spares_again _ mid new c.args.entries.now (i.spares t)
          (spares_step g.D.Disk.view c.loop-name.disk c.remove_spare.new.disk c.args.entries.now _ (c.remove_spare.ensures.goes_on.honest ∙ t-mid) c.remove_spare.ensures.step);
      others = live_again c.args.entries.now i.others (live_step c.args.entries.now g.D.Disk.view c.loop-name.disk c.remove_spare.new.disk _ c.remove_spare.ensures.step);
      loses = loses_again c.args.entries.now i.loses (loses_step c.args.entries.now g.D.Disk.view c.loop-name.disk c.remove_spare.new.disk _ c.remove_spare.ensures.step);
      others_read = λ t file live. let t-mid : Tells mid = i.goes_on.honest ∙ t in
          live_read c.args.entries.now g.D.Disk.view c.loop-name.disk c.remove_spare.new.disk _ (c.in_ok-remove_spare.ensures.told t-mid) file live ∙ i.others_read t file live;
      fewer = λ t file. let t-mid : Tells mid = i.goes_on.honest ∙ t in
          gone_again (old.files file) (mid.files file) (new.files file) (i.fewer t file) (fewer_step g.D.Disk.view c.loop-name.disk c.remove_spare.new.disk c.args.entries.now _ (c.in_ok-remove_spare.ensures.told t-mid) file);
      seen = λ t. let t-mid : Tells mid = i.goes_on.honest ∙ t in
          seen_more c.deref-name-items.result.now c.args.entries.now c.loop-name.name-index _ _ mid.files new.files c.loop-name-test.true refl
          (fewer_step g.D.Disk.view c.loop-name.disk c.remove_spare.new.disk c.args.entries.now _ (c.in_ok-remove_spare.ensures.told t-mid))
          (gone_step g.D.Disk.view c.loop-name.disk c.remove_spare.new.disk c.args.entries.now _ (c.in_ok-remove_spare.ensures.told t-mid))
          (i.seen t);
    }

pub returns-clause-gone : goal.returns-clause-gone
returns-clause-gone g c t id spare =
    let i = c.loop-name.invariant in
    spare_gone c.deref-name-items.result.now c.args.entries.now (g.D.Disk.view c.args.disk.now).files (g.D.Disk.view c.loop-name.disk).files
    (subst (λ names. Lists names (g.D.Disk.view c.args.disk.now).files) (sym c.deref-name-items.ensures.value) (c.in-Ok.ensures.told t)) (i.fewer t)
    (λ k file within at spare. i.seen t k file (omega (arith, within, c.loop-name-test.false)) at spare) id spare

pub returns-clause-none : goal.returns-clause-none
returns-clause-none g c next t below =
    let i = c.loop-name.invariant in
    none_left c.deref-name-items.result.now c.args.entries.now (g.D.Disk.view c.args.disk.now).files (g.D.Disk.view c.loop-name.disk).files
    (subst (λ names. Lists names (g.D.Disk.view c.args.disk.now).files) (sym c.deref-name-items.ensures.value) (c.in-Ok.ensures.told t)) (i.fewer t)
    (λ k file within at spare. i.seen t k file (omega (arith, within, c.loop-name-test.false)) at spare) next below

pub returns-in-Err-Memory-clause-others : goal.returns-in-Err-Memory-clause-others
returns-in-Err-Memory-clause-others g c = live_look _ c.files.ensures.looks.stays

pub returns-in-Err-Failed-clause-others : goal.returns-in-Err-Failed-clause-others
returns-in-Err-Failed-clause-others g c = live_look _ c.files.ensures.looks.stays

pub returns-in_err-remove_spare-clause-others : goal.returns-in_err-remove_spare-clause-others
returns-in_err-remove_spare-clause-others g c =
    live_again c.args.entries.now c.loop-name.invariant.others (live_step c.args.entries.now g.D.Disk.view c.loop-name.disk c.remove_spare.new.disk _ c.remove_spare.ensures.step)

pub returns-in-Err-Memory-clause-loses : goal.returns-in-Err-Memory-clause-loses
returns-in-Err-Memory-clause-loses g c = loses_look _ c.files.ensures.looks.stays

pub returns-in-Err-Failed-clause-loses : goal.returns-in-Err-Failed-clause-loses
returns-in-Err-Failed-clause-loses g c = loses_look _ c.files.ensures.looks.stays

pub returns-in_err-remove_spare-clause-loses : goal.returns-in_err-remove_spare-clause-loses
returns-in_err-remove_spare-clause-loses g c =
    loses_again c.args.entries.now c.loop-name.invariant.loses (loses_step c.args.entries.now g.D.Disk.view c.loop-name.disk c.remove_spare.new.disk _ c.remove_spare.ensures.step)
