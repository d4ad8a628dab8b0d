use Rattle.std.proofs.Common.{ap, ◌∙◌, Err}
use Rattle.disk_trait.specs.Disk.{Tells}
use Rattle.disk_trait.proofs.Steps.{widen}
use Rattle.gate_journal.specs.Journal.{JournalView}
use Rattle.history_files.proofs.RestLemmas.{besides_both, staged_leads, staged_rests, committed_leads, flies, commits}
use Rattle.history_files.proofs.writing.commit.Goals as goal

pub returns-in_err-write_through-clause-object : goal.returns-in_err-write_through-clause-object
returns-in_err-write_through-clause-object g c index later history added t it is =
    let mid = g.D.Disk.view c.write_through.new.disk in
    let t-mid : Tells mid = c.write_through.ensures.goes_on.honest ∙ t in
    staged_rests _ _ index later _ _ history added it mid t-mid c.write_through.ensures.leads

pub returns-in_err-write_through-clause-any_moment : goal.returns-in_err-write_through-clause-any_moment
returns-in_err-write_through-clause-any_moment g c index later history added t it =
    staged_leads _ _ index later _ _ history added it _ c.write_through.ensures.leads

pub returns-in-Ok-clause-ok : goal.returns-in-Ok-clause-ok
returns-in-Ok-clause-ok g c index later history added t it =
    let mid = g.D.Disk.view c.write_through.new.disk in
    let t-mid : Tells mid = c.write_through.ensures.goes_on.honest ∙ t in
    let done = c.in-Ok.ensures.settled t-mid in
    let is = c.in-Ok.ensures.ok in
    commits _ _ index later _ _ history added it mid c.write_through.ensures.leads t-mid (c.requires.fresh t) (c.in_ok-write_through.ensures.told t) (c.in_ok-write_through.ensures.durable t)
    _ c.record_of-body.ensures _ c.requires.room (c.append.ensures.any_moment t-mid)
    _ (ap (λ (j : JournalView). j.file) is) (ap (λ (j : JournalView). j.limit) is) (ap (λ (j : JournalView). j.count) is) done.0 done.1

pub returns-in-Ok-clause-any_moment : goal.returns-in-Ok-clause-any_moment
returns-in-Ok-clause-any_moment g c index later history added t it =
    let mid = g.D.Disk.view c.write_through.new.disk in
    let t-mid : Tells mid = c.write_through.ensures.goes_on.honest ∙ t in
    committed_leads _ _ index later _ _ history added it mid c.write_through.ensures.leads t-mid (c.requires.fresh t) (c.in_ok-write_through.ensures.told t) (c.in_ok-write_through.ensures.durable t)
    _ c.record_of-body.ensures _ c.requires.room (c.append.ensures.any_moment t-mid)

pub returns-in-Err-Disk-clause-any_moment : goal.returns-in-Err-Disk-clause-any_moment
returns-in-Err-Disk-clause-any_moment g c index later history added t it =
    let mid = g.D.Disk.view c.write_through.new.disk in
    let t-mid : Tells mid = c.write_through.ensures.goes_on.honest ∙ t in
    committed_leads _ _ index later _ _ history added it mid c.write_through.ensures.leads t-mid (c.requires.fresh t) (c.in_ok-write_through.ensures.told t) (c.in_ok-write_through.ensures.durable t)
    _ c.record_of-body.ensures _ c.requires.room (c.append.ensures.any_moment t-mid)

pub returns-in-Err-Disk-clause-append : goal.returns-in-Err-Disk-clause-append
returns-in-Err-Disk-clause-append g c index later history added t it _ =
    let mid = g.D.Disk.view c.write_through.new.disk in
    let t-mid : Tells mid = c.write_through.ensures.goes_on.honest ∙ t in
    let is = c.in-Err-Disk.ensures.unsure (ap Err c.in-Err-Disk.field-0-is) in
    let done = c.in-Err-Disk.ensures.unsettled t-mid (ap Err c.in-Err-Disk.field-0-is) in
    flies _ _ index later _ _ history added it mid c.write_through.ensures.leads t-mid (c.requires.fresh t) (c.in_ok-write_through.ensures.told t) (c.in_ok-write_through.ensures.durable t)
    _ c.record_of-body.ensures _ c.requires.room (c.append.ensures.any_moment t-mid)
    _ (ap (λ (j : JournalView). j.file) is) (ap (λ (j : JournalView). j.limit) is) (ap (λ (j : JournalView). j.count) is) done.0 done.1

pub returns-in_err-write_through-clause-others_at_each_moment : goal.returns-in_err-write_through-clause-others_at_each_moment
returns-in_err-write_through-clause-others_at_each_moment g c =
    widen c.write_through.ensures.leads (λ before image left touch file differs differs_too. touch.others file differs)

pub returns-in_err-write_through-clause-others_at_object : goal.returns-in_err-write_through-clause-others_at_object
returns-in_err-write_through-clause-others_at_object g c is =
    widen c.write_through.ensures.leads (λ before image left touch file differs. touch.others file differs)

pub returns-in-Ok-clause-others_at_each_moment : goal.returns-in-Ok-clause-others_at_each_moment
returns-in-Ok-clause-others_at_each_moment g c = besides_both _ _ c.write_through.ensures.leads c.append.ensures.touches

pub returns-in-Err-Disk-clause-others_at_each_moment : goal.returns-in-Err-Disk-clause-others_at_each_moment
returns-in-Err-Disk-clause-others_at_each_moment g c = besides_both _ _ c.write_through.ensures.leads c.append.ensures.touches
