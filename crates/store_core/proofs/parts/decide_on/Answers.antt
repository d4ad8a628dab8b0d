use Rattle.std.proofs.Common.{◌≡◌, ◌+◌, ◌++◌, inl, inr, Some, None, Err, List, ℕ, length, true, false, refl, sym, ◌∙◌, subst, arith, append-nil, ◌<◌}
use Rattle.std.specs.Prelude.{IfSome, Option}
use Rattle.std.specs.Option.{option_to_list}
use Rattle.disk_trait.specs.Disk.{Tells, bytes_of}
use Rattle.gate_journal.specs.Journal.{IsSettled, list_of}
use Rattle.gate_journal.specs.Slots.{bodies_of}
use Rattle.profile_model.specs.declared.push.Push.{Push}
use Rattle.history_files.specs.History.{StandFor}
use Rattle.store_core.proofs.RoomLemmas.{flight_short, kept_made, on_err}
use Rattle.store_core.proofs.PartLemmas.{decides_against, decides_for, doubts, flies_takes, reads_against, reads_for}
use Rattle.std.proofs.Common.{ap}
use Rattle.metastore_index.specs.declared.entry.Entry.{Entry}
use Rattle.metastore_index.specs.Entries.{Becomes, IndexView, IsTaken, end_of}
use Rattle.store_core.proofs.IndexLemmas.{ends_behind, never_refused, taken_room}
use Rattle.store_core.specs.Store.{FlightView, IsBehind, IsKept}
use Rattle.store_core.proofs.parts.decide_on.Goals as goal

pub returns-in_err-make_room-clause-doubted : goal.returns-in_err-make_room-clause-doubted
returns-in_err-make_room-clause-doubted g c history t kept =
    on_err c.from_residual.result (kept_made (g.D.Disk.view c.args.disk.now) c.args.journal.now c.args.index.now c.make_room.new.index c.make_room.ensures.index history (Some (record { entry = c.args.entry.now; pushes = c.args.pushes.now }))
    c.args.books.now c.make_room.new.books false kept (c.make_room.ensures.books history kept.booked))

pub returns-in-Err-clause-doubted : goal.returns-in-Err-clause-doubted
returns-in-Err-clause-doubted g c history t kept =
    doubts (g.D.Disk.view c.args.disk.now) (g.D.Disk.view c.mend.new.disk) c.args.journal.now c.mend.new.self c.args.index.now c.make_room.new.index
    c.make_room.ensures.index (record { entry = c.args.entry.now; pushes = c.args.pushes.now }) c.args.books.now c.make_room.new.books history kept (c.make_room.ensures.books history kept.booked) c.requires.sure c.mend.ensures.any_moment
    c.in-Err.ensures.err (λ body unsure un. c.in-Err.ensures.unsettled body t unsure un)

pub returns-in-Ok-None-clause-decided : goal.returns-in-Ok-None-clause-decided
returns-in-Ok-None-clause-decided g c history t kept =
    let old = g.D.Disk.view c.args.disk.now in
    let new = g.D.Disk.view c.mend.new.disk in
    subst (λ (l : List Push). IsKept new c.mend.new.self c.make_room.new.index None c.make_room.new.books false l) (sym (append-nil history))
    (decides_against old new c.args.journal.now c.mend.new.self c.args.index.now c.make_room.new.index
    c.make_room.ensures.index (record { entry = c.args.entry.now; pushes = c.args.pushes.now }) c.args.books.now c.make_room.new.books history kept (c.make_room.ensures.books history kept.booked) c.requires.sure c.mend.ensures.any_moment
    (subst (λ (o : Option (List ℕ)). c.mend.new.self ≡ record c.args.journal.now { count = c.args.journal.now.count + length (option_to_list o); sure = true }) c.in-Ok-None.field-0-is c.in-Ok-None.ensures.ok)
    (subst (λ (o : Option (List ℕ)). IsSettled new c.mend.new.self × (list_of new c.mend.new.self ≡ list_of old c.args.journal.now ++ option_to_list o)) c.in-Ok-None.field-0-is (c.in-Ok-None.ensures.settled t)))

pub returns-in-Ok-None-clause-stood : goal.returns-in-Ok-None-clause-stood
returns-in-Ok-None-clause-stood g c history t kept =
    let old = g.D.Disk.view c.args.disk.now in
    let new = g.D.Disk.view c.mend.new.disk in
    subst (λ (l : List Push). StandFor c.args.journal.now.limit old.files l) (sym (append-nil history))
    (reads_against old new c.args.journal.now c.mend.new.self c.args.index.now c.make_room.new.index
    c.make_room.ensures.index (record { entry = c.args.entry.now; pushes = c.args.pushes.now }) c.args.books.now c.make_room.new.books history kept (c.make_room.ensures.books history kept.booked) c.requires.sure c.mend.ensures.any_moment t
    (subst (λ (o : Option (List ℕ)). bodies_of (bytes_of (old.files c.args.journal.now.file)) ≡ list_of old c.args.journal.now ++ option_to_list o) c.in-Ok-None.field-0-is (c.in-Ok-None.ensures.found t)))

pub returns-in-Ok-None-clause-end : goal.returns-in-Ok-None-clause-end
returns-in-Ok-None-clause-end g c = omega (arith, ap (λ i. end_of i.entries) c.make_room.ensures.index)

pub returns-clause-decided : goal.returns-clause-decided
returns-clause-decided g c history t kept =
    let old = g.D.Disk.view c.args.disk.now in
    let new = g.D.Disk.view c.mend.new.disk in
    decides_for old new c.args.journal.now c.mend.new.self c.args.index.now c.make_room.new.index
    c.make_room.ensures.index (record { entry = c.args.entry.now; pushes = c.args.pushes.now }) c.args.books.now c.make_room.new.books history kept (c.make_room.ensures.books history kept.booked) c.requires.sure c.mend.ensures.any_moment
    c.in-Ok-Some.field-0-0
    (subst (λ (o : Option (List ℕ)). c.mend.new.self ≡ record c.args.journal.now { count = c.args.journal.now.count + length (option_to_list o); sure = true }) c.in-Ok-Some.field-0-is c.in-Ok-Some.ensures.ok)
    (subst (λ (o : Option (List ℕ)). IsSettled new c.mend.new.self × (list_of new c.mend.new.self ≡ list_of old c.args.journal.now ++ option_to_list o)) c.in-Ok-Some.field-0-is (c.in-Ok-Some.ensures.settled t))
    (λ b unsure un. subst (λ (o : Option (List ℕ)). IfSome o (λ it. it ≡ b)) c.in-Ok-Some.field-0-is (c.in-Ok-Some.ensures.same_body b t unsure un))
    c.apply.new.self c.in-Ok.ensures.ok c.take.new.self
    (c.take.ensures.books history (c.make_room.ensures.books history kept.booked) kept.state.totals
    (flight_short old c.args.journal.now c.args.index.now c.args.entry.now history c.args.pushes.now t kept.state))

pub returns-clause-stood : goal.returns-clause-stood
returns-clause-stood g c history t kept =
    let old = g.D.Disk.view c.args.disk.now in
    let new = g.D.Disk.view c.mend.new.disk in
    reads_for old new c.args.journal.now c.mend.new.self c.args.index.now c.make_room.new.index
    c.make_room.ensures.index (record { entry = c.args.entry.now; pushes = c.args.pushes.now }) c.args.books.now c.make_room.new.books history kept (c.make_room.ensures.books history kept.booked) c.requires.sure c.mend.ensures.any_moment t
    c.in-Ok-Some.field-0-0
    (subst (λ (o : Option (List ℕ)). bodies_of (bytes_of (old.files c.args.journal.now.file)) ≡ list_of old c.args.journal.now ++ option_to_list o) c.in-Ok-Some.field-0-is (c.in-Ok-Some.ensures.found t))
    (λ b unsure un. subst (λ (o : Option (List ℕ)). IfSome o (λ it. it ≡ b)) c.in-Ok-Some.field-0-is (c.in-Ok-Some.ensures.same_body b t unsure un))

pub returns-clause-end : goal.returns-clause-end
returns-clause-end g c =
    let same = ap (λ i. i.entries) c.make_room.ensures.index in
    ends_behind c.args.index.now.entries c.apply.new.self.entries (record { entry = c.args.entry.now; pushes = c.args.pushes.now }) c.requires.behind
    (subst (λ (es : List Entry). Becomes es c.args.entry.now c.apply.new.self.entries) same c.in-Ok.ensures.ok.1)

pub returns-in-Ok-None-clause-took : goal.returns-in-Ok-None-clause-took
returns-in-Ok-None-clause-took g c t =
    let now = subst (λ (o : Option (List ℕ)). c.mend.new.self ≡ record c.args.journal.now { count = c.args.journal.now.count + length (option_to_list o); sure = true }) c.in-Ok-None.field-0-is c.in-Ok-None.ensures.ok in
    inl (ap (λ i. i.entries) c.make_room.ensures.index, ap (λ i. i.greatest) c.make_room.ensures.index, omega (arith, ap (λ j. j.count) now))

pub returns-clause-took : goal.returns-clause-took
returns-clause-took g c t =
    let now = subst (λ (o : Option (List ℕ)). c.mend.new.self ≡ record c.args.journal.now { count = c.args.journal.now.count + length (option_to_list o); sure = true }) c.in-Ok-Some.field-0-is c.in-Ok-Some.ensures.ok in
    let taken = c.in-Ok.ensures.ok in
    inr (subst (λ (es : List Entry). Becomes es c.args.entry.now c.apply.new.self.entries) (ap (λ i. i.entries) c.make_room.ensures.index) taken.1, taken.2, omega (arith, ap (λ j. j.count) now))

-- where the disk tells, no entry in the air is refused
pub returns-in-Err-apply-clause-decided : goal.returns-in-Err-apply-clause-decided
returns-in-Err-apply-clause-decided g c history t kept =
    let old = g.D.Disk.view c.args.disk.now in
    let new = g.D.Disk.view c.mend.new.disk in
    absurd (never_refused c.in-Err-apply.field-0
    (λ is. c.in-Err-apply.ensures.refused (ap Err is) (flies_takes old new c.args.journal.now c.mend.new.self c.args.index.now c.make_room.new.index
    c.make_room.ensures.index (record { entry = c.args.entry.now; pushes = c.args.pushes.now }) c.args.books.now c.make_room.new.books history kept (c.make_room.ensures.books history kept.booked) c.requires.sure c.mend.ensures.any_moment))
    (λ is. absurd (omega (arith, (c.in-Err-apply.ensures.memory (ap Err is)).0, c.in_ok-make_room.ensures.spare))))

pub returns-in-Err-apply-clause-stood : goal.returns-in-Err-apply-clause-stood
returns-in-Err-apply-clause-stood g c history t kept =
    let old = g.D.Disk.view c.args.disk.now in
    let new = g.D.Disk.view c.mend.new.disk in
    absurd (never_refused c.in-Err-apply.field-0
    (λ is. c.in-Err-apply.ensures.refused (ap Err is) (flies_takes old new c.args.journal.now c.mend.new.self c.args.index.now c.make_room.new.index
    c.make_room.ensures.index (record { entry = c.args.entry.now; pushes = c.args.pushes.now }) c.args.books.now c.make_room.new.books history kept (c.make_room.ensures.books history kept.booked) c.requires.sure c.mend.ensures.any_moment))
    (λ is. absurd (omega (arith, (c.in-Err-apply.ensures.memory (ap Err is)).0, c.in_ok-make_room.ensures.spare))))

pub returns-in-Err-apply-clause-took : goal.returns-in-Err-apply-clause-took
returns-in-Err-apply-clause-took g c t =
    let fits : IsTaken c.make_room.new.index c.args.entry.now = taken_room c.args.index.now c.make_room.new.index c.make_room.ensures.index c.args.entry.now (c.requires.flies t).1.takes.taken in
    absurd (never_refused c.in-Err-apply.field-0
    (λ is. c.in-Err-apply.ensures.refused (ap Err is) fits)
    (λ is. absurd (omega (arith, (c.in-Err-apply.ensures.memory (ap Err is)).0, c.in_ok-make_room.ensures.spare))))

pub returns-in-Err-apply-clause-end : goal.returns-in-Err-apply-clause-end
returns-in-Err-apply-clause-end g c = omega (arith, ap end_of (c.in-Err-apply.ensures.unchanged.0), ap (λ i. end_of i.entries) c.make_room.ensures.index)
