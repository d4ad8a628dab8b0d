use Rattle.std.proofs.Common.{◌≤◌, refl, arith}
use Rattle.std.proofs.lemmas.List.Elements.{All-weaker}
use Rattle.metastore_index.specs.declared.entry.Entry.{Entry}
use Rattle.metastore_index.proofs.ChangeLemmas.{AreEntries-becomes, All-becomes}
use Rattle.metastore_index.proofs.TakenLemmas.{one_more_comes}
use Rattle.metastore_index.proofs.index.Index.apply.Goals as goal

pub invariant_of-self-2 : goal.invariant_of-self-2
invariant_of-self-2 c =
    let entries = c.self.inside.entries.items in
    let next = c.take_in.new.entries.items in
    let taken = c.in_ok-take_in.ensures.ok in (
      AreEntries-becomes entries c.args.entry next c.self.invariant.0 taken.1,
      All-becomes (λ (entry : Entry). entry.id ≤ c.args.entry.id) entries c.args.entry next
          (All-weaker (λ (entry : Entry). entry.id ≤ c.self.inside.greatest) (λ entry. entry.id ≤ c.args.entry.id) (λ entry le. omega arith) entries c.self.invariant.1) (omega arith) taken.1,
      omega arith,
    )

pub returns-clause-ok : goal.returns-clause-ok
returns-clause-ok c =
    let taken = c.in_ok-take_in.ensures.ok in
    rw (← c.self.view_is) (record { later = omega arith; bounded = omega arith; fits = taken.0 }, taken.1, refl)

pub returns-clause-comes : goal.returns-clause-comes
returns-clause-comes c =
    let takes = c.in_ok-take_in.ensures.ok in
    rw (← c.self.view_is) (λ taken comes. one_more_comes taken _ c.args.entry _ comes
    (record { taken = record { later = omega arith; bounded = omega arith; fits = takes.0 }; becomes = takes.1; greatest = refl }))
