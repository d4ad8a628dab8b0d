use Rattle.std.proofs.Common.{◌≡◌, ◌≤◌, ◌<◌, ◌^◌, ◌+◌, ◌++◌, ap, sym, ◌∙◌, subst, refl, Some, None, List, ℕ, true, false, length, arith}
use Rattle.std.proofs.lemmas.Bool.{false≢true}
use Rattle.std.specs.Option.{option_map}
use Rattle.std.specs.Prelude.{IfSome}
use Rattle.disk_trait.specs.declared.disk.FileId.TheVariants.{Index}
use Rattle.disk_trait.specs.Disk.{Tells, Files, bytes_of}
use Rattle.gate_journal.specs.Slots.{bodies_of}
use Rattle.metastore_index.specs.Entries.{end_of}
use Rattle.profile_model.specs.declared.push.Push.{Push}
use Rattle.store_core.specs.Store.{FlightView, HasHistory, Invariant, IsBehind, StoreView, in_flight}
use Rattle.store_core.specs.Changes.{IsMended}
use Rattle.history_files.specs.History.{HasIndex}
use Rattle.history_files.specs.Keeps.{StandForEither, most_pushes}
use Rattle.history_files.specs.Standing.{NoneFrom}
use Rattle.store_core.proofs.KeptLemmas.{images_as, index_as}
use Rattle.store_core.proofs.store.Store.stands.Goals as goal

pub returns-clause-images : goal.returns-clause-images
returns-clause-images g c =
    subst (λ s. (history : List Push) → Tells (g.D.Disk.view s.disk) → HasHistory (g.D.Disk.view s.disk) s history → (image : Files) → (g.D.Disk.view s.disk).images_now image → StandForEither s.records history (history ++ in_flight s.flight) image) c.self.view_is
    (λ history t held image left. images_as (g.D.Disk.view c.self.inside.disk) c.self.inside.journal c.self.inside.index _ c.self.inside.books c.self.inside.sure c.self.inside.records c.self.invariant history t held image left)

pub returns-clause-index : goal.returns-clause-index
returns-clause-index g c =
    subst (λ s. Tells (g.D.Disk.view s.disk) → s.flight ≡ None → HasIndex s.records (g.D.Disk.view s.disk).files s.index × (s.count ≡ length (bodies_of (bytes_of ((g.D.Disk.view s.disk).files (Index 0)))))) c.self.view_is
    (λ t none. index_as (g.D.Disk.view c.self.inside.disk) c.self.inside.journal c.self.inside.index _ c.self.inside.books c.self.inside.sure c.self.inside.records c.self.invariant t none)

pub returns-clause-none : goal.returns-clause-none
returns-clause-none g c =
    subst (λ s. Tells (g.D.Disk.view s.disk) → s.sure ≡ true → NoneFrom (s.index.greatest + 1) (g.D.Disk.view s.disk).files) c.self.view_is
    (λ t sure. (c.self.invariant.told t).1.none sure)

pub returns-clause-settled : goal.returns-clause-settled
returns-clause-settled g c = subst (λ s. s.sure ≡ true → s.flight ≡ None) c.self.view_is
    c.self.invariant.settled

pub returns-clause-few : goal.returns-clause-few
returns-clause-few g c = subst (λ s. length (in_flight s.flight) ≤ most_pushes) c.self.view_is c.self.invariant.few

pub returns-clause-behind : goal.returns-clause-behind
returns-clause-behind g c = subst (λ s. IfSome s.flight (IsBehind s.index.entries)) c.self.view_is c.self.invariant.behind

pub returns-clause-short : goal.returns-clause-short
returns-clause-short g c = subst (λ s. end_of s.index.entries < 2 ^ 63) c.self.view_is c.self.invariant.short
