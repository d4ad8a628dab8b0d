-- Files that aren't a store's own.
use Rattle.std.proofs.Common.{◌≡◌, ◌≢◌, inl, inr, ⊎_elim, ℕ, Bool, true, false, List, Option, refl, sym, ◌∙◌, ap, subst}
use Rattle.std.proofs.lemmas.Bool.{true≢false}
use Rattle.disk_trait.specs.declared.disk.FileId.{FileId}
use Rattle.disk_trait.specs.declared.disk.FileId.TheVariants.{Index, LimitsFile, Object, Root}
use Rattle.disk_trait.specs.Disk.{DiskView, Files, Leads, Stays, Touches, bytes_of}
use Rattle.disk_trait.proofs.Steps.{goes_on, stays_after, still, widen}
use Rattle.gate_journal.specs.Journal.{SameBodies}
use Rattle.gate_journal.specs.Slots.{bodies_of}
use Rattle.metastore_index.specs.declared.entry.Entry.{Entry}
use Rattle.history_files.specs.Standing.{KeepsLive, LosesSpares, is_spare_file}
use Rattle.store_core.specs.Changes.{LeavesAllBut, LeavesOthers, OnlyClears, is_store_file}

pub others_still : (old new : DiskView) → Leads Stays old new → Leads LeavesOthers old new
others_still old new run = widen run (λ before image left stays file other. ap (λ (f : Files). f file) stays)

pub others_again : (old mid new : DiskView) → Leads LeavesOthers old mid → Leads LeavesOthers mid new → Leads LeavesOthers old new
others_again old mid new first second = goes_on first second (λ before image left step. step) (λ before between image left one now two file other. two file other ∙ one file other)

spared : (entries : List Entry) (file : FileId) → is_store_file file ≡ false → is_spare_file file entries ≡ false
spared entries (Index n) other = refl
spared entries (Object id) other = absurd (true≢false other)
spared entries Root other = refl
spared entries LimitsFile other = refl

-- objects that aren't live were removed
pub others_cleared : (entries : List Entry) (old new : DiskView) → Leads (KeepsLive entries) old new → Leads LeavesOthers old new
others_cleared entries old new run = widen run (λ before image left step file other. step file (spared entries file other))

not_own : (file own : FileId) → is_store_file own ≡ true → is_store_file file ≡ false → file ≢ own
not_own file own is other same = true≢false (sym is ∙ ap is_store_file (sym same) ∙ other)

-- only an object and the index file were written
pub others_put : (id : ℕ) (file : FileId) (old new : DiskView) → file ≡ Index 0
    → Leads (λ before image. (one : FileId) → one ≢ Object id → one ≢ file → image one ≡ before one) old new → Leads LeavesOthers old new
others_put id file old new index run = widen run (λ before image left step one other. step one (not_own one (Object id) refl other) (not_own one file (ap is_store_file index) other))

pub leaves_put : (id : ℕ) (file : FileId) (old new : DiskView) → file ≡ Index 0
    → Leads (λ before image. (one : FileId) → one ≢ Object id → one ≢ file → image one ≡ before one) old new → Leads (LeavesAllBut id) old new
leaves_put id file old new index run = widen run (λ before image left step one other object. step one object (λ same. other (same ∙ index)))

pub reads_put : (id : ℕ) (file : FileId) (before after : Files) → file ≡ Index 0 → ((one : FileId) → one ≢ Object id → one ≢ file → after one ≡ before one) → LeavesAllBut id before after
reads_put id file before after index others one other object = others one object (λ same. other (same ∙ index))

pub leaves_still : (id : ℕ) (disk : DiskView) → Leads (LeavesAllBut id) disk disk
leaves_still id disk = widen (still disk) (λ before image left stays file other object. ap (λ (f : Files). f file) stays)

-- only the index file was
pub others_opened : (old new : DiskView) → Leads (λ before image. (one : FileId) → one ≢ Index 0 → image one ≡ before one) old new → Leads LeavesOthers old new
others_opened old new run = widen run (λ before image left step one other. step one (not_own one (Index 0) refl other))

pub untouched_still : (old new : DiskView) → Leads Stays old new → Leads (λ before image. (one : FileId) → one ≢ Index 0 → image one ≡ before one) old new
untouched_still old new run = widen run (λ before image left stays file other. ap (λ (f : Files). f file) stays)

pub untouched_again : (old mid new : DiskView) → Leads (λ before image. (one : FileId) → one ≢ Index 0 → image one ≡ before one) old mid
    → Leads (λ before image. (one : FileId) → one ≢ Index 0 → image one ≡ before one) mid new → Leads (λ before image. (one : FileId) → one ≢ Index 0 → image one ≡ before one) old new
untouched_again old mid new first second = goes_on first second (λ before image left step. step) (λ before between image left one now two file other. two file other ∙ one file other)

-- ---- files that aren't live

module _ (entries : List Entry) where
  -- only the index file was written, if any
  pub live_opened : (old new : DiskView) → Leads (λ before image. (one : FileId) → one ≢ Index 0 → image one ≡ before one) old new
      → Leads (OnlyClears entries) old new
  live_opened old new run = widen run (λ before image left step one other. inl (step one other))

  -- and objects that aren't live were removed
  pub live_cleared : (old mid new : DiskView) → Leads (λ before image. (one : FileId) → one ≢ Index 0 → image one ≡ before one) old mid → Leads (LosesSpares entries) mid new
      → Leads (OnlyClears entries) old new
  live_cleared old mid new first second = goes_on first second
      (λ before image left step one other. inl (step one other))
      (λ before between image left one now two file other. ⊎_elim (λ same. inl (same ∙ one file other)) (λ gone. inr gone) (two file))

  -- the index file stays in this
  pub bodies_cleared : (synced mid look new : DiskView) → Leads (Touches (Index 0) SameBodies) synced mid → Leads Stays mid look → Leads (KeepsLive entries) look new
      → Leads (λ before image. SameBodies (before (Index 0)) (image (Index 0))) synced new
  bodies_cleared synced mid look new run looks cleared = goes_on (stays_after run looks) cleared
      (λ before image left step. step.here)
      (λ before between image left one now two. ap (λ (o : Option (List ℕ)). bodies_of (bytes_of o)) (two (Index 0) refl) ∙ one.here)
