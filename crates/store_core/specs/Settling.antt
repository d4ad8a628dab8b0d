-- What becomes of pushes that ask a store to keep them.
use Rattle.std.specs.Prelude.{◌≡◌, ◌⊎◌, ◌+◌, true, false, List, [], ◌++◌, None}
use Rattle.disk_trait.specs.Disk.{DiskView, Leads}
use Rattle.profile_model.specs.declared.push.Push.{Push}
use Rattle.tenant_books.specs.declared.asks.PushAsk.{PushAsk}
use Rattle.tenant_books.specs.declared.verdict.Verdict.{Verdict}
use Rattle.tenant_books.specs.Keeping.{is_some_kept}
use Rattle.tenant_books.specs.Limits.{limit_of}
use Rattle.tenant_books.specs.Verdicts.{AreVerdicts, kept_of}
use Rattle.history_files.specs.History.{StandFor}
use Rattle.store_core.specs.Store.{IsFull, StoreView}
use Rattle.metastore_index.specs.declared.entry.Entry.{Entry}
use Rattle.store_core.specs.Changes.{FliesNext, HasNoSpares, HasOneMore, HasSameIndex, IsAdded, IsMended, IsNextEntry, IsNotAdded, LeavesAllBut, TakesFlight}

-- A store that wasn't sure was to be mended, and the mend failed.
pub record MendFailed {D : Type 0} (view : D → DiskView) (before after : StoreView D) (history : List Push) : Type 0 where
  pub was_unsure : before.sure ≡ false
  pub is_unsure : after.sure ≡ false
  pub next : List Push
  pub mended : IsMended (view before.disk) (view after.disk) before after history next
  pub index : TakesFlight before after

-- A store was mended first, and is sure then. It has the history that the files stood for as the disk read. One that was sure
-- was left as it is, and one that wasn't has no object then that isn't live. What follows is told of the mended one.
pub record FirstMended {D : Type 0} (view : D → DiskView) (before : StoreView D) (history : List Push) (Then : StoreView D → List Push → Type 0) : Type 0 where
  pub between : StoreView D
  pub next : List Push
  pub mended : IsMended (view before.disk) (view between.disk) before between history next
  pub read : StandFor before.records (view before.disk).files next
  pub is_sure : between.sure ≡ true
  pub lands : between.flight ≡ None
  pub at_once : before.sure ≡ true → between ≡ before
  pub records : between.records ≡ before.records
  pub limits : between.limits ≡ before.limits
  pub index : TakesFlight before between
  pub gone : before.sure ≡ false → HasNoSpares (view between.disk) between
  pub follows : Then between next

-- A sure store gave each ask its verdict, over its history and the store's limits. Those that it kept stand behind the
-- history, by one entry that came to the index: theirs, of level 0 and with the next id. No file but the index file and that
-- entry's object was touched at any moment, or reads otherwise. It kept some only where it wasn't full, and is as before where
-- it kept none.
pub record IsSettled {D : Type 0} (view : D → DiskView) (before after : StoreView D) (history : List Push) (asks : List PushAsk) (verdicts : List Verdict) : Type 0 where
  pub kept : List Push
  pub which : kept ≡ kept_of asks verdicts
  pub judged : AreVerdicts (limit_of before.limits) history asks verdicts (history ++ kept)
  pub room : is_some_kept verdicts ≡ true → ¬ (IsFull before)
  pub entry : ((kept ≡ []) × (after ≡ before)) ⊎ ((entry : Entry) × IsNextEntry before kept entry × HasOneMore before after entry)
  pub added : IsAdded (view before.disk) (view after.disk) before after history kept
  pub others : LeavesAllBut (before.index.greatest + 1) (view before.disk).files (view after.disk).files
  pub others_at_each_moment : Leads (LeavesAllBut (before.index.greatest + 1)) (view before.disk) (view after.disk)

-- a sure store is full, and would keep some of the asks
pub record IsFullFor {D : Type 0} (store : StoreView D) (history : List Push) (asks : List PushAsk) : Type 0 where
  pub full : IsFull store
  pub verdicts : List Verdict
  pub last : List Push
  pub judged : AreVerdicts (limit_of store.limits) history asks verdicts last
  pub some : is_some_kept verdicts ≡ true

-- A sure store that wasn't full was to keep some of the asks, and the disk failed. They may turn out to be kept where they are
-- in the air, and then they are there under the entry that they were to have. No file but the index file and that entry's
-- object was touched at any moment.
pub record IsDoubted {D : Type 0} (view : D → DiskView) (before after : StoreView D) (history : List Push) (asks : List PushAsk) : Type 0 where
  pub verdicts : List Verdict
  pub kept : List Push
  pub judged : AreVerdicts (limit_of before.limits) history asks verdicts (history ++ kept)
  pub some : is_some_kept verdicts ≡ true
  pub room : ¬ (IsFull before)
  pub index : HasSameIndex before after
  pub not_added : IsNotAdded (view before.disk) (view after.disk) before after history kept
  pub flight : FliesNext before after kept
  pub others_at_each_moment : Leads (LeavesAllBut (before.index.greatest + 1)) (view before.disk) (view after.disk)
