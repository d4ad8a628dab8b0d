use Rattle.std.proofs.Common.{◌≡◌, ◌<◌, ℕ, List, slice_index_or}
use Rattle.profile_model.specs.declared.push.Push.{Push}
use Rattle.tenant_books.specs.Books.{IsKnown, standing_in}
use Rattle.tenant_books.proofs.books.Books.room.Given as goal

abbrev pub invariant-loop-push : goal.invariant-loop-push
invariant-loop-push l = record {
  stands : (tenant : List ℕ) → standing_in l.self tenant ≡ standing_in l.fn.self tenant;
  knows : (k : ℕ) → (d : Push) → k < l.push-index → IsKnown l.self (slice_index_or l.pushes k d).tenant;
  still : (tenant : List ℕ) → IsKnown l.fn.self tenant → IsKnown l.self tenant;
}
