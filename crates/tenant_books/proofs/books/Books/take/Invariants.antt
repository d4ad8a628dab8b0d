use Rattle.std.proofs.Common.{◌^◌, ◌<◌, ◌++◌, ℕ, List, length, take}
use Rattle.profile_model.specs.declared.push.Push.{Push}
use Rattle.push_history.specs.History.{HasBoundedTotals}
use Rattle.tenant_books.specs.Books.{AreBooksOf, IsKnown}
use Rattle.tenant_books.proofs.books.Books.take.Given as goal

abbrev pub invariant-loop-push : goal.invariant-loop-push
invariant-loop-push l = record {
  books : (history : List Push) → AreBooksOf l.fn.self history → HasBoundedTotals (history ++ l.pushes) → length (history ++ l.pushes) < 2 ^ 63
      → AreBooksOf l.self (history ++ take l.push-index l.pushes);
  still : (tenant : List ℕ) → IsKnown l.fn.self tenant → IsKnown l.self tenant;
}
