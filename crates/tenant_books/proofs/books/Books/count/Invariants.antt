use Rattle.std.proofs.Common.{◌^◌, ◌<◌, ◌++◌, List, length, take}
use Rattle.profile_model.specs.declared.push.Push.{Push}
use Rattle.push_history.specs.History.{HasBoundedTotals}
use Rattle.tenant_books.specs.Books.{AreBooksOf, Knows}
use Rattle.tenant_books.proofs.books.Books.count.Given as goal

abbrev pub invariant-loop-push : goal.invariant-loop-push
invariant-loop-push l = record {
  books : (history : List Push) → AreBooksOf l.fn.self history → HasBoundedTotals history → length (history ++ l.pushes) < 2 ^ 63
      → AreBooksOf l.self (history ++ take l.push-index l.pushes);
  bounded : (history : List Push) → AreBooksOf l.fn.self history → HasBoundedTotals history → length (history ++ l.pushes) < 2 ^ 63
      → HasBoundedTotals (history ++ take l.push-index l.pushes);
  knows : Knows l.self l.pushes;
}
