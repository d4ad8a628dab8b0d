use Rattle.std.proofs.Common.{◌≡◌, ◌+◌, ◌^◌, ◌<◌, ◌≤◌, ◌++◌, [], List, false, length}
use Rattle.std.specs.List.{list_any}
use Rattle.profile_model.specs.declared.push.Push.{Push}
use Rattle.push_history.specs.History.{HasBoundedTotals}
use Rattle.tenant_books.specs.declared.asks.PushAsk.{PushAsk}
use Rattle.tenant_books.specs.declared.verdict.Verdict.{Verdict}
use Rattle.tenant_books.specs.Books.{AreBooksOf}
use Rattle.tenant_books.specs.Keeping.{is_kept_alone}
use Rattle.tenant_books.specs.Limits.{limit_of}
use Rattle.tenant_books.specs.Verdicts.{AreVerdicts, kept_of}
use Rattle.tenant_books.proofs.judging.judge.Given as goal

abbrev pub invariant-loop-ask : goal.invariant-loop-ask
invariant-loop-ask l = record {
  within : HasBoundedTotals l.kept.items;
  few : length l.kept.items ≤ length l.yielded;
  long : length l.verdicts.items ≡ length l.yielded;
  kept : l.kept.items ≡ kept_of l.yielded l.verdicts.items;
  none : list_any (is_kept_alone l.books l.limits) l.yielded ≡ false → l.kept.items ≡ [];
  verdicts : (history : List Push) → AreBooksOf l.books history → HasBoundedTotals history → length history ≡ l.end → l.end + length l.kept.items < 2 ^ 63
      → AreVerdicts (limit_of l.limits) history l.yielded l.verdicts.items (history ++ l.kept.items);
  bounded : (history : List Push) → AreBooksOf l.books history → HasBoundedTotals history → length history ≡ l.end → l.end + length l.kept.items < 2 ^ 63
      → HasBoundedTotals (history ++ l.kept.items);
  short : (history last : List Push) → (more : List PushAsk) → (others : List Verdict) → AreBooksOf l.books history → HasBoundedTotals history → length history ≡ l.end
      → l.end < 2 ^ 63 → AreVerdicts (limit_of l.limits) history (l.yielded ++ more) others last → length last < 2 ^ 63 → l.end + length l.kept.items < 2 ^ 63;
}
