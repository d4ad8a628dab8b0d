-- Whether any of some pushes that ask is kept.
use Rattle.std.specs.Prelude.{Bool, true, false, ◌+◌, ◌&&◌, List, nat_le}
use Rattle.std.specs.List.{list_any}
use Rattle.profile_model.specs.Pushes.{profiles_total}
use Rattle.tenant_books.specs.declared.asks.PushAsk.{PushAsk}
use Rattle.tenant_books.specs.declared.verdict.Verdict.{Verdict}
use Rattle.tenant_books.specs.declared.verdict.Verdict.TheVariants.{Kept, FrontAhead, OverLimit}
use Rattle.tenant_books.specs.Books.{BooksView, standing_in}
use Rattle.tenant_books.specs.Limits.{LimitsView, limit_of}

abbrev pub is_kept : Verdict → Bool
is_kept (Kept receipt) = true
is_kept (FrontAhead asked front) = false
is_kept (OverLimit kept push limit front) = false

abbrev pub is_some_kept : List Verdict → Bool
is_some_kept verdicts = list_any is_kept verdicts

-- whether a push is kept where its tenant stands as the books say
abbrev pub is_kept_alone : BooksView → LimitsView → PushAsk → Bool
is_kept_alone books limits ask =
    nat_le ask.asked (standing_in books ask.push.tenant).front
    && nat_le ((standing_in books ask.push.tenant).total + profiles_total ask.push.profiles) (limit_of limits ask.push.tenant)
