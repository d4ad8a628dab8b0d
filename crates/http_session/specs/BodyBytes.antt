-- A reply's body, as its model shows it.
use Rattle.std.specs.Prelude.{ℕ, List}
use Rattle.http_session.specs.declared.reply.Bytes.{Bytes}
use Rattle.http_session.specs.declared.reply.Bytes.TheVariants.{Kept, Long}

abbrev pub bytes_in : Bytes → List ℕ
bytes_in (Kept bytes) = bytes.items
bytes_in (Long bytes) = bytes.items
