-- A reader's state, as its model shows it.
use Rattle.std.specs.Prelude.{ℕ, Bool, true, false, List, []}
use Rattle.http_session.specs.declared.reader.State.{State}
use Rattle.http_session.specs.declared.reader.State.TheVariants.{Fresh, Open, Ended}

abbrev pub held_in : State → List ℕ
held_in Fresh = []
held_in (Open buffer) = buffer
held_in Ended = []

abbrev pub is_ended : State → Bool
is_ended Fresh = false
is_ended (Open buffer) = false
is_ended Ended = true

-- no request was asked for yet
abbrev pub is_fresh : State → Bool
is_fresh Fresh = true
is_fresh (Open buffer) = false
is_fresh Ended = false
