use Rattle.history_pass.proofs.MeetingLemmas.{meetings_grow}
use Rattle.history_pass.proofs.laws.meetings_grow.Goals as goal

pub returns : goal.returns
returns c = record { grow = meetings_grow }
