-- The status that each ending has, and its number.
use Rattle.std.specs.Prelude.{◌≡◌, ℕ, List, []}
use Rattle.profile_model.specs.declared.push.Push.{Push}
use Rattle.pyro_server.specs.declared.ending.Ending.{Ending}
use Rattle.pyro_server.specs.declared.ending.Ending.TheVariants as ending
use Rattle.pyro_server.specs.declared.status.ExitStatus.{ExitStatus}
use Rattle.pyro_server.specs.declared.status.ExitStatus.TheVariants.{Done, NoCommand, NoMemory, StreamFault, LastRequest, BadRequest}

abbrev pub code_of : ExitStatus → ℕ
code_of Done = 0
code_of NoCommand = 2
code_of NoMemory = 3
code_of StreamFault = 6
code_of LastRequest = 9
code_of BadRequest = 11

-- the status of a run whose one connection ended so
abbrev pub status_of : Ending → ExitStatus
status_of ending.Done = Done
status_of ending.Closed = Done
status_of ending.LastRequest = LastRequest
status_of (ending.Refused reason) = BadRequest
status_of ending.NoMemory = NoMemory
status_of ending.LinkFault = StreamFault

-- memory ran out before anything was served: the stream is as it was, and nothing was kept
abbrev pub IsUnstarted : {L : Type 0} → L → L → List Push → ExitStatus → Type 0
IsUnstarted before now history status = (status ≡ NoMemory) × (now ≡ before) × (history ≡ [])
