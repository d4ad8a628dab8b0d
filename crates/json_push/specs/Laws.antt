-- What holds of all answers that a body may be given.
use Rattle.std.specs.Prelude.{◌≡◌, ℕ, List, Result, Ok, Err}
use Rattle.profile_model.specs.declared.push.Push.{Push}
use Rattle.json_push.specs.Pushed.{IsPushFault, SaysPushed}
use Rattle.json_push.specs.declared.fault.PushFault.{PushFault}

-- the tenant's push that the body says, or its first fault
abbrev pub IsAnswer : List ℕ → List ℕ → ℕ → Result Push PushFault → Type 0
IsAnswer tenant body moment (Ok push) = (push.tenant ≡ tenant) × SaysPushed body moment push.profiles
IsAnswer tenant body moment (Err fault) = IsPushFault body moment fault
