-- What holds of all answers that a request to ingest may be given.
use Rattle.std.specs.Prelude.{◌≡◌, ℕ, List, Result, MatchResult}
use Rattle.profile_model.specs.declared.push.Push.{Push}
use Rattle.ingest.specs.Forms.{Parameters}
use Rattle.ingest.specs.Ingests.{IsIngestFault, SaysProfiles}
use Rattle.ingest.specs.declared.fault.IngestFault.{IngestFault}

-- the tenant's push that parameters and body say, or their first fault
abbrev pub IsAnswer : List ℕ → Parameters → List ℕ → ℕ → Result Push IngestFault → Type 0
IsAnswer tenant parameters body moment answer =
    MatchResult answer
    (λ push. (push.tenant ≡ tenant) × SaysProfiles parameters body moment push.profiles) (IsIngestFault parameters body moment)
