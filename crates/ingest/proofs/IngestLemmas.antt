-- The first fault of parameters and a body.
use Rattle.std.proofs.Common.{inr, ℕ, List}
use Rattle.ingest.specs.Forms.{IsForm, Parameters}
use Rattle.ingest.specs.Ingests.{IsBodyFault, IsIngestFault}
use Rattle.ingest.specs.declared.form.Form.{Form}
use Rattle.ingest.specs.declared.fault.IngestFault.{IngestFault}
use Rattle.ingest.specs.declared.fault.IngestFault.TheVariants.{Weight}

-- where the parameters have none, it is the body's
pub body_stops : (parameters : Parameters) (body : List ℕ) (moment : ℕ) (form : Form) (stop : IngestFault)
    → IsForm parameters moment form → IsBodyFault form body stop → IsIngestFault parameters body moment stop
body_stops parameters body moment form Weight said stops = absurd stops
body_stops parameters body moment form stop said stops = inr (form, said, stops)
