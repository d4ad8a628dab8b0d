-- What the status of a fault says: neither that all is well nor that the server failed.
use Rattle.std.proofs.Common.{◌≢◌}
use Rattle.http_session.specs.declared.reply.Status.{Status}
use Rattle.http_session.specs.declared.reply.Status.TheVariants.{Ok, InternalServerError}
use Rattle.folded_reader.specs.declared.fault.FoldedFault.{FoldedFault}
use Rattle.folded_reader.specs.declared.fault.FoldedFault.TheVariants as folded
use Rattle.ingest.specs.declared.fault.IngestFault.{IngestFault}
use Rattle.ingest.specs.declared.fault.IngestFault.TheVariants as ingest
use Rattle.json_push.specs.declared.fault.PushFault.{PushFault}
use Rattle.json_push.specs.declared.fault.PushFault.TheVariants as push
use Rattle.pprof_codec.specs.declared.fault.PprofFault.{PprofFault}
use Rattle.pprof_codec.specs.declared.fault.PprofFault.TheVariants as pprof
use Rattle.request_meaning.specs.declared.refusal.Refusal.{Refusal}
use Rattle.request_meaning.specs.declared.refusal.Refusal.TheVariants as refusal
use Rattle.api_replies.specs.Refusals.{folded_status, ingest_status, pprof_status, push_status, status_of}

-- neither 200 nor 500
abbrev pub Blames : Status → Type 0
Blames status = (status ≢ Ok) × (status ≢ InternalServerError)

folded_blames : (fault : FoldedFault) → Blames (folded_status fault)
folded_blames folded.Compressed = (λ is. cc, λ is. cc)
folded_blames fault = (λ is. cc, λ is. cc)

pprof_blames : (fault : PprofFault) → Blames (pprof_status fault)
pprof_blames pprof.Compressed = (λ is. cc, λ is. cc)
pprof_blames pprof.Weight = (λ is. cc, λ is. cc)
pprof_blames fault = (λ is. cc, λ is. cc)

ingest_blames : (fault : IngestFault) → Blames (ingest_status fault)
ingest_blames (ingest.Folded fault) = folded_blames fault
ingest_blames (ingest.Pprof fault) = pprof_blames fault
ingest_blames ingest.Weight = (λ is. cc, λ is. cc)
ingest_blames fault = (λ is. cc, λ is. cc)

push_blames : (fault : PushFault) → Blames (push_status fault)
push_blames (push.Pprof series sample fault) = pprof_blames fault
push_blames (push.TooMany series sample) = (λ is. cc, λ is. cc)
push_blames (push.Weight series sample) = (λ is. cc, λ is. cc)
push_blames fault = (λ is. cc, λ is. cc)

pub refusal_blames : (wrong : Refusal) → Blames (status_of wrong)
refusal_blames (refusal.Ingest fault) = ingest_blames fault
refusal_blames (refusal.Push fault) = push_blames fault
refusal_blames wrong = (λ is. cc, λ is. cc)
