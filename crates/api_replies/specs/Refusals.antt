-- The replies of refusals.
use Rattle.std.specs.Prelude.{ℕ, Bool, true, List, codes, Option, Some, None}
use Rattle.http_session.specs.declared.bad_request.BadRequest.{BadRequest}
use Rattle.http_session.specs.declared.bad_request.BadRequest.TheVariants.{Malformed, HeadTooLarge, BodyTooLarge, Chunked, CutOff}
use Rattle.http_session.specs.declared.reply.Allow.{Allow}
use Rattle.http_session.specs.declared.reply.Reply.{Reply}
use Rattle.http_session.specs.declared.reply.Status.{Status}
use Rattle.http_session.specs.declared.reply.Status.TheVariants as status
use Rattle.http_session.specs.declared.reply.Text.TheVariants.{Json}
use Rattle.folded_reader.specs.declared.fault.FoldedFault.{FoldedFault}
use Rattle.folded_reader.specs.declared.fault.FoldedFault.TheVariants.{Compressed}
use Rattle.ingest.specs.declared.fault.IngestFault.{IngestFault}
use Rattle.ingest.specs.declared.fault.IngestFault.TheVariants as fault
use Rattle.json_push.specs.declared.fault.PushFault.{PushFault}
use Rattle.json_push.specs.declared.fault.PushFault.TheVariants as push
use Rattle.pprof_codec.specs.declared.fault.PprofFault.{PprofFault}
use Rattle.pprof_codec.specs.declared.fault.PprofFault.TheVariants as pprof
use Rattle.api_replies.specs.FaultBodies.{named_body, placed_body}
use Rattle.request_meaning.specs.Refusals.{code_of, place_of}
use Rattle.request_meaning.specs.declared.refusal.Refusal.{Refusal}
use Rattle.request_meaning.specs.declared.refusal.Refusal.TheVariants.{NoRoute, WrongMethod, Unbuilt, NoTenant, Encoded, Ingest, Push}

-- a refusal: JSON, and no front
abbrev pub refusing : Status → List ℕ → ℕ → Bool → Reply
refusing with body now close = record { status = with; text = Json; body = body; allow = None; front = None; now = now; close = close }

abbrev pub reply_for_memory : ℕ → Bool → Reply
reply_for_memory = refusing status.InternalServerError (named_body (codes "memory"))

-- compressed bytes are of an unsupported type, and a push that weighs too much or has too many profiles is too large
abbrev pub folded_status : FoldedFault → Status
folded_status Compressed = status.UnsupportedMediaType
folded_status wrong = status.BadRequest

abbrev pub pprof_status : PprofFault → Status
pprof_status pprof.Compressed = status.UnsupportedMediaType
pprof_status pprof.Weight = status.ContentTooLarge
pprof_status wrong = status.BadRequest

abbrev pub ingest_status : IngestFault → Status
ingest_status (fault.Folded wrong) = folded_status wrong
ingest_status (fault.Pprof wrong) = pprof_status wrong
ingest_status fault.Weight = status.ContentTooLarge
ingest_status wrong = status.BadRequest

abbrev pub push_status : PushFault → Status
push_status (push.Pprof series sample wrong) = pprof_status wrong
push_status (push.TooMany series sample) = status.ContentTooLarge
push_status (push.Weight series sample) = status.ContentTooLarge
push_status wrong = status.BadRequest

-- a refusal's status
abbrev pub status_of : Refusal → Status
status_of NoRoute = status.NotFound
status_of (WrongMethod method) = status.MethodNotAllowed
status_of Unbuilt = status.NotImplemented
status_of NoTenant = status.Unauthorized
status_of Encoded = status.UnsupportedMediaType
status_of (Ingest wrong) = ingest_status wrong
status_of (Push wrong) = push_status wrong
status_of refusal = status.BadRequest

-- a route with another method names its own
abbrev pub allow_of : Refusal → Option Allow
allow_of (WrongMethod method) = Some method
allow_of refusal = None

-- a fault of what is read is told with its place
abbrev pub body_of : List ℕ → Option (List ℕ) → List ℕ
body_of code None = named_body code
body_of code (Some place) = placed_body code place

abbrev pub reply_for_refusal : Refusal → ℕ → Bool → Reply
reply_for_refusal refusal now close = record {
  status = status_of refusal;
  text = Json;
  body = body_of (code_of refusal) (place_of refusal);
  allow = allow_of refusal;
  front = None;
  now = now;
  close = close;
}

-- the last reply of a connection whose bytes are no request, and none where they were cut off
abbrev pub last_reply : BadRequest → ℕ → Option Reply
last_reply Malformed now = Some (refusing status.BadRequest (named_body (codes "H1")) now true)
last_reply HeadTooLarge now = Some (refusing status.HeadersTooLarge (named_body (codes "H2")) now true)
last_reply BodyTooLarge now = Some (refusing status.ContentTooLarge (named_body (codes "H3")) now true)
last_reply Chunked now = Some (reply_for_refusal Unbuilt now true)
last_reply CutOff now = None
