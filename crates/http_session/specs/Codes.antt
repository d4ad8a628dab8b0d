-- The codes that replies show for the faults of a connection's bytes.
use Rattle.std.specs.Prelude.{ℕ, List, Option, Some, None, codes}
use Rattle.http_session.specs.declared.bad_request.BadRequest.{BadRequest}
use Rattle.http_session.specs.declared.bad_request.BadRequest.TheVariants.{Malformed, HeadTooLarge, BodyTooLarge, Chunked, CutOff}

abbrev pub fault_code : BadRequest → Option (List ℕ)
fault_code Malformed = Some (codes "H1")
fault_code HeadTooLarge = Some (codes "H2")
fault_code BodyTooLarge = Some (codes "H3")
fault_code Chunked = None
fault_code CutOff = None
