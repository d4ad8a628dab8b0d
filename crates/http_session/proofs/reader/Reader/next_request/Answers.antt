use Rattle.std.proofs.Common.{refl}
use Rattle.http_session.proofs.reader.Reader.next_request.Goals as goal

pub returns-in-Err-LinkFault-clause-quiet : goal.returns-in-Err-LinkFault-clause-quiet
returns-in-Err-LinkFault-clause-quiet g c never = absurd (never _ refl)
