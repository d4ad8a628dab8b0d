use Rattle.segment_file.proofs.MadeLemmas.{object_made}
use Rattle.segment_file.proofs.laws.each_file_decodes.Goals as goal

pub returns : goal.returns
returns c = object_made
