use Rattle.folded_reader.proofs.WrittenLemmas.{read_back}
use Rattle.folded_reader.proofs.laws.written_is_read_back.Goals as goal

pub returns : goal.returns
returns c = read_back
