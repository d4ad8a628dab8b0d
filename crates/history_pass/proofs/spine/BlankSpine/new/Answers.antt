use Rattle.history_pass.proofs.StepLemmas.{begins}
use Rattle.history_pass.proofs.spine.BlankSpine.new.Goals as goal

pub of_words-requires : goal.of_words-requires
of_words-requires c = begins
