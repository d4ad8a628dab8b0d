use Rattle.pprof_writer.proofs.OnceLemmas.{frames-once, texts-once}
use Rattle.pprof_writer.proofs.laws.names_stand_once.Goals as goal

pub returns-clause-frames : goal.returns-clause-frames
returns-clause-frames c = frames-once

pub returns-clause-texts : goal.returns-clause-texts
returns-clause-texts c = texts-once
