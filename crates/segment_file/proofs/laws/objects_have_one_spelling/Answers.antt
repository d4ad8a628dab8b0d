use Rattle.segment_file.proofs.FileLemmas.{file_once}
use Rattle.segment_file.proofs.ObjectLemmas.{object_once}
use Rattle.segment_file.proofs.SoundLemmas.{object_unbroken, objects_are_sound}
use Rattle.segment_file.proofs.laws.objects_have_one_spelling.Goals as goal

pub returns-clause-file : goal.returns-clause-file
returns-clause-file c = file_once

pub returns-clause-object : goal.returns-clause-object
returns-clause-object c = object_once

pub returns-clause-sound : goal.returns-clause-sound
returns-clause-sound c = objects_are_sound

pub returns-clause-unbroken : goal.returns-clause-unbroken
returns-clause-unbroken c = object_unbroken
