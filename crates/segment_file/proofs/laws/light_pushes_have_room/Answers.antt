use Rattle.segment_file.proofs.RoomLemmas.{light_room}
use Rattle.segment_file.proofs.laws.light_pushes_have_room.Goals as goal

pub returns : goal.returns
returns c = light_room
