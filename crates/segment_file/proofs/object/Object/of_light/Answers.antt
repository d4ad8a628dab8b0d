use Rattle.std.proofs.Common.{List, subst}
use Rattle.std.specs.List.{All}
use Rattle.profile_model.specs.declared.push.Push.{Push}
use Rattle.segment_file.specs.Objects.{IsPush}
use Rattle.segment_file.proofs.RoomLemmas.{light_room}
use Rattle.segment_file.proofs.object.Object.of_light.Goals as goal

pub from_pushes-requires-clause-fit : goal.from_pushes-requires-clause-fit
from_pushes-requires-clause-fit c =
    light_room c.args.lo c.args.pushes.items c.requires.within (subst (λ (l : List Push). All IsPush l) c.deref.ensures.value c.look_at_pushes.ensures) c.requires.light
