use Rattle.std.proofs.Common.{◌≡◌, length, rules}
use Rattle.std.specs.Vec.Iter.{into_iter_items}
use Rattle.block_merge.proofs.RoomLemmas.{HasRoom, moved_room}
use Rattle.block_merge.proofs.merging.merge.Goals as goal
use Rattle.block_merge.proofs.merging.merge.Goals.{After-drop-object-iterator-2}

room : (c : After-drop-object-iterator-2) → HasRoom (record { lo = c.lo-lo.result; pushes = c.loop-object.pushes.items })
room c =
    let loop = c.loop-object in
    let none : length (into_iter_items loop.object-iterator) ≡ 0 = search rules in
    moved_room c.args.objects.items (into_iter_items loop.object-iterator) c.lo-lo.result c.index.result.now loop.pushes.items c.requires.some c.requires.follow
    none loop.invariant.moved loop.invariant.rooms c.index.ensures c.lo-lo.ensures

pub from_pushes-requires-clause-within : goal.from_pushes-requires-clause-within
from_pushes-requires-clause-within c = (room c).within

pub from_pushes-requires-clause-fit : goal.from_pushes-requires-clause-fit
from_pushes-requires-clause-fit c = (room c).fit
