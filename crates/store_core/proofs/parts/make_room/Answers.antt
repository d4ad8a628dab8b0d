use Rattle.store_core.proofs.RoomLemmas.{books_alike}
use Rattle.store_core.proofs.parts.make_room.Goals as goal

pub returns-clause-books : goal.returns-clause-books
returns-clause-books c history are = books_alike c.args.books.now c.room-2.new.self history c.room-2.ensures.stands are
