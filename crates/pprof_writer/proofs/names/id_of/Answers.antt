use Rattle.std.proofs.Common.{◌+◌, ap}
use Rattle.pprof_writer.proofs.PlaceLemmas.{place-found, search-finds}
use Rattle.pprof_writer.proofs.names.id_of.Goals as goal

pub unreachable-requires : goal.unreachable-requires
unreachable-requires c = search-finds c.args.frames.now c.args.frame.now c.in-Err.field-0 c.requires.sorted c.requires.there c.in-Err.ensures.position

pub returns : goal.returns
returns c = ap (λ n. n + 1) (place-found c.args.frames.now c.args.frame.now c.in-Ok.at c.requires.sorted c.in-Ok.ensures.bound c.in-Ok.ensures.ok)
