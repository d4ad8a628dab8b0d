use Rattle.std.proofs.Common.{map}
use Rattle.selector.specs.Rests.{matching_of}
use Rattle.selector.proofs.SelectorLemmas.{placed_selector, read_selector}
use Rattle.selector.proofs.selector.Selector.read.Goals as goal

pub returns-in-Err : goal.returns-in-Err
returns-in-Err c = record { read = placed_selector c.args.text.now c.in-Err.refused c.placed.result c.placed.ensures c.in-Err.ensures }

pub returns-in-Ok : goal.returns-in-Ok
returns-in-Ok c = record { read = read_selector c.args.text.now (map matching_of c.in-Ok.written.items) c.in-Ok.ensures c.build.result c.build.ensures }
