use Rattle.std.proofs.Common.{◌≡◌, [], ap, ◌∙◌, arith}
use Rattle.json_bodies.specs.Walks.{valued}
use Rattle.json_bodies.proofs.WalkLemmas.{valued_empty}
use Rattle.json_bodies.proofs.walk.first.Goals as goal

pub returns-in-None : goal.returns-in-None
returns-in-None c = λ depth. let empty : c.args.reader.now ≡ [] = grind arith in ap (valued depth) empty ∙ valued_empty depth
