use Rattle.std.proofs.Common.{refl}
use Rattle.pprof_codec.proofs.PlaceLemmas.{firsts-more}
use Rattle.pprof_codec.proofs.numbers.first_with.Goals as goal

pub returns : goal.returns
returns c = (
  refl,
  firsts-more c.args.judged.now.message c.args.frames c.args.at c.args.firsts.now.entries c.insert.new.self.entries
      c.in_ok-insert.ensures.updates.0 c.requires.firsts c.requires.frames,
)
