use Rattle.std.proofs.Common.{[], ◌∷◌, ◌++◌, sym, ap, ◌∙◌}
use Rattle.std.specs.Prelude.{map}
use Rattle.std.specs.List.{range_with_len}
use Rattle.std.proofs.lemmas.List.{map-append}
use Rattle.pprof_codec.specs.Tables.{stack_at}
use Rattle.pprof_codec.proofs.OrderLemmas.{range-more}
use Rattle.pprof_codec.proofs.PlaceLemmas.{stack-told}
use Rattle.pprof_codec.proofs.numbers.stack_numbers.Goals as goal

pub first_with-requires-clause-frames : goal.first_with-requires-clause-frames
first_with-requires-clause-frames c =
    stack-told c.args.judged.now.message c.loop-at.at _ _ c.sample.ensures c.in_ok-frames.ensures

pub loop-at-preserved : goal.loop-at-preserved
loop-at-preserved c =
    let stack = stack_at c.args.judged.now.message in
    record {
      numbered =
          ap (map stack) c.in_ok-push.ensures.items
          ∙ map-append stack c.loop-at.numbers.items _
          ∙ (λ k. c.loop-at.invariant.numbered k ++ c.in_ok-first_with.ensures.0 k ∷ [])
          ∙ sym (map-append stack (range_with_len 0 c.loop-at.at) (c.loop-at.at ∷ []))
          ∙ ap (map stack) (range-more c.loop-at.at);
      firsts = c.in_ok-first_with.ensures.1;
    }
