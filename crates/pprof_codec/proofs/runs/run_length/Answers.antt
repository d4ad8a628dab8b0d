use Rattle.std.proofs.Common.{◌≡◌, get_or, sym, ◌∙◌, arith}
use Rattle.std.proofs.lemmas.List.Elements.{All-more}
use Rattle.pprof_codec.specs.Tables.{stack_at}
use Rattle.pprof_codec.proofs.PlaceLemmas.{alike-both}
use Rattle.pprof_codec.proofs.runs.run_length.Goals as goal

pub loop-count-preserved : goal.loop-count-preserved
loop-count-preserved c =
    let order = c.args.order.now in
    record {
      some = omega arith;
      within = omega arith;
      same =
          λ pprof alike known.
          All-more (λ at. stack_at pprof at ≡ stack_at pprof (get_or order 0 0)) order c.loop-count.count 0 (omega arith) (c.loop-count.invariant.same pprof alike known)
          (alike-both pprof c.args.stacks.now _ _ alike (known c.loop-count.count 0 (omega arith)) (known 0 0 (omega arith))
          (sym c.stack_number.ensures ∙ c.if-stack_number-first.true ∙ c.stack_number-first.ensures));
    }
