use Rattle.std.proofs.Common.{ℕ, ◌++◌, ◌∷◌, [], Err, List, Result, length, replicate, arith, ap, ◌∙◌}
use Rattle.std.proofs.lemmas.List.{length-replicate, replicate_more}
use Rattle.tenant_books.specs.declared.verdict.Verdict.{Verdict}
use Rattle.shared_store.specs.declared.refusal.Refusal.{Refusal}
use Rattle.shared_store.proofs.flush.tell_refusal.Goals as goal

pub push_reserved-requires : goal.push_reserved-requires
push_reserved-requires c =
    let one : Result Verdict Refusal = Err c.args.refusal in
    let long = ap length c.loop.invariant.items ∙ length-replicate c.loop.counter one in
    omega (arith, long, c.loop-test.true, c.requires.room, c.loop.invariant.capacity, c.loop.told.ok.0)

pub loop-preserved : goal.loop-preserved
loop-preserved c =
    let one : Result Verdict Refusal = Err c.args.refusal in record {
      items = c.push_reserved.ensures.items ∙ ap (λ (l : List (Result Verdict Refusal)). l ++ one ∷ []) c.loop.invariant.items ∙ replicate_more c.loop.counter one;
      capacity = c.push_reserved.ensures.capacity ∙ c.loop.invariant.capacity;
    }

pub returns : goal.returns
returns c =
    let one : Result Verdict Refusal = Err c.args.refusal in
    c.loop.invariant.items ∙ ap (λ (n : ℕ). replicate n one) (omega (arith, c.loop.auto.counter-end, c.loop-test.false))
