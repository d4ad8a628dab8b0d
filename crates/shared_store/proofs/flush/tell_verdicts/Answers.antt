use Rattle.std.proofs.Common.{◌++◌, ◌∷◌, [], Ok, List, Result, length, map, arith, sym, ap, ◌∙◌}
use Rattle.std.proofs.lemmas.Iterator.Adapters.{YieldsList-from_vec}
use Rattle.std.proofs.lemmas.Iterator.Consumers.{YieldsList-end, YieldsList-turn}
use Rattle.std.proofs.lemmas.List.{length-map, map-id, map_push}
use Rattle.tenant_books.specs.declared.verdict.Verdict.{Verdict}
use Rattle.shared_store.specs.declared.refusal.Refusal.{Refusal}
use Rattle.shared_store.proofs.flush.tell_verdicts.Goals as goal

abbrev told_of : Verdict → Result Verdict Refusal
told_of verdict = Ok verdict

pub push_reserved-requires : goal.push_reserved-requires
push_reserved-requires c =
    let gives = c.into_iter-verdict-iterator.ensures.into_iter_gives in
    let turn = YieldsList-turn (YieldsList-from_vec c.args.verdicts.items gives.0 (gives.1 ∙ c.args.verdicts.ok.0)) c.loop-verdict.yielded c.loop-verdict.verdict-iterator c.loop-verdict.yielded_by c.next.result c.next.new.self c.in-Some.verdict c.in-Some.is c.next.ensures.steps in
    let long = ap length c.loop-verdict.invariant.items ∙ length-map c.loop-verdict.yielded told_of in
    omega (arith, turn.0, long, c.requires.room, c.loop-verdict.invariant.capacity, c.loop-verdict.told.ok.0)

pub loop-verdict-preserved : goal.loop-verdict-preserved
loop-verdict-preserved c = record {
  items =
      c.push_reserved.ensures.items
      ∙ ap (λ (l : List (Result Verdict Refusal)). l ++ Ok c.in-Some.verdict ∷ []) c.loop-verdict.invariant.items
      ∙ sym (map_push told_of c.loop-verdict.yielded c.in-Some.verdict);
  capacity = c.push_reserved.ensures.capacity ∙ c.loop-verdict.invariant.capacity;
}

pub returns : goal.returns
returns c =
    let gives = c.into_iter-verdict-iterator.ensures.into_iter_gives in
    let whole = sym (map-id c.loop-verdict.yielded) ∙ (YieldsList-end (YieldsList-from_vec c.args.verdicts.items gives.0 (gives.1 ∙ c.args.verdicts.ok.0)) c.loop-verdict.yielded c.loop-verdict.verdict-iterator c.loop-verdict.yielded_by c.next.result c.next.new.self c.in-None.is c.next.ensures.steps).0 in
    c.loop-verdict.invariant.items ∙ ap (map told_of) whole
