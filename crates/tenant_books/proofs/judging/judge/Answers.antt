use Rattle.std.proofs.Common.{◌≡◌, ◌+◌, ◌<◌, ◌++◌, ◌∷◌, [], List, true, length, arith, sym, ap, ◌∙◌, subst}
use Rattle.std.proofs.lemmas.Iterator.Adapters.{YieldsList-from_vec}
use Rattle.std.proofs.lemmas.Iterator.Consumers.{YieldsList-end}
use Rattle.std.proofs.lemmas.List.{append-nil, append_assoc, length-append, length_push, map-id}
use Rattle.profile_model.specs.declared.push.Push.{Push}
use Rattle.profile_model.specs.Limits.{total_bound}
use Rattle.profile_model.specs.Pushes.{profiles_total}
use Rattle.push_history.specs.History.{HasBoundedTotals, tenant_total}
use Rattle.tenant_books.specs.Keeping.{is_kept, is_kept_alone}
use Rattle.tenant_books.specs.Limits.{limit_of}
use Rattle.tenant_books.specs.Verdicts.{AreVerdicts, IsVerdict, kept_of, with_kept}
use Rattle.tenant_books.proofs.KeptLemmas.{kept_more, kept_still, none_more}
use Rattle.tenant_books.proofs.VerdictLemmas.{first-short, kept-behind, kept-bounded, kept-few, kept-grows, one-judgement, verdict-bounded, verdicts-grow, verdicts-more}
use Rattle.tenant_books.proofs.judging.judge.Goals as goal

pub loop-ask-preserved : goal.loop-ask-preserved
loop-ask-preserved c =
    let kept = c.loop-ask.kept.items in
    let ask = c.in-Some.ask in
    let verdict = c.verdict_after-verdict.result in
    let limit = limit_of c.args.limits.now in
    let few = c.loop-ask.invariant.few in
    let long = length_push c.loop-ask.yielded ask in
    let size = ap (length {A = Push}) c.deref.ensures.value in
    let some = kept-few kept ask.push verdict in
    let more = kept-grows kept ask.push verdict in
    let grown = ap (length {A = Push}) c.in_ok-keep.ensures in
    record {
      within =
          subst HasBoundedTotals (sym c.in_ok-keep.ensures)
          (kept-bounded kept ask.push verdict c.loop-ask.invariant.within
          (subst (λ (pushes : List Push). is_kept verdict ≡ true → tenant_total pushes ask.push.tenant + profiles_total ask.push.profiles < total_bound) c.deref.ensures.value c.verdict_after-verdict.ensures.within));
      few = omega arith;
      long =
          let told = ap length c.in_ok-push.ensures.items ∙ length_push c.loop-ask.verdicts.items verdict in
          let same = c.loop-ask.invariant.long in omega arith;
      kept =
          c.in_ok-keep.ensures
          ∙ ap (λ before. with_kept before ask.push verdict) c.loop-ask.invariant.kept
          ∙ sym (kept_more c.loop-ask.yielded c.loop-ask.verdicts.items ask verdict c.loop-ask.invariant.long)
          ∙ ap (λ told. kept_of (c.loop-ask.yielded ++ ask ∷ []) told) (sym c.in_ok-push.ensures.items);
      none = λ some.
          let parts = none_more (is_kept_alone c.args.books.now c.args.limits.now) c.loop-ask.yielded ask some in
          let before = c.loop-ask.invariant.none parts.0 in
          c.in_ok-keep.ensures
          ∙ kept_still kept ask.push verdict (c.verdict_after-verdict.ensures.alone (c.deref.ensures.value ∙ before) ∙ parts.1)
          ∙ before;
      verdicts = λ history are bounded end short.
          let is = subst (λ (pushes : List Push). IsVerdict limit (history ++ pushes) ask verdict) c.deref.ensures.value (c.verdict_after-verdict.ensures.verdict history are bounded end (omega arith)) in
          subst (λ told. AreVerdicts limit history (c.loop-ask.yielded ++ ask ∷ []) told (history ++ c.keep.new.kept.items)) (sym c.in_ok-push.ensures.items)
          (subst (λ last. AreVerdicts limit history (c.loop-ask.yielded ++ ask ∷ []) (c.loop-ask.verdicts.items ++ verdict ∷ []) last)
          (sym (ap (λ more. history ++ more) c.in_ok-keep.ensures ∙ kept-behind history kept ask.push verdict))
          (verdicts-more limit history c.loop-ask.yielded c.loop-ask.verdicts.items (history ++ kept) ask verdict (c.loop-ask.invariant.verdicts history are bounded end (omega arith)) is));
      bounded = λ history are bounded end short.
          let is = subst (λ (pushes : List Push). IsVerdict limit (history ++ pushes) ask verdict) c.deref.ensures.value (c.verdict_after-verdict.ensures.verdict history are bounded end (omega arith)) in
          subst HasBoundedTotals (sym (ap (λ more. history ++ more) c.in_ok-keep.ensures ∙ kept-behind history kept ask.push verdict))
          (verdict-bounded limit (history ++ kept) ask verdict (c.loop-ask.invariant.bounded history are bounded end (omega arith)) c.verdict_after-verdict.ensures.limit is);
      short = λ history last more others are bounded end ends told low.
          let before = c.loop-ask.invariant.short history last (ask ∷ more) others are bounded end ends
          (subst (λ all. AreVerdicts limit history all others last) (append_assoc c.loop-ask.yielded (ask ∷ []) more) told) low in
          let is = subst (λ (pushes : List Push). IsVerdict limit (history ++ pushes) ask verdict) c.deref.ensures.value (c.verdict_after-verdict.ensures.verdict history are bounded end (omega arith)) in
          let reached = verdicts-more limit history c.loop-ask.yielded c.loop-ask.verdicts.items (history ++ kept) ask verdict (c.loop-ask.invariant.verdicts history are bounded end before) is in
          let least = first-short limit history (c.loop-ask.yielded ++ ask ∷ []) more (c.loop-ask.verdicts.items ++ verdict ∷ []) others (with_kept (history ++ kept) ask.push verdict) last reached told in
          let same = ap (length {A = Push}) (kept-behind history kept ask.push verdict) in
          let long = length-append history (with_kept kept ask.push verdict) in
          omega arith;
    }

pub returns-clause-one : goal.returns-clause-one
returns-clause-one c = λ history others last are bounded end told low.
    let limit = limit_of c.args.limits.now in
    let it = c.into_iter-ask-iterator.result in
    let gives = c.into_iter-ask-iterator.ensures.into_iter_gives in
    let whole = sym (map-id c.loop-ask.yielded) ∙ (YieldsList-end (YieldsList-from_vec c.args.asks.items gives.0 (gives.1 ∙ c.args.asks.ok.0)) c.loop-ask.yielded c.loop-ask.ask-iterator c.loop-ask.yielded_by c.next.result c.next.new.self c.in-None.is c.next.ensures.steps).0 in
    let grown = verdicts-grow limit history c.args.asks.items others last told in
    let short = c.loop-ask.invariant.short history last [] others are bounded end (omega arith)
    (subst (λ asks. AreVerdicts limit history asks others last) (sym (append-nil c.loop-ask.yielded ∙ whole)) told) low in
    one-judgement limit history c.args.asks.items c.loop-ask.verdicts.items others (history ++ c.loop-ask.kept.items) last
    (subst (λ asks. AreVerdicts limit history asks c.loop-ask.verdicts.items (history ++ c.loop-ask.kept.items)) whole (c.loop-ask.invariant.verdicts history are bounded end short)) told
