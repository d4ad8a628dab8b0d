use Rattle.std.proofs.Common.{◌≡◌, ◌≤◌, [], drop, take}
use Rattle.profile_model.specs.Sums.{total_of}
use Rattle.push_history.specs.History.{tenant_total}
use Rattle.api_replies.specs.Rendering.{wanted_samples, with_samples}
use Rattle.api_replies.proofs.RenderingLemmas.{profiles_in}
use Rattle.api_replies.proofs.render.sums_of_history.Given as goal

abbrev pub invariant-loop-push : goal.invariant-loop-push
invariant-loop-push l = record {
  same : l.ask ≡ l.fn.ask;
  sums : with_samples l.sums (wanted_samples l.fn.ask (profiles_in (drop l.push-index l.history) l.fn.ask.part.tenant))
      ≡ with_samples [] (wanted_samples l.fn.ask (profiles_in l.history l.fn.ask.part.tenant));
  total : total_of l.sums ≤ tenant_total (take l.push-index l.history) l.fn.ask.part.tenant;
}
