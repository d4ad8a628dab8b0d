use Rattle.std.proofs.Common.{◌≡◌, ◌∙◌, ◌<◌, ap, sym, subst, arith}
use Rattle.std.specs.BTreeMap.{IsFromIterResult}
use Rattle.std.specs.List.{All}
use Rattle.std.specs.Map.{values_of}
use Rattle.std.proofs.lemmas.Iterator.Adapters.{YieldsList-from_vec, fact_from_collect}
use Rattle.std.proofs.lemmas.Result.{IfOk-at_ok}
use Rattle.profile_model.specs.Limits.{total_bound}
use Rattle.profile_model.specs.Stacks.{stack_cmp}
use Rattle.profile_model.specs.Sums.{total_of}
use Rattle.profile_model.proofs.FromSamplesLemmas.{entries-of_samples}
use Rattle.profile_model.proofs.sums.StackSums.from_samples.Goals as goal

made : (c : goal.In_ok-values) → c.in_ok-values.values.entries ≡ c.args.samples.items
made c =
    let road = YieldsList-from_vec c.args.samples.items c.into_iter.ensures.rest (omega (arith, c.into_iter.ensures.len, c.args.samples.ok)) in
    let got = fact_from_collect (IsFromIterResult stack_cmp) c.collect.result c.collect.ensures.ran road in
    entries-of_samples c.args.samples.items c.requires.sums.ascending c.in_ok-values.values (IfOk-at_ok (IsFromIterResult stack_cmp c.args.samples.items) c.in_ok-values.was got)

pub invariant_of-result : goal.invariant_of-result
invariant_of-result c =
    let total : c.total_of-total.result ≡ total_of c.args.samples.items = c.total_of-total.ensures ∙ ap total_of c.deref.ensures.value in
    record {
      summed = total ∙ ap total_of (sym (made c));
      bounded = subst (λ n. n < total_bound) (sym total) c.requires.sums.bounded;
      positive = subst (λ samples. All (λ value. 0 < value) (values_of samples)) (sym (made c)) c.requires.sums.positive;
    }

pub returns : goal.returns
returns c = record { value = made c }
