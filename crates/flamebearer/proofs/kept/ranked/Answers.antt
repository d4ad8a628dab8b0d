use Rattle.std.proofs.Common.{◌≡◌, ℕ, ◌++◌, ◌∷◌, [], List, Bor, map, arith, ap, sym, ◌∙◌, subst}
use Rattle.std.specs.List.{All, range_with_len}
use Rattle.std.specs.declared.cmp.Reverse.{Reverse}
use Rattle.std.proofs.lemmas.List.{map_push}
use Rattle.std.proofs.lemmas.List.Elements.{All-push}
use Rattle.flamebearer.specs.declared.branches.Value.{Value}
use Rattle.flamebearer.specs.Ranks.{weight_in}
use Rattle.flamebearer.proofs.PlaceLemmas.{range-more}
use Rattle.flamebearer.proofs.RankLemmas.{ranked-are}
use Rattle.flamebearer.proofs.kept.ranked.Goals as goal

pub loop-place-preserved : goal.loop-place-preserved
loop-place-preserved c = record {
  places = ap (map (λ one. one.1)) c.in_ok-push.ensures.items ∙ map_push (λ one. one.1) c.loop-place.ranked.items _
      ∙ (λ i. c.loop-place.invariant.places i ++ c.rank_of.ensures.place i ∷ []) ∙ sym (range-more c.loop-place.place);
  weights = subst (All (λ (one : Reverse ℕ × ℕ). one.0.0 ≡ weight_in (map (λ (side : Bor (List Value)). side.now) c.args.sides.now) one.1)) (sym c.in_ok-push.ensures.items)
      (All-push (λ (one : Reverse ℕ × ℕ). one.0.0 ≡ weight_in (map (λ (side : Bor (List Value)). side.now) c.args.sides.now) one.1) c.loop-place.ranked.items _ c.loop-place.invariant.weights
      (subst (λ at. c.rank_of.result.0.0 ≡ weight_in (map (λ (side : Bor (List Value)). side.now) c.args.sides.now) at) (sym c.rank_of.ensures.place) c.rank_of.ensures.weight));
}

pub returns : goal.returns
returns c =
    let last : c.loop-place.place ≡ c.args.count = omega arith in
    ranked-are (λ one. one.0.0) (λ one. one.1) _ c.args.count _ c.sort_unstable.new.self.items c.sort_unstable.ensures.permutation
    (c.loop-place.invariant.places ∙ ap (range_with_len 0) last) c.loop-place.invariant.weights c.sort_unstable.ensures.sorted
