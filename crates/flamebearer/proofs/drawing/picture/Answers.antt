use Rattle.std.proofs.Common.{List, [], Bor, Vec, Global, length, map, get_or, arith, ap, sym, ◌∙◌, subst}
use Rattle.std.specs.Prelude.{fold, max, nat_eq}
use Rattle.std.specs.List.{flat_map, range_with_len}
use Rattle.std.specs.Cmp.Lexicographic.{pointwise}
use Rattle.std.proofs.lemmas.List.{length-map}
use Rattle.std.proofs.lemmas.List.FromFn.{length-map-range_with_len}
use Rattle.std.proofs.lemmas.List.Elements.{All-map}
use Rattle.flamebearer.specs.declared.branches.Value.{Value}
use Rattle.flamebearer.specs.declared.levels.Spot.{Spot}
use Rattle.flamebearer.specs.Branches.{stacks_of}
use Rattle.flamebearer.specs.Pictures.{is_kept, level_of, row_of}
use Rattle.flamebearer.specs.Ranks.{AreWeights, weight_in}
use Rattle.flamebearer.specs.Rows.{all_shown, levels_in, spots_of}
use Rattle.flamebearer.specs.Sides.{IsSide}
use Rattle.flamebearer.specs.Spots.{AreWithin, name_at}
use Rattle.flamebearer.specs.Trees.{firsts}
use Rattle.flamebearer.proofs.GatherLemmas.{read-view}
use Rattle.flamebearer.proofs.PictureLemmas.{first-within, picture-is, weights}
use Rattle.flamebearer.proofs.drawing.picture.Goals as goal

pub kept_places-requires-clause-weights : goal.kept_places-requires-clause-weights
kept_places-requires-clause-weights c = λ k d within.
    subst (λ n. AreWeights n (get_or c.args.sides.now k d).now) (sym c.frames-frames.ensures.many) (weights c.args.branches.now (get_or c.args.sides.now k d).now (c.requires.sides k d within))

pub laid_of-requires-clause-kept : goal.laid_of-requires-clause-kept
laid_of-requires-clause-kept c =
    ap length (c.deref.ensures.value ∙ c.in_ok-kept.ensures) ∙ length-map-range_with_len _ 0 (length c.frames-frames.result.now) ∙ c.frames-frames.ensures.many

pub names_of-requires : goal.names_of-requires
names_of-requires c =
    let long = length-map c.args.sides.now (λ (side : Bor (List Value)). side.now) in
    let laid = length-map c.in_ok-laid.laid.items levels_in in
    let some = c.requires.some in
    let by = c.in_ok-laid.ensures in
    let many = by.many in
    let read = read-view levels_in c.in_ok-laid.laid.items 0 c.index.result.now [] (omega arith) c.index.ensures in
    let size = ap length c.in_ok-labels.ensures ∙ c.frames-frames.ensures.many in
    subst (λ levels. AreWithin (length c.in_ok-labels.labels.frames.now) levels) (sym (ap (map (λ (level : Vec Spot Global). level.items)) c.deref-2.ensures.value ∙ read))
    (subst (λ n. AreWithin n (get_or (spots_of c.in_ok-laid.laid.items) 0 [])) (sym size)
    (first-within c.args.branches.now c.deref.result.now (map (λ side. side.now) c.args.sides.now) (spots_of c.in_ok-laid.laid.items) by (omega arith)))

pub rows_of-requires-clause-places : goal.rows_of-requires-clause-places
rows_of-requires-clause-places c =
    let long = length-map c.args.sides.now (λ (side : Bor (List Value)). side.now) in
    let some = c.requires.some in
    let size = ap length c.in_ok-labels.ensures ∙ c.frames-frames.ensures.many in
    subst (λ laid. AreWithin (length c.in_ok-labels.labels.frames.now) (get_or (spots_of laid) 0 [])) (sym c.deref-3.ensures.value)
    (subst (λ n. AreWithin n (get_or (spots_of c.in_ok-laid.laid.items) 0 [])) (sym size)
    (first-within c.args.branches.now c.deref.result.now (map (λ side. side.now) c.args.sides.now) (spots_of c.in_ok-laid.laid.items) c.in_ok-laid.ensures (omega arith)))

pub returns : goal.returns
returns c =
    let sides = map (λ (side : Bor (List Value)). side.now) c.args.sides.now in
    let long = length-map c.args.sides.now (λ (side : Bor (List Value)). side.now) in
    let laid = length-map c.in_ok-laid.laid.items levels_in in
    let some = c.requires.some in
    let by = c.in_ok-laid.ensures in
    let many = by.many in
    let read = read-view levels_in c.in_ok-laid.laid.items 0 c.index.result.now [] (omega arith) c.index.ensures in
    let stacks = ap stacks_of c.in_ok-labels.ensures ∙ c.frames-frames.ensures.stacks in
    let first = ap (map (λ (level : Vec Spot Global). level.items)) c.deref-2.ensures.value ∙ read in
    picture-is c.args.branches.now sides c.args.most c.deref.result.now (spots_of c.in_ok-laid.laid.items) c.in_ok-names.names.items _ c.greatest_own-max_self.result
    (omega arith) (All-map (IsSide c.args.branches.now) (λ (side : Bor (List Value)). side.now) c.args.sides.now c.requires.sides)
    (c.deref.ensures.value ∙ c.in_ok-kept.ensures ∙ ap (λ n. map (is_kept (weight_in sides) n c.args.most) (range_with_len 0 n)) c.frames-frames.ensures.many)
    by
    (record {
      named = c.in_ok-names.ensures.names ∙ (λ i. firsts (pointwise nat_eq) (flat_map (map (λ spot. name_at (stacks i) spot.stands)) (first i)));
      rowed = c.in_ok-levels.ensures c.in_ok-names.names.items c.in_ok-names.ensures.numbers
          ∙ (λ i. map (λ depth. row_of c.in_ok-names.names.items (level_of (all_shown (stacks i) (spots_of (c.deref-3.ensures.value i))) depth)) (range_with_len 0 (length (get_or (spots_of (c.deref-3.ensures.value i)) 0 []))));
      greatest = c.greatest_own-max_self.ensures ∙ ap (λ laid. fold max 0 (flat_map (flat_map (map (λ spot. spot.own))) (spots_of laid))) c.deref-4.ensures.value;
    })
