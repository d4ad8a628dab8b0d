use Rattle.std.proofs.Common.{◌≡◌, [], Vec, Global, length, map, get_or, arith, ap, ◌∙◌}
use Rattle.std.specs.List.{range_with_len}
use Rattle.flamebearer.specs.declared.levels.Spot.{Spot}
use Rattle.flamebearer.specs.Branches.{stacks_of}
use Rattle.flamebearer.specs.Pictures.{level_of, row_of}
use Rattle.flamebearer.specs.Rows.{all_shown, spots_of}
use Rattle.flamebearer.proofs.RowLemmas.{first-size, rows-grow}
use Rattle.flamebearer.proofs.rows.rows_of.Goals as goal

pub loop-depth-preserved : goal.loop-depth-preserved
loop-depth-preserved c = λ names are.
    rows-grow (λ row. row.items) (λ depth. row_of names (level_of (all_shown (stacks_of c.args.labels.now.frames.now) (spots_of c.args.laid.now)) depth)) c.loop-depth.rows.items _ c.in_ok-row.row c.loop-depth.depth
    (c.loop-depth.invariant names are) (c.in_ok-row.ensures names are) c.in_ok-push.ensures.items

pub returns : goal.returns
returns c = λ names are.
    let size = first-size (λ (level : Vec Spot Global). level.items) (λ (levels : Vec (Vec Spot Global) Global). levels.items) c.args.laid.now c.index-laid-0.result c.requires.some c.index-laid-0.is in
    let count = c.len-count.ensures in
    let last : c.loop-depth.depth ≡ length (get_or (spots_of c.args.laid.now) 0 []) = omega (arith, c.index-laid-0.result.ok.0) in
    c.loop-depth.invariant names are
    ∙ ap (λ n. map (λ depth. row_of names (level_of (all_shown (stacks_of c.args.labels.now.frames.now) (spots_of c.args.laid.now)) depth)) (range_with_len 0 n)) last
