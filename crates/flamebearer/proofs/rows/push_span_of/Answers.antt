use Rattle.std.proofs.Common.{[], Vec, Global, ◌++◌, get_or, map, arith, sym, ap, ◌∙◌, append-nil}
use Rattle.std.proofs.lemmas.List.{length-map}
use Rattle.flamebearer.specs.declared.levels.Spot.{Spot}
use Rattle.flamebearer.specs.Pictures.{spans_of}
use Rattle.flamebearer.specs.Spots.{shown_at}
use Rattle.flamebearer.proofs.GatherLemmas.{read-view}
use Rattle.flamebearer.proofs.RowLemmas.{at-depth, past-depth}
use Rattle.flamebearer.proofs.rows.push_span_of.Goals as goal

pub returns-in_ok-push_span : goal.returns-in_ok-push_span
returns-in_ok-push_span c = λ stacks.
    let long = length-map c.args.levels.now (λ (level : Vec Spot Global). level.items) in
    c.in_ok-push_span.ensures stacks
    ∙ ap (λ level. c.args.row.now.items ++ get_or (spans_of 0 level) c.args.at [])
    (ap (map (shown_at stacks)) (c.deref.ensures.value ∙ read-view (λ (level : Vec Spot Global). level.items) c.args.levels.now c.args.depth c.index-levels-depth.result [] (omega arith) c.index-levels-depth.is)
    ∙ at-depth stacks (map (λ level. level.items) c.args.levels.now) c.args.depth (omega arith))

pub returns-else-depth-levels : goal.returns-else-depth-levels
returns-else-depth-levels c = λ stacks.
    let long = length-map c.args.levels.now (λ (level : Vec Spot Global). level.items) in
    sym (append-nil c.args.row.now.items) ∙ ap (λ span. c.args.row.now.items ++ span) (sym (past-depth stacks (map (λ level. level.items) c.args.levels.now) c.args.depth c.args.at (omega arith)))
