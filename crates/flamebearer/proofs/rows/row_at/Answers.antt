use Rattle.std.proofs.Common.{[], Vec, Global, length, arith, sym, ◌∙◌, subst}
use Rattle.std.specs.List.{All}
use Rattle.std.proofs.lemmas.List.{length-map}
use Rattle.std.proofs.lemmas.Result.{MatchResult-weaker}
use Rattle.flamebearer.specs.declared.levels.Spot.{Spot}
use Rattle.flamebearer.specs.Branches.{stacks_of}
use Rattle.flamebearer.specs.Rows.{levels_in, spots_of}
use Rattle.flamebearer.specs.Spots.{IsPlace}
use Rattle.flamebearer.proofs.RowLemmas.{level-read, row-is}
use Rattle.flamebearer.proofs.rows.row_at.Goals as goal

pub numbers_of-requires : goal.numbers_of-requires
numbers_of-requires c =
    subst (All (λ (spot : Spot). IsPlace (length c.args.labels.now.frames.now) spot.stands))
    (sym (c.deref.ensures.value ∙ level-read (λ (level : Vec Spot Global). level.items) (λ (levels : Vec (Vec Spot Global) Global). levels.items) c.args.laid.now c.args.depth c.index-laid-0.result c.index.result.now
    c.requires.some c.requires.depth c.index-laid-0.is c.index.ensures))
    (c.requires.places c.args.depth [] c.requires.depth)

pub returns : goal.returns
returns c =
    let long = length-map c.args.laid.now levels_in in
    let some = c.requires.some in
    MatchResult-weaker c.numbered_row.result c.numbered_row.ensures
    (λ row is. λ names are.
    is (stacks_of c.args.labels.now.frames.now)
    ∙ row-is (stacks_of c.args.labels.now.frames.now) (spots_of c.args.laid.now) c.args.depth names c.deref.result.now c.deref-2.result.now (omega arith) c.requires.depth
    (c.deref.ensures.value ∙ level-read (λ (level : Vec Spot Global). level.items) (λ (levels : Vec (Vec Spot Global) Global). levels.items) c.args.laid.now c.args.depth c.index-laid-0.result c.index.result.now
    c.requires.some c.requires.depth c.index-laid-0.is c.index.ensures)
    (c.deref-2.ensures.value ∙ c.in_ok-numbers.ensures names are))
    (λ _ _. tt)
