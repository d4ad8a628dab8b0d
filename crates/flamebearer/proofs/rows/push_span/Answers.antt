use Rattle.std.proofs.Common.{[], ◌∷◌, ◌++◌, sym, ap, ◌∙◌, append-nil}
use Rattle.flamebearer.specs.declared.levels.Stands.TheVariants.{Root}
use Rattle.flamebearer.specs.declared.levels.Spot.{Spot}
use Rattle.flamebearer.proofs.RowLemmas.{span-at, span-past, three-more}
use Rattle.flamebearer.proofs.rows.push_span.Goals as goal

abbrev none : Spot
none = record { stands = Root; own = 0; total = 0; begin = 0 }

pub returns-in_ok-push-3 : goal.returns-in_ok-push-3
returns-in_ok-push-3 c = λ stacks.
    three-more c.args.row.now.items c.push.new.self.items c.push-then-at-level.new.self.items _ _ _ _
    (c.in_ok-push.ensures.items ∙ ap (λ n. c.args.row.now.items ++ n ∷ []) (c.gap.ensures none)) c.in_ok-push-2.ensures.items c.in_ok-push-3.ensures.items
    ∙ ap (λ span. c.args.row.now.items ++ span) (sym (span-at stacks c.args.level.now c.args.at none c.if-at-level.true))

pub returns-else-at-level : goal.returns-else-at-level
returns-else-at-level c = λ stacks.
    sym (append-nil c.args.row.now.items) ∙ ap (λ span. c.args.row.now.items ++ span) (sym (span-past stacks c.args.level.now c.args.at c.if-at-level.false))
