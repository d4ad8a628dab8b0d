use Rattle.std.proofs.Common.{arith, rules}
use Rattle.profile_model.proofs.SumLemmas.{stored-inserted, total-inserted, value-le-total, value-looked_up}
use Rattle.profile_model.proofs.sums.StackSums.add.Goals as goal

pub overflow_add-held : goal.overflow_add-held
overflow_add-held c =
    let before = c.self.inside.values.entries in
    let held = value-looked_up before c.args.stack _ c.or_insert-held.result.now c.in_ok-entry.ensures.value c.or_insert-held.ensures.value in
    let few = value-le-total before c.args.stack in
    let summed = c.self.invariant.summed in
    let total = c.self.invariant.bounded in
    omega arith

pub invariant_of-self-2 : goal.invariant_of-self-2
invariant_of-self-2 c =
    let before = c.self.inside.values.entries in
    let held = value-looked_up before c.args.stack _ c.or_insert-held.result.now c.in_ok-entry.ensures.value c.or_insert-held.ensures.value in
    stored-inserted before _ c.args.stack c.or_insert-held.result.now c.args.value c.self.inside.total held
    c.in_ok-entry.ensures.ordered (search rules) c.self.invariant (omega arith) (let total = c.self.invariant.bounded in omega arith)

pub returns-clause-total : goal.returns-clause-total
returns-clause-total c =
    let before = c.self.inside.values.entries in
    let held = value-looked_up before c.args.stack _ c.or_insert-held.result.now c.in_ok-entry.ensures.value c.or_insert-held.ensures.value in
    let grown = total-inserted before c.args.self.now c.args.stack c.or_insert-held.result.now c.args.value c.self.view_is held c.in_ok-entry.ensures.ordered in
    search (rules, grown)
