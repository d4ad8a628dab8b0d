use Rattle.std.proofs.Common.{List, subst, sym, ap, ◌∙◌}
use Rattle.std.specs.List.Sorted.{IsStrictlySortedBy}
use Rattle.std.specs.Map.{keys_of}
use Rattle.profile_model.specs.StackOrder.{stacks_total}
use Rattle.profile_model.specs.Stacks.{stack_cmp}
use Rattle.profile_model.specs.Sums.{Sample}
use Rattle.segment_file.specs.ReadFields.{is_above_stacks}
use Rattle.segment_file.proofs.ReadOrder.{above_last}
use Rattle.segment_file.proofs.reader_samples.is_above.Goals as goal

pub returns-in-Some : goal.returns-in-Some
returns-in-Some c =
    let cut = sym c.iter-entries.ensures.stacks ∙ c.in-Some.ensures.steps in
    let stack = c.args.stack.now in
    c.is_below.ensures
    ∙ above_last stacks_total c.next_back.new.self (c.in-Some.last.now, c.in-Some.field-0-1.now) stack
    (subst (λ (l : List Sample). IsStrictlySortedBy stack_cmp (keys_of l)) cut c.iter-entries.ensures.sums.ascending)
    ∙ ap (λ (l : List Sample). is_above_stacks l stack) (sym cut)
