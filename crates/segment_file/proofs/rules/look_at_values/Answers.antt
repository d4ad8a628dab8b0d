use Rattle.std.proofs.Common.{ℕ, List, ◌∙◌, subst}
use Rattle.std.specs.List.{All}
use Rattle.std.specs.Map.{keys_of}
use Rattle.std.specs.Str.{IsUtf8}
use Rattle.profile_model.specs.Stacks.{IsStack}
use Rattle.profile_model.specs.Sums.{Sample}
use Rattle.segment_file.proofs.EncodeLemmas.{seen_first}
use Rattle.segment_file.proofs.rules.look_at_values.Goals as goal

abbrev IsText : List (List ℕ) → Type 0
IsText stack = All IsUtf8 stack

pub loop-stack-init : goal.loop-stack-init
loop-stack-init c =
    let all = c.into_iter-stack-iterator.ensures.into_iter_gives ∙ c.iter-stack-items.ensures.stacks in
    record {
      stacks = subst (λ (l : List Sample). All IsStack (keys_of l)) all;
      frames = subst (λ (l : List Sample). All IsText (keys_of l)) all;
    }

pub loop-stack-preserved : goal.loop-stack-preserved
loop-stack-preserved c =
    let left = c.loop-stack.stack-iterator in
    let rest = c.next.new.self in
    let sample : Sample = (c.in-Some.stack.now, c.in-Some._value.now) in
    let values = c.args.values.now in
    record {
      stacks = seen_first IsStack (λ (s : Sample). s.0) left rest sample (All IsStack (keys_of values)) c.in-Some.ensures.steps c.look_at_stack.ensures.limits c.loop-stack.invariant.stacks;
      frames = seen_first IsText (λ (s : Sample). s.0) left rest sample (All IsText (keys_of values)) c.in-Some.ensures.steps c.look_at_stack.ensures.frames c.loop-stack.invariant.frames;
    }
