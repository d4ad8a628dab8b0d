use Rattle.std.proofs.Common.{ℕ, List, ◌∙◌, subst}
use Rattle.std.specs.List.{All}
use Rattle.std.specs.Map.{keys_of}
use Rattle.std.specs.Str.{IsUtf8}
use Rattle.profile_model.specs.Stacks.{IsStack}
use Rattle.profile_model.specs.Sums.{Sample}
use Rattle.segment_file.specs.Bytes.{sample_bytes}
use Rattle.segment_file.proofs.EncodeLemmas.{none_written, seen_first, written_first}
use Rattle.segment_file.proofs.encode.put_values.Goals as goal

abbrev IsText : List (List ℕ) → Type 0
IsText stack = All IsUtf8 stack

pub loop-stack-init : goal.loop-stack-init
loop-stack-init c =
    let all = c.into_iter-stack-iterator.ensures.into_iter_gives ∙ c.iter-stack-items.ensures.stacks in
    record {
      bytes = none_written sample_bytes c.into_iter-stack-iterator.result c.args.values.now c.len.result c.args.out.now.items c.put_count.new.out.items all c.len.ensures c.in_ok-put_count.ensures;
      stacks = subst (λ (l : List Sample). All IsStack (keys_of l)) all;
      frames = subst (λ (l : List Sample). All IsText (keys_of l)) all;
    }

pub loop-stack-preserved : goal.loop-stack-preserved
loop-stack-preserved c =
    let left = c.loop-stack.stack-iterator in
    let rest = c.next.new.self in
    let sample : Sample = (c.in-Some.stack.now, c.in-Some.value.now) in
    let values = c.args.values.now in
    record {
      bytes = written_first sample_bytes left rest sample c.loop-stack.out.items c.put_sample.new.out.items _ c.in-Some.ensures.steps c.loop-stack.invariant.bytes c.in_ok-put_sample.ensures.bytes;
      stacks = seen_first IsStack (λ (s : Sample). s.0) left rest sample (All IsStack (keys_of values)) c.in-Some.ensures.steps c.in_ok-put_sample.ensures.limits c.loop-stack.invariant.stacks;
      frames = seen_first IsText (λ (s : Sample). s.0) left rest sample (All IsText (keys_of values)) c.in-Some.ensures.steps c.in_ok-put_sample.ensures.frames c.loop-stack.invariant.frames;
    }
