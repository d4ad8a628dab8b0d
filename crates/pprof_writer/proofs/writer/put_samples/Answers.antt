use Rattle.std.proofs.Common.{List, ◌++◌, ◌∙◌, ap, sym, subst}
use Rattle.std.specs.Prelude.{IsTrue}
use Rattle.std.specs.List.{All}
use Rattle.std.specs.Map.{keys_of}
use Rattle.std.proofs.lemmas.List.Elements.{All-head, All-tail}
use Rattle.profile_model.specs.Stacks.{IsStack}
use Rattle.profile_model.specs.Sums.{Sample}
use Rattle.pprof_writer.specs.Fields.{message}
use Rattle.pprof_writer.specs.Tables.{is_among}
use Rattle.pprof_writer.specs.Written.{fields_with, written_sample}
use Rattle.pprof_writer.proofs.FrameLemmas.{AllAmong}
use Rattle.pprof_writer.proofs.WriterLemmas.{one_member_more, one_stack_more}
use Rattle.pprof_writer.proofs.writer.put_samples.Goals as goal

pub loop-stack-init : goal.loop-stack-init
loop-stack-init c =
    let all = c.into_iter-stack-iterator.ensures.into_iter_gives ∙ c.iter-stack-items.ensures.stacks in
    record {
      there = subst (AllAmong c.args.frames.now) (sym all) c.requires.there;
      written = ap (λ left. c.args.out.now.items ++ message (fields_with 2 (written_sample c.args.frames.now) left)) all;
      stacks = subst (λ (left : List Sample). All IsStack (keys_of left)) all;
    }

pub put_sample-requires-clause-there : goal.put_sample-requires-clause-there
put_sample-requires-clause-there c =
    All-head (λ (sample : Sample). All (λ frame. IsTrue (is_among c.args.frames.now frame)) sample.0) (c.in-Some.stack.now, c.in-Some.value.now) c.next.new.self
    (subst (AllAmong c.args.frames.now) c.in-Some.ensures.steps c.loop-stack.invariant.there)

pub loop-stack-preserved : goal.loop-stack-preserved
loop-stack-preserved c = record {
  there =
      All-tail (λ (sample : Sample). All (λ frame. IsTrue (is_among c.args.frames.now frame)) sample.0) (c.in-Some.stack.now, c.in-Some.value.now) c.next.new.self
      (subst (AllAmong c.args.frames.now) c.in-Some.ensures.steps c.loop-stack.invariant.there);
  written =
      one_member_more 2 (written_sample c.args.frames.now) c.loop-stack.stack-iterator c.next.new.self (c.in-Some.stack.now, c.in-Some.value.now) c.loop-stack.out.items c.put_sample.new.out.items _
      c.in-Some.ensures.steps c.loop-stack.invariant.written c.in_ok-put_sample.ensures.written;
  stacks = one_stack_more c.loop-stack.stack-iterator c.next.new.self (c.in-Some.stack.now, c.in-Some.value.now) _ c.in-Some.ensures.steps c.in_ok-put_sample.ensures.limits c.loop-stack.invariant.stacks;
}
