use Rattle.std.proofs.Common.{◌++◌, ◌∙◌, ap}
use Rattle.wire_proto.specs.Writing.{varint}
use Rattle.pprof_writer.proofs.WriterLemmas.{none_left, one_frame_more, others-among}
use Rattle.pprof_writer.proofs.writer.put_ids.Goals as goal

pub id_of-requires-clause-there : goal.id_of-requires-clause-there
id_of-requires-clause-there c =
    (others-among c.args.frames.now c.loop-frame.frame-iterator.iter.rest.now c.next.new.self.iter.rest.now c.in-Some.frame.now c.in-Some.ensures.steps c.loop-frame.invariant.there).1

pub loop-frame-preserved : goal.loop-frame-preserved
loop-frame-preserved c = record {
  there = (others-among c.args.frames.now c.loop-frame.frame-iterator.iter.rest.now c.next.new.self.iter.rest.now c.in-Some.frame.now c.in-Some.ensures.steps c.loop-frame.invariant.there).0;
  written =
      one_frame_more c.args.frames.now c.loop-frame.frame-iterator.iter.rest.now c.next.new.self.iter.rest.now c.in-Some.frame.now c.loop-frame.ids.items c.put_varint.new.out.items _
      c.in-Some.ensures.steps c.loop-frame.invariant.written (c.in_ok-put_varint.ensures.bytes ∙ ap (λ n. c.loop-frame.ids.items ++ varint n) c.id_of.ensures);
}

pub returns : goal.returns
returns c = none_left c.args.frames.now c.loop-frame.frame-iterator.iter.rest.now c.loop-frame.ids.items _ c.in-None.ensures.steps.0 c.loop-frame.invariant.written
