use Rattle.std.proofs.Common.{arith}
use Rattle.segment_file.specs.Files.{sample_fields}
use Rattle.segment_file.specs.Reading.{Begins, BeginsCounted, Stopped}
use Rattle.segment_file.proofs.ReadAnswers.{exit}
use Rattle.segment_file.proofs.ReadLemmas.{counted_more}
use Rattle.segment_file.proofs.ReadStacks.{samples_at}
use Rattle.segment_file.proofs.reader.Reader.counted_samples.Goals as goal

pub returns-in_err-sample : goal.returns-in_err-sample
returns-in_err-sample c =
    let before = c.loop.sums in
    let from = c.args.self.now.cursor in
    let here = c.loop.self.cursor in
    exit c.from_residual.result c.in_err-sample.field-0.0 _ (Stopped (Begins (sample_fields before)) here) (Stopped (BeginsCounted c.args.count sample_fields) from)
    c.from_residual.ensures.1
    (λ fault s. samples_at c.args.count before from here fault (omega (arith, c.loop.invariant.0, c.loop-test.true)) c.loop.invariant.1 s) c.in_err-sample.ensures

pub loop-preserved : goal.loop-preserved
loop-preserved c =
    counted_more sample_fields c.loop.sums c.sample.new.sums c.loop.counter c.args.self.now.cursor c.loop.self.cursor c.sample.new.self.cursor c.loop.invariant c.in_ok-sample.ensures
