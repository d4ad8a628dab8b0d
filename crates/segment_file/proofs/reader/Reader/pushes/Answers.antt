use Rattle.std.proofs.Common.{[], ◌∷◌, map, ap, ◌∙◌, arith}
use Rattle.std.proofs.lemmas.List.{map-append}
use Rattle.segment_file.specs.Files.{push_fields}
use Rattle.segment_file.specs.Objects.{push_said}
use Rattle.segment_file.specs.ReadFields.{each_push}
use Rattle.segment_file.specs.Reading.{Begins, BeginsCounted, Stopped}
use Rattle.segment_file.proofs.ReadAnswers.{exit}
use Rattle.segment_file.proofs.ReadLemmas.{counted_more}
use Rattle.segment_file.proofs.ReadFiles.{pushes_at}
use Rattle.segment_file.proofs.reader.Reader.pushes.Goals as goal

pub returns-in_err-push : goal.returns-in_err-push
returns-in_err-push c =
    let before = map push_said c.loop.pushes.items in
    let from = c.args.self.now.cursor in
    let here = c.loop.self.cursor in
    exit c.from_residual.result c.in_err-push.field-0.0 _ (Stopped (Begins push_fields) here) (Stopped (BeginsCounted c.args.count each_push) from)
    c.from_residual.ensures.1
    (λ fault s. pushes_at c.args.count before from here fault (omega (arith, c.loop.invariant.0, c.loop-test.true)) c.loop.invariant.1 s) c.in_err-push.ensures

pub loop-preserved : goal.loop-preserved
loop-preserved c =
    counted_more each_push (map push_said c.loop.pushes.items) (map push_said c.push-in-loop.new.self.items) c.loop.counter c.args.self.now.cursor c.loop.self.cursor
    c.push.new.self.cursor c.loop.invariant (
      push_said c.in_ok-push.push,
      ap (map push_said) c.in_ok-push-2.ensures.items ∙ map-append push_said c.loop.pushes.items (c.in_ok-push.push ∷ []),
      c.in_ok-push.ensures,
    )
