use Rattle.std.proofs.Common.{refl, ◌∙◌, rules}
use Rattle.segment_file.proofs.ReadAnswers.{text_broken, text_kept}
use Rattle.segment_file.proofs.texts.Texts.kept.Goals as goal

pub returns-in_ok-name-in-Ok : goal.returns-in_ok-name-in-Ok
returns-in_ok-name-in-Ok c = (
  text_kept c.args.sound c.args.bytes.now (search rules) c.in-Ok.ensures.cases.1,
  c.in_ok-name-in-Ok.ensures ∙ c.in-Ok.ensures.cases.0,
)

pub returns-in-Err : goal.returns-in-Err
returns-in-Err c =
    rw c.content-in-Err.ensures (record { broken = text_broken c.args.sound c.args.bytes.now c.in-Err.ensures.cases.0; rule = refl; place = refl })
