use Rattle.std.proofs.Common.{◌≡◌, true, ap, sym, ◌∙◌}
use Rattle.std.specs.Result.{result_ok}
use Rattle.json_bodies.specs.Fields.{is_number_text}
use Rattle.json_bodies.proofs.NumberLemmas.{number_text_read}
use Rattle.json_bodies.proofs.number.number_of_text.Goals as goal

pub returns-then-is_number_text : goal.returns-then-is_number_text
returns-then-is_number_text c =
    let right : is_number_text c.args.text.now ≡ true = sym c.is_number_text.ensures ∙ c.if-is_number_text.true in
    rw right (c.ok.ensures.value ∙ ap result_ok (number_text_read c.args.text.now _ c.parse.ensures.value.0 right))
