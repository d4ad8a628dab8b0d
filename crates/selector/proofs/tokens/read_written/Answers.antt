use Rattle.std.proofs.Common.{◌≡◌, ◌++◌, ◌∷◌, [], ap, sym, subst, ◌∙◌, rules, string_bytes}
use Rattle.std.proofs.lemmas.Result.{err_from_is_err_and}
use Rattle.selector.specs.Grammar.{AreWritten}
use Rattle.selector.specs.Rests.{AtWritten}
use Rattle.selector.proofs.WrittenLemmas.{read_fault, plain_more, escape_more, escaped_ascii, broken_after_written}
use Rattle.selector.proofs.tokens.read_written.Goals as goal

pub returns-in-Some : goal.returns-in-Some
returns-in-Some c =
    let read = c.loop-value.invariant.read in
    let plain = c.run.result.0.now in
    let more = plain_more c.args.text.now read.0 c.loop-value.rest.now (string_bytes c.loop-value.value) plain c.run.result.1.now read.1 read.2 c.run.ensures in
    (read.0 ++ plain, more.0 ∙ ap (λ t. (read.0 ++ plain) ++ t) c.in-Some.ensures, subst (AreWritten (read.0 ++ plain)) (sym c.in_ok-push_str.ensures.bytes) more.1)

pub returns-in_err-meant : goal.returns-in_err-meant
returns-in_err-meant c =
    let read = c.loop-value.invariant.read in
    let plain = c.run.result.0.now in
    let after = c.run.result.1.now in
    let value = string_bytes c.loop-value.value in
    let more = plain_more c.args.text.now read.0 c.loop-value.rest.now value plain after read.1 read.2 c.run.ensures in
    let p = err_from_is_err_and c.from_residual-in_err-meant.result c.from_residual-in_err-meant.ensures.1 in
    rw (p.1, p.2)
    (read_fault AtWritten AtWritten c.args.text.now after (λ left broken. broken_after_written c.args.text.now (read.0 ++ plain) after (value ++ plain) left more.0 more.1 broken)
    c.in_err-meant.field-0.0 c.in_err-meant.ensures)

pub loop-value-preserved : goal.loop-value-preserved
loop-value-preserved c =
    let read = c.loop-value.invariant.read in
    let plain = c.run.result.0.now in
    let after = c.run.result.1.now in
    let value = string_bytes c.loop-value.value in
    let more = plain_more c.args.text.now read.0 c.loop-value.rest.now value plain after read.1 read.2 c.run.ensures in
    let said = c.in_ok-meant.ensures in
    let next =
    escape_more c.args.text.now (read.0 ++ plain) after (value ++ plain) said.0 c.in_ok-meant.meant c.in_ok-meant.after.now more.0 more.1 said.1 said.2 in
    let bytes : string_bytes c.push.new.self ≡ (value ++ plain) ++ c.in_ok-meant.meant ∷ [] =
    c.in_ok-push.ensures.bytes ∙ (λ i. c.in_ok-push_str.ensures.bytes i ++ c.in_ok-push.ensures.ascii (escaped_ascii said.0 c.in_ok-meant.meant said.2) i) in
    record {
      utf8 = search rules;
      read = ((read.0 ++ plain) ++ 92 ∷ said.0 ∷ [], next.0, subst (AreWritten ((read.0 ++ plain) ++ 92 ∷ said.0 ∷ [])) (sym bytes) next.1);
    }
