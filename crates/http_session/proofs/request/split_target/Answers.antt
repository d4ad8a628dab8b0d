use Rattle.std.proofs.Common.{◌≡◌, ◌∙◌, sym, ap, arith, drop, ℕ, List, ◌+◌, ◌-◌, ◌≤◌, Some, slice_range, length-take}
use Rattle.std.proofs.lemmas.List.Quantifiers.{position-Some}
use Rattle.std.specs.List.{position}
use Rattle.http_session.specs.Asked.{is_question_mark}
use Rattle.http_session.proofs.TargetLemmas.{part_drop, position_at}
use Rattle.http_session.proofs.request.split_target.Goals as goal

pub returns-in-Some-clause-query : goal.returns-in-Some-clause-query
returns-in-Some-clause-query c =
    let text : List ℕ = c.args.text.now in
    let start : ℕ = c.args.target.start in
    let end : ℕ = c.args.target.end in
    let at : ℕ = c.in-Some.at in
    let target : List ℕ = slice_range text start end in
    let found : position is_question_mark target ≡ Some at = ap (position is_question_mark) (sym c.of.ensures) ∙ sym c.question_mark.ensures ∙ c.in-Some.is in
    let within = position-Some is_question_mark target at 0 found in
    let fits : start + (at + 1) ≤ end = omega (arith, within.0, length-take (end - start) (drop start text)) in
    ap (λ n. slice_range text n end) (let same : start + at + 1 ≡ start + (at + 1) = omega arith in same)
    ∙ part_drop text start end (at + 1) fits
    ∙ sym (ap (λ n. drop (n + 1) target) (position_at is_question_mark target at found))
