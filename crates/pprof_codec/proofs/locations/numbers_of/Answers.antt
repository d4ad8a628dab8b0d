use Rattle.std.proofs.Common.{◌≡◌, ◌+◌, List, ℕ, [], ◌∷◌, ◌++◌, rules, length, Bor, sym, ap, ◌∙◌, arith}
use Rattle.std.specs.Prelude.{map}
use Rattle.std.proofs.lemmas.Bool.{eqb-true, eqb-false}
use Rattle.std.proofs.lemmas.List.{length-map}
use Rattle.pprof_message.specs.Gathered.{location_in}
use Rattle.pprof_codec.specs.Tables.{frame_numbered}
use Rattle.pprof_codec.proofs.PlaceLemmas.{address-framed_by, lines-numbered}
use Rattle.pprof_codec.proofs.locations.numbers_of.Goals as goal

pub returns-then-not-is_empty : goal.returns-then-not-is_empty
returns-then-not-is_empty c =
    let some = eqb-false _ _ (sym c.is_empty.ensures ∙ c.if-not-is_empty.true) in
    lines-numbered c.args.message.now (location_in c.args.location.now) c.line_numbers.result (omega arith) c.line_numbers.ensures

pub overflow_add-texts-2 : goal.overflow_add-texts-2
overflow_add-texts-2 c = let bound = c.requires.bound in search rules

pub returns : goal.returns
returns c =
    let message = c.args.message.now in
    let number = length c.texts.result.now + 1 + c.args.number in
    let texts : length c.texts.result.now ≡ length message.texts =
    sym (length-map c.texts.result.now (λ (text : Bor (List ℕ)). text.now)) ∙ ap (length {A = List ℕ}) c.texts.ensures in
    ap (map (frame_numbered message)) (c.in_ok-push.ensures.items ∙ ap (λ xs. xs ++ number ∷ []) c.in_ok-numbers.ensures.items)
    ∙ address-framed_by message c.args.number number (location_in c.args.location.now) c.requires.is (ap (λ n. n + 1 + c.args.number) texts)
    (eqb-true _ _ (sym c.is_empty.ensures ∙ c.if-not-is_empty.false))
