use Rattle.std.proofs.Common.{List, ℕ, length, Bor, sym, ap, ◌∙◌}
use Rattle.std.proofs.lemmas.Bool.{eq-eqb, ne_eqb}
use Rattle.std.proofs.lemmas.List.{length-map}
use Rattle.pprof_codec.proofs.PlaceLemmas.{line-none, line-numbered, line-unnumbered}
use Rattle.pprof_codec.proofs.locations.line_number.Goals as goal

pub returns-then-id-eq0 : goal.returns-then-id-eq0
returns-then-id-eq0 c =
    line-none c.args.message.now c.args.functions.now.ids c.args.functions.now.frames.items c.args.functions.now.places.items c.requires.functions c.requires.places c.args.id
    _ (sym (length-map c.texts-unknown.result.now (λ (text : Bor (List ℕ)). text.now)) ∙ ap (length {A = List ℕ}) c.texts-unknown.ensures) (eq-eqb _ _ c.if-id-eq0.true)

pub returns-in-Some : goal.returns-in-Some
returns-in-Some c =
    line-numbered c.args.message.now c.args.functions.now.ids c.args.functions.now.frames.items c.args.functions.now.places.items c.requires.functions c.requires.places c.args.id
    c.in-Some.place (ne_eqb _ _ c.if-id-eq0.false) c.in-Some.ensures

pub returns-in-None : goal.returns-in-None
returns-in-None c =
    line-unnumbered c.args.message.now c.args.functions.now.ids c.args.functions.now.frames.items c.args.functions.now.places.items c.requires.functions c.requires.places c.args.id
    _ (sym (length-map c.texts-unknown.result.now (λ (text : Bor (List ℕ)). text.now)) ∙ ap (length {A = List ℕ}) c.texts-unknown.ensures) (ne_eqb _ _ c.if-id-eq0.false) c.in-None.ensures
