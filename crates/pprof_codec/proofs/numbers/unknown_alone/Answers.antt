use Rattle.std.proofs.Common.{List, ℕ, [], ◌∷◌, ◌++◌, length, Bor, sym, ap, ◌∙◌}
use Rattle.std.specs.Prelude.{map}
use Rattle.std.proofs.lemmas.List.{length-map}
use Rattle.pprof_codec.specs.Tables.{frame_numbered}
use Rattle.pprof_codec.proofs.PlaceLemmas.{unknown-numbered}
use Rattle.pprof_codec.proofs.numbers.unknown_alone.Goals as goal

pub returns : goal.returns
returns c =
    let message = c.args.judged.now.message in
    ap (map (frame_numbered message)) (c.in_ok-push.ensures.items ∙ ap (λ xs. xs ++ length c.texts.result.now ∷ []) c.in_ok-numbers.ensures.items)
    ∙ ap (λ frame. frame ∷ [])
    (unknown-numbered message (length c.texts.result.now)
    (sym (length-map c.texts.result.now (λ (text : Bor (List ℕ)). text.now)) ∙ ap (length {A = List ℕ}) c.texts.ensures))
