use Rattle.std.proofs.Common.{◌∙◌, ap, sym, take, append_assoc, List, ℕ, ◌++◌}
use Rattle.std.proofs.lemmas.List.{take_rest, take-append-drop}
use Rattle.link_trait.specs.Link.{Gave}
use Rattle.link_trait.proofs.GoesLemmas.{goes_then, gave_then}
use Rattle.http_session.proofs.write.write_whole.Goals as goal

pub loop-rest-preserved : goal.loop-rest-preserved
loop-rest-preserved g c =
    let told = c.loop-rest.invariant.told in
    let front = take c.in-Ok.count c.loop-rest.rest.now in
    let step = rw c.in-Ok.is at c.write.ensures.told in
    record {
      opened = c.in-Ok.ensures.open;
      quiet = c.in-Ok.ensures.cause.quiet ∙ c.loop-rest.invariant.quiet;
      told = (
        told.0 ++ front,
        rw (take_rest c.loop-rest.rest.now c.in-Ok.count) (told.1 ∙ ap (λ (xs : List ℕ). told.0 ++ xs) (sym (take-append-drop c.in-Ok.count c.loop-rest.rest.now)) ∙ sym (append_assoc told.0 front _)),
        goes_then (Gave told.0) (Gave front) (Gave (told.0 ++ front)) _ _ _ (gave_then told.0 front) told.2 step,
      );
    }
