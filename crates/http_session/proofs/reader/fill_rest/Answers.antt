use Rattle.std.proofs.Common.{◌≡◌, ◌-◌, ◌≤◌, ◌∙◌, length, take, drop, arith, length-take, length-drop, ℕ, List, Ok}
use Rattle.link_trait.specs.Link.{Took, ReadStep}
use Rattle.link_trait.proofs.GoesLemmas.{goes_then}
use Rattle.http_session.proofs.BufferLemmas.{rest_more, length_filled}
use Rattle.http_session.proofs.reader.fill_rest.Goals as goal

pub loop-filled-preserved : goal.loop-filled-preserved
loop-filled-preserved g c =
    let xs : List ℕ = c.loop-filled.rest in
    let into : List ℕ = c.read.new.into in
    let at : ℕ = c.loop-filled.filled in
    let size : length into ≡ length xs - at = omega (arith, c.read.auto.into, length-take (length xs - at) (drop at xs), length-drop at xs) in
    record {
      opened = c.in-Ok.ensures.open;
      quiet = c.in-Ok.ensures.cause.quiet ∙ c.loop-filled.invariant.quiet;
      fits = (let bound : c.in-Ok.count ≤ length (take (length xs - at) (drop at xs)) = c.in-Ok.ensures.bound in omega (arith, bound, length_filled xs into at c.loop-filled.invariant.fits size, c.read.auto.into, size));
      told = goes_then (Took (take at xs)) (ReadStep (Ok c.in-Ok.count) (length (take (length xs - at) (drop at xs))) into) (Took _) _ _ _
          (λ a b d. rest_more xs into at c.in-Ok.count _ a b d c.loop-filled.invariant.fits) c.loop-filled.invariant.told c.in-Ok.ensures.told;
    }
