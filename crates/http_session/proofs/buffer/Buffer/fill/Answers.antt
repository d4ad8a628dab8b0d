use Rattle.std.proofs.Common.{◌≡◌, ◌+◌, ◌-◌, ◌<◌, ◌∙◌, ap, arith, rules, drop, take, length, ◌++◌, length-take, length-drop, List, ℕ, Ok}
use Rattle.std.specs.Vec.{with_items}
use Rattle.std.proofs.lemmas.List.{places}
use Rattle.link_trait.specs.Link.{ReadStep}
use Rattle.http_session.specs.Pulled.{FillStep}
use Rattle.link_trait.proofs.GoesLemmas.{goes_weaker}
use Rattle.http_session.proofs.BufferLemmas.{fill_step, nothing_after}
use Rattle.http_session.proofs.buffer.Buffer.fill.Goals as goal
use borrow.Rule.Slice.PartMut.{post_of}

pub returns-in-Ok-clause-told : goal.returns-in-Ok-clause-told
returns-in-Ok-clause-told g c =
    let inside = c.self.inside in
    let xs : List ℕ = c.deref_mut.result.now in
    let into : List ℕ = c.read.new.into in
    let items : (with_items inside.bytes (take inside.end xs ++ (into ++ post_of inside.end (length xs - inside.end) xs))).items
    ≡ take inside.end xs ++ (into ++ post_of inside.end (length xs - inside.end) xs) = search (rules, places) in
    let becomes = ap (λ (ys : List ℕ). take (inside.end + c.in-Ok.count) ys)
    (items ∙ ap (λ (ys : List ℕ). take inside.end xs ++ ys) (nothing_after xs into inside.end)) in
    let same : length xs ≡ length inside.bytes.items = ap length c.deref_mut.ensures.value in
    let held : take inside.end xs ≡ c.args.self.now = ap (λ (ys : List ℕ). take inside.end ys) c.deref_mut.ensures.value ∙ c.self.view_is in
    let size : length (take inside.end xs) ≡ inside.end = omega (arith, length-take inside.end xs, same, c.self.invariant.0, c.self.invariant.1) in
    let roomy : inside.end < length xs = omega (arith, ap length held, size, c.requires.room, same, c.self.invariant.1) in
    goes_weaker (ReadStep (Ok c.in-Ok.count) (length (take (length xs - inside.end) (drop inside.end xs))) into) (FillStep (Ok c.in-Ok.count) c.args.self.now _) _ _
    (λ before now step. fill_step before now xs into c.args.self.now _ inside.end c.in-Ok.count _ roomy
    (omega (arith, length-take (length xs - inside.end) (drop inside.end xs), length-drop inside.end xs, roomy)) held becomes step)
    c.in-Ok.ensures.told
