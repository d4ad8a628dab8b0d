use Rattle.std.proofs.Common.{rules, ◌≡◌, ◌++◌, ◌∙◌, ◌-◌, min, sym, ap, arith, length, length-take, length-drop, length-append, take, drop, ℕ, List, Ok}
use Rattle.std.specs.Vec.{with_items}
use Rattle.std.proofs.lemmas.List.{places}
use Rattle.std.proofs.lemmas.Grind.{common_steps}
use Rattle.http_session.specs.Steps.{RestStep}
use Rattle.link_trait.proofs.GoesLemmas.{goes_weaker}
use Rattle.http_session.proofs.BufferLemmas.{nothing_after}
use Rattle.http_session.proofs.ReaderLemmas.{body_came}
use Rattle.http_session.proofs.reader.take_body.Goals as goal
use borrow.Rule.Slice.PartMut.{post_of}

pub returns-in-Ok-fill_rest-clause-told : goal.returns-in-Ok-fill_rest-clause-told
returns-in-Ok-fill_rest-clause-told g c =
    let xs : List ℕ = c.deref_mut-2.result.now in
    let ys : List ℕ = c.move_held-count.new.body in
    let rest : List ℕ = c.fill_rest.new.rest in
    let old : List ℕ = c.args.buffer.now in
    let count : ℕ = c.move_held-count.result in
    let size : ℕ = c.args.size in
    let filled : xs ≡ ys = search (rules, places) in
    let made : List ℕ = (with_items (with_items c.in-Ok.body ys) (take count xs ++ (rest ++ post_of count (length xs - count) xs))).items in
    let items : made
    ≡ take count xs ++ (rest ++ post_of count (length xs - count) xs) = search (rules, places) in
    let body : made ≡ take count old ++ rest = items ∙ ap (λ (zs : List ℕ). take count xs ++ zs) (nothing_after xs rest count)
    ∙ ap (λ (zs : List ℕ). zs ++ rest) (ap (λ (zs : List ℕ). take count zs) filled ∙ c.move_held-count.ensures.body) in
    let room : length c.deref_mut.result.now ≡ size = grind (arith, common_steps) in
    let whole : length xs ≡ size = grind (arith, common_steps) in
    let counted : count ≡ min size (length old) = omega (arith, c.move_held-count.ensures.count, room) in
    let long : length rest ≡ size - count = omega (arith, c.fill_rest.auto.rest, length-take (length xs - count) (drop count xs), length-drop count xs, whole) in
    goes_weaker (RestStep (Ok c.in-Ok-fill_rest.field-0) rest) _ _ _
    (λ before now step. (
      step.0,
      step.1,
      (
        body_came old rest step.0 count size counted long step.2 ∙ ap (λ (zs : List ℕ). zs ++ drop count old) (sym body) ∙ ap (λ (zs : List ℕ). made ++ zs) (sym c.move_held-count.ensures.buffer),
        ap length body ∙ omega (arith, length-append (take count old) rest, length-take count old, long, counted),
      ),
    ))
    c.in-Ok-fill_rest.ensures.told
