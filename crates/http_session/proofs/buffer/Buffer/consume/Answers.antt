use Rattle.std.proofs.Common.{◌-◌, ◌∙◌, ap, arith, drop, length, length-take, take, List, ℕ}
use Rattle.http_session.proofs.BufferLemmas.{moved_front}
use Rattle.http_session.proofs.buffer.Buffer.consume.Goals as goal

pub returns : goal.returns
returns c =
    let inside = c.self.inside in
    let size = length-take inside.end inside.bytes.items in
    ap (λ (ys : List ℕ). take (inside.end - c.args.count) ys) c.copy_within.ensures.items
    ∙ moved_front inside.bytes.items c.args.count inside.end
    (omega (arith, c.requires, ap length c.self.view_is, size, c.self.invariant.0)) (omega (arith, c.self.invariant.0, c.self.invariant.1))
    ∙ ap (λ (xs : List ℕ). drop c.args.count xs) c.self.view_is
