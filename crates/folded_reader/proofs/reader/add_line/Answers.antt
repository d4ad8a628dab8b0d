use Rattle.std.proofs.Common.{refl, inr, rules}
use Rattle.folded_reader.proofs.reader.add_line.Goals as goal

pub returns-in-Ok : goal.returns-in-Ok
returns-in-Ok c = (
  (c.in_ok-stack.stack, c.in_ok-text.count),
  record {
    text = c.in_ok-text.text.now;
    says = c.in_ok-text.ensures;
    frames = c.in_ok-stack.ensures;
    stack = rw c.in_ok-stack.ensures c.in_ok-depth.ensures.1;
  },
  c.in-Ok.ensures.fits,
  c.in-Ok.ensures.ok,
)

pub returns-in-Err-Fault-Sum : goal.returns-in-Err-Fault-Sum
returns-in-Err-Fault-Sum c =
    inr (inr (
      refl,
      (c.in_ok-stack.stack, c.in_ok-text.count),
      record {
        text = c.in_ok-text.text.now;
        says = c.in_ok-text.ensures;
        frames = c.in_ok-stack.ensures;
        stack = rw c.in_ok-stack.ensures c.in_ok-depth.ensures.1;
      },
      c.in-Err-Fault-Sum.ensures.sum (search rules),
    ))
