-- Reading on: what is broken in a message is what is broken in the rest of it, once nothing was before.
use Rattle.std.proofs.Common.{◌≡◌, ℕ, Option, None, ap, ◌∙◌}
use Rattle.std.specs.Option.{option_or}
use Rattle.wire_proto.specs.Message.{WireField, Message, with_first}
use Rattle.pprof_message.specs.Broken.{broken_in}

pub after_first : (inside : WireField → Option ℕ) (message rest : Message) (f : WireField) → message ≡ with_first f rest → inside f ≡ None → broken_in inside message ≡ broken_in inside rest
after_first inside message rest f e none = ap (broken_in inside) e ∙ ap (λ (o : Option ℕ). option_or o (broken_in inside rest)) none
