-- What a value holds, by its wire.
use Rattle.std.proofs.Common.{◌≡◌, ℕ, [], ◌∷◌, Option, Some, None, refl, ap}
use Rattle.wire_proto.specs.Field.{Content, Varint, Eight, Bytes, Four}
use Rattle.pprof_message.specs.Fields.{number_in, part_in, numbers_in}

abbrev pub some : {A : Type 0} → A → Option A
some x = Some x

pub some_is : {A : Type 0} (x y : A) → some x ≡ some y → x ≡ y
some_is x y e = cc

pub with_varint : (end : ℕ) (value : Content) (n : ℕ) → number_in value ≡ Some n → (numbers_in value ≡ n ∷ []) × (part_in end value ≡ None)
with_varint end (Varint m) n e = (ap (λ (k : ℕ). k ∷ []) (some_is m n e), refl)
with_varint end (Eight bytes) n e = absurd cc
with_varint end (Bytes bytes) n e = absurd cc
with_varint end (Four bytes) n e = absurd cc

pub with_neither : (end : ℕ) (value : Content) → number_in value ≡ None → part_in end value ≡ None → numbers_in value ≡ []
with_neither end (Varint m) p q = absurd cc
with_neither end (Eight bytes) p q = refl
with_neither end (Bytes bytes) p q = absurd cc
with_neither end (Four bytes) p q = refl
