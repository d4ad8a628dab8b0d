-- What a field spells is read, and its first fault is told.
use Rattle.std.proofs.Common.{◌≡◌, ℕ, zero, suc, ◌+◌, ◌*◌, ◌/◌, ◌%◌, ◌<◌, ◌≤◌, ◌⊎◌, List, [], ◌∷◌, ◌++◌, length, Ok, Err, refl, ap, ◌∙◌, arith, false, ltb, leb, ◌&&◌, inl, inr, append_assoc}
use Rattle.std.specs.Prelude.{Contains}
use Rattle.std.proofs.lemmas.Bool.{cases_Bool, le-ltb, lt-ltb, le-leb, lt-leb, and_left, and_right}
use Rattle.std.proofs.lemmas.List.{take_at, drop_at, length-append}
use Rattle.wire_proto.specs.declared.wire.Wire.{Wire}
use Rattle.wire_proto.specs.declared.wire.Wire.TheVariants as wires
use Rattle.wire_proto.specs.declared.field.WireFault.{WireFault}
use Rattle.wire_proto.specs.declared.field.WireFault.TheVariants.{Truncated, BadVarint, BadType}
use Rattle.wire_proto.specs.Varint.{HasVarint, IsCutVarint, IsBadVarint, IsVarintFault}
use Rattle.wire_proto.specs.Field.{Content, Varint, Eight, Bytes, Four, wire_of, wire_number, last_number, IsTag, IsValue, IsField, IsCutValue, IsBadValue, IsBadTag, IsFault}
use Rattle.wire_proto.specs.Reading.{varint_at, chunk_at, number_at, wire_at, tag_at, value_at, field_at}
use Rattle.wire_proto.proofs.Varints.{varint_at_again, cut_again, bad_again}

-- ---- parts

pub has_varint : (at : ℕ) (bytes : List ℕ) (n : ℕ) (rest : List ℕ) → HasVarint bytes n rest → varint_at at bytes ≡ Ok (n, rest)
has_varint at bytes n rest h = ap (varint_at at) h.parts ∙ varint_at_again at h.spelling n rest h.is_varint

cut_varint : (at : ℕ) (bytes : List ℕ) → IsCutVarint bytes → varint_at at bytes ≡ Err (Truncated at)
unfolding varint_at
cut_varint at bytes h = cut_again at 9 bytes h.goes_on (omega (arith, h.below_ten))

bad_varint : (at : ℕ) (bytes : List ℕ) → IsBadVarint bytes → varint_at at bytes ≡ Err (BadVarint at)
unfolding varint_at
bad_varint at bytes h = bad_again at 9 bytes h.goes_on h.tenth

pub varint_fault_again : (at : ℕ) (bytes : List ℕ) (fault : WireFault) → IsVarintFault bytes at fault → varint_at at bytes ≡ Err fault
varint_fault_again at bytes (Truncated place) h = rw h.0 (cut_varint at bytes h.1)
varint_fault_again at bytes (BadVarint place) h = rw h.0 (bad_varint at bytes h.1)
varint_fault_again at bytes (BadType place) h = absurd h

chunk_again : (at size : ℕ) (front rest : List ℕ) → length front ≡ size → chunk_at at size (front ++ rest) ≡ Ok (front, rest)
unfolding chunk_at
chunk_again at size front rest e =
    let long : ltb (length (front ++ rest)) size ≡ false = le-ltb _ _ (omega (arith, length-append front rest)) in
    rw (long, take_at front rest size e, drop_at front rest size e) refl

cut_chunk : (at size : ℕ) (bytes : List ℕ) → length bytes < size → chunk_at at size bytes ≡ Err (Truncated at)
unfolding chunk_at
cut_chunk at size bytes lt = rw (lt-ltb (length bytes) size lt) refl

-- ---- a tag

number_again : (at number : ℕ) (wire : Wire) → 1 ≤ number → number ≤ last_number → number_at at (number * 8 + wire_number wire) ≡ Ok number
unfolding number_at
number_again at number wire low high =
    let eighth : (number * 8 + wire_number wire) / 8 ≡ number = elim wire as (λ w. (number * 8 + wire_number w) / 8 ≡ number) [ wires.Varint ↦ omega arith | wires.Eight ↦ omega arith | wires.Bytes ↦ omega arith | wires.Four ↦ omega arith ] in
    rw (eighth, le-leb 1 number low, le-leb number last_number high) refl

wire_again : (at number : ℕ) (wire : Wire) → wire_at at (number * 8 + wire_number wire) ≡ Ok wire
unfolding wire_at
wire_again at number wires.Varint = let e : (number * 8 + 0) % 8 ≡ 0 = omega arith in rw e refl
wire_again at number wires.Eight = let e : (number * 8 + 1) % 8 ≡ 1 = omega arith in rw e refl
wire_again at number wires.Bytes = let e : (number * 8 + 2) % 8 ≡ 2 = omega arith in rw e refl
wire_again at number wires.Four = let e : (number * 8 + 5) % 8 ≡ 5 = omega arith in rw e refl

tag_again : (at : ℕ) (bytes rest : List ℕ) (wire : Wire) (number : ℕ) (tag : List ℕ) → bytes ≡ tag ++ rest → IsTag tag number wire → tag_at at bytes ≡ Ok (number, wire, rest)
unfolding tag_at
tag_again at bytes rest wire number tag e t =
    let read : varint_at at bytes ≡ Ok (number * 8 + wire_number wire, rest) = ap (varint_at at) e ∙ varint_at_again at tag (number * 8 + wire_number wire) rest t.spelled in
    rw (read, number_again at number wire t.not_zero t.at_most_last, wire_again at number wire) refl

bad_wire : (at tag : ℕ) → Contains (3 ∷ 4 ∷ 6 ∷ 7 ∷ []) (tag % 8) → wire_at at tag ≡ Err (BadType at)
unfolding wire_at
bad_wire at tag (zero, lt, e) = rw (← e) refl
bad_wire at tag (suc zero, lt, e) = rw (← e) refl
bad_wire at tag (suc (suc zero), lt, e) = rw (← e) refl
bad_wire at tag (suc (suc (suc zero)), lt, e) = rw (← e) refl
bad_wire at tag (suc (suc (suc (suc k))), lt, e) = absurd (omega (arith, lt))

bad_number : (at tag : ℕ) → (tag / 8 ≡ 0) ⊎ (last_number < tag / 8) → number_at at tag ≡ Err (BadType at)
unfolding number_at
bad_number at tag (inl e) = rw (and_left (leb 1 (tag / 8)) (leb (tag / 8) last_number) (lt-leb 1 (tag / 8) (omega (arith, e)))) refl
bad_number at tag (inr lt) = rw (and_right (leb 1 (tag / 8)) (leb (tag / 8) last_number) (lt-leb (tag / 8) last_number lt)) refl

-- each number, good or bad, before a bad wire
number_or_bad : (at tag : ℕ) → ((n : ℕ) × (number_at at tag ≡ Ok n)) ⊎ (number_at at tag ≡ Err (BadType at))
unfolding number_at
number_or_bad at tag =
    elim (cases_Bool (leb 1 (tag / 8) && leb (tag / 8) last_number)) [ inl e ↦ inl (tag / 8, rw e refl) | inr e ↦ inr (rw e refl) ]

bad_tag : (at : ℕ) (bytes : List ℕ) (tag : ℕ) (rest : List ℕ) → HasVarint bytes tag rest → IsBadTag tag → tag_at at bytes ≡ Err (BadType at)
unfolding tag_at
bad_tag at bytes tag rest h (inl wire) =
    elim (number_or_bad at tag) [
      | inl n ↦ rw (has_varint at bytes tag rest h, n.1, bad_wire at tag wire) refl
      | inr e ↦ rw (has_varint at bytes tag rest h, e) refl
    ]
bad_tag at bytes tag rest h (inr number) = rw (has_varint at bytes tag rest h, bad_number at tag number) refl

-- ---- a value

value_again : (at : ℕ) (value : Content) (spelling rest : List ℕ) → IsValue spelling value → value_at at (wire_of value) (spelling ++ rest) ≡ Ok (value, rest)
unfolding value_at
value_again at (Varint n) spelling rest v = rw (varint_at_again at spelling n rest v) refl
value_again at (Eight bytes) spelling rest v = rw (v.0, chunk_again at 8 bytes rest v.1) refl
value_again at (Bytes bytes) spelling rest v =
    let read : varint_at at (spelling ++ rest) ≡ Ok (length bytes, bytes ++ rest) = rw (v.2, append_assoc v.0 bytes rest) (varint_at_again at v.0 (length bytes) (bytes ++ rest) v.1) in
    rw (read, chunk_again at (length bytes) bytes rest refl) refl
value_again at (Four bytes) spelling rest v = rw (v.0, chunk_again at 4 bytes rest v.1) refl

cut_value : (at : ℕ) (wire : Wire) (bytes : List ℕ) → IsCutValue wire bytes → value_at at wire bytes ≡ Err (Truncated at)
unfolding value_at
cut_value at wires.Varint bytes h = rw (cut_varint at bytes h) refl
cut_value at wires.Eight bytes h = rw (cut_chunk at 8 bytes h) refl
cut_value at wires.Bytes bytes (inl h) = rw (cut_varint at bytes h) refl
cut_value at wires.Bytes bytes (inr h) = rw (has_varint at bytes h.0 h.1 h.2, cut_chunk at h.0 h.1 h.3) refl
cut_value at wires.Four bytes h = rw (cut_chunk at 4 bytes h) refl

bad_value : (at : ℕ) (wire : Wire) (bytes : List ℕ) → IsBadValue wire bytes → value_at at wire bytes ≡ Err (BadVarint at)
unfolding value_at
bad_value at wires.Varint bytes h = rw (bad_varint at bytes h) refl
bad_value at wires.Eight bytes h = absurd h
bad_value at wires.Bytes bytes h = rw (bad_varint at bytes h) refl
bad_value at wires.Four bytes h = absurd h

-- ---- a field

pub field_again : (at number : ℕ) (value : Content) (spelling rest : List ℕ) → IsField spelling number value → field_at at (spelling ++ rest) ≡ Ok (number, value, rest)
unfolding field_at
field_again at number value spelling rest f =
    let apart : spelling ++ rest ≡ f.tag ++ (f.rest ++ rest) = rw f.parts (append_assoc f.tag f.rest rest) in
    rw (tag_again at (spelling ++ rest) (f.rest ++ rest) (wire_of value) number f.tag apart f.is_tag, value_again at value f.rest rest f.is_value) refl

pub fault_again : (at : ℕ) (bytes : List ℕ) (fault : WireFault) → IsFault bytes at fault → field_at at bytes ≡ Err fault
unfolding field_at tag_at
fault_again at bytes (Truncated place) (e, some, inl cut) = rw (e, cut_varint at bytes cut) refl
fault_again at bytes (Truncated place) (e, some, inr h) = rw (e, tag_again at bytes h.1 h.0 h.2.number h.2.tag h.2.parts h.2.is_tag, cut_value at h.0 h.1 h.3) refl
fault_again at bytes (BadVarint place) (e, inl bad) = rw (e, bad_varint at bytes bad) refl
fault_again at bytes (BadVarint place) (e, inr h) = rw (e, tag_again at bytes h.1 h.0 h.2.number h.2.tag h.2.parts h.2.is_tag, bad_value at h.0 h.1 h.3) refl
fault_again at bytes (BadType place) h = rw (h.0, bad_tag at bytes h.1.0 h.1.1 h.1.2 h.1.3) refl
