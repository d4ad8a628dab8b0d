-- What reading a field gives is what the bytes spell, or their first fault.
use Rattle.std.proofs.Common.{◌≡◌, ℕ, ◌+◌, ◌*◌, ◌/◌, ◌%◌, ◌<◌, ◌≤◌, List, [], ◌∷◌, ◌++◌, length, take, drop, Result, Ok, Err, refl, sym, ap, ◌∙◌, arith, ltb, leb, eqb, ◌&&◌, subst, inl, inr, ⊎_elim, append_assoc}
use Rattle.std.specs.Prelude.{Contains}
use Rattle.std.proofs.lemmas.Bool.{cond_both, ltb-true, ltb-false, leb-true, leb-false, eqb-true, eqb-false, and_parts, and_cases, cases_eq}
use Rattle.std.proofs.lemmas.List.{take-append-drop, length-take-le, get_or-append-add}
use Rattle.wire_proto.specs.declared.wire.Wire.{Wire}
use Rattle.wire_proto.specs.declared.wire.Wire.TheVariants as wires
use Rattle.wire_proto.specs.declared.field.WireFault.{WireFault}
use Rattle.wire_proto.specs.declared.field.WireFault.TheVariants.{Truncated, BadVarint, BadType}
use Rattle.wire_proto.specs.Varint.{HasVarint, IsCutVarint, IsBadVarint, IsVarintFault}
use Rattle.wire_proto.specs.Field.{Content, Varint, Eight, Bytes, Four, wire_of, wire_number, last_number, IsTag, IsValue, IsCutValue, IsBadValue, IsBadTag}
use Rattle.wire_proto.specs.Reading.{◌>>=◌, varint_at, chunk_at, number_at, wire_at, tag_at, value_at, field_at, FieldReads}
use Rattle.wire_proto.proofs.Varints.{IsBytes, VarintIs, varint_is}

-- ---- parts

abbrev pub VarintReads : ℕ → List ℕ → Result (ℕ × List ℕ) WireFault → Type 0
VarintReads at bytes (Ok x) = HasVarint bytes x.0 x.1
VarintReads at bytes (Err fault) = IsVarintFault bytes at fault

of_ten : (at : ℕ) (bytes : List ℕ) (read : Result (ℕ × List ℕ) WireFault) → VarintIs at 9 bytes read → VarintReads at bytes read
of_ten at bytes (Ok x) h = record { spelling = h.spelling; parts = h.parts; is_varint = record { groups = h.groups; at_most_ten = h.short; tenth = h.last } }
of_ten at bytes (Err (Truncated place)) h = (h.0, record { goes_on = h.1; below_ten = omega (arith, h.2) })
of_ten at bytes (Err (BadVarint place)) h = (h.0, record { goes_on = h.1; tenth = h.2 })
of_ten at bytes (Err (BadType place)) h = h

pub varint_reads : (at : ℕ) (bytes : List ℕ) → IsBytes bytes → VarintReads at bytes (varint_at at bytes)
unfolding varint_at
varint_reads at bytes fits = of_ten at bytes _ (varint_is at 9 bytes fits)

abbrev ChunkReads : ℕ → ℕ → List ℕ → Result (List ℕ × List ℕ) WireFault → Type 0
ChunkReads at size bytes (Ok x) = (bytes ≡ x.0 ++ x.1) × (length x.0 ≡ size)
ChunkReads at size bytes (Err (Truncated place)) = (place ≡ at) × (length bytes < size)
ChunkReads at size bytes (Err (BadVarint place)) = ⊥
ChunkReads at size bytes (Err (BadType place)) = ⊥

chunk_reads : (at size : ℕ) (bytes : List ℕ) → ChunkReads at size bytes (chunk_at at size bytes)
unfolding chunk_at
chunk_reads at size bytes =
    cond_both (ltb (length bytes) size) (Err (Truncated at)) (Ok (take size bytes, drop size bytes)) (ChunkReads at size bytes) (λ e. (refl, ltb-true (length bytes) size e))
    (λ e. (sym (take-append-drop size bytes), length-take-le size bytes (ltb-false (length bytes) size e)))

abbrev NumberReads : ℕ → ℕ → Result ℕ WireFault → Type 0
NumberReads at tag (Ok n) = (n ≡ tag / 8) × (1 ≤ n) × (n ≤ last_number)
NumberReads at tag (Err (Truncated place)) = ⊥
NumberReads at tag (Err (BadVarint place)) = ⊥
NumberReads at tag (Err (BadType place)) = (place ≡ at) × IsBadTag tag

number_reads : (at tag : ℕ) → NumberReads at tag (number_at at tag)
unfolding number_at
number_reads at tag =
    let n : ℕ = tag / 8 in
    cond_both (leb 1 n && leb n last_number) (Ok n) (Err (BadType at)) (NumberReads at tag)
    (λ e. let both = and_parts (leb 1 n) (leb n last_number) e in (refl, leb-true 1 n both.0, leb-true n last_number both.1))
    (λ e. (refl, ⊎_elim (λ low. inr (inl (let below = leb-false 1 n low in omega arith))) (λ high. inr (inr (leb-false n last_number high))) (and_cases (leb 1 n) (leb n last_number) e)))

abbrev WireReads : ℕ → ℕ → Result Wire WireFault → Type 0
WireReads at tag (Ok wire) = tag % 8 ≡ wire_number wire
WireReads at tag (Err (Truncated place)) = ⊥
WireReads at tag (Err (BadVarint place)) = ⊥
WireReads at tag (Err (BadType place)) = (place ≡ at) × IsBadTag tag

other_wires : (wire : ℕ) → wire < 8 → (wire ≡ 0 → ⊥) → (wire ≡ 1 → ⊥) → (wire ≡ 2 → ⊥) → (wire ≡ 5 → ⊥) → Contains (3 ∷ 4 ∷ 6 ∷ 7 ∷ []) wire
other_wires wire lt a b c d =
    elim (cases_eq wire 3) [
      | inl e ↦ (0, omega arith, sym e)
      | inr x ↦ elim (cases_eq wire 4) [
        | inl e ↦ (1, omega arith, sym e)
        | inr y ↦ elim (cases_eq wire 6) [
          | inl e ↦ (2, omega arith, sym e)
          | inr z ↦ (3, omega arith, omega arith)
        ]
      ]
    ]

wire_reads : (at tag : ℕ) → WireReads at tag (wire_at at tag)
unfolding wire_at
wire_reads at tag =
    let w : ℕ = tag % 8 in
    let P = WireReads at tag in
    let lt : w < 8 = omega arith in
    cond_both (eqb w 0) _ _ P (eqb-true w 0) (λ a.
    cond_both (eqb w 1) _ _ P (eqb-true w 1) (λ b.
    cond_both (eqb w 2) _ _ P (eqb-true w 2) (λ c.
    cond_both (eqb w 5) _ _ P (eqb-true w 5) (λ d.
    (refl, inl (other_wires w lt (eqb-false w 0 a) (eqb-false w 1 b) (eqb-false w 2 c) (eqb-false w 5 d)))))))

-- ---- a tag

abbrev TagReads : ℕ → List ℕ → Result (ℕ × Wire × List ℕ) WireFault → Type 0
TagReads at bytes (Ok x) = (tag : List ℕ) × (bytes ≡ tag ++ x.2) × IsTag tag x.0 x.1
TagReads at bytes (Err (Truncated place)) = (place ≡ at) × IsCutVarint bytes
TagReads at bytes (Err (BadVarint place)) = (place ≡ at) × IsBadVarint bytes
TagReads at bytes (Err (BadType place)) = (place ≡ at) × ((tag : ℕ) × (rest : List ℕ) × HasVarint bytes tag rest × IsBadTag tag)

tag_parts : (at : ℕ) (bytes : List ℕ) (tag : ℕ) (rest : List ℕ) (number : Result ℕ WireFault) (wire : Result Wire WireFault) → HasVarint bytes tag rest → NumberReads at tag number → WireReads at tag wire
    → TagReads at bytes (number >>= λ n. wire >>= λ w. Ok (n, w, rest))
tag_parts at bytes tag rest (Ok n) (Ok w) h a b =
    let e : tag ≡ n * 8 + wire_number w = omega (arith, a.0, b) in
    (h.spelling, h.parts, record { spelled = rw (← e) h.is_varint; not_zero = a.1; at_most_last = a.2 })
tag_parts at bytes tag rest (Ok n) (Err (Truncated place)) h a b = absurd b
tag_parts at bytes tag rest (Ok n) (Err (BadVarint place)) h a b = absurd b
tag_parts at bytes tag rest (Ok n) (Err (BadType place)) h a b = (b.0, (tag, rest, h, b.1))
tag_parts at bytes tag rest (Err (Truncated place)) wire h a b = absurd a
tag_parts at bytes tag rest (Err (BadVarint place)) wire h a b = absurd a
tag_parts at bytes tag rest (Err (BadType place)) wire h a b = (a.0, (tag, rest, h, a.1))

tag_step : (at : ℕ) (bytes : List ℕ) (read : Result (ℕ × List ℕ) WireFault) → VarintReads at bytes read → TagReads at bytes (read >>= λ tag. number_at at tag.0 >>= λ n. wire_at at tag.0 >>= λ w. Ok (n, w, tag.1))
tag_step at bytes (Ok x) h = tag_parts at bytes x.0 x.1 (number_at at x.0) (wire_at at x.0) h (number_reads at x.0) (wire_reads at x.0)
tag_step at bytes (Err (Truncated place)) h = h
tag_step at bytes (Err (BadVarint place)) h = h
tag_step at bytes (Err (BadType place)) h = absurd h

tag_reads : (at : ℕ) (bytes : List ℕ) → IsBytes bytes → TagReads at bytes (tag_at at bytes)
unfolding tag_at
tag_reads at bytes fits = tag_step at bytes (varint_at at bytes) (varint_reads at bytes fits)

-- ---- a value

abbrev ValueReads : ℕ → Wire → List ℕ → Result (Content × List ℕ) WireFault → Type 0
ValueReads at wire bytes (Ok x) = (spelling : List ℕ) × (bytes ≡ spelling ++ x.1) × (wire ≡ wire_of x.0) × IsValue spelling x.0
ValueReads at wire bytes (Err (Truncated place)) = (place ≡ at) × IsCutValue wire bytes
ValueReads at wire bytes (Err (BadVarint place)) = (place ≡ at) × IsBadValue wire bytes
ValueReads at wire bytes (Err (BadType place)) = ⊥

varint_value : (at : ℕ) (bytes : List ℕ) (read : Result (ℕ × List ℕ) WireFault) → VarintReads at bytes read → ValueReads at wires.Varint bytes (read >>= λ n. Ok (Varint n.0, n.1))
varint_value at bytes (Ok x) h = (h.spelling, h.parts, refl, h.is_varint)
varint_value at bytes (Err (Truncated place)) h = h
varint_value at bytes (Err (BadVarint place)) h = h
varint_value at bytes (Err (BadType place)) h = absurd h

eight_value : (at : ℕ) (bytes : List ℕ) (read : Result (List ℕ × List ℕ) WireFault) → ChunkReads at 8 bytes read → ValueReads at wires.Eight bytes (read >>= λ v. Ok (Eight v.0, v.1))
eight_value at bytes (Ok x) h = (x.0, h.0, refl, (refl, h.1))
eight_value at bytes (Err (Truncated place)) h = h
eight_value at bytes (Err (BadVarint place)) h = absurd h
eight_value at bytes (Err (BadType place)) h = absurd h

four_value : (at : ℕ) (bytes : List ℕ) (read : Result (List ℕ × List ℕ) WireFault) → ChunkReads at 4 bytes read → ValueReads at wires.Four bytes (read >>= λ v. Ok (Four v.0, v.1))
four_value at bytes (Ok x) h = (x.0, h.0, refl, (refl, h.1))
four_value at bytes (Err (Truncated place)) h = h
four_value at bytes (Err (BadVarint place)) h = absurd h
four_value at bytes (Err (BadType place)) h = absurd h

joined : (bytes front middle more rest : List ℕ) → bytes ≡ front ++ middle → middle ≡ more ++ rest → bytes ≡ (front ++ more) ++ rest
joined bytes front middle more rest p q = p ∙ ap (λ (t : List ℕ). front ++ t) q ∙ sym (append_assoc front more rest)

bytes_behind : (at : ℕ) (bytes : List ℕ) (size : ℕ) (rest : List ℕ) (read : Result (List ℕ × List ℕ) WireFault) → HasVarint bytes size rest → ChunkReads at size rest read
    → ValueReads at wires.Bytes bytes (read >>= λ v. Ok (Bytes v.0, v.1))
bytes_behind at bytes size rest (Ok x) h c = (h.spelling ++ x.0, joined bytes h.spelling rest x.0 x.1 h.parts c.0, refl, (h.spelling, rw c.1 h.is_varint, refl))
bytes_behind at bytes size rest (Err (Truncated place)) h c = (c.0, inr (size, rest, h, c.1))
bytes_behind at bytes size rest (Err (BadVarint place)) h c = absurd c
bytes_behind at bytes size rest (Err (BadType place)) h c = absurd c

bytes_value : (at : ℕ) (bytes : List ℕ) (read : Result (ℕ × List ℕ) WireFault) → VarintReads at bytes read
    → ValueReads at wires.Bytes bytes (read >>= λ size. chunk_at at size.0 size.1 >>= λ v. Ok (Bytes v.0, v.1))
bytes_value at bytes (Ok x) h = bytes_behind at bytes x.0 x.1 (chunk_at at x.0 x.1) h (chunk_reads at x.0 x.1)
bytes_value at bytes (Err (Truncated place)) h = (h.0, inl h.1)
bytes_value at bytes (Err (BadVarint place)) h = h
bytes_value at bytes (Err (BadType place)) h = absurd h

value_reads : (at : ℕ) (wire : Wire) (bytes : List ℕ) → IsBytes bytes → ValueReads at wire bytes (value_at at wire bytes)
unfolding value_at
value_reads at wires.Varint bytes fits = varint_value at bytes (varint_at at bytes) (varint_reads at bytes fits)
value_reads at wires.Eight bytes fits = eight_value at bytes (chunk_at at 8 bytes) (chunk_reads at 8 bytes)
value_reads at wires.Bytes bytes fits = bytes_value at bytes (varint_at at bytes) (varint_reads at bytes fits)
value_reads at wires.Four bytes fits = four_value at bytes (chunk_at at 4 bytes) (chunk_reads at 4 bytes)

-- ---- a field

field_value : (at number : ℕ) (wire : Wire) (bytes tag rest : List ℕ) (read : Result (Content × List ℕ) WireFault) → 0 < length bytes → bytes ≡ tag ++ rest → IsTag tag number wire → ValueReads at wire rest read
    → FieldReads at bytes (read >>= λ v. Ok (number, v.0, v.1))
field_value at number wire bytes tag rest (Ok x) some p t h =
    (tag ++ h.0, joined bytes tag rest h.0 x.1 p h.1, record { tag = tag; rest = h.0; parts = refl; is_tag = subst (λ (w : Wire). IsTag tag number w) h.2 t; is_value = h.3 })
field_value at number wire bytes tag rest (Err (Truncated place)) some p t h = (h.0, some, inr (wire, rest, record { tag = tag; number = number; parts = p; is_tag = t }, h.1))
field_value at number wire bytes tag rest (Err (BadVarint place)) some p t h = (h.0, inr (wire, rest, record { tag = tag; number = number; parts = p; is_tag = t }, h.1))
field_value at number wire bytes tag rest (Err (BadType place)) some p t h = absurd h

pub IsBytes-behind : (front rest bytes : List ℕ) → bytes ≡ front ++ rest → IsBytes bytes → IsBytes rest
IsBytes-behind front rest bytes e h i = rw (← get_or-append-add front rest i 0, ← e) (h (length front + i))

field_step : (at : ℕ) (bytes : List ℕ) (read : Result (ℕ × Wire × List ℕ) WireFault) → IsBytes bytes → 0 < length bytes → TagReads at bytes read
    → FieldReads at bytes (read >>= λ tag. value_at at tag.1 tag.2 >>= λ v. Ok (tag.0, v.0, v.1))
field_step at bytes (Ok x) fits some h = field_value at x.0 x.1 bytes h.0 x.2 (value_at at x.1 x.2) some h.1 h.2 (value_reads at x.1 x.2 (IsBytes-behind h.0 x.2 bytes h.1 fits))
field_step at bytes (Err (Truncated place)) fits some h = (h.0, some, inl h.1)
field_step at bytes (Err (BadVarint place)) fits some h = (h.0, inl h.1)
field_step at bytes (Err (BadType place)) fits some h = h

pub field_reads : (at : ℕ) (bytes : List ℕ) → IsBytes bytes → 0 < length bytes → FieldReads at bytes (field_at at bytes)
unfolding field_at
field_reads at bytes fits some = field_step at bytes (tag_at at bytes) fits some (tag_reads at bytes fits)
