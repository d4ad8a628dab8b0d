-- What is written is the shortest spelling, and is read again.
use Rattle.std.proofs.Common.{◌≡◌, ℕ, zero, suc, ◌+◌, ◌-◌, ◌*◌, ◌/◌, ◌%◌, ◌^◌, ◌<◌, ◌≤◌, List, [], ◌∷◌, ◌++◌, length, get_or, refl, arith, subst, inl, inr, append_assoc, add-zero}
use Rattle.std.proofs.lemmas.Bool.{cases_lt, le-ltb, lt-ltb}
use Rattle.std.proofs.lemmas.Nat.{shr_below}
use Rattle.wire_proto.specs.Varint.{IsGroups, IsVarint, HasVarint}
use Rattle.wire_proto.specs.Field.{Varint, Bytes, last_number, IsField}
use Rattle.wire_proto.specs.Message.{with_first}
use Rattle.wire_proto.specs.Reading.{fields_of}
use Rattle.wire_proto.specs.Writing.{IsShortest, groups_of, varint, number_field, bytes_field}
use Rattle.wire_proto.proofs.Readings.{first_is_read}

-- ---- numbers

-- the groups spell the number, the last possible one being 0 or 1
record IsWritten (more n : ℕ) (s : List ℕ) : Type 0 where
  groups : IsGroups s n
  short : length s ≤ suc more
  last : get_or s more 0 ≤ 1

behind : (b n high : ℕ) (s : List ℕ) → 128 ≤ b → b < 256 → n ≡ (b - 128) + 128 * high → IsGroups s high → IsGroups (b ∷ s) n
behind b n high [] p q e g = absurd g
behind b n high (c ∷ cs) p q e g = (p, q, high, e, g)

written : (more n : ℕ) → n < 2 ^ (7 * more + 1) → IsWritten more n (groups_of more n)
unfolding groups_of
written zero n small = record { groups = (omega (arith, small), refl); short = omega arith; last = omega (arith, small) }
written (suc more) n small =
    elim (cases_lt n 128) [
      | inl lt ↦ rw (lt-ltb n 128 lt) record { groups = (lt, refl); short = omega arith; last = omega arith }
      | inr le ↦
          let room : 7 * suc more + 1 ≡ (7 * more + 1) + 7 = omega arith in
          let P : ℕ → Type 0 = λ k. n < 2 ^ k in
          let rest = written more (n / 128) (shr_below n (7 * more + 1) 7 (subst P room small)) in
          rw (le-ltb n 128 le) record {
            groups = behind (n % 128 + 128) n (n / 128) (groups_of more (n / 128)) (omega arith) (omega arith) (omega arith) rest.groups;
            short = omega (arith, rest.short);
            last = rest.last;
          }
    ]

pub varint_spelled : (n : ℕ) → n < 2 ^ 64 → IsVarint (varint n) n
unfolding varint
varint_spelled n small = let w = written 9 n small in record { groups = w.groups; at_most_ten = w.short; tenth = w.last }

pub varint_is_read : (n : ℕ) (rest : List ℕ) → n < 2 ^ 64 → HasVarint (varint n ++ rest) n rest
varint_is_read n rest small = record { spelling = varint n; parts = refl; is_varint = varint_spelled n small }

shortest : (more : ℕ) (s : List ℕ) (n : ℕ) → IsGroups s n → length (groups_of more n) ≤ length s
unfolding groups_of
shortest more [] n g = absurd g
shortest zero (b ∷ bs) n g = omega arith
shortest (suc more) (b ∷ []) n g = rw (lt-ltb n 128 (omega (arith, g.0, g.1))) (omega arith)
shortest (suc more) (b ∷ c ∷ cs) n g =
    elim (cases_lt n 128) [
      | inl lt ↦ rw (lt-ltb n 128 lt) (omega arith)
      | inr le ↦
          let high : n / 128 ≡ g.2 = omega (arith, g.0, g.1, g.3) in
          let rest : length (groups_of more g.2) ≤ length (c ∷ cs) = shortest more (c ∷ cs) g.2 g.4 in
          rw (le-ltb n 128 le, high) (omega (arith, rest))
    ]

pub varint_is_shortest : (n : ℕ) → n < 2 ^ 64 → IsShortest (varint n) n
unfolding varint
varint_is_shortest n small = record { spelled = varint_spelled n small; shortest = λ other v. shortest 9 other n v.groups }

-- ---- fields

number_spelled : (number n : ℕ) → 1 ≤ number → number ≤ last_number → n < 2 ^ 64 → IsField (number_field number n) number (Varint n)
number_spelled number n low high small =
    let tag : IsVarint (varint (number * 8)) (number * 8 + 0) = rw add-zero (varint_spelled (number * 8) (omega arith)) in
    record {
      tag = varint (number * 8);
      rest = varint n;
      parts = refl;
      is_tag = record { spelled = tag; not_zero = low; at_most_last = high };
      is_value = varint_spelled n small;
    }

bytes_spelled : (number : ℕ) (bytes : List ℕ) → 1 ≤ number → number ≤ last_number → length bytes < 2 ^ 64 → IsField (bytes_field number bytes) number (Bytes bytes)
bytes_spelled number bytes low high small = record {
  tag = varint (number * 8 + 2);
  rest = varint (length bytes) ++ bytes;
  parts = append_assoc (varint (number * 8 + 2)) (varint (length bytes)) bytes;
  is_tag = record { spelled = varint_spelled (number * 8 + 2) (omega arith); not_zero = low; at_most_last = high };
  is_value = (varint (length bytes), varint_spelled (length bytes) small, refl);
}

pub number_is_read : (number n at : ℕ) (rest : List ℕ) → 1 ≤ number → number ≤ last_number → n < 2 ^ 64
    → fields_of (number_field number n ++ rest) at ≡ with_first (record { number = number; at = at; end = at + length (number_field number n); value = Varint n }) (fields_of rest (at + length (number_field number n)))
number_is_read number n at rest low high small =
    first_is_read (number_field number n) rest at (record { number = number; at = at; end = at + length (number_field number n); value = Varint n }) (record { spelled = number_spelled number n low high small; from = refl; to = refl })

pub bytes_is_read : (number at : ℕ) (bytes rest : List ℕ) → 1 ≤ number → number ≤ last_number → length bytes < 2 ^ 64
    → fields_of (bytes_field number bytes ++ rest) at ≡ with_first (record { number = number; at = at; end = at + length (bytes_field number bytes); value = Bytes bytes }) (fields_of rest (at + length (bytes_field number bytes)))
bytes_is_read number at bytes rest low high small =
    first_is_read (bytes_field number bytes) rest at (record { number = number; at = at; end = at + length (bytes_field number bytes); value = Bytes bytes }) (record { spelled = bytes_spelled number bytes low high small; from = refl; to = refl })
