-- Packed numbers are what the bytes spell.
use Rattle.std.proofs.Common.{◌≡◌, ℕ, zero, suc, ◌<◌, ◌≤◌, List, [], ◌∷◌, length, Bool, true, false, Result, Ok, Err, refl, sym, ap, ◌∙◌, subst, inl, inr, arith}
use Rattle.std.specs.Prelude.{All}
use Rattle.std.proofs.lemmas.Bool.{cases_lt}
use Rattle.std.proofs.lemmas.List.{get_or_past}
use Rattle.wire_proto.specs.declared.field.WireFault.{WireFault}
use Rattle.wire_proto.specs.Reading.{varint_at}
use Rattle.wire_proto.proofs.Varints.{IsBytes}
use Rattle.wire_proto.proofs.FieldReads.{VarintReads, varint_reads, IsBytes-behind}
use Rattle.pprof_message.specs.Fields.{Packed, packed_from, packed}
use Rattle.pprof_message.specs.Packed.{SpellsPacked, PackedAreSpelled, PackedAreOne}
use Rattle.pprof_message.proofs.PackedLemmas.{HasVarint-shorter, packed-none, packed-more, packed-number, packed-broken}

IsBytes-from_all : (bytes : List ℕ) → All (λ b. b < 256) bytes → IsBytes bytes
IsBytes-from_all bytes all i = elim (cases_lt i (length bytes)) [ inl lt ↦ all i 0 lt | inr le ↦ rw (get_or_past bytes i 0 le) (omega arith) ]

abbrev Spells : List ℕ → Packed → Type 0
Spells bytes p = SpellsPacked bytes p.numbers p.is_whole

-- from what is read first
spells_from : (bytes : List ℕ) (read : Result (ℕ × List ℕ) WireFault) → IsBytes bytes → 0 < length bytes → VarintReads 0 bytes read
    → ((rest : List ℕ) → IsBytes rest → length rest < length bytes → Spells rest (packed rest)) → Spells bytes (packed_from packed read)
spells_from bytes (Ok x) fits some h more = (x.1, h, more x.1 (IsBytes-behind h.spelling x.1 bytes h.parts fits) (HasVarint-shorter bytes x.0 x.1 h))
spells_from bytes (Err fault) fits some h more = (some, fault, h)

spelled_within : (most : ℕ) (bytes : List ℕ) → length bytes ≤ most → IsBytes bytes → Spells bytes (packed bytes)
spelled_within most [] le fits = let P = Spells [] in subst P (sym (packed-none [] refl)) refl
spelled_within zero (b ∷ bs) le fits = absurd (omega (arith, le))
spelled_within (suc most) (b ∷ bs) le fits =
    let bytes : List ℕ = b ∷ bs in
    let some : 0 < length bytes = omega arith in
    let P = Spells bytes in
    subst P (sym (packed-more bytes fits some)) (spells_from bytes (varint_at 0 bytes) fits some (varint_reads 0 bytes fits) (λ rest bytes_fit less. spelled_within most rest (omega (arith, less, le)) bytes_fit))

pub spelled : PackedAreSpelled
spelled bytes all = spelled_within (length bytes) bytes (omega arith) (IsBytes-from_all bytes all)

one_within : (bytes numbers : List ℕ) (whole : Bool) → IsBytes bytes → SpellsPacked bytes numbers whole → packed bytes ≡ record { numbers = numbers; is_whole = whole }
one_within bytes [] true fits h = packed-none bytes (rw h refl)
one_within bytes [] false fits h = packed-broken bytes 0 h.1 fits h.0 h.2
one_within bytes (n ∷ ns) whole fits h =
    packed-number bytes n h.0 fits h.1
    ∙ ap (λ (p : Packed). record { numbers = n ∷ p.numbers; is_whole = p.is_whole }) (one_within h.0 ns whole (IsBytes-behind h.1.spelling h.0 bytes h.1.parts fits) h.2)

pub one : PackedAreOne
one bytes numbers whole all h = one_within bytes numbers whole (IsBytes-from_all bytes all) h
