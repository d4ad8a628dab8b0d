-- A message has one reading, and it is the one that is computed.
use Rattle.std.proofs.Common.{◌≡◌, ℕ, zero, suc, ◌+◌, ◌-◌, ◌<◌, ◌≤◌, List, [], ◌∷◌, ◌++◌, length, Result, Ok, Err, Option, Some, None, refl, sym, ap, ◌∙◌, arith, subst, inl, inr}
use Rattle.std.specs.Prelude.{All}
use Rattle.std.proofs.lemmas.Bool.{cases_lt}
use Rattle.std.proofs.lemmas.List.{length-append, get_or_past}
use Rattle.wire_proto.specs.declared.field.WireFault.{WireFault}
use Rattle.wire_proto.specs.declared.field.WireFault.TheVariants.{Truncated}
use Rattle.wire_proto.specs.Varint.{IsGroups}
use Rattle.wire_proto.specs.Field.{Content, IsField, IsFault}
use Rattle.wire_proto.specs.Message.{WireField, Spells, Reads, Message, with_first}
use Rattle.wire_proto.specs.Reading.{varint_within, varint_at, tag_at, field_at, FieldReads, message_from, message_within, fields_of}
use Rattle.wire_proto.proofs.Varints.{IsBytes}
use Rattle.wire_proto.proofs.FieldReads.{IsBytes-behind, field_reads}
use Rattle.wire_proto.proofs.FieldAgain.{field_again, fault_again}
use Rattle.wire_proto.proofs.Messages.{Shortens, More, field_shortens, fields_of-field, fields_of-fault, same_field}

-- ---- the bytes read so

reads_from : (at : ℕ) (bytes : List ℕ) (more : More) (read : Result (ℕ × Content × List ℕ) WireFault) → IsBytes bytes → FieldReads at bytes read → Shortens (λ x. x.2) bytes read
    → ((rest : List ℕ) (place : ℕ) → IsBytes rest → length rest < length bytes → Reads rest place (more rest place).fields (more rest place).fault)
    → Reads bytes at (message_from at bytes more read).fields (message_from at bytes more read).fault
reads_from at bytes more (Ok x) fits h less then =
    let to : at + (length bytes - length x.2) ≡ at + length h.0 = omega (arith, ap length h.1, length-append h.0 x.2) in
    (h.0, x.2, h.1, record { spelled = h.2; from = refl; to = to }, then x.2 (at + (length bytes - length x.2)) (IsBytes-behind h.0 x.2 bytes h.1 fits) less)
reads_from at bytes more (Err fault) fits h less then = h

reads_within : (most : ℕ) (bytes : List ℕ) (at : ℕ) → IsBytes bytes → length bytes ≤ most → Reads bytes at (message_within most bytes at).fields (message_within most bytes at).fault
unfolding message_within
reads_within zero [] at fits le = refl
reads_within (suc most) [] at fits le = refl
reads_within zero (b ∷ bs) at fits le = absurd (omega (arith, le))
reads_within (suc most) (b ∷ bs) at fits le =
    reads_from at (b ∷ bs) (message_within most) (field_at at (b ∷ bs)) fits (field_reads at (b ∷ bs) fits (omega arith)) (field_shortens at (b ∷ bs))
    (λ rest place bytes less. reads_within most rest place bytes (omega (arith, less, le)))

IsBytes-from_all : (bytes : List ℕ) → All (λ b. b < 256) bytes → IsBytes bytes
IsBytes-from_all bytes all i = elim (cases_lt i (length bytes)) [ inl lt ↦ all i 0 lt | inr le ↦ rw (get_or_past bytes i 0 le) (omega arith) ]

pub reads : (bytes : List ℕ) (at : ℕ) → All (λ b. b < 256) bytes → Reads bytes at (fields_of bytes at).fields (fields_of bytes at).fault
unfolding fields_of
reads bytes at all = reads_within (length bytes) bytes at (IsBytes-from_all bytes all) (omega arith)

-- ---- and in no other way

groups_some : (s : List ℕ) (n : ℕ) → IsGroups s n → 0 < length s
groups_some [] n g = absurd g
groups_some (b ∷ bs) n g = omega arith

field_some : (spelling : List ℕ) (number : ℕ) (value : Content) → IsField spelling number value → 0 < length spelling
field_some spelling number value f = omega (arith, groups_some f.tag _ f.is_tag.spelled.groups, ap length f.parts, length-append f.tag f.rest)

nothing_is_cut : (at : ℕ) → field_at at [] ≡ Err (Truncated at)
unfolding field_at tag_at varint_at varint_within
nothing_is_cut at = refl

fault_some : (bytes : List ℕ) (at : ℕ) (fault : WireFault) → IsFault bytes at fault → 0 < length bytes
fault_some [] at fault h =
    let told : Err (Truncated at) ≡ Err fault = sym (nothing_is_cut at) ∙ fault_again at [] fault h in
    let same : fault ≡ Truncated at = cc in
    let P : WireFault → Type 0 = IsFault [] at in
    absurd (omega (arith, (subst P same h).1))
fault_some (b ∷ bs) at fault h = omega arith

pub first_is_read : (spelling rest : List ℕ) (at : ℕ) (f : WireField) → Spells spelling at f → fields_of (spelling ++ rest) at ≡ with_first f (fields_of rest f.end)
first_is_read spelling rest at f s =
    let bytes : List ℕ = spelling ++ rest in
    let some : 0 < length bytes = omega (arith, field_some spelling f.number f.value s.spelled, length-append spelling rest) in
    let e : field_at at bytes ≡ Ok (f.number, f.value, rest) = field_again at f.number f.value spelling rest s.spelled in
    let g : WireField = record { number = f.number; at = at; end = at + (length bytes - length rest); value = f.value } in
    let same : g ≡ f = (same_field bytes spelling rest rest at f.number f.value f e refl s).0 in
    fields_of-field bytes at f.number f.value rest some e ∙ ap (λ (h : WireField). with_first h (fields_of rest h.end)) same

pub only : (bytes : List ℕ) (at : ℕ) (fields : List WireField) (fault : Option WireFault) → Reads bytes at fields fault → fields_of bytes at ≡ record { fields = fields; fault = fault }
unfolding fields_of message_within
only bytes at [] None e = rw e refl
only bytes at [] (Some fault) h = fields_of-fault bytes at fault (fault_some bytes at fault h) (fault_again at bytes fault h)
only bytes at (f ∷ fs) fault h = rw h.2 (first_is_read h.0 h.1 at f h.3 ∙ ap (with_first f) (only h.1 f.end fs fault h.4))

pub one : (bytes : List ℕ) (at : ℕ) (fields others : List WireField) (fault other : Option WireFault) → Reads bytes at fields fault → Reads bytes at others other → (fields ≡ others) × (fault ≡ other)
one bytes at fields others fault other p q =
    let a : Message = record { fields = fields; fault = fault } in
    let b : Message = record { fields = others; fault = other } in
    let same : a ≡ b = sym (only bytes at fields fault p) ∙ only bytes at others other q in
    (ap (λ (m : Message). m.fields) same, ap (λ (m : Message). m.fault) same)
