-- What a message reads as, field by field.
use Rattle.std.proofs.Common.{◌≡◌, ℕ, zero, suc, ◌+◌, ◌-◌, ◌*◌, ◌<◌, ◌≤◌, List, [], ◌∷◌, ◌++◌, length, take, drop, Result, Ok, Err, refl, sym, ap, ◌∙◌, arith, ltb, leb, eqb, true, false}
use Rattle.std.proofs.lemmas.Bool.{cond_both, eqb-true, eqb-false}
use Rattle.std.proofs.lemmas.List.{length-drop, length-append}
use Rattle.wire_proto.specs.declared.wire.Wire.{Wire}
use Rattle.wire_proto.specs.declared.wire.Wire.TheVariants as wires
use Rattle.wire_proto.specs.declared.field.WireFault.{WireFault}
use Rattle.wire_proto.specs.declared.field.WireFault.TheVariants.{Truncated, BadVarint}
use Rattle.wire_proto.specs.Field.{Content, Varint, Eight, Bytes, Four, IsFault}
use Rattle.wire_proto.specs.Message.{WireField, Spells, Message, empty, faulty, with_first}
use Rattle.wire_proto.specs.Reading.{◌>>=◌, varint_within, varint_at, chunk_at, number_at, wire_at, tag_at, value_at, field_at, message_from, message_within, fields_of}
use Rattle.wire_proto.proofs.Varints.{ok_is}
use Rattle.wire_proto.proofs.FieldAgain.{field_again, fault_again}

-- ---- each part that is read leaves fewer bytes

-- what was read leaves fewer bytes than these
abbrev pub Shortens : {X : Type 0} → (X → List ℕ) → List ℕ → Result X WireFault → Type 0
Shortens rest bytes (Ok x) = length (rest x) < length bytes
Shortens rest bytes (Err fault) = Unit {0}

Shortens-bind : {X Y : Type 0} (left : X → List ℕ) (rest : Y → List ℕ) (bytes : List ℕ) (read : Result X WireFault) (more : X → Result Y WireFault)
    → Shortens left bytes read → ((x : X) → length (left x) < length bytes → Shortens rest bytes (more x)) → Shortens rest bytes (read >>= more)
Shortens-bind left rest bytes (Ok x) more h then = then x h
Shortens-bind left rest bytes (Err fault) more h then = tt

Shortens-more : {X : Type 0} (rest : X → List ℕ) (fewer bytes : List ℕ) (read : Result X WireFault) → length fewer ≤ length bytes → Shortens rest fewer read → Shortens rest bytes read
Shortens-more rest fewer bytes (Ok x) le h = omega (arith, h, le)
Shortens-more rest fewer bytes (Err fault) le h = tt

Shortens-beside : {X : Type 0} (rest bytes : List ℕ) (read : Result X WireFault) → length rest < length bytes → Shortens (λ _. rest) bytes read
Shortens-beside rest bytes (Ok x) h = h
Shortens-beside rest bytes (Err fault) h = tt

varint_shortens : (at more : ℕ) (bytes : List ℕ) → Shortens (λ x. x.1) bytes (varint_within at more bytes)
unfolding varint_within
varint_shortens at more [] = tt
varint_shortens at zero (b ∷ bs) = cond_both (leb b 1) (Ok (b, bs)) (Err (BadVarint at)) (Shortens (λ x. x.1) (b ∷ bs)) (λ _. omega arith) (λ _. tt)
varint_shortens at (suc more) (b ∷ bs) =
    cond_both (ltb b 128) (Ok (b, bs)) (varint_within at more bs >>= λ rest. Ok ((b - 128) + 128 * rest.0, rest.1)) (Shortens (λ x. x.1) (b ∷ bs)) (λ _. omega arith)
    (λ _. Shortens-bind (λ x. x.1) (λ x. x.1) (b ∷ bs) (varint_within at more bs) (λ rest. Ok ((b - 128) + 128 * rest.0, rest.1))
    (Shortens-more (λ x. x.1) bs (b ∷ bs) (varint_within at more bs) (omega arith) (varint_shortens at more bs)) (λ x h. h))

varint_at_shortens : (at : ℕ) (fewer bytes : List ℕ) → length fewer ≤ length bytes → Shortens (λ x. x.1) bytes (varint_at at fewer)
unfolding varint_at
varint_at_shortens at fewer bytes le = Shortens-more (λ x. x.1) fewer bytes (varint_within at 9 fewer) le (varint_shortens at 9 fewer)

chunk_shortens : (at size : ℕ) (fewer bytes : List ℕ) → length fewer < length bytes → Shortens (λ x. x.1) bytes (chunk_at at size fewer)
unfolding chunk_at
chunk_shortens at size fewer bytes lt =
    cond_both (ltb (length fewer) size) (Err (Truncated at)) (Ok (take size fewer, drop size fewer)) (Shortens (λ x. x.1) bytes) (λ _. tt) (λ _. omega (arith, length-drop size fewer))

tag_shortens : (at : ℕ) (bytes : List ℕ) → Shortens (λ x. x.2) bytes (tag_at at bytes)
unfolding tag_at
tag_shortens at bytes =
    Shortens-bind (λ x. x.1) (λ x. x.2) bytes (varint_at at bytes) _ (varint_at_shortens at bytes bytes (omega arith)) (λ tag h.
    Shortens-bind (λ _. tag.1) (λ x. x.2) bytes (number_at at tag.0) _ (Shortens-beside tag.1 bytes (number_at at tag.0) h) (λ number _.
    Shortens-bind (λ _. tag.1) (λ x. x.2) bytes (wire_at at tag.0) _ (Shortens-beside tag.1 bytes (wire_at at tag.0) h) (λ wire _. h)))

value_shortens : (at : ℕ) (wire : Wire) (fewer bytes : List ℕ) → length fewer < length bytes → Shortens (λ x. x.1) bytes (value_at at wire fewer)
unfolding value_at
value_shortens at wires.Varint fewer bytes lt =
    Shortens-bind (λ x. x.1) (λ x. x.1) bytes (varint_at at fewer) (λ n. Ok (Varint n.0, n.1)) (varint_at_shortens at fewer bytes (omega arith)) (λ n h. h)
value_shortens at wires.Eight fewer bytes lt = Shortens-bind (λ x. x.1) (λ x. x.1) bytes (chunk_at at 8 fewer) (λ v. Ok (Eight v.0, v.1)) (chunk_shortens at 8 fewer bytes lt) (λ v h. h)
value_shortens at wires.Bytes fewer bytes lt =
    Shortens-bind (λ x. x.1) (λ x. x.1) bytes (varint_at at fewer) (λ size. chunk_at at size.0 size.1 >>= λ v. Ok (Bytes v.0, v.1)) (varint_at_shortens at fewer bytes (omega arith)) (λ size less.
    Shortens-bind (λ x. x.1) (λ x. x.1) bytes (chunk_at at size.0 size.1) (λ v. Ok (Bytes v.0, v.1)) (chunk_shortens at size.0 size.1 bytes less) (λ v h. h))
value_shortens at wires.Four fewer bytes lt = Shortens-bind (λ x. x.1) (λ x. x.1) bytes (chunk_at at 4 fewer) (λ v. Ok (Four v.0, v.1)) (chunk_shortens at 4 fewer bytes lt) (λ v h. h)

pub field_shortens : (at : ℕ) (bytes : List ℕ) → Shortens (λ x. x.2) bytes (field_at at bytes)
unfolding field_at
field_shortens at bytes =
    Shortens-bind (λ x. x.2) (λ x. x.2) bytes (tag_at at bytes) (λ tag. value_at at tag.1 tag.2 >>= λ v. Ok (tag.0, v.0, v.1)) (tag_shortens at bytes) (λ tag less.
    Shortens-bind (λ x. x.1) (λ x. x.2) bytes (value_at at tag.1 tag.2) (λ v. Ok (tag.0, v.0, v.1)) (value_shortens at tag.1 tag.2 bytes less) (λ v h. h))

-- ---- enough turns read the whole message

abbrev pub More : Type 0
More = List ℕ → ℕ → Message

same_from : (at : ℕ) (bytes : List ℕ) (f g : More) (read : Result (ℕ × Content × List ℕ) WireFault) → Shortens (λ x. x.2) bytes read
    → ((rest : List ℕ) (place : ℕ) → length rest < length bytes → f rest place ≡ g rest place) → message_from at bytes f read ≡ message_from at bytes g read
same_from at bytes f g (Ok x) h same =
    let end : ℕ = at + (length bytes - length x.2) in
    ap (with_first (record { number = x.0; at = at; end = end; value = x.1 })) (same x.2 end h)
same_from at bytes f g (Err fault) h same = refl

enough : (j k : ℕ) (bytes : List ℕ) (at : ℕ) → length bytes ≤ j → length bytes ≤ k → message_within j bytes at ≡ message_within k bytes at
unfolding message_within
enough zero zero [] at p q = refl
enough zero (suc k) [] at p q = refl
enough (suc j) zero [] at p q = refl
enough (suc j) (suc k) [] at p q = refl
enough zero k (b ∷ bs) at p q = absurd (omega (arith, p))
enough (suc j) zero (b ∷ bs) at p q = absurd (omega (arith, q))
enough (suc j) (suc k) (b ∷ bs) at p q =
    same_from at (b ∷ bs) (message_within j) (message_within k) (field_at at (b ∷ bs)) (field_shortens at (b ∷ bs)) (λ rest place less. enough j k rest place (omega (arith, less, p)) (omega (arith, less, q)))

-- ---- one turn

pub fields_of-none : (bytes : List ℕ) (at : ℕ) → eqb (length bytes) 0 ≡ true → fields_of bytes at ≡ empty
unfolding fields_of message_within
fields_of-none [] at e = refl
fields_of-none (b ∷ bs) at e = absurd (omega (arith, eqb-true _ _ e))

pub fields_of-more : (bytes : List ℕ) (at : ℕ) → 0 < length bytes → fields_of bytes at ≡ message_from at bytes fields_of (field_at at bytes)
unfolding fields_of message_within
fields_of-more [] at some = absurd (omega (arith, some))
fields_of-more (b ∷ bs) at some =
    same_from at (b ∷ bs) (message_within (length bs)) (λ rest place. message_within (length rest) rest place) (field_at at (b ∷ bs)) (field_shortens at (b ∷ bs))
    (λ rest place less. enough (length bs) (length rest) rest place (omega (arith, less)) (omega arith))

pub fields_of-fault : (bytes : List ℕ) (at : ℕ) (fault : WireFault) → 0 < length bytes → field_at at bytes ≡ Err fault → fields_of bytes at ≡ faulty fault
fields_of-fault bytes at fault some e = fields_of-more bytes at some ∙ ap (message_from at bytes fields_of) e

pub fields_of-field : (bytes : List ℕ) (at number : ℕ) (value : Content) (rest : List ℕ) → 0 < length bytes → field_at at bytes ≡ Ok (number, value, rest)
    → fields_of bytes at ≡ message_from at bytes fields_of (Ok (number, value, rest))
fields_of-field bytes at number value rest some e = fields_of-more bytes at some ∙ ap (message_from at bytes fields_of) e

-- ---- what a reader gives

pub some_from : (n : ℕ) → eqb n 0 ≡ false → 0 < n
some_from n e = let ne = eqb-false n 0 e in omega (arith, ne)

pub not_both : {X : Type 0} (read : Result X WireFault) (x : X) (fault : WireFault) → read ≡ Ok x → read ≡ Err fault → ⊥
not_both read x fault p q = cc

made_of : (f : WireField) (number at end : ℕ) (value : Content) → number ≡ f.number → at ≡ f.at → end ≡ f.end → value ≡ f.value → record { number = number; at = at; end = end; value = value } ≡ f
made_of f number at end value p q r s = rw (p, q, r, s) refl

-- the one field at the front
pub same_field : (bytes spelling rest left : List ℕ) (at number : ℕ) (value : Content) (f : WireField) → field_at at bytes ≡ Ok (number, value, left) → bytes ≡ spelling ++ rest → Spells spelling at f
    → (record { number = number; at = at; end = at + (length bytes - length left); value = value } ≡ f) × (left ≡ rest)
same_field bytes spelling rest left at number value f e p s =
    let read : ℕ × Content × List ℕ = (number, value, left) in
    let spelled : ℕ × Content × List ℕ = (f.number, f.value, rest) in
    let same : read ≡ spelled = ok_is read spelled (sym e ∙ ap (field_at at) p ∙ field_again at f.number f.value spelling rest s.spelled) in
    let left_is : left ≡ rest = ap (λ (x : ℕ × Content × List ℕ). x.2) same in
    let end_is : at + (length bytes - length left) ≡ f.end = omega (arith, ap length p, length-append spelling rest, ap length left_is, s.to) in
    (made_of f number at (at + (length bytes - length left)) value (ap (λ (x : ℕ × Content × List ℕ). x.0) same) (sym s.from) end_is (ap (λ (x : ℕ × Content × List ℕ). x.1) same), left_is)

pub no_field : (bytes spelling rest : List ℕ) (at : ℕ) (fault : WireFault) (f : WireField) → field_at at bytes ≡ Err fault → bytes ≡ spelling ++ rest → Spells spelling at f → ⊥
no_field bytes spelling rest at fault f e p s = not_both (field_at at bytes) (f.number, f.value, rest) fault (ap (field_at at) p ∙ field_again at f.number f.value spelling rest s.spelled) e

-- the one fault at the front
pub same_fault : (bytes : List ℕ) (at : ℕ) (told fault : WireFault) → field_at at bytes ≡ Err told → IsFault bytes at fault → told ≡ fault
same_fault bytes at told fault e h = let both : Err told ≡ Err fault = sym e ∙ fault_again at bytes fault h in cc
