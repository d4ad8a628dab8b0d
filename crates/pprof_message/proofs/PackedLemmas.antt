-- Packed numbers, one after another.
use Rattle.std.proofs.Common.{◌≡◌, ℕ, zero, suc, ◌<◌, ◌≤◌, List, [], ◌∷◌, ◌++◌, length, map, true, false, eqb, Result, Ok, Err, refl, ap, ◌∙◌, subst, arith, append_assoc}
use Rattle.std.proofs.lemmas.Bool.{eqb-true}
use Rattle.std.proofs.lemmas.List.{length-append, append-nil}
use Rattle.wire_proto.specs.declared.field.WireFault.{WireFault}
use Rattle.wire_proto.specs.declared.field.WireFault.TheVariants.{Truncated, BadVarint, BadType}
use Rattle.wire_proto.specs.Varint.{IsGroups, HasVarint, IsVarintFault}
use Rattle.wire_proto.specs.Reading.{varint_at}
use Rattle.wire_proto.proofs.Varints.{IsBytes}
use Rattle.wire_proto.proofs.FieldReads.{VarintReads, varint_reads, IsBytes-behind}
use Rattle.wire_proto.proofs.FieldAgain.{has_varint, varint_fault_again}
use Rattle.pprof_message.specs.Fields.{Packed, packed_from, packed_within, packed}
use Rattle.pprof_message.specs.Runs.{Runs, begun_with}

-- ---- a number has at least one byte

groups_some : (s : List ℕ) (n : ℕ) → IsGroups s n → 0 < length s
groups_some [] n g = absurd g
groups_some (b ∷ bs) n g = omega arith

pub HasVarint-shorter : (bytes : List ℕ) (n : ℕ) (rest : List ℕ) → HasVarint bytes n rest → length rest < length bytes
HasVarint-shorter bytes n rest h = omega (arith, groups_some h.spelling n h.is_varint.groups, ap length h.parts, length-append h.spelling rest)

read_is : (bytes : List ℕ) (n : ℕ) (rest : List ℕ) → IsBytes bytes → varint_at 0 bytes ≡ Ok (n, rest) → HasVarint bytes n rest
read_is bytes n rest fits e = let P = VarintReads 0 bytes in subst P e (varint_reads 0 bytes fits)

-- ---- enough turns read them all

same_from : (f g : List ℕ → Packed) (read : Result (ℕ × List ℕ) WireFault) → ((n : ℕ) (rest : List ℕ) → read ≡ Ok (n, rest) → f rest ≡ g rest) → packed_from f read ≡ packed_from g read
same_from f g (Ok x) same = ap (λ (rest : Packed). record { numbers = x.0 ∷ rest.numbers; is_whole = rest.is_whole }) (same x.0 x.1 refl)
same_from f g (Err fault) same = refl

enough : (j k : ℕ) (bytes : List ℕ) → IsBytes bytes → length bytes ≤ j → length bytes ≤ k → packed_within j bytes ≡ packed_within k bytes
unfolding packed_within
enough zero zero [] fits p q = refl
enough zero (suc k) [] fits p q = refl
enough (suc j) zero [] fits p q = refl
enough (suc j) (suc k) [] fits p q = refl
enough zero k (b ∷ bs) fits p q = absurd (omega (arith, p))
enough (suc j) zero (b ∷ bs) fits p q = absurd (omega (arith, q))
enough (suc j) (suc k) (b ∷ bs) fits p q =
    same_from (packed_within j) (packed_within k) (varint_at 0 (b ∷ bs)) (λ n rest e.
    let h : HasVarint (b ∷ bs) n rest = read_is (b ∷ bs) n rest fits e in
    let less = HasVarint-shorter (b ∷ bs) n rest h in
    enough j k rest (IsBytes-behind h.spelling rest (b ∷ bs) h.parts fits) (omega (arith, less, p)) (omega (arith, less, q)))

-- ---- one turn

pub packed-none : (bytes : List ℕ) → eqb (length bytes) 0 ≡ true → packed bytes ≡ record { numbers = []; is_whole = true }
unfolding packed packed_within
packed-none [] e = refl
packed-none (b ∷ bs) e = absurd (omega (arith, eqb-true _ _ e))

pub packed-more : (bytes : List ℕ) → IsBytes bytes → 0 < length bytes → packed bytes ≡ packed_from packed (varint_at 0 bytes)
unfolding packed packed_within
packed-more [] fits some = absurd (omega (arith, some))
packed-more (b ∷ bs) fits some =
    same_from (packed_within (length bs)) (λ rest. packed_within (length rest) rest) (varint_at 0 (b ∷ bs)) (λ n rest e.
    let h : HasVarint (b ∷ bs) n rest = read_is (b ∷ bs) n rest fits e in
    let less = HasVarint-shorter (b ∷ bs) n rest h in
    enough (length bs) (length rest) rest (IsBytes-behind h.spelling rest (b ∷ bs) h.parts fits) (omega (arith, less)) (omega arith))

pub packed-number : (bytes : List ℕ) (n : ℕ) (rest : List ℕ) → IsBytes bytes → HasVarint bytes n rest → packed bytes ≡ record { numbers = n ∷ (packed rest).numbers; is_whole = (packed rest).is_whole }
packed-number bytes n rest fits h = packed-more bytes fits (omega (arith, HasVarint-shorter bytes n rest h)) ∙ ap (packed_from packed) (has_varint 0 bytes n rest h)

-- the same fault, told from another place
at_zero : (bytes : List ℕ) (at : ℕ) (fault : WireFault) → IsVarintFault bytes at fault → (other : WireFault) × (varint_at 0 bytes ≡ Err other)
at_zero bytes at (Truncated place) h = (Truncated 0, varint_fault_again 0 bytes (Truncated 0) (refl, h.1))
at_zero bytes at (BadVarint place) h = (BadVarint 0, varint_fault_again 0 bytes (BadVarint 0) (refl, h.1))
at_zero bytes at (BadType place) h = absurd h

pub packed-broken : (bytes : List ℕ) (at : ℕ) (fault : WireFault) → IsBytes bytes → 0 < length bytes → IsVarintFault bytes at fault → packed bytes ≡ record { numbers = []; is_whole = false }
packed-broken bytes at fault fits some h = packed-more bytes fits some ∙ ap (packed_from packed) (at_zero bytes at fault h).1

-- ---- into a list

pub begun_more : {T : Type 0} (of : ℕ → T) (old new : Runs T) (n : ℕ) (numbers : List ℕ) (x : T) → x ≡ of n → new ≡ record { closed = old.closed; begun = old.begun ++ x ∷ [] }
    → begun_with new (map of numbers) ≡ begun_with old (map of (n ∷ numbers))
begun_more {T} of old new n numbers x is e =
    rw (e, is) (ap (λ (items : List T). record { closed = old.closed; begun = items }) (append_assoc old.begun (of n ∷ []) (map of numbers)))

pub begun_same : {T : Type 0} (runs : Runs T) → begun_with runs [] ≡ runs
begun_same {T} runs = ap (λ (items : List T). record { closed = runs.closed; begun = items }) (append-nil runs.begun)
