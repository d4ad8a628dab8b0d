-- What the messages in a written profile are read as, wherever they stand.
use Rattle.std.proofs.Common.{◌≡◌, ◌==◌, ℕ, ◌*◌, ◌^◌, ◌<◌, ◌≤◌, List, [], ◌∷◌, ◌++◌, length, Bool, true, false, cond, refl, sym, ap, ◌∙◌, append-nil, arith}
use Rattle.std.specs.Prelude.{pos}
use Rattle.std.specs.Int.{w64}
use Rattle.std.specs.List.{All, AllByRecursion}
use Rattle.std.proofs.lemmas.Bool.{eqb-true}
use Rattle.std.proofs.lemmas.Int.{to_z_pos}
use Rattle.std.proofs.lemmas.List.{length-append}
use Rattle.std.proofs.lemmas.List.Elements.{All-append, All-from_recursion, All-nil}
use Rattle.wire_proto.specs.Message.{WireField}
use Rattle.wire_proto.specs.Reading.{fields_of}
use Rattle.wire_proto.specs.Varint.{IsGroups}
use Rattle.wire_proto.specs.Writing.{varint}
use Rattle.wire_proto.proofs.Written.{varint_is_read, varint_spelled}
use Rattle.pprof_message.specs.Fields as spelled
use Rattle.pprof_message.specs.Fields.{singular}
use Rattle.pprof_message.specs.Messages.{function_of, int64, line_of, location_of, value_type_of}
use Rattle.pprof_message.specs.Packed.{SpellsPacked}
use Rattle.pprof_message.proofs.PackedLaw.{one}
use Rattle.pprof_writer.specs.Fields.{Field, Number, Part, message}
use Rattle.pprof_writer.specs.Written.{packed, written_function, written_line, written_location}
use Rattle.pprof_writer.proofs.MessageLemmas.{AreSound, IsNumber, message-read, messages-placed, number_at, part_at, placed}

pub int64-is : (n : ℕ) → n < 2 ^ 63 → int64 n ≡ pos n
int64-is n small = to_z_pos w64 n small

-- ---- two numbers

zero-is : (n : ℕ) → (n == 0) ≡ true → n ≡ 0
zero-is n h = eqb-true n 0 h

abbrev two_fields : WireField → WireField → WireField → Bool → Bool → List WireField
two_fields x y z b c = cond b (cond c [] (y ∷ [])) (x ∷ cond c [] (z ∷ []))

pub record AreNumbers (fields : List WireField) (p q : ℕ) : Type 0 where
  pub first : singular 1 fields ≡ p
  pub second : singular 2 fields ≡ q
  pub third : singular 3 fields ≡ 0

two-by : (p q at behind : ℕ) (b c : Bool) → (p == 0) ≡ b → (q == 0) ≡ c
    → AreNumbers (two_fields (number_at at 1 p) (number_at at 2 q) (number_at behind 2 q) b c) p q
two-by p q at behind true true hp hq = record { first = sym (zero-is p hp); second = sym (zero-is q hq); third = refl }
two-by p q at behind true false hp hq = record { first = sym (zero-is p hp); second = refl; third = refl }
two-by p q at behind false true hp hq = record { first = refl; second = sym (zero-is q hq); third = refl }
two-by p q at behind false false hp hq = record { first = refl; second = refl; third = refl }

abbrev pub numbers : ℕ → ℕ → List Field
numbers p q = Number 1 p ∷ Number 2 q ∷ []

two-numbers : (p q at : ℕ) → AreNumbers (placed at (numbers p q)) p q
two-numbers p q at = two-by p q at _ (p == 0) (q == 0) refl refl

sound-number : (number n : ℕ) → 1 ≤ number → number ≤ 11 → n < 2 ^ 63 → IsNumber number n
sound-number number n low high small = record { not_zero = low; at_most_last = omega arith; small = omega arith }

pub sound-numbers : (p q : ℕ) → p < 2 ^ 63 → q < 2 ^ 63 → AreSound (numbers p q)
sound-numbers p q hp hq = (sound-number 1 p (omega arith) (omega arith) hp, (sound-number 2 q (omega arith) (omega arith) hq, tt))

pub value-type-read : (p q at : ℕ) → p < 2 ^ 63 → q < 2 ^ 63 → value_type_of (fields_of (message (numbers p q)) at).fields ≡ record { kind = pos p; unit = pos q }
value-type-read p q at hp hq =
    let are = two-numbers p q at in
    ap (λ m. value_type_of m.fields) (message-read (numbers p q) at (sound-numbers p q hp hq))
    ∙ (λ i. record { kind = int64 (are.first i); unit = int64 (are.second i) })
    ∙ (λ i. record { kind = int64-is p hp i; unit = int64-is q hq i })

pub function-read : (p q at : ℕ) → p < 2 ^ 63 → q < 2 ^ 63 → function_of (fields_of (written_function (p, q)) at).fields ≡ record { id = p; name = pos q; system_name = pos 0 }
unfolding written_function
function-read p q at hp hq =
    let are = two-numbers p q at in
    ap (λ m. function_of m.fields) (message-read (numbers p q) at (sound-numbers p q hp hq))
    ∙ (λ i. record { id = are.first i; name = int64 (are.second i); system_name = int64 (are.third i) })
    ∙ (λ i. record { id = p; name = int64-is q hq i; system_name = int64-is 0 (omega arith) i })

-- ---- a line and its location

line-by : (id at : ℕ) (b : Bool) → (id == 0) ≡ b → singular 1 (cond b [] (number_at at 1 id ∷ [])) ≡ id
line-by id at true h = sym (zero-is id h)
line-by id at false h = refl

pub line-read : (id at : ℕ) → id < 2 ^ 63 → line_of (fields_of (written_line id) at).fields ≡ id
unfolding written_line
line-read id at small =
    ap (λ m. line_of m.fields) (message-read (Number 1 id ∷ []) at (sound-number 1 id (omega arith) (omega arith) small, tt)) ∙ line-by id at (id == 0) refl

abbrev pub location : ℕ → List Field
location id = Number 1 id ∷ Part 4 (written_line id) ∷ []

pub record IsHead (fields : List WireField) (id : ℕ) : Type 0 where
  pub first : singular 1 fields ≡ id
  pub third : singular 3 fields ≡ 0

head-by : (id at place : ℕ) (line : List ℕ) (b : Bool) → (id == 0) ≡ b
    → IsHead (cond b (part_at at 4 line ∷ []) (number_at at 1 id ∷ part_at place 4 line ∷ [])) id
head-by id at place line true h = record { first = sym (zero-is id h); third = refl }
head-by id at place line false h = record { first = refl; third = refl }

pub line-short : (id : ℕ) → id < 2 ^ 63 → length (written_line id) ≤ 20
unfolding written_line
line-short id small = by (id == 0)
  where
    by : (b : Bool) → length (cond b [] (varint (1 * 8) ++ varint id) ++ []) ≤ 20
    by true = omega arith
    by false =
        let one = (varint_spelled 8 (omega arith)).at_most_ten in
        let two = (varint_spelled id (omega arith)).at_most_ten in
        simp (append-nil, length-append) (omega arith)

pub sound-location : (id : ℕ) → id < 2 ^ 63 → AreSound (location id)
sound-location id small =
    let short = line-short id small in
    (sound-number 1 id (omega arith) (omega arith) small, (record { not_zero = omega arith; at_most_last = omega arith; short = omega arith }, tt))

pub location-read : (id at : ℕ) → id < 2 ^ 63 → location_of (fields_of (written_location id) at).fields ≡ record { id = id; address = 0; lines = id ∷ [] }
unfolding written_location
location-read id at small =
    let head = head-by id at _ (written_line id) (id == 0) refl in
    let lines = messages-placed 4 line_of (λ bytes. id) (location id) at ((λ place. line-read id place small), tt) in
    ap (λ m. location_of m.fields) (message-read (location id) at (sound-location id small))
    ∙ (λ i. record { id = head.first i; address = head.third i; lines = lines i })

-- ---- a sample

groups-bytes : (bytes : List ℕ) (n : ℕ) → IsGroups bytes n → AllByRecursion (λ b. b < 256) bytes
groups-bytes [] n h = absurd h
groups-bytes (b ∷ []) n h = (let low = h.0 in omega arith, tt)
groups-bytes (b ∷ c ∷ bs) n h = (h.1, groups-bytes (c ∷ bs) h.2 h.4)

packed-bytes : (ns : List ℕ) → AllByRecursion (λ n. n < 2 ^ 64) ns → All (λ b. b < 256) (packed ns)
packed-bytes [] small = All-nil (λ b. b < 256)
packed-bytes (n ∷ ns) small =
    All-append (λ b. b < 256) (varint n) (packed ns) (All-from_recursion (λ b. b < 256) (varint n) (groups-bytes (varint n) n (varint_spelled n small.0).groups)) (packed-bytes ns small.1)

packed-spelled : (ns : List ℕ) → AllByRecursion (λ n. n < 2 ^ 64) ns → SpellsPacked (packed ns) ns true
packed-spelled [] small = refl
packed-spelled (n ∷ ns) small = (packed ns, varint_is_read n (packed ns) small.0, packed-spelled ns small.1)

pub packed-read : (ns : List ℕ) → AllByRecursion (λ n. n < 2 ^ 64) ns → spelled.packed (packed ns) ≡ record { numbers = ns; is_whole = true }
packed-read ns small = one (packed ns) ns true (packed-bytes ns small) (packed-spelled ns small)

pub packed-short : (ns : List ℕ) → AllByRecursion (λ n. n < 2 ^ 64) ns → length (packed ns) ≤ 10 * length ns
packed-short [] small = omega arith
packed-short (n ∷ ns) small =
    let one = (varint_spelled n small.0).at_most_ten in
    let rest = packed-short ns small.1 in
    let long = length-append (varint n) (packed ns) in
    omega arith
