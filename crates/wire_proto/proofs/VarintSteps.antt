-- Reading a varint byte by byte, as the loop does.
use Rattle.std.proofs.Common.{◌≡◌, ℕ, zero, suc, ◌+◌, ◌-◌, ◌*◌, ◌%◌, ◌^◌, ◌<◌, ◌≤◌, List, ◌∷◌, length, get_or, take, drop, Result, Ok, Err, refl, ap, arith, false, ltb, add-one}
use Rattle.std.proofs.lemmas.List.{drop_more, drop_all, take_rest}
use Rattle.std.proofs.lemmas.Bool.{le-ltb, lt-ltb, le-leb, lt-leb}
use Rattle.std.proofs.Math.Nat.{pow-suc, mul-le-mul_right}
use Rattle.wire_proto.specs.declared.field.WireFault.{WireFault}
use Rattle.wire_proto.specs.declared.field.WireFault.TheVariants.{Truncated, BadVarint}
use Rattle.wire_proto.specs.Reading.{◌>>=◌, varint_within}

-- the bytes read so far stand for `number`, and those that are still read count from `weight` on
abbrev pub resumed : ℕ → ℕ → Result (ℕ × List ℕ) WireFault → Result (ℕ × List ℕ) WireFault
resumed number weight read = read >>= λ x. Ok (number + weight * x.0, x.1)

regrouped : (number weight b : ℕ) (read : Result (ℕ × List ℕ) WireFault) → 128 ≤ b → b < 256
    → resumed number weight (read >>= λ x. Ok ((b - 128) + 128 * x.0, x.1)) ≡ resumed (number + b % 128 * weight) (weight * 128) read
regrouped number weight b (Ok x) high fits =
    let low : b % 128 ≡ b - 128 = omega arith in
    let e : number + weight * ((b - 128) + 128 * x.0) ≡ number + b % 128 * weight + weight * 128 * x.0 = rw low (grind arith) in
    ap (λ (n : ℕ). Ok (n, x.1)) e
regrouped number weight b (Err e) high fits = refl

pub resumed_more : (at number weight index : ℕ) (bytes : List ℕ) → index < length bytes → index < 9 → 128 ≤ get_or bytes index 0 → get_or bytes index 0 < 256
    → resumed number weight (varint_within at (9 - index) (drop index bytes)) ≡ resumed (number + get_or bytes index 0 % 128 * weight) (weight * 128) (varint_within at (9 - (index + 1)) (drop (index + 1) bytes))
unfolding varint_within
resumed_more at number weight index bytes lt low high fits =
    let k : 9 - index ≡ suc (9 - (index + 1)) = omega arith in
    let test : ltb (get_or bytes index 0) 128 ≡ false = le-ltb _ _ high in
    rw (k, drop_more bytes index 0 lt, test) (regrouped number weight (get_or bytes index 0) (varint_within at (9 - (index + 1)) (drop (index + 1) bytes)) high fits)

pub resumed_start : (read : Result (ℕ × List ℕ) WireFault) → resumed 0 1 read ≡ read
resumed_start (Ok x) = ap (λ (n : ℕ). Ok (n, x.1)) (omega arith)
resumed_start (Err e) = refl

last_is : (at k b : ℕ) (bs : List ℕ) → b < 128 → (k ≡ 0 → b ≤ 1) → varint_within at k (b ∷ bs) ≡ Ok (b, bs)
unfolding varint_within
last_is at zero b bs low one = rw (le-leb b 1 (one refl)) refl
last_is at (suc k) b bs low one = rw (lt-ltb b 128 low) refl

pub resumed_last : (at number weight index : ℕ) (bytes : List ℕ) → index < length bytes → index ≤ 9 → get_or bytes index 0 < 128 → (index ≡ 9 → get_or bytes index 0 ≤ 1)
    → resumed number weight (varint_within at (9 - index) (drop index bytes)) ≡ Ok (number + get_or bytes index 0 % 128 * weight, take (length bytes - (index + 1)) (drop (index + 1) bytes))
resumed_last at number weight index bytes lt ten low one =
    let b : ℕ = get_or bytes index 0 in
    let rest : List ℕ = drop (index + 1) bytes in
    let one' : 9 - index ≡ 0 → b ≤ 1 = λ none. one (omega arith) in
    let same : b % 128 ≡ b = omega arith in
    let e : number + weight * b ≡ number + b % 128 * weight = rw same (grind arith) in
    rw (drop_more bytes index 0 lt, last_is at (9 - index) b rest low one', take_rest bytes (index + 1)) (ap (λ (n : ℕ). Ok (n, rest)) e)

pub resumed_over : (at number weight index : ℕ) (bytes : List ℕ) → index < length bytes → index ≡ 9 → 1 < get_or bytes index 0
    → resumed number weight (varint_within at (9 - index) (drop index bytes)) ≡ Err (BadVarint at)
unfolding varint_within
resumed_over at number weight index bytes lt ten over =
    let k : 9 - index ≡ 0 = omega arith in
    rw (k, drop_more bytes index 0 lt, lt-leb (get_or bytes index 0) 1 over) refl

pub resumed_cut : (at number weight index : ℕ) (bytes : List ℕ) → length bytes ≤ index → resumed number weight (varint_within at (9 - index) (drop index bytes)) ≡ Err (Truncated at)
unfolding varint_within
resumed_cut at number weight index bytes le = rw (drop_all index bytes le) refl

pub weight_more : (weight index : ℕ) → weight ≡ 128 ^ index → weight * 128 ≡ 128 ^ (index + 1)
weight_more weight index e = rw (add-one, pow-suc) (ap (λ (w : ℕ). w * 128) e)

pub number_more : (number weight b : ℕ) → number < weight → number + b % 128 * weight < weight * 128
number_more number weight b lt =
    let group : b % 128 ≤ 127 = omega arith in
    let product : b % 128 * weight ≤ 127 * weight = mul-le-mul_right weight group in
    omega arith
