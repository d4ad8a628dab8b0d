-- What reading a varint gives is what the bytes spell, and what they spell is read.
use Rattle.std.proofs.Common.{◌≡◌, ℕ, zero, suc, ◌+◌, ◌-◌, ◌*◌, ◌<◌, ◌≤◌, List, [], ◌∷◌, ◌++◌, length, get_or, take, Result, Ok, Err, refl, sym, ap, ◌∙◌, arith, ltb, leb}
use Rattle.std.proofs.lemmas.Bool.{cond_both, ltb-true, ltb-false, leb-true, leb-false, le-ltb, lt-ltb, le-leb, lt-leb}
use Rattle.std.proofs.lemmas.List.{append_cancel_right}
use Rattle.wire_proto.specs.declared.field.WireFault.{WireFault}
use Rattle.wire_proto.specs.declared.field.WireFault.TheVariants.{Truncated, BadVarint, BadType}
use Rattle.wire_proto.specs.Varint.{IsGroups, IsVarint, GoesOn}
use Rattle.wire_proto.specs.Reading.{◌>>=◌, varint_within, varint_at}

abbrev pub IsBytes : List ℕ → Type 0
IsBytes bytes = (i : ℕ) → get_or bytes i 0 < 256

pub IsBytes-rest : (b : ℕ) (bytes : List ℕ) → IsBytes (b ∷ bytes) → IsBytes bytes
IsBytes-rest b bytes h i = h (suc i)

-- a varint of at most `more` bytes behind its first, whose last possible byte is 0 or 1
pub record IsSpelled (more : ℕ) (bytes : List ℕ) (n : ℕ) (rest : List ℕ) : Type 0 where
  pub spelling : List ℕ
  pub parts : bytes ≡ spelling ++ rest
  pub groups : IsGroups spelling n
  pub short : length spelling ≤ suc more
  pub last : get_or spelling more 0 ≤ 1

abbrev pub VarintIs : ℕ → ℕ → List ℕ → Result (ℕ × List ℕ) WireFault → Type 0
VarintIs at more bytes (Ok x) = IsSpelled more bytes x.0 x.1
VarintIs at more bytes (Err (Truncated place)) = (place ≡ at) × GoesOn bytes × (length bytes ≤ more)
VarintIs at more bytes (Err (BadVarint place)) = (place ≡ at) × GoesOn (take more bytes) × (1 < get_or bytes more 0)
VarintIs at more bytes (Err (BadType place)) = ⊥

groups_more : (b n : ℕ) (s : List ℕ) → 128 ≤ b → b < 256 → IsGroups s n → IsGroups (b ∷ s) ((b - 128) + 128 * n)
groups_more b n [] high fits g = absurd g
groups_more b n (c ∷ cs) high fits g = (high, fits, n, refl, g)

step : (at more b : ℕ) (bytes : List ℕ) (read : Result (ℕ × List ℕ) WireFault) → 128 ≤ b → b < 256 → VarintIs at more bytes read
    → VarintIs at (suc more) (b ∷ bytes) (read >>= λ rest. Ok ((b - 128) + 128 * rest.0, rest.1))
step at more b bytes (Ok x) high fits h = record {
  spelling = b ∷ h.spelling;
  parts = ap (λ (t : List ℕ). b ∷ t) h.parts;
  groups = groups_more b x.0 h.spelling high fits h.groups;
  short = omega (arith, h.short);
  last = h.last;
}
step at more b bytes (Err (Truncated place)) high fits h = (h.0, (high, h.1), omega (arith, h.2))
step at more b bytes (Err (BadVarint place)) high fits h = (h.0, (high, h.1), h.2)
step at more b bytes (Err (BadType place)) high fits h = absurd h

pub varint_is : (at more : ℕ) (bytes : List ℕ) → IsBytes bytes → VarintIs at more bytes (varint_within at more bytes)
unfolding varint_within
varint_is at more [] bytes = (refl, tt, omega arith)
varint_is at zero (b ∷ bs) bytes =
    cond_both (leb b 1) (Ok (b, bs)) (Err (BadVarint at)) (VarintIs at 0 (b ∷ bs))
    (λ e. record { spelling = b ∷ []; parts = refl; groups = (omega (arith, leb-true b 1 e), refl); short = omega arith; last = leb-true b 1 e }) (λ e. (refl, tt, leb-false b 1 e))
varint_is at (suc more) (b ∷ bs) bytes =
    cond_both (ltb b 128) (Ok (b, bs)) (varint_within at more bs >>= λ rest. Ok ((b - 128) + 128 * rest.0, rest.1)) (VarintIs at (suc more) (b ∷ bs))
    (λ e. record { spelling = b ∷ []; parts = refl; groups = (ltb-true b 128 e, refl); short = omega arith; last = omega arith })
    (λ e. step at more b bs (varint_within at more bs) (ltb-false b 128 e) (bytes 0) (varint_is at more bs (IsBytes-rest b bs bytes)))

-- ---- the other way

pub varint_again : (at more : ℕ) (s : List ℕ) (n : ℕ) (rest : List ℕ) → IsGroups s n → length s ≤ suc more → get_or s more 0 ≤ 1 → varint_within at more (s ++ rest) ≡ Ok (n, rest)
unfolding varint_within
varint_again at more [] n rest g short last = absurd g
varint_again at zero (b ∷ []) n rest g short last = rw (le-leb b 1 last) (ap (λ (m : ℕ). Ok (m, rest)) (sym g.1))
varint_again at (suc more) (b ∷ []) n rest g short last = rw (lt-ltb b 128 g.0) (ap (λ (m : ℕ). Ok (m, rest)) (sym g.1))
varint_again at zero (b ∷ c ∷ cs) n rest g short last = absurd (omega (arith, short))
varint_again at (suc more) (b ∷ c ∷ cs) n rest g short last =
    let e : varint_within at more ((c ∷ cs) ++ rest) ≡ Ok (g.2, rest) = varint_again at more (c ∷ cs) g.2 rest g.4 (omega (arith, short)) last in
    rw (le-ltb b 128 g.0, e) (ap (λ (m : ℕ). Ok (m, rest)) (sym g.3))

pub cut_again : (at more : ℕ) (bytes : List ℕ) → GoesOn bytes → length bytes ≤ more → varint_within at more bytes ≡ Err (Truncated at)
unfolding varint_within
cut_again at more [] goes short = refl
cut_again at zero (b ∷ bs) goes short = absurd (omega (arith, short))
cut_again at (suc more) (b ∷ bs) goes short = rw (le-ltb b 128 goes.0, cut_again at more bs goes.1 (omega (arith, short))) refl

pub bad_again : (at more : ℕ) (bytes : List ℕ) → GoesOn (take more bytes) → 1 < get_or bytes more 0 → varint_within at more bytes ≡ Err (BadVarint at)
unfolding varint_within
bad_again at more [] goes over = absurd (omega (arith, over))
bad_again at zero (b ∷ bs) goes over = rw (lt-leb b 1 over) refl
bad_again at (suc more) (b ∷ bs) goes over = rw (le-ltb b 128 goes.0, bad_again at more bs goes.1 over) refl

-- ---- whole varints

pub varint_at_again : (at : ℕ) (s : List ℕ) (n : ℕ) (rest : List ℕ) → IsVarint s n → varint_at at (s ++ rest) ≡ Ok (n, rest)
unfolding varint_at
varint_at_again at s n rest v = varint_again at 9 s n rest v.groups v.at_most_ten v.tenth

abbrev done : {A : Type 0} → A → Result A WireFault
done x = Ok x

pub ok_is : {A : Type 0} (x y : A) → done x ≡ done y → x ≡ y
ok_is x y e = cc

pub no_varint_begins_another : (a b x y : List ℕ) (m n : ℕ) → IsVarint a m → IsVarint b n → a ++ x ≡ b ++ y → (a ≡ b) × (m ≡ n)
no_varint_begins_another a b x y m n p q e =
    let same : (m, x) ≡ (n, y) = ok_is (m, x) (n, y) (sym (varint_at_again 0 a m x p) ∙ ap (varint_at 0) e ∙ varint_at_again 0 b n y q) in
    let rest : x ≡ y = ap (λ (p : ℕ × List ℕ). p.1) same in
    let number : m ≡ n = ap (λ (p : ℕ × List ℕ). p.0) same in
    (append_cancel_right a b y (ap (λ (t : List ℕ). a ++ t) (sym rest) ∙ e), number)
