-- Writing a varint group by group, as the loop does.
use Rattle.std.proofs.Common.{◌≡◌, ℕ, zero, suc, ◌+◌, ◌-◌, ◌*◌, ◌/◌, ◌%◌, ◌^◌, ◌<◌, ◌≤◌, List, [], ◌∷◌, ◌++◌, length, set, take, refl, ap, ◌∙◌, arith, cond, subst, inl, inr, append_assoc, Result, Ok, Err}
use Rattle.std.specs.Prelude.{is_ok, OnOk}
use Rattle.std.proofs.lemmas.Bool.{cases_lt, le-ltb, lt-ltb}
use Rattle.std.proofs.lemmas.List.{take_more_set}
use Rattle.std.proofs.lemmas.Nat.{shr_below}
use Rattle.wire_proto.specs.Writing.{groups_of}

-- a number with more than seven bits left has room for another group
pub below_nine : (count rest : ℕ) → count ≤ 9 → rest < 2 ^ (64 - 7 * count) → 128 ≤ rest → count < 9
below_nine count rest ten small more =
    elim (cases_lt count 9) [
      | inl lt ↦ lt
      | inr le ↦
          let nine : count ≡ 9 = omega arith in
          let P : ℕ → Type 0 = λ n. rest < 2 ^ (64 - 7 * n) in
          let two : rest < 2 = subst P nine small in
          absurd (omega arith)
    ]

pub small_more : (count rest : ℕ) → count < 9 → rest < 2 ^ (64 - 7 * count) → rest / 128 < 2 ^ (64 - 7 * (count + 1))
small_more count rest lt small =
    let room : 64 - 7 * count ≡ 64 - 7 * (count + 1) + 7 = omega arith in
    let P : ℕ → Type 0 = λ n. rest < 2 ^ n in
    shr_below rest (64 - 7 * (count + 1)) 7 (subst P room small)

pub groups_more : (count rest : ℕ) (written : List ℕ) → count < 9 → count < length written → 128 ≤ rest
    → take (count + 1) (set written count (rest % 128 + 128)) ++ groups_of (9 - (count + 1)) (rest / 128) ≡ take count written ++ groups_of (9 - count) rest
unfolding groups_of
groups_more count rest written nine lt more =
    let k : 9 - count ≡ suc (9 - (count + 1)) = omega arith in
    rw (take_more_set written count (rest % 128 + 128) lt, k, le-ltb rest 128 more) (append_assoc (take count written) ((rest % 128 + 128) ∷ []) (groups_of (9 - (count + 1)) (rest / 128)))

pub groups_last : (more n : ℕ) → n < 128 → groups_of more n ≡ n ∷ []
unfolding groups_of
groups_last zero n small = refl
groups_last (suc more) n small = rw (lt-ltb n 128 small) refl

pub written_last : (count rest : ℕ) (written : List ℕ) → count < length written → rest < 128 → take (count + 1) (set written count rest) ≡ take count written ++ groups_of (9 - count) rest
written_last count rest written lt small = rw (take_more_set written count rest lt, groups_last (9 - count) rest small) refl

-- what an append leaves, where the bytes that it was given are these
pub extended : {T E : Type 0} (r : Result T E) (new old given bytes : List ℕ) → new ≡ cond (is_ok r) (old ++ given) old → given ≡ bytes → OnOk r (new ≡ old ++ bytes)
extended (Ok x) new old given bytes e same = e ∙ ap (λ (t : List ℕ). old ++ t) same
extended (Err x) new old given bytes e same = tt
