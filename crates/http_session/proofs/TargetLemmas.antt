-- The parts of a request target.
use Rattle.std.proofs.Common.{◌≡◌, ℕ, ◌+◌, ◌-◌, ◌≤◌, List, length, take, drop, sym, ap, ◌∙◌, arith, slice_range, Bool, true, false, Some, None, nat_lt, if◌then◌else◌}
use Rattle.std.specs.List.{position, position_or_len}
use Rattle.std.proofs.lemmas.List.{drop-take, drop-drop}

-- a part without its first bytes
pub part_drop : (xs : List ℕ) (start end count : ℕ) → start + count ≤ end →
    slice_range xs (start + count) end ≡ drop count (slice_range xs start end)
part_drop xs start end count fits =
    let m : ℕ = end - (start + count) in
    let same : end - start ≡ count + m = omega arith in
    sym (ap (λ n. drop count (take n (drop start xs))) same ∙ drop-take count m (drop start xs) ∙ ap (λ (ys : List ℕ). take m ys) (drop-drop count start xs))

-- the place that `position` gives
pub position_at : (p : ℕ → Bool) (xs : List ℕ) (at : ℕ) → position p xs ≡ Some at → position_or_len p xs ≡ at
position_at p xs at found = by (nat_lt (position_or_len p xs) (length xs)) found
  where
    by : (b : Bool) → (if b then Some (position_or_len p xs) else None) ≡ Some at → position_or_len p xs ≡ at
    by true is = cc
    by false is = cc
