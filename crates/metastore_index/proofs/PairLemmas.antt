-- A relation of each element to the later ones, over a list of two parts.
use Rattle.std.proofs.Common.{ℕ, ◌+◌, ◌-◌, ◌<◌, List, ◌++◌, length, get_or, AllPairs, refl, ⊎_elim, arith, length-append}
use Rattle.std.proofs.lemmas.Bool.{cases_lt}
use Rattle.std.proofs.lemmas.List.{get_or_append_left, get_or-append-add, get_or-append_right}

module _ {X : Type 0} (R : X → X → Type 0) where
  -- each of the first part to each of the second
  abbrev pub Across : List X → List X → Type 0
  Across xs ys = (i j : ℕ) (d : X) → i < length xs → j < length ys → R (get_or xs i d) (get_or ys j d)

  pub AllPairs-append : (xs ys : List X) → AllPairs R xs → AllPairs R ys → Across xs ys → AllPairs R (xs ++ ys)
  AllPairs-append xs ys left right across i j d lt within =
      let long = length-append xs ys in
      ⊎_elim
      (λ below. rw (get_or_append_left xs ys d i (omega arith), get_or_append_left xs ys d j below) (left i j d lt below))
      (λ above. ⊎_elim
      (λ first. rw (get_or_append_left xs ys d i first, get_or-append_right xs ys (length xs) j d refl above) (across i (j - length xs) d first (omega arith)))
      (λ second. rw (get_or-append_right xs ys (length xs) i d refl second, get_or-append_right xs ys (length xs) j d refl above) (right (i - length xs) (j - length xs) d (omega arith) (omega arith)))
      (cases_lt i (length xs)))
      (cases_lt j (length xs))

  pub AllPairs-first : (xs ys : List X) → AllPairs R (xs ++ ys) → AllPairs R xs
  AllPairs-first xs ys all i j d lt within =
      let long = length-append xs ys in
      rw (get_or_append_left xs ys d i (omega arith), get_or_append_left xs ys d j within) at (all i j d lt (omega arith))

  pub AllPairs-second : (xs ys : List X) → AllPairs R (xs ++ ys) → AllPairs R ys
  AllPairs-second xs ys all i j d lt within =
      let long = length-append xs ys in
      rw (get_or-append-add xs ys i d, get_or-append-add xs ys j d) at (all (length xs + i) (length xs + j) d (omega arith) (omega arith))

  pub AllPairs-across : (xs ys : List X) → AllPairs R (xs ++ ys) → Across xs ys
  AllPairs-across xs ys all i j d first second =
      let long = length-append xs ys in
      rw (get_or_append_left xs ys d i first, get_or-append-add xs ys j d) at (all i (length xs + j) d (omega arith) (omega arith))
