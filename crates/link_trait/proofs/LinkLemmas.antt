-- What a read of a link in memory does to what it tells.
use Rattle.std.proofs.Common.{◌≡◌, ℕ, ◌+◌, ◌-◌, ◌<◌, ◌≤◌, List, ◌++◌, length, take, drop, refl, sym, subst, ap, ap₂, ◌∙◌, arith, length-drop, Ok, slice_range}
use Rattle.std.proofs.lemmas.List.{take-append-drop, drop-drop, take-take, drop-take, take_at, length-take-le, nil_from_length}
use Rattle.link_trait.specs.Link.{Told, Took, ReadStep}

-- the first part of a list, in two parts
pub take_two : (m n : ℕ) (xs : List ℕ) → take (m + n) xs ≡ take m xs ++ take n (drop m xs)
take_two m n xs =
    sym (take-append-drop m (take (m + n) xs)) ∙ ap₂ (λ (a b : List ℕ). a ++ b) (take-take m (m + n) xs (omega arith)) (drop-take m n xs)

-- a link in memory, at a place of its input
abbrev pub at_place : List ℕ → ℕ → List ℕ → ℕ → Told
at_place input at given moment = record { taken = take at input; given = given; to_come = drop at input; moment = moment }

-- the next bytes of the input go to the end of those taken
pub took_next : (input : List ℕ) (at count : ℕ) (given : List ℕ) (moment : ℕ) →
    Took (take count (drop at input)) (at_place input at given moment) (at_place input (at + count) given moment)
took_next input at count given moment = record {
  taken = take_two at count input;
  to_come = sym (take-append-drop count (drop at input)) ∙ ap (λ (b : List ℕ). take count (drop at input) ++ b) (drop-drop count at input);
  given = refl;
  moment = refl;
}

-- a read that copies the next bytes of the input to the front of its room
pub memory_read : (before : Told) (input : List ℕ) (at count room : ℕ) (given : List ℕ) (moment : ℕ) (copied rest : List ℕ) →
    before ≡ at_place input at given moment → copied ≡ slice_range input at (at + count) → at + count ≤ length input →
    (0 < room → count ≡ 0 → length input ≤ at) →
    ReadStep (Ok count) room (copied ++ rest) before (at_place input (at + count) given moment)
memory_read before input at count room given moment copied rest is copy fits ends =
    let same : slice_range input at (at + count) ≡ take count (drop at input) = ap (λ n. take n (drop at input)) (omega arith) in
    let long : length copied ≡ count = ap length (copy ∙ same) ∙ length-take-le count (drop at input) (omega (arith, length-drop at input)) in
    let front : take count (copied ++ rest) ≡ take count (drop at input) = take_at copied rest count long ∙ copy ∙ same in
    let P : List ℕ → Type 0 = λ piece. Took piece (at_place input at given moment) (at_place input (at + count) given moment) in
    let Q : Told → Type 0 = λ b. Took (take count (copied ++ rest)) b (at_place input (at + count) given moment) in
    let left : length before.to_come ≡ length input - at = ap (λ (b : Told). length b.to_come) is ∙ length-drop at input in (
      subst Q (sym is) (subst P (sym front) (took_next input at count given moment)),
      λ roomy. (λ none. nil_from_length before.to_come (omega (arith, ends roomy none)), λ none. omega (arith, ap length none)),
    )
