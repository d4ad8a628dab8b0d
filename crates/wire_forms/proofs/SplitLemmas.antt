-- A loop over the parts of a text.
use Rattle.std.proofs.Common.{◌≡◌, ℕ, ◌+◌, ◌<◌, ◌==◌, List, [], ◌∷◌, ◌++◌, length, get_or, take, drop, ap, sym, ◌∙◌, true, Bor, Option, Some, None, arith}
use Rattle.std.proofs.lemmas.List.{take_more, drop_more, take-append-drop, length_push, take_all, length-take-le}
use Rattle.std.proofs.lemmas.Iterator.Consumers.{YieldsList-turn, YieldsList-end}
use Rattle.std.proofs.lemmas.Iterator.Splits.{YieldsList-from_str_split}
use Rattle.std.specs.Iterator.{Yields}
use Rattle.std.specs.List.{slice_split}
use Rattle.std.specs.Str.Iter.{split_steps, split_text, split_has_more, split_pattern}
use Rattle.std.specs.Str.Pattern.{FindsChar}
use Rattle.std.specs.declared.str.Split.{Split}

-- the next part, and those before it
pub record IsTurn {R X : Type 0} (all : List X) (xs : List R) (y : R) (x : X) : Type 0 where
  pub within : length xs < length all
  pub is : x ≡ get_or all (length xs) x
  pub pushed : take (length (xs ++ y ∷ [])) all ≡ take (length xs) all ++ x ∷ []
  pub cut : all ≡ take (length xs) all ++ x ∷ drop (length xs + 1) all
  pub count : length (take (length xs) all) ≡ length xs

turn_of : {R X : Type 0} (all : List X) (xs : List R) (y : R) (x : X) → (length xs < length all) × (x ≡ get_or all (length xs) x) → IsTurn all xs y x
turn_of all xs y x t = record {
  within = t.0;
  is = t.1;
  pushed =
      ap (λ n. take n all) (length_push xs y) ∙ take_more all (length xs) x t.0 ∙ ap (λ z. take (length xs) all ++ z ∷ []) (sym t.1);
  cut =
      sym (take-append-drop (length xs) all)
      ∙ ap (λ rest. take (length xs) all ++ rest) (drop_more all (length xs) x t.0 ∙ ap (λ z. z ∷ drop (length xs + 1) all) (sym t.1));
  count = length-take-le (length xs) all (omega arith);
}

-- a turn of a loop over the parts of bs between the bytes c
pub part_turn : (c : ℕ) (bs : List ℕ) → c < 128 → (s t u : Split ℕ) (r : Option (Bor (List ℕ))) (xs : List (Bor (List ℕ))) (x : Bor (List ℕ))
    → split_text s ≡ bs → split_has_more s ≡ true → split_pattern s ≡ c → Yields (split_steps FindsChar (λ a b. b ≡ a)) s xs t
    → r ≡ Some x → split_steps FindsChar (λ a b. b ≡ a) t r u → IsTurn (slice_split (λ b. b == c) bs) xs x x.now
part_turn c bs low s t u r xs x text more pattern yielded is step =
    turn_of (slice_split (λ b. b == c) bs) xs x x.now
    (YieldsList-turn (YieldsList-from_str_split c bs low text more pattern) xs t yielded r u x is step)

-- its end: each part was there
pub part_end : (c : ℕ) (bs : List ℕ) → c < 128 → (s t u : Split ℕ) (r : Option (Bor (List ℕ))) (xs : List (Bor (List ℕ)))
    → split_text s ≡ bs → split_has_more s ≡ true → split_pattern s ≡ c → Yields (split_steps FindsChar (λ a b. b ≡ a)) s xs t
    → r ≡ None → split_steps FindsChar (λ a b. b ≡ a) t r u
    → (take (length xs) (slice_split (λ b. b == c) bs) ≡ slice_split (λ b. b == c) bs) × (length xs ≡ length (slice_split (λ b. b == c) bs))
part_end c bs low s t u r xs text more pattern yielded is step =
    let end = YieldsList-end (YieldsList-from_str_split c bs low text more pattern) xs t yielded r u is step in
    (take_all (length xs) (slice_split (λ b. b == c) bs) (omega arith), end.1)
