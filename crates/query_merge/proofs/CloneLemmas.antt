-- Copies of lists, item by item.
use Rattle.std.proofs.Common.{◌≡◌, List, [], ◌∷◌, refl}
use Rattle.std.specs.List.{AllZip}

pub same_items : {A : Type 0} (xs ys : List A) → AllZip (λ x y. y ≡ x) xs ys → ys ≡ xs
same_items [] [] same = refl
same_items [] (y ∷ ys) same = absurd same
same_items (x ∷ xs) [] same = absurd same
same_items (x ∷ xs) (y ∷ ys) same = λ i. same.0 i ∷ same_items xs ys same.1 i
