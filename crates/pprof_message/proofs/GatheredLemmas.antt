-- What the kept lists stand for, place by place.
use Rattle.std.proofs.Common.{◌≡◌, ℕ, ℤ, zero, suc, List, [], ◌∷◌, length, Some, refl, ap, arith}
use Rattle.std.specs.Prelude.{slice_get}
use Rattle.pprof_message.specs.declared.lists.Label.{Label}
use Rattle.pprof_message.specs.declared.gathered.Head.{Head}
use Rattle.pprof_message.specs.Gathered.{samples_from, locations_from}
use Rattle.pprof_message.proofs.ContentLemmas.{some_is}

pub length-samples_from : (ids : List (List ℕ)) (values : List (List ℤ)) (labels : List (List Label)) → length values ≡ length ids → length labels ≡ length ids
    → length (samples_from ids values labels) ≡ length ids
length-samples_from [] values labels p q = refl
length-samples_from (i ∷ is) [] labels p q = absurd (omega (arith, p))
length-samples_from (i ∷ is) (v ∷ vs) [] p q = absurd (omega (arith, q))
length-samples_from (i ∷ is) (v ∷ vs) (l ∷ ls) p q = ap suc (length-samples_from is vs ls (omega (arith, p)) (omega (arith, q)))

pub length-locations_from : (heads : List Head) (lines : List (List ℕ)) → length lines ≡ length heads → length (locations_from heads lines) ≡ length heads
length-locations_from [] lines p = refl
length-locations_from (h ∷ hs) [] p = absurd (omega (arith, p))
length-locations_from (h ∷ hs) (l ∷ ls) p = ap suc (length-locations_from hs ls (omega (arith, p)))

pub slice_get-samples_from : (ids : List (List ℕ)) (values : List (List ℤ)) (labels : List (List Label)) (i : ℕ) (a : List ℕ) (b : List ℤ) (c : List Label)
    → slice_get ids i ≡ Some a → slice_get values i ≡ Some b → slice_get labels i ≡ Some c → slice_get (samples_from ids values labels) i ≡ Some (record { location_ids = a; values = b; labels = c })
slice_get-samples_from [] values labels i a b c p q r = absurd cc
slice_get-samples_from (x ∷ xs) [] labels i a b c p q r = absurd cc
slice_get-samples_from (x ∷ xs) (y ∷ ys) [] i a b c p q r = absurd cc
slice_get-samples_from (x ∷ xs) (y ∷ ys) (z ∷ zs) zero a b c p q r = rw (some_is x a p, some_is y b q, some_is z c r) refl
slice_get-samples_from (x ∷ xs) (y ∷ ys) (z ∷ zs) (suc i) a b c p q r = slice_get-samples_from xs ys zs i a b c p q r

pub slice_get-locations_from : (heads : List Head) (lines : List (List ℕ)) (i : ℕ) (head : Head) (run : List ℕ)
    → slice_get heads i ≡ Some head → slice_get lines i ≡ Some run → slice_get (locations_from heads lines) i ≡ Some (record { id = head.id; address = head.address; lines = run })
slice_get-locations_from [] lines i head run p q = absurd cc
slice_get-locations_from (x ∷ xs) [] i head run p q = absurd cc
slice_get-locations_from (x ∷ xs) (y ∷ ys) zero head run p q = rw (some_is x head p, some_is y run q) refl
slice_get-locations_from (x ∷ xs) (y ∷ ys) (suc i) head run p q = slice_get-locations_from xs ys i head run p q
