-- How many frames a sample has.
use Rattle.std.proofs.Common.{◌≡◌, ℕ, ◌+◌, ◌<◌, List, [], ◌∷◌, length, get_or, take, refl, sym, ap, arith}
use Rattle.std.specs.Prelude.{nat_lt}
use Rattle.std.specs.List.{flat_map}
use Rattle.std.proofs.lemmas.List.{length-reverse}
use Rattle.std.proofs.lemmas.List.Concat.{length-flat_map}
use Rattle.std.proofs.lemmas.List.Sums.{sum_by_more}
use Rattle.pprof_message.specs.Pprof.{Sample, Pprof}
use Rattle.pprof_codec.specs.Frames.{frames_at, root_first, stack_of}

pub length-flat_map-more : {X A : Type 0} (f : X → List A) (xs : List X) (i : ℕ) (d : X) → i < length xs
    → length (flat_map f (take (i + 1) xs)) ≡ length (flat_map f (take i xs)) + length (f (get_or xs i d))
length-flat_map-more f xs i d short =
    let before = length-flat_map f (take i xs) in
    let after = length-flat_map f (take (i + 1) xs) in
    let more = sum_by_more (λ x. length (f x)) xs i d short in omega arith

pub depth-of_stack : (pprof : Pprof) (sample : Sample) → nat_lt 1024 (length (flat_map (frames_at pprof) sample.location_ids)) ≡ nat_lt 1024 (length (stack_of pprof sample))
unfolding stack_of
depth-of_stack pprof sample = by sample.location_ids
  where
    by : (ids : List ℕ) → nat_lt 1024 (length (flat_map (frames_at pprof) ids)) ≡ nat_lt 1024 (length (root_first pprof ids))
    by [] = refl
    by (id ∷ ids) = ap (nat_lt 1024) (sym (length-reverse (flat_map (frames_at pprof) (id ∷ ids))))
