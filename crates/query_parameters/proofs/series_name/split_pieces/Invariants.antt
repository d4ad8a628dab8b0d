use Rattle.std.proofs.Common.{◌≡◌, ◌==◌, Bor, List, ℕ, length, map, take}
use Rattle.std.specs.List.{slice_split}
use Rattle.query_parameters.specs.SeriesScan.{split_pair}
use Rattle.query_parameters.proofs.series_name.split_pieces.Given as goal

abbrev pub invariant-loop-piece : goal.invariant-loop-piece
invariant-loop-piece l =
    map (λ (pair : Bor (List ℕ) × Bor (List ℕ)). (pair.0.now, pair.1.now)) l.pairs.items
    ≡ map split_pair (take (length l.yielded) (slice_split (λ b. b == 44) l.body))
