use Rattle.std.proofs.Common.{rules, ◌≡◌, ◌∙◌, ◌==◌, ◌++◌, ◌∷◌, [], Bor, List, ℕ, length, lit<, map, sym, take}
use Rattle.std.specs.List.{slice_split}
use Rattle.std.proofs.lemmas.List.{map-append}
use Rattle.query_parameters.specs.SeriesScan.{split_pair}
use Rattle.wire_forms.proofs.SplitLemmas.{part_turn, part_end}
use Rattle.query_parameters.proofs.series_name.split_pieces.Goals as goal

abbrev Lent : Type 0
Lent = Bor (List ℕ) × Bor (List ℕ)

abbrev told : Lent → List ℕ × List ℕ
told pair = (pair.0.now, pair.1.now)

one_more : (pairs : List Lent) (pair : Lent) (before : List (List ℕ)) (piece : List ℕ) → map told pairs ≡ map split_pair before → told pair ≡ split_pair piece
    → map told (pairs ++ pair ∷ []) ≡ map split_pair (before ++ piece ∷ [])
one_more pairs pair before piece so_far is =
    map-append told pairs (pair ∷ []) ∙ (λ i. so_far i ++ is i ∷ []) ∙ sym (map-append split_pair before (piece ∷ []))

pub loop-piece-preserved : goal.loop-piece-preserved
loop-piece-preserved c =
    let turn = part_turn 44 c.args.body.now (lit< tt) c.into_iter-piece-iterator.result c.loop-piece.piece-iterator c.next.new.self c.next.result c.loop-piece.yielded c.in-Some.piece
    (search rules) (search rules) (search rules) c.loop-piece.yielded_by c.in-Some.is c.next.ensures.steps in
    rw (turn.pushed, c.in_ok-push.ensures.items)
    (one_more _ _ (take (length c.loop-piece.yielded) (slice_split (λ b. b == 44) c.args.body.now)) c.in-Some.piece.now c.loop-piece.invariant c.split_pair.ensures)

pub returns : goal.returns
returns c =
    let end = part_end 44 c.args.body.now (lit< tt) c.into_iter-piece-iterator.result c.loop-piece.piece-iterator c.next.new.self c.next.result c.loop-piece.yielded
    (search rules) (search rules) (search rules) c.loop-piece.yielded_by c.in-None.is c.next.ensures.steps in
    rw end.0 at c.loop-piece.invariant
