-- What merged objects are.
use Rattle.std.proofs.Common.{◌≡◌, ℕ, ◌+◌, List, [], ◌∷◌, ◌++◌, length, take, drop, refl, sym, ap, ◌∙◌, append-nil, arith, length-append}
use Rattle.std.specs.List.{AllByRecursion}
use Rattle.std.proofs.Math.Seq.{take-add}
use Rattle.std.proofs.lemmas.List.{drop-drop}
use Rattle.std.proofs.lemmas.List.Elements.{All-from_recursion, recursion_from_All}
use Rattle.std.proofs.lemmas.Grind.{flat_map-append}
use Rattle.profile_model.specs.declared.push.Push.{Push}
use Rattle.segment_file.specs.Objects.{IsPush, ObjectView}
use Rattle.block_merge.specs.Merges.{FollowOn, merged_of, pushes_of}
use Rattle.block_merge.specs.Laws.{IsWhole, MergedIsObject, MergedStands, NextFollows, Stands, StepsAreOne}
use Rattle.block_merge.proofs.RoomLemmas.{HasRoom, all_append, joined_room}

follows_last : (first : ObjectView) (later : List ObjectView) (next : ObjectView) → FollowOn (first ∷ later) → next.lo ≡ first.lo + length (pushes_of (first ∷ later))
    → FollowOn (first ∷ later ++ next ∷ [])
follows_last first [] next follow is = (omega (arith, is, length-append first.pushes []), tt)
follows_last first (second ∷ later) next follow is =
    (follow.0, follows_last second later next follow.1 (omega (arith, is, follow.0, length-append first.pushes (pushes_of (second ∷ later)))))

pub next_follows : NextFollows
next_follows [] next some follow is = absurd (some refl)
next_follows (first ∷ later) next some follow is = follows_last first later next follow is

rooms_of : (objects : List ObjectView) → AllByRecursion IsWhole objects → AllByRecursion HasRoom objects
rooms_of [] whole = tt
rooms_of (object ∷ later) whole = (record { some = whole.0.some; within = whole.0.within; fit = whole.0.fit }, rooms_of later whole.1)

pushes_are : (objects : List ObjectView) → AllByRecursion IsWhole objects → AllByRecursion IsPush (pushes_of objects)
pushes_are [] whole = tt
pushes_are (object ∷ later) whole =
    all_append IsPush object.pushes (pushes_of later) (recursion_from_All IsPush object.pushes whole.0.each) (pushes_are later whole.1)

pub merged_is_object : MergedIsObject
merged_is_object objects some follow whole =
    let each = recursion_from_All IsWhole objects whole in
    let room = joined_room objects some follow (rooms_of objects each) in
    record {
      some = room.some;
      within = room.within;
      each = All-from_recursion IsPush (pushes_of objects) (pushes_are objects each);
      fit = room.fit;
    }

stands_there : (history : List Push) (first : ObjectView) (later : List ObjectView) → FollowOn (first ∷ later) → AllByRecursion (Stands history) (first ∷ later)
    → Stands history (merged_of (first ∷ later))
stands_there history first [] follow stand =
    append-nil first.pushes ∙ stand.0 ∙ ap (λ (l : List Push). take (length l) (drop first.lo history)) (sym (append-nil first.pushes))
stands_there history first (next ∷ later) follow stand =
    let behind = pushes_of (next ∷ later) in
    let rest : behind ≡ take (length behind) (drop next.lo history) = stands_there history next later follow.1 stand.1 in
    let there : drop next.lo history ≡ drop (length first.pushes) (drop first.lo history) =
    ap (λ (n : ℕ). drop n history) follow.0 ∙ sym (drop-drop (length first.pushes) first.lo history) in
    ap (λ (l : List Push). l ++ behind) stand.0
    ∙ ap (λ (l : List Push). take (length first.pushes) (drop first.lo history) ++ l) (rest ∙ ap (take (length behind)) there)
    ∙ sym (take-add (length first.pushes) (length behind) (drop first.lo history))
    ∙ ap (λ (n : ℕ). take n (drop first.lo history)) (sym (length-append first.pushes behind))

pub merged_stands : MergedStands
merged_stands history [] follow stand = refl
merged_stands history (first ∷ later) follow stand = stands_there history first later follow (recursion_from_All (Stands history) (first ∷ later) stand)

pub steps_are_one : StepsAreOne
steps_are_one first others later = λ i. record {
  lo = first.lo;
  pushes = sym (flat_map-append (λ (object : ObjectView). object.pushes) (first ∷ others) later) i;
}
