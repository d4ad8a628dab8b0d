-- Joined pushes have room in one file where they had it in several.
use Rattle.std.proofs.Common.{◌≡◌, ◌≢◌, ℕ, ◌+◌, ◌^◌, ◌<◌, List, [], ◌∷◌, ◌++◌, length, get_or, map, refl, subst, sym, ◌∙◌, ap, true, arith, append-nil, length-append}
use Rattle.std.specs.Prelude.{nat_lt}
use Rattle.std.specs.List.{AllByRecursion, list_all}
use Rattle.std.proofs.lemmas.Bool.{and_from, lt-ltb}
use Rattle.std.proofs.lemmas.List.Folds.{list_all-append}
use Rattle.profile_model.specs.declared.push.Push.{Push}
use Rattle.segment_file.specs.Fields.{Field, Fit, each_of}
use Rattle.segment_file.specs.Files.{FilePush, file_fields, push_fields}
use Rattle.segment_file.specs.Objects.{ObjectView, file_of, push_said}
use Rattle.segment_file.proofs.FileLemmas.{others_fit}
use Rattle.segment_file.proofs.SpellingLemmas.{Fit-append}
use Rattle.block_merge.specs.Merges.{FollowOn, begin_of, pushes_of}

-- what each object keeps, whatever rules its pushes keep
pub record HasRoom (object : ObjectView) : Type 0 where
  pub some : object.pushes ≢ []
  pub within : object.lo + length object.pushes < 2 ^ 64
  pub fit : Fit (file_fields (file_of object.lo object.pushes))

pub all_append : {X : Type 0} (P : X → Type 0) (xs ys : List X) → AllByRecursion P xs → AllByRecursion P ys → AllByRecursion P (xs ++ ys)
all_append P [] ys first second = second
all_append P (x ∷ xs) ys first second = (first.0, all_append P xs ys first.1 second)

pub not_none : {X : Type 0} (xs ys : List X) → xs ≢ [] → xs ++ ys ≢ []
not_none [] ys some same = some refl
not_none (x ∷ xs) ys some same = absurd (omega (arith, ap length same))

-- the fields of the push have room, wherever it stands
abbrev PushFits : Push → Type 0
PushFits push = Fit (push_fields (push_said push))

each_fits : (before : List FilePush) (pushes : List Push) → Fit (each_of (λ before push. push_fields push) before (map push_said pushes)) → AllByRecursion PushFits pushes
each_fits before [] fit = tt
each_fits before (push ∷ pushes) fit =
    let both = Fit-append (push_fields (push_said push)) (each_of (λ before push. push_fields push) (before ++ push_said push ∷ []) (map push_said pushes)) fit in
    (both.0, each_fits (before ++ push_said push ∷ []) pushes both.1)

all_fit : (before : List FilePush) (pushes : List Push) → AllByRecursion PushFits pushes → Fit (each_of (λ before push. push_fields push) before (map push_said pushes))
all_fit before [] each = refl
all_fit before (push ∷ pushes) each =
    let first = push_fields (push_said push) in
    let later = each_of (λ before push. push_fields push) (before ++ push_said push ∷ []) (map push_said pushes) in
    list_all-append (λ (f : Field). f.fits) first later
    ∙ and_from (list_all (λ (f : Field). f.fits) first) (list_all (λ (f : Field). f.fits) later) each.0 (all_fit (before ++ push_said push ∷ []) pushes each.1)

fits_of : (object : ObjectView) → HasRoom object → AllByRecursion PushFits object.pushes
fits_of object room = each_fits [] object.pushes (others_fit 3 (file_fields (file_of object.lo object.pushes)) room.fit)

eight_fit : (n : ℕ) → n < 2 ^ 64 → nat_lt n (256 ^ 8) ≡ true
eight_fit n low = lt-ltb n (256 ^ 8) (omega (arith, low))

file_fits : (lo : ℕ) (pushes : List Push) → lo + length pushes < 2 ^ 64 → AllByRecursion PushFits pushes → Fit (file_fields (file_of lo pushes))
file_fits lo pushes within each =
    and_from (nat_lt lo (256 ^ 8)) _ (eight_fit lo (omega (arith, within)))
    (and_from (nat_lt (lo + length pushes) (256 ^ 8)) _ (eight_fit (lo + length pushes) within) (all_fit [] pushes each))

all_pushes_fit : (objects : List ObjectView) → AllByRecursion HasRoom objects → AllByRecursion PushFits (pushes_of objects)
all_pushes_fit [] rooms = tt
all_pushes_fit (object ∷ later) rooms =
    all_append PushFits object.pushes (pushes_of later) (fits_of object rooms.0) (all_pushes_fit later rooms.1)

ends_within : (first : ObjectView) (later : List ObjectView) → FollowOn (first ∷ later) → AllByRecursion HasRoom (first ∷ later)
    → first.lo + length (pushes_of (first ∷ later)) < 2 ^ 64
ends_within first [] follow rooms = omega (arith, length-append first.pushes [], rooms.0.within)
ends_within first (next ∷ later) follow rooms =
    omega (arith, length-append first.pushes (pushes_of (next ∷ later)), follow.0, ends_within next later follow.1 rooms.1)

-- objects that follow each other have room in one file
pub joined_room : (objects : List ObjectView) → objects ≢ [] → FollowOn objects → AllByRecursion HasRoom objects
    → HasRoom (record { lo = begin_of objects; pushes = pushes_of objects })
joined_room [] some follow rooms = absurd (some refl)
joined_room (first ∷ later) some follow rooms =
    let within = ends_within first later follow rooms in
    record {
      some = not_none first.pushes (pushes_of later) rooms.0.some;
      within = within;
      fit = file_fits first.lo (pushes_of (first ∷ later)) within (all_pushes_fit (first ∷ later) rooms);
    }

begin_at : (objects : List ObjectView) (d : ObjectView) → objects ≢ [] → begin_of objects ≡ (get_or objects 0 d).lo
begin_at [] d some = absurd (some refl)
begin_at (object ∷ later) d some = refl

no_items : (rest : List ObjectView) → length rest ≡ 0 → rest ≡ []
no_items [] none = refl
no_items (object ∷ later) none = absurd (omega (arith, none))

-- the pushes that were moved out of all of them
pub moved_room : (objects rest : List ObjectView) (lo : ℕ) (first : ObjectView) (pushes : List Push) → objects ≢ [] → FollowOn objects → length rest ≡ 0
    → pushes ++ pushes_of rest ≡ pushes_of objects → (AllByRecursion HasRoom rest → AllByRecursion HasRoom objects)
    → first ≡ get_or objects 0 first → lo ≡ first.lo
    → HasRoom (record { lo = lo; pushes = pushes })
moved_room objects rest lo first pushes some follow none moved rooms is from =
    let empty : rest ≡ [] = no_items rest none in
    let nothing : pushes_of rest ≡ [] = ap pushes_of empty in
    let all : pushes_of objects ≡ pushes = sym moved ∙ ap (λ (l : List Push). pushes ++ l) nothing ∙ append-nil pushes in
    let begun : begin_of objects ≡ lo = begin_at objects first some ∙ sym (from ∙ ap (λ (object : ObjectView). object.lo) is) in
    subst (λ (l : List Push). HasRoom (record { lo = lo; pushes = l })) all
    (subst (λ (n : ℕ). HasRoom (record { lo = n; pushes = pushes_of objects })) begun
    (joined_room objects some follow (rooms (subst (AllByRecursion HasRoom) (sym empty) tt))))
