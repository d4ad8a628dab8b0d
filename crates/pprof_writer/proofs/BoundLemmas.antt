-- What is known of the frames and the texts of sums.
use Rattle.std.proofs.Common.{◌≡◌, ℕ, suc, ◌+◌, ◌≤◌, List, [], ◌∷◌, ◌++◌, length, reverse, fold, Bool, true, false, cond, Ordering, Less, Equal, Greater, sym, ap, ◌∙◌, subst, arith}
use Rattle.std.specs.Prelude.{sum_by}
use Rattle.std.specs.BTreeSet.{insert_key}
use Rattle.std.specs.List.{All, flat_map}
use Rattle.std.specs.List.Sorted.{IsStrictlySortedBy}
use Rattle.std.specs.Map.{keys_of, values_of}
use Rattle.std.specs.Ordering.{match_ordering}
use Rattle.std.specs.Cmp.Lexicographic.{nat_list_cmp_total}
use Rattle.std.proofs.lemmas.List.{length-append, reverse-append}
use Rattle.std.proofs.lemmas.List.Elements.{All-append, All-cons, All-head, All-nil, All-tail}
use Rattle.std.proofs.lemmas.List.Sums.{sum_by_from}
use Rattle.profile_model.specs.Stacks.{name_cmp}
use Rattle.profile_model.specs.Sums.{Sample}
use Rattle.profile_model.specs.Weights.{stack_weight}
use Rattle.pprof_codec.specs.Profiles.{stacks_weight}
use Rattle.pprof_writer.specs.Tables.{frames_in, is_among, with_text}
use Rattle.pprof_writer.proofs.SortedLemmas.{sorted_fold}

-- ---- each frame, each text

put-all : (P : List ℕ → Type 0) (r : Ordering) (k y : List ℕ) (ys more : List (List ℕ)) → P k → All P (y ∷ ys) → All P more
    → All P (match_ordering r (k ∷ y ∷ ys) (y ∷ ys) (y ∷ more))
put-all P Less k y ys more here all later = All-cons P k (y ∷ ys) here all
put-all P Equal k y ys more here all later = all
put-all P Greater k y ys more here all later = All-cons P y more (All-head P y ys all) later

insert-all : (P : List ℕ → Type 0) (k : List ℕ) (xs : List (List ℕ)) → P k → All P xs → All P (insert_key name_cmp xs k)
insert-all P k [] here all = All-cons P k [] here (All-nil P)
insert-all P k (y ∷ ys) here all = put-all P (name_cmp k y) k y ys (insert_key name_cmp ys k) here all (insert-all P k ys here (All-tail P y ys all))

pub fold-all : (P : List ℕ → Type 0) (found xs : List (List ℕ)) → All P found → All P xs → All P (fold (insert_key name_cmp) found xs)
fold-all P found [] all more = all
fold-all P found (x ∷ xs) all more = fold-all P (insert_key name_cmp found x) xs (insert-all P x found (All-head P x xs more) all) (All-tail P x xs more)

flat-all : (P : List ℕ → Type 0) (sums : List Sample) → All (All P) (keys_of sums) → All P (flat_map (λ (s : Sample). s.0) sums)
flat-all P [] all = All-nil P
flat-all P (s ∷ sums) all = All-append P s.0 (flat_map (λ (s : Sample). s.0) sums) (All-head (All P) s.0 (keys_of sums) all) (flat-all P sums (All-tail (All P) s.0 (keys_of sums) all))

pub frames-all : (P : List ℕ → Type 0) (sums : List Sample) → All (All P) (keys_of sums) → All P (frames_in sums)
frames-all P sums all = fold-all P [] (flat_map (λ (s : Sample). s.0) sums) (All-nil P) (flat-all P sums all)

pub frames-sorted : (sums : List Sample) → IsStrictlySortedBy name_cmp (frames_in sums)
unfolding IsStrictlySortedBy
frames-sorted sums = sorted_fold nat_list_cmp_total [] (flat_map (λ (s : Sample). s.0) sums) tt

with-all : (P : List ℕ → Type 0) (texts : List (List ℕ)) (text : List ℕ) → All P texts → P text → All P (with_text texts text)
with-all P texts text all here = by (is_among texts text)
  where
    by : (b : Bool) → All P (cond b texts (texts ++ text ∷ []))
    by true = all
    by false = All-append P texts (text ∷ []) all (All-cons P text [] here (All-nil P))

pub texts-all : (P : List ℕ → Type 0) (texts more : List (List ℕ)) → All P texts → All P more → All P (fold with_text texts more)
texts-all P texts [] all each = all
texts-all P texts (m ∷ more) all each = texts-all P (with_text texts m) more (with-all P texts m all (All-head P m more each)) (All-tail P m more each)

-- ---- how many

put-length : (r : Ordering) (k y : List ℕ) (ys more : List (List ℕ)) → length more ≤ suc (length ys) → length (match_ordering r (k ∷ y ∷ ys) (y ∷ ys) (y ∷ more)) ≤ suc (suc (length ys))
put-length Less k y ys more later = omega arith
put-length Equal k y ys more later = omega arith
put-length Greater k y ys more later = omega arith

insert-length : (k : List ℕ) (xs : List (List ℕ)) → length (insert_key name_cmp xs k) ≤ suc (length xs)
insert-length k [] = omega arith
insert-length k (y ∷ ys) = put-length (name_cmp k y) k y ys (insert_key name_cmp ys k) (insert-length k ys)

fold-length : (found xs : List (List ℕ)) → length (fold (insert_key name_cmp) found xs) ≤ length found + length xs
fold-length found [] = omega arith
fold-length found (x ∷ xs) =
    let one = insert-length x found in
    let rest = fold-length (insert_key name_cmp found x) xs in
    omega arith

with-length : (texts : List (List ℕ)) (text : List ℕ) → length (with_text texts text) ≤ suc (length texts)
with-length texts text = by (is_among texts text)
  where
    by : (b : Bool) → length (cond b texts (texts ++ text ∷ [])) ≤ suc (length texts)
    by true = omega arith
    by false = let long = length-append texts (text ∷ []) in omega arith

pub texts-length : (texts more : List (List ℕ)) → length (fold with_text texts more) ≤ length texts + length more
texts-length texts [] = omega arith
texts-length texts (m ∷ more) =
    let one = with-length texts m in
    let rest = texts-length (with_text texts m) more in
    omega arith

pub sum-cons : {X : Type 0} (f : X → ℕ) (x : X) (xs : List X) → sum_by f (x ∷ xs) ≡ f x + sum_by f xs
sum-cons f x xs = sum_by_from f (0 + f x) xs ∙ ap (λ n. n + sum_by f xs) (none_before (f x))
  where
    none_before : (n : ℕ) → 0 + n ≡ n
    none_before n = omega arith

stack-weighs : (stack : List (List ℕ)) → length stack ≤ sum_by (λ frame. 16 + length frame) stack
stack-weighs [] = omega arith
stack-weighs (f ∷ stack) = let one = sum-cons (λ (frame : List ℕ). 16 + length frame) f stack in let rest = stack-weighs stack in omega arith

flat-length : (sums : List Sample) → length (flat_map (λ (s : Sample). s.0) sums) ≤ stacks_weight sums
flat-length [] = omega arith
flat-length (s ∷ sums) =
    let one = sum-cons (λ (s : Sample). stack_weight s.0) s sums in
    let own = stack-weighs s.0 in
    let long = length-append s.0 (flat_map (λ (s : Sample). s.0) sums) in
    let rest = flat-length sums in
    omega arith

pub frames-length : (sums : List Sample) → length (frames_in sums) ≤ stacks_weight sums
frames-length sums = let one = fold-length [] (flat_map (λ (s : Sample). s.0) sums) in let two = flat-length sums in omega arith

pub part-weighs : (parts : List (List ℕ)) → All (λ part. length part ≤ sum_by length parts) parts
part-weighs [] = All-nil _
part-weighs (p ∷ parts) =
    let one = sum-cons length p parts in
    All-cons (λ part. length part ≤ sum_by length (p ∷ parts)) p parts (omega arith)
    (λ k d within. let rest = part-weighs parts k d within in omega arith)

pub value-below : (sums : List Sample) → All (λ s. s.1 ≤ sum_by (λ value. value) (values_of sums)) sums
value-below [] = All-nil _
value-below (s ∷ sums) =
    let one = sum-cons (λ (v : ℕ). v) s.1 (values_of sums) in
    All-cons (λ (t : Sample). t.1 ≤ sum_by (λ value. value) (values_of (s ∷ sums))) s sums (omega arith)
    (λ k d within. let rest = value-below sums k d within in omega arith)

-- what holds of each stack holds of each sample's
pub samples-all : (P : List (List ℕ) → Type 0) (sums : List Sample) → All P (keys_of sums) → All (λ s. P s.0) sums
samples-all P [] all = All-nil _
samples-all P (s ∷ sums) all = All-cons (λ (t : Sample). P t.0) s sums (All-head P s.0 (keys_of sums) all) (samples-all P sums (All-tail P s.0 (keys_of sums) all))

pub reverse-all : (P : List ℕ → Type 0) (stack : List (List ℕ)) → All P stack → All P (reverse stack)
reverse-all P [] all = All-nil P
reverse-all P (f ∷ stack) all =
    subst (All P) (sym (reverse-append (f ∷ []) stack))
    (All-append P (reverse stack) (f ∷ []) (reverse-all P stack (All-tail P f stack all)) (All-cons P f [] (All-head P f stack all) (All-nil P)))
