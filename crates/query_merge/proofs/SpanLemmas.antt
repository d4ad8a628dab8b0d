-- A span, and one profile more.
use Rattle.std.proofs.Common.{◌≡◌, ◌≤◌, ◌<◌, ◌⊎◌, ℕ, ◌+◌, Bool, true, false, inl, inr, ltb, List, [], ◌∷◌, ◌++◌, arith, length, take, get_or, add-one, append_assoc, refl, sym, subst, ap, ◌∙◌}
use Rattle.std.specs.Prelude.{Contains, Some, max, min}
use Rattle.std.proofs.Math.Seq.{take-suc}
use Rattle.std.proofs.lemmas.Bool.{ltb-false, ltb-true}
use Rattle.std.proofs.lemmas.List.{map-append}
use Rattle.std.proofs.lemmas.List.Elements.{All-append, All-from_recursion, All-weaker, Contains-append_left, Contains-append_right}
use Rattle.profile_model.specs.declared.profile.Profile.{Profile}
use Rattle.segment_file.specs.declared.part.Row.{Row}
use Rattle.query_merge.specs.Rows.{profiles_of, times_of}
use Rattle.query_merge.specs.Spans.{AreEnds, IsSpanOf}

one_of : (times : List ℕ) (old time new : ℕ) → Contains times old → (new ≡ old) ⊎ (new ≡ time) → Contains (times ++ time ∷ []) new
one_of times old time new has (inl is) = subst (λ (t : ℕ). Contains (times ++ time ∷ []) t) (sym is) (Contains-append_left times (time ∷ []) old has)
one_of times old time new has (inr is) =
    subst (λ (t : ℕ). Contains (times ++ time ∷ []) t) (sym is) (Contains-append_right times (time ∷ []) time (0, omega arith, refl))

least_is : (old time new : ℕ) → new ≡ min old time → (new ≡ old) ⊎ (new ≡ time)
least_is old time new is = by (ltb old time) refl
  where
    by : (below : Bool) → ltb old time ≡ below → (new ≡ old) ⊎ (new ≡ time)
    by true less = let less' = ltb-true old time less in inl (omega arith)
    by false less = let less' = ltb-false old time less in inr (omega arith)

most_is : (old time new : ℕ) → new ≡ max old time → (new ≡ old) ⊎ (new ≡ time)
most_is old time new is = by (ltb old time) refl
  where
    by : (below : Bool) → ltb old time ≡ below → (new ≡ old) ⊎ (new ≡ time)
    by true less = let less' = ltb-true old time less in inr (omega arith)
    by false less = let less' = ltb-false old time less in inl (omega arith)

more_times : (times : List ℕ) (time oldest newest low high : ℕ) → AreEnds times (oldest, newest) → low ≡ min oldest time → high ≡ max newest time
    → AreEnds (times ++ time ∷ []) (low, high)
more_times times time oldest newest low high ends least most = record {
  oldest = one_of times oldest time low ends.oldest (least_is oldest time low least);
  newest = one_of times newest time high ends.newest (most_is newest time high most);
  none_before = All-append (λ t. low ≤ t) times (time ∷ []) (All-weaker (λ t. oldest ≤ t) (λ t. low ≤ t) (λ t le. omega arith) times ends.none_before)
      (All-from_recursion (λ t. low ≤ t) (time ∷ []) (omega arith, tt));
  none_after = All-append (λ t. t ≤ high) times (time ∷ []) (All-weaker (λ t. t ≤ newest) (λ t. t ≤ high) (λ t le. omega arith) times ends.none_after)
      (All-from_recursion (λ t. t ≤ high) (time ∷ []) (omega arith, tt));
}

pub wider : (profiles : List Profile) (profile : Profile) (oldest newest low high : ℕ) → IsSpanOf profiles (Some (oldest, newest))
    → low ≡ min oldest profile.time_ms → high ≡ max newest profile.time_ms → IsSpanOf (profiles ++ profile ∷ []) (Some (low, high))
wider profiles profile oldest newest low high ends least most =
    subst (λ (times : List ℕ). AreEnds times (low, high)) (sym (map-append (λ (p : Profile). p.time_ms) profiles (profile ∷ [])))
    (more_times (times_of profiles) profile.time_ms oldest newest low high ends least most)

-- the profiles of one row more
pub row_more : (profiles : List Profile) (rows : List Row) (i : ℕ) (row : Row) → i < length rows → row ≡ get_or rows i row
    → profiles ++ profiles_of (take (i + 1) rows) ≡ (profiles ++ profiles_of (take i rows)) ++ row.profile ∷ []
row_more profiles rows i row short is =
    let next : take (i + 1) rows ≡ take i rows ++ row ∷ [] =
    rw add-one (take-suc rows i row short ∙ ap (λ (last : Row). take i rows ++ last ∷ []) (sym is)) in
    ap (λ (front : List Row). profiles ++ profiles_of front) next
    ∙ ap (λ (front : List Profile). profiles ++ front) (map-append (λ (r : Row). r.profile) (take i rows) (row ∷ []))
    ∙ sym (append_assoc profiles (profiles_of (take i rows)) (row.profile ∷ []))
