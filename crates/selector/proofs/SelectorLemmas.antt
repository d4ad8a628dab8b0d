-- Whole selectors and queries: where a text breaks off, and what their faults say.
use Rattle.std.proofs.Common.{◌≡◌, ◌≢◌, ◌⊎◌, inl, inr, ℕ, ◌<◌, ◌≤◌, ◌==◌, Bool, not, List, [], ◌∷◌, ◌++◌, length, take, get_or, refl, sym, ap, ◌∙◌, subst, arith, append_assoc, true, Result, Ok, Err}
use Rattle.std.specs.Prelude.{IsFalse, MatchResult}
use Rattle.std.specs.Cmp.{first_so, second_so}
use Rattle.std.specs.List.{list_all, position_or_len, after_first}
use Rattle.std.proofs.lemmas.Bool.{eqb-true}
use Rattle.std.proofs.lemmas.List.{get_or-take, length-take, take_all}
use Rattle.std.proofs.lemmas.List.Sums.{fails_before_first, passes_at_first, split_at_first, list_all-from_AllPass}
use Rattle.selector.specs.Limits.{most_matchers}
use Rattle.selector.specs.Matching.{Matching}
use Rattle.selector.specs.Grammar.{is_space, IsInside, IsSelectorText, IsKind, IsQueryOf, kind_of}
use Rattle.faults.specs.Answers.{IfAnswered, IfFault, IsMapped}
use Rattle.faults.specs.declared.refused.Refused.{Refused}
use Rattle.faults.specs.declared.refused.Refused.TheVariants.{Fault, Memory}
use Rattle.profile_model.specs.Kinds.{parts_of}
use Rattle.selector.specs.Read.{IsFaultOf, IsReadQueryBy, IsReadSelector, IsReadQuery, AreShort, AreBuilt}
use Rattle.selector.specs.Building.{IsBuildFault}
use Rattle.selector.specs.Runs.{begins_with, IsRun}
use Rattle.selector.specs.Rests.{AtInside, AtSelector, AtQuery, IsBrokenOff, IsReadFault}
use Rattle.selector.specs.Placed.{placed_at}
use Rattle.selector.specs.declared.fault.SelectorFault.{SelectorFault}
use Rattle.selector.specs.declared.fault.SelectorFault.TheVariants.{Kind, Syntax, TooMany, Pattern, PatternRefused}
use Rattle.selector.specs.declared.written.ReadFault.{ReadFault}
use Rattle.selector.specs.declared.written.ReadFault.TheVariants as rest
use Rattle.selector.proofs.BreakLemmas.{BeginAlike, broken_after, broken_past, breaks_at}
use Rattle.selector.proofs.ByteLemmas.{both, begins_not, otherwise_alike}
use Rattle.selector.proofs.RunLemmas.{run_same}
use Rattle.selector.proofs.InsideLemmas.{closing_begins}

both_empty : (a b : List ℕ) → a ++ b ≡ [] → (a ≡ []) × (b ≡ [])
both_empty [] b same = (refl, same)
both_empty (x ∷ a) b same = absurd cc

alike_empty : (text : List ℕ) → BeginAlike text [] → text ≡ []
alike_empty [] alike = refl
alike_empty (b ∷ text) alike = absurd alike

-- ---- a selector

pub selector_of : (text space start inside : List ℕ) (matchers : List Matching) → IsRun is_space text space start → start ≡ 123 ∷ inside → IsInside inside matchers
    → IsSelectorText text matchers
selector_of text space start inside matchers run is at = inr (space, inside, run.joined ∙ ap (λ t. space ++ t) is, run.pass, at)

pub broken_selector : (text space start inside : List ℕ) (left : ℕ) → IsRun is_space text space start → start ≡ 123 ∷ inside → IsBrokenOff AtInside inside left
    → IsBrokenOff AtSelector text left
broken_selector text space start inside left run is broken =
    subst (λ t. IsBrokenOff AtSelector t left) (append_assoc space (123 ∷ []) inside ∙ sym (run.joined ∙ ap (λ t. space ++ t) is))
    (broken_after AtSelector AtInside (space ++ 123 ∷ []) inside left
    (125 ∷ [], ([], inr (space, 125 ∷ [], append_assoc space (123 ∷ []) (125 ∷ []), run.pass, closing_begins)))
    (λ t alike at. (at.0, inr (space, t, append_assoc space (123 ∷ []) t, run.pass, at.1)))
    (λ t alike at. by t at.0 at.1) broken)
  where
    by : (t : List ℕ) (matchers : List Matching) → IsSelectorText ((space ++ 123 ∷ []) ++ t) matchers → AtInside t
    by t matchers (inl (empty, none)) = let parts = both_empty space (123 ∷ t) (sym (append_assoc space (123 ∷ []) t) ∙ empty) in absurd (let no_brace = parts.1 in cc)
    by t matchers (inr (before, inside, same, blank, at)) =
        let parts = run_same is_space space before (123 ∷ t) (123 ∷ inside) (sym (append_assoc space (123 ∷ []) t) ∙ same) run.pass blank refl refl in
        let next = parts.1 in
        let tail : t ≡ inside = cc in
        (matchers, subst (λ x. IsInside x matchers) (sym tail) at)

pub no_brace : (text space start : List ℕ) → IsRun is_space text space start → IsFalse (begins_with (λ b. b == 123) start) → text ≢ [] → IsBrokenOff AtSelector text (length start)
no_brace text space start run none some =
    subst (λ t. IsBrokenOff AtSelector t (length start)) (sym run.joined)
    (broken_past AtSelector space start (123 ∷ 125 ∷ [], ([], inr (space, 125 ∷ [], refl, run.pass, closing_begins))) (λ t alike at. by t alike at.0 at.1))
  where
    by : (t : List ℕ) → BeginAlike start t → (matchers : List Matching) → IsSelectorText (space ++ t) matchers → ⊥
    by t alike matchers (inl (empty, nothing)) =
        let parts = both_empty space t empty in
        let bare = alike_empty start (subst (BeginAlike start) parts.1 alike) in
        some (run.joined ∙ (λ i. parts.0 i ++ bare i))
    by t alike matchers (inr (before, inside, same, blank, at)) =
        let parts = run_same is_space space before t (123 ∷ inside) same run.pass blank (otherwise_alike is_space start t alike run.ends) refl in
        begins_not 123 inside (subst (λ r. IsFalse (begins_with (λ b. b == 123) r)) parts.1 (otherwise_alike (λ b. b == 123) start t alike none))

-- ---- a query

-- what stands before the first brace holds none
kind_before : (text : List ℕ) → IsKind (kind_of text)
kind_before text =
    list_all-from_AllPass (λ b. not (b == 123)) (take (position_or_len (λ b. b == 123) text) text) (λ k d short.
    let size = length-take (position_or_len (λ b. b == 123) text) text in
    let inside : k < position_or_len (λ b. b == 123) text = omega arith in
    rw (get_or-take (position_or_len (λ b. b == 123) text) text k d inside) (ap not (fails_before_first (λ b. b == 123) text k d inside)))

pub kind_alone : (text : List ℕ) → position_or_len (λ b. b == 123) text ≡ length text → kind_of text ≡ text
kind_alone text end = let past : length text ≤ position_or_len (λ b. b == 123) text = omega arith in rw take_all refl

pub cut_query : (text inside : List ℕ) → position_or_len (λ b. b == 123) text < length text → inside ≡ after_first (λ b. b == 123) text → text ≡ kind_of text ++ 123 ∷ inside
cut_query text inside some is =
    let brace = eqb-true (get_or text (position_or_len (λ b. b == 123) text) 0) 123 (passes_at_first (λ b. b == 123) text 0 some) in
    split_at_first (λ b. b == 123) text 0 some ∙ (λ i. kind_of text ++ (brace i ∷ sym is i))

pub kind_query : (text : List ℕ) → position_or_len (λ b. b == 123) text ≡ length text → IsQueryOf text []
kind_query text end = (text, record { braceless = subst IsKind (kind_alone text end) (kind_before text); selected = inl (refl, refl) })

pub query_of : (text inside : List ℕ) (matchers : List Matching) → text ≡ kind_of text ++ 123 ∷ inside → IsInside inside matchers → IsQueryOf text matchers
query_of text inside matchers is at = (kind_of text, record { braceless = kind_before text; selected = inr (inside, is, at) })

pub brace_in : (kind t : List ℕ) → IsKind (kind ++ 123 ∷ t) → ⊥
brace_in [] t all = both (not (123 == 123)) (first_so (not (123 == 123)) (list_all (λ b. not (b == 123)) t) all) refl
brace_in (b ∷ kind) t all = brace_in kind t (second_so (not (b == 123)) (list_all (λ b. not (b == 123)) (kind ++ 123 ∷ t)) all)

pub broken_query : (text inside : List ℕ) (left : ℕ) → text ≡ kind_of text ++ 123 ∷ inside → IsBrokenOff AtInside inside left → IsBrokenOff AtQuery text left
broken_query text inside left is broken =
    subst (λ t. IsBrokenOff AtQuery t left) (append_assoc (kind_of text) (123 ∷ []) inside ∙ sym is)
    (broken_after AtQuery AtInside (kind_of text ++ 123 ∷ []) inside left (125 ∷ [], ([], form (125 ∷ []) [] closing_begins))
    (λ t alike at. (at.0, form t at.0 at.1)) (λ t alike at. by t at.0 at.1.0 at.1.1.braceless at.1.1.selected) broken)
  where
    form : (t : List ℕ) (matchers : List Matching) → IsInside t matchers → IsQueryOf ((kind_of text ++ 123 ∷ []) ++ t) matchers
    form t matchers at = (kind_of text, record { braceless = kind_before text; selected = inr (t, append_assoc (kind_of text) (123 ∷ []) t, at) })

    by : (t : List ℕ) (matchers : List Matching) (kind : List ℕ) → IsKind kind
        → (((kind_of text ++ 123 ∷ []) ++ t ≡ kind) × (matchers ≡ [])) ⊎ ((inside : List ℕ) × ((kind_of text ++ 123 ∷ []) ++ t ≡ kind ++ 123 ∷ inside) × IsInside inside matchers)
        → AtInside t
    by t matchers kind braceless (inl (same, none)) = absurd (brace_in (kind_of text) t (subst IsKind (sym same ∙ append_assoc (kind_of text) (123 ∷ []) t) braceless))
    by t matchers kind braceless (inr (inside, same, at)) =
        let parts =
        run_same (λ b. not (b == 123)) (kind_of text) kind (123 ∷ t) (123 ∷ inside) (sym (append_assoc (kind_of text) (123 ∷ []) t) ∙ same) (kind_before text) braceless refl refl in
        let next = parts.1 in
        let tail : t ≡ inside = cc in
        (matchers, subst (λ x. IsInside x matchers) (sym tail) at)

-- ---- faults

placed_fault : (Form : List ℕ → List Matching → Type 0) (built : List ℕ → Bool) (text : List ℕ) (fault : ReadFault)
    → IsReadFault (λ t. (matchers : List Matching) × Form t matchers) text fault → IsFaultOf Form built text (placed_at (length text) fault)
placed_fault Form built text (rest.BreaksOff left) w = ((λ matchers form. w.outside (matchers, form)), breaks_at (λ t. (matchers : List Matching) × Form t matchers) text left w)

query_fault : (built : List ℕ → Bool) (text : List ℕ) → length (parts_of (kind_of text)) ≡ 5 → (fault : ReadFault) → IsReadFault AtQuery text fault
    → IsReadQueryBy built text (Err (placed_at (length text) fault))
query_fault built text five (rest.BreaksOff left) w = (five, placed_fault IsQueryOf built text (rest.BreaksOff left) w)

-- a rest that isn't read, told as a selector that isn't
pub placed_selector : (text : List ℕ) (before : Refused ReadFault) (after : Refused SelectorFault)
    → IsMapped (λ fault placed. placed ≡ placed_at (length text) fault) before after → IfFault (IsReadFault AtSelector text) before
    → IfAnswered (IsReadSelector text) (Err after)
placed_selector text (Fault fault) (Fault placed) same w =
    (λ _. true, subst (IsFaultOf IsSelectorText (λ _. true) text) (sym same) (placed_fault IsSelectorText (λ _. true) text fault w))
placed_selector text (Fault fault) Memory same w = tt
placed_selector text Memory (Fault placed) same w = absurd same
placed_selector text Memory Memory same w = tt

-- and as a query that isn't
pub placed_query : (text : List ℕ) → length (parts_of (kind_of text)) ≡ 5 → (before : Refused ReadFault) (after : Refused SelectorFault)
    → IsMapped (λ fault placed. placed ≡ placed_at (length text) fault) before after → IfFault (IsReadFault AtQuery text) before
    → IfAnswered (IsReadQuery text) (Err after)
placed_query text five (Fault fault) (Fault placed) same w =
    (λ _. true, subst (λ other. IsReadQueryBy (λ _. true) text (Err other)) (sym same) (query_fault (λ _. true) text five fault w))
placed_query text five (Fault fault) Memory same w = tt
placed_query text five Memory (Fault placed) same w = absurd same
placed_query text five Memory Memory same w = tt

built_fault : (Form : List ℕ → List Matching → Type 0) (built : List ℕ → Bool) (text : List ℕ) (matchers : List Matching) → Form text matchers
    → (fault : SelectorFault) → IsBuildFault built matchers fault → IsFaultOf Form built text fault
built_fault Form built text matchers form Kind w = w
built_fault Form built text matchers form (Syntax at) w = absurd w
built_fault Form built text matchers form TooMany w = (matchers, form, w)
built_fault Form built text matchers form (Pattern i) w = (matchers, form, w.0, w.1, w.2)
built_fault Form built text matchers form (PatternRefused i) w = (matchers, form, w.0, w.1, w.2)

pub read_selector : (text : List ℕ) (matchers : List Matching) → IsSelectorText text matchers → (result : Result (List Matching) (Refused SelectorFault))
    → MatchResult result (λ selector. (selector ≡ matchers) × (length selector ≤ most_matchers) × AreShort selector × AreBuilt (λ _. true) selector)
    (IfFault (λ fault. (built : List ℕ → Bool) × IsBuildFault built matchers fault))
    → IfAnswered (IsReadSelector text) result
read_selector text matchers form (Ok selector) w = (λ _. true, record { form = subst (IsSelectorText text) (sym w.0) form; few = w.1; short = w.2; each = w.3 })
read_selector text matchers form (Err (Fault fault)) w = (w.0, built_fault IsSelectorText w.0 text matchers form fault w.1)
read_selector text matchers form (Err Memory) w = tt
