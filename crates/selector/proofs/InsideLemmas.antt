-- The inside of a selector: how its pieces go together, and where a text breaks off it.
use Rattle.std.proofs.Common.{◌≡◌, ◌≢◌, ◌⊎◌, inl, inr, ℕ, ◌==◌, Bool, false, List, [], ◌∷◌, ◌++◌, length, map, refl, sym, ap, ◌∙◌, subst, append_assoc, append-nil}
use Rattle.std.specs.Prelude.{IsFalse}
use Rattle.std.specs.Cmp.{first_so}
use Rattle.std.specs.List.{list_all}
use Rattle.selector.specs.Matching.{Matching}
use Rattle.selector.specs.Grammar.{is_space, IsSpace, operator_text, IsMatcherText, IsClosing, IsMore, IsInside}
use Rattle.selector.specs.Runs.{begins_with, IsRun}
use Rattle.selector.specs.Rests.{AtInside, AtMore, AtName, Spaced, Separates, IsBrokenOff}
use Rattle.selector.proofs.BreakLemmas.{BeginAlike, broken_after, broken_past}
use Rattle.selector.proofs.ByteLemmas.{both, clash, begins_not, otherwise_alike}
use Rattle.selector.proofs.RunLemmas.{run_same, all_append, all_back}
use Rattle.selector.proofs.TokenLemmas.{other_first}
use Rattle.selector.proofs.WrittenLemmas.{string_of}
use Rattle.selector.proofs.MatcherLemmas.{text_more, matcher_of, joined_on, matcher_spaced, bare_matcher, named_no_space, named_not, matcher_same}

pub closing_begins : IsClosing (125 ∷ [])
closing_begins = ([], [], refl, refl, refl)

pub inside_begins : AtInside (125 ∷ [])
inside_begins = ([], closing_begins)

-- ---- white space in front

closing_spaced : (space text : List ℕ) → IsSpace space → IsClosing text → IsClosing (space ++ text)
closing_spaced space text blank (before, after, is, first, last) =
    (space ++ before, after, ap (λ t. space ++ t) is ∙ sym (append_assoc space before (125 ∷ after)), all_append is_space space before blank first, last)

pub inside_spaced : (space text : List ℕ) → IsSpace space → (matchers : List Matching) → IsInside text matchers → IsInside (space ++ text) matchers
inside_spaced space text blank [] closing = closing_spaced space text blank closing
inside_spaced space text blank (m ∷ more) (first, rest, is, matcher, after) =
    (space ++ first, rest, ap (λ t. space ++ t) is ∙ sym (append_assoc space first rest), matcher_spaced space first m blank matcher, after)

-- no white space is in front of a text that begins otherwise
closing_bare : (space text : List ℕ) → IsSpace space → IsFalse (begins_with is_space text) → IsClosing (space ++ text) → (end : List ℕ) × (text ≡ 125 ∷ end) × IsSpace end
closing_bare space text blank settled (before, after, is, first, last) =
    let same = run_same is_space space before text (125 ∷ after) is blank first settled refl in (after, same.1, last)

pub inside_bare : (space text : List ℕ) → IsSpace space → IsFalse (begins_with is_space text) → (matchers : List Matching) → IsInside (space ++ text) matchers → IsInside text matchers
inside_bare space text blank settled [] closing =
    let bare = closing_bare space text blank settled closing in ([], bare.0, bare.1, refl, bare.2)
inside_bare space text blank settled (m ∷ more) (first, rest, is, w, after) =
    let same =
    run_same is_space space w.before text (m.name ++ (w.between ++ (operator_text m.operator ++ (w.after ++ (w.string ++ rest))))) (is ∙ joined_on first m w rest)
    blank w.spaces.0 settled (named_no_space m.name _ w.named) in
    (m.name ++ (w.between ++ (operator_text m.operator ++ (w.after ++ w.string))), rest, same.1 ∙ sym (text_more [] m.name w.between m.operator w.after w.string rest), bare_matcher first m w, after)

-- ---- a matcher, and not a brace

pub matcher_no_close : (first t before x : List ℕ) (m : Matching) → IsMatcherText first m → IsSpace before → first ++ t ≡ before ++ 125 ∷ x → ⊥
matcher_no_close first t before x m w blank same =
    let parts =
    run_same is_space w.before before (m.name ++ (w.between ++ (operator_text m.operator ++ (w.after ++ (w.string ++ t))))) (125 ∷ x) (sym (joined_on first m w t) ∙ same)
    w.spaces.0 blank (named_no_space m.name _ w.named) refl in
    named_not m.name _ x 125 w.named refl parts.1

-- a name, an operator and a string, and what follows a matcher
at_matcher : (t : List ℕ) → Spaced AtName t → AtInside t
at_matcher t (s1, t1, e1, b1, (name, t2, e2, named, (s2, t3, e3, b2, (operator, t4, e4, (s3, t5, e5, b3, (rest, e6, (inside, value, after, e7, written, (more, at)))))))) =
    let string = string_of t5 inside rest after value e6 e7 written in
    let matcher = matcher_of t s1 t1 name t2 s2 t3 operator t4 s3 t5 string.0 after value e1 e2 e3 e4 e5 string.1 (b1, b2, b3) named string.2 in
    (record { name = name; operator = operator; value = value } ∷ more, (matcher.0, after, matcher.1, matcher.2, at))

matcher_at : (t first rest : List ℕ) (m : Matching) → t ≡ first ++ rest → IsMatcherText first m → AtMore rest → Spaced AtName t
matcher_at t first rest m is w at = (
  w.before,
  m.name ++ (w.between ++ (operator_text m.operator ++ (w.after ++ (w.string ++ rest)))),
  is ∙ joined_on first m w rest,
  w.spaces.0,
  (
    m.name,
    w.between ++ (operator_text m.operator ++ (w.after ++ (w.string ++ rest))),
    refl,
    w.named,
    (
      w.between,
      operator_text m.operator ++ (w.after ++ (w.string ++ rest)),
      refl,
      w.spaces.1,
      (
        m.operator,
        w.after ++ (w.string ++ rest),
        refl,
        (
          w.after,
          w.string ++ rest,
          refl,
          w.spaces.2,
          (
            w.quoted.0 ++ 34 ∷ rest,
            ap (λ x. x ++ rest) w.quoted.1 ∙ ap (λ x. 34 ∷ x) (append_assoc w.quoted.0 (34 ∷ []) rest),
            (w.quoted.0, m.value, rest, refl, w.quoted.2, at),
          ),
        ),
      ),
    ),
  ),
)

-- where no brace stands, a matcher has to
pub broken_matcher : (text : List ℕ) (left : ℕ) → IsFalse (begins_with is_space text) → IsFalse (begins_with (λ b. b == 125) text)
    → IsBrokenOff (Spaced AtName) text left → IsBrokenOff AtInside text left
broken_matcher text left settled unclosed broken =
    broken_after AtInside (Spaced AtName) [] text left (125 ∷ [], inside_begins) (λ t alike at. at_matcher t at)
    (λ t alike at. by t at.0 at.1 (otherwise_alike is_space text t alike settled) (otherwise_alike (λ b. b == 125) text t alike unclosed)) broken
  where
    by : (t : List ℕ) (matchers : List Matching) → IsInside t matchers → IsFalse (begins_with is_space t) → IsFalse (begins_with (λ b. b == 125) t) → Spaced AtName t
    by t [] closing settled other =
        let bare = closing_bare [] t refl settled closing in
        absurd (begins_not 125 bare.0 (subst (λ r. IsFalse (begins_with (λ b. b == 125) r)) bare.1 other))
    by t (m ∷ more) (first, rest, is, w, after) settled other = matcher_at t first rest m is w (more, after)

pub broken_after_matcher : (text first rest : List ℕ) (m : Matching) (left : ℕ) → text ≡ first ++ rest → IsMatcherText first m
    → IsBrokenOff AtMore rest left → IsBrokenOff AtInside text left
broken_after_matcher text first rest m left is w broken =
    subst (λ t. IsBrokenOff AtInside t left) (sym is)
    (broken_after AtInside AtMore first rest left (125 ∷ [], (m ∷ [], (first, 125 ∷ [], refl, w, inl closing_begins)))
    (λ t alike at. (m ∷ at.0, (first, t, refl, w, at.1))) (λ t alike at. by t at.0 at.1) broken)
  where
    by : (t : List ℕ) (matchers : List Matching) → IsInside (first ++ t) matchers → AtMore t
    by t [] (before, after, same, blank, last) = absurd (matcher_no_close first t before after m w blank same)
    by t (n ∷ more) (front, tail, same, v, after) = let one = matcher_same first front t tail m n w v same in subst AtMore (sym one.2) (more, after)

-- ---- the closing brace

pub broken_end : (text space rest : List ℕ) → IsRun is_space text space rest → rest ≢ [] → IsBrokenOff IsSpace text (length rest)
broken_end text space rest run some =
    subst (λ t. IsBrokenOff IsSpace t (length rest)) (sym run.joined)
    (broken_past IsSpace space rest ([], subst IsSpace (sym (append-nil space)) run.pass)
    (λ t alike all. by rest t alike run.ends (all_back is_space space t all) some))
  where
    by : (rest t : List ℕ) → BeginAlike rest t → IsFalse (begins_with is_space rest) → IsSpace t → rest ≢ [] → ⊥
    by [] t alike ends all some = some refl
    by (b ∷ rest) [] alike ends all some = alike
    by (b ∷ rest) (c ∷ t) alike ends all some =
        both (is_space c) (first_so (is_space c) (list_all is_space t) all) (subst (λ x. IsFalse (is_space x)) alike ends)

pub broken_close : (text end : List ℕ) (left : ℕ) → text ≡ 125 ∷ end → IsBrokenOff IsSpace end left → IsBrokenOff AtInside text left
broken_close text end left is broken =
    subst (λ t. IsBrokenOff AtInside t left) (sym is)
    (broken_after AtInside IsSpace (125 ∷ []) end left ([], inside_begins) (λ t alike blank. ([], ([], t, refl, refl, blank))) (λ t alike at. by t at.0 at.1) broken)
  where
    by : (t : List ℕ) (matchers : List Matching) → IsInside (125 ∷ t) matchers → IsSpace t
    by t [] closing =
        let bare = closing_bare [] (125 ∷ t) refl refl closing in let same = bare.1 in let tail : t ≡ bare.0 = cc in subst IsSpace (sym tail) bare.2
    by t (m ∷ more) (first, rest, same, w, after) = absurd (matcher_no_close first rest [] t m w refl (sym same))

pub closed : (text end : List ℕ) → text ≡ 125 ∷ end → IsSpace end → IsInside text []
closed text end is blank = ([], end, is, refl, blank)

-- ---- what stands between matchers

comma_more : (space gap : List ℕ) → IsSpace space → IsSpace gap → (t : List ℕ) (matchers : List Matching) → IsInside t matchers → IsMore ((space ++ 44 ∷ gap) ++ t) matchers
comma_more space gap blank empty t [] closing = inr (space, gap ++ t, append_assoc space (44 ∷ gap) t, blank, closing_spaced gap t empty closing)
comma_more space gap blank empty t (m ∷ more) (first, rest, is, w, after) = (
  space,
  gap ++ first,
  rest,
  append_assoc space (44 ∷ gap) t ∙ ap (λ x. space ++ 44 ∷ x) (ap (λ x. gap ++ x) is ∙ sym (append_assoc gap first rest)),
  blank,
  matcher_spaced gap first m empty w,
  after,
)

close_more : (space : List ℕ) → IsSpace space → (t end : List ℕ) (matchers : List Matching) → t ≡ 125 ∷ end → IsInside t matchers → IsMore (space ++ t) matchers
close_more space blank t end [] is closing = inl (closing_spaced space t blank closing)
close_more space blank t end (m ∷ more) is (first, rest, same, w, after) = absurd (matcher_no_close first rest [] end m w refl (sym same ∙ is))

more_comma : (space gap : List ℕ) → IsSpace space → IsSpace gap → (t : List ℕ) (matchers : List Matching) → IsFalse (begins_with is_space t)
    → IsMore ((space ++ 44 ∷ gap) ++ t) matchers → IsInside t matchers
more_comma space gap blank empty t [] settled (inl (before, after, same, first, last)) =
    let parts = run_same is_space space before (44 ∷ (gap ++ t)) (125 ∷ after) (sym (append_assoc space (44 ∷ gap) t) ∙ same) blank first refl refl in
    absurd (clash 44 125 (gap ++ t) after parts.1 refl)
more_comma space gap blank empty t [] settled (inr (before, rest, same, first, closing)) =
    let parts = run_same is_space space before (44 ∷ (gap ++ t)) (44 ∷ rest) (sym (append_assoc space (44 ∷ gap) t) ∙ same) blank first refl refl in
    let next = parts.1 in
    let tail : gap ++ t ≡ rest = cc in
    inside_bare gap t empty settled [] (subst IsClosing (sym tail) closing)
more_comma space gap blank empty t (m ∷ more) settled (before, first, rest, same, sp, w, after) =
    let parts = run_same is_space space before (44 ∷ (gap ++ t)) (44 ∷ (first ++ rest)) (sym (append_assoc space (44 ∷ gap) t) ∙ same) blank sp refl refl in
    let next = parts.1 in
    let tail : gap ++ t ≡ first ++ rest = cc in
    inside_bare gap t empty settled (m ∷ more) (first, rest, tail, w, after)

more_close : (space : List ℕ) → IsSpace space → (t end : List ℕ) (matchers : List Matching) → t ≡ 125 ∷ end → IsMore (space ++ t) matchers → IsInside t matchers
more_close space blank t end [] is (inl closing) =
    let bare = closing_bare space t blank (other_first is_space 125 t end is refl) closing in ([], bare.0, bare.1, refl, bare.2)
more_close space blank t end [] is (inr (before, rest, same, first, closing)) =
    let parts = run_same is_space space before t (44 ∷ rest) same blank first (other_first is_space 125 t end is refl) refl in
    absurd (clash 125 44 end rest (sym is ∙ parts.1) refl)
more_close space blank t end (m ∷ more) is (before, first, rest, same, sp, w, after) =
    let parts = run_same is_space space before t (44 ∷ (first ++ rest)) same blank sp (other_first is_space 125 t end is refl) refl in
    absurd (clash 125 44 end (first ++ rest) (sym is ∙ parts.1) refl)

begins_same : (t end rest : List ℕ) → rest ≡ 125 ∷ end → BeginAlike rest t → (tail : List ℕ) × (t ≡ 125 ∷ tail)
begins_same [] end rest is alike = absurd (subst (λ r. BeginAlike r []) is alike)
begins_same (c ∷ t) end rest is alike =
    let first : 125 ≡ c = subst (λ r. BeginAlike r (c ∷ t)) is alike in (t, ap (λ x. x ∷ t) (sym first))

pub separated_more : (text rest : List ℕ) → Separates text rest → (matchers : List Matching) → IsInside rest matchers → IsMore text matchers
separated_more text rest w matchers inside = by w.cases
  where
    by : ((after : List ℕ) × IsSpace after × (text ≡ w.space ++ 44 ∷ (after ++ rest))) ⊎ ((end : List ℕ) × (rest ≡ 125 ∷ end) × (text ≡ w.space ++ rest)) → IsMore text matchers
    by (inl (gap, empty, is)) =
        subst (λ t. IsMore t matchers) (append_assoc w.space (44 ∷ gap) rest ∙ sym is) (comma_more w.space gap w.blank empty rest matchers inside)
    by (inr (end, close, is)) = subst (λ t. IsMore t matchers) (sym is) (close_more w.space w.blank rest end matchers close inside)

pub broken_separated : (text rest : List ℕ) (left : ℕ) → Separates text rest → IsBrokenOff AtInside rest left → IsBrokenOff AtMore text left
broken_separated text rest left w broken = by w.cases
  where
    by : ((after : List ℕ) × IsSpace after × (text ≡ w.space ++ 44 ∷ (after ++ rest))) ⊎ ((end : List ℕ) × (rest ≡ 125 ∷ end) × (text ≡ w.space ++ rest)) → IsBrokenOff AtMore text left
    by (inl (gap, empty, is)) =
        subst (λ t. IsBrokenOff AtMore t left) (append_assoc w.space (44 ∷ gap) rest ∙ sym is)
        (broken_after AtMore AtInside (w.space ++ 44 ∷ gap) rest left (125 ∷ [], ([], comma_more w.space gap w.blank empty (125 ∷ []) [] closing_begins))
        (λ t alike at. (at.0, comma_more w.space gap w.blank empty t at.0 at.1))
        (λ t alike at. (at.0, more_comma w.space gap w.blank empty t at.0 (otherwise_alike is_space rest t alike w.settled) at.1))
        broken)
    by (inr (end, close, is)) =
        subst (λ t. IsBrokenOff AtMore t left) (sym is)
        (broken_after AtMore AtInside w.space rest left (125 ∷ [], ([], close_more w.space w.blank (125 ∷ []) [] [] refl closing_begins))
        (λ t alike at. let tail = begins_same t end rest close alike in (at.0, close_more w.space w.blank t tail.0 at.0 tail.1 at.1))
        (λ t alike at. let tail = begins_same t end rest close alike in (at.0, more_close w.space w.blank t tail.0 at.0 tail.1 at.1))
        broken)

pub no_separator : (text space rest : List ℕ) → IsRun is_space text space rest → IsFalse (begins_with (λ b. b == 44) rest) → IsFalse (begins_with (λ b. b == 125) rest)
    → IsBrokenOff AtMore text (length rest)
no_separator text space rest run comma close =
    subst (λ t. IsBrokenOff AtMore t (length rest)) (sym run.joined)
    (broken_past AtMore space rest (125 ∷ [], ([], close_more space run.pass (125 ∷ []) [] [] refl closing_begins))
    (λ t alike at.
    by t at.0 at.1 (otherwise_alike is_space rest t alike run.ends) (otherwise_alike (λ b. b == 44) rest t alike comma)
    (otherwise_alike (λ b. b == 125) rest t alike close)))
  where
    no_comma : (t before x : List ℕ) → space ++ t ≡ before ++ 44 ∷ x → IsSpace before → IsFalse (begins_with is_space t) → IsFalse (begins_with (λ b. b == 44) t) → ⊥
    no_comma t before x same blank settled comma =
        let parts = run_same is_space space before t (44 ∷ x) same run.pass blank settled refl in
        begins_not 44 x (subst (λ r. IsFalse (begins_with (λ b. b == 44) r)) parts.1 comma)

    by : (t : List ℕ) (matchers : List Matching) → IsMore (space ++ t) matchers → IsFalse (begins_with is_space t) → IsFalse (begins_with (λ b. b == 44) t)
        → IsFalse (begins_with (λ b. b == 125) t) → ⊥
    by t [] (inl closing) settled comma close =
        let bare = closing_bare space t run.pass settled closing in begins_not 125 bare.0 (subst (λ r. IsFalse (begins_with (λ b. b == 125) r)) bare.1 close)
    by t [] (inr (before, rest, same, first, closing)) settled comma close = no_comma t before rest same first settled comma
    by t (m ∷ more) (before, first, rest, same, sp, w, after) settled comma close = no_comma t before (first ++ rest) same sp settled comma

-- ---- the loop

pub broken_inside_spaced : (text space rest : List ℕ) (left : ℕ) → IsRun is_space text space rest → IsBrokenOff AtInside rest left → IsBrokenOff AtInside text left
broken_inside_spaced text space rest left run broken =
    subst (λ t. IsBrokenOff AtInside t left) (sym run.joined)
    (broken_after AtInside AtInside space rest left (125 ∷ [], ([], inside_spaced space (125 ∷ []) run.pass [] closing_begins))
    (λ t alike at. (at.0, inside_spaced space t run.pass at.0 at.1))
    (λ t alike at. (at.0, inside_bare space t run.pass (otherwise_alike is_space rest t alike run.ends) at.0 at.1))
    broken)

-- a matcher and what separates it from the rest
pub inside_more : (text first after rest : List ℕ) (m : Matching) (matchers : List Matching) → text ≡ first ++ after → IsMatcherText first m → Separates after rest
    → IsInside rest matchers → IsInside text (m ∷ matchers)
inside_more text first after rest m matchers is w separates inside = (first, after, is, w, separated_more after rest separates matchers inside)

-- one more was gathered
pub gathered : {X : Type 0} (f : X → Matching) (items : List X) (x : X) (matchers : List Matching) → map f items ++ (f x ∷ matchers) ≡ map f (items ++ x ∷ []) ++ matchers
gathered f [] x matchers = refl
gathered f (y ∷ items) x matchers = ap (λ rest. f y ∷ rest) (gathered f items x matchers)

pub filled : (text : List ℕ) (empty : Bool) → empty ≡ (length text == 0) → empty ≡ false → text ≢ []
filled [] empty is fails same = both empty is fails
filled (b ∷ text) empty is fails same = absurd cc
