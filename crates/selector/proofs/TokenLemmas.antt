-- Where a text breaks off a selector at each token.
use Rattle.std.proofs.Common.{◌≡◌, inl, ℕ, ◌==◌, Bool, true, false, ◌&&◌, List, [], ◌∷◌, ◌++◌, length, refl, sym, subst, arith}
use Rattle.std.specs.Prelude.{IsTrue, IsFalse}
use Rattle.std.specs.Cmp.{first_so}
use Rattle.std.specs.List.{list_all}
use Rattle.std.proofs.lemmas.Bool.{true≢false}
use Rattle.std.proofs.lemmas.Bool.Decides.{nat_tests}
use Rattle.profile_model.specs.Breaks.{Begins}
use Rattle.selector.specs.Grammar.{is_space, is_name_start, is_name_byte, IsNameText, operator_text}
use Rattle.selector.specs.Runs.{begins_with, IsRun}
use Rattle.selector.specs.Rests.{AtMore, AtWritten, AtString, AtNegated, AtOperator, AtName, Spaced, EndsOperator, IsBrokenOff}
use Rattle.selector.specs.declared.operator.Operator.{Operator}
use Rattle.selector.specs.declared.operator.Operator.TheVariants.{Equal, NotEqual, Finds, FindsNot}
use Rattle.selector.proofs.BreakLemmas.{BeginAlike, broken_after, broken_here}
use Rattle.selector.proofs.ByteLemmas.{both, begins_not, clash, otherwise_alike, start_in_name, start_no_space, space_not_name}
use Rattle.selector.proofs.RunLemmas.{run_same}

-- ---- how each goes on to an end

pub more_begins : AtMore (125 ∷ [])
more_begins = ([], inl ([], [], refl, refl, refl))

pub written_begins : AtWritten (34 ∷ 125 ∷ [])
written_begins = ([], [], 125 ∷ [], refl, refl, more_begins)

pub string_begins : AtString (34 ∷ 34 ∷ 125 ∷ [])
string_begins = (34 ∷ 125 ∷ [], refl, written_begins)

pub spaced_begins : (Form : List ℕ → Type 0) (text : List ℕ) → Form text → Spaced Form text
spaced_begins Form text form = ([], text, refl, refl, form)

pub operator_begins : AtOperator (61 ∷ 34 ∷ 34 ∷ 125 ∷ [])
operator_begins = (Equal, 34 ∷ 34 ∷ 125 ∷ [], refl, spaced_begins AtString (34 ∷ 34 ∷ 125 ∷ []) string_begins)

pub name_begins : AtName (97 ∷ 61 ∷ 34 ∷ 34 ∷ 125 ∷ [])
name_begins =
    (97 ∷ [], 61 ∷ 34 ∷ 34 ∷ 125 ∷ [], refl, (refl, refl), spaced_begins AtOperator (61 ∷ 34 ∷ 34 ∷ 125 ∷ []) operator_begins)

-- ---- what each begins with

pub string_first : (text : List ℕ) → AtString text → (rest : List ℕ) × (text ≡ 34 ∷ rest)
string_first text at = (at.0, at.1)

-- a text that is this byte and more begins with no byte that passes, where this one doesn't
pub other_first : (test : ℕ → Bool) (b : ℕ) (text rest : List ℕ) → text ≡ b ∷ rest → IsFalse (test b) → IsFalse (begins_with test text)
other_first test b text rest is other = subst (λ r. IsFalse (begins_with test r)) (sym is) other

string_no_space : (text : List ℕ) → AtString text → IsFalse (begins_with is_space text)
string_no_space text at = other_first is_space 34 text at.0 at.1 refl

operator_other : (test : ℕ → Bool) → IsFalse (test 61) → IsFalse (test 33) → (text : List ℕ) → AtOperator text → IsFalse (begins_with test text)
operator_other test equal bang text (operator, rest, is, more) = by operator is
  where
    by : (operator : Operator) → text ≡ operator_text operator ++ rest → IsFalse (begins_with test text)
    by Equal is = other_first test 61 text rest is equal
    by NotEqual is = other_first test 33 text (61 ∷ rest) is bang
    by Finds is = other_first test 61 text (126 ∷ rest) is equal
    by FindsNot is = other_first test 33 text (126 ∷ rest) is bang

operator_no_space : (text : List ℕ) → AtOperator text → IsFalse (begins_with is_space text)
operator_no_space = operator_other is_space refl refl

name_no_space : (text : List ℕ) → AtName text → IsFalse (begins_with is_space text)
name_no_space text ([], rest, is, named, more) = absurd named
name_no_space text (b ∷ name, rest, is, named, more) = other_first is_space b text (name ++ rest) is (start_no_space b named.0)

-- white space and then a form begins with no byte that passes, where neither does
spaced_other : (Form : List ℕ → Type 0) (test : ℕ → Bool) → ((b : ℕ) → IsTrue (is_space b) → IsFalse (test b))
    → ((t : List ℕ) → Form t → IsFalse (begins_with test t)) → (text : List ℕ) → Spaced Form text → IsFalse (begins_with test text)
spaced_other Form test blank form text ([], rest, is, space, at) = subst (λ r. IsFalse (begins_with test r)) (sym is) (form rest at)
spaced_other Form test blank form text (b ∷ s, rest, is, space, at) = other_first test b text (s ++ rest) is (blank b (first_so (is_space b) (list_all is_space s) space))

-- ---- white space

module _ (Form : List ℕ → Type 0) (none : (t : List ℕ) → Form t → IsFalse (begins_with is_space t)) (some : Begins Form []) where
  pub broken_spaced : (text space rest : List ℕ) (left : ℕ) → IsRun is_space text space rest → IsBrokenOff Form rest left → IsBrokenOff (Spaced Form) text left
  broken_spaced text space rest left run broken =
      subst (λ t. IsBrokenOff (Spaced Form) t left) (sym run.joined)
      (broken_after (Spaced Form) Form space rest left (some.0, (space, some.0, refl, run.pass, some.1))
      (λ t alike form. (space, t, refl, run.pass, form))
      (λ t alike spaced.
      let ends = otherwise_alike is_space rest t alike run.ends in
      let same = run_same is_space space spaced.0 t spaced.1 spaced.2 run.pass spaced.3 ends (none spaced.1 spaced.4) in
      subst Form (sym same.1) spaced.4)
      broken)

pub broken_before_string : (text space rest : List ℕ) (left : ℕ) → IsRun is_space text space rest → IsBrokenOff AtString rest left → IsBrokenOff (Spaced AtString) text left
broken_before_string = broken_spaced AtString string_no_space (34 ∷ 34 ∷ 125 ∷ [], string_begins)

pub broken_before_operator : (text space rest : List ℕ) (left : ℕ) → IsRun is_space text space rest → IsBrokenOff AtOperator rest left → IsBrokenOff (Spaced AtOperator) text left
broken_before_operator = broken_spaced AtOperator operator_no_space (61 ∷ 34 ∷ 34 ∷ 125 ∷ [], operator_begins)

pub broken_before_name : (text space rest : List ℕ) (left : ℕ) → IsRun is_space text space rest → IsBrokenOff AtName rest left → IsBrokenOff (Spaced AtName) text left
broken_before_name = broken_spaced AtName name_no_space (97 ∷ 61 ∷ 34 ∷ 34 ∷ 125 ∷ [], name_begins)

-- ---- names

-- a name of the form is there, and it isn't another run of name bytes
pub named_run : (name : List ℕ) → IsNameText name → IsTrue (list_all is_name_byte name)
named_run [] named = absurd named
named_run (b ∷ name) named = by (is_name_byte b) (start_in_name b named.0) named.1
  where
    by : (here : Bool) → here ≡ true → IsTrue (list_all is_name_byte name) → IsTrue (here && list_all is_name_byte name)
    by true pass more = more
    by false pass more = absurd (true≢false (sym pass))

after_name_other : (text : List ℕ) → Spaced AtOperator text → IsFalse (begins_with is_name_byte text)
after_name_other = spaced_other AtOperator is_name_byte space_not_name (operator_other is_name_byte refl refl)

pub broken_after_name : (text name rest : List ℕ) (left : ℕ) → IsRun is_name_byte text name rest → IsNameText name
    → IsBrokenOff (Spaced AtOperator) rest left → IsBrokenOff AtName text left
broken_after_name text name rest left run named broken =
    subst (λ t. IsBrokenOff AtName t left) (sym run.joined)
    (broken_after AtName (Spaced AtOperator) name rest left
    (61 ∷ 34 ∷ 34 ∷ 125 ∷ [], (name, 61 ∷ 34 ∷ 34 ∷ 125 ∷ [], refl, named, spaced_begins AtOperator (61 ∷ 34 ∷ 34 ∷ 125 ∷ []) operator_begins))
    (λ t alike form. (name, t, refl, named, form))
    (λ t alike at.
    let ends = otherwise_alike is_name_byte rest t alike run.ends in
    let same = run_same is_name_byte name at.0 t at.1 at.2 run.pass (named_run at.0 at.3) ends (after_name_other at.1 at.4) in
    subst (Spaced AtOperator) (sym same.1) at.4)
    broken)

name_starts : (text : List ℕ) → AtName text → IsFalse (begins_with is_name_start text) → ⊥
name_starts text ([], rest, is, named, more) none = named
name_starts text (b ∷ name, rest, is, named, more) none = both (is_name_start b) named.0 (subst (λ r. IsFalse (begins_with is_name_start r)) is none)

pub no_name : (text : List ℕ) → IsFalse (begins_with is_name_start text) → IsBrokenOff AtName text (length text)
no_name text none =
    broken_here AtName text (97 ∷ 61 ∷ 34 ∷ 34 ∷ 125 ∷ [], name_begins)
    (λ t alike at. name_starts t at (otherwise_alike is_name_start text t alike none))

pub no_start : (text name rest : List ℕ) → IsRun is_name_byte text name rest → begins_with is_name_start name ≡ false → IsFalse (begins_with is_name_start text)
no_start text [] rest run none =
    subst (λ r. IsFalse (begins_with is_name_start r)) (sym run.joined) (by rest run.ends)
  where
    fails : (b : ℕ) → IsFalse (is_name_byte b) → IsFalse (is_name_start b)
    fails b other = grind (arith, nat_tests)

    by : (rest : List ℕ) → IsFalse (begins_with is_name_byte rest) → IsFalse (begins_with is_name_start rest)
    by [] other = refl
    by (b ∷ rest) other = fails b other
no_start text (b ∷ name) rest run none = other_first is_name_start b text (name ++ rest) run.joined none

-- ---- operators

-- an operator's text is one, where it is read whole
pub operator_same : (a b : Operator) (t u : List ℕ) → operator_text a ++ t ≡ operator_text b ++ u → EndsOperator a t → EndsOperator b u → (a ≡ b) × (t ≡ u)
operator_same Equal Equal t u same at bu = (refl, let rest : t ≡ u = cc in rest)
operator_same NotEqual NotEqual t u same at bu = (refl, let rest : t ≡ u = cc in rest)
operator_same Finds Finds t u same at bu = (refl, let rest : t ≡ u = cc in rest)
operator_same FindsNot FindsNot t u same at bu = (refl, let rest : t ≡ u = cc in rest)
operator_same Equal Finds t u same at bu =
    let rest : t ≡ 126 ∷ u = cc in absurd (begins_not 126 u (subst (λ r. IsFalse (begins_with (λ b. b == 126) r)) rest at))
operator_same Finds Equal t u same at bu =
    let rest : u ≡ 126 ∷ t = cc in absurd (begins_not 126 t (subst (λ r. IsFalse (begins_with (λ b. b == 126) r)) rest bu))
operator_same Equal NotEqual t u same at bu = absurd (clash 61 33 (t) (61 ∷ u) same refl)
operator_same Equal FindsNot t u same at bu = absurd (clash 61 33 (t) (126 ∷ u) same refl)
operator_same Finds NotEqual t u same at bu = absurd (clash 61 33 (126 ∷ t) (61 ∷ u) same refl)
operator_same Finds FindsNot t u same at bu = absurd (clash 61 33 (126 ∷ t) (126 ∷ u) same refl)
operator_same NotEqual Equal t u same at bu = absurd (clash 33 61 (61 ∷ t) (u) same refl)
operator_same NotEqual Finds t u same at bu = absurd (clash 33 61 (61 ∷ t) (126 ∷ u) same refl)
operator_same NotEqual FindsNot t u same at bu = let next : 61 ∷ t ≡ 126 ∷ u = cc in absurd (clash 61 126 t u next refl)
operator_same FindsNot Equal t u same at bu = absurd (clash 33 61 (126 ∷ t) (u) same refl)
operator_same FindsNot Finds t u same at bu = absurd (clash 33 61 (126 ∷ t) (126 ∷ u) same refl)
operator_same FindsNot NotEqual t u same at bu = let next : 126 ∷ t ≡ 61 ∷ u = cc in absurd (clash 126 61 t u next refl)

-- what may follow an operator ends it
pub operator_ended : (operator : Operator) (text : List ℕ) → Spaced AtString text → EndsOperator operator text
operator_ended Equal text at =
    spaced_other AtString (λ b. b == 126) (λ b blank. let other : IsFalse (b == 126) = grind (arith, nat_tests) in other)
    (λ t s. other_first (λ b. b == 126) 34 t s.0 s.1 refl) text at
operator_ended NotEqual text at = tt
operator_ended Finds text at = tt
operator_ended FindsNot text at = tt

ended_alike : (operator : Operator) (s t : List ℕ) → BeginAlike s t → EndsOperator operator s → EndsOperator operator t
ended_alike Equal s t alike ends = otherwise_alike (λ b. b == 126) s t alike ends
ended_alike NotEqual s t alike ends = tt
ended_alike Finds s t alike ends = tt
ended_alike FindsNot s t alike ends = tt

pub broken_after_operator : (text : List ℕ) (operator : Operator) (rest : List ℕ) (left : ℕ) → text ≡ operator_text operator ++ rest → EndsOperator operator rest
    → IsBrokenOff (Spaced AtString) rest left → IsBrokenOff AtOperator text left
broken_after_operator text operator rest left is ends broken =
    subst (λ t. IsBrokenOff AtOperator t left) (sym is)
    (broken_after AtOperator (Spaced AtString) (operator_text operator) rest left
    (34 ∷ 34 ∷ 125 ∷ [], (operator, 34 ∷ 34 ∷ 125 ∷ [], refl, spaced_begins AtString (34 ∷ 34 ∷ 125 ∷ []) string_begins))
    (λ t alike form. (operator, t, refl, form))
    (λ t alike at.
    let same = operator_same operator at.0 t at.1 at.2 (ended_alike operator rest t alike ends) (operator_ended at.0 at.1 at.3) in
    subst (Spaced AtString) (sym same.1) at.3)
    broken)

pub no_operator : (text : List ℕ) → IsFalse (begins_with (λ b. b == 61) text) → IsFalse (begins_with (λ b. b == 33) text) → IsBrokenOff AtOperator text (length text)
no_operator text equal bang =
    broken_here AtOperator text (61 ∷ 34 ∷ 34 ∷ 125 ∷ [], operator_begins)
    (λ t alike at. by t at.0 at.1 at.2 (otherwise_alike (λ b. b == 61) text t alike equal) (otherwise_alike (λ b. b == 33) text t alike bang))
  where
    by : (t : List ℕ) (operator : Operator) (rest : List ℕ) → t ≡ operator_text operator ++ rest → IsFalse (begins_with (λ b. b == 61) t)
        → IsFalse (begins_with (λ b. b == 33) t) → ⊥
    by t Equal rest is equal bang = begins_not 61 rest (subst (λ r. IsFalse (begins_with (λ b. b == 61) r)) is equal)
    by t NotEqual rest is equal bang = begins_not 33 (61 ∷ rest) (subst (λ r. IsFalse (begins_with (λ b. b == 33) r)) is bang)
    by t Finds rest is equal bang = begins_not 61 (126 ∷ rest) (subst (λ r. IsFalse (begins_with (λ b. b == 61) r)) is equal)
    by t FindsNot rest is equal bang = begins_not 33 (126 ∷ rest) (subst (λ r. IsFalse (begins_with (λ b. b == 33) r)) is bang)

pub no_negated : (text : List ℕ) → IsFalse (begins_with (λ b. b == 61) text) → IsFalse (begins_with (λ b. b == 126) text) → IsBrokenOff AtNegated text (length text)
no_negated text equal tilde =
    broken_here AtNegated text (61 ∷ 34 ∷ 34 ∷ 125 ∷ [], (NotEqual, 34 ∷ 34 ∷ 125 ∷ [], refl, spaced_begins AtString (34 ∷ 34 ∷ 125 ∷ []) string_begins))
    (λ t alike at. by t at.0 at.1 at.2 (otherwise_alike (λ b. b == 61) text t alike equal) (otherwise_alike (λ b. b == 126) text t alike tilde))
  where
    by : (t : List ℕ) (operator : Operator) (rest : List ℕ) → 33 ∷ t ≡ operator_text operator ++ rest → IsFalse (begins_with (λ b. b == 61) t)
        → IsFalse (begins_with (λ b. b == 126) t) → ⊥
    by t Equal rest is equal tilde = clash 33 61 t (rest) is refl
    by t NotEqual rest is equal tilde = let next : t ≡ 61 ∷ rest = cc in begins_not 61 rest (subst (λ r. IsFalse (begins_with (λ b. b == 61) r)) next equal)
    by t Finds rest is equal tilde = clash 33 61 t (126 ∷ rest) is refl
    by t FindsNot rest is equal tilde = let next : t ≡ 126 ∷ rest = cc in begins_not 126 rest (subst (λ r. IsFalse (begins_with (λ b. b == 126) r)) next tilde)

pub broken_after_bang : (text rest : List ℕ) (left : ℕ) → text ≡ 33 ∷ rest → IsBrokenOff AtNegated rest left → IsBrokenOff AtOperator text left
broken_after_bang text rest left is broken =
    subst (λ t. IsBrokenOff AtOperator t left) (sym is)
    (broken_after AtOperator AtNegated (33 ∷ []) rest left
    (61 ∷ 34 ∷ 34 ∷ 125 ∷ [], (NotEqual, 34 ∷ 34 ∷ 125 ∷ [], refl, spaced_begins AtString (34 ∷ 34 ∷ 125 ∷ []) string_begins))
    (λ t alike at. at) (λ t alike at. at) broken)
