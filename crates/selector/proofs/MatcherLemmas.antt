-- A matcher as a text has it: what it is made of, and that it is one.
use Rattle.std.proofs.Common.{◌≡◌, ℕ, ◌==◌, Bool, List, [], ◌∷◌, ◌++◌, refl, sym, ap, ◌∙◌, subst, arith, append_assoc}
use Rattle.std.specs.Prelude.{IsTrue, IsFalse}
use Rattle.std.specs.Cmp.{first_so}
use Rattle.std.specs.List.{list_all}
use Rattle.std.proofs.lemmas.Bool.Decides.{nat_tests}
use Rattle.selector.specs.Matching.{Matching}
use Rattle.selector.specs.Grammar.{is_space, is_name_start, is_name_byte, IsSpace, IsNameText, operator_text, IsString, IsMatcherText}
use Rattle.selector.specs.Runs.{begins_with}
use Rattle.selector.specs.Rests.{EndsOperator}
use Rattle.selector.specs.declared.operator.Operator.{Operator}
use Rattle.selector.specs.declared.operator.Operator.TheVariants.{Equal, NotEqual, Finds, FindsNot}
use Rattle.selector.proofs.ByteLemmas.{start_no_space, start_not, space_not_name}
use Rattle.selector.proofs.RunLemmas.{run_same, all_append}
use Rattle.selector.proofs.TokenLemmas.{named_run, operator_same}
use Rattle.selector.proofs.WrittenLemmas.{written_same}

module _ (s1 name s2 : List ℕ) (operator : Operator) (s3 string : List ℕ) where
  -- the text of a matcher
  abbrev pub text_of : List ℕ
  text_of = s1 ++ (name ++ (s2 ++ (operator_text operator ++ (s3 ++ string))))

  -- and what follows it
  abbrev pub text_on : List ℕ → List ℕ
  text_on rest = s1 ++ (name ++ (s2 ++ (operator_text operator ++ (s3 ++ (string ++ rest)))))

  pub text_more : (rest : List ℕ) → text_of ++ rest ≡ text_on rest
  text_more rest = simp append_assoc

-- what was read, token by token, is a matcher
pub matcher_of : (text s1 t1 name t2 s2 t3 : List ℕ) (operator : Operator) (t4 s3 t5 string rest value : List ℕ)
    → text ≡ s1 ++ t1 → t1 ≡ name ++ t2 → t2 ≡ s2 ++ t3 → t3 ≡ operator_text operator ++ t4 → t4 ≡ s3 ++ t5 → t5 ≡ string ++ rest
    → IsSpace s1 × IsSpace s2 × IsSpace s3 → IsNameText name → IsString string value
    → (first : List ℕ) × (text ≡ first ++ rest) × IsMatcherText first (record { name = name; operator = operator; value = value })
matcher_of text s1 t1 name t2 s2 t3 operator t4 s3 t5 string rest value e1 e2 e3 e4 e5 e6 spaces named quoted = (
  text_of s1 name s2 operator s3 string,
  e1 ∙ ap (λ t. s1 ++ t) (e2 ∙ ap (λ t. name ++ t) (e3 ∙ ap (λ t. s2 ++ t) (e4 ∙ ap (λ t. operator_text operator ++ t) (e5 ∙ ap (λ t. s3 ++ t) e6))))
      ∙ sym (text_more s1 name s2 operator s3 string rest),
  record { before = s1; between = s2; after = s3; string = string; joined = refl; spaces = spaces; named = named; quoted = quoted },
)

-- the text of a matcher and what follows it
pub joined_on : (a : List ℕ) (m : Matching) (w : IsMatcherText a m) (t : List ℕ) → a ++ t ≡ text_on w.before m.name w.between m.operator w.after w.string t
joined_on a m w t = ap (λ x. x ++ t) w.joined ∙ text_more w.before m.name w.between m.operator w.after w.string t

-- white space in front is the matcher's too
pub matcher_spaced : (space a : List ℕ) (m : Matching) → IsSpace space → IsMatcherText a m → IsMatcherText (space ++ a) m
matcher_spaced space a m blank w = record {
  before = space ++ w.before;
  between = w.between;
  after = w.after;
  string = w.string;
  joined = ap (λ x. space ++ x) w.joined ∙ sym (append_assoc space w.before _);
  spaces = (all_append is_space space w.before blank w.spaces.0, w.spaces.1, w.spaces.2);
  named = w.named;
  quoted = w.quoted;
}

-- a matcher without the white space in front of it
pub bare_matcher : (a : List ℕ) (m : Matching) (w : IsMatcherText a m) → IsMatcherText (m.name ++ (w.between ++ (operator_text m.operator ++ (w.after ++ w.string)))) m
bare_matcher a m w = record {
  before = [];
  between = w.between;
  after = w.after;
  string = w.string;
  joined = refl;
  spaces = (refl, w.spaces.1, w.spaces.2);
  named = w.named;
  quoted = w.quoted;
}

-- ---- first bytes

pub named_no_space : (name x : List ℕ) → IsNameText name → IsFalse (begins_with is_space (name ++ x))
named_no_space [] x named = absurd named
named_no_space (b ∷ name) x named = start_no_space b named.0

pub named_not : (name x rest : List ℕ) (c : ℕ) → IsNameText name → IsFalse (is_name_start c) → name ++ x ≡ c ∷ rest → ⊥
named_not [] x rest c named other same = named
named_not (b ∷ name) x rest c named other same = let first : b ≡ c = cc in start_not b c named.0 other first

-- white space and then this
pub spaced_first : (test : ℕ → Bool) (space x : List ℕ) → IsSpace space → ((b : ℕ) → IsTrue (is_space b) → IsFalse (test b)) → IsFalse (begins_with test x)
    → IsFalse (begins_with test (space ++ x))
spaced_first test [] x blank none other = other
spaced_first test (b ∷ space) x blank none other = none b (first_so (is_space b) (list_all is_space space) blank)

operator_first : (test : ℕ → Bool) (operator : Operator) (x : List ℕ) → IsFalse (test 61) → IsFalse (test 33) → IsFalse (begins_with test (operator_text operator ++ x))
operator_first test Equal x equal bang = equal
operator_first test NotEqual x equal bang = bang
operator_first test Finds x equal bang = equal
operator_first test FindsNot x equal bang = bang

string_first : (test : ℕ → Bool) (string value x : List ℕ) → IsString string value → IsFalse (test 34) → IsFalse (begins_with test (string ++ x))
string_first test string value x (inside, is, written) quote = subst (λ s. IsFalse (begins_with test (s ++ x))) (sym is) quote

no_tilde : (b : ℕ) → IsTrue (is_space b) → IsFalse (b == 126)
no_tilde b blank = grind (arith, nat_tests)

ends : (operator : Operator) (space string value x : List ℕ) → IsSpace space → IsString string value → EndsOperator operator (space ++ (string ++ x))
ends Equal space string value x blank quoted =
    spaced_first (λ b. b == 126) space (string ++ x) blank no_tilde (string_first (λ b. b == 126) string value x quoted refl)
ends NotEqual space string value x blank quoted = tt
ends Finds space string value x blank quoted = tt
ends FindsNot space string value x blank quoted = tt

-- ---- it is one thing

string_same : (a b v w t u : List ℕ) → IsString a v → IsString b w → a ++ t ≡ b ++ u → (a ≡ b) × (v ≡ w) × (t ≡ u)
string_same a b v w t u (inside, is, written) (other, it, said) same =
    let next : 34 ∷ (inside ++ 34 ∷ t) ≡ 34 ∷ (other ++ 34 ∷ u) =
    ap (λ x. 34 ∷ x) (sym (append_assoc inside (34 ∷ []) t)) ∙ ap (λ x. x ++ t) (sym is) ∙ same ∙ ap (λ x. x ++ u) it ∙ ap (λ x. 34 ∷ x) (append_assoc other (34 ∷ []) u) in
    let tails : inside ++ 34 ∷ t ≡ other ++ 34 ∷ u = cc in
    let parts = written_same v w inside other t u written said tails in
    (is ∙ ap (λ x. 34 ∷ (x ++ 34 ∷ [])) parts.1 ∙ sym it, parts.0, parts.2)

pub matcher_same : (a b t u : List ℕ) (m n : Matching) → IsMatcherText a m → IsMatcherText b n → a ++ t ≡ b ++ u → (a ≡ b) × (m ≡ n) × (t ≡ u)
matcher_same a b t u m n w v same =
    let whole = sym (joined_on a m w t) ∙ same ∙ joined_on b n v u in
    let p1 =
    run_same is_space w.before v.before (m.name ++ (w.between ++ (operator_text m.operator ++ (w.after ++ (w.string ++ t)))))
    (n.name ++ (v.between ++ (operator_text n.operator ++ (v.after ++ (v.string ++ u))))) whole w.spaces.0 v.spaces.0
    (named_no_space m.name _ w.named) (named_no_space n.name _ v.named) in
    let p2 =
    run_same is_name_byte m.name n.name (w.between ++ (operator_text m.operator ++ (w.after ++ (w.string ++ t))))
    (v.between ++ (operator_text n.operator ++ (v.after ++ (v.string ++ u)))) p1.1 (named_run m.name w.named) (named_run n.name v.named)
    (spaced_first is_name_byte w.between _ w.spaces.1 space_not_name (operator_first is_name_byte m.operator _ refl refl))
    (spaced_first is_name_byte v.between _ v.spaces.1 space_not_name (operator_first is_name_byte n.operator _ refl refl)) in
    let p3 =
    run_same is_space w.between v.between (operator_text m.operator ++ (w.after ++ (w.string ++ t))) (operator_text n.operator ++ (v.after ++ (v.string ++ u)))
    p2.1 w.spaces.1 v.spaces.1 (operator_first is_space m.operator _ refl refl) (operator_first is_space n.operator _ refl refl) in
    let p4 =
    operator_same m.operator n.operator (w.after ++ (w.string ++ t)) (v.after ++ (v.string ++ u)) p3.1
    (ends m.operator w.after w.string m.value t w.spaces.2 w.quoted) (ends n.operator v.after v.string n.value u v.spaces.2 v.quoted) in
    let p5 =
    run_same is_space w.after v.after (w.string ++ t) (v.string ++ u) p4.1 w.spaces.2 v.spaces.2
    (string_first is_space w.string m.value t w.quoted refl) (string_first is_space v.string n.value u v.quoted refl) in
    let p6 = string_same w.string v.string m.value n.value t u w.quoted v.quoted p5.1 in (
      w.joined ∙ (λ i. text_of (p1.0 i) (p2.0 i) (p3.0 i) (p4.0 i) (p5.0 i) (p6.0 i)) ∙ sym v.joined,
      (λ i. record { name = p2.0 i; operator = p4.0 i; value = p6.1 i }),
      p6.2,
    )
