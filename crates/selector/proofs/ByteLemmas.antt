-- What the classes of bytes have in common, and a text's first byte.
use Rattle.std.proofs.Common.{◌≡◌, ◌≢◌, ℕ, ◌<◌, ◌==◌, Bool, true, false, List, [], ◌∷◌, refl, sym, ap, ◌∙◌, subst, arith}
use Rattle.std.specs.Prelude.{IsTrue, IsFalse}
use Rattle.std.proofs.lemmas.Bool.{true≢false, false_from_ne_true, eqb-true}
use Rattle.std.proofs.lemmas.Bool.Decides.{nat_tests}
use Rattle.selector.specs.Grammar.{is_space, is_name_start, is_name_byte, is_plain}
use Rattle.selector.specs.Runs.{begins_with, is_in}
use Rattle.selector.specs.declared.tokens.Class.{Class}
use Rattle.selector.specs.declared.tokens.Class.TheVariants.{Space, Name, Plain}
use Rattle.selector.proofs.BreakLemmas.{BeginAlike}

-- a test that passes doesn't fail
pub both : (b : Bool) → b ≡ true → b ≡ false → ⊥
both b pass fail = true≢false (sym pass ∙ fail)

pub start_in_name : (b : ℕ) → IsTrue (is_name_start b) → IsTrue (is_name_byte b)
start_in_name b start = grind (arith, nat_tests)

pub start_no_space : (b : ℕ) → IsTrue (is_name_start b) → IsFalse (is_space b)
start_no_space b start = grind (arith, nat_tests)

pub start_not : (b c : ℕ) → IsTrue (is_name_start b) → IsFalse (is_name_start c) → b ≢ c
start_not b c start other same = both (is_name_start c) (subst (λ x. IsTrue (is_name_start x)) same start) other

pub space_not_name : (b : ℕ) → IsTrue (is_space b) → IsFalse (is_name_byte b)
space_not_name b blank = grind (arith, nat_tests)

-- a byte of white space or of a name is ASCII, and so is one that isn't plain
pub ascii_in : (class : Class) (b : ℕ) → class ≢ Plain → IsTrue (is_in class b) → b < 128
ascii_in Space b other within = grind (arith, nat_tests)
ascii_in Name b other within = grind (arith, nat_tests)
ascii_in Plain b other within = absurd (other refl)

pub ascii_out : (b : ℕ) → IsFalse (is_plain b) → b < 128
ascii_out b out = grind (arith, nat_tests)

-- a text that begins alike begins with no byte that passes either
pub otherwise_alike : (test : ℕ → Bool) (s t : List ℕ) → BeginAlike s t → IsFalse (begins_with test s) → IsFalse (begins_with test t)
otherwise_alike test [] [] alike other = refl
otherwise_alike test [] (c ∷ t) alike other = absurd alike
otherwise_alike test (b ∷ s) [] alike other = refl
otherwise_alike test (b ∷ s) (c ∷ t) alike other = subst (λ x. IsFalse (test x)) alike other

-- a text begins with the byte, or it doesn't
pub lacks : (c : ℕ) (text : List ℕ) → ((rest : List ℕ) → text ≢ c ∷ rest) → IsFalse (begins_with (λ b. b == c) text)
lacks c [] none = refl
lacks c (b ∷ text) none = false_from_ne_true (b == c) (λ same. none text (ap (λ x. x ∷ text) (eqb-true b c same)))

pub begins_not : (c : ℕ) (rest : List ℕ) → IsFalse (begins_with (λ b. b == c) (c ∷ rest)) → ⊥
begins_not c rest other = both (c == c) (grind (arith, nat_tests)) other

-- texts that begin with different bytes differ
pub clash : (a b : ℕ) (s t : List ℕ) → a ∷ s ≡ b ∷ t → IsFalse (a == b) → ⊥
clash a b s t same differ = let one : a ≡ b = cc in both (a == b) (grind (arith, nat_tests)) differ
