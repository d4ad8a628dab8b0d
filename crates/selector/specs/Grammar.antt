-- The grammar of selectors and queries: this project's own, after the label matchers of Prometheus. White
-- space may stand before each token, and after the last.
--     selector = "{" [ matcher { "," matcher } [ "," ] ] "}"
--     matcher  = name ( "=" | "!=" | "=~" | "!~" ) string
--     query    = kind [ selector ]
use Rattle.std.specs.Prelude.{◌≡◌, ◌==◌, ◌||◌, ◌⊎◌, ℕ, Bool, not, List, [], ◌∷◌, ◌++◌, codes, Option, Some, None, IsTrue, if◌then◌else◌}
use Rattle.std.specs.Char.{is_ascii_alphabetic, is_ascii_alphanumeric}
use Rattle.std.specs.List.{list_all, before_first}
use Rattle.selector.specs.Matching.{Matching}
use Rattle.selector.specs.declared.operator.Operator.{Operator}
use Rattle.selector.specs.declared.operator.Operator.TheVariants.{Equal, NotEqual, Finds, FindsNot}

-- ---- bytes

-- blank, tab, newline, carriage return
abbrev pub is_space : ℕ → Bool
is_space b = (b == 32) || (b == 9) || (b == 10) || (b == 13)

-- a letter or `_`
abbrev pub is_name_start : ℕ → Bool
is_name_start b = is_ascii_alphabetic b || (b == 95)

-- a letter, a digit, `_` or `.`
abbrev pub is_name_byte : ℕ → Bool
is_name_byte b = is_ascii_alphanumeric b || (b == 95) || (b == 46)

-- what stands for itself in a string: any byte but the quote, the backslash and the newline
abbrev pub is_plain : ℕ → Bool
is_plain b = not ((b == 34) || (b == 92) || (b == 10))

-- the byte that a letter after a backslash stands for: `\\`, `\"`, `\n` and `\t`
abbrev pub escaped : ℕ → Option ℕ
escaped b =
    if b == 92 then Some 92 else (if b == 34 then Some 34 else (if b == 110 then Some 10 else (if b == 116 then Some 9 else None)))

-- ---- tokens

-- white space, or nothing
abbrev pub IsSpace : List ℕ → Type 0
IsSpace text = IsTrue (list_all is_space text)

abbrev pub IsNameText : List ℕ → Type 0
IsNameText [] = ⊥
IsNameText (b ∷ rest) = IsTrue (is_name_start b) × IsTrue (list_all is_name_byte rest)

abbrev pub operator_text : Operator → List ℕ
operator_text Equal = codes "="
operator_text NotEqual = codes "!="
operator_text Finds = codes "=~"
operator_text FindsNot = codes "!~"

-- a byte of a string as it is written: itself, or a backslash and a letter
abbrev pub IsWritten : List ℕ → ℕ → Type 0
IsWritten text b = ((text ≡ b ∷ []) × IsTrue (is_plain b)) ⊎ ((letter : ℕ) × (text ≡ 92 ∷ letter ∷ []) × (escaped letter ≡ Some b))

-- the bytes of a string, one after another
abbrev pub AreWritten : List ℕ → List ℕ → Type 0
AreWritten text [] = text ≡ []
AreWritten text (b ∷ value) = (first : List ℕ) × (rest : List ℕ) × (text ≡ first ++ rest) × IsWritten first b × AreWritten rest value

-- a string: a quote, its bytes, a quote
abbrev pub IsString : List ℕ → List ℕ → Type 0
IsString text value = (inside : List ℕ) × (text ≡ 34 ∷ (inside ++ 34 ∷ [])) × AreWritten inside value

-- ---- selectors

-- a matcher: a name, an operator and a string
pub record IsMatcherText (text : List ℕ) (matcher : Matching) : Type 0 where
  pub before : List ℕ
  pub between : List ℕ
  pub after : List ℕ
  pub string : List ℕ
  pub joined : text ≡ before ++ (matcher.name ++ (between ++ (operator_text matcher.operator ++ (after ++ string))))
  pub spaces : IsSpace before × IsSpace between × IsSpace after
  pub named : IsNameText matcher.name
  pub quoted : IsString string matcher.value

-- the closing brace, and nothing more
abbrev pub IsClosing : List ℕ → Type 0
IsClosing text = (before : List ℕ) × (after : List ℕ) × (text ≡ before ++ 125 ∷ after) × IsSpace before × IsSpace after

-- what follows a matcher: further matchers, each after a comma, perhaps a comma more, and the closing brace
abbrev pub IsMore : List ℕ → List Matching → Type 0
IsMore text [] = IsClosing text ⊎ ((before : List ℕ) × (rest : List ℕ) × (text ≡ before ++ 44 ∷ rest) × IsSpace before × IsClosing rest)
IsMore text (matcher ∷ more) =
    (before : List ℕ) × (first : List ℕ) × (rest : List ℕ) × (text ≡ before ++ 44 ∷ (first ++ rest)) × IsSpace before
    × IsMatcherText first matcher × IsMore rest more

-- what follows the opening brace
abbrev pub IsInside : List ℕ → List Matching → Type 0
IsInside text [] = IsClosing text
IsInside text (matcher ∷ more) =
    (first : List ℕ) × (rest : List ℕ) × (text ≡ first ++ rest) × IsMatcherText first matcher × IsMore rest more

-- a selector; the empty text is `{}`
abbrev pub IsSelectorText : List ℕ → List Matching → Type 0
IsSelectorText text matchers =
    ((text ≡ []) × (matchers ≡ []))
    ⊎ ((before : List ℕ) × (inside : List ℕ) × (text ≡ before ++ 123 ∷ inside) × IsSpace before × IsInside inside matchers)

-- ---- queries

-- the kind of a query: all before the first `{`
abbrev pub kind_of : List ℕ → List ℕ
kind_of text = before_first (λ b. b == 123) text

-- holds no `{`
abbrev pub IsKind : List ℕ → Type 0
IsKind text = IsTrue (list_all (λ b. not (b == 123)) text)

-- a kind, and the selector that follows it; without one it is `{}`
pub record IsQueryText (text kind : List ℕ) (matchers : List Matching) : Type 0 where
  pub braceless : IsKind kind
  pub selected :
      ((text ≡ kind) × (matchers ≡ []))
      ⊎ ((inside : List ℕ) × (text ≡ kind ++ 123 ∷ inside) × IsInside inside matchers)

-- the text is some kind with these matchers
abbrev pub IsQueryOf : List ℕ → List Matching → Type 0
IsQueryOf text matchers = (kind : List ℕ) × IsQueryText text kind matchers
