-- Names of series: a service, and labels in braces behind it.
use Rattle.std.specs.Prelude.{◌≡◌, ◌==◌, ◌||◌, ◌⊎◌, ℕ, ◌<◌, ◌≤◌, not, List, [], ◌∷◌, ◌++◌, length, map, IsTrue}
use Rattle.std.specs.List.{All, join_with_byte, list_all}
use Rattle.query_parameters.specs.declared.series_name.SeriesName.{SeriesName}

-- how many bytes a service may have
abbrev pub most_service_bytes : ℕ
most_service_bytes = 2048

-- a service: at least one byte and not too many, none of them `{`
pub record IsService (service : List ℕ) : Type 0 where
  pub some : 0 < length service
  pub short : length service ≤ most_service_bytes
  pub plain : IsTrue (list_all (λ b. not (b == 123)) service)

-- a key holds no `=`, `,` or `}`
abbrev pub IsKey : List ℕ → Type 0
IsKey key = IsTrue (list_all (λ b. not (b == 61 || (b == 44 || b == 125))) key)

-- a value holds no `,` or `}`
abbrev pub IsValue : List ℕ → Type 0
IsValue value = IsTrue (list_all (λ b. not (b == 44 || b == 125)) value)

pub record IsPair (pair : List ℕ × List ℕ) : Type 0 where
  pub key : IsKey pair.0
  pub value : IsValue pair.1

-- `k=v`
abbrev pub pair_text : List ℕ × List ℕ → List ℕ
pair_text pair = pair.0 ++ 61 ∷ pair.1

-- pairs with a comma between each two
abbrev pub pairs_text : List (List ℕ × List ℕ) → List ℕ
pairs_text pairs = join_with_byte 44 (map pair_text pairs)

-- the text is a service alone, or a service and pairs in braces, of which there may be none
pub record IsSeriesName (text service : List ℕ) (pairs : List (List ℕ × List ℕ)) : Type 0 where
  pub service_is : IsService service
  pub pairs_are : All IsPair pairs
  pub text_is : ((text ≡ service) × (pairs ≡ [])) ⊎ (text ≡ service ++ 123 ∷ (pairs_text pairs ++ 125 ∷ []))

-- the text is the name of some series
abbrev pub IsName : List ℕ → Type 0
IsName text = (service : List ℕ) × (pairs : List (List ℕ × List ℕ)) × IsSeriesName text service pairs

-- the pairs that were read
abbrev pub pairs_in : SeriesName → List (List ℕ × List ℕ)
pairs_in name = map (λ pair. (pair.0.now, pair.1.now)) name.pairs.items
