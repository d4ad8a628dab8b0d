-- Bytes that spell fields spell no others.
use Rattle.std.proofs.Common.{◌≡◌, ◌&&◌, ℕ, ◌<◌, ◌^◌, Bool, List, [], ◌∷◌, ◌++◌, length, refl, subst, sym, ap, ◌∙◌, w32, w64, arith}
use Rattle.std.specs.Prelude.{nat_lt}
use Rattle.std.specs.Int.{bytes_high_first, from_be_bytes}
use Rattle.std.specs.List.{list_all}
use Rattle.std.proofs.lemmas.Bool.{and_parts, ltb-true}
use Rattle.std.proofs.lemmas.List.{append_assoc}
use Rattle.std.proofs.lemmas.Nat.{from_be_bytes-to_be_bytes_4, from_be_bytes-to_be_bytes_8}
use Rattle.segment_file.specs.Fields.{Field, Fit, each_of, listed, spelled}

-- the bytes of fields, and then more
abbrev pub followed : List Field → List ℕ → List ℕ
followed [] rest = rest
followed (field ∷ fields) rest = field.bytes ++ followed fields rest

pub spelled-followed : (fields : List Field) (rest : List ℕ) → spelled fields ++ rest ≡ followed fields rest
spelled-followed [] rest = refl
spelled-followed (field ∷ fields) rest =
    append_assoc field.bytes (spelled fields) rest ∙ ap (λ (l : List ℕ). field.bytes ++ l) (spelled-followed fields rest)

pub followed-append : (fields others : List Field) (rest : List ℕ) → followed (fields ++ others) rest ≡ followed fields (followed others rest)
followed-append [] others rest = refl
followed-append (field ∷ fields) others rest = ap (λ (l : List ℕ). field.bytes ++ l) (followed-append fields others rest)

pub Fit-append : (fields others : List Field) → Fit (fields ++ others) → Fit fields × Fit others
Fit-append [] others fit = (refl, fit)
Fit-append (field ∷ fields) others fit =
    let first = and_parts field.fits (list_all (λ (f : Field). f.fits) (fields ++ others)) fit in
    let rest = Fit-append fields others first.1 in
    (ap (λ (b : Bool). b && list_all (λ (f : Field). f.fits) fields) first.0 ∙ rest.0, rest.1)

-- fronts of one length are the same where the wholes are
pub front_once : (xs ys rest more : List ℕ) → length xs ≡ length ys → xs ++ rest ≡ ys ++ more → (xs ≡ ys) × (rest ≡ more)
front_once [] [] rest more long same = (refl, same)
front_once [] (y ∷ ys) rest more long same = absurd (omega arith)
front_once (x ∷ xs) [] rest more long same = absurd (omega arith)
front_once (x ∷ xs) (y ∷ ys) rest more long same =
    let head : x ≡ y = cc in
    let tail : xs ++ rest ≡ ys ++ more = cc in
    let deeper = front_once xs ys rest more (omega (arith, long)) tail in
    (λ i. head i ∷ deeper.0 i, deeper.1)

pub four_once : (m n : ℕ) (rest more : List ℕ) → m < 256 ^ 4 → n < 256 ^ 4 → bytes_high_first 4 m ++ rest ≡ bytes_high_first 4 n ++ more → (m ≡ n) × (rest ≡ more)
four_once m n rest more low within same =
    let parts = front_once (bytes_high_first 4 m) (bytes_high_first 4 n) rest more refl same in
    (sym (from_be_bytes-to_be_bytes_4 m low) ∙ ap (from_be_bytes w32) parts.0 ∙ from_be_bytes-to_be_bytes_4 n within, parts.1)

pub eight_once : (m n : ℕ) (rest more : List ℕ) → m < 256 ^ 8 → n < 256 ^ 8 → bytes_high_first 8 m ++ rest ≡ bytes_high_first 8 n ++ more → (m ≡ n) × (rest ≡ more)
eight_once m n rest more low within same =
    let parts = front_once (bytes_high_first 8 m) (bytes_high_first 8 n) rest more refl same in
    (sym (from_be_bytes-to_be_bytes_8 m low) ∙ ap (from_be_bytes w64) parts.0 ∙ from_be_bytes-to_be_bytes_8 n within, parts.1)

pub text_once : (text other : List ℕ) (rest more : List ℕ) → length text < 256 ^ 4 → length other < 256 ^ 4
    → (bytes_high_first 4 (length text) ++ text) ++ rest ≡ (bytes_high_first 4 (length other) ++ other) ++ more → (text ≡ other) × (rest ≡ more)
text_once text other rest more low within same =
    let long = four_once (length text) (length other) (text ++ rest) (other ++ more) low within
    (sym (append_assoc (bytes_high_first 4 (length text)) text rest) ∙ same ∙ append_assoc (bytes_high_first 4 (length other)) other more) in
    front_once text other rest more long.0 long.1

-- ---- one value for the bytes of its fields

-- Where the bytes of two values' fields begin the same bytes, the values are the same, and so is what follows.
abbrev pub IsOnce : {A : Type 0} → (A → List Field) → Type 0
IsOnce {A} fields =
    (item other : A) (rest more : List ℕ) → Fit (fields item) → Fit (fields other) → followed (fields item) rest ≡ followed (fields other) more
    → (item ≡ other) × (rest ≡ more)

pub each_once : {A : Type 0} (fields : List A → A → List Field) → ((before : List A) → IsOnce (fields before)) → (before items others : List A) (rest more : List ℕ)
    → length items ≡ length others → Fit (each_of fields before items) → Fit (each_of fields before others)
    → followed (each_of fields before items) rest ≡ followed (each_of fields before others) more → (items ≡ others) × (rest ≡ more)
each_once fields once before [] [] rest more long fit others_fit same = (refl, same)
each_once fields once before [] (other ∷ others) rest more long fit others_fit same = absurd (omega arith)
each_once fields once before (item ∷ items) [] rest more long fit others_fit same = absurd (omega arith)
each_once {A} fields once before (item ∷ items) (other ∷ others) rest more long fit others_fit same =
    let mine = Fit-append (fields before item) (each_of fields (before ++ item ∷ []) items) fit in
    let theirs = Fit-append (fields before other) (each_of fields (before ++ other ∷ []) others) others_fit in
    let first = once before item other (followed (each_of fields (before ++ item ∷ []) items) rest) (followed (each_of fields (before ++ other ∷ []) others) more)
    mine.0 theirs.0
    (sym (followed-append (fields before item) (each_of fields (before ++ item ∷ []) items) rest) ∙ same
    ∙ followed-append (fields before other) (each_of fields (before ++ other ∷ []) others) more) in
    let again : other ≡ item = sym first.0 in
    let later = each_once fields once (before ++ item ∷ []) items others rest more (omega (arith, long)) mine.1
    (subst (λ (x : A). Fit (each_of fields (before ++ x ∷ []) others)) again theirs.1)
    (first.1 ∙ ap (λ (x : A). followed (each_of fields (before ++ x ∷ []) others) more) again) in
    (λ i. first.0 i ∷ later.0 i, later.1)

-- a list whose count is sound or not, in both the same
pub listed_once : {A : Type 0} (fields : List A → A → List Field) (sound other_sound : Bool) → ((before : List A) → IsOnce (fields before)) → (items others : List A) (rest more : List ℕ)
    → Fit (listed sound fields items) → Fit (listed other_sound fields others)
    → followed (listed sound fields items) rest ≡ followed (listed other_sound fields others) more → (items ≡ others) × (rest ≡ more)
listed_once fields sound other_sound once items others rest more fit others_fit same =
    let mine = and_parts (nat_lt (length items) (256 ^ 4)) (list_all (λ (f : Field). f.fits) (each_of fields [] items)) fit in
    let theirs = and_parts (nat_lt (length others) (256 ^ 4)) (list_all (λ (f : Field). f.fits) (each_of fields [] others)) others_fit in
    let long = four_once (length items) (length others) (followed (each_of fields [] items) rest) (followed (each_of fields [] others) more)
    (ltb-true _ _ mine.0) (ltb-true _ _ theirs.0) same in
    each_once fields once [] items others rest more long.0 mine.1 theirs.1 long.1
