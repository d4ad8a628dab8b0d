-- Entries of a table, by the bytes of their keys.
use Rattle.std.proofs.Common.{◌≡◌, ◌∙◌, ℕ, List, [], ◌∷◌, Bool, true, false, cond, Option, Some, refl, sym, ap}
use Rattle.std.specs.Prelude.{nat_eq, if◌then◌else◌, unwrap_or, IsSome}
use Rattle.std.specs.Global.{Vec}
use Rattle.std.specs.List.{AllByRecursion}
use Rattle.std.specs.Map.{lookup, set_value}
use Rattle.std.specs.BTreeMap.{is_at, insert_entry}
use Rattle.std.specs.Cmp.Lexicographic.{bytes_decides, nat_list_cmp_total, nat_list_eq_equiv, pointwise, slice_cmp, texts_ties}
use Rattle.std.specs.Ordering.{match_ordering, nat_cmp}
use Rattle.std.specs.declared.cmp.Ordering.{Ordering}
use Rattle.std.specs.declared.cmp.Ordering.TheVariants.{Less, Equal, Greater}
use Rattle.std.proofs.lemmas.Bool.{true≢false}
use Rattle.profile_model.proofs.EntryLemmas.{lookup-insert_entry}
use Rattle.tenant_books.specs.Rows.{rows_of}

-- how keys compare
abbrev pub key_cmp : Vec ℕ → Vec ℕ → Ordering
key_cmp a b = slice_cmp nat_cmp a.items b.items

-- a row is found by the bytes of its key
pub found-row : {X : Type 0} (bytes : List ℕ) (entries : List (Vec ℕ × X))
    → lookup (is_at (λ (key : Vec ℕ). slice_cmp nat_cmp bytes key.items)) entries ≡ lookup (pointwise nat_eq bytes) (rows_of entries)
found-row bytes [] = refl
found-row bytes (e ∷ es) =
    ap (λ b. cond b (Some e.1) (lookup (is_at (λ (key : Vec ℕ). slice_cmp nat_cmp bytes key.items)) es)) (sym (texts_ties bytes e.0.items))
    ∙ ap (λ found. cond (pointwise nat_eq bytes e.0.items) (Some e.1) found) (found-row bytes es)

rows-inserted : {X : Type 0} (entries : List (Vec ℕ × X)) (key : Vec ℕ) (value : X)
    → rows_of (insert_entry key_cmp entries key value) ≡ insert_entry (slice_cmp nat_cmp) (rows_of entries) key.items value
rows-inserted [] key value = refl
rows-inserted (e ∷ es) key value = by (key_cmp key e.0) (rows-inserted es key value)
  where
    by : (o : Ordering) → rows_of (insert_entry key_cmp es key value) ≡ insert_entry (slice_cmp nat_cmp) (rows_of es) key.items value
        → rows_of (match_ordering o ((key, value) ∷ e ∷ es) ((e.0, value) ∷ es) (e ∷ insert_entry key_cmp es key value))
        ≡ match_ordering o ((key.items, value) ∷ rows_of (e ∷ es)) ((e.0.items, value) ∷ rows_of es) ((e.0.items, e.1) ∷ insert_entry (slice_cmp nat_cmp) (rows_of es) key.items value)
    by Less later = refl
    by Equal later = refl
    by Greater later = ap (λ rows. (e.0.items, e.1) ∷ rows) later

-- a key that is written has its value, and each other what it had
pub found-inserted : {X : Type 0} (entries : List (Vec ℕ × X)) (key : Vec ℕ) (value : X) (bytes : List ℕ)
    → lookup (pointwise nat_eq bytes) (rows_of (insert_entry key_cmp entries key value))
    ≡ (if pointwise nat_eq key.items bytes then Some value else lookup (pointwise nat_eq bytes) (rows_of entries))
found-inserted {X} entries key value bytes =
    ap (lookup (pointwise nat_eq bytes)) (rows-inserted entries key value)
    ∙ same (insert_entry (slice_cmp nat_cmp) (rows_of entries) key.items value)
    ∙ lookup-insert_entry nat_list_cmp_total (rows_of entries) key.items value bytes
    ∙ ap (λ b. cond b (Some value) (lookup (is_at (slice_cmp nat_cmp bytes)) (rows_of entries))) (sym (texts_ties bytes key.items) ∙ nat_list_eq_equiv.symm bytes key.items)
    ∙ ap (λ found. cond (pointwise nat_eq key.items bytes) (Some value) found) (sym (same (rows_of entries)))
  where
    same : (rows : List (List ℕ × X)) → lookup (pointwise nat_eq bytes) rows ≡ lookup (is_at (slice_cmp nat_cmp bytes)) rows
    same [] = refl
    same (r ∷ rows) =
        ap (λ b. cond b (Some r.1) (lookup (pointwise nat_eq bytes) rows)) (texts_ties bytes r.0)
        ∙ ap (λ found. cond (is_at (slice_cmp nat_cmp bytes) r.0) (Some r.1) found) (same rows)

-- what holds of each value holds after a write
pub all-inserted : {X : Type 0} (P : X → Type 0) (entries : List (Vec ℕ × X)) (key : Vec ℕ) (value : X) → P value
    → AllByRecursion (λ entry. P entry.1) entries → AllByRecursion (λ entry. P entry.1) (insert_entry key_cmp entries key value)
all-inserted P [] key value new all = (new, tt)
all-inserted P (e ∷ es) key value new all = by (key_cmp key e.0) (all-inserted P es key value new all.1)
  where
    by : (o : Ordering) → AllByRecursion (λ entry. P entry.1) (insert_entry key_cmp es key value)
        → AllByRecursion (λ entry. P entry.1) (match_ordering o ((key, value) ∷ e ∷ es) ((e.0, value) ∷ es) (e ∷ insert_entry key_cmp es key value))
    by Less later = (new, all)
    by Equal later = (new, all.1)
    by Greater later = (all.0, later)

-- what holds of each value holds of the one that is found
pub all-found : {X : Type 0} (P : X → Type 0) (bytes : List ℕ) (entries : List (Vec ℕ × X)) (other : X) → P other
    → AllByRecursion (λ entry. P entry.1) entries → P (unwrap_or (lookup (pointwise nat_eq bytes) (rows_of entries)) other)
all-found P bytes [] other low all = low
all-found P bytes (e ∷ es) other low all = by (pointwise nat_eq bytes e.0.items) (all-found P bytes es other low all.1)
  where
    by : (own : Bool) → P (unwrap_or (lookup (pointwise nat_eq bytes) (rows_of es)) other)
        → P (unwrap_or (cond own (Some e.1) (lookup (pointwise nat_eq bytes) (rows_of es))) other)
    by true later = all.0
    by false later = later

-- a value written through has its key's place, and each other key has what it had
pub found-written : {X : Type 0} (bytes : List ℕ) (entries : List (Vec ℕ × X)) (value : X) (other : List ℕ)
    → IsSome (lookup (pointwise nat_eq bytes) (rows_of entries))
    → lookup (pointwise nat_eq other) (rows_of (set_value (is_at (λ (key : Vec ℕ). slice_cmp nat_cmp bytes key.items)) entries value))
    ≡ (if pointwise nat_eq bytes other then Some value else lookup (pointwise nat_eq other) (rows_of entries))
found-written bytes [] value other some = absurd (true≢false (sym some))
found-written {X} bytes (e ∷ es) value other some =
    ap (λ b. lookup (pointwise nat_eq other) (rows_of (cond b ((e.0, value) ∷ es) (e ∷ set_value (is_at (λ (key : Vec ℕ). slice_cmp nat_cmp bytes key.items)) es value)))) (sym (texts_ties bytes e.0.items))
    ∙ by (pointwise nat_eq bytes e.0.items) refl some (found-written bytes es value other)
  where
    turned : (own mine : Bool) (found : Option X) → (own ≡ true → mine ≡ false) → cond mine (Some e.1) (cond own (Some value) found) ≡ cond own (Some value) (cond mine (Some e.1) found)
    turned true true found apart = absurd (true≢false (apart refl))
    turned true false found apart = refl
    turned false mine found apart = refl

    twice : (own : Bool) (found : Option X) → cond own (Some value) found ≡ cond own (Some value) (cond own (Some e.1) found)
    twice true found = refl
    twice false found = refl

    by : (here : Bool) → pointwise nat_eq bytes e.0.items ≡ here
        → IsSome (cond here (Some e.1) (lookup (pointwise nat_eq bytes) (rows_of es)))
        → (IsSome (lookup (pointwise nat_eq bytes) (rows_of es))
        → lookup (pointwise nat_eq other) (rows_of (set_value (is_at (λ (key : Vec ℕ). slice_cmp nat_cmp bytes key.items)) es value))
        ≡ (if pointwise nat_eq bytes other then Some value else lookup (pointwise nat_eq other) (rows_of es)))
        → lookup (pointwise nat_eq other) (rows_of (cond here ((e.0, value) ∷ es) (e ∷ set_value (is_at (λ (key : Vec ℕ). slice_cmp nat_cmp bytes key.items)) es value)))
        ≡ (if pointwise nat_eq bytes other then Some value else lookup (pointwise nat_eq other) (rows_of (e ∷ es)))
    by true is some later =
        let same : bytes ≡ e.0.items = (bytes_decides bytes e.0.items).0 is in
        let alike : pointwise nat_eq other e.0.items ≡ pointwise nat_eq bytes other = ap (pointwise nat_eq other) (sym same) ∙ nat_list_eq_equiv.symm other bytes in
        ap (λ b. cond b (Some value) (lookup (pointwise nat_eq other) (rows_of es))) alike
        ∙ twice (pointwise nat_eq bytes other) (lookup (pointwise nat_eq other) (rows_of es))
        ∙ ap (λ b. cond (pointwise nat_eq bytes other) (Some value) (cond b (Some e.1) (lookup (pointwise nat_eq other) (rows_of es)))) (sym alike)
    by false is some later =
        ap (λ found. cond (pointwise nat_eq other e.0.items) (Some e.1) found) (later some)
        ∙ turned (pointwise nat_eq bytes other) (pointwise nat_eq other e.0.items) (lookup (pointwise nat_eq other) (rows_of es))
        (λ own. let same : bytes ≡ other = (bytes_decides bytes other).0 own in ap (λ b. pointwise nat_eq b e.0.items) (sym same) ∙ is)

-- the same, where the bytes are those of a tenant
pub found-tenant : {X : Type 0} (bytes tenant : List ℕ) (entries : List (Vec ℕ × X)) → bytes ≡ tenant
    → lookup (is_at (λ (key : Vec ℕ). slice_cmp nat_cmp bytes key.items)) entries ≡ lookup (pointwise nat_eq tenant) (rows_of entries)
found-tenant bytes tenant entries same = found-row bytes entries ∙ ap (λ t. lookup (pointwise nat_eq t) (rows_of entries)) same

-- what is found, or else the other, after a write
pub value-inserted : {X : Type 0} (entries : List (Vec ℕ × X)) (key : Vec ℕ) (value : X) (bytes tenant : List ℕ) (other : X) → key.items ≡ bytes
    → unwrap_or (lookup (pointwise nat_eq tenant) (rows_of (insert_entry key_cmp entries key value))) other
    ≡ (if pointwise nat_eq bytes tenant then value else unwrap_or (lookup (pointwise nat_eq tenant) (rows_of entries)) other)
value-inserted {X} entries key value bytes tenant other same =
    ap (λ found. unwrap_or found other) (found-inserted entries key value tenant)
    ∙ by (pointwise nat_eq key.items tenant)
    ∙ ap (λ b. cond (pointwise nat_eq b tenant) value (unwrap_or (lookup (pointwise nat_eq tenant) (rows_of entries)) other)) same
  where
    by : (own : Bool) → unwrap_or (cond own (Some value) (lookup (pointwise nat_eq tenant) (rows_of entries))) other
        ≡ cond own value (unwrap_or (lookup (pointwise nat_eq tenant) (rows_of entries)) other)
    by true = refl
    by false = refl
