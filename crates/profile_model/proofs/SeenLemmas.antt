-- The names that were seen, and one more.
use Rattle.std.proofs.Common.{◌≡◌, ◌∙◌, ◌+◌, ◌<◌, ℕ, Bool, true, false, ◌||◌, not, List, [], ◌∷◌, ◌++◌, Bor, add-one, ap, get_or, length, nat_eq, refl, subst, sym, take}
use Rattle.std.specs.List.{list_any}
use Rattle.std.specs.BTreeMap.{is_at}
use Rattle.std.specs.BTreeSet.{insert_key}
use Rattle.std.specs.Ordering.{is_eq, match_ordering}
use Rattle.std.specs.declared.cmp.Ordering.{Ordering}
use Rattle.std.specs.declared.cmp.Ordering.TheVariants.{Less, Equal, Greater}
use Rattle.std.specs.Cmp.Lexicographic.{pointwise, bytes_decides, texts_ties}
use Rattle.std.proofs.Math.Seq.{take-suc}
use Rattle.std.proofs.lemmas.List.Folds.{list_any-append}
use Rattle.profile_model.specs.Stacks.{name_cmp}
use Rattle.profile_model.specs.LabelSets.{Label, has_label}
use Rattle.profile_model.specs.SeenNames.{Knows}
use Rattle.profile_model.specs.declared.seen.Seen.{Seen}

abbrev pub key_cmp : Bor (List ℕ) → Bor (List ℕ) → Ordering
key_cmp x y = name_cmp x.now y.now

abbrev pub is_seen : List (Bor (List ℕ)) → List ℕ → Bool
is_seen keys name = list_any (λ key. pointwise nat_eq name key.now) keys

-- by order or by equality
seen_by_order : (key : Bor (List ℕ)) (keys : List (Bor (List ℕ))) → list_any (is_at (key_cmp key)) keys ≡ is_seen keys key.now
seen_by_order key keys = sym (λ i. list_any (λ k. texts_ties key.now k.now i) keys)

not_not : (b : Bool) → not (not b) ≡ b
not_not true = refl
not_not false = refl

pub repeats_kept : (pairs : List Label) (keys : List (Bor (List ℕ))) (key : Bor (List ℕ)) (added : Bool) → is_seen keys key.now ≡ has_label pairs key.now
    → added ≡ not (list_any (is_at (key_cmp key)) keys) → not added ≡ has_label pairs key.now
repeats_kept pairs keys key added knows is = ap not is ∙ not_not (list_any (is_at (key_cmp key)) keys) ∙ seen_by_order key keys ∙ knows

pub repeats_absent : (pairs : List Label) (keys : List (Bor (List ℕ))) (key : Bor (List ℕ)) → is_seen keys key.now ≡ has_label pairs key.now
    → list_any (is_at (key_cmp key)) keys ≡ false → false ≡ has_label pairs key.now
repeats_absent pairs keys key knows absent = sym absent ∙ seen_by_order key keys ∙ knows

twice : (b c : Bool) → (b || c) ≡ (b || (b || c))
twice true c = refl
twice false c = refl

swapped : (b c d : Bool) → (b || (c || d)) ≡ (c || (b || d))
swapped true true d = refl
swapped true false d = refl
swapped false c d = refl

last : (b c : Bool) → (b || c) ≡ (c || (b || false))
last true true = refl
last true false = refl
last false true = refl
last false false = refl

seen_more : (key : Bor (List ℕ)) (keys : List (Bor (List ℕ))) (name : List ℕ) → is_seen (insert_key key_cmp keys key) name ≡ (pointwise nat_eq name key.now || is_seen keys name)
seen_more key [] name = refl
seen_more key (x ∷ xs) name = by (key_cmp key x) refl (seen_more key xs name)
  where
    by : (o : Ordering) → key_cmp key x ≡ o → is_seen (insert_key key_cmp xs key) name ≡ (pointwise nat_eq name key.now || is_seen xs name)
        → is_seen (match_ordering o (key ∷ x ∷ xs) (x ∷ xs) (x ∷ insert_key key_cmp xs key)) name ≡ (pointwise nat_eq name key.now || is_seen (x ∷ xs) name)
    by Less is later = refl
    by Equal is later =
        let same : key.now ≡ x.now = (bytes_decides key.now x.now).0 (texts_ties key.now x.now ∙ ap is_eq is) in
        twice (pointwise nat_eq name x.now) (is_seen xs name) ∙ ap (λ (k : List ℕ). pointwise nat_eq name k || is_seen (x ∷ xs) name) (sym same)
    by Greater is later = ap (λ b. pointwise nat_eq name x.now || b) later ∙ swapped (pointwise nat_eq name x.now) (pointwise nat_eq name key.now) (is_seen xs name)

pub knows_more : (pairs : List Label) (keys more : List (Bor (List ℕ))) (key : Bor (List ℕ)) (value name : List ℕ) → more ≡ insert_key key_cmp keys key
    → is_seen keys name ≡ has_label pairs name → is_seen more name ≡ has_label (pairs ++ (key.now, value) ∷ []) name
knows_more pairs keys more key value name put knows =
    ap (λ (all : List (Bor (List ℕ))). is_seen all name) put ∙ seen_more key keys name ∙ ap (λ b. pointwise nat_eq name key.now || b) knows
    ∙ last (pointwise nat_eq name key.now) (has_label pairs name)
    ∙ sym (list_any-append (λ (label : Label). pointwise nat_eq name label.0) pairs ((key.now, value) ∷ []))

-- the same of the pair at a place
pub knows_next : (seen : Seen) (pairs : List Label) (at : ℕ) (pair : Label) (name : List ℕ) → at < length pairs → pair ≡ get_or pairs at pair → name ≡ pair.0
    → ((value : List ℕ) → Knows seen (take at pairs ++ (name, value) ∷ [])) → Knows seen (take (at + 1) pairs)
knows_next seen pairs at pair name short is named more =
    let next : take (at + 1) pairs ≡ take at pairs ++ pair ∷ [] =
    rw add-one (take-suc pairs at pair short ∙ ap (λ (last : Label). take at pairs ++ last ∷ []) (sym is)) in
    subst (Knows seen) (ap (λ (n : List ℕ). take at pairs ++ (n, pair.1) ∷ []) named ∙ sym next) (more pair.1)
