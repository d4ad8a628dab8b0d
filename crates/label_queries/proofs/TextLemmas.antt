-- The tokens of an answer, and their text.
use Rattle.std.proofs.Common.{◌≡◌, ℕ, List, [], ◌∷◌, ◌++◌, map, flat_map, refl, sym, ap, ◌∙◌, append_assoc}
use Rattle.json.specs.Print.{print}
use Rattle.json.specs.Token.{Token, begin_array, begin_object, end_array, end_object, key}
use Rattle.json.specs.Tree.{json_tokens, items_tokens}
use Rattle.serde_json.specs.Data.{Data, array, object, member, no_members}
use Rattle.serde_json.specs.View.{items_of}
use Rattle.serde_json.specs.Written.{compact_text, outline, items_outline}
use Rattle.serde_json.proofs.Texts.{print-outline}

-- a value's tokens
abbrev pub tokens_of : Data → List Token
tokens_of value = json_tokens (outline value)

-- those of a list's values, before the list's end
tokens_of_items : {X : Type 0} (seen : X → Data) (xs : List X)
    → items_tokens (items_outline (items_of (map seen xs))) ≡ flat_map (λ x. tokens_of (seen x)) xs ++ end_array ∷ []
tokens_of_items seen [] = refl
tokens_of_items seen (x ∷ xs) =
    ap (λ rest. tokens_of (seen x) ++ rest) (tokens_of_items seen xs)
    ∙ sym (append_assoc (tokens_of (seen x)) (flat_map (λ y. tokens_of (seen y)) xs) (end_array ∷ []))

-- an object whose one member is a list
pub tokens_of_list : {X : Type 0} (name : List ℕ) (seen : X → Data) (xs : List X)
    → tokens_of (object (member name (array (items_of (map seen xs))) no_members))
    ≡ begin_object ∷ key name ∷ begin_array ∷ (flat_map (λ x. tokens_of (seen x)) xs ++ end_array ∷ end_object ∷ [])
tokens_of_list name seen xs =
    ap (λ items. begin_object ∷ key name ∷ begin_array ∷ (items ++ end_object ∷ [])) (tokens_of_items seen xs)
    ∙ ap (λ rest. begin_object ∷ key name ∷ begin_array ∷ rest)
    (append_assoc (flat_map (λ x. tokens_of (seen x)) xs) (end_array ∷ []) (end_object ∷ []))

-- what a writer that began with nothing holds, where its tokens are a value's
pub text_of_tokens : (value : Data) (text before : List ℕ) (tokens : List Token)
    → text ≡ before ++ print tokens → before ≡ [] → tokens ≡ tokens_of value → text ≡ compact_text value
text_of_tokens value text before tokens is none same = rw (is, none, same) (print-outline value)

-- such an object, written from its begin to its end after other tokens
pub list_is_written : {X : Type 0} (name : List ℕ) (seen : X → Data) (xs : List X) (old listed ended closed : List Token)
    → listed ≡ old ++ begin_object ∷ key name ∷ begin_array ∷ flat_map (λ x. tokens_of (seen x)) xs
    → ended ≡ listed ++ end_array ∷ [] → closed ≡ ended ++ end_object ∷ []
    → closed ≡ old ++ tokens_of (object (member name (array (items_of (map seen xs))) no_members))
list_is_written name seen xs old listed ended closed begun end close =
    let items = flat_map (λ x. tokens_of (seen x)) xs in
    close ∙ ap (λ tokens. tokens ++ end_object ∷ []) (end ∙ ap (λ tokens. tokens ++ end_array ∷ []) begun)
    ∙ append_assoc (old ++ begin_object ∷ key name ∷ begin_array ∷ items) (end_array ∷ []) (end_object ∷ [])
    ∙ append_assoc old (begin_object ∷ key name ∷ begin_array ∷ items) (end_array ∷ end_object ∷ [])
    ∙ ap (λ rest. old ++ rest) (sym (tokens_of_list name seen xs))
