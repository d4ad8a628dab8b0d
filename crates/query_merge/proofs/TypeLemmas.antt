-- The text of a type, and its five parts.
use Rattle.std.proofs.Common.{◌≡◌, ℕ, Bool, true, false, List, [], ◌∷◌, ◌++◌, length, refl, sym, ap, ◌∙◌, true≢false}
use Rattle.std.specs.Prelude.{◌&&◌, fold, not}
use Rattle.std.specs.BTreeSet.{insert_key}
use Rattle.std.specs.List.{All, AllByRecursion, join_with_byte, list_all}
use Rattle.std.proofs.lemmas.List.{map-append}
use Rattle.std.proofs.lemmas.List.Elements.{All-from_recursion}
use Rattle.std.proofs.lemmas.List.Splits.{join_with_byte-slice_split, slice_split_at, slice_split_none}
use Rattle.std.proofs.lemmas.List.Sums.{fold-append}
use Rattle.std.proofs.lemmas.Map.Views.{All-insert_key}
use Rattle.profile_model.specs.Kinds.{IsPart, is_colon, parts_of}
use Rattle.profile_model.specs.ReadKinds.{parts_in}
use Rattle.profile_model.specs.Stacks.{name_cmp}
use Rattle.profile_model.specs.TypeTexts.{type_text}
use Rattle.profile_model.specs.declared.kind.ProfileType.{ProfileType}
use Rattle.profile_model.specs.declared.profile.Profile.{Profile}
use Rattle.query_merge.specs.TypeLists.{HasFiveParts, type_texts_of, types_of}

none_in : (part : List ℕ) → list_all (λ b. not (is_colon b)) part ≡ true → AllByRecursion (λ b. is_colon b ≡ false) part
none_in [] is = tt
none_in (b ∷ bytes) is = by (is_colon b) refl (none_in bytes) is
  where
    by : (colon : Bool) → is_colon b ≡ colon → (list_all (λ b. not (is_colon b)) bytes ≡ true → AllByRecursion (λ b. is_colon b ≡ false) bytes)
        → (not colon && list_all (λ b. not (is_colon b)) bytes) ≡ true → AllByRecursion (λ b. is_colon b ≡ false) (b ∷ bytes)
    by true here later is = absurd (true≢false (sym is))
    by false here later is = (here, later is)

no_colon : (part : List ℕ) → IsPart part → All (λ b. is_colon b ≡ false) part
no_colon part is = All-from_recursion (λ b. is_colon b ≡ false) part (none_in part is)

split_first : (part rest : List ℕ) → IsPart part → parts_of (part ++ 58 ∷ rest) ≡ part ∷ parts_of rest
split_first part rest is = slice_split_at is_colon part 58 rest (no_colon part is) refl

-- a type's text is split into its parts
pub parts_of_text : (kind : ProfileType) → parts_of (type_text kind) ≡ parts_in kind
parts_of_text kind =
    split_first kind.name _ kind.parts.0
    ∙ ap (λ parts. kind.name ∷ parts) (split_first kind.sample_type _ kind.parts.1
    ∙ ap (λ parts. kind.sample_type ∷ parts) (split_first kind.sample_unit _ kind.parts.2
    ∙ ap (λ parts. kind.sample_unit ∷ parts) (split_first kind.period_type _ kind.parts.3
    ∙ ap (λ parts. kind.period_type ∷ parts) (slice_split_none is_colon kind.period_unit (no_colon kind.period_unit kind.parts.4)))))

pub five_parts : (kind : ProfileType) → HasFiveParts (type_text kind)
five_parts kind = ap length (parts_of_text kind)

-- a text that has a type's parts is the type's
pub text_again : (text : List ℕ) (kind : ProfileType) → parts_of text ≡ parts_in kind → type_text kind ≡ text
text_again text kind same = ap (join_with_byte 58) (sym same) ∙ join_with_byte-slice_split 58 text

-- the types of some profiles, with those of more
pub types_more : (old new : List (List ℕ)) (profiles more : List Profile) → old ≡ types_of profiles
    → new ≡ fold (insert_key name_cmp) old (type_texts_of more) → new ≡ types_of (profiles ++ more)
types_more old new profiles more was is =
    is ∙ ap (λ (texts : List (List ℕ)). fold (insert_key name_cmp) texts (type_texts_of more)) was
    ∙ sym (fold-append (insert_key name_cmp) [] (type_texts_of profiles) (type_texts_of more))
    ∙ ap (fold (insert_key name_cmp) []) (sym (map-append (λ (profile : Profile). type_text profile.kind) profiles more))

pub five_in_all : (old : List (List ℕ)) (profiles : List Profile) → All HasFiveParts old
    → All HasFiveParts (fold (insert_key name_cmp) old (type_texts_of profiles))
five_in_all old [] all = all
five_in_all old (profile ∷ profiles) all =
    five_in_all (insert_key name_cmp old (type_text profile.kind)) profiles
    (All-insert_key name_cmp (type_text profile.kind) HasFiveParts old all (five_parts profile.kind))
