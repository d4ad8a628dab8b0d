use mathlib.Core.Logic.{◌⊎◌, inl, inr}
use Rattle.std.proofs.Common.{◌≡◌, ℕ, List, Option, option_map, subst, ◌-◌, ◌∷◌, length, Some, None, refl, sym, ap, ap₂, ◌∙◌, arith}
use Rattle.std.specs.Result.{MatchResult}
use Rattle.std.proofs.lemmas.Option.{none-some}
use Rattle.json.specs.Token.{Token}
use Rattle.json.specs.declared.token.Token.{Token as Spelt}
use Rattle.json.specs.Json.{after_end_array, read_key}
use Rattle.json.specs.Reads.{token_of}
use Rattle.json.proofs.Grammar.{left_some, read_key-shorter}
use Rattle.serde_json.specs.Data.{Data, Num, array, object, no_members, put}
use Rattle.serde_json.specs.Find.{as_u64}
use Rattle.serde_json.specs.Read.{number_of}
use Rattle.json_bodies.proofs.TurnLemmas.{items_over, members_over, no_key}
use Rattle.json_bodies.specs.Walks.{valued, itemed, membered, rest_of}
use Rattle.json_bodies.proofs.WalkLemmas.{valued_array, valued_object, valued_string, valued_number, valued_boolean, valued_null, valued_end_object, valued_end_array, valued_key, valued_bad, too_deep_array, too_deep_object, rest-parse_map, rest_shorter, skip_item, no_item, skip_member, no_member}
use Rattle.json_bodies.proofs.walk.+skip.Goals as goal

pub skip_items-items-init : goal.skip_items-items-init
skip_items-items-init t c = (length c.args.reader.now, omega arith, refl)

pub skip_items-returns-in_err-token : goal.skip_items-returns-in_err-token
skip_items-returns-in_err-token t c =
    let l = c.items in
    let n = l.invariant.0 in
    let going : (after_end_array l.reader ≡ None) × (c.take_end_array.new.self ≡ l.reader) = grind arith in
    let none = l.invariant.2 ∙ no_item c.args.depth n l.reader going.0 (rw (← going.1) (ap rest_of (c.in_err-token.ensures c.args.depth))) in
    grind (arith, none)

pub skip_items-items-smaller : goal.skip_items-items-smaller
skip_items-items-smaller t c =
    let l = c.items in
    let going : (after_end_array l.reader ≡ None) × (c.take_end_array.new.self ≡ l.reader) = grind arith in
    let first : l.reader ≡ token_of c.in_ok-token.token ∷ c.first.new.reader = grind (arith, going) in
    rest_shorter c.args.depth l.reader _ (rw first c.in_ok-skip_rest.ensures)

pub skip_items-items-preserved : goal.skip_items-items-preserved
skip_items-items-preserved t c =
    let l = c.items in
    let n = l.invariant.0 in
    let going : (after_end_array l.reader ≡ None) × (c.take_end_array.new.self ≡ l.reader) = grind arith in
    let first : l.reader ≡ token_of c.in_ok-token.token ∷ c.first.new.reader = grind (arith, going) in
    let read : rest_of (valued c.args.depth l.reader) ≡ Some c.skip_rest.new.reader = rw first c.in_ok-skip_rest.ensures in
    let less = rest_shorter c.args.depth l.reader _ read in (
      n - 1,
      omega (arith, l.invariant.1),
      l.invariant.2 ∙ skip_item c.args.depth n l.reader _ (omega (arith, l.invariant.1)) going.0 read,
    )

pub skip_items-returns-in_err-skip_rest : goal.skip_items-returns-in_err-skip_rest
skip_items-returns-in_err-skip_rest t c =
    let l = c.items in
    let n = l.invariant.0 in
    let going : (after_end_array l.reader ≡ None) × (c.take_end_array.new.self ≡ l.reader) = grind arith in
    let first : l.reader ≡ token_of c.in_ok-token.token ∷ c.first.new.reader = grind (arith, going) in
    let none = l.invariant.2 ∙ no_item c.args.depth n l.reader going.0 (rw first c.in_err-skip_rest.ensures) in
    grind (arith, none)

pub skip_items-returns : goal.skip_items-returns
skip_items-returns t c =
    let l = c.items in
    let n = l.invariant.0 in
    l.invariant.2 ∙ ap rest_of (items_over c.args.depth n l.reader c.take_end_array.new.self l.invariant.1 (grind arith))

pub skip_members-members-init : goal.skip_members-members-init
skip_members-members-init t c = (length c.args.reader.now, omega arith, no_members, refl)

pub skip_members-returns-in_err-next_key : goal.skip_members-returns-in_err-next_key
skip_members-returns-in_err-next_key t c =
    let l = c.members in
    let n = l.invariant.0 in
    let none = l.invariant.3 ∙ ap rest_of (no_key c.args.depth l.invariant.2 n l.reader c.in_err-next_key.ensures.value) in
    grind (arith, none)

pub skip_members-returns-in_err-token : goal.skip_members-returns-in_err-token
skip_members-returns-in_err-token t c =
    let l = c.members in
    let n = l.invariant.0 in
    let s = c.next_key.new.self in
    let named : read_key l.reader ≡ Some (Some c.in-Some.field-0.now, s) = grind arith in
    let none = l.invariant.3 ∙ no_member c.args.depth n l.invariant.2 l.reader s _ named (ap rest_of (c.in_err-token.ensures c.args.depth)) in
    grind (arith, none)

pub skip_members-members-smaller : goal.skip_members-members-smaller
skip_members-members-smaller t c =
    let l = c.members in
    let s = c.next_key.new.self in
    let named : read_key l.reader ≡ Some (Some c.in-Some.field-0.now, s) = grind arith in
    let first : s ≡ token_of c.in_ok-token.token ∷ c.first.new.reader = grind arith in
    let shorter = read_key-shorter l.reader _ s named in
    let less = rest_shorter c.args.depth s c.skip_rest.new.reader (rw first c.in_ok-skip_rest.ensures) in
    omega (arith, less, shorter)

pub skip_members-members-preserved : goal.skip_members-members-preserved
skip_members-members-preserved t c =
    let l = c.members in
    let n = l.invariant.0 in
    let s = c.next_key.new.self in
    let named : read_key l.reader ≡ Some (Some c.in-Some.field-0.now, s) = grind arith in
    let first : s ≡ token_of c.in_ok-token.token ∷ c.first.new.reader = grind arith in
    let read : rest_of (valued c.args.depth s) ≡ Some c.skip_rest.new.reader = rw first c.in_ok-skip_rest.ensures in
    let shorter = read_key-shorter l.reader _ s named in
    let less = rest_shorter c.args.depth s _ read in (
      n - 1,
      omega (arith, l.invariant.1, less, shorter),
      put c.in-Some.field-0.now (left_some (valued c.args.depth s) _ read).0 l.invariant.2,
      l.invariant.3 ∙ skip_member c.args.depth n l.invariant.2 l.reader s _ _ (omega (arith, l.invariant.1, less, shorter)) named read,
    )

pub skip_members-returns-in_err-skip_rest : goal.skip_members-returns-in_err-skip_rest
skip_members-returns-in_err-skip_rest t c =
    let l = c.members in
    let n = l.invariant.0 in
    let s = c.next_key.new.self in
    let named : read_key l.reader ≡ Some (Some c.in-Some.field-0.now, s) = grind arith in
    let first : s ≡ token_of c.in_ok-token.token ∷ c.first.new.reader = grind arith in
    let none = l.invariant.3 ∙ no_member c.args.depth n l.invariant.2 l.reader s _ named (rw first c.in_err-skip_rest.ensures) in
    grind (arith, none)

pub skip_members-returns : goal.skip_members-returns
skip_members-returns t c =
    let l = c.members in
    let n = l.invariant.0 in
    l.invariant.3 ∙ ap rest_of (members_over c.args.depth l.invariant.2 n l.reader c.next_key.new.self l.invariant.1 (grind arith))

pub skip_rest-returns-then-depth-eq0 : goal.skip_rest-returns-then-depth-eq0
skip_rest-returns-then-depth-eq0 t c =
    let none : c.args.depth ≡ 0 = omega arith in
    ap rest_of (ap₂ valued none (ap (λ k. token_of k ∷ c.args.reader.now) c.in-BeginArray.is) ∙ too_deep_array c.args.reader.now)

pub skip_rest-returns-then-depth-eq0-2 : goal.skip_rest-returns-then-depth-eq0-2
skip_rest-returns-then-depth-eq0-2 t c =
    let none : c.args.depth ≡ 0 = omega arith in
    ap rest_of (ap₂ valued none (ap (λ k. token_of k ∷ c.args.reader.now) c.in-BeginObject.is) ∙ too_deep_object c.args.reader.now)

scalar_passed : (depth : ℕ) (token : Spelt) (ts : List Token)
    → ((text : _) × (token ≡ Spelt.String text)) ⊎ (((b : _) × (token ≡ Spelt.Bool b)) ⊎ (token ≡ Spelt.Null))
    → rest_of (valued depth (token_of token ∷ ts)) ≡ Some ts
scalar_passed depth token ts (inl (text, is)) = ap (λ k. rest_of (valued depth (token_of k ∷ ts))) is ∙ ap rest_of (valued_string depth text.now ts)
scalar_passed depth token ts (inr (inl (b, is))) = ap (λ k. rest_of (valued depth (token_of k ∷ ts))) is ∙ ap rest_of (valued_boolean depth b ts)
scalar_passed depth token ts (inr (inr is)) = ap (λ k. rest_of (valued depth (token_of k ∷ ts))) is ∙ ap rest_of (valued_null depth ts)

nothing_begins : (depth : ℕ) (token : Spelt) (ts : List Token)
    → (token ≡ Spelt.EndObject) ⊎ ((token ≡ Spelt.EndArray) ⊎ (((text : _) × (token ≡ Spelt.Key text)) ⊎ (token ≡ Spelt.Bad)))
    → rest_of (valued depth (token_of token ∷ ts)) ≡ None
nothing_begins depth token ts (inl is) = ap (λ k. rest_of (valued depth (token_of k ∷ ts))) is ∙ ap rest_of (valued_end_object depth ts)
nothing_begins depth token ts (inr (inl is)) = ap (λ k. rest_of (valued depth (token_of k ∷ ts))) is ∙ ap rest_of (valued_end_array depth ts)
nothing_begins depth token ts (inr (inr (inl (text, is)))) = ap (λ k. rest_of (valued depth (token_of k ∷ ts))) is ∙ ap rest_of (valued_key depth text.now ts)
nothing_begins depth token ts (inr (inr (inr is))) = ap (λ k. rest_of (valued depth (token_of k ∷ ts))) is ∙ ap rest_of (valued_bad depth ts)

number_passed : (number : Option Num) (ts : List Token) (whole : Option ℕ) → Some whole ≡ option_map as_u64 number
    → rest_of (option_map (λ d. (d, ts)) (option_map Data.number number)) ≡ Some ts
number_passed None ts whole is = absurd (none-some _ (sym is))
number_passed (Some n) ts whole is = refl

number_refused : (number : Option Num) (ts : List Token) → None ≡ option_map as_u64 number
    → rest_of (option_map (λ d. (d, ts)) (option_map Data.number number)) ≡ None
number_refused None ts is = refl
number_refused (Some n) ts is = absurd (none-some _ is)

pub skip_rest-returns-in-String : goal.skip_rest-returns-in-String
skip_rest-returns-in-String t c = scalar_passed c.args.depth c.args.token c.args.reader.now c.in-String.is

pub skip_rest-returns-in-Some : goal.skip_rest-returns-in-Some
skip_rest-returns-in-Some t c =
    ap (λ k. rest_of (valued c.args.depth (token_of k ∷ c.args.reader.now))) c.in-Number.is
    ∙ ap rest_of (valued_number c.args.depth c.in-Number.text.now c.args.reader.now)
    ∙ number_passed (number_of c.in-Number.text.now) c.args.reader.now c.in-Some.field-0 (sym c.in-Some.is ∙ c.whole_number.ensures)

pub skip_rest-returns-in-None : goal.skip_rest-returns-in-None
skip_rest-returns-in-None t c =
    ap (λ k. rest_of (valued c.args.depth (token_of k ∷ c.args.reader.now))) c.in-Number.is
    ∙ ap rest_of (valued_number c.args.depth c.in-Number.text.now c.args.reader.now)
    ∙ number_refused (number_of c.in-Number.text.now) c.args.reader.now (sym c.in-None.is ∙ c.whole_number.ensures)

pub skip_rest-returns-in-EndObject : goal.skip_rest-returns-in-EndObject
skip_rest-returns-in-EndObject t c = nothing_begins c.args.depth c.args.token c.args.reader.now c.in-EndObject.is

pub skip_rest-returns-else-depth-eq0 : goal.skip_rest-returns-else-depth-eq0
skip_rest-returns-else-depth-eq0 t c =
    let left : rest_of (valued c.args.depth (token_of c.args.token ∷ c.args.reader.now)) ≡ rest_of (itemed (c.args.depth - 1) (length c.args.reader.now) c.args.reader.now) =
    ap (λ k. rest_of (valued c.args.depth (token_of k ∷ c.args.reader.now))) c.in-BeginArray.is
    ∙ ap rest_of (valued_array c.args.depth c.args.reader.now (omega arith)) ∙ rest-parse_map array _ in
    subst (λ o. MatchResult c.skip_items.result (λ _. o ≡ Some c.skip_items.new.reader) (λ _. o ≡ None)) (sym left) c.skip_items.ensures

pub skip_rest-returns-else-depth-eq0-2 : goal.skip_rest-returns-else-depth-eq0-2
skip_rest-returns-else-depth-eq0-2 t c =
    let left : rest_of (valued c.args.depth (token_of c.args.token ∷ c.args.reader.now)) ≡ rest_of (membered (c.args.depth - 1) no_members (length c.args.reader.now) c.args.reader.now) =
    ap (λ k. rest_of (valued c.args.depth (token_of k ∷ c.args.reader.now))) c.in-BeginObject.is
    ∙ ap rest_of (valued_object c.args.depth c.args.reader.now (omega arith)) ∙ rest-parse_map object _ in
    subst (λ o. MatchResult c.skip_members.result (λ _. o ≡ Some c.skip_members.new.reader) (λ _. o ≡ None)) (sym left) c.skip_members.ensures
