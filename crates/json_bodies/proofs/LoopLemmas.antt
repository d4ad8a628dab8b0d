-- Loops over the members of an object and over the items of an array.
use Rattle.std.proofs.Common.{◌≡◌, ℕ, ◌-◌, ◌<◌, ◌≤◌, List, [], ◌∷◌, ◌++◌, length, Option, Some, None, refl, ap, ◌∙◌, arith}
use Rattle.json.specs.Token.{Token}
use Rattle.json.specs.Json.{parse_map, after_end_array, read_key}
use Rattle.json.proofs.Grammar.{read_key-shorter}
use Rattle.serde_json.specs.Data.{Data, Items, no_items, item, Members, no_members, put}
use Rattle.serde_json.specs.View.{items_of}
use Rattle.json_bodies.specs.Walks.{valued, itemed, membered, Reads, ReadsItems, ReadsMembers}
use Rattle.json_bodies.proofs.TurnLemmas.{one_item, not_one_item, items_over, one_member, not_one_member, no_key, members_over}
use Rattle.json_bodies.proofs.WalkLemmas.{valued_shorter}

-- some members are read, which P holds of
pub record MembersSoFar (P : Members → Type 0) (depth : ℕ) (all left : List Token) : Type 0 where
  pub found : Members
  pub turns : ℕ
  pub enough : length left ≤ turns
  pub same : membered depth no_members (length all) all ≡ membered depth found turns left
  pub said : P found

pub no_members_so_far : (P : Members → Type 0) (depth : ℕ) (ts : List Token) → P no_members → MembersSoFar P depth ts ts
no_members_so_far P depth ts said = record { found = no_members; turns = length ts; enough = omega arith; same = refl; said = said }

pub member_shorter : (P : Data → Type 0) (depth : ℕ) (k : List ℕ) (ts s r : List Token) → read_key ts ≡ Some (Some k, s) → Reads P depth s r
    → length r < length ts
member_shorter P depth k ts s r key reads =
    let less = read_key-shorter ts (Some k) s key in
    let more = valued_shorter depth s r reads.value reads.read in
    omega (arith, less, more)

pub one_member_more : (P Q : Members → Type 0) (depth : ℕ) (k : List ℕ) (all ts s r : List Token) → MembersSoFar P depth all ts
    → read_key ts ≡ Some (Some k, s) → Reads (λ d. (found : Members) → P found → Q (put k d found)) depth s r → MembersSoFar Q depth all r
one_member_more P Q depth k all ts s r so_far key reads =
    let less = member_shorter _ depth k ts s r key reads in
    record {
      found = put k reads.value so_far.found;
      turns = so_far.turns - 1;
      enough = omega (arith, less, so_far.enough);
      same = so_far.same ∙ one_member depth so_far.found so_far.turns k ts s r reads.value (omega (arith, less, so_far.enough)) key reads.read;
      said = reads.said so_far.found so_far.said;
    }

pub no_key_follows : (P : Members → Type 0) (depth : ℕ) (all ts : List Token) → MembersSoFar P depth all ts → read_key ts ≡ None
    → membered depth no_members (length all) all ≡ None
no_key_follows P depth all ts so_far e = so_far.same ∙ no_key depth so_far.found so_far.turns ts e

pub no_value_follows : (P : Members → Type 0) (depth : ℕ) (k : List ℕ) (all ts s : List Token) → MembersSoFar P depth all ts
    → read_key ts ≡ Some (Some k, s) → valued depth s ≡ None → membered depth no_members (length all) all ≡ None
no_value_follows P depth k all ts s so_far key e = so_far.same ∙ not_one_member depth so_far.found so_far.turns k ts s key e

pub all_members : (P : Members → Type 0) (depth : ℕ) (all ts r : List Token) → MembersSoFar P depth all ts → read_key ts ≡ Some (None, r)
    → ReadsMembers P depth all r
all_members P depth all ts r so_far key =
    record { members = so_far.found; read = so_far.same ∙ members_over depth so_far.found so_far.turns ts r so_far.enough key; said = so_far.said }

-- ---- items

abbrev pub after_values : List Data → Items → Items
after_values [] rest = rest
after_values (d ∷ ds) rest = item d (after_values ds rest)

values_end : (ds : List Data) → after_values ds no_items ≡ items_of ds
values_end [] = refl
values_end (d ∷ ds) = ap (item d) (values_end ds)

values_pushed : (ds : List Data) (d : Data) (rest : Items) → after_values ds (item d rest) ≡ after_values (ds ++ d ∷ []) rest
values_pushed [] d rest = refl
values_pushed (e ∷ ds) d rest = ap (item e) (values_pushed ds d rest)

read_pushed : (ds : List Data) (d : Data) (read : Option (Items × List Token))
    → parse_map (after_values ds) (parse_map (item d) read) ≡ parse_map (after_values (ds ++ d ∷ [])) read
read_pushed ds d None = refl
read_pushed ds d (Some p) = ap (λ js. Some (js, p.1)) (values_pushed ds d p.0)

read_whole : (read : Option (Items × List Token)) → read ≡ parse_map (λ a. a) read
read_whole None = refl
read_whole (Some p) = refl

-- some items are read, which P holds of
pub record ItemsSoFar (P : List Data → Type 0) (depth : ℕ) (all left : List Token) : Type 0 where
  pub values : List Data
  pub turns : ℕ
  pub enough : length left ≤ turns
  pub same : itemed depth (length all) all ≡ parse_map (after_values values) (itemed depth turns left)
  pub said : P values

pub no_items_so_far : (P : List Data → Type 0) (depth : ℕ) (ts : List Token) → P [] → ItemsSoFar P depth ts ts
no_items_so_far P depth ts said =
    record { values = []; turns = length ts; enough = omega arith; same = read_whole (itemed depth (length ts) ts); said = said }

pub item_shorter : (P : Data → Type 0) (depth : ℕ) (ts r : List Token) → Reads P depth ts r → length r < length ts
item_shorter P depth ts r reads = valued_shorter depth ts r reads.value reads.read

pub one_item_more : (P Q : List Data → Type 0) (depth : ℕ) (all ts r : List Token) → ItemsSoFar P depth all ts → after_end_array ts ≡ None
    → Reads (λ d. (ds : List Data) → P ds → Q (ds ++ d ∷ [])) depth ts r → ItemsSoFar Q depth all r
one_item_more P Q depth all ts r so_far going reads =
    let less = valued_shorter depth ts r reads.value reads.read in
    record {
      values = so_far.values ++ reads.value ∷ [];
      turns = so_far.turns - 1;
      enough = omega (arith, less, so_far.enough);
      same = so_far.same
          ∙ ap (parse_map (after_values so_far.values)) (one_item depth so_far.turns ts r reads.value (omega (arith, less, so_far.enough)) going reads.read)
          ∙ read_pushed so_far.values reads.value (itemed depth (so_far.turns - 1) r);
      said = reads.said so_far.values so_far.said;
    }

pub no_item_follows : (P : List Data → Type 0) (depth : ℕ) (all ts : List Token) → ItemsSoFar P depth all ts → after_end_array ts ≡ None
    → valued depth ts ≡ None → itemed depth (length all) all ≡ None
no_item_follows P depth all ts so_far going e =
    so_far.same ∙ ap (parse_map (after_values so_far.values)) (not_one_item depth so_far.turns ts going e)

pub all_items : (P : List Data → Type 0) (depth : ℕ) (all ts r : List Token) → ItemsSoFar P depth all ts → after_end_array ts ≡ Some r
    → ReadsItems P depth all r
all_items P depth all ts r so_far end =
    record {
      values = so_far.values;
      read = so_far.same ∙ ap (parse_map (after_values so_far.values)) (items_over depth so_far.turns ts r so_far.enough end)
          ∙ ap (λ js. Some (js, r)) (values_end so_far.values);
      said = so_far.said;
    }
