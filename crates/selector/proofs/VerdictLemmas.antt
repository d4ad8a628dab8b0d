-- What a test said of values.
use Rattle.std.proofs.Common.{◌≡◌, ℕ, Bool, true, false, cond, List, refl, sym, ap, subst, ◌∙◌, Some, Result, Ok, Err}
use Rattle.std.specs.Prelude.{OnOk, OnErr}
use Rattle.std.specs.BTreeMap.{BTreeMap, IsUnchanged, Updates, get, is_at}
use Rattle.std.specs.Map.{lookup}
use Rattle.std.specs.Cmp.Lexicographic.{bytes_decides, texts_ties}
use Rattle.profile_model.specs.Stacks.{name_cmp}
use Rattle.selector.specs.Matching.{passes}
use Rattle.selector.specs.Tests.{AreVerdicts, operator_of, asked_of}
use Rattle.selector.specs.declared.matchers.Test.{Test}

-- one value more
verdict_more : (test : Test) (old new : BTreeMap (List ℕ) Bool) (value : List ℕ) (verdict : Bool) → AreVerdicts test old
    → verdict ≡ passes (operator_of test) (asked_of test) value
    → ((q : List ℕ) → get name_cmp new q ≡ cond (is_at (name_cmp value) q) (Some verdict) (get name_cmp old q)) → AreVerdicts test new
verdict_more test old new value verdict right said updates q found has = by (is_at (name_cmp value) q) refl (sym (updates q) ∙ has)
  where
    by : (here : Bool) → is_at (name_cmp value) q ≡ here → cond here (Some verdict) (get name_cmp old q) ≡ Some found
        → found ≡ passes (operator_of test) (asked_of test) q
    by true is same =
        let one : verdict ≡ found = cc in
        sym one ∙ subst (λ other. verdict ≡ passes (operator_of test) (asked_of test) other) ((bytes_decides value q).0 (texts_ties value q ∙ is)) said
    by false is same = right q found same

-- one value more, unless memory ran out
pub verdict_put : {A E : Type 0} (put : Result A E) (test : Test) (old new : BTreeMap (List ℕ) Bool) (value : List ℕ) (verdict : Bool) → AreVerdicts test old
    → verdict ≡ passes (operator_of test) (asked_of test) value → OnOk put (Updates name_cmp old new value (Some verdict)) → OnErr put (IsUnchanged old new)
    → AreVerdicts test new
verdict_put (Ok before) test old new value verdict right said updates same = verdict_more test old new value verdict right said updates.0
verdict_put (Err refused) test old new value verdict right said updates same =
    λ q found has. right q found (ap (lookup (is_at (name_cmp q))) (sym same) ∙ has)
