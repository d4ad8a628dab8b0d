-- What a stored test asks of a value, and what it said of some.
use Rattle.std.specs.Prelude.{◌≡◌, ℕ, Bool, List, Some}
use Rattle.std.specs.BTreeMap.{BTreeMap, get}
use Rattle.std.specs.String.{string_bytes}
use Rattle.std.specs.Arc.{arc_value}
use Rattle.profile_model.specs.Stacks.{name_cmp}
use Rattle.selector.specs.Matching.{passes}
use Rattle.selector.specs.declared.operator.Operator.{Operator}
use Rattle.selector.specs.declared.operator.Operator.TheVariants as asked
use Rattle.selector.specs.declared.matchers.Test.{Test}
use Rattle.selector.specs.declared.matchers.Test.TheVariants.{Equal, NotEqual, Finds, FindsNot}

abbrev pub operator_of : Test → Operator
operator_of (Equal text) = asked.Equal
operator_of (NotEqual text) = asked.NotEqual
operator_of (Finds pattern) = asked.Finds
operator_of (FindsNot pattern) = asked.FindsNot

abbrev pub asked_of : Test → List ℕ
asked_of (Equal text) = string_bytes text
asked_of (NotEqual text) = string_bytes text
asked_of (Finds pattern) = string_bytes (arc_value pattern).text
asked_of (FindsNot pattern) = string_bytes (arc_value pattern).text

-- each verdict is what the test says of its value
abbrev pub AreVerdicts : Test → BTreeMap (List ℕ) Bool → Type 0
AreVerdicts test verdicts =
    (value : List ℕ) (verdict : Bool) → get name_cmp verdicts value ≡ Some verdict → verdict ≡ passes (operator_of test) (asked_of test) value
