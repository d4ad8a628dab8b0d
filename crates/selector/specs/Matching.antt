-- A selector as a list of matchers, and whether labels match it. After the label matchers of Prometheus.
use Rattle.std.specs.Prelude.{ℕ, Bool, not, List, [], codes, nat_eq}
use Rattle.std.specs.List.{list_all}
use Rattle.std.specs.Option.{unwrap_or}
use Rattle.std.specs.Cmp.Lexicographic.{pointwise}
use Rattle.std.specs.BTreeMap.{insert_entry}
use Rattle.profile_model.specs.LabelSets.{Label, label_of}
use Rattle.profile_model.specs.Stacks.{name_cmp}
use Rattle.profile_model.specs.TypeTexts.{type_text}
use Rattle.profile_model.specs.declared.kind.ProfileType.{ProfileType}
use Rattle.selector.specs.Patterns.{finds}
use Rattle.selector.specs.declared.operator.Operator.{Operator}
use Rattle.selector.specs.declared.operator.Operator.TheVariants.{Equal, NotEqual, Finds, FindsNot}

-- a matcher: the name of a label, and what is asked of the label's value
pub record Matching : Type 0 where
  pub name : List ℕ
  pub operator : Operator
  pub value : List ℕ

-- Whether a label's value is what the operator asks for: these bytes, others, a text in which
-- `\A(?:P)\z` is found, or one in which it isn't. P is then the matcher's own text.
abbrev pub passes : Operator → List ℕ → List ℕ → Bool
passes Equal asked value = pointwise nat_eq value asked
passes NotEqual asked value = not (pointwise nat_eq value asked)
passes Finds asked value = finds asked value
passes FindsNot asked value = not (finds asked value)

-- The labels that matchers see: the profile's own, with the type's name and the type's text in place of
-- any labels of these two names.
abbrev pub seen_labels : List Label → ProfileType → List Label
seen_labels labels kind =
    insert_entry name_cmp (insert_entry name_cmp labels (codes "__name__") kind.name) (codes "__profile_type__") (type_text kind)

-- the value of a label; an absent one is the empty text
abbrev pub value_of : List Label → List ℕ → List ℕ
value_of labels name = unwrap_or (label_of labels name) []

abbrev pub holds : List Label → Matching → Bool
holds labels matcher = passes matcher.operator matcher.value (value_of labels matcher.name)

-- every matcher holds
abbrev pub matches : List Matching → List Label → ProfileType → Bool
matches selector labels kind = list_all (holds (seen_labels labels kind)) selector
