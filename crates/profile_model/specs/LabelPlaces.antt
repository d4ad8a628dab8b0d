-- Where a label stands among others, and what pairs come to when each is put in its place.
use Rattle.std.specs.Prelude.{◌≡◌, ℕ, ◌≤◌, List, length, take, fold, slice_get, Result, Ok, Err, IfSome, IsSomeAnd}
use Rattle.std.specs.List.{All}
use Rattle.std.specs.declared.cmp.Ordering.TheVariants.{Less, Equal, Greater}
use Rattle.profile_model.specs.Stacks.{name_cmp}
use Rattle.profile_model.specs.LabelSets.{Label, with_label}

-- names before the place are lower; at it stands the name, or else a greater one or nothing
abbrev pub IsPlace : List Label → List ℕ → Result ℕ ℕ → Type 0
IsPlace labels name (Ok at) =
    All (λ label. name_cmp name label.0 ≡ Greater) (take at labels) × IsSomeAnd (slice_get labels at) (λ label. name_cmp name label.0 ≡ Equal)
IsPlace labels name (Err at) =
    All (λ label. name_cmp name label.0 ≡ Greater) (take at labels) × (at ≤ length labels) × IfSome (slice_get labels at) (λ label. name_cmp name label.0 ≡ Less)

-- labels with pairs put in one after another
abbrev pub put_all : List Label → List Label → List Label
put_all labels pairs = fold (λ sofar pair. with_label sofar pair.0 pair.1) labels pairs
