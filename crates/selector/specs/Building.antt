-- What building the patterns of matchers answers.
use Rattle.std.specs.Prelude.{◌≢◌, ◌<◌, ◌≤◌, ℕ, Bool, List, length}
use Rattle.selector.specs.Limits.{most_matchers}
use Rattle.selector.specs.Matching.{Matching}
use Rattle.selector.specs.Patterns.{IsWellFormed, IsBadSyntax, IsTooLarge}
use Rattle.selector.specs.Read.{AreShort, OfPattern, ForPatterns, IsFirstRefused}
use Rattle.selector.specs.declared.operator.Operator.{Operator}
use Rattle.selector.specs.declared.pattern.PatternFault.{PatternFault}
use Rattle.selector.specs.declared.pattern.PatternFault.TheVariants as pattern
use Rattle.selector.specs.declared.fault.SelectorFault.{SelectorFault}
use Rattle.selector.specs.declared.fault.SelectorFault.TheVariants.{Kind, Syntax, TooMany, Pattern, PatternRefused}

-- no matcher has this pattern
abbrev pub IsNew : List Matching → List ℕ → Type 0
IsNew matchers pattern = ForPatterns (λ other. other ≢ pattern) matchers

-- Why the pattern of a matcher isn't built, where these stand before it. One that they have isn't told as too large.
abbrev pub IsUnbuilt : List Matching → Operator → List ℕ → PatternFault → Type 0
IsUnbuilt before operator asked pattern.Syntax = OfPattern IsBadSyntax operator asked
IsUnbuilt before operator asked pattern.TooLarge = OfPattern (λ p. IsWellFormed p × IsNew before p) operator asked

-- the fault of matchers that are written: too many, or the first pattern that isn't built
abbrev pub IsBuildFault : (List ℕ → Bool) → List Matching → SelectorFault → Type 0
IsBuildFault built matchers Kind = ⊥
IsBuildFault built matchers (Syntax at) = ⊥
IsBuildFault built matchers TooMany = most_matchers < length matchers
IsBuildFault built matchers (Pattern i) = (length matchers ≤ most_matchers) × IsFirstRefused built matchers IsBadSyntax i × AreShort matchers
IsBuildFault built matchers (PatternRefused i) = (length matchers ≤ most_matchers) × IsFirstRefused built matchers (IsTooLarge built) i × AreShort matchers
