-- The place of a fault in a whole text, and of a pattern's in a selector.
use Rattle.std.specs.Prelude.{ℕ, ◌-◌}
use Rattle.selector.specs.declared.written.ReadFault.{ReadFault}
use Rattle.selector.specs.declared.written.ReadFault.TheVariants as rest
use Rattle.selector.specs.declared.pattern.PatternFault.{PatternFault}
use Rattle.selector.specs.declared.pattern.PatternFault.TheVariants as pattern
use Rattle.selector.specs.declared.fault.SelectorFault.{SelectorFault}
use Rattle.selector.specs.declared.fault.SelectorFault.TheVariants.{Syntax, Pattern, PatternRefused}

-- so many bytes are left from the place on
abbrev pub placed_at : ℕ → ReadFault → SelectorFault
placed_at length (rest.BreaksOff left) = Syntax (length - left)

-- the matcher with this number has the pattern
abbrev pub fault_of_matcher : ℕ → PatternFault → SelectorFault
fault_of_matcher i pattern.Syntax = Pattern i
fault_of_matcher i pattern.TooLarge = PatternRefused i
