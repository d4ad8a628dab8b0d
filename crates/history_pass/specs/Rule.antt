-- The rule of the table, which every step keeps.
use Rattle.std.specs.Prelude.{ℕ, ◌≡◌, List, [], ◌∷◌, length, true}
use mathlib.Core.Option.{some}
use lib.ListN.{get_elem?}
use Rattle.history_pass.specs.declared.view.Mark.{Mark}
use Rattle.history_pass.specs.declared.view.View.{View}
use Rattle.history_pass.specs.Marks.{Below}

-- the length of the list, and the two numbers
abbrev pub words_of : Mark → List ℕ
words_of m = length m.list ∷ m.faults ∷ m.full ∷ []

-- exactly one seat's view is the spine's: it is the one at this number, and it has this mark
pub record IsOneSpine (views : List View) (seat : ℕ) (m : Mark) : Type 0 where
  pub view : View
  pub stands : get_elem? views seat ≡ some view
  pub spine : view.is_spine ≡ true
  pub has : view.has ≡ m
  pub no_other : (other : ℕ) (v : View) → get_elem? views other ≡ some v → v.is_spine ≡ true → other ≡ seat

-- what each seat has is below this mark, and so is what a join left it
abbrev pub AreBelow : List View → Mark → Type 0
AreBelow views m = (seat : ℕ) (v : View) → get_elem? views seat ≡ some v → Below v.has m × Below v.older m

-- exactly one seat's view is the spine's; the words are its length and its two numbers; and no view, nor what a
-- join left of one, is above it
pub record Kept (words : List ℕ) (views : List View) : Type 0 where
  pub seat : ℕ
  pub spine : Mark
  pub one : IsOneSpine views seat spine
  pub words_are : words ≡ words_of spine
  pub below : AreBelow views spine
