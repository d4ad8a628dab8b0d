-- Prefixes of lists, and marks that are below others.
use Rattle.std.proofs.Common.{◌≡◌, ℕ, zero, suc, ◌<◌, ◌≤◌, List, [], ◌∷◌, ◌++◌, length, drop, get_or, Some, refl, ap, sym, ◌∙◌, subst, arith, append_assoc, append-nil, length-append}
use Rattle.std.specs.Prelude.{slice_get}
use Rattle.std.proofs.lemmas.Option.{none-some}
use Rattle.std.proofs.lemmas.List.{get_or_append_left}
use mathlib.Core.List.{IsPrefix}
use Rattle.profile_model.specs.declared.push.Push.{Push}
use Rattle.history_pass.specs.declared.view.Mark.{Mark}
use Rattle.history_pass.specs.Marks.{mark, nothing, grown, Below}

pub prefix_self : {A : Type 0} (xs : List A) → IsPrefix xs xs
prefix_self xs = ([], append-nil xs)

pub prefix_trans : {A : Type 0} (xs ys zs : List A) → IsPrefix xs ys → IsPrefix ys zs → IsPrefix xs zs
prefix_trans xs ys zs p q = (p.0 ++ q.0, sym (append_assoc xs p.0 q.0) ∙ (ap (λ l. l ++ q.0) p.1 ∙ q.1))

-- it is no longer than the whole
pub prefix_length : {A : Type 0} (xs zs : List A) → IsPrefix xs zs → length xs ≤ length zs
prefix_length xs zs p = omega (arith, length-append xs p.0, ap length p.1)

pub get_longer : {A : Type 0} (xs more : List A) (at : ℕ) (x : A) → slice_get xs at ≡ Some x → slice_get (xs ++ more) at ≡ Some x
get_longer [] more at x is = absurd (none-some x is)
get_longer (y ∷ xs) more zero x is = is
get_longer (y ∷ xs) more (suc at) x is = get_longer xs more at x is

-- what it has at a place, the whole has there
pub prefix_get : {A : Type 0} (xs zs : List A) (at : ℕ) (x : A) → IsPrefix xs zs → slice_get xs at ≡ Some x → slice_get zs at ≡ Some x
prefix_get {A} xs zs at x p is = subst (λ (l : List A). slice_get l at ≡ Some x) p.1 (get_longer xs p.0 at x is)

pub prefix_get_or : {A : Type 0} (xs zs : List A) (at : ℕ) (default : A) → IsPrefix xs zs → at < length xs → get_or zs at default ≡ get_or xs at default
prefix_get_or {A} xs zs at default p short = subst (λ (l : List A). get_or l at default ≡ get_or xs at default) p.1 (get_or_append_left xs p.0 default at short)

begins_longer : {A : Type 0} (xs more ys rest : List A) → xs ++ more ≡ ys ++ rest → length xs ≤ length ys → IsPrefix xs ys
begins_longer [] more ys rest same short = (ys, refl)
begins_longer (x ∷ xs) more [] rest same short = absurd (omega (arith, short))
begins_longer {A} (x ∷ xs) more (y ∷ ys) rest same short =
    let head : x ≡ y = ap (λ (l : List A). get_or l 0 x) same in
    let tail = begins_longer xs more ys rest (ap (λ (l : List A). drop 1 l) same) (omega (arith, short)) in
    (tail.0, λ i. head i ∷ tail.1 i)

-- of two prefixes of a list, the shorter is a prefix of the longer
pub prefix_of_longer : {A : Type 0} (xs ys zs : List A) → IsPrefix xs zs → IsPrefix ys zs → length xs ≤ length ys → IsPrefix xs ys
prefix_of_longer xs ys zs p q short = begins_longer xs p.0 ys q.0 (p.1 ∙ sym q.1) short

pub below_length : (old new : Mark) → Below old new → length old.list ≤ length new.list
below_length old new below = prefix_length old.list new.list below.list

pub below_self : (m : Mark) → Below m m
below_self m = record { list = prefix_self m.list; faults = omega arith; full = omega arith }

pub below_trans : (a b c : Mark) → Below a b → Below b c → Below a c
below_trans a b c p q = record { list = prefix_trans a.list b.list c.list p.list q.list; faults = omega (arith, p.faults, q.faults); full = omega (arith, p.full, q.full) }

pub below_nothing : (m : Mark) → Below nothing m
below_nothing m = record { list = (m.list, refl); faults = omega arith; full = omega arith }

pub below_grown : (m : Mark) (more : List Push) → Below m (grown m more)
below_grown m more = record { list = (more, refl); faults = omega arith; full = omega arith }

pub below_numbers : (m : Mark) (faults full : ℕ) → m.faults ≤ faults → m.full ≤ full → Below m (mark m.list faults full)
below_numbers m faults full p q = record { list = prefix_self m.list; faults = p; full = q }
