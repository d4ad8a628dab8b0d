-- The views of all seats, where that of one changes.
use Rattle.std.proofs.Common.{◌≡◌, ◌≢◌, ℕ, zero, suc, List, [], ◌∷◌, ◌++◌, set, true, false, refl, sym, ap, ◌∙◌, subst, ⊎_elim}
use Rattle.std.proofs.lemmas.Bool.{false≢true}
use mathlib.Core.Option.{some, some-ne-none}
use lib.ListN.{get_elem?}
use Rattle.atomic_table.proofs.Lists.{at_set, at_snoc, at_longer, set_else}
use Rattle.history_pass.specs.declared.view.Mark.{Mark}
use Rattle.history_pass.specs.declared.view.View.{View}
use Rattle.history_pass.specs.Marks.{Below}
use Rattle.history_pass.specs.Rule.{IsOneSpine, AreBelow}
use Rattle.history_pass.proofs.MarkLemmas.{below_trans}

-- a place that has an element has the one that is put there
pub set_there : {A : Type 0} (l : List A) (i : ℕ) (a b : A) → get_elem? l i ≡ some a → get_elem? (set l i b) i ≡ some b
set_there [] i a b e = absurd (some-ne-none a (sym e))
set_there (x ∷ xs) zero a b e = refl
set_there (x ∷ xs) (suc i) a b e = set_there xs i a b e

-- what holds of one seat's new view and of all others' holds of all
pub each_set : (P : ℕ → View → Type 0) (views : List View) (id : ℕ) (w : View) → ((j : ℕ) (u : View) → j ≢ id → get_elem? views j ≡ some u → P j u) → P id w → (j : ℕ) (u : View) → get_elem? (set views id w) j ≡ some u → P j u
each_set P views id w others mine j u e =
    ⊎_elim
    (λ (x : (j ≡ id) × (w ≡ u)). subst (λ (y : ℕ × View). P y.0 y.1) (λ i. (sym x.0 i, x.1 i)) mine)
    (λ (x : (j ≢ id) × (get_elem? views j ≡ some u)). others j u x.0 x.1)
    (at_set views id j w u e)

-- the one spine's seat has a new view, which is the spine's
pub one_rises : (views : List View) (seat id : ℕ) (old new : Mark) (v w : View) → IsOneSpine views seat old → get_elem? views id ≡ some v → v.is_spine ≡ true → w.is_spine ≡ true → w.has ≡ new → IsOneSpine (set views id w) id new
one_rises views seat id old new v w one at was is has = record {
  view = w;
  stands = set_there views id v w at;
  spine = is;
  has = has;
  no_other = each_set (λ j u. u.is_spine ≡ true → j ≡ id) views id w (λ j u apart e s. one.no_other j u e s ∙ sym (one.no_other id v at was)) (λ _. refl);
}

-- the seat of another has a new view, which isn't the spine's
pub one_stays : (views : List View) (seat other : ℕ) (m : Mark) (w : View) → IsOneSpine views seat m → other ≢ seat → w.is_spine ≡ false → IsOneSpine (set views other w) seat m
one_stays views seat other m w one apart is = record {
  view = one.view;
  stands = set_else views other seat w (λ e. apart (sym e)) ∙ one.stands;
  spine = one.spine;
  has = one.has;
  no_other = each_set (λ j u. u.is_spine ≡ true → j ≡ seat) views other w (λ j u _ e s. one.no_other j u e s) (λ s. absurd (false≢true (sym is ∙ s)));
}

-- a new seat comes, which isn't the spine's
pub one_joined : (views : List View) (seat : ℕ) (m : Mark) (w : View) → IsOneSpine views seat m → w.is_spine ≡ false → IsOneSpine (views ++ w ∷ []) seat m
one_joined views seat m w one is = record {
  view = one.view;
  stands = at_longer views (w ∷ []) seat one.view one.stands;
  spine = one.spine;
  has = one.has;
  no_other = λ j u e s. ⊎_elim (λ (was : get_elem? views j ≡ some u). one.no_other j u was s) (λ (same : w ≡ u). absurd (false≢true (sym is ∙ (ap (λ (x : View). x.is_spine) same ∙ s)))) (at_snoc views w u j e);
}

-- all are below a mark that has risen
pub below_rises : (views : List View) (old new : Mark) → AreBelow views old → Below old new → AreBelow views new
below_rises views old new all rose j u e = let b = all j u e in (below_trans u.has old new b.0 rose, below_trans u.older old new b.1 rose)

pub below_set : (views : List View) (id : ℕ) (m : Mark) (w : View) → AreBelow views m → Below w.has m → Below w.older m → AreBelow (set views id w) m
below_set views id m w all has older = each_set (λ j u. Below u.has m × Below u.older m) views id w (λ j u _ e. all j u e) (has, older)

pub below_joined : (views : List View) (m : Mark) (w : View) → AreBelow views m → Below w.has m → Below w.older m → AreBelow (views ++ w ∷ []) m
below_joined views m w all has older j u e = ⊎_elim (λ (was : get_elem? views j ≡ some u). all j u was) (λ (same : w ≡ u). subst (λ (x : View). Below x.has m × Below x.older m) same (has, older)) (at_snoc views w u j e)
