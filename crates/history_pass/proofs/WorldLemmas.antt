-- A spine and its passes, call after call.
use Rattle.std.proofs.Common.{◌≡◌, ℕ, zero, suc, List, [], ◌∷◌, ◌++◌, ◌⊎◌, inl, inr, ⊎_elim, set, Some, refl, sym, ◌∙◌, subst}
use Rattle.std.specs.Prelude.{slice_get}
use Rattle.std.proofs.lemmas.Option.{none-some, same_Some}
use Rattle.history_pass.specs.declared.view.Mark.{Mark}
use Rattle.history_pass.specs.Marks.{mark, grown, Below}
use Rattle.history_pass.specs.Worlds.{World, world, Call, extend, tell, new_pass, meet, IsStep, AreBehind, Grows, RunsGrow}
use Rattle.history_pass.proofs.MarkLemmas.{get_longer, below_self, below_trans, below_grown, below_numbers}

-- ---- places of lists

get_snoc : {A : Type 0} (xs : List A) (y : A) (at : ℕ) (z : A) → slice_get (xs ++ y ∷ []) at ≡ Some z → (slice_get xs at ≡ Some z) ⊎ (y ≡ z)
get_snoc [] y zero z is = inr (same_Some y z is)
get_snoc [] y (suc at) z is = absurd (none-some z is)
get_snoc (x ∷ xs) y zero z is = inl is
get_snoc (x ∷ xs) y (suc at) z is = get_snoc xs y at z is

get_set : {A : Type 0} (xs : List A) (place : ℕ) (y : A) (at : ℕ) (z : A) → slice_get (set xs place y) at ≡ Some z → (slice_get xs at ≡ Some z) ⊎ (y ≡ z)
get_set [] place y at z is = inl is
get_set (x ∷ xs) zero y zero z is = inr (same_Some y z is)
get_set (x ∷ xs) zero y (suc at) z is = inl is
get_set (x ∷ xs) (suc place) y zero z is = inl is
get_set (x ∷ xs) (suc place) y (suc at) z is = get_set xs place y at z is

-- where a mark rises, each of the list's has at least what it had
set_rises : (marks : List Mark) (place : ℕ) (had has : Mark) → slice_get marks place ≡ Some had → Below had has
    → (at : ℕ) (old : Mark) → slice_get marks at ≡ Some old → (new : Mark) × (slice_get (set marks place has) at ≡ Some new) × Below old new
set_rises [] place had has there rose at old is = absurd (none-some had there)
set_rises (m ∷ marks) zero had has there rose zero old is = (has, refl, subst (λ (x : Mark). Below x has) (sym (same_Some m had there) ∙ same_Some m old is) rose)
set_rises (m ∷ marks) zero had has there rose (suc at) old is = (old, is, below_self old)
set_rises (m ∷ marks) (suc place) had has there rose zero old is = (old, is, below_self old)
set_rises (m ∷ marks) (suc place) had has there rose (suc at) old is = set_rises marks place had has there rose at old is

-- ---- a call

abbrev Keeps : World → World → Type 0
Keeps old new = AreBehind new × Grows old new

spine_rises : (old : World) (new : Mark) → AreBehind old → Below old.spine new → Keeps old (world new old.passes)
spine_rises old new behind rose = (
  λ place has is. below_trans has old.spine new (behind place has is) rose,
  record { spine = rose; passes = λ place had is. (had, is, below_self had) },
)

pass_comes : (old : World) → AreBehind old → Keeps old (world old.spine (old.passes ++ old.spine ∷ []))
pass_comes old behind = (
  λ place has is. ⊎_elim
      (λ (was : slice_get old.passes place ≡ Some has). behind place has was)
      (λ (same : old.spine ≡ has). subst (λ (m : Mark). Below m old.spine) same (below_self old.spine))
      (get_snoc old.passes old.spine place has is),
  record { spine = below_self old.spine; passes = λ place had is. (had, get_longer old.passes (old.spine ∷ []) place had is, below_self had) },
)

pass_rises : (old : World) (place : ℕ) (had has : Mark) → AreBehind old → slice_get old.passes place ≡ Some had → Below had old.spine → has ≡ old.spine
    → Keeps old (world old.spine (set old.passes place has))
pass_rises old place had has behind there below is = (
  λ at m e. ⊎_elim
      (λ (was : slice_get old.passes at ≡ Some m). behind at m was)
      (λ (same : has ≡ m). subst (λ (x : Mark). Below x old.spine) (sym is ∙ same) (below_self old.spine))
      (get_set old.passes place has at m e),
  record {
    spine = below_self old.spine;
    passes = set_rises old.passes place had has there (subst (λ (x : Mark). Below had x) (sym is) below);
  },
)

step_keeps : (call : Call) (old new : World) → AreBehind old → IsStep call old new → Keeps old new
step_keeps (extend more) old new behind is = subst (λ (w : World). Keeps old w) (sym is) (spine_rises old (grown old.spine more) behind (below_grown old.spine more))
step_keeps (tell faults full) old new behind is =
    subst (λ (w : World). Keeps old w) (sym is.2) (spine_rises old (mark old.spine.list faults full) behind (below_numbers old.spine faults full is.0 is.1))
step_keeps new_pass old new behind is = subst (λ (w : World). Keeps old w) (sym is) (pass_comes old behind)
step_keeps (meet place) old new behind (had, has, there, meets, is) =
    subst (λ (w : World). Keeps old w) (sym is) (pass_rises old place had has behind there meets.0 meets.1)

-- ---- a run

grows_self : (w : World) → Grows w w
grows_self w = record { spine = below_self w.spine; passes = λ place had is. (had, is, below_self had) }

grows_trans : (a b c : World) → Grows a b → Grows b c → Grows a c
grows_trans a b c p q = record {
  spine = below_trans a.spine b.spine c.spine p.spine q.spine;
  passes = λ place had is.
      let mid = p.passes place had is in
      let end = q.passes place mid.0 mid.1 in
      (end.0, end.1, below_trans had mid.0 end.0 mid.2 end.2);
}

pub runs_grow : RunsGrow
runs_grow [] old new behind is = subst (λ (w : World). Keeps old w) (sym is) (behind, grows_self old)
runs_grow (call ∷ later) old new behind (next, step, run) =
    let one = step_keeps call old next behind step in
    let rest = runs_grow later next new one.0 run in
    (rest.0, grows_trans old next new one.1 rest.1)
