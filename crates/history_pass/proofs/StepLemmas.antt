-- Each kind of step keeps the rule.
use Rattle.std.proofs.Common.{◌≡◌, ◌≢◌, ℕ, zero, suc, ◌≤◌, List, [], ◌∷◌, ◌++◌, length, set, true, refl, sym, ap, ◌∙◌, subst, ⊎_elim, arith}
use Rattle.std.specs.Prelude.{slice_index, slice_set}
use mathlib.Core.Option.{some, some-ne-none, some-injective}
use lib.ListN.{get_elem?}
use Rattle.atomic_table.specs.Table.{State, Me, Allows, Splits, Joins}
use Rattle.atomic_table.specs.Table.Act.{keeps}
use Rattle.atomic_table.proofs.Lists.{at_set, set_again}
use Rattle.profile_model.specs.declared.push.Push.{Push}
use Rattle.history_pass.specs.declared.view.Mark.{Mark}
use Rattle.history_pass.specs.declared.view.View.{View}
use Rattle.history_pass.specs.Marks.{mark, nothing, grown, Below}
use Rattle.history_pass.specs.Views.{spine_at, pass_at, extended, with_faults, with_full, with_older, without_older}
use Rattle.history_pass.specs.Rule.{words_of, IsOneSpine, AreBelow, Kept}
use Rattle.history_pass.proofs.MarkLemmas.{below_self, below_nothing, below_grown, below_numbers}
use Rattle.history_pass.proofs.SeatLemmas.{one_rises, one_stays, one_joined, below_rises, below_set, below_joined}

abbrev pub holds : State ℕ View → Type 0
holds table = Kept table.words table.views

-- what the seat of a spine has is what the rule says that it has
has_all : (words : List ℕ) (views : List View) (id : ℕ) (v : View) → (k : Kept words views) → get_elem? views id ≡ some v → v.is_spine ≡ true → v.has ≡ k.spine
has_all words views id v k at is =
    let here = subst (λ (i : ℕ). get_elem? views i ≡ some v) (k.one.no_other id v at is) at in
    ap (λ (x : View). x.has) (some-injective _ _ (sym here ∙ k.one.stands)) ∙ k.one.has

-- a new table
pub begins : Kept (0 ∷ 0 ∷ 0 ∷ []) (spine_at nothing ∷ [])
begins = record { seat = 0; spine = nothing; one = one; words_are = refl; below = below }
  where
    no_other : (j : ℕ) (u : View) → get_elem? (spine_at nothing ∷ []) j ≡ some u → u.is_spine ≡ true → j ≡ 0
    no_other zero u e s = refl
    no_other (suc j) u e s = absurd (some-ne-none u (sym e))

    one : IsOneSpine (spine_at nothing ∷ []) 0 nothing
    one = record { view = spine_at nothing; stands = refl; spine = refl; has = refl; no_other = no_other }

    below : AreBelow (spine_at nothing ∷ []) nothing
    below zero u e = subst (λ (x : View). Below x.has nothing × Below x.older nothing) (some-injective _ _ e) (below_self nothing, below_self nothing)
    below (suc j) u e = absurd (some-ne-none u (sym e))

-- a store by the spine, whose mark rises
stores : (slots id word n : ℕ) (m new : Mark) → Below m new → slice_set (words_of m) word n ≡ words_of new → Allows holds slots id (spine_at m, []) word (λ _. n) (λ _ after. after ≡ (spine_at new, []))
stores slots id word n m new rose words table k homes at range =
    let same = has_all table.words table.views id (spine_at m) k at refl in
    let rose' : Below k.spine new = subst (λ (x : Mark). Below x new) same rose in (
      spine_at new,
      keeps,
      tt,
      record {
        seat = id;
        spine = new;
        one = one_rises table.views k.seat id k.spine new (spine_at m) (spine_at new) k.one at refl refl refl;
        words_are = ap (λ (ws : List ℕ). slice_set ws word n) (k.words_are ∙ ap words_of (sym same)) ∙ words;
        below = below_set table.views id new (spine_at new) (below_rises table.views k.spine new k.below rose') (below_self new) (below_nothing new);
      },
      refl,
    )

pub extends : (slots id n : ℕ) (me : Me ℕ View) (m : Mark) (more : List Push) → me ≡ (spine_at m, []) → n ≡ length (m.list ++ more)
    → Allows holds slots id me 0 (λ _. n) (λ _ after. after ≡ (extended me.0 more, me.1))
extends slots id n me m more is count =
    subst (λ (x : Me ℕ View). Allows holds slots id x 0 (λ _. n) (λ _ after. after ≡ (extended x.0 more, x.1))) (sym is)
    (stores slots id 0 n m (grown m more) (below_grown m more) (ap (λ (k : ℕ). k ∷ m.faults ∷ m.full ∷ []) count))

pub tells_faults : (slots id n : ℕ) (me : Me ℕ View) (m : Mark) → me ≡ (spine_at m, []) → m.faults ≤ n
    → Allows holds slots id me 1 (λ _. n) (λ _ after. after ≡ (with_faults me.0 n, me.1))
tells_faults slots id n me m is more =
    subst (λ (x : Me ℕ View). Allows holds slots id x 1 (λ _. n) (λ _ after. after ≡ (with_faults x.0 n, x.1))) (sym is)
    (stores slots id 1 n m (mark m.list n m.full) (below_numbers m n m.full more (omega arith)) refl)

pub tells_full : (slots id n : ℕ) (me : Me ℕ View) (m : Mark) → me ≡ (spine_at m, []) → m.full ≤ n
    → Allows holds slots id me 2 (λ _. n) (λ _ after. after ≡ (with_full me.0 n, me.1))
tells_full slots id n me m is more =
    subst (λ (x : Me ℕ View). Allows holds slots id x 2 (λ _. n) (λ _ after. after ≡ (with_full x.0 n, x.1))) (sym is)
    (stores slots id 2 n m (mark m.list m.faults n) (below_numbers m m.faults n (omega arith) more) refl)

-- a new pass
pub gives : (id : ℕ) (v : View) → Splits holds id v v (pass_at v.has)
gives id v table k at =
    let b = k.below id v at in
    let kept : Kept table.words (table.views ++ pass_at v.has ∷ []) = record {
      seat = k.seat;
      spine = k.spine;
      one = one_joined table.views k.seat k.spine (pass_at v.has) k.one refl;
      words_are = k.words_are;
      below = below_joined table.views k.spine (pass_at v.has) k.below b.0 (below_nothing k.spine);
    } in
    subst (λ (views : List View). Kept table.words (views ++ pass_at v.has ∷ [])) (sym (set_again table.views id v at)) kept

-- a pass goes into the seat of the spine
pub takes_in : (id : ℕ) (v : View) (other : ℕ) (w : View) → v.is_spine ≡ true → Joins holds id v other w (with_older v w.has) (pass_at nothing)
takes_in id v other w is table k at apart there =
    let both = with_older v w.has in
    let same = has_all table.words table.views id v k at is in
    let theirs : get_elem? table.views other ≡ some w = ⊎_elim
    (λ (t : (other ≡ id) × (both ≡ w)). absurd (apart t.0))
    (λ (t : (other ≢ id) × (get_elem? table.views other ≡ some w)). t.1)
    (at_set table.views id other both w there) in
    let one = one_rises table.views k.seat id k.spine k.spine v both k.one at is is same in
    let below = below_set table.views id k.spine both k.below (k.below id v at).0 (k.below other w theirs).0 in
    record {
      seat = id;
      spine = k.spine;
      one = one_stays (set table.views id both) id other k.spine (pass_at nothing) one apart refl;
      words_are = k.words_are;
      below = below_set (set table.views id both) other k.spine (pass_at nothing) below (below_nothing k.spine) (below_nothing k.spine);
    }

-- a load by the spine
pub learns : (slots id : ℕ) (me : Me ℕ View) (m older : Mark) → me ≡ (with_older (spine_at m) older, [])
    → Allows holds slots id me 0 (λ n. n) (λ _ after. (after ≡ (without_older me.0, me.1)) × Below me.0.older me.0.has)
learns slots id me m older is =
    subst (λ (x : Me ℕ View). Allows holds slots id x 0 (λ n. n) (λ _ after. (after ≡ (without_older x.0, x.1)) × Below x.0.older x.0.has)) (sym is) loads
  where
    loads : Allows holds slots id (with_older (spine_at m) older, []) 0 (λ n. n) (λ _ after. (after ≡ (spine_at m, [])) × Below older m)
    loads table k homes at range =
        let v = with_older (spine_at m) older in
        let same = has_all table.words table.views id v k at refl in
        let words : slice_set table.words 0 (slice_index table.words 0) ≡ words_of k.spine = subst (λ (ws : List ℕ). slice_set ws 0 (slice_index ws 0) ≡ words_of k.spine) (sym k.words_are) refl in (
          spine_at m,
          keeps,
          tt,
          record {
            seat = id;
            spine = k.spine;
            one = one_rises table.views k.seat id k.spine k.spine v (spine_at m) k.one at refl refl same;
            words_are = words;
            below = below_set table.views id k.spine (spine_at m) k.below (k.below id v at).0 (below_nothing k.spine);
          },
          (refl, subst (λ (x : Mark). Below older x) (sym same) (k.below id v at).1),
        )
