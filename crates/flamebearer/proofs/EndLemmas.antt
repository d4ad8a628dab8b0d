-- Finding where subtrees end, from the last one on.
use Rattle.std.proofs.Common.{◌≡◌, ℕ, ◌+◌, ◌<◌, ◌≤◌, List, length, get_or, set, arith, sym, ◌∙◌, subst, ⊎_elim}
use Rattle.std.proofs.lemmas.Bool.{cases_lt}
use Rattle.std.proofs.lemmas.List.{get_or-map, get_or-set_other, get_or-set_same, length-map, length-set}
use Rattle.flamebearer.specs.declared.branches.Frame.{Frame}
use Rattle.flamebearer.specs.Ends.{AreEnds, IsEnd}
use Rattle.flamebearer.specs.Branches.{depths_of}

-- all between are deeper
pub record AreDeeper (depths : List ℕ) (at end : ℕ) : Type 0 where
  pub later : at < end
  pub within : end ≤ length depths
  pub deeper : (n : ℕ) → at < n → n < end → get_or depths at 0 < get_or depths n 0

pub deeper-none : (depths : List ℕ) (at : ℕ) → at < length depths → AreDeeper depths at (at + 1)
deeper-none depths at within = record { later = omega arith; within = omega arith; deeper = λ n far near. absurd (omega arith) }

-- a subtree more is deeper
pub deeper-more : (depths : List ℕ) (at end next : ℕ) → AreDeeper depths at end → get_or depths at 0 < get_or depths end 0 → IsEnd depths end next → AreDeeper depths at next
deeper-more depths at end next deep here is =
    let later = deep.later in
    let last = is.later in
    record {
      later = omega arith;
      within = is.within;
      deeper = λ n far near. ⊎_elim
          (λ before. deep.deeper n far before)
          (λ after. ⊎_elim (λ beyond. let under = is.deeper n beyond near in omega arith) (λ same. subst (λ m. get_or depths at 0 < get_or depths m 0) (exact n after same) here) (cases_lt end n))
          (cases_lt n end);
    }
  where
    exact : (n : ℕ) → end ≤ n → n ≤ end → end ≡ n
    exact n a b = omega arith

pub is_end : (depths : List ℕ) (at end : ℕ) → AreDeeper depths at end → (end < length depths → get_or depths end 0 ≤ get_or depths at 0) → IsEnd depths at end
is_end depths at end deep stops = record { later = deep.later; within = deep.within; deeper = deep.deeper; stops = stops }

pub depth-at : (frames : List Frame) (i : ℕ) (d : Frame) → i < length frames → get_or (depths_of frames) i 0 ≡ (get_or frames i d).depth
depth-at frames i d within = get_or-map (λ (f : Frame). f.depth) frames i d 0 within

pub length-depths : (frames : List Frame) → length (depths_of frames) ≡ length frames
length-depths frames = length-map frames (λ (f : Frame). f.depth)

-- one place more
pub ends-more : (at end : ℕ) (depths ends : List ℕ) → AreEnds (at + 1) depths ends → at < length depths → IsEnd depths at end → AreEnds at depths (set ends at end)
ends-more at end depths ends are within is =
    let many = are.many in
    record {
      many = length-set ends at end ∙ many;
      each = λ n far near. ⊎_elim
          (λ beyond. subst (IsEnd depths n) (sym (get_or-set_other ends at n end 0 (λ same. absurd (omega arith)))) (are.each n (omega arith) near))
          (λ same. subst (λ m. IsEnd depths m (get_or (set ends at end) m 0)) (exact n far same) (subst (IsEnd depths at) (sym (get_or-set_same ends at end 0 (omega arith))) is))
          (cases_lt at n);
    }
  where
    exact : (n : ℕ) → at ≤ n → n ≤ at → at ≡ n
    exact n a b = omega arith

pub ends-none : (depths ends : List ℕ) → length ends ≡ length depths → AreEnds (length depths) depths ends
ends-none depths ends many = record { many = many; each = λ n far near. absurd (omega arith) }
