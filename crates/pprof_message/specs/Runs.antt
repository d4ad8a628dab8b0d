-- Lists that lie behind one another in one list.
use Rattle.std.specs.Prelude.{ℕ, ◌≤◌, List, [], ◌∷◌, ◌++◌, drop, slice_range, refl}
use Rattle.std.specs.Coded.{Coded, code_by, coded×, coded_list}
use Rattle.pprof_message.specs.Fields.{last_of}

-- the lists that are closed, and what the next one has so far
pub record Runs (T : Type 0) : Type 0 where
  pub closed : List (List T)
  pub begun : List T

abbrev pub runs_code : {T : Type 0} → Coded T → Coded (Runs T)
runs_code {T} code =
    code_by (List (List T) × List T) (coded× (coded_list (coded_list code)) (coded_list code)) (λ r. (r.closed, r.begun)) (λ p. record { closed = p.0; begun = p.1 }) (λ _. refl)

-- the lists that end at these places, the first of which begins here
abbrev pub cut_at : {T : Type 0} → ℕ → List ℕ → List T → List (List T)
cut_at from [] items = []
cut_at from (end ∷ ends) items = slice_range items from end ∷ cut_at end ends items

-- no list begins behind its end, and the last ends within so many items
abbrev pub IsCut : ℕ → List ℕ → ℕ → Type 0
IsCut from [] count = from ≤ count
IsCut from (end ∷ ends) count = (from ≤ end) × IsCut end ends count

abbrev pub runs_of : {T : Type 0} → List T → List ℕ → Runs T
runs_of items ends = record { closed = cut_at 0 ends items; begun = drop (last_of 0 ends) items }

-- more items of the list that has begun
abbrev pub begun_with : {T : Type 0} → Runs T → List T → Runs T
begun_with runs items = record runs { begun = runs.begun ++ items }

-- the list that has begun is closed
abbrev pub closed_run : {T : Type 0} → Runs T → Runs T
closed_run runs = record { closed = runs.closed ++ runs.begun ∷ []; begun = [] }
