-- The label sets of a history's profiles.
use Rattle.std.proofs.Common.{◌≡◌, ℕ, List, [], ◌∷◌, Bool, true, false, cond, refl, arith, length, take, fold, map}
use Rattle.std.specs.Prelude.{◌&&◌, nat_le, filter}
use Rattle.std.specs.BTreeSet.{insert_key}
use Rattle.std.proofs.lemmas.List.{take_all}
use Rattle.push_history.specs.History.{front_of, pushes_of, rows_of}
use Rattle.profile_model.specs.LabelOrder.{labels_cmp}
use Rattle.profile_model.specs.LabelSets.{Label}
use Rattle.profile_model.specs.declared.profile.Profile.{Profile}
use Rattle.profile_model.specs.declared.push.Push.{Push}
use Rattle.selector.specs.Matching.{Matching}
use Rattle.label_queries.specs.Gathered.{with_profile}
use Rattle.label_queries.specs.Labels.{is_asked, label_sets_of, shown_labels}
use Rattle.api_replies.specs.Listing.{with_rows}
use Rattle.api_replies.proofs.RenderingLemmas.{profiles_in}

-- ---- label sets

abbrev in_window : ℕ → ℕ → Profile → Bool
in_window from until profile = nat_le from profile.time_ms && nat_le profile.time_ms until

-- the sets of some profiles, one after another
sets_after : (selectors : List (List Matching)) (sets : List (List Label)) (rows : List Profile)
    → (fold with_profile (record { selectors = selectors; sets = sets }) rows).sets
    ≡ fold (insert_key labels_cmp) sets (map shown_labels (filter (is_asked selectors) rows))
sets_after selectors sets [] = refl
sets_after selectors sets (row ∷ rows) = by (is_asked selectors row) (λ (sets : List (List Label)). sets_after selectors sets rows)
  where
    by : (asked : Bool)
        → ((sets : List (List Label)) → (fold with_profile (record { selectors = selectors; sets = sets }) rows).sets
        ≡ fold (insert_key labels_cmp) sets (map shown_labels (filter (is_asked selectors) rows)))
        → (fold with_profile (record { selectors = selectors; sets = cond asked (insert_key labels_cmp sets (shown_labels row)) sets }) rows).sets
        ≡ fold (insert_key labels_cmp) sets (map shown_labels (cond asked (row ∷ filter (is_asked selectors) rows) (filter (is_asked selectors) rows)))
    by true later = later (insert_key labels_cmp sets (shown_labels row))
    by false later = later sets

-- the sets of an answer are those of all the tenant's profiles in the window
pub sets_are : (selectors : List (List Matching)) (history : List Push) (tenant : List ℕ) (from until : ℕ)
    → (with_rows (record { selectors = selectors; sets = [] }) (profiles_in history tenant) from until).sets
    ≡ label_sets_of selectors (rows_of history tenant (front_of history tenant) from until)
sets_are selectors history tenant from until =
    let pushes = pushes_of history tenant in
    let whole : take (length pushes) pushes ≡ pushes = take_all (length pushes) pushes (omega arith) in
    rw whole (sets_after selectors [] (filter (in_window from until) (profiles_in history tenant)))
