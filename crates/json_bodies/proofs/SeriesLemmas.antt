-- Series that are kept as far as they say something.
use Rattle.std.proofs.Common.{◌≡◌, ℕ, List, [], ◌∷◌, ◌++◌, length, map, Option, Some, None, Result, Ok, Err, Vec, Global, refl, sym, ap, ap₂, subst, ◌∙◌, arith, length-append}
use Rattle.std.specs.Prelude.{⊤, slice_get, IsSomeAnd, if◌then◌else◌}
use Rattle.std.specs.Option.{is_some, option_and_then, option_map, option_map_or}
use Rattle.std.proofs.Math.Seq.{get_or-append_seam}
use Rattle.std.proofs.lemmas.List.{length-map, map-append}
use Rattle.std.proofs.lemmas.Option.{none-some, slice_get-get_or}
use Rattle.serde_json.specs.Data.{Data}
use Rattle.json_bodies.specs.Fields.{each_said}
use Rattle.json_bodies.specs.Pushes.{first_silent, labels_in, raw_profile_in, raw_profiles_in, samples_in, series_in, silent_sample}
use Rattle.json_bodies.specs.PushFaults.{IsFaultOfMembers}
use Rattle.json_bodies.specs.Kept.{AreSamples}
use Rattle.json_bodies.specs.KeptSeries.{AreSeries, IsKept, IsKeptPush, kept_of}
use Rattle.json_bodies.specs.KeptTexts.{IsCutAt}
use Rattle.json_bodies.specs.declared.push.ShapeFault.{ShapeFault}
use Rattle.json_bodies.specs.declared.push.ShapeFault.TheVariants.{Wrong}
use Rattle.json_bodies.specs.declared.series.Series.{Series}
use Rattle.json_bodies.proofs.ListLemmas.{cut_before, cut_here, cut_is_first, cut_says_nothing}
use Rattle.json_bodies.proofs.SaidLemmas.{each_said_length, each_said_push}

-- ---- one series

abbrev place_or_none : Result (List (List ℕ)) ℕ → Option ℕ
place_or_none (Ok raws) = None
place_or_none (Err at) = Some at

samples_said : (samples : Option (List Data)) (raws : List (List ℕ)) → AreSamples samples (Ok raws)
    → option_and_then (each_said raw_profile_in) samples ≡ Some raws
samples_said None raws are = absurd (none-some 0 (ap place_or_none are))
samples_said (Some ds) raws are = are

samples_silent : (samples : Option (List Data)) (at : ℕ) → AreSamples samples (Err at)
    → (option_and_then (each_said raw_profile_in) samples ≡ None) × (option_map_or (first_silent raw_profile_in) samples (Some 0) ≡ Some at)
samples_silent None at are = (refl, sym (ap place_or_none are))
samples_silent (Some ds) at are = (cut_says_nothing raw_profile_in (λ _. ⊤) ds at are, cut_is_first raw_profile_in (λ _. ⊤) ds at are)

abbrev both_said : Option (List (List ℕ × List ℕ)) → Option (List (List ℕ)) → Option (List (List ℕ × List ℕ) × List (List ℕ))
both_said labels raws = option_and_then (λ l. option_map (λ r. (l, r)) raws) labels

pub kept_whole : (d : Data) (labels : List (List ℕ × List ℕ)) (raws : List (List ℕ)) → labels_in d ≡ Some labels
    → AreSamples (samples_in d) (Ok raws) → series_in d ≡ Some (labels, raws)
kept_whole d labels raws said are = ap₂ both_said said (samples_said (samples_in d) raws are)

pub kept_without_sample : (d : Data) (labels : List (List ℕ × List ℕ)) (at : ℕ) → labels_in d ≡ Some labels
    → AreSamples (samples_in d) (Err at) → (series_in d ≡ None) × (silent_sample d ≡ Some at)
kept_without_sample d labels at said are =
    let silent = samples_silent (samples_in d) at are in (
      ap₂ both_said said silent.0,
      ap (λ l. if is_some l then option_map_or (first_silent raw_profile_in) (samples_in d) (Some 0) else Some 0) said ∙ silent.1,
    )

pub kept_without_labels : (d : Data) → labels_in d ≡ None → (series_in d ≡ None) × (silent_sample d ≡ Some 0)
kept_without_labels d said = (
  ap (λ l. both_said l (raw_profiles_in d)) said,
  ap (λ l. if is_some l then option_map_or (first_silent raw_profile_in) (samples_in d) (Some 0) else Some 0) said,
)

-- ---- one series more

pub series_pushed : (ds : List Data) (d : Data) (all more : Vec Series Global) (series : Series) → AreSeries ds (Ok all) → IsKept d (Ok series)
    → more.items ≡ all.items ++ series ∷ [] → AreSeries (ds ++ d ∷ []) (Ok more)
series_pushed ds d all more series are kept is =
    rw (is, map-append) (each_said_push series_in ds d (kept_of series) (map kept_of all.items) are kept)

pub series_cut : (ds : List Data) (d : Data) (all : Vec Series Global) (at sample : ℕ) → AreSeries ds (Ok all) → IsKept d (Err sample)
    → at ≡ length all.items → AreSeries (ds ++ d ∷ []) (Err (Wrong at sample))
series_cut ds d all at sample are kept is =
    subst (λ n. IsCutAt series_in (λ here. silent_sample here ≡ Some sample) (ds ++ d ∷ []) n)
    (sym (each_said_length series_in ds (map kept_of all.items) are) ∙ length-map all.items kept_of ∙ sym is)
    (cut_here series_in (λ here. silent_sample here ≡ Some sample) ds d (map kept_of all.items) are kept.0 kept.1)

pub series_cut_before : (ds : List Data) (d : Data) (fault : ShapeFault) → AreSeries ds (Err fault) → AreSeries (ds ++ d ∷ []) (Err fault)
series_cut_before ds d (Wrong at sample) cut = cut_before series_in (λ here. silent_sample here ≡ Some sample) ds d at cut

-- ---- all of them

here_is : {X : Type 0} (before : List X) (x : X) (after : List X) → slice_get (before ++ x ∷ after) (length before) ≡ Some x
here_is before x after =
    slice_get-get_or (before ++ x ∷ after) (length before) x (omega (arith, length-append before (x ∷ after)))
    ∙ ap Some (get_or-append_seam before x after x)

fault_of_cut : (ds : List Data) (at sample : ℕ) → IsCutAt series_in (λ here. silent_sample here ≡ Some sample) ds at
    → IsFaultOfMembers ds (Wrong at sample)
fault_of_cut ds at sample cut = (
  cut_is_first series_in (λ here. silent_sample here ≡ Some sample) ds at cut,
  subst (λ one. IsSomeAnd one (λ here. silent_sample here ≡ Some sample))
      (sym (ap₂ slice_get cut.whole cut.place ∙ here_is cut.before cut.here cut.after)) cut.more,
)

pub kept_push : (ds : List Data) (all : Result (Vec Series Global) ShapeFault) → AreSeries ds all → IsKeptPush (Some ds) all
kept_push ds (Ok all) are = are
kept_push ds (Err (Wrong at sample)) cut = fault_of_cut ds at sample cut
