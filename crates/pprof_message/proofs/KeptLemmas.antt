-- What is kept of a profile, field by field, and what it comes to.
use Rattle.std.proofs.Common.{◌≡◌, ℕ, ℤ, List, [], ◌∷◌, ◌++◌, map, Option, refl, sym, ap, ◌∙◌, append_assoc, lit<}
use Rattle.std.specs.List.{filter_map, flat_map}
use Rattle.std.proofs.lemmas.List.{map-append, append-nil, length-map}
use Rattle.std.proofs.lemmas.List.Elements.{filter_map-append}
use Rattle.std.proofs.lemmas.List.Concat.{flat_map-append}
use Rattle.wire_proto.specs.Message.{WireField}
use Rattle.pprof_message.specs.declared.lists.Label.{Label}
use Rattle.pprof_message.specs.declared.gathered.Samples.{Samples}
use Rattle.pprof_message.specs.declared.gathered.Gathered.{Gathered}
use Rattle.pprof_message.specs.Pprof.{Sample, Location}
use Rattle.pprof_message.specs.Fields.{Part, number_of, part_of, last_of, fields_in, parts, merged}
use Rattle.pprof_message.specs.Messages.{value_type_of, function_of, sample_of, location_of, pprof_of}
use Rattle.pprof_message.specs.Numbers.{last_numbers}
use Rattle.pprof_message.specs.Runs.{Runs, closed_run}
use Rattle.pprof_message.specs.Gathered.{samples_from, locations_from, IsEven, gathered_pprof}
use Rattle.pprof_message.specs.Readers.{sample_with, sample_closed, head_of, lines_with}
use Rattle.pprof_message.specs.Kept.{Kept, kept, none_kept, samples_after, lines_after, kept_with}
use Rattle.pprof_message.proofs.NumberLemmas.{last_numbers-append, singular_of}

-- ---- one field after the other

listed : {A B C : Type 0} (h : A → Option B) (read : B → C) (xs : List C) (fs gs : List A) → (xs ++ map read (filter_map h fs)) ++ map read (filter_map h gs) ≡ xs ++ map read (filter_map h (fs ++ gs))
listed h read xs fs gs = rw (filter_map-append h fs gs, map-append read (filter_map h fs) (filter_map h gs)) (append_assoc xs (map read (filter_map h fs)) (map read (filter_map h gs)))

samples_after-append : (s : Samples) (ps qs : List Part) → samples_after (samples_after s ps) qs ≡ samples_after s (ps ++ qs)
samples_after-append s [] qs = refl
samples_after-append s (p ∷ ps) qs = samples_after-append (sample_closed (sample_with s (fields_in p))) ps qs

lines_after-append : (r : Runs ℕ) (ps qs : List Part) → lines_after (lines_after r ps) qs ≡ lines_after r (ps ++ qs)
lines_after-append r [] qs = refl
lines_after-append r (p ∷ ps) qs = lines_after-append (closed_run (lines_with r (fields_in p))) ps qs

last_of-append : (n : ℕ) (xs ys : List ℕ) → last_of (last_of n xs) ys ≡ last_of n (xs ++ ys)
last_of-append n [] ys = refl
last_of-append n (x ∷ xs) ys = last_of-append x xs ys

merged-append : (number : ℕ) (fs gs : List WireField) → merged number (fs ++ gs) ≡ merged number fs ++ merged number gs
merged-append number fs gs = ap (flat_map fields_in) (filter_map-append (part_of number) fs gs) ∙ flat_map-append fields_in (parts number fs) (parts number gs)

pub kept_with-append : (k : Kept) (fs gs : List WireField) → kept_with (kept_with k fs) gs ≡ kept_with k (fs ++ gs)
kept_with-append k fs gs =
    let at = λ (number : ℕ). filter_map-append (part_of number) fs gs in
    rw (
      listed (part_of 1) (λ part. value_type_of (fields_in part)) k.sample_types fs gs,
      samples_after-append k.samples (parts 2 fs) (parts 2 gs),
      listed (part_of 4) (λ part. head_of (fields_in part)) k.heads fs gs,
      lines_after-append k.lines (parts 4 fs) (parts 4 gs),
      listed (part_of 5) (λ part. function_of (fields_in part)) k.functions fs gs,
      listed (part_of 6) (λ part. part.bytes) k.texts fs gs,
      last_of-append k.time_nanos (filter_map (number_of 9) fs) (filter_map (number_of 9) gs),
      merged-append 11 fs gs,
      last_numbers-append k.period_type (merged 11 fs) (merged 11 gs),
      at 2,
      at 4,
      filter_map-append (number_of 9) fs gs,
    ) refl

-- ---- the lists of all samples and locations

closed_lists : List (List ℕ) → List (List ℤ) → List (List Label) → Samples
closed_lists ids values labels = record { location_ids = record { closed = ids; begun = [] }; values = record { closed = values; begun = [] }; labels = record { closed = labels; begun = [] } }

abbrev part_sample : Part → Sample
part_sample part = sample_of (fields_in part)

abbrev part_location : Part → Location
part_location part = location_of (fields_in part)

samples_after-lists : (ps : List Part) (ids : List (List ℕ)) (values : List (List ℤ)) (labels : List (List Label))
    → samples_after (closed_lists ids values labels) ps
    ≡ closed_lists (ids ++ map (λ p. (part_sample p).location_ids) ps) (values ++ map (λ p. (part_sample p).values) ps) (labels ++ map (λ p. (part_sample p).labels) ps)
unfolding closed_lists
samples_after-lists [] ids values labels = rw (append-nil ids, append-nil values, append-nil labels) refl
samples_after-lists (p ∷ ps) ids values labels =
    let s : Sample = part_sample p in
    samples_after-lists ps (ids ++ s.location_ids ∷ []) (values ++ s.values ∷ []) (labels ++ s.labels ∷ [])
    ∙ rw (
      append_assoc ids (s.location_ids ∷ []) (map (λ q. (part_sample q).location_ids) ps),
      append_assoc values (s.values ∷ []) (map (λ q. (part_sample q).values) ps),
      append_assoc labels (s.labels ∷ []) (map (λ q. (part_sample q).labels) ps),
    ) refl

lines_after-lists : (ps : List Part) (lines : List (List ℕ)) → lines_after (record { closed = lines; begun = [] }) ps ≡ record { closed = lines ++ map (λ p. (part_location p).lines) ps; begun = [] }
lines_after-lists [] lines = rw (append-nil lines) refl
lines_after-lists (p ∷ ps) lines =
    let l : Location = part_location p in
    lines_after-lists ps (lines ++ l.lines ∷ []) ∙ rw (append_assoc lines (l.lines ∷ []) (map (λ q. (part_location q).lines) ps)) refl

samples_from-maps : (ps : List Part) → samples_from (map (λ p. (part_sample p).location_ids) ps) (map (λ p. (part_sample p).values) ps) (map (λ p. (part_sample p).labels) ps) ≡ map part_sample ps
samples_from-maps [] = refl
samples_from-maps (p ∷ ps) = ap (λ (rest : List Sample). part_sample p ∷ rest) (samples_from-maps ps)

locations_from-maps : (ps : List Part) → locations_from (map (λ p. head_of (fields_in p)) ps) (map (λ p. (part_location p).lines) ps) ≡ map part_location ps
locations_from-maps [] = refl
locations_from-maps (p ∷ ps) = ap (λ (rest : List Location). part_location p ∷ rest) (locations_from-maps ps)

-- ---- the whole

pub record IsWhole (g : Gathered) (fields : List WireField) : Type 0 where
  pub even : IsEven g
  pub pprof : gathered_pprof g ≡ pprof_of fields

pub whole_kept : (g : Gathered) (fields : List WireField) → kept g ≡ kept_with none_kept fields → IsWhole g fields
unfolding closed_lists
whole_kept g fields e =
    let ps : List Part = parts 2 fields in
    let qs : List Part = parts 4 fields in
    let samples : g.samples ≡ closed_lists (map (λ p. (part_sample p).location_ids) ps) (map (λ p. (part_sample p).values) ps) (map (λ p. (part_sample p).labels) ps) =
    ap (λ (k : Kept). k.samples) e ∙ samples_after-lists ps [] [] [] in
    let heads : g.locations.heads.items ≡ map (λ p. head_of (fields_in p)) qs = ap (λ (k : Kept). k.heads) e in
    let lines : g.locations.lines ≡ record { closed = map (λ p. (part_location p).lines) qs; begun = [] } = ap (λ (k : Kept). k.lines) e ∙ lines_after-lists qs [] in
    let period : g.period_type ≡ last_numbers none_kept.period_type (merged 11 fields) = ap (λ (k : Kept). k.period_type) e in
    record {
      even = record {
        values = rw samples (length-map ps (λ p. (part_sample p).values) ∙ sym (length-map ps (λ p. (part_sample p).location_ids)));
        labels = rw samples (length-map ps (λ p. (part_sample p).labels) ∙ sym (length-map ps (λ p. (part_sample p).location_ids)));
        lines = rw (lines, heads) (length-map qs (λ p. (part_location p).lines) ∙ sym (length-map qs (λ p. head_of (fields_in p))));
      };
      pprof =
          rw (
            ap (λ (k : Kept). k.sample_types) e,
            samples,
            samples_from-maps ps,
            heads,
            lines,
            locations_from-maps qs,
            ap (λ (k : Kept). k.functions) e,
            ap (λ (k : Kept). k.texts) e,
            ap (λ (k : Kept). k.time_nanos) e,
            singular_of g.period_type (merged 11 fields) 1 period (lit< tt),
            singular_of g.period_type (merged 11 fields) 2 period (lit< tt),
          ) refl;
    }
