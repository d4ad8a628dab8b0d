use Rattle.std.proofs.Common.{◌≡◌, true, false, length, refl, sym, ap, ◌∙◌, arith}
use Rattle.std.specs.Prelude.{◌==◌, is_some, nat_lt}
use Rattle.std.specs.List.{flat_map, list_all}
use Rattle.std.proofs.lemmas.Bool.{eq-eqb, le-ltb, lt-ltb, ne_eqb}
use Rattle.pprof_message.specs.Gathered.{sample_in}
use Rattle.pprof_codec.specs.Members.{location_with}
use Rattle.pprof_codec.specs.Frames.{frames_at, stack_of}
use Rattle.pprof_codec.specs.Checks.{faults_of_sample, has_label_texts}
use Rattle.pprof_codec.proofs.DepthLemmas.{depth-of_stack}
use Rattle.pprof_codec.proofs.TableLemmas.{locations-known}
use Rattle.pprof_codec.proofs.samples.sample_fault.Goals as goal

pub returns-then-sample-kinds : goal.returns-then-sample-kinds
unfolding faults_of_sample
returns-then-sample-kinds c = λ pprof texts kinds are.
    let count : (length c.args.sample.now.values.now == length pprof.sample_types) ≡ false = ap (λ n. length c.args.sample.now.values.now == n) (sym kinds) ∙ ne_eqb _ _ c.if-sample-kinds.true in
    rw count refl

pub returns-in_default : goal.returns-in_default
unfolding faults_of_sample
returns-in_default c = λ pprof texts kinds are.
    let count : (length c.args.sample.now.values.now == length pprof.sample_types) ≡ true = ap (λ n. length c.args.sample.now.values.now == n) (sym kinds) ∙ eq-eqb _ _ c.if-sample-kinds.false in
    let found : list_all (λ id. is_some (location_with pprof id)) c.args.sample.now.location_ids.now ≡ false =
    sym (locations-known pprof c.args.locations.now.ids c.args.locations.now.frames.items c.args.sample.now.location_ids.now are) ∙ sym c.in_default.ensures.known in
    rw (count, found) refl

pub returns-then-depth-gt-MAX_FRAMES : goal.returns-then-depth-gt-MAX_FRAMES
unfolding faults_of_sample
returns-then-depth-gt-MAX_FRAMES c = λ pprof texts kinds are.
    let count : (length c.args.sample.now.values.now == length pprof.sample_types) ≡ true = ap (λ n. length c.args.sample.now.values.now == n) (sym kinds) ∙ eq-eqb _ _ c.if-sample-kinds.false in
    let found : list_all (λ id. is_some (location_with pprof id)) c.args.sample.now.location_ids.now ≡ true =
    sym (locations-known pprof c.args.locations.now.ids c.args.locations.now.frames.items c.args.sample.now.location_ids.now are) ∙ sym c.in-Some.ensures.known in
    let deep : nat_lt 1024 (length (stack_of pprof (sample_in c.args.sample.now))) ≡ true =
    sym (depth-of_stack pprof (sample_in c.args.sample.now)) ∙ lt-ltb 1024 (length (flat_map (frames_at pprof) c.args.sample.now.location_ids.now)) (omega (arith, c.in-Some.ensures.depth pprof are, c.if-depth-gt-MAX_FRAMES.true)) in
    rw (count, found, deep) refl

pub returns-then-not-has_all_texts : goal.returns-then-not-has_all_texts
unfolding faults_of_sample
returns-then-not-has_all_texts c = λ pprof texts kinds are.
    let count : (length c.args.sample.now.values.now == length pprof.sample_types) ≡ true = ap (λ n. length c.args.sample.now.values.now == n) (sym kinds) ∙ eq-eqb _ _ c.if-sample-kinds.false in
    let found : list_all (λ id. is_some (location_with pprof id)) c.args.sample.now.location_ids.now ≡ true =
    sym (locations-known pprof c.args.locations.now.ids c.args.locations.now.frames.items c.args.sample.now.location_ids.now are) ∙ sym c.in-Some.ensures.known in
    let deep : nat_lt 1024 (length (stack_of pprof (sample_in c.args.sample.now))) ≡ false =
    sym (depth-of_stack pprof (sample_in c.args.sample.now)) ∙ le-ltb 1024 (length (flat_map (frames_at pprof) c.args.sample.now.location_ids.now)) (omega (arith, c.in-Some.ensures.depth pprof are, c.if-depth-gt-MAX_FRAMES.false)) in
    let told : list_all (has_label_texts pprof.texts) c.args.sample.now.labels.now ≡ false =
    ap (λ all. list_all (has_label_texts all) c.args.sample.now.labels.now) (sym texts) ∙ sym c.has_all_texts.ensures ∙ c.if-not-has_all_texts.true in
    rw (count, found, deep, told) refl

pub returns : goal.returns
unfolding faults_of_sample
returns c = λ pprof texts kinds are.
    let count : (length c.args.sample.now.values.now == length pprof.sample_types) ≡ true = ap (λ n. length c.args.sample.now.values.now == n) (sym kinds) ∙ eq-eqb _ _ c.if-sample-kinds.false in
    let found : list_all (λ id. is_some (location_with pprof id)) c.args.sample.now.location_ids.now ≡ true =
    sym (locations-known pprof c.args.locations.now.ids c.args.locations.now.frames.items c.args.sample.now.location_ids.now are) ∙ sym c.in-Some.ensures.known in
    let deep : nat_lt 1024 (length (stack_of pprof (sample_in c.args.sample.now))) ≡ false =
    sym (depth-of_stack pprof (sample_in c.args.sample.now)) ∙ le-ltb 1024 (length (flat_map (frames_at pprof) c.args.sample.now.location_ids.now)) (omega (arith, c.in-Some.ensures.depth pprof are, c.if-depth-gt-MAX_FRAMES.false)) in
    let told : list_all (has_label_texts pprof.texts) c.args.sample.now.labels.now ≡ true =
    ap (λ all. list_all (has_label_texts all) c.args.sample.now.labels.now) (sym texts) ∙ sym c.has_all_texts.ensures ∙ c.if-not-has_all_texts.false in
    rw (count, found, deep, told) c.negative_value.ensures
