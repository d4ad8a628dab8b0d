-- What each profile weighs, and all of them.
use Rattle.std.proofs.Common.{◌≡◌, ⊎_elim, ℕ, suc, ◌+◌, ◌-◌, ◌^◌, ◌<◌, ◌≤◌, min, List, [], ◌∷◌, ◌++◌, length, get_or, take, drop, Bool, true, false, Some, refl, sym, ap, ◌∙◌, arith}
use Rattle.std.specs.Prelude.{◌||◌, map, nat_lt, sum_by}
use Rattle.std.specs.List.{enumerate_from, range_with_len, drop-map}
use Rattle.std.proofs.Math.Nat.{min-le_left, min-eq_left, le-min}
use Rattle.std.proofs.lemmas.Bool.{cases_lt, lt-ltb, le-ltb}
use Rattle.std.proofs.lemmas.List.{take_all, take-append-drop, length-map, map-append}
use Rattle.std.proofs.lemmas.List.FromFn.{length-enumerate_from, get_or-enumerate_from, get_or-map-range_with_len, length-map-range_with_len}
use Rattle.std.proofs.Math.Seq.{drop-cons}
use Rattle.std.proofs.lemmas.List.Sums.{sum_by-cons, sum_by-append}
use Rattle.faults.specs.Answers.{IfFault}
use Rattle.faults.specs.declared.refused.Refused.{Refused}
use Rattle.faults.proofs.AnswerLemmas.{IfFault-weaker}
use Rattle.profile_model.specs.LabelSets.{Label}
use Rattle.profile_model.specs.Sums as sums
use Rattle.profile_model.specs.Weights.{label_weight}
use Rattle.profile_model.specs.declared.profile.Profile.{Profile}
use Rattle.pprof_message.specs.declared.lists.ValueType.{ValueType}
use Rattle.pprof_message.specs.Pprof.{Pprof}
use Rattle.pprof_codec.specs.declared.base.Base.{Base}
use Rattle.pprof_codec.specs.declared.fault.PprofFault.{PprofFault}
use Rattle.pprof_codec.specs.declared.fault.PprofFault.TheVariants.{Weight}
use Rattle.pprof_codec.specs.Profiles.{Held, held_of, held_weight, parts_of, profile_of, profiles_of, samples_of, stacks_weight, time_of, weight_of}
use Rattle.pprof_codec.specs.Checks.{fault_if, first_of, weight_faults}
use Rattle.pprof_codec.specs.Tables.{IsFirst, IsShort, all_sums, sums_weight}
use Rattle.pprof_codec.proofs.FaultLemmas.{only-found, shown-push}

-- ---- one profile

-- without its stacks
abbrev pub bare_weight : List Label → List (List ℕ) → ℕ
bare_weight labels parts = 128 + sum_by label_weight labels + sum_by length parts

pub held-weight : (base : Base) (pprof : Pprof) (number : ℕ) (kind : ValueType) (labels : List Label) (parts : List (List ℕ))
    → labels ≡ base.labels → parts ≡ parts_of base pprof kind
    → held_weight (profile_of base pprof number kind) ≡ bare_weight labels parts + stacks_weight (sums.sums_of (samples_of pprof number))
unfolding profile_of
held-weight base pprof number kind labels parts labelled typed =
    (λ k. 128 + sum_by label_weight (sym labelled k) + sum_by length (sym typed k) + stacks_weight (sums.sums_of (samples_of pprof number)))

pub held-built : (base : Base) (pprof : Pprof) (number : ℕ) (kind : ValueType) (labels : List Label) (parts : List (List ℕ)) (time_ms : ℕ) (values : List sums.Sample)
    → labels ≡ base.labels → parts ≡ parts_of base pprof kind → time_ms ≡ time_of base.fallback_ms pprof.time_nanos → values ≡ sums.sums_of (samples_of pprof number)
    → record { labels = labels; parts = parts; time_ms = time_ms; values = values } ≡ profile_of base pprof number kind
unfolding profile_of
held-built base pprof number kind labels parts time_ms values labelled typed timed summed =
    (λ k. record { labels = labelled k; parts = typed k; time_ms = timed k; values = summed k })

pub bare-weighed : (weight : ℕ) (labels : List Label) (parts : List (List ℕ)) (values : List sums.Sample) → values ≡ []
    → weight ≡ min (bare_weight labels parts + stacks_weight values) (2 ^ 64 - 1) → weight ≡ min (bare_weight labels parts) (2 ^ 64 - 1)
bare-weighed weight labels parts values none is =
    let e : bare_weight labels parts + 0 ≡ bare_weight labels parts = omega arith in
    is ∙ ap (λ known. min (bare_weight labels parts + stacks_weight known) (2 ^ 64 - 1)) none ∙ ap (λ n. min n (2 ^ 64 - 1)) e

pub bare-most : (weight bare : ℕ) → weight ≡ min bare (2 ^ 64 - 1) → weight ≤ bare
bare-most weight bare is = let most = min-le_left bare (2 ^ 64 - 1) in omega arith

-- what had room was weighed whole
pub bare-taken : (weight bare : ℕ) → weight ≡ min bare (2 ^ 64 - 1) → weight ≤ 268435456 → weight ≡ bare
bare-taken weight bare is few =
    ⊎_elim (λ less. is ∙ min-eq_left (omega arith)) (λ most. let big : 2 ^ 64 - 1 ≤ min bare (2 ^ 64 - 1) = le-min {k = 2 ^ 64 - 1} {a = bare} {b = 2 ^ 64 - 1} most (omega arith) in absurd (omega arith)) (cases_lt bare (2 ^ 64 - 1))

-- ---- all profiles

pub profiles-more : (base : Base) (pprof : Pprof) (kinds : List ValueType) (built : List Held) (one : Held) (number : ℕ) (d : ValueType) → kinds ≡ pprof.sample_types
    → number < length kinds → built ≡ take number (profiles_of base pprof) → one ≡ profile_of base pprof number (get_or kinds number d)
    → built ++ one ∷ [] ≡ take (number + 1) (profiles_of base pprof)
unfolding profiles_of
profiles-more base pprof kinds built one number d own short before is =
    let size = ap (length {A = ValueType}) own in
    let count = length-enumerate_from 0 pprof.sample_types in
    let e : 0 + number ≡ number = omega arith in
    let read : get_or (enumerate_from 0 pprof.sample_types) number (0, d) ≡ (number, get_or pprof.sample_types number d) =
    get_or-enumerate_from 0 pprof.sample_types number (0, d) (omega arith) ∙ ap (λ n. (n, get_or pprof.sample_types number d)) e in
    shown-push (λ (each : ℕ × ValueType). profile_of base pprof each.0 each.1) built one (enumerate_from 0 pprof.sample_types) number (0, d) (omega arith) before
    (is ∙ ap (λ (all : List ValueType). profile_of base pprof number (get_or all number d)) own
    ∙ sym (ap (λ (each : ℕ × ValueType). profile_of base pprof each.0 each.1) read))

pub held-push : (profiles after : List Profile) (profile : Profile) → after ≡ profiles ++ profile ∷ [] → map held_of after ≡ map held_of profiles ++ held_of profile ∷ []
held-push profiles after profile is = ap (map held_of) is ∙ map-append held_of profiles (profile ∷ [])

pub profiles-all : (base : Base) (pprof : Pprof) (number : ℕ) → length pprof.sample_types ≤ number → take number (profiles_of base pprof) ≡ profiles_of base pprof
unfolding profiles_of
profiles-all base pprof number all =
    let count = length-enumerate_from 0 pprof.sample_types in
    let size = length-map (enumerate_from 0 pprof.sample_types) (λ (each : ℕ × ValueType). profile_of base pprof each.0 each.1) in
    take_all number (map (λ (each : ℕ × ValueType). profile_of base pprof each.0 each.1) (enumerate_from 0 pprof.sample_types)) (omega arith)

pub weight-push : (all : List Held) (one : Held) → sum_by held_weight (all ++ one ∷ []) ≡ sum_by held_weight all + held_weight one
weight-push all one =
    let parts = sum_by-append held_weight all (one ∷ []) in
    let last = sum_by-cons held_weight one [] in omega arith

pub weight-part : (all : List Held) (number : ℕ) → sum_by held_weight (take number all) ≤ sum_by held_weight all
weight-part all number =
    let whole = ap (sum_by held_weight) (take-append-drop number all) in
    let parts = sum_by-append held_weight (take number all) (drop number all) in omega arith

-- ---- the fault of a weight

or-true : (b : Bool) → (b || true) ≡ true
or-true true = refl
or-true false = refl

pub too-many : (base : Base) (pprof : Pprof) → 4096 < length pprof.sample_types → first_of (weight_faults base pprof) ≡ Some Weight
unfolding weight_faults
too-many base pprof many =
    only-found _ Weight (ap (λ b. b || nat_lt 268435456 (weight_of (profiles_of base pprof))) (lt-ltb 4096 (length pprof.sample_types) many))

pub too-heavy : (base : Base) (pprof : Pprof) → 268435456 < sum_by held_weight (profiles_of base pprof) → first_of (weight_faults base pprof) ≡ Some Weight
unfolding weight_faults weight_of
too-heavy base pprof heavy =
    only-found _ Weight (ap (λ b. nat_lt 4096 (length pprof.sample_types) || b) (lt-ltb 268435456 (sum_by held_weight (profiles_of base pprof)) heavy)
    ∙ or-true (nat_lt 4096 (length pprof.sample_types)))

pub light-enough : (base : Base) (pprof : Pprof) → length pprof.sample_types ≤ 4096 → sum_by held_weight (profiles_of base pprof) ≤ 268435456 → weight_faults base pprof ≡ []
unfolding weight_faults weight_of
light-enough base pprof few light =
    (λ k. fault_if (le-ltb 4096 (length pprof.sample_types) few k || le-ltb 268435456 (sum_by held_weight (profiles_of base pprof)) light k) Weight)

-- where a profile has no room, all are too heavy
no-room : (refused : Refused PprofFault) (before weight : ℕ) (faults : List PprofFault) → (before < weight → first_of faults ≡ Some Weight) → IfFault (IsShort before weight) refused
    → IfFault (IsFirst faults) refused
no-room refused before weight faults along h =
    IfFault-weaker {P = IsShort before weight} {Q = IsFirst faults} refused (λ fault short. along short.1 ∙ ap Some (sym short.0)) h

module _ (base : Base) (pprof : Pprof) (kinds : List ValueType) (number : ℕ) (d : ValueType) (room after : ℕ) where
  pub room-left : (rest : ℕ) → kinds ≡ pprof.sample_types → number < length kinds
      → room + rest + sum_by held_weight (take number (profiles_of base pprof)) ≡ 268435456
      → room ≡ after + held_weight (profile_of base pprof number (get_or kinds number d))
      → after + rest + sum_by held_weight (take (number + 1) (profiles_of base pprof)) ≡ 268435456
  room-left rest own short before taken =
      let next = profiles-more base pprof kinds (take number (profiles_of base pprof)) (profile_of base pprof number (get_or kinds number d)) number d own short refl refl in
      let weighed = ap (sum_by held_weight) next in
      let more = weight-push (take number (profiles_of base pprof)) (profile_of base pprof number (get_or kinds number d)) in
      omega arith

  pub profile-no_room : (refused : Refused PprofFault) (rest : ℕ)
      → kinds ≡ pprof.sample_types → number < length kinds → rest ≤ sum_by held_weight (drop (number + 1) (profiles_of base pprof))
      → room + rest + sum_by held_weight (take number (profiles_of base pprof)) ≡ 268435456
      → IfFault (IsShort room (held_weight (profile_of base pprof number (get_or kinds number d)))) refused
      → IfFault (IsFirst (weight_faults base pprof)) refused
  profile-no_room refused rest own short light before h =
      let next = profiles-more base pprof kinds (take number (profiles_of base pprof)) (profile_of base pprof number (get_or kinds number d)) number d own short refl refl in
      let weighed = ap (sum_by held_weight) next in
      let more = weight-push (take number (profiles_of base pprof)) (profile_of base pprof number (get_or kinds number d)) in
      let whole = ap (sum_by held_weight) (take-append-drop (number + 1) (profiles_of base pprof)) in
      let parts = sum_by-append held_weight (take (number + 1) (profiles_of base pprof)) (drop (number + 1) (profiles_of base pprof)) in
      no-room refused room (held_weight (profile_of base pprof number (get_or kinds number d))) (weight_faults base pprof)
      (λ less. too-heavy base pprof (omega arith)) h

-- ---- the sums that are left

abbrev values_in : Held → List sums.Sample
values_in held = held.values

map-numbers : {X : Type 0} (f : ℕ → X) (from : ℕ) (kinds : List ValueType)
    → map (λ (one : ℕ × ValueType). f one.0) (enumerate_from from kinds) ≡ map f (range_with_len from (length kinds))
map-numbers f from [] = refl
map-numbers f from (kind ∷ kinds) = ap (λ xs. f from ∷ xs) (map-numbers f (from + 1) kinds)

map-twice : {A X Y : Type 0} (f : A → X) (g : X → Y) (xs : List A) → map g (map f xs) ≡ map (λ x. g (f x)) xs
map-twice f g [] = refl
map-twice f g (x ∷ xs) = ap (λ ys. g (f x) ∷ ys) (map-twice f g xs)

sums-held : (base : Base) (pprof : Pprof) → all_sums pprof ≡ map values_in (profiles_of base pprof)
unfolding all_sums profiles_of profile_of
sums-held base pprof =
    sym (map-twice (λ (one : ℕ × ValueType). profile_of base pprof one.0 one.1) values_in (enumerate_from 0 pprof.sample_types)
    ∙ map-numbers (λ number. sums.sums_of (samples_of pprof number)) 0 pprof.sample_types)

held-light : (all : List Held) → sums_weight (map values_in all) ≤ sum_by held_weight all
held-light [] = omega arith
held-light (one ∷ all) =
    let rest = held-light all in
    let stacks = sum_by-cons stacks_weight (values_in one) (map values_in all) in
    let whole = sum_by-cons held_weight one all in omega arith

-- the sums of the profiles that are to come weigh no more than these
pub rest-light : (base : Base) (pprof : Pprof) (n : ℕ) → sums_weight (drop n (all_sums pprof)) ≤ sum_by held_weight (drop n (profiles_of base pprof))
rest-light base pprof n =
    let e = ap sums_weight (ap (drop n) (sums-held base pprof) ∙ drop-map values_in n (profiles_of base pprof)) in
    let light = held-light (drop n (profiles_of base pprof)) in omega arith

pub sums-heavy : (base : Base) (pprof : Pprof) (refused : Refused PprofFault) → IfFault (IsShort 268435456 (sums_weight (all_sums pprof))) refused
    → IfFault (IsFirst (weight_faults base pprof)) refused
sums-heavy base pprof refused h =
    let light = rest-light base pprof 0 in
    no-room refused 268435456 (sums_weight (all_sums pprof)) (weight_faults base pprof) (λ less. too-heavy base pprof (omega arith)) h

pub sums-length : (pprof : Pprof) → length (all_sums pprof) ≡ length pprof.sample_types
unfolding all_sums
sums-length pprof = length-map-range_with_len (λ number. sums.sums_of (samples_of pprof number)) 0 (length pprof.sample_types)

-- the next of the sums that are left
pub next-left : (pprof : Pprof) (number : ℕ) (left rest : List (List sums.Sample)) (values : List sums.Sample) → number < length pprof.sample_types
    → left ≡ drop number (all_sums pprof) → left ≡ values ∷ rest → (values ≡ sums.sums_of (samples_of pprof number)) × (rest ≡ drop (number + 1) (all_sums pprof))
unfolding all_sums
next-left pprof number left rest values within before is =
    let size = sums-length pprof in
    let first : drop number (all_sums pprof) ≡ get_or (all_sums pprof) number [] ∷ drop (suc number) (all_sums pprof) = drop-cons (all_sums pprof) number [] (omega arith) in
    let both : values ∷ rest ≡ get_or (all_sums pprof) number [] ∷ drop (suc number) (all_sums pprof) = sym is ∙ before ∙ first in
    let e : suc number ≡ number + 1 = omega arith in
    let value : values ≡ get_or (all_sums pprof) number [] = ap (λ (xs : List (List sums.Sample)). get_or xs 0 []) both in
    let others : rest ≡ drop (suc number) (all_sums pprof) = ap (λ (xs : List (List sums.Sample)). drop 1 xs) both in (
      value ∙ get_or-map-range_with_len (λ n. sums.sums_of (samples_of pprof n)) 0 (length pprof.sample_types) number number [] within (omega arith),
      others ∙ ap (λ n. drop n (all_sums pprof)) e,
    )
