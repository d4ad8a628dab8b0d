-- Queries of one text, and the first points that aren't before a time.
use Rattle.std.proofs.Common.{◌≡◌, ◌∙◌, ◌+◌, ◌*◌, ◌<◌, ◌≤◌, ℕ, Bool, true, false, ltb, [], arith, get_or, refl, sym, ap}
use Rattle.std.specs.Prelude.{◌-◌}
use Rattle.std.proofs.Math.Nat.{add-mul, mul-le-mul_right}
use Rattle.std.proofs.lemmas.Bool.{ltb-false, ltb-true}
use Rattle.std.specs.Int.{div_ceil}
use Rattle.std.proofs.lemmas.Grind.{div_ceil_times}
use Rattle.profile_model.specs.Kinds.{IsPart, parts_of}
use Rattle.profile_model.specs.ReadKinds.{parts_in}
use Rattle.profile_model.specs.declared.kind.ProfileType.{ProfileType}
use Rattle.selector.proofs.MeaningLemmas.{one_query}
use Rattle.query_merge.specs.Grid.{width_of}
use Rattle.query_merge.proofs.TypeLemmas.{parts_of_text}
use Rattle.query_merge.specs.Laws.{OneQuery, OneType, PointsAreFirst}
use Rattle.std.proofs.Props.{props}
use mathlib.Core.HLevel.{is_prop→PathP}

one_kind : (kind other : ProfileType) → parts_in kind ≡ parts_in other → kind ≡ other
one_kind kind other same =
    let name = ap (λ parts. get_or parts 0 []) same in
    let sample_type = ap (λ parts. get_or parts 1 []) same in
    let sample_unit = ap (λ parts. get_or parts 2 []) same in
    let period_type = ap (λ parts. get_or parts 3 []) same in
    let period_unit = ap (λ parts. get_or parts 4 []) same in
    λ i. record {
      name = name i;
      sample_type = sample_type i;
      sample_unit = sample_unit i;
      period_type = period_type i;
      period_unit = period_unit i;
      parts = is_prop→PathP (λ j. IsPart (name j) × IsPart (sample_type j) × IsPart (sample_unit j) × IsPart (period_type j) × IsPart (period_unit j)) (λ j. hlevel props) kind.parts other.parts i;
    }

pub query_once : OneQuery
query_once text one other (built, (parts, are)) (again, (same, too)) =
    let kind = one_kind one.kind other.kind (sym parts ∙ same) in
    let selector = (one_query text are.form.0 too.form.0 one.selector other.selector are.form.1 too.form.1).1 in
    λ i. record { kind = kind i; selector = selector i }

-- types with one text are one type
pub one_type : OneType
one_type one other same = one_kind one other (sym (parts_of_text one) ∙ ap parts_of same ∙ parts_of_text other)

-- ---- first points

-- a count of widths that is needed is no more than one that comes as far
no_more : (a count i w : ℕ) → a ≤ i * w → count * w < a + w → count * w ≤ i * w
no_more a count i w far short = by (ltb i count) refl
  where
    by : (more : Bool) → ltb i count ≡ more → count * w ≤ i * w
    by true is =
        let more = ltb-true i count is in
        let next : i + 1 ≤ count = omega arith in
        let times : (i + 1) * w ≤ count * w = mul-le-mul_right w next in
        let split = add-mul i 1 w in
        absurd (omega arith)
    by false is = mul-le-mul_right w (ltb-false i count is)

pub points_first : PointsAreFirst
points_first start step time some =
    let wide : 0 < width_of step = omega arith in
    let bounds = div_ceil_times (time - start) (width_of step) wide in
    record {
      index = div_ceil (time - start) (width_of step);
      at = refl;
      not_before = let reach = bounds.0 in omega arith;
      first = λ i far.
          let within : time - start ≤ i * width_of step = omega arith in
          let least = no_more (time - start) (div_ceil (time - start) (width_of step)) i (width_of step) within bounds.1 in
          omega arith;
    }
