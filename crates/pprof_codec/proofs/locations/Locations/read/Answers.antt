use Rattle.std.proofs.Common.{ℕ, List, [], ◌∷◌, Vec, Global, refl, ap, ◌∙◌, arith}
use Rattle.std.specs.Prelude.{map}
use Rattle.std.proofs.lemmas.List.{map-append}
use Rattle.pprof_codec.specs.Tables.{frame_numbered}
use Rattle.pprof_message.specs.Pprof.{Location}
use Rattle.pprof_codec.specs.Frames.{location_frames}
use Rattle.pprof_codec.specs.Checks.{faults_of_location, location_faults}
use Rattle.pprof_codec.proofs.FaultLemmas.{read-push, shown-all, each-all}
use Rattle.pprof_codec.proofs.MemberLemmas.{own_faults, member-read_first, member-read_kept, location-new_id}
use Rattle.pprof_codec.proofs.locations.Locations.read.Goals as goal

pub push-requires : goal.push-requires
push-requires c =
    location-new_id c.args.message.now c.loop-number.ids c.loop-number.number _ c.location_fault.result
    (c.location_fault.ensures c.args.message.now c.requires.functions) c.in_default.is

pub returns-in-Some : goal.returns-in-Some
unfolding location_faults
returns-in-Some c =
    member-read_first (λ (l : Location). l.id) (faults_of_location c.args.message.now) c.args.message.now.locations c.loop-number.ids c.loop-number.number _ c.location_fault.result c.in-Some.fault
    c.location-location.ensures c.loop-number.invariant.known c.loop-number.invariant.judged (c.location_fault.ensures c.args.message.now c.requires.functions) c.in-Some.is

pub loop-number-preserved : goal.loop-number-preserved
loop-number-preserved c = record {
  known =
      c.in_ok-push.ensures
      ∙ read-push (λ (l : Location). l.id) c.loop-number.ids _ c.args.message.now.locations c.loop-number.number _ c.location-location.ensures c.loop-number.invariant.known refl;
  framed =
      c.in_ok-push-2.ensures.items
      ∙ read-push (location_frames c.args.message.now) c.loop-number.frames.items _ c.args.message.now.locations c.loop-number.number _ c.location-location.ensures
      c.loop-number.invariant.framed (c.in_ok-frames_of.ensures c.args.message.now c.requires.functions);
  numbered =
      let view : Vec ℕ Global → List (List ℕ) = λ one. map (frame_numbered c.args.message.now) one.items in
      ap (map view) c.in_ok-push-3.ensures.items
      ∙ map-append view c.loop-number.numbers.items (c.in_ok-numbers_of.field-0 ∷ [])
      ∙ read-push (location_frames c.args.message.now) (map view c.loop-number.numbers.items) _ c.args.message.now.locations c.loop-number.number _ c.location-location.ensures
      c.loop-number.invariant.numbered c.in_ok-numbers_of.ensures;
  judged =
      member-read_kept (λ (l : Location). l.id) (faults_of_location c.args.message.now) c.args.message.now.locations c.loop-number.ids c.loop-number.number _ c.location_fault.result
      c.location-location.ensures c.loop-number.invariant.known c.loop-number.invariant.judged (c.location_fault.ensures c.args.message.now c.requires.functions) c.in_default.is;
}

pub returns : goal.returns
unfolding location_faults
returns c = (
  each-all (own_faults (λ (l : Location). l.id) (faults_of_location c.args.message.now) c.args.message.now.locations) c.args.message.now.locations c.loop-number.number (omega arith) c.loop-number.invariant.judged,
  (
    record {
      known = c.loop-number.invariant.known ∙ shown-all (λ (l : Location). l.id) c.args.message.now.locations c.loop-number.number (omega arith);
      framed = c.loop-number.invariant.framed ∙ shown-all (location_frames c.args.message.now) c.args.message.now.locations c.loop-number.number (omega arith);
    },
    c.loop-number.invariant.numbered ∙ shown-all (location_frames c.args.message.now) c.args.message.now.locations c.loop-number.number (omega arith),
  ),
)
