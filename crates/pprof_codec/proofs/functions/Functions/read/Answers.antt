use Rattle.std.proofs.Common.{ℕ, List, [], ◌∷◌, ◌++◌, length, min, get_or, refl, sym, ap, ◌∙◌, arith}
use Rattle.std.specs.Prelude.{map}
use Rattle.std.proofs.lemmas.List.{length-map, length-take, map-append}
use Rattle.pprof_message.specs.declared.lists.Function.{Function}
use Rattle.pprof_codec.specs.Frames.{function_frame, unknown_frame}
use Rattle.pprof_codec.specs.Checks.{faults_of_function, function_faults}
use Rattle.pprof_codec.proofs.FaultLemmas.{shown-push, shown-all, each-all}
use Rattle.pprof_codec.proofs.MemberLemmas.{own_faults, member-first, member-kept, function-new_id}
use Rattle.pprof_codec.proofs.functions.Functions.read.Goals as goal

pub push-requires : goal.push-requires
push-requires c = function-new_id c.args.names.now c.loop-number.ids c.loop-number.number _ c.function_fault.result c.function_fault.ensures c.in_default.is

pub returns-in-Some : goal.returns-in-Some
unfolding function_faults
returns-in-Some c =
    member-first (λ (f : Function). f.id) (faults_of_function c.args.names.now) c.args.functions.now c.loop-number.ids c.loop-number.number _ c.function_fault.result c.in-Some.fault
    (omega arith) c.loop-number.invariant.known c.loop-number.invariant.judged c.function_fault.ensures c.in-Some.is

pub loop-number-preserved : goal.loop-number-preserved
loop-number-preserved c = record {
  known =
      c.in_ok-push.ensures
      ∙ shown-push (λ (f : Function). f.id) c.loop-number.ids _ c.args.functions.now c.loop-number.number _ (omega arith) c.loop-number.invariant.known refl;
  framed =
      c.in_ok-push-2.ensures.items
      ∙ shown-push (function_frame c.args.names.now) c.loop-number.frames.items _ c.args.functions.now c.loop-number.number _ (omega arith)
      c.loop-number.invariant.framed (c.in_ok-clone.ensures.cases ∙ c.frame_of-frame.ensures);
  placed =
      λ rest.
      ap (map (λ place. get_or (c.args.names.now ++ unknown_frame ∷ rest) place [])) c.in_ok-push-3.ensures.items
      ∙ map-append (λ place. get_or (c.args.names.now ++ unknown_frame ∷ rest) place []) c.loop-number.places.items (c.place_of.result ∷ [])
      ∙ shown-push (function_frame c.args.names.now) (map (λ place. get_or (c.args.names.now ++ unknown_frame ∷ rest) place []) c.loop-number.places.items) _ c.args.functions.now c.loop-number.number _ (omega arith)
      (c.loop-number.invariant.placed rest) (c.place_of.ensures rest);
  judged =
      member-kept (λ (f : Function). f.id) (faults_of_function c.args.names.now) c.args.functions.now c.loop-number.ids c.loop-number.number _ c.function_fault.result
      (omega arith) c.loop-number.invariant.known c.loop-number.invariant.judged c.function_fault.ensures c.in_default.is;
}

pub returns : goal.returns
unfolding function_faults
returns c = (
  each-all (own_faults (λ (f : Function). f.id) (faults_of_function c.args.names.now) c.args.functions.now) c.args.functions.now c.loop-number.number (omega arith) c.loop-number.invariant.judged,
  (
    c.loop-number.invariant.known ∙ shown-all (λ (f : Function). f.id) c.args.functions.now c.loop-number.number (omega arith),
    c.loop-number.invariant.framed ∙ shown-all (function_frame c.args.names.now) c.args.functions.now c.loop-number.number (omega arith),
    λ rest. c.loop-number.invariant.placed rest ∙ shown-all (function_frame c.args.names.now) c.args.functions.now c.loop-number.number (omega arith),
  ),
)

pub invariant_of-result-clause-placed : goal.invariant_of-result-clause-placed
invariant_of-result-clause-placed c =
    let size = length-map c.loop-number.places.items (λ place. get_or (c.args.names.now ++ unknown_frame ∷ []) place []) in
    let held = ap (length {A = List ℕ}) (c.loop-number.invariant.placed []) in
    let known = ap (length {A = ℕ}) c.loop-number.invariant.known in
    let first = length-take c.loop-number.number (map (λ (f : Function). f.id) c.args.functions.now) in
    let second = length-take c.loop-number.number (map (function_frame c.args.names.now) c.args.functions.now) in
    let ids = length-map c.args.functions.now (λ (f : Function). f.id) in
    let frames = length-map c.args.functions.now (function_frame c.args.names.now) in
    sym size ∙ held ∙ second ∙ ap (min c.loop-number.number) (frames ∙ sym ids) ∙ sym first ∙ sym known
