use Rattle.std.proofs.Common.{◌≡◌, [], ◌∷◌, ◌++◌, get_or, sym, ap, ◌∙◌}
use Rattle.std.specs.Prelude.{map}
use Rattle.std.proofs.lemmas.Result.{err_from_is_err_and}
use Rattle.pprof_message.specs.declared.lists.Function.{Function}
use Rattle.pprof_codec.specs.Frames.{address_frame, function_frame, unknown_frame}
use Rattle.pprof_codec.specs.Tables.{numbered_frames}
use Rattle.pprof_message.specs.Pprof.{Location}
use Rattle.pprof_codec.specs.Checks.{first_of, function_faults, location_faults, place_faults}
use Rattle.pprof_codec.proofs.JudgedLemmas.{judged-part, judged-last, functions-lead, locations-lead, places-none}
use Rattle.pprof_codec.proofs.judged.judge_locations.Goals as goal

pub read-requires : goal.read-requires
read-requires c = c.requires.name

pub returns-in_err-functions : goal.returns-in_err-functions
returns-in_err-functions c =
    let same : function_faults c.args.names.now c.functions.result.now ≡ function_faults c.args.message.now.texts c.args.message.now.functions =
    ap (λ texts. function_faults texts c.functions.result.now) c.requires.texts ∙ ap (function_faults c.args.message.now.texts) c.functions.ensures in
    let p = err_from_is_err_and c.from_residual.result c.from_residual.ensures.1 in
    rw (p.1, p.2)
    (judged-part _ _ c.in_err-functions.field-0.0
    (λ fault here. functions-lead c.args.message.now fault (sym (ap first_of same) ∙ here))
    c.in_err-functions.ensures)

pub read-requires-2-clause-name : goal.read-requires-2-clause-name
read-requires-2-clause-name c = c.requires.name

pub read-requires-2-clause-functions : goal.read-requires-2-clause-functions
read-requires-2-clause-functions c = record {
  known = c.in_ok-functions.ensures.1.0 ∙ ap (map (λ (f : Function). f.id)) c.functions.ensures;
  framed =
      c.in_ok-functions.ensures.1.1 ∙ ap (λ texts. map (function_frame texts) c.functions.result.now) c.requires.texts
      ∙ ap (map (function_frame c.args.message.now.texts)) c.functions.ensures;
}

pub returns : goal.returns
returns c =
    let same : function_faults c.args.names.now c.functions.result.now ≡ function_faults c.args.message.now.texts c.args.message.now.functions =
    ap (λ texts. function_faults texts c.functions.result.now) c.requires.texts ∙ ap (function_faults c.args.message.now.texts) c.functions.ensures in
    let functions : function_faults c.args.message.now.texts c.args.message.now.functions ≡ [] = sym same ∙ c.in_ok-functions.ensures.0 in
    judged-last _ (location_faults c.args.message.now) (place_faults c.args.message.now) c.read-2.result
    (locations-lead c.args.message.now functions) (places-none c.args.message.now functions) c.read-2.ensures

pub read-requires-2-clause-places : goal.read-requires-2-clause-places
unfolding numbered_frames
read-requires-2-clause-places c =
    let rest = map (λ (location : Location). address_frame location.address) c.args.message.now.locations in
    ap (λ texts. map (λ place. get_or (texts ++ unknown_frame ∷ rest) place []) c.in_ok-functions.functions.places.items) (sym c.requires.texts)
    ∙ c.in_ok-functions.ensures.1.2 rest ∙ sym c.in_ok-functions.ensures.1.1
