use Rattle.std.proofs.Common.{◌≡◌, [], Some, sym, ap, ◌∙◌}
use Rattle.std.proofs.lemmas.Result.{err_from_is_err_and}
use Rattle.pprof_codec.specs.Checks.{first_of, first_text_faults, text_faults, type_faults}
use Rattle.pprof_codec.proofs.FaultLemmas.{first-none}
use Rattle.pprof_codec.proofs.JudgedLemmas.{judged-part, first_text-leads, texts-lead, types-lead, to_types-none}
use Rattle.pprof_codec.proofs.judged.judge_texts.Goals as goal

pub returns-in-Some : goal.returns-in-Some
returns-in-Some c =
    let first : first_of (first_text_faults c.args.message.now.texts) ≡ Some c.in-Some.fault = sym (c.first_text_fault.ensures ∙ ap (λ texts. first_of (first_text_faults texts)) c.texts.ensures) ∙ c.in-Some.is in
    first_text-leads c.args.message.now c.in-Some.fault first

pub returns-in_err-names : goal.returns-in_err-names
returns-in_err-names c =
    let first : first_text_faults c.args.message.now.texts ≡ [] = first-none _ (sym (c.first_text_fault.ensures ∙ ap (λ texts. first_of (first_text_faults texts)) c.texts.ensures) ∙ c.in_default.is) in
    let p = err_from_is_err_and c.from_residual.result c.from_residual.ensures.1 in
    rw (p.1, p.2)
    (judged-part _ _ c.in_err-names.field-0.0
    (λ fault here. texts-lead c.args.message.now first fault (sym (ap (λ texts. first_of (text_faults texts)) c.texts-2.ensures) ∙ here))
    c.in_err-names.ensures)

pub returns-in-Some-first_type_fault : goal.returns-in-Some-first_type_fault
returns-in-Some-first_type_fault c =
    let first : first_text_faults c.args.message.now.texts ≡ [] = first-none _ (sym (c.first_text_fault.ensures ∙ ap (λ texts. first_of (first_text_faults texts)) c.texts.ensures) ∙ c.in_default.is) in
    let all : text_faults c.args.message.now.texts ≡ [] = sym (ap text_faults c.texts-2.ensures) ∙ c.in_ok-names.ensures.0 in
    let names : c.deref.result.now ≡ c.args.message.now.texts = c.deref.ensures.value ∙ c.in_ok-names.ensures.1 ∙ c.texts-2.ensures in
    types-lead c.args.message.now first all c.in-Some-first_type_fault.fault
    (sym (c.first_type_fault.ensures ∙ ap (λ texts. first_of (type_faults texts c.args.message.now)) names) ∙ c.in-Some-first_type_fault.is)

pub returns : goal.returns
returns c =
    let first : first_text_faults c.args.message.now.texts ≡ [] = first-none _ (sym (c.first_text_fault.ensures ∙ ap (λ texts. first_of (first_text_faults texts)) c.texts.ensures) ∙ c.in_default.is) in
    let all : text_faults c.args.message.now.texts ≡ [] = sym (ap text_faults c.texts-2.ensures) ∙ c.in_ok-names.ensures.0 in
    let kept : c.in_ok-names.names.items ≡ c.args.message.now.texts = c.in_ok-names.ensures.1 ∙ c.texts-2.ensures in
    let types : type_faults c.args.message.now.texts c.args.message.now ≡ [] =
    first-none _ (sym (c.first_type_fault.ensures ∙ ap (λ texts. first_of (type_faults texts c.args.message.now)) (c.deref.ensures.value ∙ kept)) ∙ c.in_default-first_type_fault.is) in
    (to_types-none c.args.message.now first all types, kept)
