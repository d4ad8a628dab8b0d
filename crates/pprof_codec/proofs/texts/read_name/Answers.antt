use Rattle.std.proofs.Common.{◌≡◌, ℕ, List, false, Err, subst, ap}
use Rattle.std.specs.Prelude.{not}
use Rattle.std.specs.Str.{IsUtf8, is_utf8}
use Rattle.std.proofs.lemmas.Bool.{false_from_ne_true}
use Rattle.std.proofs.lemmas.Str.{is_utf8-from_IsUtf8, IsUtf8-from_is_utf8}
use Rattle.faults.specs.Answers.{IfAnswered}
use Rattle.profile_model.specs.Names.{IsReadName}
use Rattle.profile_model.specs.declared.name.NameFault.{NameFault}
use Rattle.profile_model.specs.declared.name.NameFault.TheVariants as name
use Rattle.pprof_codec.specs.Checks.{fault_if}
use Rattle.pprof_codec.specs.declared.fault.PprofFault.TheVariants.{NotUtf8}
use Rattle.pprof_codec.proofs.FaultLemmas.{only-found}
use Rattle.pprof_codec.proofs.texts.read_name.Goals as goal

pub returns-in-Ok : goal.returns-in-Ok
returns-in-Ok c =
    (ap (λ b. fault_if (not b) (NotUtf8 c.args.number)) (is_utf8-from_IsUtf8 c.args.text.now c.in-Ok.ensures.read.0), c.in-Ok.ensures.read.1)

no_text : (bytes : List ℕ) (fault : NameFault) → IsReadName bytes (Err fault) → ¬ (IsUtf8 bytes)
no_text bytes (name.NotUtf8 at) h = h.0

pub returns-in-Err-Fault-NotUtf8 : goal.returns-in-Err-Fault-NotUtf8
returns-in-Err-Fault-NotUtf8 c =
    let read = subst (λ refused. IfAnswered (IsReadName c.args.text.now) (Err refused)) c.in-Err-Fault-NotUtf8.field-0-is c.in-Err-Fault-NotUtf8.ensures.read in
    let other : is_utf8 c.args.text.now ≡ false = false_from_ne_true (is_utf8 c.args.text.now) (λ is. no_text c.args.text.now _ read (IsUtf8-from_is_utf8 c.args.text.now is)) in
    only-found (not (is_utf8 c.args.text.now)) (NotUtf8 c.args.number) (ap not other)
