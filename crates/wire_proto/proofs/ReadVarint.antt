-- What a caller learns of a number that was read.
use Rattle.std.proofs.Common.{◌≡◌, ◌↔◌, ℕ, List, Result, Ok, Err, sym, ap, ◌∙◌, subst}
use Rattle.std.specs.Prelude.{IfOk, IsOkAnd}
use Rattle.wire_proto.specs.declared.field.WireFault.{WireFault}
use Rattle.wire_proto.specs.Varint.{HasVarint, IsVarintFault}
use Rattle.wire_proto.specs.Reading.{Gives, varint_at}
use Rattle.wire_proto.proofs.Varints.{IsBytes, ok_is}
use Rattle.wire_proto.proofs.FieldReads.{VarintReads, varint_reads}
use Rattle.wire_proto.proofs.FieldAgain.{has_varint, varint_fault_again}

pub found : {X : Type 0} (view : X → ℕ × List ℕ) (r : Result X WireFault) (at : ℕ) (bytes : List ℕ) → IsBytes bytes → Gives view r (varint_at at bytes) → IfOk r (λ x. HasVarint bytes (view x).0 (view x).1)
found view (Ok x) at bytes fits e = let P = VarintReads at bytes in subst P e (varint_reads at bytes fits)
found view (Err fault) at bytes fits e = tt

pub only : {X : Type 0} (view : X → ℕ × List ℕ) (r : Result X WireFault) (at : ℕ) (bytes : List ℕ) (n : ℕ) (rest : List ℕ) → Gives view r (varint_at at bytes) → HasVarint bytes n rest
    → IsOkAnd r (λ x. ((view x).0 ≡ n) × ((view x).1 ≡ rest))
only view (Ok x) at bytes n rest e h =
    let spelled : ℕ × List ℕ = (n, rest) in
    let same : view x ≡ spelled = ok_is (view x) spelled (sym e ∙ has_varint at bytes n rest h) in
    (ap (λ (p : ℕ × List ℕ). p.0) same, ap (λ (p : ℕ × List ℕ). p.1) same)
only view (Err fault) at bytes n rest e h = let both = has_varint at bytes n rest h in absurd cc

-- what was told is what reading tells
pub told : {X Y : Type 0} (view : X → Y) (r : Result X WireFault) (read : Result Y WireFault) (fault : WireFault) → Gives view r read → read ≡ Err fault → r ≡ Err fault
told view (Ok x) read fault e h = absurd cc
told view (Err other) read fault e h = let both : Err other ≡ Err fault = sym e ∙ h in let same : other ≡ fault = cc in ap Err same

pub fault : {X : Type 0} (view : X → ℕ × List ℕ) (r : Result X WireFault) (at : ℕ) (bytes : List ℕ) (f : WireFault) → IsBytes bytes → Gives view r (varint_at at bytes) → (r ≡ Err f) ↔ IsVarintFault bytes at f
fault view (Ok x) at bytes f fits e = (λ h. absurd cc, λ h. let both = varint_fault_again at bytes f h in absurd cc)
fault view (Err other) at bytes f fits e =
    let P = VarintReads at bytes in
    let found : IsVarintFault bytes at other = subst P e (varint_reads at bytes fits) in
    let Q : WireFault → Type 0 = IsVarintFault bytes at in
    (λ h. let same : other ≡ f = cc in subst Q same found, λ h. told view (Err other) (varint_at at bytes) f e (varint_fault_again at bytes f h))
