-- Bytes have one reading.
use Rattle.std.proofs.Common.{◌≡◌, ℕ, List, Option, Some, None, Result, Ok, Err, sym, ap, ◌∙◌}
use Rattle.std.proofs.lemmas.Option.{none-some}
use Rattle.pprof_message.specs.Broken.{broken_place}
use Rattle.pprof_message.specs.Pprof.{Pprof}
use Rattle.pprof_message.specs.Read.{IsReadMessage}
use Rattle.pprof_message.specs.declared.fault.MessageFault.{MessageFault}
use Rattle.pprof_message.specs.declared.fault.MessageFault.TheVariants.{Broken}

whole_not_broken : (place : Option ℕ) (at : ℕ) → place ≡ None → place ≡ Some at → ⊥
whole_not_broken place at whole broken = none-some at (sym whole ∙ broken)

same_place : (place : Option ℕ) (at other : ℕ) → place ≡ Some at → place ≡ Some other → at ≡ other
same_place place at other here there = let same : Some at ≡ Some other = sym here ∙ there in cc

pub one_reading : (bytes : List ℕ) (first second : Result Pprof MessageFault) → IsReadMessage bytes first → IsReadMessage bytes second → first ≡ second
one_reading bytes (Ok pprof) (Ok other) h k = ap Ok (h.1 ∙ sym k.1)
one_reading bytes (Ok pprof) (Err (Broken at)) h k = absurd (whole_not_broken (broken_place bytes) at h.0 k)
one_reading bytes (Err (Broken at)) (Ok pprof) h k = absurd (whole_not_broken (broken_place bytes) at k.0 h)
one_reading bytes (Err (Broken at)) (Err (Broken other)) h k = ap (λ place. Err (Broken place)) (same_place (broken_place bytes) at other h k)
