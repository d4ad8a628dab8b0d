-- Faults handed on.
use Rattle.std.proofs.Common.{◌≡◌, ◌&&◌, ℕ, Bool, true, false, List, Result, Ok, Err, refl, subst, sym}
use Rattle.std.specs.Prelude.{MatchResult, IsErrAnd}
use Rattle.std.specs.Str.{IsUtf8, is_utf8}
use Rattle.std.proofs.lemmas.Bool.{and_from}
use Rattle.std.proofs.lemmas.Str.{IsUtf8-from_is_utf8, is_utf8-from_IsUtf8}
use Rattle.faults.specs.Answers.{IfFault}
use Rattle.faults.specs.declared.refused.Refused.{Refused}
use Rattle.faults.specs.declared.refused.Refused.TheVariants.{Fault, Memory}
use Rattle.segment_file.specs.Reading.{is_kept}

-- an exit by a fault
pub handed : {A F : Type 0} (r : Result A F) (fault : F) (Good : A → Type 0) (Bad : F → Type 0) → IsErrAnd r (λ e. e ≡ fault) → Bad fault → MatchResult r Good Bad
handed (Ok a) fault Good Bad is bad = absurd is
handed (Err e) fault Good Bad is bad = subst Bad (sym is) bad

pub weaker : {F : Type 0} (Bad Worse : F → Type 0) (refused : Refused F) → ((fault : F) → Bad fault → Worse fault) → IfFault Bad refused → IfFault Worse refused
weaker Bad Worse (Fault fault) worse bad = worse fault bad
weaker Bad Worse Memory worse bad = tt

-- a text that is UTF-8, and one that isn't
pub text_kept : (sound : Bool) (text : List ℕ) → sound ≡ true → IsUtf8 text → is_kept sound text ≡ true
text_kept sound text is utf8 = and_from sound (is_utf8 text) is (is_utf8-from_IsUtf8 text utf8)

no_text : (sound : Bool) (text : List ℕ) (kept : Bool) → kept ≡ is_utf8 text → ¬ (IsUtf8 text) → sound && kept ≡ false
no_text false text kept is broken = refl
no_text true text true is broken = absurd (broken (IsUtf8-from_is_utf8 text (sym is)))
no_text true text false is broken = refl

pub text_broken : (sound : Bool) (text : List ℕ) → ¬ (IsUtf8 text) → is_kept sound text ≡ false
text_broken sound text broken = no_text sound text (is_utf8 text) refl broken

-- an exit by a call's fault, of which something else is said
pub exit : {A F : Type 0} (r : Result A (Refused F)) (refused : Refused F) (Good : A → Type 0) (Bad Worse : F → Type 0) → IsErrAnd r (λ e. e ≡ refused)
    → ((fault : F) → Bad fault → Worse fault) → IfFault Bad refused → MatchResult r Good (IfFault Worse)
exit r refused Good Bad Worse is worse bad = handed r refused Good (IfFault Worse) is (weaker Bad Worse refused worse bad)
