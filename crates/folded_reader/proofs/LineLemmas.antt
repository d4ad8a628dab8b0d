-- A line's last space.
use Rattle.std.proofs.Common.{◌≡◌, ◌≢◌, ◌==◌, ℕ, List, ◌∷◌, ◌++◌, take, drop, sym, ap, ◌∙◌, lit<}
use Rattle.std.specs.List.{All}
use Rattle.std.specs.Str.{NoCharPasses}
use Rattle.std.specs.Str.Pattern.{RFindsChar, SplitsAroundMatch}
use Rattle.std.proofs.lemmas.List.{get_or_default, take-append-drop}
use Rattle.std.proofs.lemmas.Str.Pattern.{NoCharPasses-char, drop_at_char}
use Rattle.folded_reader.specs.Lines.{IsCutAtLastSpace}

-- a text without the character 32 has no such byte
pub no_space : (bs : List ℕ) → NoCharPasses (λ d. d == 32) bs → All (λ b. b ≢ 32) bs
no_space bs none k d within is = NoCharPasses-char 32 bs k none (lit< tt) within (get_or_default bs k 0 d within ∙ is)

-- what `rsplit_once` says where it finds a space
pub cut_of : (line stack digits : List ℕ) → SplitsAroundMatch (RFindsChar 32) line stack digits → IsCutAtLastSpace line stack digits
cut_of line stack digits h =
    let from : ℕ = h.0 in
    let to : ℕ = h.1 in
    let at : drop from line ≡ 32 ∷ drop to line = drop_at_char 32 line from to h.2.1 (lit< tt) in
    record {
      joined = sym (take-append-drop from line) ∙ ap (λ rest. take from line ++ rest) at ∙ (λ i. sym h.3 i ++ 32 ∷ sym h.4 i);
      last = rw h.4 (no_space (drop to line) h.2.0);
    }
