-- Bytes that don't begin as gzip does.
use Rattle.std.proofs.Common.{◌≡◌, ℕ, Bool, List, true, false, sym, ◌∙◌}
use Rattle.wire_forms.specs.Gzip.{begins_as_gzip, IsGzip}

-- the answer was no
pub not_begun : (bytes : List ℕ) (b : Bool) → b ≡ begins_as_gzip bytes → b ≡ false → ¬ (IsGzip bytes)
not_begun bytes b same fails begins = let differ : true ≡ false = sym begins ∙ sym same ∙ fails in cc
