-- What a body of folded text says.
use Rattle.std.specs.Prelude.{◌≡◌, ◌==◌, ℕ, ◌+◌, ◌<◌, List, ◌∷◌, ◌++◌, length, filter, nat_lt, Result, Ok, Err}
use Rattle.std.specs.List.{AllZip, slice_split}
use Rattle.std.specs.Str.{IsUtf8, IsValidUpTo}
use Rattle.wire_forms.specs.Gzip.{IsGzip}
use Rattle.profile_model.specs.Limits.{total_bound}
use Rattle.profile_model.specs.Sums.{Sample, total_of, sums_of}
use Rattle.folded_reader.specs.Lines.{IsSample, IsFaultOfLine}
use Rattle.folded_reader.specs.declared.line.LineForm.{LineForm}
use Rattle.folded_reader.specs.declared.line.LineForm.TheVariants.{Counted, Bare}
use Rattle.folded_reader.specs.declared.fault.FoldedFault.{FoldedFault}
use Rattle.folded_reader.specs.declared.fault.FoldedFault.TheVariants.{NotUtf8, Compressed}

-- the lines of a body, which stand between its newlines. The rest after the last newline is one too:
-- where it has no byte it says nothing, as any line without bytes.
abbrev pub lines_of : List ℕ → List (List ℕ)
lines_of body = slice_split (λ b. b == 10) body

-- the lines that have bytes
abbrev pub filled : List (List ℕ) → List (List ℕ)
filled lines = filter (λ line. nat_lt 0 (length line)) lines

-- what the lines say, in order, with all counts together below the bound of totals
pub record AreSamples (form : LineForm) (lines : List (List ℕ)) (samples : List Sample) : Type 0 where
  pub each : AllZip (IsSample form) (filled lines) samples
  pub bounded : total_of samples < total_bound

-- what the lines come to, stack by stack
pub record IsSumOf (form : LineForm) (lines : List (List ℕ)) (sums : List Sample) : Type 0 where
  pub samples : List Sample
  pub said : AreSamples form lines samples
  pub summed : sums ≡ sums_of samples

-- the fault of the first line that has one; lines are numbered from 1, those without bytes too
pub record IsFirstFault (form : LineForm) (lines : List (List ℕ)) (fault : FoldedFault) : Type 0 where
  pub before : List (List ℕ)
  pub line : List ℕ
  pub after : List (List ℕ)
  pub cut : lines ≡ before ++ line ∷ after
  pub samples : List Sample
  pub said : AreSamples form before samples
  pub has_bytes : 0 < length line
  pub here : IsFaultOfLine form (length before + 1) (total_of samples) line fault

-- the body is text
pub record IsText (body : List ℕ) : Type 0 where
  pub plain : ¬ (IsGzip body)
  pub utf8 : IsUtf8 body

-- what reading a body answers: the sums, or the first fault
abbrev pub IsRead : LineForm → List ℕ → Result (List Sample) FoldedFault → Type 0
IsRead form body (Ok sums) = IsText body × IsSumOf form (lines_of body) sums
IsRead form body (Err Compressed) = IsGzip body
IsRead form body (Err (NotUtf8 at)) = (¬ (IsGzip body)) × (¬ (IsUtf8 body)) × IsValidUpTo body at
IsRead form body (Err fault) = IsText body × IsFirstFault form (lines_of body) fault

-- each line is a stack, a space and a count
abbrev pub IsReadFolded : List ℕ → Result (List Sample) FoldedFault → Type 0
IsReadFolded = IsRead Counted

-- each line is a stack that counts once
abbrev pub IsReadLines : List ℕ → Result (List Sample) FoldedFault → Type 0
IsReadLines = IsRead Bare
