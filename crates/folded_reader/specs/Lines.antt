-- What a line says. Folded stacks are the text of Brendan Gregg's flame graph tools: frames from the root
-- joined by ';', a space and a count. The faults and the bounds are this project's own.
use Rattle.std.specs.Prelude.{◌≡◌, ◌≢◌, ◌==◌, ◌⊎◌, ℕ, ◌+◌, ◌<◌, ◌≤◌, List, ◌∷◌, ◌++◌, length}
use Rattle.std.specs.List.{All, Any, slice_split}
use Rattle.std.specs.Str.Parse.{IsNumeral, digits_value}
use Rattle.profile_model.specs.Limits.{most_frames, most_frame_bytes, total_bound}
use Rattle.profile_model.specs.Stacks.{IsStack}
use Rattle.profile_model.specs.Sums.{Sample}
use Rattle.folded_reader.specs.declared.line.LineForm.{LineForm}
use Rattle.folded_reader.specs.declared.line.LineForm.TheVariants.{Counted, Bare}
use Rattle.folded_reader.specs.declared.fault.FoldedFault.{FoldedFault}
use Rattle.folded_reader.specs.declared.fault.FoldedFault.TheVariants.{NoCount, BadCount, EmptyFrame, TooLarge, TooDeep, LongFrame}

-- the frames of a stack's text, which stand between its ';'
abbrev pub frames_of : List ℕ → List (List ℕ)
frames_of text = slice_split (λ b. b == 59) text

-- a line is the text of a stack, a space, and the text of a count, which holds no space
pub record IsCutAtLastSpace (line stack digits : List ℕ) : Type 0 where
  pub joined : line ≡ stack ++ 32 ∷ digits
  pub last : All (λ b. b ≢ 32) digits

-- decimal digits alone, with any number of leading zeros, of a number below the bound of totals
pub record IsCount (digits : List ℕ) (count : ℕ) : Type 0 where
  pub numeral : IsNumeral 10 digits
  pub value : count ≡ digits_value 10 digits
  pub bounded : count < total_bound

-- the text of the line's stack, and its count; a bare line is a stack that counts once
abbrev pub Says : LineForm → List ℕ → List ℕ → ℕ → Type 0
Says Counted line stack count = (digits : List ℕ) × IsCutAtLastSpace line stack digits × IsCount digits count
Says Bare line stack count = (stack ≡ line) × (count ≡ 1)

-- the line says a stack and its value
pub record IsSample (form : LineForm) (line : List ℕ) (sample : Sample) : Type 0 where
  pub text : List ℕ
  pub says : Says form line text sample.1
  pub frames : sample.0 ≡ frames_of text
  pub stack : IsStack sample.0

-- line n says no stack and count: it has no space, or what follows its last space is no count
abbrev pub SaysNothing : LineForm → ℕ → List ℕ → FoldedFault → Type 0
SaysNothing Counted n line (NoCount at) = (at ≡ n) × All (λ b. b ≢ 32) line
SaysNothing Counted n line (BadCount at) =
    (at ≡ n) × (stack : List ℕ) × (digits : List ℕ) × IsCutAtLastSpace line stack digits × ((count : ℕ) → ¬ (IsCount digits count))
SaysNothing form n line fault = ⊥

-- these frames of line n are no stack, and the fault names the first of three rules that they break
abbrev pub AreNoStack : ℕ → List (List ℕ) → FoldedFault → Type 0
AreNoStack n frames (EmptyFrame at) = (at ≡ n) × Any (λ frame. length frame ≡ 0) frames
AreNoStack n frames (TooDeep at) = (at ≡ n) × All (λ frame. 0 < length frame) frames × (most_frames < length frames)
AreNoStack n frames (LongFrame at) =
    (at ≡ n) × All (λ frame. 0 < length frame) frames × (length frames ≤ most_frames) × Any (λ frame. most_frame_bytes < length frame) frames
AreNoStack n frames fault = ⊥

-- line n says a count, and its frames are no stack
pub record SaysNoStack (form : LineForm) (n : ℕ) (line : List ℕ) (fault : FoldedFault) : Type 0 where
  pub text : List ℕ
  pub count : ℕ
  pub says : Says form line text count
  pub no_stack : AreNoStack n (frames_of text) fault

-- with the count of line n, all counts reach the bound of totals; those before it come to total
abbrev pub PassesLimit : LineForm → ℕ → ℕ → List ℕ → FoldedFault → Type 0
PassesLimit form n total line (TooLarge at) = (at ≡ n) × (sample : Sample) × IsSample form line sample × (total_bound ≤ total + sample.1)
PassesLimit form n total line fault = ⊥

-- the fault of line n, where the counts before it come to total
abbrev pub IsFaultOfLine : LineForm → ℕ → ℕ → List ℕ → FoldedFault → Type 0
IsFaultOfLine form n total line fault =
    SaysNothing form n line fault ⊎ (SaysNoStack form n line fault ⊎ PassesLimit form n total line fault)
