-- The frames of a location, by its lines or by its address.
use Rattle.std.proofs.Common.{◌≡◌, ℕ, ◌<◌, List, [], ◌∷◌, length, get_or, Result, Ok, Err, refl, ap, ◌∙◌, arith}
use Rattle.std.specs.Prelude.{map, IfOk}
use Rattle.pprof_message.specs.Pprof.{Location, Pprof}
use Rattle.pprof_codec.specs.Frames.{address_frame, frames_of, line_frame, location_frames}

pub address-framed : {E : Type 0} (pprof : Pprof) (location : Location) (made : Result (List (List ℕ)) E) → length location.lines ≡ 0
    → IfOk made (λ frames. frames ≡ address_frame location.address ∷ []) → IfOk made (λ frames. frames ≡ location_frames pprof location)
unfolding location_frames
address-framed pprof location (Err e) none is = tt
address-framed pprof location (Ok frames) none is = is ∙ by location.lines none
  where
    by : (ids : List ℕ) → length ids ≡ 0 → address_frame location.address ∷ [] ≡ frames_of pprof ids location.address
    by [] h = refl
    by (id ∷ ids) h = absurd (omega arith)

pub lines-framed : (pprof : Pprof) (location : Location) (frames : List (List ℕ)) → 0 < length location.lines → frames ≡ map (line_frame pprof) location.lines
    → frames ≡ location_frames pprof location
unfolding location_frames
lines-framed pprof location frames some is = is ∙ by location.lines some
  where
    by : (ids : List ℕ) → 0 < length ids → map (line_frame pprof) ids ≡ frames_of pprof ids location.address
    by [] h = absurd (omega arith)
    by (id ∷ ids) h = refl

-- the frame of the only line
pub line-framed : (pprof : Pprof) (location : Location) (d : ℕ) (frame : List ℕ) → length location.lines ≡ 1 → frame ≡ line_frame pprof (get_or location.lines 0 d)
    → frame ∷ [] ≡ location_frames pprof location
unfolding location_frames
line-framed pprof location d frame one is = by location.lines one is
  where
    by : (ids : List ℕ) → length ids ≡ 1 → frame ≡ line_frame pprof (get_or ids 0 d) → frame ∷ [] ≡ frames_of pprof ids location.address
    by [] h same = absurd (omega arith)
    by (id ∷ []) h same = ap (λ f. f ∷ []) same
    by (id ∷ other ∷ ids) h same = absurd (omega arith)
