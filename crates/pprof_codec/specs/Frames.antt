-- The frames that a profile's locations stand for. Which text a function, a line or a location without lines has is
-- this project's own rule; that the first line is the innermost, and the first location the leaf, is pprof's
-- profile.proto (messages `Location` and `Sample`).
use Rattle.std.specs.Prelude.{◌==◌, ℕ, false, List, [], ◌∷◌, ◌++◌, map, reverse, codes, option_map, unwrap_or, if◌then◌else◌}
use Rattle.std.specs.List.{flat_map}
use Rattle.std.specs.Fmt.{digits}
use Rattle.pprof_message.specs.declared.lists.Function.{Function}
use Rattle.pprof_message.specs.Pprof.{Sample, Location, Pprof}
use Rattle.pprof_codec.specs.Members.{function_with, location_with, text_at}

-- where nothing names a frame
abbrev pub unknown_frame : List ℕ
unknown_frame = codes "[unknown]"

-- a text, or another where it is empty
abbrev pub filled_or : List ℕ → List ℕ → List ℕ
filled_or [] other = other
filled_or (b ∷ bs) other = b ∷ bs

-- the function's name, else its system name
unfoldable pub function_frame : List (List ℕ) → Function → List ℕ
function_frame texts function =
    filled_or (text_at texts function.name) (filled_or (text_at texts function.system_name) unknown_frame)

-- the frame of the line's function; the id 0 is that of none
unfoldable pub line_frame : Pprof → ℕ → List ℕ
line_frame pprof id =
    if id == 0 then unknown_frame else unwrap_or (option_map (function_frame pprof.texts) (function_with pprof id)) unknown_frame

-- the address in lower-case hexadecimal without leading zeros
abbrev pub address_frame : ℕ → List ℕ
address_frame address = codes "0x" ++ digits 16 false address

-- the frames of these lines, or that of the address where there is none
abbrev pub frames_of : Pprof → List ℕ → ℕ → List (List ℕ)
frames_of pprof [] address = address_frame address ∷ []
frames_of pprof (id ∷ ids) address = map (line_frame pprof) (id ∷ ids)

-- a location's frames, the innermost first
unfoldable pub location_frames : Pprof → Location → List (List ℕ)
location_frames pprof location = frames_of pprof location.lines location.address

-- the frames of the location with this id
unfoldable pub frames_at : Pprof → ℕ → List (List ℕ)
frames_at pprof id = unwrap_or (option_map (location_frames pprof) (location_with pprof id)) []

-- the frames of these locations, the leaf first, turned round; one unknown frame where there is no location
abbrev pub root_first : Pprof → List ℕ → List (List ℕ)
root_first pprof [] = unknown_frame ∷ []
root_first pprof (id ∷ ids) = reverse (flat_map (frames_at pprof) (id ∷ ids))

-- a sample's stack, root first
unfoldable pub stack_of : Pprof → Sample → List (List ℕ)
stack_of pprof sample = root_first pprof sample.location_ids
