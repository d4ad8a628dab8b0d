-- What holds of all answers that reading a pprof may give.
use Rattle.std.specs.Prelude.{List, Result, Ok, Err, Vec}
use Rattle.profile_model.specs.declared.profile.Profile.{Profile}
use Rattle.pprof_codec.specs.declared.fault.PprofFault.{PprofFault}

-- the profiles, or the fault
abbrev pub told : {Z : Type 0} → Result (Vec Profile Z) PprofFault → Result (List Profile) PprofFault
told (Ok profiles) = Ok profiles.items
told (Err fault) = Err fault
