-- What reading a profile's message answers.
use Rattle.std.specs.Prelude.{◌≡◌, ℕ, List, Some, None, Result, Ok, Err}
use Rattle.wire_proto.specs.Reading.{fields_of}
use Rattle.pprof_message.specs.declared.fault.MessageFault.{MessageFault}
use Rattle.pprof_message.specs.declared.fault.MessageFault.TheVariants.{Broken}
use Rattle.pprof_message.specs.Pprof.{Pprof}
use Rattle.pprof_message.specs.Messages.{pprof_of}
use Rattle.pprof_message.specs.Broken.{broken_place}

-- the message that the bytes spell, where nothing in it is broken; else the place of the first thing that is
abbrev pub IsReadMessage : List ℕ → Result Pprof MessageFault → Type 0
IsReadMessage bytes (Ok pprof) = (broken_place bytes ≡ None) × (pprof ≡ pprof_of (fields_of bytes 0).fields)
IsReadMessage bytes (Err (Broken at)) = broken_place bytes ≡ Some at
