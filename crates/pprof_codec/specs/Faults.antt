-- A fault as a reply shows it.
use Rattle.std.specs.Prelude.{ℕ, List, [], ◌∷◌, codes}
use Rattle.pprof_codec.specs.declared.fault.Member.{Member}
use Rattle.pprof_codec.specs.declared.fault.Member.TheVariants as members
use Rattle.pprof_codec.specs.declared.fault.PprofFault.{PprofFault}
use Rattle.pprof_codec.specs.declared.fault.PprofFault.TheVariants.{Broken, NoEmptyText, NoSuchText, ZeroId, RepeatedId, NoSuchLocation, NoSuchFunction, WrongValueCount, NegativeValue, TooLarge, TooDeep, NotUtf8, Compressed, LongFrame, Weight}

-- the number of its field in pprof's profile.proto
abbrev pub field_of : Member → ℕ
field_of members.SampleType = 1
field_of members.Sample = 2
field_of members.Location = 4
field_of members.Function = 5
field_of members.PeriodType = 11

-- the fault's code
abbrev pub code_of : PprofFault → List ℕ
code_of (Broken at) = codes "P1"
code_of NoEmptyText = codes "P2"
code_of (NoSuchText member number) = codes "P3"
code_of (ZeroId member number) = codes "P4"
code_of (RepeatedId member number) = codes "P5"
code_of (NoSuchLocation sample) = codes "P6"
code_of (NoSuchFunction location) = codes "P7"
code_of (WrongValueCount sample) = codes "P8"
code_of (NegativeValue sample value) = codes "P9"
code_of (TooLarge sample_type) = codes "P10"
code_of (TooDeep sample) = codes "P11"
code_of (NotUtf8 text) = codes "P12"
code_of Compressed = codes "P13"
code_of (LongFrame function) = codes "P14"
code_of Weight = codes "P14"

-- the number in the code
abbrev pub number_of : PprofFault → ℕ
number_of (Broken at) = 1
number_of NoEmptyText = 2
number_of (NoSuchText member number) = 3
number_of (ZeroId member number) = 4
number_of (RepeatedId member number) = 5
number_of (NoSuchLocation sample) = 6
number_of (NoSuchFunction location) = 7
number_of (WrongValueCount sample) = 8
number_of (NegativeValue sample value) = 9
number_of (TooLarge sample_type) = 10
number_of (TooDeep sample) = 11
number_of (NotUtf8 text) = 12
number_of Compressed = 13
number_of (LongFrame function) = 14
number_of Weight = 14

-- the numbers of what has the fault
abbrev pub place_of : PprofFault → List ℕ
place_of (Broken at) = at ∷ []
place_of NoEmptyText = []
place_of (NoSuchText member number) = field_of member ∷ number ∷ []
place_of (ZeroId member number) = field_of member ∷ number ∷ []
place_of (RepeatedId member number) = field_of member ∷ number ∷ []
place_of (NoSuchLocation sample) = sample ∷ []
place_of (NoSuchFunction location) = location ∷ []
place_of (WrongValueCount sample) = sample ∷ []
place_of (NegativeValue sample value) = sample ∷ value ∷ []
place_of (TooLarge sample_type) = sample_type ∷ []
place_of (TooDeep sample) = sample ∷ []
place_of (NotUtf8 text) = text ∷ []
place_of Compressed = []
place_of (LongFrame function) = 5 ∷ function ∷ []
place_of Weight = 0 ∷ 0 ∷ []
