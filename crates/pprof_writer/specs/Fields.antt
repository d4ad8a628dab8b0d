-- The fields of a message that is written ("Message Structure" in the Protocol Buffers encoding document). That a
-- number that is 0 is left out is this project's own rule, as is each number's shortest spelling.
use Rattle.std.specs.Prelude.{◌==◌, ℕ, List, [], if◌then◌else◌}
use Rattle.std.specs.List.{flat_map}
use Rattle.wire_proto.specs.Writing.{number_field, bytes_field}

-- a field's number, and the number or the bytes that it holds
pub data Field : Type 0 where
  Number : ℕ → ℕ → Field
  Part : ℕ → List ℕ → Field

abbrev pub spelled : Field → List ℕ
spelled (Number number n) = if n == 0 then [] else number_field number n
spelled (Part number bytes) = bytes_field number bytes

-- the fields, one after another
abbrev pub message : List Field → List ℕ
message fields = flat_map spelled fields
