-- How long files of merged objects are.
use Rattle.std.proofs.Common.{◌≡◌, ◌≢◌, ℕ, ◌+◌, ◌*◌, ◌≤◌, List, [], ◌∷◌, length, refl, ap, arith, length-append}
use Rattle.std.specs.Prelude.{sum_by}
use Rattle.std.specs.List.{AllZip, flat_map}
use Rattle.std.proofs.lemmas.Grind.{flat_map-append}
use Rattle.std.proofs.lemmas.List.Sums.{sum_by-cons}
use Rattle.segment_file.specs.Bytes.{push_bytes}
use Rattle.segment_file.specs.Decoded.{Spells}
use Rattle.segment_file.specs.Objects.{ObjectView}
use Rattle.segment_file.proofs.SpelledLemmas.{spelling-parts}
use Rattle.block_merge.specs.Merges.{merged_of, pushes_of}
use Rattle.block_merge.specs.Laws.{NoLonger, OneHead, length_of}

file_length : (object : ObjectView) → length_of object ≡ 20 + length (flat_map push_bytes object.pushes)
file_length object = omega (arith, ap length (spelling-parts object.lo object.pushes))

with_heads : (objects : List ObjectView) → length (flat_map push_bytes (pushes_of objects)) + 20 * length objects ≡ sum_by length_of objects
with_heads [] = refl
with_heads (object ∷ later) =
    omega (
      arith,
      ap length (flat_map-append push_bytes object.pushes (pushes_of later)),
      length-append (flat_map push_bytes object.pushes) (flat_map push_bytes (pushes_of later)),
      file_length object,
      sum_by-cons length_of object later,
      with_heads later,
    )

pub one_head : OneHead
one_head objects = omega (arith, file_length (merged_of objects), with_heads objects)

files_length : (files : List (List ℕ)) (objects : List ObjectView) → AllZip Spells files objects → sum_by length files ≡ sum_by length_of objects
files_length [] [] spell = refl
files_length [] (object ∷ later) spell = absurd spell
files_length (file ∷ more) [] spell = absurd spell
files_length (file ∷ more) (object ∷ later) spell =
    omega (arith, sum_by-cons length file more, sum_by-cons length_of object later, ap length spell.0.spelled, files_length more later spell.1)

not_no_objects : (objects : List ObjectView) → objects ≢ [] → 1 ≤ length objects
not_no_objects [] some = absurd (some refl)
not_no_objects (object ∷ later) some = omega arith

pub no_longer : NoLonger
no_longer files objects file some spell spelled =
    omega (arith, ap length spelled.spelled, one_head objects, files_length files objects spell, not_no_objects objects some)
