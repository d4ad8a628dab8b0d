use Rattle.std.proofs.Common.{◌≡◌, ℕ, ◌+◌, ◌*◌, ◌≤◌, length}
use Rattle.serde_json.specs.Data.{Members, no_members}
use Rattle.json_bodies.specs.Walks.{itemed, membered, rest_of}
use Rattle.json_bodies.proofs.walk.+skip.Given as goal

abbrev pub decreases-skip_rest : goal.decreases-skip_rest
decreases-skip_rest l = 2 * l.depth

abbrev pub decreases-skip_items : goal.decreases-skip_items
decreases-skip_items l = 2 * l.depth + 1

abbrev pub decreases-skip_members : goal.decreases-skip_members
decreases-skip_members l = 2 * l.depth + 1

abbrev pub invariant-skip_items-items : goal.invariant-skip_items-items
invariant-skip_items-items l =
    (n : ℕ) × (length l.reader ≤ n)
    × (rest_of (itemed l.depth (length l.initial.reader) l.initial.reader) ≡ rest_of (itemed l.depth n l.reader))

abbrev pub decreases-skip_items-items : goal.decreases-skip_items-items
decreases-skip_items-items l = length l.reader

abbrev pub invariant-skip_members-members : goal.invariant-skip_members-members
invariant-skip_members-members l =
    (n : ℕ) × (length l.reader ≤ n) × (found : Members)
    × (rest_of (membered l.depth no_members (length l.initial.reader) l.initial.reader) ≡ rest_of (membered l.depth found n l.reader))

abbrev pub decreases-skip_members-members : goal.decreases-skip_members-members
decreases-skip_members-members l = length l.reader
