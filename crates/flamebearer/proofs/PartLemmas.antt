-- Entries by their frames and their values.
use Rattle.std.proofs.Common.{◌≡◌, ℕ, ◌^◌, ◌<◌, arith, List, [], ◌∷◌, length, map, refl, ap, ◌∙◌, sym, subst}
use Rattle.std.specs.Prelude.{sum_by}
use Rattle.std.specs.List.Sorted.{IsStrictlySortedBy}
use Rattle.profile_model.specs.Stacks.{stack_cmp}
use Rattle.flamebearer.specs.declared.tree.Entry.{Entry}
use Rattle.flamebearer.specs.Branches as branches
use Rattle.flamebearer.specs.Branches.{AreOrdered}
use Rattle.flamebearer.specs.Entries.{AreDeep, depths_of, frame_of, nodes_after, nodes_of, stack_of, stacks_of, values_of}
use Rattle.flamebearer.specs.Sides.{AreSummed, IsSide, nodes_with}
use Rattle.flamebearer.specs.Trees.{Node}

stacks-after : (path : List (List ℕ)) (entries : List Entry) → branches.stacks_after path (map frame_of entries) ≡ map (λ (n : Node). n.stack) (nodes_after path entries)
stacks-after path [] = refl
stacks-after path (entry ∷ more) = ap (λ r. stack_of path entry ∷ r) (stacks-after (stack_of path entry) more)

pub stacks-parts : (entries : List Entry) → branches.stacks_of (map frame_of entries) ≡ stacks_of entries
stacks-parts entries = stacks-after [] entries

depths-parts : (entries : List Entry) → branches.depths_of (map frame_of entries) ≡ depths_of entries
depths-parts [] = refl
depths-parts (entry ∷ more) = ap (λ r. entry.depth ∷ r) (depths-parts more)

nodes-after : (path : List (List ℕ)) (entries : List Entry) → nodes_with (branches.stacks_after path (map frame_of entries)) (map values_of entries) ≡ nodes_after path entries
nodes-after path [] = refl
nodes-after path (entry ∷ more) =
    ap (λ r. record { stack = stack_of path entry; own = entry.own; total = entry.total } ∷ r) (nodes-after (stack_of path entry) more)

pub nodes-parts : (entries : List Entry) → nodes_with (branches.stacks_of (map frame_of entries)) (map values_of entries) ≡ nodes_of entries
nodes-parts entries = nodes-after [] entries

length-stacks : (path : List (List ℕ)) (entries : List Entry) → length (branches.stacks_after path (map frame_of entries)) ≡ length (map values_of entries)
length-stacks path [] = refl
length-stacks path (entry ∷ more) = let later = length-stacks (stack_of path entry) more in omega arith

pub side-parts : (entries : List Entry) → AreSummed (nodes_of entries) → sum_by (λ node. node.own) (nodes_of entries) < 2 ^ 63
    → IsSide (branches.stacks_of (map frame_of entries)) (map values_of entries)
side-parts entries summed bounded = record {
  many = sym (length-stacks [] entries);
  summed = subst AreSummed (sym (nodes-parts entries)) summed;
  bounded = subst (λ nodes. sum_by (λ (node : Node). node.own) nodes < 2 ^ 63) (sym (nodes-parts entries)) bounded;
}

pub ordered-parts : (entries : List Entry) → AreDeep entries → IsStrictlySortedBy stack_cmp (stacks_of entries) → AreOrdered (map frame_of entries)
ordered-parts entries deep ascending = record {
  deep = depths-parts entries ∙ deep ∙ ap (map length) (sym (stacks-parts entries));
  ascending = subst (IsStrictlySortedBy stack_cmp) (sym (stacks-parts entries)) ascending;
}
