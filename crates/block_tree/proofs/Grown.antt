-- What a set of nodes is once it is balanced.
use Rattle.std.proofs.Common.{◌≡◌, ℕ, ◌-◌, ◌^◌, ◌<◌, ◌≤◌, Bool, true, false, List, [], Some, All, map, length, arith, ap, subst, sym, ◌∙◌}
use Rattle.std.specs.Bool.{MatchBool}
use Rattle.std.specs.List.{IsDistinct, slice_get, slice_index_or}
use Rattle.std.proofs.lemmas.Option.{slice_get-get_or}
use Rattle.morton_order.specs.declared.space.Loc.{Loc}
use Rattle.morton_order.specs.declared.space.Shape.{Shape}
use Rattle.morton_order.specs.Space.{IsIn, IsShape, same_loc}
use Rattle.block_tree.specs.declared.table.Sides.{Sides}
use Rattle.block_tree.specs.Tree.{IsBalanced, IsTree, is_listed}
use Rattle.block_tree.specs.Leaves.{leaves_of}
use Rattle.block_tree.specs.Least.{IsLeast, least}
use Rattle.block_tree.specs.Nodes.{with_nodes}
use Rattle.block_tree.specs.Table.{IsKept, sides_of}
use Rattle.block_tree.specs.Worklist.{AreRoomy}
use Rattle.block_tree.proofs.Forced.{least_is_least}
use Rattle.block_tree.proofs.KeyOrder.{leaves_law}
use Rattle.block_tree.proofs.Numbers.{distinct_leaves, least_is_one, set_listed, set_of_distinct}
use Rattle.block_tree.proofs.Worklist.{listed_read}

pub roomy_set : (s : Shape) (wanted old : List Loc) → old ≡ with_nodes [] wanted → AreRoomy s wanted → AreRoomy s old
roomy_set s wanted old is roomy l h = roomy l (subst (λ (p : Loc → Bool). p l ≡ true) (ap is_listed is ∙ set_listed wanted) h)

pub grown_tree : (s : Shape) (wanted old new : List Loc) (b : Bool) → old ≡ with_nodes [] wanted → length new < 2 ^ 63 → MatchBool b (IsLeast s (is_listed old) (is_listed new)) (2 ^ 64 - 1 < length new) → IsLeast s (is_listed wanted) (is_listed new)
grown_tree s wanted old new true is small h = subst (λ (p : Loc → Bool). IsLeast s p (is_listed new)) (ap is_listed is ∙ set_listed wanted) h
grown_tree s wanted old new false is small h = absurd (omega arith)

pub grown_is : (s : Shape) (wanted new : List Loc) → IsShape s → AreRoomy s wanted → IsLeast s (is_listed wanted) (is_listed new) → is_listed new ≡ least 9 s (is_listed wanted)
grown_is s wanted new shape roomy h = least_is_one s (is_listed wanted) (is_listed new) (least 9 s (is_listed wanted)) h
    (least_is_least 9 s (is_listed wanted) shape (omega arith) (λ l k. let r = roomy l k in let few = r.1 in (r.0, omega arith)))

-- what a tree keeps
pub leaf_set : (s : Shape) (nodes ls set : List Loc) → IsShape s → IsTree s (is_listed nodes) → ls ≡ leaves_of s (is_listed nodes) → set ≡ with_nodes [] ls → set ≡ ls
leaf_set s nodes ls set shape tree is made = made ∙ set_of_distinct ls (subst (λ (v : List Loc). IsDistinct same_loc v) (sym is) (distinct_leaves s (is_listed nodes) shape tree))

pub leaf_inside : (s : Shape) (nodes ls : List Loc) → IsShape s → IsTree s (is_listed nodes) → ls ≡ leaves_of s (is_listed nodes) → (i : ℕ) (l : Loc) → slice_get ls i ≡ Some l → IsIn s l
leaf_inside s nodes ls shape tree is i l h = (((leaves_law s (is_listed nodes) shape tree).leaves l).0 (subst (λ (v : List Loc). is_listed v l ≡ true) is (listed_read ls i l h))).inside

pub leaves_inside : (s : Shape) (nodes ls : List Loc) → IsShape s → IsTree s (is_listed nodes) → ls ≡ leaves_of s (is_listed nodes) → All (IsIn s) ls
leaves_inside s nodes ls shape tree is k d less = leaf_inside s nodes ls shape tree is k (slice_index_or ls k d) (slice_get-get_or ls k d less)

pub roomy_tree : (s : Shape) (nodes : List Loc) → IsTree s (is_listed nodes) → AreRoomy s nodes
roomy_tree s nodes tree l h = (tree.inside l h, tree.above_finest l h)

pub keeps : (s : Shape) (nodes ls set : List Loc) (table : List Sides) → IsShape s → IsTree s (is_listed nodes) → IsBalanced s (is_listed nodes) → ls ≡ leaves_of s (is_listed nodes) → length ls ≤ 65536 → set ≡ with_nodes [] ls → table ≡ map (sides_of nodes set s) set → IsKept s nodes set table
keeps s nodes ls set table shape tree balanced is few made table_is = let e = leaf_set s nodes ls set shape tree is made in record {
  shape = shape;
  tree = tree;
  balanced = balanced;
  leaves_are = e ∙ is;
  few = subst (λ (v : List Loc). length v ≤ 65536) (sym e) few;
  table_is = table_is;
}
