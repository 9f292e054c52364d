-- What the table of a tree holds for the sides of its leaves; private contracts cite this.
use Rattle.std.specs.Prelude.{◌≡◌, ◌==◌, ℕ, zero, suc, ◌+◌, ◌*◌, ◌/◌, ◌%◌, ◌≤◌, Bool, true, false, cond, not, ◌||◌, nat_lt, Option, Some, None, List, [], ◌∷◌, length, map, take}
use Rattle.morton_order.specs.declared.space.Loc.{Loc}
use Rattle.morton_order.specs.declared.space.Shape.{Shape}
use Rattle.morton_order.specs.Space.{IsShape, child, parent, parts}
use Rattle.morton_order.specs.Neighbours.{across}
use Rattle.block_tree.specs.declared.neighbour.Behind.{Behind as Answer}
use Rattle.block_tree.specs.declared.neighbour.Behind.TheVariants as answer
use Rattle.block_tree.specs.declared.table.Entry.{Entry}
use Rattle.block_tree.specs.declared.table.Entry.TheVariants.{Outside, Same, Coarse, Fine}
use Rattle.block_tree.specs.declared.table.Quartet.{Quartet}
use Rattle.block_tree.specs.declared.table.Sides.{Sides}
use Rattle.block_tree.specs.Tree.{IsBalanced, IsTree, is_listed}
use Rattle.block_tree.specs.Leaves.{leaves_of}
use Rattle.block_tree.specs.Nodes.{number_in}

abbrev pub or_zero : Option ℕ → ℕ
or_zero None = 0
or_zero (Some i) = i

-- 1 for the high half, 0 for the low one
abbrev pub half_bit : Bool → ℕ
half_bit true = 1
half_bit false = 0

-- the child at a side, counted among those at that side
abbrev pub side_child : ℕ → Bool → ℕ → ℕ
side_child zero high k = 2 * k + half_bit high
side_child (suc zero) high k = k % 2 + 2 * half_bit high + 4 * (k / 2)
side_child (suc (suc _)) high k = k + 4 * half_bit high

-- the number of the child at a side, 0 past the last one
abbrev pub fine_number : List Loc → ℕ → Loc → ℕ → Bool → ℕ → ℕ
fine_number leaves dims o axis high k = cond (nat_lt k (parts dims / 2)) (or_zero (number_in leaves (child dims o (side_child axis high k)))) 0

abbrev pub quartet_of : List Loc → ℕ → Loc → ℕ → Bool → Quartet
quartet_of leaves dims o axis high = record { numbers = fine_number leaves dims o axis high 0 ∷ fine_number leaves dims o axis high 1 ∷ fine_number leaves dims o axis high 2 ∷ fine_number leaves dims o axis high 3 ∷ [] }

-- the entry for a location across a side that is no leaf
abbrev pub entry_of_other : List Loc → List Loc → Shape → Loc → ℕ → Bool → Entry
entry_of_other nodes leaves s o axis high = cond (o.level == 0 || is_listed nodes o) (Fine (quartet_of leaves s.dims o axis (not high))) (Coarse (or_zero (number_in leaves (parent s.dims o))))

-- the entry for a location across a side, by its number among the leaves
abbrev pub entry_of_numbered : List Loc → List Loc → Shape → Loc → ℕ → Bool → Option ℕ → Entry
entry_of_numbered nodes leaves s o axis high (Some i) = Same i
entry_of_numbered nodes leaves s o axis high None = entry_of_other nodes leaves s o axis high

-- the entry for a side, by the location across it
abbrev pub entry_at : List Loc → List Loc → Shape → ℕ → Bool → Option Loc → Entry
entry_at nodes leaves s axis high None = Outside
entry_at nodes leaves s axis high (Some o) = entry_of_numbered nodes leaves s o axis high (number_in leaves o)

-- the entry for a side of a leaf; along an axis that is not in use nothing is behind
abbrev pub entry_of : List Loc → List Loc → Shape → Loc → ℕ → Bool → Entry
entry_of nodes leaves s l axis high = cond (nat_lt axis s.dims) (entry_at nodes leaves s axis high (across s l axis high)) Outside

abbrev pub sides_of : List Loc → List Loc → Shape → Loc → Sides
sides_of nodes leaves s l = record {
  low1 = entry_of nodes leaves s l 0 false;
  high1 = entry_of nodes leaves s l 0 true;
  low2 = entry_of nodes leaves s l 1 false;
  high2 = entry_of nodes leaves s l 1 true;
  low3 = entry_of nodes leaves s l 2 false;
  high3 = entry_of nodes leaves s l 2 true;
}

-- the entry of a row for a side
abbrev pub entry_in : Sides → ℕ → Bool → Entry
entry_in r zero false = r.low1
entry_in r zero true = r.high1
entry_in r (suc zero) false = r.low2
entry_in r (suc zero) true = r.high2
entry_in r (suc (suc _)) false = r.low3
entry_in r (suc (suc _)) true = r.high3

-- an entry as it is answered
abbrev pub answer_of : ℕ → Entry → Answer
answer_of dims Outside = answer.Outside
answer_of dims (Same i) = answer.Same i
answer_of dims (Coarse i) = answer.Coarse i
answer_of dims (Fine q) = answer.Fine (take (parts dims / 2) q.numbers)

-- what a tree keeps: a balanced set of inner nodes, its own leaves in order, and its own table
pub record IsKept (s : Shape) (nodes leaves : List Loc) (table : List Sides) : Type 0 where
  pub shape : IsShape s
  pub tree : IsTree s (is_listed nodes)
  pub balanced : IsBalanced s (is_listed nodes)
  pub leaves_are : leaves ≡ leaves_of s (is_listed nodes)
  pub few : length leaves ≤ 65536
  pub table_is : table ≡ map (sides_of nodes leaves s) leaves
