-- Reactions: what any kernel makes of the cells of a mesh, and the kernel of a problem's reactions.
use Rattle.std.specs.Prelude.{ℕ, ◌+◌, ◌-◌, List, slice_index, slice_set}
use Rattle.std.specs.List.{fold}
use Rattle.morton_order.specs.declared.space.Loc.{Loc}
use Rattle.mesh_num.specs.Portion.{portion}
use Rattle.package_fields.specs.Kernel.{Reacted}
use Rattle.problem_set.specs.Settings.{Settings}
use Rattle.deck_entries.specs.declared.entries.Reaction.{Reaction}
use Rattle.std.specs.Prelude.{length, replicate}
use Rattle.mesh_rules.specs.Sums.{sum_over, table}
use Rattle.mesh_rules.specs.Mesh.{Mesh, filled, stored, sum_on}

-- a list with more, or less, at a place
abbrev pub added : List ℕ → ℕ → ℕ → List ℕ
added xs i n = slice_set xs i (slice_index xs i + n)

-- the totals of a cell once some of one field is used: where 2 of 5 are taken, 3 remain
abbrev pub taken : List ℕ → ℕ → ℕ → List ℕ
taken xs i n = slice_set xs i (slice_index xs i - n)

-- a reaction moves the portion num / den of one field to another
abbrev pub moved_by : Reaction → List ℕ → ℕ
moved_by r totals = portion (slice_index totals r.from) r.num r.den

-- a cell after one more reaction, which finds the totals as the reactions before it left them
abbrev pub after_reaction : Reacted → Reaction → Reacted
after_reaction cell r =
    let moved = moved_by r cell.totals in
    record {
      totals = added (taken cell.totals r.from moved) r.to moved;
      made = added cell.made r.to moved;
      used = added cell.used r.from moved;
    }

-- the totals of a cell before its reactions
abbrev pub before_reactions : List ℕ → Reacted
before_reactions totals = record { totals = totals; made = replicate (length totals) 0; used = replicate (length totals) 0 }

-- the kernel of some reactions: each in its turn; 10 with a tenth to be moved become 9 and 1
abbrev pub react_cell : List Reaction → List ℕ → Reacted
react_cell reactions totals = fold after_reaction (before_reactions totals) reactions

-- the kernel of a problem's reactions
abbrev pub kernel_of : Settings → List ℕ → Reacted
kernel_of p = react_cell p.reactions

-- the totals of a cell by field
abbrev pub cell_totals : ℕ → Mesh → Loc → List ℕ
cell_totals fields m c = table fields (λ f. stored m f c)

-- what a kernel makes of a cell
abbrev pub reacted_cell : (List ℕ → Reacted) → ℕ → Mesh → Loc → Reacted
reacted_cell react fields m c = react (cell_totals fields m c)

-- the mesh after a kernel has changed each cell
abbrev pub react_mesh : (List ℕ → Reacted) → ℕ → Mesh → Mesh
react_mesh react fields m = filled m fields (λ f c. slice_index (reacted_cell react fields m c).totals f)

-- what of a field a kernel makes on a leaf, and what it uses
abbrev pub leaf_made : (List ℕ → Reacted) → ℕ → Mesh → ℕ → Loc → ℕ
leaf_made react fields m f l = sum_on m l (λ c. slice_index (reacted_cell react fields m c).made f)

abbrev pub leaf_used : (List ℕ → Reacted) → ℕ → Mesh → ℕ → Loc → ℕ
leaf_used react fields m f l = sum_on m l (λ c. slice_index (reacted_cell react fields m c).used f)

-- those of the whole mesh
abbrev pub made_of : (List ℕ → Reacted) → ℕ → Mesh → ℕ → ℕ
made_of react fields m f = sum_over m.leaves (leaf_made react fields m f)

abbrev pub used_of : (List ℕ → Reacted) → ℕ → Mesh → ℕ → ℕ
used_of react fields m f = sum_over m.leaves (leaf_used react fields m f)
