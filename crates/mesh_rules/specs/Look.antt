-- The look: the total of a field in a cell of any level.
use Rattle.std.specs.Prelude.{ℕ, zero, suc, ◌-◌, Bool, true, false, cond}
use Rattle.morton_order.specs.declared.space.Loc.{Loc}
use Rattle.morton_order.specs.Space.{child, child_number, parent, parts}
use Rattle.mesh_num.specs.Share.{share}
use Rattle.mesh_rules.specs.Sums.{sum_to}
use Rattle.mesh_rules.specs.Mesh.{Mesh, block_of, is_inner, stored}

-- what is stored in a cell, or its share of what its parent has, where coarser cells are stored;
-- the number counts the coarser levels
abbrev pub spread : ℕ → Mesh → ℕ → Loc → ℕ
spread zero m f c = stored m f c
spread (suc coarser) m f c = cond (is_inner m (block_of m (parent m.shape.dims c)))
    (stored m f c)
    (share (spread coarser m f (parent m.shape.dims c)) (parts m.shape.dims) (child_number m.shape.dims c))

-- one value, or the sum over the parts
abbrev pub sum_where : Bool → ℕ → (ℕ → ℕ) → ℕ → ℕ
sum_where true n each one = sum_to n each
sum_where false n each one = one

-- what is stored in a cell, or the sum over its children, where finer cells are stored; the number counts the finer levels
abbrev pub gathered : ℕ → Mesh → ℕ → Loc → ℕ
gathered zero m f c = stored m f c
gathered (suc finer) m f c = sum_where (is_inner m (block_of m c)) (parts m.shape.dims) (λ j. gathered finer m f (child m.shape.dims c j)) (stored m f c)

-- the total that is seen in a cell of any level: the stored one, the sum of its children's looks, or its share of its parent's look;
-- a cell of 5 whose two children are stored as 3 and 2 is seen as 5, and where the 5 are stored the children are seen as 3 and 2
unfoldable pub look : Mesh → ℕ → Loc → ℕ
look m f c = cond (is_inner m (block_of m c)) (gathered (10 - c.level) m f c) (spread c.level m f c)
