-- What filling the ghosts of leaves leaves.
use Rattle.std.specs.Prelude.{ℕ, ◌<◌, Bool, true, false, ◌||◌, List, map}
use Rattle.std.specs.List.{list_any, range_with_len}
use Rattle.block_tree.specs.Blocks.{leaves}
use Rattle.mesh_rules.specs.Mask.{exchange_calls}
use Rattle.block_geometry.specs.Contents.{SeesAround}
use Rattle.dense_mesh.specs.Ghosts.{list_at}
use Rattle.dense_exchange.specs.declared.field_mesh.FieldMesh.{FieldMesh}
use Rattle.dense_exchange.specs.FieldMeshes.{HoldOwn, block_on, leaf_count, mesh_in, settings_in}
use Rattle.dense_exchange.specs.Sides.{OthersStay, comes_beyond}

-- whether something above the threshold comes to a leaf across either side of an axis, of one of the first axes, and of any
abbrev pub comes_along : FieldMesh → ℕ → ℕ → Bool
comes_along e to axis = comes_beyond e (record { axis = axis; high = false }) to || comes_beyond e (record { axis = axis; high = true }) to

abbrev pub comes_by : FieldMesh → ℕ → ℕ → Bool
comes_by e to axes = list_any (comes_along e to) (range_with_len 0 axes)

abbrev pub comes_to_leaf : FieldMesh → ℕ → Bool
comes_to_leaf e to = comes_by e to e.tree.now.shape.dims

-- the ghosts of a leaf were filled
pub record IsLeafFilled (e : FieldMesh) (to : ℕ) (old new : List (List ℕ)) : Type 0 where
  pub held : HoldOwn e new
  pub others : OthersStay to old new
  pub around : SeesAround (block_on e to) (list_at new to)

-- the ghosts of all leaves were
pub record AreFilled (e : FieldMesh) (ghosts : List (List ℕ)) : Type 0 where
  pub held : HoldOwn e ghosts
  pub around : (leaf : ℕ) → leaf < leaf_count e → SeesAround (block_on e leaf) (list_at ghosts leaf)

-- for which leaves the exchange calls for the field
abbrev pub calls_of : FieldMesh → List Bool
calls_of e = map (exchange_calls (settings_in e) (mesh_in e) e.field) (leaves e.tree.now)
