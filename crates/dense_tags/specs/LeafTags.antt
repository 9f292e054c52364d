-- The tags and the counters of a mesh in lists.
use Rattle.std.specs.Prelude.{◌≡◌, ℕ, List}
use Rattle.block_tree.specs.declared.tags.Tag.{Tag}
use Rattle.block_tree.specs.Blocks.{TreeOfBlocks}
use Rattle.problem_set.specs.Settings.{Settings}
use Rattle.mesh_rules.specs.Tags.{counters_after, tags_after}
use Rattle.dense_mesh.specs.Meshes.{mesh_of}

-- the tags after a cycle that ends with these lists and began with these counters
abbrev pub AreTagsAfter : Settings → TreeOfBlocks → List (List (List ℕ)) → List ℕ → List Tag → Type 0
AreTagsAfter p t lists counters tags = tags ≡ tags_after p (mesh_of t p.cells lists) counters

-- and the counters
abbrev pub AreCountersAfter : Settings → TreeOfBlocks → List (List (List ℕ)) → List ℕ → List ℕ → Type 0
AreCountersAfter p t lists counters now = now ≡ counters_after p (mesh_of t p.cells lists) counters
