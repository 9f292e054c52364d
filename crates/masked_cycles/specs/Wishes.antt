-- The tags and the counters of a cycle follow from what its blocks wish.
use Rattle.std.specs.Prelude.{◌≡◌, ℕ, length, slice_index}
use Rattle.block_tree.specs.declared.tags.Tag.{Tag}
use Rattle.mesh_rules.specs.declared.wish.Wish.{Wish}
use Rattle.mesh_rules.specs.Sums.{table}
use Rattle.mesh_rules.specs.Cycle.{counters_of, tags_of}
use Rattle.mesh_rules.specs.Tags.{counted, tag_of}
use Rattle.masked_cycles.specs.Cycles.{Cycle, IsCycle, kernels, run_reacted, settings}

-- what a block wishes at the end of the cycle, how often in a row it has wished to derefine, and its tag
abbrev pub wish_at : Cycle → ℕ → Wish
wish_at c b = (kernels c).wish b ((run_reacted c).mesh b)

abbrev pub counter_at : Cycle → ℕ → ℕ
counter_at c b = counted c.problem.derefine_count (wish_at c b) (slice_index c.state.counters b)

abbrev pub tag_at : Cycle → ℕ → Tag
tag_at c b = tag_of c.problem.derefine_count (wish_at c b) (counter_at c b)

pub record TagsFollow (c : Cycle) : Type 0 where
  pub tags : tags_of (settings c) c.react c.state ≡ table (length c.state.mesh.leaves) (tag_at c)
  pub counters : counters_of (settings c) c.react c.state ≡ table (length c.state.mesh.leaves) (counter_at c)

abbrev pub AllTagsFollow : Type 0
AllTagsFollow = (c : Cycle) → IsCycle c → TagsFollow c
