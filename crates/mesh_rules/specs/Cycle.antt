-- A cycle from any state, with any kernel: its meshes and masks, stage by stage, its flows and drops, its tags, and its end.
use Rattle.std.specs.Prelude.{ℕ, zero, suc, ◌+◌, cond, nat_le, List}
use Rattle.morton_order.specs.declared.space.Loc.{Loc}
use Rattle.package_fields.specs.declared.flow.Flow.{Flow}
use Rattle.package_fields.specs.Kernel.{Reacted}
use Rattle.problem_set.specs.Settings.{Settings}
use Rattle.block_tree.specs.declared.tags.Tag.{Tag}
use Rattle.mesh_rules.specs.Sums.{sum_over, sum_to}
use Rattle.mesh_rules.specs.Mesh.{Mesh}
use Rattle.mesh_rules.specs.Fields.{field_count}
use Rattle.mesh_rules.specs.Stage.{leaf_inflow, leaf_outflow, stage}
use Rattle.mesh_rules.specs.Reaction.{leaf_made, leaf_used, react_mesh}
use Rattle.mesh_rules.specs.Tags.{counters_after, tags_after}
use Rattle.mesh_rules.specs.Mask.{Mask, cut, kept_by_check, kept_by_exchange, kept_by_reaction, leaf_dropped}

-- a mesh, and what is kept on it
pub record Held : Type 0 where
  pub mesh : Mesh
  pub mask : Mask

-- the state with which a cycle starts: a mesh, what is kept on it, and how often in a row each leaf has wished to derefine
pub record State : Type 0 where
  pub mesh : Mesh
  pub mask : Mask
  pub counters : List ℕ

-- once more is kept, all that is not kept is made zero
abbrev pub held_by : Settings → Mask → Mesh → Held
held_by p mask m = record { mesh = cut p mask m; mask = mask }

-- a stage: what its exchange calls for is kept, each cell gains and loses, and what is not kept is made zero
abbrev pub stage_held : Settings → Held → Held
stage_held p h = held_by p (kept_by_exchange p h.mesh h.mask) (stage p h.mesh)

-- a reaction: the kernel changes each cell, what is then above the threshold is kept, and what is not kept is made zero
abbrev pub react_held : Settings → (List ℕ → Reacted) → Held → Held
react_held p react h =
    let m = react_mesh react (field_count p) h.mesh in
    held_by p (kept_by_reaction p m h.mask) m

-- the check: what was idle often enough is kept no more, and made zero
abbrev pub check_held : Settings → Held → Held
check_held p h = held_by p (kept_by_check p h.mesh h.mask) h.mesh

-- mesh and mask after that many stages of the cycle
abbrev pub staged_to : Settings → State → ℕ → Held
staged_to p s zero = record { mesh = s.mesh; mask = s.mask }
staged_to p s (suc n) = stage_held p (staged_to p s n)

-- after all stages and the reaction
abbrev pub reacted_to : Settings → (List ℕ → Reacted) → State → Held
reacted_to p react s = react_held p react (staged_to p s p.nstages)

-- after n stages where the cycle has so many, after the reaction beyond them
abbrev pub held_at : Settings → (List ℕ → Reacted) → State → ℕ → Held
held_at p react s n = cond (nat_le n p.nstages) (staged_to p s n) (reacted_to p react s)

-- the mesh of the cycle after n stages, and for the number after that of the stages the mesh after the reaction
abbrev pub mesh_at : Settings → (List ℕ → Reacted) → State → ℕ → Mesh
mesh_at p react s n = (held_at p react s n).mesh

-- what is kept then
abbrev pub kept_at : Settings → (List ℕ → Reacted) → State → ℕ → Mask
kept_at p react s n = (held_at p react s n).mask

-- mesh and mask after the check
abbrev pub checked : Settings → (List ℕ → Reacted) → State → Held
checked p react s = check_held p (reacted_to p react s)

-- a field's flow on a leaf in the cycle: through the faces of the domain in all stages, and by the reaction
abbrev pub leaf_flow : Settings → (List ℕ → Reacted) → State → ℕ → Loc → Flow
leaf_flow p react s f l = record {
  inflow = sum_to p.nstages (λ n. leaf_inflow p (staged_to p s n).mesh f l);
  outflow = sum_to p.nstages (λ n. leaf_outflow p (staged_to p s n).mesh f l);
  made = leaf_made react (field_count p) (staged_to p s p.nstages).mesh f l;
  used = leaf_used react (field_count p) (staged_to p s p.nstages).mesh f l;
}

-- a field's flow in the cycle
abbrev pub flow_of : Settings → (List ℕ → Reacted) → State → ℕ → Flow
flow_of p react s f = record {
  inflow = sum_over s.mesh.leaves (λ l. (leaf_flow p react s f l).inflow);
  outflow = sum_over s.mesh.leaves (λ l. (leaf_flow p react s f l).outflow);
  made = sum_over s.mesh.leaves (λ l. (leaf_flow p react s f l).made);
  used = sum_over s.mesh.leaves (λ l. (leaf_flow p react s f l).used);
}

-- what of a field is dropped on a leaf in a stage, after the reaction, and at the check
abbrev pub leaf_drop_in_stage : Settings → Held → ℕ → Loc → ℕ
leaf_drop_in_stage p h f l = leaf_dropped p (kept_by_exchange p h.mesh h.mask) (stage p h.mesh) f l

abbrev pub leaf_drop_by_reaction : Settings → (List ℕ → Reacted) → Held → ℕ → Loc → ℕ
leaf_drop_by_reaction p react h f l =
    let m = react_mesh react (field_count p) h.mesh in
    leaf_dropped p (kept_by_reaction p m h.mask) m f l

abbrev pub leaf_drop_at_check : Settings → Held → ℕ → Loc → ℕ
leaf_drop_at_check p h f l = leaf_dropped p (kept_by_check p h.mesh h.mask) h.mesh f l

-- what of a field is dropped on a leaf in the cycle
abbrev pub leaf_drop : Settings → (List ℕ → Reacted) → State → ℕ → Loc → ℕ
leaf_drop p react s f l =
    sum_to p.nstages (λ n. leaf_drop_in_stage p (staged_to p s n) f l)
    + leaf_drop_by_reaction p react (staged_to p s p.nstages) f l
    + leaf_drop_at_check p (reacted_to p react s) f l

-- what of a field is dropped in the cycle
abbrev pub drop_of : Settings → (List ℕ → Reacted) → State → ℕ → ℕ
drop_of p react s f = sum_over s.mesh.leaves (leaf_drop p react s f)

-- the tags at the end of the cycle, and how often in a row each leaf has wished to derefine by then: both by the mesh after the reaction
abbrev pub tags_of : Settings → (List ℕ → Reacted) → State → List Tag
tags_of p react s = tags_after p (reacted_to p react s).mesh s.counters

abbrev pub counters_of : Settings → (List ℕ → Reacted) → State → List ℕ
counters_of p react s = counters_after p (reacted_to p react s).mesh s.counters

-- the state after the check, on the tree of the cycle
abbrev pub settled : Settings → (List ℕ → Reacted) → State → State
settled p react s =
    let h = checked p react s in
    record { mesh = h.mesh; mask = h.mask; counters = counters_of p react s }
