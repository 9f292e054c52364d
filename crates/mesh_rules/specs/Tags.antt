-- What each leaf wishes, and the tags that follow.
use Rattle.std.specs.Prelude.{ℕ, zero, suc, ◌+◌, ◌-◌, ◌*◌, ◌^◌, cond, ◌&&◌, nat_lt, nat_le, min, List, [], ◌∷◌, map, slice_index}
use Rattle.std.specs.List.{enumerate_from}
use Rattle.morton_order.specs.declared.space.Loc.{Loc}
use Rattle.morton_order.specs.Space.{axis_of, same_loc}
use Rattle.morton_order.specs.Neighbours.{moved}
use Rattle.block_tree.specs.declared.tags.Tag.{Tag}
use Rattle.block_tree.specs.declared.tags.Tag.TheVariants.{Merge}
use Rattle.block_tree.specs.declared.tags.Tag.TheVariants as tag
use Rattle.problem_set.specs.Settings.{Settings}
use Rattle.deck_entries.specs.declared.entries.Criterion.{Criterion}
use Rattle.mesh_settings.specs.declared.words.Method.{Method}
use Rattle.mesh_settings.specs.declared.words.Method.TheVariants.{Peak, Jump}
use Rattle.mesh_rules.specs.declared.wish.Wish.{Wish}
use Rattle.mesh_rules.specs.declared.wish.Wish.TheVariants.{Refine, Same, Derefine}
use Rattle.mesh_rules.specs.Sums.{greatest_to}
use Rattle.mesh_rules.specs.Mesh.{Mesh, block_of, block_size, cell_at, stored}

-- the weight of a cell: its total as if it filled a root cell evenly; 3 at level 1 of two dimensions weighs 12
abbrev pub weight : Mesh → ℕ → Loc → ℕ
weight m f c = stored m f c * 2 ^ (m.shape.dims * c.level)

-- the greatest weight in a block
abbrev pub peak_of : Mesh → ℕ → Loc → ℕ
peak_of m f l = greatest_to (block_size m) (λ place. weight m f (cell_at m l place))

-- by how much two numbers differ
abbrev pub difference : ℕ → ℕ → ℕ
difference a b = (a - b) + (b - a)

-- the difference of the weights of a cell and the next one along an axis, where that lies in the same block
abbrev pub step_along : Mesh → ℕ → Loc → ℕ → ℕ
step_along m f c axis =
    let next = moved c axis (axis_of c axis + 1) in
    cond (same_loc (block_of m next) (block_of m c)) (difference (weight m f c) (weight m f next)) 0

-- the greatest difference of the weights of two cells of a block that share a face
abbrev pub jump_of : Mesh → ℕ → Loc → ℕ
jump_of m f l = greatest_to (block_size m) (λ place. greatest_to m.shape.dims (step_along m f (cell_at m l place)))

-- what a method measures of a field in a block
abbrev pub measured_by : Method → Mesh → ℕ → Loc → ℕ
measured_by Peak = peak_of
measured_by Jump = jump_of

-- the wish of a criterion that measures so much: to refine above its upper tolerance and below its greatest level, to derefine
-- below its lower tolerance
abbrev pub wish_by : Criterion → ℕ → ℕ → Wish
wish_by criterion level measure =
    cond (nat_lt criterion.refine_tol measure && nat_lt level criterion.max_level) Refine (cond (nat_lt measure criterion.derefine_tol) Derefine Same)

-- the stronger of two wishes: to refine, then to stay, then to derefine
abbrev pub stronger : Wish → Wish → Wish
stronger Refine w = Refine
stronger Same Refine = Refine
stronger Same Same = Same
stronger Same Derefine = Same
stronger Derefine w = w

-- the strongest of the wishes, to stay where there is none
abbrev pub strongest : List Wish → Wish
strongest [] = Same
strongest (w ∷ []) = w
strongest (w ∷ ws) = stronger w (strongest ws)

-- a root stays where it wishes to derefine
abbrev pub at_root : ℕ → Wish → Wish
at_root zero Derefine = Same
at_root zero Same = Same
at_root zero Refine = Refine
at_root (suc _) w = w

-- the wish of a leaf
abbrev pub wish : Settings → Mesh → Loc → Wish
wish p m l = at_root l.level (strongest (map (λ (criterion : Criterion). wish_by criterion l.level (measured_by criterion.method m criterion.field l)) p.criteria))

-- how often in a row a leaf has wished to derefine, up to the number that is asked for
abbrev pub counted : ℕ → Wish → ℕ → ℕ
counted limit Derefine count = min limit (count + 1)
counted limit Same count = 0
counted limit Refine count = 0

-- the tag of a leaf that has wished to derefine so often in a row: it may merge once that is often enough
abbrev pub tag_of : ℕ → Wish → ℕ → Tag
tag_of limit Refine count = tag.Refine
tag_of limit Same count = cond (nat_le limit count) Merge tag.Same
tag_of limit Derefine count = cond (nat_le limit count) Merge tag.Same

-- the counters of the leaves after a cycle
abbrev pub counters_after : Settings → Mesh → List ℕ → List ℕ
counters_after p m counters = map (λ (leaf : ℕ × Loc). counted p.derefine_count (wish p m leaf.1) (slice_index counters leaf.0)) (enumerate_from 0 m.leaves)

-- the tags after a cycle: where ten wishes are asked for, the tenth in a row to derefine says merge, the first to refine says refine
abbrev pub tags_after : Settings → Mesh → List ℕ → List Tag
tags_after p m counters = map (λ (leaf : ℕ × Loc). tag_of p.derefine_count (wish p m leaf.1) (counted p.derefine_count (wish p m leaf.1) (slice_index counters leaf.0))) (enumerate_from 0 m.leaves)
