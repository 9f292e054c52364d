-- Which fields are kept on which blocks, and what is made zero where they are not.
use Rattle.std.specs.Prelude.{◌==◌, ℕ, ◌+◌, Bool, true, false, cond, ◌&&◌, ◌||◌, not, nat_lt, nat_le, List, [], count_by, map}
use Rattle.std.specs.List.{enumerate_from, list_any, range_with_len, slice_index_or}
use Rattle.morton_order.specs.declared.space.Loc.{Loc}
use Rattle.morton_order.specs.Space.{child, parent, parts}
use Rattle.block_tree.specs.Behind.{Behind, behind, outside}
use Rattle.block_tree.specs.Tree.{is_listed}
use Rattle.problem_set.specs.Settings.{Settings}
use Rattle.mesh_rules.specs.Sums.{sum_over, table}
use Rattle.mesh_rules.specs.Mesh.{Mesh, block_of, block_size, cell_at, filled, is_inner, leaf_number, leaf_total, stored}
use Rattle.mesh_rules.specs.Fields.{field_count, has_ghosts, is_sparse}
use Rattle.mesh_rules.specs.Fields as fields
use Rattle.mesh_rules.specs.Regions.{region, senders}

-- whether a field is kept on a block, and at how many checks in a row it was idle there
pub record Slot : Type 0 where
  pub kept : Bool
  pub idle : ℕ

-- what is kept, by leaf and field
abbrev pub Mask : Type 0
Mask = List (List Slot)

-- the slot of a field that a block goes without
abbrev pub absent : Slot
absent = record { kept = false; idle = 0 }

-- the slot of a field on a leaf, by the number of the leaf; a field of which the mask says nothing is not kept
abbrev pub slot_at : Mask → ℕ → ℕ → Slot
slot_at mask leaf f = slice_index_or (slice_index_or mask leaf []) f absent

-- the mask whose slots follow from leaf, number of the leaf, and field
abbrev pub masked : List Loc → ℕ → (ℕ → Loc → ℕ → Slot) → Mask
masked leaves count each = map (λ (leaf : ℕ × Loc). table count (each leaf.0 leaf.1)) (enumerate_from 0 leaves)

-- whether some cell of a leaf has more of a field than a threshold
abbrev pub has_above : ℕ → Mesh → ℕ → Loc → Bool
has_above threshold m f l = list_any (λ place. nat_lt threshold (stored m f (cell_at m l place))) (range_with_len 0 (block_size m))

-- a slot after more: kept where it was, or where something calls for it; a field newly kept has been idle at no check
abbrev pub called : Slot → Bool → Slot
called slot calls = cond slot.kept slot (record { kept = calls; idle = 0 })

-- at the start: fields that blocks may not go without, and those that are not all zero
abbrev pub kept_at_start : Settings → Mesh → Mask
kept_at_start p m = masked m.leaves (field_count p) (λ _ l f. called absent (not (is_sparse p f) || has_above 0 m f l))

-- whether a list has a total above a threshold
abbrev pub some_above : ℕ → List ℕ → Bool
some_above threshold totals = list_any (nat_lt threshold) totals

-- whether something above the threshold comes to a leaf across a side: what a sender behind it sends, or what stands outside of it
abbrev pub comes_across : Settings → Mesh → ℕ → Loc → ℕ → Bool → Behind → Bool
comes_across p m f l axis high outside = nat_lt p.alloc_threshold (fields.outside p f axis high l.level)
comes_across p m f l axis high _ = list_any (λ from. some_above p.alloc_threshold (region m f from l axis high)) (senders m l axis high)

-- whether a stage's exchange calls for a field on a leaf
abbrev pub exchange_calls : Settings → Mesh → ℕ → Loc → Bool
exchange_calls p m f l = has_ghosts p f
    && list_any (λ axis. comes_across p m f l axis false (behind m.shape (is_inner m) l axis false) || comes_across p m f l axis true (behind m.shape (is_inner m) l axis true)) (range_with_len 0 m.shape.dims)

-- the mask after the exchange of a stage that begins with a mesh
abbrev pub kept_by_exchange : Settings → Mesh → Mask → Mask
kept_by_exchange p m mask = masked m.leaves (field_count p) (λ leaf l f. called (slot_at mask leaf f) (exchange_calls p m f l))

-- the mask after the reactions that end with a mesh
abbrev pub kept_by_reaction : Settings → Mesh → Mask → Mask
kept_by_reaction p m mask = masked m.leaves (field_count p) (λ leaf l f. called (slot_at mask leaf f) (has_above p.alloc_threshold m f l))

-- a slot after the check: a sparse field is freed once it was idle often enough in a row
abbrev pub checked_slot : Settings → ℕ → Bool → Slot → Slot
checked_slot p f is_idle slot =
    cond (slot.kept && is_sparse p f)
    (cond is_idle (cond (nat_le p.dealloc_count (slot.idle + 1)) absent (record slot { idle = slot.idle + 1 })) (record slot { idle = 0 }))
    slot

-- the mask after the check: a field is idle on a block where no cell has more of it than the threshold
abbrev pub kept_by_check : Settings → Mesh → Mask → Mask
kept_by_check p m mask = masked m.leaves (field_count p) (λ leaf l f. checked_slot p f (not (has_above p.dealloc_threshold m f l)) (slot_at mask leaf f))

-- whether a field stays on a leaf: it is kept there, or no block may go without it
abbrev pub stays : Settings → Mesh → Mask → ℕ → Loc → Bool
stays p m mask f l = not (is_sparse p f) || (slot_at mask (leaf_number m l) f).kept

-- the mesh in which all that does not stay is made zero
abbrev pub cut : Settings → Mask → Mesh → Mesh
cut p mask m = filled m (field_count p) (λ f c. cond (stays p m mask f (block_of m c)) (stored m f c) 0)

-- what of a field is dropped on a leaf where that is made zero, and on the whole mesh
abbrev pub leaf_dropped : Settings → Mask → Mesh → ℕ → Loc → ℕ
leaf_dropped p mask m f l = cond (stays p m mask f l) 0 (leaf_total m f l)

abbrev pub dropped_of : Settings → Mask → Mesh → ℕ → ℕ
dropped_of p mask m f = sum_over m.leaves (leaf_dropped p mask m f)

-- whether a field is kept on an old leaf, by its location
abbrev pub is_kept : Mesh → Mask → ℕ → Loc → Bool
is_kept m mask f l = is_listed m.leaves l && (slot_at mask (leaf_number m l) f).kept

-- whether the parent of a location kept a field; a root has none
abbrev pub parent_kept : Mesh → Mask → ℕ → Loc → Bool
parent_kept m mask f l = not (l.level == 0) && is_kept m mask f (parent m.shape.dims l)

-- whether a new leaf keeps a field: as its parent did, or as any of its children did
abbrev pub inherits : Mesh → Mask → ℕ → Loc → Bool
inherits m mask f l = parent_kept m mask f l || list_any (λ j. is_kept m mask f (child m.shape.dims l j)) (range_with_len 0 (parts m.shape.dims))

-- the mask on the leaves of the next mesh: a leaf that stays keeps its slots, a new one has been idle at no check
abbrev pub carried_mask : Settings → Mesh → Mask → List Loc → Mask
carried_mask p m mask leaves = masked leaves (field_count p) (λ _ l f.
    cond (is_listed m.leaves l) (slot_at mask (leaf_number m l) f) (record { kept = inherits m mask f l; idle = 0 }))

-- on how many blocks a field is kept
abbrev pub blocks_with : Mask → ℕ → ℕ
blocks_with mask f = count_by (λ (slots : List Slot). (slice_index_or slots f absent).kept) mask
