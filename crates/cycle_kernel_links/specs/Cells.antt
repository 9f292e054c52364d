-- What reactions, tags and checks promise gives the totals, flows and wishes of a cycle.
use Rattle.std.specs.Prelude.{◌≡◌, ℕ, ◌<◌, List, [], ◌++◌, length, replicate}
use Rattle.std.specs.List.{slice_index_or}
use Rattle.package_fields.specs.declared.flow.Flow.{Flow}
use Rattle.package_fields.specs.Flow.{no_flow}
use Rattle.package_fields.specs.Kernel.{with_parts}
use Rattle.deck_entries.specs.declared.entries.Criterion.{Criterion}
use Rattle.mesh_rules.specs.Fields.{field_count}
use Rattle.mesh_rules.specs.Tags.{wish_by}
use Rattle.block_layout.specs.declared.layout.Layout.{Layout}
use Rattle.block_layout.specs.Layouts.{interior_len}
use Rattle.block_layout.specs.Regions.{interior}
use Rattle.block_regions.specs.Boxes.{box_of}
use Rattle.field_bufs.specs.declared.buf.FieldBuf.{FieldBuf}
use Rattle.field_bufs.specs.Buffers.{cells_of}
use Rattle.react_kernel.specs.Blocks.{HasGained, HasReacted}
use Rattle.refine_tags.specs.Measures.{measured_in, total_at}
use Rattle.cycle_kernels.specs.Blocks.{CycleMesh, leaf_at}
use Rattle.cycle_kernels.specs.Lists.{ghosts_in, own_totals}
use Rattle.cycle_kernels.specs.Cells.{criterion_wish, made_by, reacted_by, used_by}

-- a field that has no buffer has no totals
abbrev pub AbsentIsNothing : Type 0
AbsentIsNothing = (l : Layout) → own_totals l [] ≡ replicate (interior_len l) 0

-- the totals by field that some buffers of a block have
abbrev pub totals_in : CycleMesh → List FieldBuf → ℕ → List ℕ
totals_in w bufs f = own_totals w.layout (cells_of bufs f)

-- a reaction of a block leaves the totals of the cycle, and the ghosts
pub record IsReacted (w : CycleMesh) (old now : List FieldBuf) (f : ℕ) : Type 0 where
  pub own : totals_in w now f ≡ reacted_by w (totals_in w old) f
  pub ghosts : ghosts_in w.layout (cells_of now f) ≡ ghosts_in w.layout (cells_of old f)

abbrev pub ReactionsAreThose : Type 0
ReactionsAreThose = (w : CycleMesh) (block stamp f : ℕ) (old now made : List FieldBuf) → f < field_count w.settings →
    HasReacted w.react w.layout block stamp (field_count w.settings) old now made → IsReacted w old (now ++ made) f

-- flows gain what is made and used of their fields
abbrev pub GainsAreThose : Type 0
GainsAreThose = (w : CycleMesh) (f : ℕ) (bufs : List FieldBuf) (old new : List Flow) → f < field_count w.settings →
    length old ≡ field_count w.settings → HasGained w.react w.layout bufs (interior_len w.layout) old new →
    slice_index_or new f no_flow ≡ with_parts (slice_index_or old f no_flow) (made_by w (totals_in w bufs) f)
    (used_by w (totals_in w bufs) f)

-- the wish of a criterion by the list of a block with its ghosts
abbrev pub WishesAreThose : Type 0
WishesAreThose = (w : CycleMesh) (b : ℕ) (c : Criterion) (totals : ℕ → List ℕ) (cells : List ℕ) →
    totals c.field ≡ own_totals w.layout cells →
    wish_by c (leaf_at w b).level (measured_in c.method w.layout (leaf_at w b).level
    (total_at cells (box_of w.layout (interior w.layout).low))) ≡ criterion_wish w b totals c
