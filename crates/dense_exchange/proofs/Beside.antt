-- Layers of a block that were copied into the ghosts of a block of the same level beside it.
use Rattle.std.proofs.Common.{◌≡◌, ◌<◌, ℕ, Bool, not, List, [], ◌∷◌, length, arith, ap, subst, sym, ◌∙◌, slice_index}
use Rattle.std.specs.Prelude.{slice_set}
use Rattle.std.specs.List.{slice_index_or}
use Rattle.std.proofs.lemmas.List.{length-set, set-set}
use Rattle.std.proofs.lemmas.List.FromFn.{get_or-map-range_with_len}
use Rattle.block_layout.specs.declared.layout.Layout.{Layout}
use Rattle.block_layout.specs.Indices.{IsWithin, count_of, index_of, number_of}
use Rattle.block_layout.specs.Layouts.{len}
use Rattle.block_layout.specs.Regions.{ghosts, inner_layers}
use Rattle.block_layout.proofs.Boxes.{number_bound, number_index}
use Rattle.cell_boxes.specs.declared.boxes.BoxIn.{BoxIn}
use Rattle.cell_boxes.specs.Boxes.{HasBox, IsBoxIn, StaysOffBox, address}
use Rattle.block_regions.specs.declared.regions.BlockRegion.{BlockRegion}
use Rattle.block_regions.specs.Boxes.{IsRegion, LiesInBlock, box_of}
use Rattle.block_regions.specs.Written.{HasRegion, StaysOffRegion, cell_in}
use Rattle.block_regions.proofs.InBlocks.{has_region, region_address, region_fits, stays_off_region}
use Rattle.ghost_buffers.specs.declared.part.How.TheVariants.{Same}
use Rattle.ghost_buffers.specs.Ghosts.{ghost_cell, received}
use Rattle.ghost_buffers.specs.Parts.{part_cell, part_extents, part_of, sent}
use Rattle.morton_order.specs.declared.space.Side.{Side}
use Rattle.dense_mesh.specs.Ghosts.{list_at}
use Rattle.dense_exchange.specs.declared.field_mesh.FieldMesh.{FieldMesh}
use Rattle.dense_exchange.specs.FieldMeshes.{HoldOwn, leaf_count}
use Rattle.dense_exchange.specs.Sides.{IsReceived}
use Rattle.dense_exchange.proofs.OnMeshes.{same_item}
use Rattle.dense_exchange.proofs.Received.{Meet, others_at, part_is, received_is}

-- the number of a part at an index is the sender's cell there
part_at : (l : Layout) (axis : ℕ) (high : Bool) (cells i : List ℕ) → IsWithin (part_extents Same l axis) i → ghost_cell Same l axis (part_of Same l axis high 0 cells) i ≡ cell_in l (sent Same l axis high 0) cells i
part_at l axis high cells i w =
    let e = part_extents Same l axis in
    let k = number_of e i in
    let same = number_index e i w in
    let given : ℕ → ℕ → ℕ → ℕ = λ x y z. part_cell Same l axis high 0 cells (x ∷ y ∷ z ∷ []) in
    get_or-map-range_with_len (λ k. part_cell Same l axis high 0 cells (index_of e k)) 0 (count_of e) k k 0 (number_bound e i w) (omega arith)
    ∙ ap (λ v. given v (slice_index (index_of e k) 1) (slice_index (index_of e k) 2)) same.along1
    ∙ ap (λ v. given (slice_index i 0) v (slice_index (index_of e k) 2)) same.along2
    ∙ ap (λ v. given (slice_index i 0) (slice_index i 1) v) same.along3

-- the sender's layers are a box of its list
pub layers_fit : (l : Layout) (axis : ℕ) (high : Bool) (sends gives : BlockRegion) (from : BoxIn) (n : ℕ) → IsRegion (inner_layers l axis (not high) 2) sends → IsRegion (ghosts l axis high) gives → LiesInBlock l sends → from ≡ box_of l sends.low → n ≡ len l →
    IsBoxIn gives.extents from n
layers_fit l axis high sends gives from n out into lies p e =
    subst (λ (x : BoxIn). IsBoxIn gives.extents x n) (sym p)
    (subst (λ (v : List ℕ). IsBoxIn v (box_of l sends.low) n) (out.extents ∙ sym into.extents) (region_fits l sends n lies e))

-- the ghosts have what the part gives that the sender would make of them
pub layers_copied : (l : Layout) (axis : ℕ) (high : Bool) (cells new : List ℕ) (sends gives : BlockRegion) (from into : BoxIn) → IsRegion (inner_layers l axis (not high) 2) sends → IsRegion (ghosts l axis high) gives →
    from ≡ box_of l sends.low → into ≡ box_of l gives.low → HasBox (λ n. n) gives.extents cells from new into → HasRegion l (received Same l axis high 0) (ghost_cell Same l axis (part_of Same l axis (not high) 0 cells)) new
layers_copied l axis high cells new sends gives from into out inside p q has =
    has_region l (ghosts l axis high) gives (ghost_cell Same l axis (part_of Same l axis (not high) 0 cells)) new inside
    (λ i w. ap (λ (x : BoxIn). slice_index new (address x i)) (sym q)
    ∙ has i w
    ∙ ap (λ (x : BoxIn). slice_index cells (address x i)) p
    ∙ ap (slice_index cells) (region_address l (inner_layers l axis (not high) 2) sends i out)
    ∙ sym (part_at l axis (not high) cells i (subst (λ (v : List ℕ). IsWithin v i) inside.extents w)))

-- all else stays
pub layers_kept : (l : Layout) (axis : ℕ) (high : Bool) (old new : List ℕ) (gives : BlockRegion) (into : BoxIn) → IsRegion (ghosts l axis high) gives → into ≡ box_of l gives.low → StaysOffBox gives.extents into old new →
    StaysOffRegion l (received Same l axis high 0) old new
layers_kept l axis high old new gives into inside q stays =
    stays_off_region l (ghosts l axis high) gives old new inside (subst (λ (x : BoxIn). StaysOffBox gives.extents x old new) q stays)

-- another list is read while one of them is taken out
pub other_read : (e : FieldMesh) (from to : ℕ) (ghosts : List (List ℕ)) (hole sender : List ℕ) → HoldOwn e ghosts → from < leaf_count e → ¬ (from ≡ to) → sender ≡ slice_index_or (slice_set ghosts to hole) from sender → sender ≡ list_at ghosts from
other_read e from to ghosts hole sender held few differ is =
    let many : length (slice_set ghosts to hole) ≡ leaf_count e = length-set ghosts to hole ∙ held.lists.count in
    same_item (slice_set ghosts to hole) from sender [] (subst (λ v. from < v) (sym many) few) is ∙ others_at ghosts to hole from differ

pub other_long : (e : FieldMesh) (from to : ℕ) (ghosts : List (List ℕ)) (hole sender : List ℕ) → HoldOwn e ghosts → from < leaf_count e → ¬ (from ≡ to) → sender ≡ slice_index_or (slice_set ghosts to hole) from sender → length sender ≡ len e.layout.now
other_long e from to ghosts hole sender held few differ is = ap length (other_read e from to ghosts hole sender held few differ is) ∙ held.lists.sizes from few

-- the list that was taken out is put back with the copied layers
pub copied_back : (e : FieldMesh) (side : Side) (from to : ℕ) (ghosts : List (List ℕ)) (hole sender mine new : List ℕ) → Meet e Same 0 side from to ghosts → ¬ (from ≡ to) → sender ≡ slice_index_or (slice_set ghosts to hole) from sender → mine ≡ list_at ghosts to → length new ≡ length mine →
    HasRegion e.layout.now (received Same e.layout.now side.axis side.high 0) (ghost_cell Same e.layout.now side.axis (part_of Same e.layout.now side.axis (not side.high) 0 sender)) new → StaysOffRegion e.layout.now (received Same e.layout.now side.axis side.high 0) mine new →
    IsReceived e Same 0 side from to ghosts (slice_set (slice_set ghosts to hole) to new)
copied_back e side from to ghosts hole sender mine new x differ read here long has stays =
    let l : Layout = e.layout.now in
    let made = ap (part_of Same l side.axis (not side.high) 0) (other_read e from to ghosts hole sender x.held x.from_few differ read) ∙ part_is e Same 0 side from to ghosts x in
    subst (λ (v : List (List ℕ)). IsReceived e Same 0 side from to ghosts v) (sym (set-set ghosts to hole new))
    (received_is e Same 0 side from to ghosts (part_of Same l side.axis (not side.high) 0 sender) new x made (long ∙ ap length here) has
    (subst (λ (v : List ℕ). StaysOffRegion l (received Same l side.axis side.high 0) v new) here stays))
