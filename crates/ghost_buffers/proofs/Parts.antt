-- What parts hold and give, from their boxes.
use Rattle.std.proofs.lemmas.Grind.{common_steps}
use Rattle.std.proofs.Common.{◌≡◌, ℕ, ◌<◌, ◌^◌, Bool, List, ◌++◌, take, drop, length, slice_index, sym, ◌∙◌, ap, subst, arith}
use Rattle.block_layout.specs.declared.layout.Layout.{Layout}
use Rattle.block_layout.specs.Indices.{IsWithin, count_of}
use Rattle.block_layout.specs.Regions.{Region}
use Rattle.cell_boxes.specs.Boxes.{StaysOffBox}
use Rattle.block_regions.specs.declared.regions.BlockRegion.{BlockRegion}
use Rattle.block_regions.specs.Boxes.{IsRegion, box_of}
use Rattle.block_regions.specs.Rows.{whole_box}
use Rattle.block_regions.specs.Written.{HasRegion, StaysOffRegion, cell_in}
use Rattle.block_regions.proofs.InBlocks.{has_region, region_address, stays_off_region}
use Rattle.restrict_prolong.specs.Refined.{at_index, factors, part_index, refined, sum_in}
use Rattle.restrict_prolong.specs.Boxes.{HasShares, HasSums, at_box}
use Rattle.cell_boxes.specs.declared.boxes.BoxIn.{BoxIn}
use Rattle.restrict_prolong.proofs.SumSteps.{sum_same}
use Rattle.restrict_prolong.proofs.Wholes.{from_whole, whole_address, whole_share}
use Rattle.ghost_buffers.specs.declared.part.How.{How}
use Rattle.ghost_buffers.specs.declared.part.How.TheVariants.{Same, Finer, Coarser}
use Rattle.ghost_buffers.specs.Parts.{PartBelow, part_cell, part_extents, part_of, sent}
use Rattle.ghost_buffers.specs.Ghosts.{ghost_cell, received}
use Rattle.ghost_buffers.specs.Regions.{IsGivenBy, IsMadeBy, MadeBelow, received_extents}

-- cells of a region and their sums, by the region's box
box_cell : (l : Layout) (r : Region) (b : BlockRegion) (cells i : List ℕ) → IsRegion r b → at_box cells (box_of l b.low) i ≡ cell_in l r cells i
box_cell l r b cells i is = ap (slice_index cells) (region_address l r b i is)

box_sum : (f : List ℕ) (l : Layout) (r : Region) (b : BlockRegion) (cells i : List ℕ) → IsRegion r b → sum_in f (at_box cells (box_of l b.low)) i ≡ sum_in f (cell_in l r cells) i
box_sum f l r b cells i is = sum_same (count_of f) (λ j. at_box cells (box_of l b.low) (part_index f i j)) (λ j. cell_in l r cells (part_index f i j)) (λ j h. box_cell l r b cells (part_index f i j) is)

pub made_below : (how : How) (l : Layout) (axis : ℕ) (high : Bool) (half : ℕ) (cells e : List ℕ) (b : BlockRegion) → e ≡ part_extents how l axis → IsRegion (sent how l axis high half) b
    → PartBelow (2 ^ 62) how l axis high half cells → MadeBelow (2 ^ 64) how l e b cells
made_below Same l axis high half cells e b same is small = tt
made_below Coarser l axis high half cells e b same is small = tt
made_below Finer l axis high half cells e b same is small = λ i w.
    subst (λ (v : ℕ). v < 2 ^ 64) (sym (box_sum (factors l.dims) l (sent Finer l axis high half) b cells i is)) (fits (part_cell Finer l axis high half cells i) (small i (subst (λ (v : List ℕ). IsWithin v i) same w)))
  where
    fits : (v : ℕ) → v < 2 ^ 62 → v < 2 ^ 64
    fits v h = omega arith

part_made_by : (how : How) (l : Layout) (axis : ℕ) (high : Bool) (half : ℕ) (cells new : List ℕ) (b : BlockRegion) → IsRegion (sent how l axis high half) b → length new ≡ count_of (part_extents how l axis)
    → IsMadeBy how l (part_extents how l axis) b cells new → new ≡ part_of how l axis high half cells
part_made_by Same l axis high half cells new b is len made =
    from_whole (part_extents Same l axis) (part_cell Same l axis high half cells) new len (λ i w. made i w ∙ box_cell l (sent Same l axis high half) b cells i is)
part_made_by Finer l axis high half cells new b is len made =
    from_whole (part_extents Finer l axis) (part_cell Finer l axis high half cells) new len (λ i w. made i w ∙ box_sum (factors l.dims) l (sent Finer l axis high half) b cells i is)
part_made_by Coarser l axis high half cells new b is len made =
    from_whole (part_extents Coarser l axis) (part_cell Coarser l axis high half cells) new len (λ i w. made i w ∙ box_cell l (sent Coarser l axis high half) b cells i is)

pub part_made : (how : How) (l : Layout) (axis : ℕ) (high : Bool) (half : ℕ) (cells new e : List ℕ) (b : BlockRegion) → e ≡ part_extents how l axis → IsRegion (sent how l axis high half) b → length new ≡ count_of (part_extents how l axis)
    → IsMadeBy how l e b cells new → new ≡ part_of how l axis high half cells
part_made how l axis high half cells new e b same is len made =
    part_made_by how l axis high half cells new b is len (subst (λ (v : List ℕ). IsMadeBy how l v b cells new) same made)

-- the number of a whole part at an index
part_number_at : (e part i : List ℕ) → at_box part (whole_box e) i ≡ at_index e part i
part_number_at e part i = ap (slice_index part) (whole_address e i)

ghosts_given_by : (how : How) (l : Layout) (axis : ℕ) (high : Bool) (half : ℕ) (part new : List ℕ) (b : BlockRegion) → IsRegion (received how l axis high half) b → b.extents ≡ received_extents how l.dims (part_extents how l axis)
    → IsGivenBy how l (part_extents how l axis) b part new → HasRegion l (received how l axis high half) (ghost_cell how l axis part) new
ghosts_given_by Same l axis high half part new b is same given =
    has_region l (received Same l axis high half) b (ghost_cell Same l axis part) new is (λ i w. given i (subst (λ (v : List ℕ). IsWithin v i) same w) ∙ part_number_at (part_extents Same l axis) part i)
ghosts_given_by Finer l axis high half part new b is same given =
    has_region l (received Finer l axis high half) b (ghost_cell Finer l axis part) new is (λ i w. given i (subst (λ (v : List ℕ). IsWithin v i) same w) ∙ part_number_at (part_extents Finer l axis) part i)
ghosts_given_by Coarser l axis high half part new b is same given =
    has_region l (received Coarser l axis high half) b (ghost_cell Coarser l axis part) new is
    (λ i w. given i (subst (λ (v : List ℕ). IsWithin v i) same w) ∙ whole_share (factors l.dims) (part_extents Coarser l axis) part i)

pub ghosts_given : (how : How) (l : Layout) (axis : ℕ) (high : Bool) (half : ℕ) (part new e : List ℕ) (b : BlockRegion) → e ≡ part_extents how l axis → IsRegion (received how l axis high half) b
    → b.extents ≡ received_extents how l.dims (part_extents how l axis) → IsGivenBy how l e b part new → HasRegion l (received how l axis high half) (ghost_cell how l axis part) new
ghosts_given how l axis high half part new e b same is extents given =
    ghosts_given_by how l axis high half part new b is extents (subst (λ (v : List ℕ). IsGivenBy how l v b part new) same given)

pub others_stay : (how : How) (l : Layout) (axis : ℕ) (high : Bool) (half : ℕ) (old new e : List ℕ) (b : BlockRegion) → e ≡ part_extents how l axis → IsRegion (received how l axis high half) b
    → b.extents ≡ received_extents how l.dims (part_extents how l axis) → StaysOffBox (received_extents how l.dims e) (box_of l b.low) old new → StaysOffRegion l (received how l axis high half) old new
others_stay how l axis high half old new e b same is extents stays =
    stays_off_region l (received how l axis high half) b old new is
    (subst (λ (v : List ℕ). StaysOffBox v (box_of l b.low) old new) (ap (received_extents how l.dims) same ∙ sym extents) stays)

-- a list that was written through a slice of all of it
pub written_whole : (n : ℕ) (old new : List ℕ) → length old ≡ n → length new ≡ n → take n (new ++ drop (length new) old) ≡ new
written_whole n old new a b = grind (arith, common_steps)

-- for each sender, what was written box by box
pub made_same : (how : How) (l : Layout) (e cells new : List ℕ) (b : BlockRegion) (from into : BoxIn) → how ≡ Same → from ≡ box_of l b.low → into ≡ whole_box e
    → ((i : List ℕ) → IsWithin e i → at_box new into i ≡ at_box cells from i) → IsMadeBy how l e b cells new
made_same how l e cells new b from into is p q h =
    subst (λ (s : How). IsMadeBy s l e b cells new) (sym is)
    (λ i w. ap (λ (x : BoxIn). at_box new x i) (sym q) ∙ h i w ∙ ap (λ (x : BoxIn). at_box cells x i) p)

pub made_coarser : (how : How) (l : Layout) (e cells new : List ℕ) (b : BlockRegion) (from into : BoxIn) → how ≡ Coarser → from ≡ box_of l b.low → into ≡ whole_box e
    → ((i : List ℕ) → IsWithin e i → at_box new into i ≡ at_box cells from i) → IsMadeBy how l e b cells new
made_coarser how l e cells new b from into is p q h =
    subst (λ (s : How). IsMadeBy s l e b cells new) (sym is)
    (λ i w. ap (λ (x : BoxIn). at_box new x i) (sym q) ∙ h i w ∙ ap (λ (x : BoxIn). at_box cells x i) p)

pub made_finer : (how : How) (l : Layout) (e cells new each : List ℕ) (b : BlockRegion) (from into : BoxIn) → how ≡ Finer → each ≡ factors l.dims → from ≡ box_of l b.low → into ≡ whole_box e
    → HasSums each e cells from new into → IsMadeBy how l e b cells new
made_finer how l e cells new each b from into is f p q h =
    subst (λ (s : How). IsMadeBy s l e b cells new) (sym is)
    (subst (λ (x : BoxIn). HasSums (factors l.dims) e cells (box_of l b.low) new x) q
    (subst (λ (x : BoxIn). HasSums (factors l.dims) e cells x new into) p
    (subst (λ (v : List ℕ). HasSums v e cells from new into) f h)))

pub given_same : (how : How) (l : Layout) (e part new : List ℕ) (b : BlockRegion) (from into : BoxIn) → how ≡ Same → from ≡ whole_box e → into ≡ box_of l b.low
    → ((i : List ℕ) → IsWithin e i → at_box new into i ≡ at_box part from i) → IsGivenBy how l e b part new
given_same how l e part new b from into is p q h =
    subst (λ (s : How). IsGivenBy s l e b part new) (sym is)
    (λ i w. ap (λ (x : BoxIn). at_box new x i) (sym q) ∙ h i w ∙ ap (λ (x : BoxIn). at_box part x i) p)

pub given_finer : (how : How) (l : Layout) (e part new : List ℕ) (b : BlockRegion) (from into : BoxIn) → how ≡ Finer → from ≡ whole_box e → into ≡ box_of l b.low
    → ((i : List ℕ) → IsWithin e i → at_box new into i ≡ at_box part from i) → IsGivenBy how l e b part new
given_finer how l e part new b from into is p q h =
    subst (λ (s : How). IsGivenBy s l e b part new) (sym is)
    (λ i w. ap (λ (x : BoxIn). at_box new x i) (sym q) ∙ h i w ∙ ap (λ (x : BoxIn). at_box part x i) p)

pub given_coarser : (how : How) (l : Layout) (e part new : List ℕ) (b : BlockRegion) (from into : BoxIn) → how ≡ Coarser → from ≡ whole_box e → into ≡ box_of l b.low
    → HasShares l.dims (refined (factors l.dims) e) part from new into → IsGivenBy how l e b part new
given_coarser how l e part new b from into is p q h =
    subst (λ (s : How). IsGivenBy s l e b part new) (sym is)
    (subst (λ (x : BoxIn). HasShares l.dims (refined (factors l.dims) e) part (whole_box e) new x) q
    (subst (λ (x : BoxIn). HasShares l.dims (refined (factors l.dims) e) part x new into) p h))

-- all else stays
pub stays_by : (how kind : How) (l : Layout) (e old new : List ℕ) (b : BlockRegion) (into : BoxIn) → how ≡ kind → into ≡ box_of l b.low
    → StaysOffBox (received_extents kind l.dims e) into old new → StaysOffBox (received_extents how l.dims e) (box_of l b.low) old new
stays_by how kind l e old new b into is q h =
    subst (λ (s : How). StaysOffBox (received_extents s l.dims e) (box_of l b.low) old new) (sym is)
    (subst (λ (x : BoxIn). StaysOffBox (received_extents kind l.dims e) x old new) q h)
