-- What ghost buffers promise gives the ghosts of a cycle.
use Rattle.std.specs.Prelude.{◌≡◌, ℕ, ◌<◌, Bool, true, false, not, List, length, slice_index}
use Rattle.std.specs.List.{list_any}
use Rattle.mesh_rules.specs.Due.{Exchange, ghost_letters}
use Rattle.block_layout.specs.Layouts.{len}
use Rattle.block_layout.specs.Regions.{covers, ghosts}
use Rattle.block_regions.specs.Written.{HasRegion, StaysOffRegion}
use Rattle.ghost_buffers.specs.Parts.{part_of}
use Rattle.ghost_buffers.specs.Ghosts.{ghost_cell}
use Rattle.cycle_kernels.specs.Blocks.{CycleMesh, is_domain_face, total_outside}
use Rattle.cycle_kernels.specs.Laws.{IsCycleMesh}
use Rattle.cycle_kernels.specs.Lists.{ghosts_in, index_at, is_own, own_totals}
use Rattle.cycle_kernels.specs.Letters.{ghosts_by, how_sent, part_covered, region_given, region_sent, same_letter}

-- a letter that is due to a block
pub record IsDueTo (w : CycleMesh) (b : ℕ) (x : Exchange) : Type 0 where
  pub due : list_any (same_letter x) (ghost_letters w.mesh) ≡ true
  pub is_to : x.to ≡ b

-- the part that is made of a block's list is that of its own totals
abbrev pub FilledIsSent : Type 0
FilledIsSent = (w : CycleMesh) (x : Exchange) (cells : List ℕ) → IsCycleMesh w →
    list_any (same_letter x) (ghost_letters w.mesh) ≡ true → length cells ≡ len w.layout →
    part_of (how_sent w x) w.layout x.axis (not x.high) (part_covered w x) cells ≡
    region_sent w x (own_totals w.layout cells)

-- a letter's part stands in the ghosts that it gives
abbrev pub IsUnfilledBy : CycleMesh → Exchange → List ℕ → List ℕ → Type 0
IsUnfilledBy w x part cells = HasRegion w.layout (region_given w x)
    (ghost_cell (how_sent w x) w.layout x.axis part) cells

-- what stands outside of a face of the domain stands in the ghosts beyond it
abbrev pub IsFilledOutside : CycleMesh → ℕ → ℕ → ℕ → Bool → List ℕ → Type 0
IsFilledOutside w b f axis high cells = HasRegion w.layout (ghosts w.layout axis high)
    (λ _. total_outside w b f axis high) cells

-- whether no letter to a block gives what stands at a place of its list, and no face of the domain has it outside
pub record IsCorner (w : CycleMesh) (b place : ℕ) : Type 0 where
  pub ghost : is_own w.layout place ≡ false
  pub given : (x : Exchange) → IsDueTo w b x → covers (region_given w x) (index_at w.layout place) ≡ false
  pub outside : (axis : ℕ) (high : Bool) → axis < w.mesh.shape.dims → is_domain_face w b axis high ≡ true →
      covers (ghosts w.layout axis high) (index_at w.layout place) ≡ false

-- all ghosts of a block and field were written by the letters of a stage and by what stands outside; the rest of the
-- list is zero but for the block's own totals
pub record AreAllFilled (w : CycleMesh) (b f : ℕ) (parts : Exchange → List ℕ) (cells : List ℕ) : Type 0 where
  pub given : (x : Exchange) → IsDueTo w b x → IsUnfilledBy w x (parts x) cells
  pub outside : (axis : ℕ) (high : Bool) → axis < w.mesh.shape.dims → is_domain_face w b axis high ≡ true →
      IsFilledOutside w b f axis high cells
  pub corners : (place : ℕ) → place < len w.layout → IsCorner w b place → slice_index cells place ≡ 0

-- they are those of the cycle
abbrev pub FilledAreGhosts : Type 0
FilledAreGhosts = (w : CycleMesh) (b f : ℕ) (parts : Exchange → List ℕ) (cells : List ℕ) → IsCycleMesh w →
    AreAllFilled w b f parts cells → ghosts_in w.layout cells ≡ ghosts_by w b f parts

-- where one more letter is unfilled, or one more face of the domain is filled, what stood in the ghosts of others stays
pub record GhostsStay : Type 0 where
  pub letters : (w : CycleMesh) (b : ℕ) (x y : Exchange) (part old new : List ℕ) → IsCycleMesh w → IsDueTo w b x →
      IsDueTo w b y → ¬ (x ≡ y) → StaysOffRegion w.layout (region_given w y) old new → IsUnfilledBy w x part old →
      IsUnfilledBy w x part new
  pub letter_beside_face : (w : CycleMesh) (b axis : ℕ) (high : Bool) (x : Exchange) (part old new : List ℕ) →
      IsCycleMesh w → IsDueTo w b x → axis < w.mesh.shape.dims → is_domain_face w b axis high ≡ true →
      StaysOffRegion w.layout (ghosts w.layout axis high) old new → IsUnfilledBy w x part old →
      IsUnfilledBy w x part new
  pub face_beside_letter : (w : CycleMesh) (b f axis : ℕ) (high : Bool) (y : Exchange) (old new : List ℕ) →
      IsCycleMesh w → IsDueTo w b y → axis < w.mesh.shape.dims → is_domain_face w b axis high ≡ true →
      StaysOffRegion w.layout (region_given w y) old new → IsFilledOutside w b f axis high old →
      IsFilledOutside w b f axis high new
  pub face_beside_face : (w : CycleMesh) (b f axis other : ℕ) (high end : Bool) (old new : List ℕ) → IsCycleMesh w →
      axis < w.mesh.shape.dims → other < w.mesh.shape.dims → (axis ≡ other → high ≡ end → ⊥) →
      StaysOffRegion w.layout (ghosts w.layout other end) old new → IsFilledOutside w b f axis high old →
      IsFilledOutside w b f axis high new
  pub corner_beside_letter : (w : CycleMesh) (b place : ℕ) (y : Exchange) (old new : List ℕ) → IsCycleMesh w →
      IsDueTo w b y → IsCorner w b place → StaysOffRegion w.layout (region_given w y) old new →
      slice_index new place ≡ slice_index old place
  pub corner_beside_face : (w : CycleMesh) (b place axis : ℕ) (high : Bool) (old new : List ℕ) → IsCycleMesh w →
      axis < w.mesh.shape.dims → is_domain_face w b axis high ≡ true → IsCorner w b place →
      StaysOffRegion w.layout (ghosts w.layout axis high) old new → slice_index new place ≡ slice_index old place
  pub own_beside_letter : (w : CycleMesh) (b : ℕ) (y : Exchange) (old new : List ℕ) → IsCycleMesh w → IsDueTo w b y →
      StaysOffRegion w.layout (region_given w y) old new → own_totals w.layout new ≡ own_totals w.layout old
  pub own_beside_face : (w : CycleMesh) (axis : ℕ) (high : Bool) (old new : List ℕ) → IsCycleMesh w →
      axis < w.mesh.shape.dims → StaysOffRegion w.layout (ghosts w.layout axis high) old new →
      own_totals w.layout new ≡ own_totals w.layout old
