-- The corners of ghosts are empty.
use Rattle.std.proofs.Common.{◌≡◌, ◌==◌, ℕ, zero, suc, ◌+◌, ◌≤◌, Bool, true, false, cond, ◌&&◌, List, [], ◌∷◌, replicate, refl, arith, sym, ◌∙◌, map}
use Rattle.std.specs.List.{list_any}
use Rattle.std.proofs.lemmas.Bool.{eqb-true, false≢true}
use Rattle.std.proofs.lemmas.List.{get_or-replicate}
use Rattle.morton_order.proofs.Any.{or_left, or_right}
use Rattle.mesh_rules.specs.declared.wish.Wish.{Wish}
use Rattle.mesh_rules.specs.Due.{Exchange, ghost_letters}
use Rattle.block_layout.specs.Layouts.{len}
use Rattle.block_layout.specs.Regions.{covers, ghosts}
use Rattle.letter_laws.proofs.Boxes.{table_at}
use Rattle.cycle_kernels.specs.Blocks.{CycleMesh, is_domain_face, total_outside}
use Rattle.cycle_kernels.specs.Lists.{index_at}
use Rattle.cycle_kernels.specs.Letters.{ghost_at, ghosts_by, outside_at, region_given, same_letter, total_given}
use Rattle.cycle_kernels.specs.Pairs.{FacePairs}
use Rattle.cycle_kernels.proofs.Letters.{letter_same, sides_from}
use Rattle.cycle_kernel_links.specs.Ghosts.{IsCorner}
use Rattle.masked_cycles.specs.Cycles.{Cycle, cycle_mesh, kernels, start_of}
use Rattle.cycle_events.specs.Cycles.{forget}
use Rattle.state_bounds.specs.Corners.{CornersStayEmpty, HasEmptyCorners}
use Rattle.state_bounds.proofs.Ghosts.{all_fine}

-- a test that fails passes on
passed_on : (t : Bool) (x y : ℕ) → t ≡ false → y ≡ 0 → cond t x y ≡ 0
passed_on true x y e h = absurd (false≢true (sym e))
passed_on false x y e h = h

-- no face of the domain has a corner outside
beyond_none : (w : CycleMesh) (b f place a n : ℕ) → IsCorner w b place → a + n ≤ w.mesh.shape.dims → outside_at w b f (sides_from a n) (index_at w.layout place) ≡ 0
beyond_none w b f place a zero corner few = refl
beyond_none w b f place a (suc n) corner few =
    passed_on (beyond false) (total_outside w b f a false) (outside_at w b f (record { axis = a; high = true } ∷ sides_from (a + 1) n) (index_at w.layout place)) (off false)
    (passed_on (beyond true) (total_outside w b f a true) (outside_at w b f (sides_from (a + 1) n) (index_at w.layout place)) (off true) (beyond_none w b f place (a + 1) n corner (omega arith)))
  where
    beyond : Bool → Bool
    beyond high = is_domain_face w b a high && covers (ghosts w.layout a high) (index_at w.layout place)

    off : (high : Bool) → (is_domain_face w b a high && covers (ghosts w.layout a high) (index_at w.layout place)) ≡ false
    off high = by (is_domain_face w b a high) refl
      where
        by : (t : Bool) → is_domain_face w b a high ≡ t → (t && covers (ghosts w.layout a high) (index_at w.layout place)) ≡ false
        by true face = corner.outside a high (omega arith) face
        by false e = refl

-- and no letter gives one
given_none : (w : CycleMesh) (b f place : ℕ) (parts : Exchange → List ℕ) (xs : List Exchange) → IsCorner w b place →
    ((x : Exchange) → list_any (same_letter x) xs ≡ true → list_any (same_letter x) (ghost_letters w.mesh) ≡ true) → ghost_at w b f xs parts (index_at w.layout place) ≡ 0
given_none w b f place parts [] corner due = beyond_none w b f place 0 w.mesh.shape.dims corner (omega arith)
given_none w b f place parts (x ∷ xs) corner due =
    passed_on (x.to == b && covers (region_given w x) (index_at w.layout place)) (total_given w x (parts x) (index_at w.layout place)) (ghost_at w b f xs parts (index_at w.layout place)) (by (x.to == b) refl)
    (given_none w b f place parts xs corner (λ y h. due y (or_right (same_letter y x) (list_any (same_letter y) xs) h)))
  where
    by : (t : Bool) → (x.to == b) ≡ t → (t && covers (region_given w x) (index_at w.layout place)) ≡ false
    by true e = corner.given x (record { due = due x (or_left (same_letter x x) (list_any (same_letter x) xs) (letter_same x)); is_to = eqb-true x.to b e })
    by false e = refl

corners_given : (c : Cycle) (b f : ℕ) (parts : Exchange → List ℕ) → HasEmptyCorners c b (ghosts_by (cycle_mesh c) b f parts)
corners_given c b f parts place few corner =
    let w = cycle_mesh c in
    table_at (len w.layout) (λ place. ghost_at w b f (ghost_letters w.mesh) parts (index_at w.layout place)) place few
    ∙ given_none w b f place parts (ghost_letters w.mesh) corner (λ x h. h)

corners_none : (c : Cycle) (b : ℕ) → HasEmptyCorners c b (replicate (len c.layout) 0)
corners_none c b place few corner = get_or-replicate (len c.layout) place 0 0 few

pub corners_stay_empty : CornersStayEmpty
corners_stay_empty c events list b f buf there =
    all_fine {X = Exchange} {V = List ℕ} {G = List ℕ} {F = FacePairs} {P = List ℕ} {W = Wish} (kernels c) (start_of c) (HasEmptyCorners c) (corners_none c) (corners_given c) (map forget events) list b f buf there
