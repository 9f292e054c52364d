-- What a leaf's lists have at the faces of the domain is what flows in and out of its block.
use Rattle.std.proofs.Common.{◌≡◌, ℕ, ◌+◌, ◌<◌, Bool, true, false, cond, ◌&&◌, Option, Some, None, not, List, map, length, refl, arith, ap, sym, ◌∙◌}
use Rattle.std.specs.List.{slice_get}
use Rattle.std.proofs.lemmas.Bool.{lt-ltb}
use Rattle.std.proofs.lemmas.Option.{slice_get-get_or}
use Rattle.morton_order.specs.declared.space.Loc.{Loc}
use Rattle.morton_order.specs.Neighbours.{across}
use Rattle.morton_order.specs.Space.{child, parent}
use Rattle.block_tree.specs.Behind.{behind_at, children_at, coarse, fine, same}
use Rattle.block_tree.specs.Tree.{is_node}
use Rattle.mesh_rules.specs.Mesh.{is_inner}
use Rattle.mesh_rules.specs.Stage.{when_outside}
use Rattle.mesh_rules.specs.Sums.{sum_to}
use Rattle.mesh_laws.proofs.Totals.{sum_to-same}
use Rattle.flow_laws.specs.Flows.{passed_side}
use Rattle.transport_kernel.specs.Passed.{passed_at}
use Rattle.correction_laws.proofs.Passed.{passed_are_sides}
use Rattle.leaf_stages.specs.Flows.{inflow_along}
use Rattle.cycle_kernels.specs.Blocks as blocks
use Rattle.cycle_kernels.specs.Blocks.{CycleMesh, leaf_at}
use Rattle.cycle_kernels.specs.Pairs.{passed_face}

face_is : (w : CycleMesh) (b axis : ℕ) (high : Bool) (list : List ℕ) → b < length w.mesh.leaves → axis < w.layout.dims →
    passed_face w b axis high list ≡ when_outside (across w.mesh.shape (leaf_at w b) axis high) (passed_side w.layout list axis high)
face_is w b axis high list few used =
    ap (λ t. cond (t && blocks.is_outside (behind_at w.mesh.shape (is_inner w.mesh) axis high (across w.mesh.shape (leaf_at w b) axis high))) (passed_at w.layout axis high list) 0) (lt-ltb b (length w.mesh.leaves) few)
    ∙ by (across w.mesh.shape (leaf_at w b) axis high)
  where
    inside : (p q : Bool) (os : List Loc) (x y : Loc) → blocks.is_outside (cond p (fine os) (cond q (same x) (coarse y))) ≡ false
    inside true q os x y = refl
    inside false true os x y = refl
    inside false false os x y = refl

    by : (v : Option Loc) → cond (blocks.is_outside (behind_at w.mesh.shape (is_inner w.mesh) axis high v)) (passed_at w.layout axis high list) 0 ≡ when_outside v (passed_side w.layout list axis high)
    by None = passed_are_sides w.layout axis high list w.layout.sound used
    by (Some o) = ap (λ t. cond t (passed_at w.layout axis high list) 0) (inside (is_inner w.mesh o) (is_node w.mesh.shape (is_inner w.mesh) o) (map (child w.mesh.shape.dims o) (children_at w.mesh.shape.dims axis (not high))) o (parent w.mesh.shape.dims o))

both_are : (a b c d : ℕ) → a ≡ c → b ≡ d → a + b ≡ c + d
both_are a b c d e f = omega arith

pub flow_is : (w : CycleMesh) (b : ℕ) (right left : List ℕ) (v : ℕ) → b < length w.mesh.leaves →
    ((at : Loc) → slice_get w.mesh.leaves b ≡ Some at → v ≡ sum_to w.layout.dims (inflow_along w.mesh.shape at w.layout right left)) →
    v ≡ sum_to w.layout.dims (λ axis. passed_face w b axis false right + passed_face w b axis true left)
flow_is w b right left v few is =
    is (leaf_at w b) (slice_get-get_or w.mesh.leaves b (record { level = 0; l1 = 0; l2 = 0; l3 = 0 }) few)
    ∙ sum_to-same w.layout.dims (inflow_along w.mesh.shape (leaf_at w b) w.layout right left) (λ axis. passed_face w b axis false right + passed_face w b axis true left)
    (λ axis used. both_are _ _ _ _ (sym (face_is w b axis false right few used)) (sym (face_is w b axis true left few used)))
