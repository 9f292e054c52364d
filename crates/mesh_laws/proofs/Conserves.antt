-- A stage conserves each field's total, but for what passes the faces of the domain.
use Rattle.std.proofs.Common.{◌≡◌, ℕ, zero, suc, ◌+◌, ◌-◌, ◌<◌, ◌≤◌, Bool, true, false, cond, not, Option, Some, None, List, refl, arith, ap, sym, ◌∙◌}
use Rattle.morton_order.specs.declared.space.Loc.{Loc}
use Rattle.morton_order.specs.Space.{child}
use Rattle.block_tree.specs.Behind.{children_at}
use Rattle.problem_set.specs.Settings.{Settings}
use Rattle.mesh_rules.specs.Sums.{sum_over, sum_to}
use Rattle.mesh_rules.specs.Mesh.{IsMesh, Mesh, block_of, is_inner, stored, sum_cells, total_of}
use Rattle.mesh_rules.specs.Fields.{field_count}
use Rattle.mesh_rules.specs.Faces.{Pair, cell_across, face_pair, face_pair_by, own_pair, sum_pairs}
use Rattle.mesh_rules.specs.Stage.{gain, inflow_of, loss, outflow_of, staged, when_outside}
use Rattle.mesh_laws.specs.PayLaws.{HasFittingRates, IsNoFiner}
use Rattle.mesh_laws.specs.StageLaws.{StageConserves}
use Rattle.mesh_laws.proofs.Balances.{fine_sum, interior, interior_balances}
use Rattle.mesh_laws.proofs.Cells.{cells_axes, cells_plus, cells_same, on_leaves}
use Rattle.mesh_laws.proofs.Fillings.{filled_sum}
use Rattle.mesh_laws.proofs.Grids.{at_option}
use Rattle.mesh_laws.proofs.Mirrors.{mirrored, own_part, passing}
use Rattle.mesh_laws.proofs.Pays.{pays_at_most}

-- what passes a face of a cell at a side, in a direction
abbrev part : Settings → Mesh → ℕ → Loc → ℕ → Bool → Bool → ℕ
part p m f c axis high right = passing right (face_pair p m f c axis high)

-- what passes a face of a cell passes it from outside or from within
passing_sum : (right : Bool) (list : List ℕ) (each : ℕ → Pair) → passing right (sum_pairs list each) ≡ sum_over list (λ j. passing right (each j))
passing_sum true list each = refl
passing_sum false list each = refl

through : (p : Settings) (m : Mesh) (f : ℕ) (c : Loc) (axis : ℕ) (high right : Bool) → part p m f c axis high right ≡ when_outside (cell_across m c axis high) (part p m f c axis high right) + interior (own_part p m f axis right) m axis high c
unfolding face_pair
through p m f c axis high right = by (cell_across m c axis high)
  where
    from_within : (o : Loc) (b : Bool) → passing right (cond b (sum_pairs (children_at m.shape.dims axis (not high)) (λ j. own_pair p m f (child m.shape.dims o j) axis (not high))) (own_pair p m f c axis high))
        ≡ cond b (fine_sum (own_part p m f axis right) m axis high o) (own_part p m f axis right high c)
    from_within o true = passing_sum right (children_at m.shape.dims axis (not high)) (λ j. own_pair p m f (child m.shape.dims o j) axis (not high))
    from_within o false = refl

    by : (o : Option Loc) → passing right (face_pair_by p m f c axis high o) ≡ when_outside o (passing right (face_pair_by p m f c axis high o)) + at_option o (λ x. cond (is_inner m (block_of m x)) (fine_sum (own_part p m f axis right) m axis high x) (own_part p m f axis right high c))
    by None = omega arith
    by (Some x) = from_within x (is_inner m (block_of m x)) ∙ plain (cond (is_inner m (block_of m x)) (fine_sum (own_part p m f axis right) m axis high x) (own_part p m f axis right high c))
      where
        plain : (v : ℕ) → v ≡ 0 + v
        plain v = omega arith

-- the sums of what passes one side in one direction
through_sum : (p : Settings) (m : Mesh) (f axis : ℕ) (high right : Bool) → sum_cells m (λ c. part p m f c axis high right) ≡ sum_cells m (λ c. when_outside (cell_across m c axis high) (part p m f c axis high right)) + sum_cells m (interior (own_part p m f axis right) m axis high)
through_sum p m f axis high right =
    cells_same m (λ c. part p m f c axis high right) (λ c. when_outside (cell_across m c axis high) (part p m f c axis high right) + interior (own_part p m f axis right) m axis high c) (λ c. through p m f c axis high right)
    ∙ cells_plus m (λ c. when_outside (cell_across m c axis high) (part p m f c axis high right)) (interior (own_part p m f axis right) m axis high)

-- along one axis what cells gain and what goes out is what they lose and what comes in
abbrev gain_along : Settings → Mesh → ℕ → Loc → ℕ → ℕ
gain_along p m f c axis = part p m f c axis false true + part p m f c axis true false

abbrev loss_along : Settings → Mesh → ℕ → Loc → ℕ → ℕ
loss_along p m f c axis = part p m f c axis false false + part p m f c axis true true

abbrev in_along : Settings → Mesh → ℕ → Loc → ℕ → ℕ
in_along p m f c axis = when_outside (cell_across m c axis false) (part p m f c axis false true) + when_outside (cell_across m c axis true) (part p m f c axis true false)

abbrev out_along : Settings → Mesh → ℕ → Loc → ℕ → ℕ
out_along p m f c axis = when_outside (cell_across m c axis false) (part p m f c axis false false) + when_outside (cell_across m c axis true) (part p m f c axis true true)

axis_numbers : (g o l i lr hl ll hr olr ohl oll ohr ilr ihl ill ihr : ℕ) → g ≡ lr + hl → l ≡ ll + hr → i ≡ olr + ohl → o ≡ oll + ohr →
    lr ≡ olr + ilr → hl ≡ ohl + ihl → ll ≡ oll + ill → hr ≡ ohr + ihr → ihr ≡ ilr → ihl ≡ ill → g + o ≡ l + i
axis_numbers g o l i lr hl ll hr olr ohl oll ohr ilr ihl ill ihr a b c d e f p q r s = omega arith

along_axis : (p : Settings) (m : Mesh) → IsMesh m → (f axis : ℕ) → axis < m.shape.dims →
    sum_cells m (λ c. gain_along p m f c axis) + sum_cells m (λ c. out_along p m f c axis) ≡ sum_cells m (λ c. loss_along p m f c axis) + sum_cells m (λ c. in_along p m f c axis)
along_axis p m mesh f axis used =
    axis_numbers _ _ _ _ _ _ _ _ _ _ _ _ _ _ _ _
    (cells_plus m (λ c. part p m f c axis false true) (λ c. part p m f c axis true false))
    (cells_plus m (λ c. part p m f c axis false false) (λ c. part p m f c axis true true))
    (cells_plus m (λ c. when_outside (cell_across m c axis false) (part p m f c axis false true)) (λ c. when_outside (cell_across m c axis true) (part p m f c axis true false)))
    (cells_plus m (λ c. when_outside (cell_across m c axis false) (part p m f c axis false false)) (λ c. when_outside (cell_across m c axis true) (part p m f c axis true true)))
    (through_sum p m f axis false true) (through_sum p m f axis true false) (through_sum p m f axis false false) (through_sum p m f axis true true)
    (interior_balances (own_part p m f axis true) m mesh axis (mirrored p m f axis true (omega arith)) used) (interior_balances (own_part p m f axis false) m mesh axis (mirrored p m f axis false (omega arith)) used)

-- along all axes
axes_numbers : (g o l i ga oa la ia : ℕ) → g + o ≡ l + i → ga + oa ≡ la + ia → g + ga + (o + oa) ≡ l + la + (i + ia)
axes_numbers g o l i ga oa la ia a b = omega arith

along_axes : (p : Settings) (m : Mesh) → IsMesh m → (f n : ℕ) → n ≤ m.shape.dims →
    sum_to n (λ axis. sum_cells m (λ c. gain_along p m f c axis)) + sum_to n (λ axis. sum_cells m (λ c. out_along p m f c axis))
    ≡ sum_to n (λ axis. sum_cells m (λ c. loss_along p m f c axis)) + sum_to n (λ axis. sum_cells m (λ c. in_along p m f c axis))
along_axes p m mesh f zero few = refl
along_axes p m mesh f (suc axis) few = axes_numbers _ _ _ _ _ _ _ _ (along_axes p m mesh f axis (omega arith)) (along_axis p m mesh f axis (omega arith))

all_gains : (p : Settings) (m : Mesh) → IsMesh m → (f : ℕ) → sum_cells m (gain p m f) + outflow_of p m f ≡ sum_cells m (loss p m f) + inflow_of p m f
all_gains p m mesh f =
    four _ _ _ _ _ _ _ _ (cells_axes m m.shape.dims (gain_along p m f)) (cells_axes m m.shape.dims (out_along p m f)) (cells_axes m m.shape.dims (loss_along p m f)) (cells_axes m m.shape.dims (in_along p m f))
    (along_axes p m mesh f m.shape.dims (omega arith))
  where
    four : (g o l i a b c d : ℕ) → g ≡ a → o ≡ b → l ≡ c → i ≡ d → a + b ≡ c + d → g + o ≡ l + i
    four g o l i a b c d p q r s e = omega arith

-- what each cell has after the stage and what it paid is what it had and what it gained
all_staged : (p : Settings) (m : Mesh) (f finest : ℕ) → IsMesh m → IsNoFiner m finest → HasFittingRates p f m.shape.dims finest →
    sum_cells m (staged p m f) + sum_cells m (loss p m f) ≡ sum_cells m (stored m f) + sum_cells m (gain p m f)
all_staged p m f finest mesh coarse rates =
    sym (cells_plus m (staged p m f) (loss p m f))
    ∙ on_leaves m mesh (λ c. staged p m f c + loss p m f c) (λ c. stored m f c + gain p m f c) (λ c inside leaf. whole (stored m f c) (gain p m f c) (loss p m f c) (pays_at_most p m f finest c mesh coarse rates inside leaf))
    ∙ cells_plus m (stored m f) (gain p m f)
  where
    whole : (s g l : ℕ) → l ≤ s → s + g - l + l ≡ s + g
    whole s g l h = omega arith

pub staged_conserves : (p : Settings) (m : Mesh) (f finest : ℕ) → IsMesh m → IsNoFiner m finest → HasFittingRates p f m.shape.dims finest →
    sum_cells m (staged p m f) + outflow_of p m f ≡ total_of m f + inflow_of p m f
staged_conserves p m f finest mesh coarse rates = last _ _ _ _ _ _ (all_staged p m f finest mesh coarse rates) (all_gains p m mesh f)
  where
    last : (a l s g o i : ℕ) → a + l ≡ s + g → g + o ≡ l + i → a + o ≡ s + i
    last a l s g o i p q = omega arith

pub stage_conserves : StageConserves
stage_conserves p m f finest mesh coarse rates some =
    ap (λ v. v + outflow_of p m f) (filled_sum m mesh.some_cells (field_count p) f (staged p m) some) ∙ staged_conserves p m f finest mesh coarse rates
