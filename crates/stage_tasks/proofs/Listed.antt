-- What is written for a buffer is what the kernels of the mesh have.
use Rattle.std.proofs.Common.{◌≡◌, ℕ, ◌<◌, Bool, Some, List, length, arith, ap, subst, sym, ◌∙◌}
use Rattle.std.specs.List.{slice_get, slice_index_or}
use Rattle.std.proofs.lemmas.List.{get_or_default}
use Rattle.std.proofs.lemmas.Option.{slice_get-get_or}
use Rattle.morton_order.specs.declared.space.Loc.{Loc}
use Rattle.morton_order.specs.declared.space.Shape.{Shape}
use Rattle.block_tree.specs.Blocks.{TreeOfBlocks, leaves}
use Rattle.deck_entries.specs.declared.entries.Moves.{Moves}
use Rattle.problem_set.specs.declared.problem.Problem.{Problem}
use Rattle.problem_set.specs.SettingsOf.{settings_of}
use Rattle.mesh_rules.specs.Fields.{moves_at}
use Rattle.block_layout.specs.declared.layout.Layout.{Layout}
use Rattle.block_layout.specs.Faces.{face_count}
use Rattle.upwind_fluxes.specs.declared.donor.Donor.TheVariants.{Below, Above}
use Rattle.field_bufs.specs.declared.buf.FieldBuf.{FieldBuf}
use Rattle.leaf_stages.specs.declared.rates.LevelPortions.{LevelPortions}
use Rattle.leaf_stages.specs.Rates.{AreFluxesBy, AreLevelPortions, AreRatesAt, ClosesAt}
use Rattle.cycle_kernels.specs.Blocks.{CycleMesh, leaf_at}
use Rattle.cycle_kernels.specs.Pairs.{FacePairs}
use Rattle.cycle_kernel_links.specs.Pairs.{AreFluxLists, AreRatesOn, ClosesSides}
use Rattle.cycle_kernel_links.proofs.Fluxes.{fluxes_are_listed}
use Rattle.lent_bufs.specs.Meshes.{IsTreeOf, mesh_in}
use Rattle.lent_bufs.specs.Buffers.{IsBufferOn}
use Rattle.stage_tasks.specs.Fluxes.{with_fluxes}

-- the leaf of a buffer's block
pub leaf_there : (p : Problem) (t : TreeOfBlocks) (l : Layout) (b : ℕ) → b < length (leaves t) → slice_get (leaves t) b ≡ Some (leaf_at (mesh_in p t l) b)
leaf_there p t l b few = slice_get-get_or (leaves t) b (record { level = 0; l1 = 0; l2 = 0; l3 = 0 }) few

-- the order of a field as it is read from a list
pub order_is : (p : Problem) (f : ℕ) (moves : List Moves) (d : Moves) → moves ≡ p.moves → f < length p.moves → (slice_index_or moves f d).order ≡ (moves_at (settings_of p) f).order
order_is p f moves d is some = ap (λ (v : List Moves). (slice_index_or v f d).order) is ∙ ap (λ (m : Moves). m.order) (get_or_default p.moves f d _ some)

-- the axes in use are the problem's
pub same_dims : (p : Problem) (t : TreeOfBlocks) (l : Layout) → IsTreeOf p t l → l.dims ≡ p.shape.dims
same_dims p t l is = is.cycle.layout.dims ∙ ap (λ (v : Shape). v.dims) is.shape

pub rates_on : (p : Problem) (t : TreeOfBlocks) (l : Layout) (f b : ℕ) (x : LevelPortions) → IsTreeOf p t l → b < length (leaves t) → AreLevelPortions (settings_of p) f x →
    x.level ≡ (leaf_at (mesh_in p t l) b).level → AreRatesOn (mesh_in p t l) f b x.rates
rates_on p t l f b x is few are level =
    let at : AreRatesAt (settings_of p) f (leaf_at (mesh_in p t l) b).level x.rates = subst (λ (n : ℕ). AreRatesAt (settings_of p) f n x.rates) level are.rates in
    let dims = same_dims p t l is in
    record {
      denominator = at.denominator;
      right = λ axis used. at.right axis (omega (arith, dims, used));
      left = λ axis used. at.left axis (omega (arith, dims, used));
    }

pub closes_on : (p : Problem) (t : TreeOfBlocks) (l : Layout) (b : ℕ) (closed : List Bool) → IsTreeOf p t l → b < length (leaves t) → ClosesAt p t b closed → ClosesSides (mesh_in p t l) b closed
closes_on p t l b closed is few closes axis high used =
    let dims = is.cycle.layout.dims in
    let most = l.sound.most in
    closes (leaf_at (mesh_in p t l) b) (leaf_there p t l b few) axis high (omega (arith, used, most)) (omega (arith, used, dims))

pub written_are : (p : Problem) (t : TreeOfBlocks) (l : Layout) (buf : FieldBuf) (x : LevelPortions) (closed : List Bool) (order : ℕ) (right left : List ℕ) → IsTreeOf p t l → IsBufferOn p t l buf → AreLevelPortions (settings_of p) buf.field x →
    ((at : Loc) → slice_get (leaves t) buf.block ≡ Some at → x.level ≡ at.level) → ClosesAt p t buf.block closed → order ≡ (moves_at (settings_of p) buf.field).order →
    length right ≡ face_count l → length left ≡ face_count l → AreFluxesBy order l Below x.rates closed buf.cells right → AreFluxesBy order l Above x.rates closed buf.cells left →
    (let v : FieldBuf = record buf { right = right; left = left } in v) ≡ with_fluxes (mesh_in p t l) buf
written_are p t l buf x closed order right left is on are level closes same right_long left_long rights lefts =
    let w : CycleMesh = mesh_in p t l in
    let pairs : FacePairs = record { right = right; left = left } in
    let lists : AreFluxLists w buf.field x.rates closed buf.cells pairs = record {
      right_long = right_long;
      left_long = left_long;
      first_right = λ e. rights.first (same ∙ e);
      first_left = λ e. lefts.first (same ∙ e);
      second_right = λ e. rights.second (same ∙ e);
      second_left = λ e. lefts.second (same ∙ e);
    } in
    let listed = fluxes_are_listed w buf.field buf.block x.rates closed buf.cells pairs is.cycle
    (rates_on p t l buf.field buf.block x is on.block are (level (leaf_at w buf.block) (leaf_there p t l buf.block on.block)))
    (closes_on p t l buf.block closed is on.block closes) on.sizes.cells lists in
    sym (ap (λ (y : FacePairs). let v : FieldBuf = record buf { right = y.right; left = y.left } in v) listed)
