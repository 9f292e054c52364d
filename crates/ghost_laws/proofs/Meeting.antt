-- Where a finer block meets the coarser one across its side.
use Rattle.std.proofs.Common.{◌≡◌, ℕ, zero, suc, ◌+◌, ◌*◌, ◌/◌, ◌%◌, ◌<◌, ◌≤◌, Bool, true, false, cond, not, Some, List, refl, arith, ap, subst, sym, ◌∙◌, slice_index}
use Rattle.std.proofs.lemmas.Bool.{lt-ltb}
use Rattle.std.proofs.Math.Nat.{div-eq_of_lt-le}
use Rattle.morton_order.specs.declared.space.Loc.{Loc}
use Rattle.morton_order.specs.Space.{IsIn, axis_of, child, factor, parent}
use Rattle.morton_order.specs.Neighbours.{across}
use Rattle.morton_order.proofs.Crossing.{across-back, across-half, crossed_level}
use Rattle.morton_order.proofs.Family.{parent-child}
use Rattle.block_tree.proofs.Behinds.{fails}
use Rattle.mesh_rules.specs.Mesh.{Mesh, cells_along, is_inner}
use Rattle.block_geometry.specs.Blocks.{FieldBlock, IsFieldBlock}
use Rattle.block_geometry.proofs.Rows.{along_with}
use Rattle.block_geometry.proofs.Seen.{three_axes}
use Rattle.ghost_laws.specs.Layers.{across_index, layer_along}
use Rattle.ghost_laws.specs.Refined.{LiesInChild, finer_index, finer_along, half_cells, halves_of}
use Rattle.ghost_laws.specs.Given.{IsBeside}
use Rattle.ghost_laws.proofs.Layers.{count_at, sizes, used_in}

-- an axis in use is cut in two
pub two_parts : (dims axis : ℕ) → axis < dims → factor dims axis ≡ 2
two_parts dims axis h = ap (λ (b : Bool). cond b 2 1) (lt-ltb axis dims h)

-- facts of children along any axis
pub lies_along : (m : Mesh) (j : ℕ) (q : List ℕ) (axis : ℕ) → axis < 3 → LiesInChild m j q → slice_index q axis / half_cells m axis ≡ slice_index (halves_of m.shape.dims j) axis
lies_along m j q zero h lies = lies.along1
lies_along m j q (suc zero) h lies = lies.along2
lies_along m j q (suc (suc zero)) h lies = lies.along3
lies_along m j q (suc (suc (suc a))) h lies = absurd (omega arith)

child_along : (dims : ℕ) (o : Loc) (j axis : ℕ) → axis < 3 → axis_of (child dims o j) axis ≡ factor dims axis * axis_of o axis + slice_index (halves_of dims j) axis
child_along dims o j zero h = refl
child_along dims o j (suc zero) h = refl
child_along dims o j (suc (suc zero)) h = refl
child_along dims o j (suc (suc (suc a))) h = absurd (omega arith)

pub finer_at : (m : Mesh) (q : List ℕ) (k axis : ℕ) → axis < 3 → slice_index (finer_index m q k) axis ≡ finer_along m q k axis
finer_at m q k zero h = refl
finer_at m q k (suc zero) h = refl
finer_at m q k (suc (suc zero)) h = refl
finer_at m q k (suc (suc (suc a))) h = absurd (omega arith)

-- which half the sender is
half_first : (n half q J layer : ℕ) (high : Bool) → n ≡ 2 * half → 2 ≤ half → layer < 2 → q ≡ layer_along n high layer → q / half ≡ J → J ≡ cond high 0 1
half_first n half q J layer true e h few f g = sym g ∙ zero_over half q (omega arith)
  where
    zero_over : (k x : ℕ) → x < k → x / k ≡ 0
    zero_over k x h = div-eq_of_lt-le k (omega arith) (omega arith)
half_first n half q J layer false e h few f g = sym g ∙ one_over half q (omega arith) (omega arith)
  where
    one_over : (k x : ℕ) → k ≤ x → x < k + k → x / k ≡ 1
    one_over k x h l = div-eq_of_lt-le k (omega arith) (omega arith)

pub sender_half : (b : FieldBlock) (axis : ℕ) (high : Bool) (j : ℕ) (i : List ℕ) (layer : ℕ) → IsBeside b axis high i → layer < 2 → LiesInChild b.mesh j (across_index b.mesh axis high layer i) →
    slice_index (halves_of b.mesh.shape.dims j) axis ≡ cond high 0 1
sender_half b axis high j i layer beside few lies =
    let m : Mesh = b.mesh in
    let h = three_axes b axis beside.sound beside.used in
    let used = used_in b axis beside.sound beside.used in
    let n : ℕ = cells_along m axis in
    let c = count_at m.shape.dims axis m.cells (sizes b beside.sound) h in
    let four = c.wide used in
    let even = c.even used in
    let q : List ℕ = across_index m axis high layer i in
    let at : slice_index q axis ≡ layer_along n high layer = along_with axis (layer_along n high layer) i h in
    let halved : slice_index q axis / (n / 2) ≡ slice_index (halves_of m.shape.dims j) axis = subst (λ v. slice_index q axis / (n / v) ≡ slice_index (halves_of m.shape.dims j) axis) (two_parts m.shape.dims axis used) (lies_along m j q axis h lies) in
    half_first n (n / 2) (slice_index q axis) (slice_index (halves_of m.shape.dims j) axis) layer high (omega arith) (omega arith) few at halved

-- what lies across the sender's own side is a child of the receiver
other_end : (o d : ℕ) (high : Bool) → d ≡ cond high 0 1 → (2 * o + d) % 2 ≡ cond (not high) 1 0
other_end o d true e = omega arith
other_end o d false e = omega arith

pub record Meets (b : FieldBlock) (axis : ℕ) (high : Bool) (o : Loc) (j : ℕ) : Type 0 where
  pub x : Loc
  pub crosses : across b.mesh.shape (child b.mesh.shape.dims o j) axis (not high) ≡ Some x
  pub above : parent b.mesh.shape.dims x ≡ b.leaf
  pub deep : 1 ≤ x.level

pub sender_crosses : (b : FieldBlock) (axis : ℕ) (high : Bool) (o : Loc) (j : ℕ) (i : List ℕ) (layer : ℕ) → IsBeside b axis high i → layer < 2 → across b.mesh.shape b.leaf axis high ≡ Some o →
    IsIn b.mesh.shape (child b.mesh.shape.dims o j) → LiesInChild b.mesh j (across_index b.mesh axis high layer i) → Meets b axis high o j
sender_crosses b axis high o j i layer beside few meets inside lies =
    let m : Mesh = b.mesh in
    let d : ℕ = m.shape.dims in
    let s : Loc = child d o j in
    let h = three_axes b axis beside.sound beside.used in
    let used = used_in b axis beside.sound beside.used in
    let back : across m.shape o axis (not high) ≡ Some b.leaf = across-back m.shape b.leaf o axis high beside.sound.leaf.inside h meets in
    let up : across m.shape (parent d s) axis (not high) ≡ Some b.leaf = ap (λ (v : Loc). across m.shape v axis (not high)) (parent-child d o j) ∙ back in
    let half = sender_half b axis high j i layer beside few lies in
    let coordinate : axis_of s axis ≡ 2 * axis_of o axis + slice_index (halves_of d j) axis = child_along d o j axis h ∙ ap (λ v. v * axis_of o axis + slice_index (halves_of d j) axis) (two_parts d axis used) in
    let outer : axis_of s axis % 2 ≡ cond (not high) 1 0 = ap (λ v. v % 2) coordinate ∙ other_end (axis_of o axis) (slice_index (halves_of d j) axis) high half in
    let (x, crosses, above) = across-half m.shape beside.sound.mesh.shape.most s b.leaf axis (not high) used inside (omega arith) outer up in
    let level = crossed_level m.shape s axis (not high) x crosses in
    record { x = x; crosses = crosses; above = above; deep = omega arith }

-- a child of the receiver is no inner node
pub not_inner : (b : FieldBlock) (axis : ℕ) (high : Bool) (o : Loc) (j : ℕ) → IsFieldBlock b → (t : Meets b axis high o j) → is_inner b.mesh t.x ≡ false
not_inner b axis high o j sound t = fails (is_inner b.mesh t.x) (λ inner. sound.leaf.outer (ap (is_inner b.mesh) (sym t.above) ∙ sound.mesh.tree.closed t.x inner t.deep))
