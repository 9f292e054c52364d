-- The finer cells behind a face of a coarser block.
use Rattle.std.proofs.Common.{◌≡◌, ◌==◌, ℕ, zero, suc, ◌+◌, ◌-◌, ◌*◌, ◌/◌, ◌%◌, ◌<◌, ◌≤◌, Bool, true, false, cond, not, List, arith, ap, ◌∙◌, slice_index}
use Rattle.std.proofs.lemmas.Nat.{mod-mul-add}
use Rattle.std.proofs.lemmas.Bool.Decides.{nat_tests}
use Rattle.block_tree.specs.Behind.{is_high_half}
use Rattle.mesh_rules.specs.Mesh.{Mesh, cells_along}
use Rattle.block_geometry.specs.Blocks.{FieldBlock, end_of}
use Rattle.block_geometry.proofs.Rows.{along_with}
use Rattle.block_geometry.proofs.Seen.{three_axes}
use Rattle.ghost_laws.specs.Layers.{across_index, layer_along}
use Rattle.ghost_laws.specs.Refined.{finer_index, halves_of}
use Rattle.ghost_laws.specs.Given.{IsBeside}
use Rattle.ghost_laws.proofs.Layers.{count_at, sizes, used_in}
use Rattle.ghost_laws.proofs.Meeting.{finer_at, two_parts}

-- the finer cells behind a face stand at the sender's own side
digit_of : (dims k axis : ℕ) → axis < dims → dims ≤ 3 → (high : Bool) → is_high_half k axis ≡ high → slice_index (halves_of dims k) axis ≡ cond high 1 0
digit_of dims k zero used most high e = ap (λ v. k % v) (two_parts dims 0 used) ∙ one_bit (k % 2) high (omega arith) e
  where
    one_bit : (x : ℕ) (high : Bool) → x < 2 → (x == 1) ≡ high → x ≡ cond high 1 0
    one_bit x true h e = grind (arith, nat_tests)
    one_bit x false h e = grind (arith, nat_tests)
digit_of dims k (suc zero) used most high e = ap (λ v. k / 2 % v) (two_parts dims 1 used) ∙ one_bit (k / 2 % 2) high (omega arith) e
  where
    one_bit : (x : ℕ) (high : Bool) → x < 2 → (x == 1) ≡ high → x ≡ cond high 1 0
    one_bit x true h e = grind (arith, nat_tests)
    one_bit x false h e = grind (arith, nat_tests)
digit_of dims k (suc (suc zero)) used most high e = ap (λ v. k / 4 % v) (two_parts dims 2 used) ∙ one_bit (k / 4 % 2) high (omega arith) e
  where
    one_bit : (x : ℕ) (high : Bool) → x < 2 → (x == 1) ≡ high → x ≡ cond high 1 0
    one_bit x true h e = grind (arith, nat_tests)
    one_bit x false h e = grind (arith, nat_tests)
digit_of dims k (suc (suc (suc a))) used most high e = absurd (omega arith)

at_end : (n half q c : ℕ) (high : Bool) → n ≡ 2 * half → 2 ≤ half → q ≡ layer_along n high 0 → c ≡ cond (not high) 1 0 → 2 * (q % half) + c ≡ end_of n (not high)
at_end n half q c true e h f g = ap (λ v. 2 * (v % half) + c) f ∙ ap (λ v. 2 * (0 % half) + v) g ∙ none half
  where
    none : (k : ℕ) → 2 * (0 % k) + 0 ≡ 0
    none k = omega arith
at_end n half q c false e h f g = let last : q % half ≡ half - 1 = by half q (omega arith) h in omega arith
  where
    by : (k x : ℕ) → x ≡ 2 * k - 1 → 2 ≤ k → x % k ≡ k - 1
    by k x e h = let z : x ≡ 1 * k + (k - 1) = omega arith in ap (λ v. v % k) z ∙ mod-mul-add 1 k (k - 1) (omega arith)

pub finer_at_side : (b : FieldBlock) (axis : ℕ) (high : Bool) (i : List ℕ) (k : ℕ) → IsBeside b axis high i → is_high_half k axis ≡ not high →
    slice_index (finer_index b.mesh (across_index b.mesh axis high 0 i) k) axis ≡ end_of (cells_along b.mesh axis) (not high)
finer_at_side b axis high i k beside e =
    let m : Mesh = b.mesh in
    let d : ℕ = m.shape.dims in
    let h = three_axes b axis beside.sound beside.used in
    let used = used_in b axis beside.sound beside.used in
    let n : ℕ = cells_along m axis in
    let c = count_at d axis m.cells (sizes b beside.sound) h in
    let four = c.wide used in
    let even = c.even used in
    let q : List ℕ = across_index m axis high 0 i in
    let at : slice_index q axis ≡ layer_along n high 0 = along_with axis (layer_along n high 0) i h in
    finer_at m q k axis h
    ∙ ap (λ v. v * (slice_index q axis % (n / v)) + slice_index (halves_of d k) axis) (two_parts d axis used)
    ∙ at_end n (n / 2) (slice_index q axis) (slice_index (halves_of d k) axis) high (omega arith) (omega arith) at (digit_of d k axis used beside.sound.mesh.shape.most (not high) e)
