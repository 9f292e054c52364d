-- What is stored on a mesh that was filled.
use Rattle.std.proofs.Common.{◌≡◌, ℕ, zero, suc, ◌+◌, ◌*◌, ◌/◌, ◌%◌, ◌<◌, ◌≤◌, Bool, true, false, cond, not, List, [], ◌∷◌, length, refl, arith, ap, sym, ◌∙◌, lit<}
use Rattle.std.specs.List.{position_or_len, slice_index_or}
use Rattle.std.proofs.lemmas.Bool.{false≢true}
use Rattle.std.proofs.lemmas.List.{get_or-map}
use Rattle.std.proofs.lemmas.List.FromFn.{get_or-map-range_with_len}
use Rattle.std.proofs.Math.Nat.{div-add-mod'}
use Rattle.std.proofs.lemmas.Nat.{mod-mul-add, mod_below, div_below}
use Rattle.morton_order.specs.declared.space.Loc.{Loc}
use Rattle.morton_order.specs.Space.{same_loc}
use Rattle.morton_order.proofs.Touching.{same_loc-is, same_loc-self}
use Rattle.mesh_rules.specs.Sums.{sum_over, sum_to, table}
use Rattle.mesh_rules.specs.Mesh.{Mesh, block_of, block_size, cell_at, cells_along, filled, leaf_number, place_of, stored, sum_cells, total_of}
use Rattle.mesh_laws.proofs.LeafSums.{block_of_cell}
use Rattle.mesh_laws.proofs.Totals.{sum_to-same}

-- a block has cells along each axis
abbrev pub HasCells : Mesh → Type 0
HasCells m = (axis : ℕ) → axis < 3 → 1 ≤ cells_along m axis

-- the place of a cell of a block
pub place_of_cell : (m : Mesh) → HasCells m → (l : Loc) (p : ℕ) → p < block_size m → place_of m (cell_at m l p) ≡ p
place_of_cell m mesh l p small =
    let n1 : ℕ = cells_along m 0 in
    let n2 : ℕ = cells_along m 1 in
    let n3 : ℕ = cells_along m 2 in
    let s1 = mesh 0 (lit< tt) in
    let s2 = mesh 1 (lit< tt) in
    let q : p < n3 * n2 * n1 = omega arith in
    let r : p / n1 < n3 * n2 = div_below p n1 (n3 * n2) (omega arith) q in
    let t : p / n1 / n2 < n3 = div_below (p / n1) n2 n3 (omega arith) r in
    let e1 : (l.l1 * n1 + p % n1) % n1 ≡ p % n1 = mod-mul-add l.l1 n1 (p % n1) (mod_below p n1 (omega arith)) in
    let e2 : (l.l2 * n2 + p / n1 % n2) % n2 ≡ p / n1 % n2 = mod-mul-add l.l2 n2 (p / n1 % n2) (mod_below (p / n1) n2 (omega arith)) in
    let e3 : (l.l3 * n3 + p / n1 / n2) % n3 ≡ p / n1 / n2 = mod-mul-add l.l3 n3 (p / n1 / n2) t in
    let d1 : p / n1 * n1 + p % n1 ≡ p = div-add-mod' p n1 in
    let d2 : p / n1 / n2 * n2 + p / n1 % n2 ≡ p / n1 = div-add-mod' (p / n1) n2 in
    ap (λ v. v + n1 * ((l.l2 * n2 + p / n1 % n2) % n2 + n2 * ((l.l3 * n3 + p / n1 / n2) % n3))) e1
    ∙ ap (λ v. p % n1 + n1 * (v + n2 * ((l.l3 * n3 + p / n1 / n2) % n3))) e2
    ∙ ap (λ v. p % n1 + n1 * (p / n1 % n2 + n2 * v)) e3
    ∙ joined (p % n1) n1 (p / n1 % n2) n2 (p / n1 / n2) (p / n1) p d2 d1
  where
    joined : (a n b k c q p : ℕ) → c * k + b ≡ q → q * n + a ≡ p → a + n * (b + k * c) ≡ p
    joined a n b k c q p e f = let g : b + k * c ≡ q = omega arith in ap (λ v. a + n * v) g ∙ turned a n q ∙ f
      where
        turned : (a n q : ℕ) → a + n * q ≡ q * n + a
        turned a n q = omega arith

-- the number of a location in a list that has it
pub record Numbered (l : Loc) (xs : List Loc) (n : ℕ) : Type 0 where
  pub small : n < length xs
  pub is : slice_index_or xs n l ≡ l

numbered_by : (l x : Loc) (xs : List Loc) (n : ℕ) (b : Bool) → same_loc l x ≡ b → (b ≡ false → Numbered l xs n) → Numbered l (x ∷ xs) (cond (not b) (1 + n) 0)
numbered_by l x xs n true e rest = record { small = omega arith; is = sym (same_loc-is l x e) }
numbered_by l x xs n false e rest = let r = rest refl in let small = r.small in record { small = omega arith; is = ap (λ k. slice_index_or (x ∷ xs) k l) (one_more n) ∙ r.is }
  where
    one_more : (n : ℕ) → 1 + n ≡ suc n
    one_more n = omega arith

other_one : (l x : Loc) (xs : List Loc) (i : ℕ) → same_loc l x ≡ false → i < suc (length xs) → slice_index_or (x ∷ xs) i l ≡ l → (j : ℕ) × (j < length xs) × (slice_index_or xs j l ≡ l)
other_one l x xs zero e small is = absurd (false≢true (sym e ∙ ap (same_loc l) is ∙ same_loc-self l))
other_one l x xs (suc j) e small is = (j, omega arith, is)

pub number_of : (l : Loc) (xs : List Loc) (i : ℕ) → i < length xs → slice_index_or xs i l ≡ l → Numbered l xs (position_or_len (same_loc l) xs)
number_of l [] i small is = absurd (omega arith)
number_of l (x ∷ xs) i small is = numbered_by l x xs (position_or_len (same_loc l) xs) (same_loc l x) refl
    (λ e. let (j, less, at) = other_one l x xs i e small is in number_of l xs j less at)

-- what is stored on a mesh that was filled is what it was filled with
pub stored_filled : (m : Mesh) → HasCells m → (fields f : ℕ) (each : ℕ → Loc → ℕ) (l : Loc) (p i : ℕ) → f < fields → p < block_size m → i < length m.leaves → slice_index_or m.leaves i l ≡ l →
    stored (filled m fields each) f (cell_at m l p) ≡ each f (cell_at m l p)
stored_filled m mesh fields f each l p i some small at is =
    let size : ℕ = block_size m in
    let row : Loc → ℕ → List ℕ = λ x k. table size (λ q. each k (cell_at m x q)) in
    let n = number_of l m.leaves i at is in
    let k : ℕ = position_or_len (same_loc l) m.leaves in
    let block : leaf_number m (block_of m (cell_at m l p)) ≡ k = ap (λ (x : Loc). position_or_len (same_loc x) m.leaves) (block_of_cell m mesh l p small) in
    let place : place_of m (cell_at m l p) ≡ p = place_of_cell m mesh l p small in
    let on_leaf : slice_index_or (filled m fields each).totals k [] ≡ table fields (row l) =
    get_or-map (λ (x : Loc). table fields (row x)) m.leaves k l [] n.small ∙ ap (λ (x : Loc). table fields (row x)) n.is in
    let of_field : slice_index_or (table fields (row l)) f [] ≡ row l f = get_or-map-range_with_len (row l) 0 fields f f [] some (zero_plus f) in
    let of_cell : slice_index_or (row l f) p 0 ≡ each f (cell_at m l p) = get_or-map-range_with_len (λ q. each f (cell_at m l q)) 0 size p p 0 small (zero_plus p) in
    ap (λ t. slice_index_or (slice_index_or (slice_index_or (filled m fields each).totals t []) f []) (place_of m (cell_at m l p)) 0) block
    ∙ ap (λ t. slice_index_or (slice_index_or (slice_index_or (filled m fields each).totals k []) f []) t 0) place
    ∙ ap (λ (t : List (List ℕ)). slice_index_or (slice_index_or t f []) p 0) on_leaf
    ∙ ap (λ (t : List ℕ). slice_index_or t p 0) of_field
    ∙ of_cell
  where
    zero_plus : (n : ℕ) → 0 + n ≡ n
    zero_plus n = omega arith

-- sums over the items of a list
pub over_items : (xs : List Loc) (g h : Loc → ℕ) → ((l : Loc) (i : ℕ) → i < length xs → slice_index_or xs i l ≡ l → g l ≡ h l) → sum_over xs g ≡ sum_over xs h
over_items [] g h e = refl
over_items (x ∷ xs) g h e = let a = e x 0 (omega arith) refl in let b = over_items xs g h (λ l i small is. e l (suc i) (omega arith) is) in omega arith

pub filled_sum : (m : Mesh) → HasCells m → (fields f : ℕ) (each : ℕ → Loc → ℕ) → f < fields → total_of (filled m fields each) f ≡ sum_cells m (each f)
filled_sum m mesh fields f each some =
    over_items m.leaves (λ l. sum_to (block_size m) (λ p. stored (filled m fields each) f (cell_at m l p))) (λ l. sum_to (block_size m) (λ p. each f (cell_at m l p)))
    (λ l i at is. sum_to-same (block_size m) (λ p. stored (filled m fields each) f (cell_at m l p)) (λ p. each f (cell_at m l p)) (λ p small. stored_filled m mesh fields f each l p i some small at is))
