-- What is stored in any cell of a leaf of a mesh that was filled.
use Rattle.std.proofs.Common.{◌≡◌, ℕ, suc, ◌+◌, ◌*◌, ◌/◌, ◌%◌, ◌<◌, ◌≤◌, Bool, true, false, ◌||◌, cond, not, List, [], ◌∷◌, refl, arith, ap, subst, sym, ◌∙◌, lit<}
use Rattle.std.specs.List.{list_any, position_or_len, slice_index_or}
use Rattle.std.proofs.Math.Nat.{div-add-mod', mul-le-mul_left}
use Rattle.std.proofs.lemmas.Bool.{false≢true}
use Rattle.std.proofs.lemmas.Nat.{div-mul-add, mod-mul-add, mod_below}
use Rattle.morton_order.specs.declared.space.Loc.{Loc}
use Rattle.morton_order.specs.Space.{same_loc}
use Rattle.morton_order.proofs.Touching.{same_as, same_loc-is}
use Rattle.block_tree.specs.Tree.{is_listed}
use Rattle.block_tree.proofs.KeyOrder.{leaves_law}
use Rattle.mesh_rules.specs.Mesh.{IsMesh, Mesh, OnLeaf, block_of, block_size, cell_at, cells_along, filled, is_inner, leaf_number, place_of, stored}
use Rattle.mesh_laws.proofs.Fillings.{Numbered, stored_filled}

-- the number of a listed location
listed_by : (l x : Loc) (xs : List Loc) (n : ℕ) (b : Bool) → same_loc l x ≡ b → (b ≡ false → Numbered l xs n) → Numbered l (x ∷ xs) (cond (not b) (1 + n) 0)
listed_by l x xs n true e rest = record { small = omega arith; is = sym (same_loc-is l x e) }
listed_by l x xs n false e rest =
    let r = rest refl in
    let small = r.small in
    let one : 1 + n ≡ suc n = omega arith in
    record { small = omega arith; is = ap (λ k. slice_index_or (x ∷ xs) k l) one ∙ r.is }

pub listed_number : (l : Loc) (xs : List Loc) → is_listed xs l ≡ true → Numbered l xs (position_or_len (same_loc l) xs)
listed_number l [] h = absurd (false≢true h)
listed_number l (x ∷ xs) h = listed_by l x xs (position_or_len (same_loc l) xs) (same_loc l x) refl
    (λ e. listed_number l xs (ap (λ (b : Bool). b || list_any (same_loc l) xs) (sym e) ∙ h))

-- the block of a cell of a leaf has a number
pub leaf_numbered : (m : Mesh) → IsMesh m → (c : Loc) → OnLeaf m c → Numbered (block_of m c) m.leaves (leaf_number m (block_of m c))
leaf_numbered m mesh c leaf =
    listed_number (block_of m c) m.leaves
    (ap (λ (v : List Loc). is_listed v (block_of m c)) mesh.leaves ∙ ((leaves_law m.shape (is_inner m) mesh.shape mesh.tree).leaves (block_of m c)).1 leaf)

-- the place of a cell is one of its block's
pub place_small : (m : Mesh) → IsMesh m → (c : Loc) → place_of m c < block_size m
place_small m mesh c =
    let n1 : ℕ = cells_along m 0 in
    let n2 : ℕ = cells_along m 1 in
    let n3 : ℕ = cells_along m 2 in
    below (c.l1 % n1) (c.l2 % n2) (c.l3 % n3) n1 n2 n3 (mod_below c.l1 n1 (mesh.some_cells 0 (lit< tt))) (mod_below c.l2 n2 (mesh.some_cells 1 (lit< tt))) (mod_below c.l3 n3 (mesh.some_cells 2 (lit< tt)))
  where
    step : (a n b k : ℕ) → a < n → b < k → a + n * b < n * k
    step a n b k p q = let r : b + 1 ≤ k = omega arith in let e : n * (b + 1) ≤ n * k = mul-le-mul_left n r in omega arith

    below : (a b c n1 n2 n3 : ℕ) → a < n1 → b < n2 → c < n3 → a + n1 * (b + n2 * c) < n1 * n2 * n3
    below a b c n1 n2 n3 p q r =
        let e = step b n2 c n3 q r in
        let f = step a n1 (b + n2 * c) (n2 * n3) p e in
        let g : n1 * (n2 * n3) ≡ n1 * n2 * n3 = omega arith in
        omega arith

-- a cell is the one at its place of its block
pub cell_of_place : (m : Mesh) → IsMesh m → (c : Loc) → cell_at m (block_of m c) (place_of m c) ≡ c
cell_of_place m mesh c =
    let n1 : ℕ = cells_along m 0 in
    let n2 : ℕ = cells_along m 1 in
    let n3 : ℕ = cells_along m 2 in
    let a1 : c.l1 % n1 < n1 = mod_below c.l1 n1 (mesh.some_cells 0 (lit< tt)) in
    let a2 : c.l2 % n2 < n2 = mod_below c.l2 n2 (mesh.some_cells 1 (lit< tt)) in
    let rest : ℕ = c.l2 % n2 + n2 * (c.l3 % n3) in
    let t1 : place_of m c ≡ rest * n1 + c.l1 % n1 = turned (c.l1 % n1) n1 rest in
    let t2 : rest ≡ c.l3 % n3 * n2 + c.l2 % n2 = turned (c.l2 % n2) n2 (c.l3 % n3) in
    let d1 : place_of m c / n1 ≡ rest = ap (λ v. v / n1) t1 ∙ div-mul-add rest n1 (c.l1 % n1) a1 in
    let m1 : place_of m c % n1 ≡ c.l1 % n1 = ap (λ v. v % n1) t1 ∙ mod-mul-add rest n1 (c.l1 % n1) a1 in
    let d2 : rest / n2 ≡ c.l3 % n3 = ap (λ v. v / n2) t2 ∙ div-mul-add (c.l3 % n3) n2 (c.l2 % n2) a2 in
    let m2 : rest % n2 ≡ c.l2 % n2 = ap (λ v. v % n2) t2 ∙ mod-mul-add (c.l3 % n3) n2 (c.l2 % n2) a2 in
    same_as c (cell_at m (block_of m c) (place_of m c)) refl
    (ap (λ v. c.l1 / n1 * n1 + v) m1 ∙ div-add-mod' c.l1 n1)
    (ap (λ v. c.l2 / n2 * n2 + v % n2) d1 ∙ ap (λ v. c.l2 / n2 * n2 + v) m2 ∙ div-add-mod' c.l2 n2)
    (ap (λ v. c.l3 / n3 * n3 + v / n2) d1 ∙ ap (λ v. c.l3 / n3 * n3 + v) d2 ∙ div-add-mod' c.l3 n3)
  where
    turned : (a n b : ℕ) → a + n * b ≡ b * n + a
    turned a n b = omega arith

-- what is stored in a cell of a leaf is what the mesh was filled with
pub stored_at : (m : Mesh) → IsMesh m → (fields f : ℕ) (each : ℕ → Loc → ℕ) (c : Loc) → f < fields → OnLeaf m c → stored (filled m fields each) f c ≡ each f c
stored_at m mesh fields f each c some leaf =
    let n = leaf_numbered m mesh c leaf in
    subst (λ (v : Loc). stored (filled m fields each) f v ≡ each f v) (cell_of_place m mesh c)
    (stored_filled m mesh.some_cells fields f each (block_of m c) (place_of m c) (leaf_number m (block_of m c)) some (place_small m mesh c) n.small n.is)
