-- Cells that touch lie in blocks that are one or touch.
use Rattle.std.proofs.Common.{◌≡◌, ◌⊎◌, ◌==◌, inl, inr, ℕ, zero, suc, ◌+◌, ◌*◌, ◌/◌, ◌%◌, ◌^◌, ◌<◌, ◌≤◌, Bool, true, ◌&&◌, ◌||◌, arith, ap, subst, sym, ◌∙◌, lit<}
use Rattle.std.proofs.Math.Nat.{div-eq_of_lt-le, div-add-mod'}
use Rattle.std.proofs.lemmas.Bool.{and_parts, cases_lt, eqb-true}
use Rattle.std.proofs.lemmas.Bool.Decides.{nat_tests}
use Rattle.std.proofs.lemmas.Nat.{div_below, mod_below}
use Rattle.morton_order.specs.declared.space.Loc.{Loc}
use Rattle.morton_order.specs.Space.{IsIn, factor, root_along, wraps}
use Rattle.morton_order.specs.Neighbours.{AreNeighbours, is_near}
use Rattle.morton_order.proofs.Any.{or_cases}
use Rattle.mesh_rules.specs.Mesh.{IsMesh, Mesh, block_of, cell_lattice, cells_along}

-- the quotient of the next number
next_quotient : (x n : ℕ) → 1 ≤ n → ((x + 1) / n ≡ x / n) ⊎ ((x + 1) / n ≡ x / n + 1)
next_quotient x n h =
    let split : x / n * n + x % n ≡ x = div-add-mod' x n in
    let small : x % n < n = mod_below x n h in
    elim (cases_lt (x % n + 1) n) [
      | inl less ↦ inl (div-eq_of_lt-le n (omega arith) (omega arith))
      | inr more ↦ inr (div-eq_of_lt-le n (omega arith) (omega arith))
    ]

-- the quotient of the last number
last_quotient : (x r n : ℕ) → 1 ≤ n → x + 1 ≡ r * n → x / n + 1 ≡ r
last_quotient x zero n h e = absurd (omega arith)
last_quotient x (suc r) n h e = let q : x / n ≡ r = div-eq_of_lt-le n (omega arith) (omega arith) in omega arith

-- the ways to be near
data Near (n : ℕ) (w : Bool) (x y : ℕ) : Type 0 where
  here : x ≡ y → Near n w x y
  above : x + 1 ≡ y → Near n w x y
  under : y + 1 ≡ x → Near n w x y
  round : w ≡ true → x + 1 ≡ n → y ≡ 0 → Near n w x y
  around : w ≡ true → y + 1 ≡ n → x ≡ 0 → Near n w x y

near_ways : (n : ℕ) (w : Bool) (x y : ℕ) → is_near n w x y ≡ true → Near n w x y
near_ways n w x y h = elim (or_cases (x == y || x + 1 == y || y + 1 == x) (w && ((x + 1 == n && y == 0) || (y + 1 == n && x == 0))) h) [
  | inl close ↦ elim (or_cases (x == y || x + 1 == y) (y + 1 == x) close) [
    | inl c ↦ elim (or_cases (x == y) (x + 1 == y) c) [ inl a ↦ here (eqb-true x y a) | inr a ↦ above (eqb-true (x + 1) y a) ]
    | inr a ↦ under (eqb-true (y + 1) x a)
  ]
  | inr far ↦
      let a = and_parts w ((x + 1 == n && y == 0) || (y + 1 == n && x == 0)) far in
      elim (or_cases (x + 1 == n && y == 0) (y + 1 == n && x == 0) a.1) [
        | inl b ↦ let c = and_parts (x + 1 == n) (y == 0) b in round a.0 (eqb-true (x + 1) n c.0) (eqb-true y 0 c.1)
        | inr b ↦ let c = and_parts (y + 1 == n) (x == 0) b in around a.0 (eqb-true (y + 1) n c.0) (eqb-true x 0 c.1)
      ]
]

ways_near : (n : ℕ) (w : Bool) (x y : ℕ) → Near n w x y → is_near n w x y ≡ true
ways_near n w x y (here e) = grind (arith, nat_tests)
ways_near n w x y (above e) = grind (arith, nat_tests)
ways_near n w x y (under e) = grind (arith, nat_tests)
ways_near n w x y (round a e f) = grind (arith, nat_tests)
ways_near n w x y (around a e f) = grind (arith, nat_tests)

-- the quotients of what is near are near
near_quotients : (r n : ℕ) (w : Bool) (x y : ℕ) → 1 ≤ n → Near (r * n) w x y → Near r w (x / n) (y / n)
near_quotients r n w x y h (here e) = here (ap (λ v. v / n) e)
near_quotients r n w x y h (above e) = elim (next_quotient x n h) [
  | inl q ↦ here (sym (ap (λ v. v / n) (sym e) ∙ q))
  | inr q ↦ above (sym q ∙ ap (λ v. v / n) e)
]
near_quotients r n w x y h (under e) = elim (next_quotient y n h) [
  | inl q ↦ here (ap (λ v. v / n) (sym e) ∙ q)
  | inr q ↦ under (sym q ∙ ap (λ v. v / n) e)
]
near_quotients r n w x y h (round a e f) = round a (last_quotient x r n h e) (let z : 0 / n ≡ 0 = omega arith in ap (λ v. v / n) f ∙ z)
near_quotients r n w x y h (around a e f) = around a (last_quotient y r n h e) (let z : 0 / n ≡ 0 = omega arith in ap (λ v. v / n) f ∙ z)

near_blocks : (r n p : ℕ) (w : Bool) (x y : ℕ) → 1 ≤ n → is_near (r * n * p) w x y ≡ true → is_near (r * p) w (x / n) (y / n) ≡ true
near_blocks r n p w x y h e =
    let turned : r * n * p ≡ r * p * n = omega arith in
    ways_near (r * p) w (x / n) (y / n) (near_quotients (r * p) n w x y h (near_ways (r * p * n) w x y (subst (λ v. is_near v w x y ≡ true) turned e)))

-- the block of a cell lies in the domain
below_end : (r n p x : ℕ) → 1 ≤ n → x < r * n * p → x / n < r * p
below_end r n p x h l = let turned : r * n * p ≡ r * p * n = omega arith in div_below x n (r * p) h (subst (λ v. x < v) turned l)

pub block_inside : (m : Mesh) → IsMesh m → (c : Loc) → IsIn (cell_lattice m) c → IsIn m.shape (block_of m c)
block_inside m mesh c h = record {
  level = h.level;
  within1 = below_end (root_along m.shape 0) (cells_along m 0) (factor m.shape.dims 0 ^ c.level) c.l1 (mesh.some_cells 0 (lit< tt)) h.within1;
  within2 = below_end (root_along m.shape 1) (cells_along m 1) (factor m.shape.dims 1 ^ c.level) c.l2 (mesh.some_cells 1 (lit< tt)) h.within2;
  within3 = below_end (root_along m.shape 2) (cells_along m 2) (factor m.shape.dims 2 ^ c.level) c.l3 (mesh.some_cells 2 (lit< tt)) h.within3;
}

-- the blocks of cells that touch are one, or touch
pub blocks_touch : (m : Mesh) → IsMesh m → (c d : Loc) → AreNeighbours (cell_lattice m) c d → AreNeighbours m.shape (block_of m c) (block_of m d)
blocks_touch m mesh c d h = record {
  level = h.level;
  near1 = near_blocks (root_along m.shape 0) (cells_along m 0) (factor m.shape.dims 0 ^ c.level) (wraps m.shape 0) c.l1 d.l1 (mesh.some_cells 0 (lit< tt)) h.near1;
  near2 = near_blocks (root_along m.shape 1) (cells_along m 1) (factor m.shape.dims 1 ^ c.level) (wraps m.shape 1) c.l2 d.l2 (mesh.some_cells 1 (lit< tt)) h.near2;
  near3 = near_blocks (root_along m.shape 2) (cells_along m 2) (factor m.shape.dims 2 ^ c.level) (wraps m.shape 2) c.l3 d.l3 (mesh.some_cells 2 (lit< tt)) h.near3;
}
