-- Sums over boxes, and over one layer of them.
use Rattle.std.proofs.Common.{◌≡◌, ◌==◌, ℕ, zero, suc, ◌+◌, ◌*◌, ◌/◌, ◌%◌, ◌<◌, ◌≤◌, Bool, cond, List, [], ◌∷◌, arith, ap, sym, ◌∙◌, slice_index, inl, inr}
use Rattle.std.proofs.lemmas.Bool.{cases_eq, eq-eqb, ne_eqb}
use Rattle.std.proofs.lemmas.Nat.{div-mul-add, mod-mul-add}
use Rattle.mesh_rules.specs.Sums.{sum_to}
use Rattle.mesh_laws.proofs.Conditions.{under}
use Rattle.mesh_laws.proofs.Grids.{sum_product, sum_zero}
use Rattle.mesh_laws.proofs.Totals.{sum_to-same}
use Rattle.block_layout.specs.Indices.{IsWithin, count_of, index_of, with_along}
use Rattle.flow_laws.specs.Flows.{sum_box}

-- a sum over the numbers of a box
pub box_sum : (n : List ℕ) (g : List ℕ → ℕ) → sum_to (count_of n) (λ k. g (index_of n k)) ≡ sum_box n g
box_sum n g =
    let n1 : ℕ = slice_index n 0 in
    let n2 : ℕ = slice_index n 1 in
    let n3 : ℕ = slice_index n 2 in
    let size : n1 * n2 * n3 ≡ n3 * n2 * n1 = omega arith in
    ap (λ t. sum_to t (λ k. g (index_of n k))) size
    ∙ sum_product (n3 * n2) n1 (λ k. g (index_of n k))
    ∙ sum_product n3 n2 (λ q. sum_to n1 (λ u. g (index_of n (q * n1 + u))))
    ∙ sum_to-same n3 (λ w. sum_to n2 (λ v. sum_to n1 (λ u. g (index_of n ((w * n2 + v) * n1 + u))))) (λ w. sum_to n2 (λ v. sum_to n1 (λ u. g (u ∷ v ∷ w ∷ []))))
    (λ w a. sum_to-same n2 (λ v. sum_to n1 (λ u. g (index_of n ((w * n2 + v) * n1 + u)))) (λ v. sum_to n1 (λ u. g (u ∷ v ∷ w ∷ [])))
    (λ v c. sum_to-same n1 (λ u. g (index_of n ((w * n2 + v) * n1 + u))) (λ u. g (u ∷ v ∷ w ∷ [])) (λ u d. at_index n1 n2 u v w d c)))
  where
    at_index : (n1 n2 u v w : ℕ) → u < n1 → v < n2 →
        g ((((w * n2 + v) * n1 + u) % n1) ∷ (((w * n2 + v) * n1 + u) / n1 % n2) ∷ (((w * n2 + v) * n1 + u) / n1 / n2) ∷ []) ≡ g (u ∷ v ∷ w ∷ [])
    at_index n1 n2 u v w a b =
        let x : ℕ = (w * n2 + v) * n1 + u in
        let e1 : x % n1 ≡ u = mod-mul-add (w * n2 + v) n1 u a in
        let e2 : x / n1 ≡ w * n2 + v = div-mul-add (w * n2 + v) n1 u a in
        let e3 : (w * n2 + v) % n2 ≡ v = mod-mul-add w n2 v b in
        let e4 : (w * n2 + v) / n2 ≡ w = div-mul-add w n2 v b in
        ap (λ t. g (t ∷ (x / n1 % n2) ∷ (x / n1 / n2) ∷ [])) e1
        ∙ ap (λ t. g (u ∷ (t % n2) ∷ (t / n2) ∷ [])) e2
        ∙ ap (λ t. g (u ∷ t ∷ ((w * n2 + v) / n2) ∷ [])) e3
        ∙ ap (λ t. g (u ∷ v ∷ t ∷ [])) e4

-- sums of what is the same at each index of a box
pub box_same : (n : List ℕ) (g h : List ℕ → ℕ) → ((i : List ℕ) → IsWithin n i → g i ≡ h i) → sum_box n g ≡ sum_box n h
box_same n g h e =
    sum_to-same (slice_index n 2) (λ z. sum_to (slice_index n 1) (λ y. sum_to (slice_index n 0) (λ x. g (x ∷ y ∷ z ∷ [])))) (λ z. sum_to (slice_index n 1) (λ y. sum_to (slice_index n 0) (λ x. h (x ∷ y ∷ z ∷ []))))
    (λ z c. sum_to-same (slice_index n 1) (λ y. sum_to (slice_index n 0) (λ x. g (x ∷ y ∷ z ∷ []))) (λ y. sum_to (slice_index n 0) (λ x. h (x ∷ y ∷ z ∷ [])))
    (λ y b. sum_to-same (slice_index n 0) (λ x. g (x ∷ y ∷ z ∷ [])) (λ x. h (x ∷ y ∷ z ∷ [])) (λ x a. e (x ∷ y ∷ z ∷ []) (record { along1 = a; along2 = b; along3 = c }))))

pub box_zero : (n : List ℕ) (g : List ℕ → ℕ) → ((i : List ℕ) → g i ≡ 0) → sum_box n g ≡ 0
box_zero n g e = sum_zero (slice_index n 2) (λ z. sum_to (slice_index n 1) (λ y. sum_to (slice_index n 0) (λ x. g (x ∷ y ∷ z ∷ []))))
    (λ z c. sum_zero (slice_index n 1) (λ y. sum_to (slice_index n 0) (λ x. g (x ∷ y ∷ z ∷ []))) (λ y b. sum_zero (slice_index n 0) (λ x. g (x ∷ y ∷ z ∷ [])) (λ x a. e (x ∷ y ∷ z ∷ []))))

-- a sum in which one number counts alone
one_not : (n e : ℕ) (h : ℕ → ℕ) → n ≤ e → sum_to n (λ u. cond (u == e) (h u) 0) ≡ 0
one_not n e h less = sum_zero n (λ u. cond (u == e) (h u) 0) (λ u l. ap (λ (t : Bool). cond t (h u) 0) (ne_eqb u e (λ f. apart u n e l less f)))
  where
    apart : (u n e : ℕ) → u < n → n ≤ e → u ≡ e → ⊥
    apart u n e l m f = omega arith

pub one_counts : (n e : ℕ) (h : ℕ → ℕ) → e < n → sum_to n (λ u. cond (u == e) (h u) 0) ≡ h e
one_counts zero e h less = absurd (omega arith)
one_counts (suc n) e h less = elim (cases_eq n e) [
  | inl is ↦
      let a = one_not n e h (omega arith) in
      let b : cond (n == e) (h n) 0 ≡ h e = ap (λ (t : Bool). cond t (h n) 0) (eq-eqb n e is) ∙ ap h is in
      omega arith
  | inr other ↦
      let a = one_counts n e h (omega arith) in
      let b : cond (n == e) (h n) 0 ≡ 0 = ap (λ (t : Bool). cond t (h n) 0) (ne_eqb n e other) in
      omega arith
]

alone : (h : ℕ → ℕ) → sum_to 1 h ≡ h 0
alone h = omega arith

-- one layer of a box counts alone
pub layer_counts : (axis : ℕ) (n : List ℕ) (e : ℕ) (g : List ℕ → ℕ) → axis < 3 → e < slice_index n axis → sum_box n (λ i. cond (slice_index i axis == e) (g i) 0) ≡ sum_box (with_along axis 1 n) (λ i. g (with_along axis e i))
layer_counts zero n e g h less =
    sum_to-same (slice_index n 2) (λ z. sum_to (slice_index n 1) (λ y. sum_to (slice_index n 0) (λ x. cond (x == e) (g (x ∷ y ∷ z ∷ [])) 0))) (λ z. sum_to (slice_index n 1) (λ y. sum_to 1 (λ x. g (e ∷ y ∷ z ∷ []))))
    (λ z c. sum_to-same (slice_index n 1) (λ y. sum_to (slice_index n 0) (λ x. cond (x == e) (g (x ∷ y ∷ z ∷ [])) 0)) (λ y. sum_to 1 (λ x. g (e ∷ y ∷ z ∷ [])))
    (λ y b. one_counts (slice_index n 0) e (λ x. g (x ∷ y ∷ z ∷ [])) less ∙ sym (alone (λ x. g (e ∷ y ∷ z ∷ [])))))
layer_counts (suc zero) n e g h less =
    sum_to-same (slice_index n 2) (λ z. sum_to (slice_index n 1) (λ y. sum_to (slice_index n 0) (λ x. cond (y == e) (g (x ∷ y ∷ z ∷ [])) 0))) (λ z. sum_to 1 (λ y. sum_to (slice_index n 0) (λ x. g (x ∷ e ∷ z ∷ []))))
    (λ z c.
    sum_to-same (slice_index n 1) (λ y. sum_to (slice_index n 0) (λ x. cond (y == e) (g (x ∷ y ∷ z ∷ [])) 0)) (λ y. cond (y == e) (sum_to (slice_index n 0) (λ x. g (x ∷ y ∷ z ∷ []))) 0) (λ y b. sym (under (slice_index n 0) (y == e) (λ x. g (x ∷ y ∷ z ∷ []))))
    ∙ one_counts (slice_index n 1) e (λ y. sum_to (slice_index n 0) (λ x. g (x ∷ y ∷ z ∷ []))) less ∙ sym (alone (λ y. sum_to (slice_index n 0) (λ x. g (x ∷ e ∷ z ∷ [])))))
layer_counts (suc (suc zero)) n e g h less =
    sum_to-same (slice_index n 2) (λ z. sum_to (slice_index n 1) (λ y. sum_to (slice_index n 0) (λ x. cond (z == e) (g (x ∷ y ∷ z ∷ [])) 0))) (λ z. cond (z == e) (sum_to (slice_index n 1) (λ y. sum_to (slice_index n 0) (λ x. g (x ∷ y ∷ z ∷ [])))) 0)
    (λ z c. sum_to-same (slice_index n 1) (λ y. sum_to (slice_index n 0) (λ x. cond (z == e) (g (x ∷ y ∷ z ∷ [])) 0)) (λ y. cond (z == e) (sum_to (slice_index n 0) (λ x. g (x ∷ y ∷ z ∷ []))) 0) (λ y b. sym (under (slice_index n 0) (z == e) (λ x. g (x ∷ y ∷ z ∷ []))))
    ∙ sym (under (slice_index n 1) (z == e) (λ y. sum_to (slice_index n 0) (λ x. g (x ∷ y ∷ z ∷ [])))))
    ∙ one_counts (slice_index n 2) e (λ z. sum_to (slice_index n 1) (λ y. sum_to (slice_index n 0) (λ x. g (x ∷ y ∷ z ∷ [])))) less ∙ sym (alone (λ z. sum_to (slice_index n 1) (λ y. sum_to (slice_index n 0) (λ x. g (x ∷ y ∷ e ∷ [])))))
layer_counts (suc (suc (suc a))) n e g h less = absurd (omega arith)
