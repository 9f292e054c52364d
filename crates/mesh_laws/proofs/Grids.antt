-- Sums over boxes of three numbers.
use Rattle.std.proofs.Common.{◌≡◌, ℕ, zero, suc, ◌+◌, ◌-◌, ◌*◌, ◌<◌, ◌≤◌, Bool, true, false, cond, ◌&&◌, nat_lt, Option, Some, None, List, [], ◌∷◌, ◌++◌, refl, arith, ap, sym, ◌∙◌}
use Rattle.std.specs.List.{flat_map, range_with_len}
use Rattle.std.proofs.lemmas.Bool.{lt-ltb, le-ltb}
use Rattle.morton_order.specs.Neighbours.{step}
use Rattle.mesh_rules.specs.Sums.{sum_over, sum_to}
use Rattle.mesh_laws.proofs.Totals.{sum_to-same}

-- sums of sums
pub sum_plus : (n : ℕ) (g h : ℕ → ℕ) → sum_to n (λ i. g i + h i) ≡ sum_to n g + sum_to n h
sum_plus zero g h = refl
sum_plus (suc n) g h = let e = sum_plus n g h in omega arith

pub sum_zero : (n : ℕ) (g : ℕ → ℕ) → ((i : ℕ) → i < n → g i ≡ 0) → sum_to n g ≡ 0
sum_zero zero g h = refl
sum_zero (suc n) g h = let e = sum_zero n g (λ i l. h i (omega arith)) in let f = h n (omega arith) in omega arith

pub sum_nothing : (n : ℕ) → sum_to n (λ _. 0) ≡ 0
sum_nothing n = sum_zero n (λ _. 0) (λ i l. refl)

-- two sums in either order
pub sum_swap : (a b : ℕ) (g : ℕ → ℕ → ℕ) → sum_to a (λ i. sum_to b (g i)) ≡ sum_to b (λ j. sum_to a (λ i. g i j))
sum_swap zero b g = sym (sum_nothing b)
sum_swap (suc a) b g = let e = sum_swap a b g in let f = sum_plus b (λ j. sum_to a (λ i. g i j)) (g a) in omega arith

-- a sum in two parts
pub sum_parts : (a b : ℕ) (g : ℕ → ℕ) → sum_to (a + b) g ≡ sum_to a g + sum_to b (λ j. g (a + j))
sum_parts a zero g = let e : a + 0 ≡ a = omega arith in let f : sum_to (a + 0) g ≡ sum_to a g = ap (λ v. sum_to v g) e in omega arith
sum_parts a (suc b) g =
    let e : a + suc b ≡ suc (a + b) = omega arith in
    let f : sum_to (a + suc b) g ≡ sum_to (a + b) g + g (a + b) = ap (λ v. sum_to v g) e in
    let r = sum_parts a b g in omega arith

-- the first term
pub sum_first : (n : ℕ) (g : ℕ → ℕ) → sum_to (suc n) g ≡ g 0 + sum_to n (λ i. g (suc i))
sum_first zero g = omega arith
sum_first (suc n) g = let e = sum_first n g in omega arith

-- a sum over a product
pub sum_product : (a b : ℕ) (g : ℕ → ℕ) → sum_to (a * b) g ≡ sum_to a (λ i. sum_to b (λ j. g (i * b + j)))
sum_product zero b g = let e : 0 * b ≡ 0 = omega arith in ap (λ v. sum_to v g) e
sum_product (suc a) b g =
    let e : suc a * b ≡ a * b + b = omega arith in
    let f : sum_to (suc a * b) g ≡ sum_to (a * b + b) g = ap (λ v. sum_to v g) e in
    let p = sum_parts (a * b) b g in
    let r = sum_product a b g in omega arith

-- a sum over the numbers below a bound alone
pub sum_below : (r n : ℕ) (g : ℕ → ℕ) → r ≤ n → sum_to n (λ i. cond (nat_lt i r) (g i) 0) ≡ sum_to r g
sum_below r n g h =
    let e : n ≡ r + (n - r) = omega arith in
    let p = sum_parts r (n - r) (λ i. cond (nat_lt i r) (g i) 0) in
    let low = sum_to-same r (λ i. cond (nat_lt i r) (g i) 0) g (λ i l. ap (λ (b : Bool). cond b (g i) 0) (lt-ltb i r l)) in
    let high = sum_zero (n - r) (λ j. cond (nat_lt (r + j) r) (g (r + j)) 0) (λ j l. ap (λ (b : Bool). cond b (g (r + j)) 0) (le-ltb (r + j) r (omega arith))) in
    let f : sum_to n (λ i. cond (nat_lt i r) (g i) 0) ≡ sum_to (r + (n - r)) (λ i. cond (nat_lt i r) (g i) 0) = ap (λ v. sum_to v (λ i. cond (nat_lt i r) (g i) 0)) e in
    omega arith

-- a sum over a box
abbrev pub grid : ℕ → ℕ → ℕ → (ℕ → ℕ → ℕ → ℕ) → ℕ
grid a b c h = sum_to a (λ x. sum_to b (λ y. sum_to c (h x y)))

pub grid_same : (a b c : ℕ) (g h : ℕ → ℕ → ℕ → ℕ) → ((x y z : ℕ) → x < a → y < b → z < c → g x y z ≡ h x y z) → grid a b c g ≡ grid a b c h
grid_same a b c g h e = sum_to-same a (λ x. sum_to b (λ y. sum_to c (g x y))) (λ x. sum_to b (λ y. sum_to c (h x y)))
    (λ x p. sum_to-same b (λ y. sum_to c (g x y)) (λ y. sum_to c (h x y)) (λ y q. sum_to-same c (g x y) (h x y) (λ z r. e x y z p q r)))

pub grid_plus : (a b c : ℕ) (g h : ℕ → ℕ → ℕ → ℕ) → grid a b c (λ x y z. g x y z + h x y z) ≡ grid a b c g + grid a b c h
grid_plus a b c g h =
    sum_to-same a (λ x. sum_to b (λ y. sum_to c (λ z. g x y z + h x y z))) (λ x. sum_to b (λ y. sum_to c (g x y)) + sum_to b (λ y. sum_to c (h x y)))
    (λ x p. sum_to-same b (λ y. sum_to c (λ z. g x y z + h x y z)) (λ y. sum_to c (g x y) + sum_to c (h x y)) (λ y q. sum_plus c (g x y) (h x y)) ∙ sum_plus b (λ y. sum_to c (g x y)) (λ y. sum_to c (h x y)))
    ∙ sum_plus a (λ x. sum_to b (λ y. sum_to c (g x y))) (λ x. sum_to b (λ y. sum_to c (h x y)))

-- the order of the axes is free
pub grid_turned : (a b c : ℕ) (h : ℕ → ℕ → ℕ → ℕ) → grid a b c h ≡ sum_to c (λ z. sum_to b (λ y. sum_to a (λ x. h x y z)))
grid_turned a b c h =
    sum_to-same a (λ x. sum_to b (λ y. sum_to c (h x y))) (λ x. sum_to c (λ z. sum_to b (λ y. h x y z))) (λ x p. sum_swap b c (h x))
    ∙ sum_swap a c (λ x z. sum_to b (λ y. h x y z))
    ∙ sum_to-same c (λ z. sum_to a (λ x. sum_to b (λ y. h x y z))) (λ z. sum_to b (λ y. sum_to a (λ x. h x y z))) (λ z p. sum_swap a b (λ x y. h x y z))

-- a box of boxes
pub grid_split : (a b c i j k : ℕ) (h : ℕ → ℕ → ℕ → ℕ) → grid (a * i) (b * j) (c * k) h ≡ grid a b c (λ x y z. grid i j k (λ u v w. h (x * i + u) (y * j + v) (z * k + w)))
grid_split a b c i j k h =
    sum_product a i (λ x. sum_to (b * j) (λ y. sum_to (c * k) (h x y)))
    ∙ sum_to-same a (λ x. sum_to i (λ u. sum_to (b * j) (λ y. sum_to (c * k) (h (x * i + u) y)))) (λ x. sum_to b (λ y. sum_to c (λ z. grid i j k (λ u v w. h (x * i + u) (y * j + v) (z * k + w))))) (λ x p. rows x)
  where
    row : (x u y v : ℕ) → sum_to (c * k) (h (x * i + u) (y * j + v)) ≡ sum_to c (λ z. sum_to k (λ w. h (x * i + u) (y * j + v) (z * k + w)))
    row x u y v = sum_product c k (h (x * i + u) (y * j + v))

    plane : (x u : ℕ) → sum_to (b * j) (λ y. sum_to (c * k) (h (x * i + u) y)) ≡ sum_to b (λ y. sum_to c (λ z. sum_to j (λ v. sum_to k (λ w. h (x * i + u) (y * j + v) (z * k + w)))))
    plane x u = sum_product b j (λ y. sum_to (c * k) (h (x * i + u) y))
        ∙ sum_to-same b (λ y. sum_to j (λ v. sum_to (c * k) (h (x * i + u) (y * j + v)))) (λ y. sum_to c (λ z. sum_to j (λ v. sum_to k (λ w. h (x * i + u) (y * j + v) (z * k + w)))))
        (λ y p. sum_to-same j (λ v. sum_to (c * k) (h (x * i + u) (y * j + v))) (λ v. sum_to c (λ z. sum_to k (λ w. h (x * i + u) (y * j + v) (z * k + w)))) (λ v q. row x u y v)
        ∙ sum_swap j c (λ v z. sum_to k (λ w. h (x * i + u) (y * j + v) (z * k + w))))

    rows : (x : ℕ) → sum_to i (λ u. sum_to (b * j) (λ y. sum_to (c * k) (h (x * i + u) y))) ≡ sum_to b (λ y. sum_to c (λ z. grid i j k (λ u v w. h (x * i + u) (y * j + v) (z * k + w))))
    rows x = sum_to-same i (λ u. sum_to (b * j) (λ y. sum_to (c * k) (h (x * i + u) y))) (λ u. sum_to b (λ y. sum_to c (λ z. sum_to j (λ v. sum_to k (λ w. h (x * i + u) (y * j + v) (z * k + w)))))) (λ u p. plane x u)
        ∙ sum_swap i b (λ u y. sum_to c (λ z. sum_to j (λ v. sum_to k (λ w. h (x * i + u) (y * j + v) (z * k + w)))))
        ∙ sum_to-same b (λ y. sum_to i (λ u. sum_to c (λ z. sum_to j (λ v. sum_to k (λ w. h (x * i + u) (y * j + v) (z * k + w)))))) (λ y. sum_to c (λ z. grid i j k (λ u v w. h (x * i + u) (y * j + v) (z * k + w))))
        (λ y p. sum_swap i c (λ u z. sum_to j (λ v. sum_to k (λ w. h (x * i + u) (y * j + v) (z * k + w)))))

-- the part of a box below three bounds
pub grid_below : (r1 r2 r3 a b c : ℕ) (h : ℕ → ℕ → ℕ → ℕ) → r1 ≤ a → r2 ≤ b → r3 ≤ c → grid a b c (λ x y z. cond (nat_lt x r1 && nat_lt y r2 && nat_lt z r3) (h x y z) 0) ≡ grid r1 r2 r3 h
grid_below r1 r2 r3 a b c h p q r =
    sum_to-same a (λ x. sum_to b (λ y. sum_to c (λ z. cond (nat_lt x r1 && nat_lt y r2 && nat_lt z r3) (h x y z) 0))) (λ x. cond (nat_lt x r1) (sum_to r2 (λ y. sum_to r3 (h x y))) 0) (λ x l. plane x (nat_lt x r1))
    ∙ sum_below r1 a (λ x. sum_to r2 (λ y. sum_to r3 (h x y))) p
  where
    row : (x y : ℕ) (t : Bool) → sum_to c (λ z. cond (t && nat_lt z r3) (h x y z) 0) ≡ cond t (sum_to r3 (h x y)) 0
    row x y true = sum_below r3 c (h x y) r
    row x y false = sum_nothing c

    rows : (x : ℕ) (t : Bool) → sum_to b (λ y. cond (t && nat_lt y r2) (sum_to r3 (h x y)) 0) ≡ cond t (sum_to r2 (λ y. sum_to r3 (h x y))) 0
    rows x true = sum_below r2 b (λ y. sum_to r3 (h x y)) q
    rows x false = sum_nothing b

    plane : (x : ℕ) (t : Bool) → sum_to b (λ y. sum_to c (λ z. cond (t && nat_lt y r2 && nat_lt z r3) (h x y z) 0)) ≡ cond t (sum_to r2 (λ y. sum_to r3 (h x y))) 0
    plane x t = sum_to-same b (λ y. sum_to c (λ z. cond (t && nat_lt y r2 && nat_lt z r3) (h x y z) 0)) (λ y. cond (t && nat_lt y r2) (sum_to r3 (h x y)) 0) (λ y l. row x y (t && nat_lt y r2))
        ∙ rows x t

-- what is there, or nothing
abbrev pub at_option : {X : Type 0} → Option X → (X → ℕ) → ℕ
at_option None g = 0
at_option (Some x) g = g x

-- a step along an axis, summed from either end
pub shift : (n : ℕ) (w : Bool) (g : ℕ → ℕ → ℕ) → sum_to n (λ i. at_option (step n w true i) (λ j. g i j)) ≡ sum_to n (λ j. at_option (step n w false j) (λ i. g i j))
shift zero w g = refl
shift (suc n) w g =
    let ups = sum_to-same n (λ i. at_option (step (suc n) w true i) (λ j. g i j)) (λ i. g i (i + 1)) (λ i l. ap (λ (b : Bool). at_option (cond b (Some (i + 1)) (cond w (Some 0) None)) (λ j. g i j)) (lt-ltb (i + 1) (suc n) (omega arith))) in
    let last : at_option (step (suc n) w true n) (λ j. g n j) ≡ at_option (cond w (Some 0) None) (λ j. g n j) = ap (λ (b : Bool). at_option (cond b (Some (n + 1)) (cond w (Some 0) None)) (λ j. g n j)) (le-ltb (n + 1) (suc n) (omega arith)) in
    let first = sum_first n (λ j. at_option (step (suc n) w false j) (λ i. g i j)) in
    let downs = sum_to-same n (λ j. at_option (step (suc n) w false (suc j)) (λ i. g i (suc j))) (λ i. g i (i + 1)) (λ j l. down j) in
    let turn = wrapped w in
    omega arith
  where
    down : (j : ℕ) → at_option (step (suc n) w false (suc j)) (λ i. g i (suc j)) ≡ g j (j + 1)
    down j =
        let a : suc j - 1 ≡ j = omega arith in
        let b : suc j ≡ j + 1 = omega arith in
        ap (λ (t : Bool). at_option (cond t (Some (suc j - 1)) (cond w (Some (suc n - 1)) None)) (λ i. g i (suc j))) (lt-ltb 0 (suc j) (omega arith)) ∙ ap (λ v. g v (suc j)) a ∙ ap (g j) b

    wrapped : (t : Bool) → at_option (cond t (Some 0) None) (λ j. g n j) ≡ at_option (cond t (Some (suc n - 1)) None) (λ i. g i 0)
    wrapped true = let a : n ≡ suc n - 1 = omega arith in ap (λ v. g v 0) a
    wrapped false = refl

-- sums over lists
pub sum_over-append : {X : Type 0} (xs ys : List X) (g : X → ℕ) → sum_over (xs ++ ys) g ≡ sum_over xs g + sum_over ys g
sum_over-append [] ys g = omega arith
sum_over-append (x ∷ xs) ys g = let e = sum_over-append xs ys g in omega arith

pub sum_over-flat : {X Y : Type 0} (h : X → List Y) (xs : List X) (g : Y → ℕ) → sum_over (flat_map h xs) g ≡ sum_over xs (λ x. sum_over (h x) g)
sum_over-flat h [] g = refl
sum_over-flat h (x ∷ xs) g = let e = sum_over-append (h x) (flat_map h xs) g in let f = sum_over-flat h xs g in omega arith

pub sum_over-range : (a n : ℕ) (g : ℕ → ℕ) → sum_over (range_with_len a n) g ≡ sum_to n (λ i. g (a + i))
sum_over-range a zero g = refl
sum_over-range a (suc n) g =
    let e = sum_over-range (a + 1) n g in
    let f = sum_first n (λ i. g (a + i)) in
    let s = sum_to-same n (λ i. g (a + 1 + i)) (λ i. g (a + suc i)) (λ i l. ap g (omega arith)) in
    let z : g (a + 0) ≡ g a = ap g (omega arith) in
    omega arith
