-- The listed leaves of a tree are all its leaves, in the order of their keys.
use Rattle.std.proofs.Common.{◌≡◌, inl, inr, ℕ, zero, suc, ◌+◌, ◌-◌, ◌*◌, ◌/◌, ◌%◌, ◌^◌, ◌<◌, ◌≤◌, Bool, true, false, cond, ◌&&◌, nat_lt, List, [], ◌∷◌, ◌++◌, map, slice_index, refl, arith, ap, subst, sym, ◌∙◌, append_assoc, lit<}
use Rattle.std.specs.List.{flat_map, list_any, range_with_len}
use Rattle.std.specs.List.Sorted.{IsStrictlyIncreasing}
use Rattle.std.proofs.Math.Nat.{div-div-eq-div-mul, div-mul-le_self, one-le-pow, pow-suc, pow-zero}
use Rattle.std.proofs.lemmas.Nat.{mul-le}
use Rattle.std.proofs.lemmas.Bool.{cases_eq, false≢true, lt-ltb}
use Rattle.morton_order.specs.declared.space.Loc.{Loc}
use Rattle.morton_order.specs.declared.space.Shape.{Shape}
use Rattle.morton_order.specs.Key.{interleaved, key}
use Rattle.morton_order.specs.Space.{IsIn, IsShape, blocks_along, child, child_number, factor, parent, parts, root_along, same_loc}
use Rattle.morton_order.proofs.Any.{or_cases, or_left, or_right}
use Rattle.morton_order.proofs.Family.{child-parent, child_inside, child_number_below}
use Rattle.morton_order.proofs.Lattice.{root_count, zero_below}
use Rattle.morton_order.proofs.Touching.{same_as, same_loc-is, same_loc-self}
use Rattle.block_tree.specs.Tree.{IsLeaf, IsTree, ancestor, is_listed}
use Rattle.block_tree.specs.Leaves.{LeavesLaw, begins_inside, leaves_below, leaves_of, pieces, roots, roots_in}
use Rattle.block_tree.proofs.Ancestors.{ancestor_inside, ancestor_level, ancestor_more}
use Rattle.block_tree.proofs.Behinds.{fails, strict_inner}
use Rattle.block_tree.proofs.LeafList.{listed_leaf, root_inside}

-- the keys of locations rise from one number on and stay below another
abbrev Rises : ℕ → ℕ → List Loc → Type 0
Rises low high [] = low ≤ high
Rises low high (l ∷ ls) = (low ≤ key l) × Rises (key l + 1) high ls

rises_low : (a b c : ℕ) (ls : List Loc) → a ≤ b → Rises b c ls → Rises a c ls
rises_low a b c [] h r = omega arith
rises_low a b c (l ∷ ls) h r = let first = r.0 in (omega arith, r.1)

rises_high : (a b c : ℕ) (ls : List Loc) → b ≤ c → Rises a b ls → Rises a c ls
rises_high a b c [] h r = omega arith
rises_high a b c (l ∷ ls) h r = (r.0, rises_high (key l + 1) b c ls h r.1)

rises_ends : (a b : ℕ) (ls : List Loc) → Rises a b ls → a ≤ b
rises_ends a b [] r = r
rises_ends a b (l ∷ ls) r = let first = r.0 in let rest = rises_ends (key l + 1) b ls r.1 in omega arith

rises_append : (a b c : ℕ) (xs ys : List Loc) → Rises a b xs → Rises b c ys → Rises a c (xs ++ ys)
rises_append a b c [] ys r q = rises_low a b c ys r q
rises_append a b c (x ∷ xs) ys r q = (r.0, rises_append (key x + 1) b c xs ys r.1 q)

-- pieces of equal width
rises_pieces : (base w a n : ℕ) (f : ℕ → List Loc) → ((j : ℕ) → a ≤ j → j < a + n → Rises (base + j * w) (base + (j + 1) * w) (f j)) → Rises (base + a * w) (base + (a + n) * w) (flat_map f (range_with_len a n))
rises_pieces base w a zero f each = let e : a + 0 ≡ a = omega arith in subst (λ v. base + a * w ≤ base + v * w) (sym e) (omega arith)
rises_pieces base w a (suc n) f each =
    let e : a + suc n ≡ a + 1 + n = omega arith in
    let rest = rises_pieces base w (a + 1) n f (λ j low high. each j (omega arith) (omega arith)) in
    subst (λ v. Rises (base + a * w) (base + v * w) (f a ++ flat_map f (range_with_len (a + 1) n))) (sym e)
    (rises_append (base + a * w) (base + (a + 1) * w) (base + (a + 1 + n) * w) (f a) (flat_map f (range_with_len (a + 1) n)) (each a (omega arith) (omega arith)) rest)

-- digits below a shift
even_half : (x p : ℕ) → (x * (p * 2) % 2 ≡ 0) × (x * (p * 2) / 2 ≡ x * p)
even_half x p = let e : x * (p * 2) ≡ x * p * 2 = omega arith in
    (subst (λ v. v % 2 ≡ 0) (sym e) (omega arith), subst (λ v. v / 2 ≡ x * p) (sym e) (omega arith))

shifted : (m n x y z : ℕ) → interleaved (m + n) (x * 2 ^ m) (y * 2 ^ m) (z * 2 ^ m) ≡ 8 ^ m * interleaved n x y z
unfolding interleaved
shifted zero n x y z =
    let a : x * 1 ≡ x = omega arith in
    let b : y * 1 ≡ y = omega arith in
    let c : z * 1 ≡ z = omega arith in
    let d : 0 + n ≡ n = omega arith in
    ap (λ v. interleaved v (x * 1) (y * 1) (z * 1)) d ∙ ap (λ v. interleaved n v (y * 1) (z * 1)) a ∙ ap (λ v. interleaved n x v (z * 1)) b ∙ ap (λ v. interleaved n x y v) c ∙ one (interleaved n x y z)
  where
    one : (v : ℕ) → v ≡ 1 * v
    one v = omega arith
shifted (suc m) n x y z =
    let e : suc m + n ≡ suc (m + n) = omega arith in
    let p : 2 ^ suc m ≡ 2 ^ m * 2 = pow-suc 2 m in
    let q : 8 ^ suc m ≡ 8 ^ m * 8 = pow-suc 8 m in
    let hx = even_half x (2 ^ m) in
    let hy = even_half y (2 ^ m) in
    let hz = even_half z (2 ^ m) in
    let again = shifted m n x y z in
    let inside : interleaved (m + n) (x * (2 ^ m * 2) / 2) (y * (2 ^ m * 2) / 2) (z * (2 ^ m * 2) / 2) ≡ 8 ^ m * interleaved n x y z =
    ap (λ v. interleaved (m + n) v (y * (2 ^ m * 2) / 2) (z * (2 ^ m * 2) / 2)) hx.1 ∙ ap (λ v. interleaved (m + n) (x * 2 ^ m) v (z * (2 ^ m * 2) / 2)) hy.1 ∙ ap (λ v. interleaved (m + n) (x * 2 ^ m) (y * 2 ^ m) v) hz.1 ∙ again in
    ap (λ v. interleaved v (x * 2 ^ suc m) (y * 2 ^ suc m) (z * 2 ^ suc m)) e
    ∙ ap (λ v. interleaved (suc (m + n)) (x * v) (y * v) (z * v)) p
    ∙ digits (x * (2 ^ m * 2) % 2) (y * (2 ^ m * 2) % 2) (z * (2 ^ m * 2) % 2) (interleaved (m + n) (x * (2 ^ m * 2) / 2) (y * (2 ^ m * 2) / 2) (z * (2 ^ m * 2) / 2)) (8 ^ m) (interleaved n x y z) hx.0 hy.0 hz.0 inside
    ∙ ap (λ v. v * interleaved n x y z) (sym q)
  where
    digits : (a b c i w r : ℕ) → a ≡ 0 → b ≡ 0 → c ≡ 0 → i ≡ w * r → a + 2 * b + 4 * c + 8 * i ≡ w * 8 * r
    digits a b c i w r e f g h = let k : w * 8 * r ≡ 8 * (w * r) = omega arith in omega arith

-- the key, by the bits of the location's own level
key_is : (l : Loc) (m : ℕ) → l.level + m ≡ 10 → key l ≡ 8 ^ m * interleaved (16 + l.level) l.l1 l.l2 l.l3
unfolding key
key_is l m h =
    let e : 10 - l.level ≡ m = omega arith in
    let f : 26 ≡ m + (16 + l.level) = omega arith in
    top 26 (m + (16 + l.level)) f (10 - l.level) m e
    ∙ shifted m (16 + l.level) l.l1 l.l2 l.l3
  where
    top : (a b : ℕ) → a ≡ b → (c d : ℕ) → c ≡ d → interleaved a (l.l1 * 2 ^ c) (l.l2 * 2 ^ c) (l.l3 * 2 ^ c) ≡ interleaved b (l.l1 * 2 ^ d) (l.l2 * 2 ^ d) (l.l3 * 2 ^ d)
    top a b p c d q = ap (λ v. interleaved v (l.l1 * 2 ^ c) (l.l2 * 2 ^ c) (l.l3 * 2 ^ c)) p ∙ ap (λ v. interleaved b (l.l1 * 2 ^ v) (l.l2 * 2 ^ v) (l.l3 * 2 ^ v)) q

-- one more digit
digit_more : (n x y z a b c : ℕ) → a < 2 → b < 2 → c < 2 → interleaved (suc n) (2 * x + a) (2 * y + b) (2 * z + c) ≡ a + 2 * b + 4 * c + 8 * interleaved n x y z
unfolding interleaved
digit_more n x y z a b c p q r =
    let a1 : (2 * x + a) % 2 ≡ a = omega arith in
    let b1 : (2 * y + b) % 2 ≡ b = omega arith in
    let c1 : (2 * z + c) % 2 ≡ c = omega arith in
    let a2 : (2 * x + a) / 2 ≡ x = omega arith in
    let b2 : (2 * y + b) / 2 ≡ y = omega arith in
    let c2 : (2 * z + c) / 2 ≡ z = omega arith in
    let i : interleaved n ((2 * x + a) / 2) ((2 * y + b) / 2) ((2 * z + c) / 2) ≡ interleaved n x y z = ap (λ v. interleaved n v ((2 * y + b) / 2) ((2 * z + c) / 2)) a2 ∙ ap (λ v. interleaved n x v ((2 * z + c) / 2)) b2 ∙ ap (λ v. interleaved n x y v) c2 in
    omega arith

-- along an axis that is not in use there is only 0, so that it may be doubled
doubled : (used : Bool) (root level x b : ℕ) → root ≤ cond used 65536 1 → x < root * cond used 2 1 ^ level → cond used 2 1 * x + b % cond used 2 1 ≡ 2 * x + b % cond used 2 1
doubled true root level x b few h = refl
doubled false root level x b few h = let z = zero_below root level x few h in omega arith

child_digits : (dims j : ℕ) → 1 ≤ dims → dims ≤ 3 → j < parts dims → (j % factor dims 0 < 2) × (j / 2 % factor dims 1 < 2) × (j / 4 % factor dims 2 < 2) × (j % factor dims 0 + 2 * (j / 2 % factor dims 1) + 4 * (j / 4 % factor dims 2) ≡ j)
child_digits zero j least most h = absurd (omega arith)
child_digits (suc zero) j least most h = (omega arith, omega arith, omega arith, omega arith)
child_digits (suc (suc zero)) j least most h = (omega arith, omega arith, omega arith, omega arith)
child_digits (suc (suc (suc zero))) j least most h = (omega arith, omega arith, omega arith, omega arith)
child_digits (suc (suc (suc (suc d)))) j least most h = absurd (omega arith)

key_child : (s : Shape) → IsShape s → (l : Loc) (j m : ℕ) → IsIn s l → l.level + suc m ≡ 10 → j < parts s.dims → key (child s.dims l j) ≡ key l + j * 8 ^ m
key_child s shape l j m inside h few =
    let c : Loc = child s.dims l j in
    let d = child_digits s.dims j shape.least shape.most few in
    let d0 = d.0 in
    let d1 = d.1 in
    let d2 = d.2 in
    let sum = d.3 in
    let e1 : c.l1 ≡ 2 * l.l1 + j % factor s.dims 0 = doubled (nat_lt 0 s.dims) (root_along s 0) l.level l.l1 j shape.roots1.1 inside.within1 in
    let e2 : c.l2 ≡ 2 * l.l2 + j / 2 % factor s.dims 1 = doubled (nat_lt 1 s.dims) (root_along s 1) l.level l.l2 (j / 2) shape.roots2.1 inside.within2 in
    let e3 : c.l3 ≡ 2 * l.l3 + j / 4 % factor s.dims 2 = doubled (nat_lt 2 s.dims) (root_along s 2) l.level l.l3 (j / 4) shape.roots3.1 inside.within3 in
    let n : 16 + (l.level + 1) ≡ suc (16 + l.level) = omega arith in
    let i : interleaved (16 + c.level) c.l1 c.l2 c.l3 ≡ j + 8 * interleaved (16 + l.level) l.l1 l.l2 l.l3 =
    ap (λ v. interleaved v c.l1 c.l2 c.l3) n
    ∙ ap (λ v. interleaved (suc (16 + l.level)) v c.l2 c.l3) e1
    ∙ ap (λ v. interleaved (suc (16 + l.level)) (2 * l.l1 + j % factor s.dims 0) v c.l3) e2
    ∙ ap (λ v. interleaved (suc (16 + l.level)) (2 * l.l1 + j % factor s.dims 0) (2 * l.l2 + j / 2 % factor s.dims 1) v) e3
    ∙ digit_more (16 + l.level) l.l1 l.l2 l.l3 (j % factor s.dims 0) (j / 2 % factor s.dims 1) (j / 4 % factor s.dims 2) d0 d1 d2
    ∙ ap (λ v. v + 8 * interleaved (16 + l.level) l.l1 l.l2 l.l3) sum in
    let p : 8 ^ suc m ≡ 8 ^ m * 8 = pow-suc 8 m in
    key_is c m (omega arith) ∙ ap (λ v. 8 ^ m * v) i ∙ spread (8 ^ m) (8 ^ suc m) j (interleaved (16 + l.level) l.l1 l.l2 l.l3) p ∙ ap (λ v. v + j * 8 ^ m) (sym (key_is l (suc m) h))
  where
    spread : (w v j i : ℕ) → v ≡ w * 8 → w * (j + 8 * i) ≡ v * i + j * w
    spread w v j i e = subst (λ t. w * (j + 8 * i) ≡ t * i + j * w) (sym e) (omega arith)

-- the leaves below a location stay within its keys
few_parts : (a b c : Bool) → cond a 2 1 * cond b 2 1 * cond c 2 1 ≤ 8
few_parts true true true = omega arith
few_parts true true false = omega arith
few_parts true false true = omega arith
few_parts true false false = omega arith
few_parts false true true = omega arith
few_parts false true false = omega arith
few_parts false false true = omega arith
few_parts false false false = omega arith

widen : (b w n v : ℕ) → n ≤ 8 → v ≡ w * 8 → b + (0 + n) * w ≤ b + v
widen b w n v h e = let m : n * w ≤ 8 * w = mul-le n w 8 w h (omega arith) in omega arith

rising_below : (s : Shape) (inner : Loc → Bool) → IsShape s → (k : ℕ) (l : Loc) → IsIn s l → l.level + k ≡ 10 → Rises (key l) (key l + 8 ^ k) (leaves_below k s.dims inner l)
rising_below s inner shape zero l inside h = (omega arith, omega arith)
rising_below s inner shape (suc k) l inside h = by (inner l) (λ j few. rising_below s inner shape k (child s.dims l j) (child_inside s l j inside (omega arith)) (omega arith))
  where
    by : (b : Bool) → ((j : ℕ) → j < parts s.dims → Rises (key (child s.dims l j)) (key (child s.dims l j) + 8 ^ k) (leaves_below k s.dims inner (child s.dims l j))) → Rises (key l) (key l + 8 ^ suc k) (pieces b (parts s.dims) (λ j. leaves_below k s.dims inner (child s.dims l j)) (l ∷ []))
    by true each =
        let p : 8 ^ suc k ≡ 8 ^ k * 8 = pow-suc 8 k in
        let w : ℕ = 8 ^ k in
        let all = rises_pieces (key l) w 0 (parts s.dims) (λ j. leaves_below k s.dims inner (child s.dims l j)) (λ j low high. one j (omega arith) (each j (omega arith))) in
        rises_high (key l) (key l + (0 + parts s.dims) * w) (key l + 8 ^ suc k) (flat_map (λ j. leaves_below k s.dims inner (child s.dims l j)) (range_with_len 0 (parts s.dims)))
        (widen (key l) w (parts s.dims) (8 ^ suc k) (few_parts (nat_lt 0 s.dims) (nat_lt 1 s.dims) (nat_lt 2 s.dims)) p)
        (rises_low (key l) (key l + 0 * w) (key l + (0 + parts s.dims) * w) (flat_map (λ j. leaves_below k s.dims inner (child s.dims l j)) (range_with_len 0 (parts s.dims))) (omega arith) all)
      where
        one : (j : ℕ) → j < parts s.dims → Rises (key (child s.dims l j)) (key (child s.dims l j) + 8 ^ k) (leaves_below k s.dims inner (child s.dims l j)) → Rises (key l + j * 8 ^ k) (key l + (j + 1) * 8 ^ k) (leaves_below k s.dims inner (child s.dims l j))
        one j few r =
            let e = key_child s shape l j k inside h few in
            let f : key l + j * 8 ^ k + 8 ^ k ≡ key l + (j + 1) * 8 ^ k = omega arith in
            subst (λ v. Rises (key l + j * 8 ^ k) v (leaves_below k s.dims inner (child s.dims l j))) f (subst (λ v. Rises v (v + 8 ^ k) (leaves_below k s.dims inner (child s.dims l j))) e r)
    by false each = let some = one-le-pow (suc k) 8 (lit< tt) in (omega arith, omega arith)

-- the leaves of the roots in a cube stay within the cube's keys
flat_parts : {X Y Z : Type 0} (g : Y → List Z) (f : X → List Y) (xs : List X) → flat_map g (flat_map f xs) ≡ flat_map (λ x. flat_map g (f x)) xs
flat_parts g f [] = refl
flat_parts g f (x ∷ xs) = flat_append g (f x) (flat_map f xs) ∙ ap (λ v. flat_map g (f x) ++ v) (flat_parts g f xs)
  where
    flat_append : {Y Z : Type 0} (g : Y → List Z) (xs ys : List Y) → flat_map g (xs ++ ys) ≡ flat_map g xs ++ flat_map g ys
    flat_append g [] ys = refl
    flat_append g (x ∷ xs) ys = ap (λ v. g x ++ v) (flat_append g xs ys) ∙ sym (append_assoc (g x) (flat_map g xs) (flat_map g ys))

abbrev cube_leaves : Shape → (Loc → Bool) → List Loc → List Loc
cube_leaves s inner roots = flat_map (leaves_below 10 s.dims inner) roots

-- a root's leaves, or nothing
rising_root : (s : Shape) (inner : Loc → Bool) → IsShape s → (x y z w : ℕ) → w ≡ 8 ^ 10 → (b : Bool) → begins_inside s 0 x y z ≡ b →
    Rises (w * interleaved 16 x y z) (w * interleaved 16 x y z + w) (cube_leaves s inner (cond b (record { level = 0; l1 = x; l2 = y; l3 = z } ∷ []) []))
rising_root s inner shape x y z w e false h = omega arith
rising_root s inner shape x y z w e true h =
    let r : Loc = record { level = 0; l1 = x; l2 = y; l3 = z } in
    let inside = root_inside s x y z h in
    let k : key r ≡ w * interleaved 16 x y z = key_is r 10 refl ∙ ap (λ v. v * interleaved 16 x y z) (sym e) in
    let below = rising_below s inner shape 10 r inside refl in
    let moved = subst (λ v. Rises v (v + 8 ^ 10) (leaves_below 10 s.dims inner r)) k below in
    let wide = subst (λ v. Rises (w * interleaved 16 x y z) (w * interleaved 16 x y z + v) (leaves_below 10 s.dims inner r)) (sym e) moved in
    rises_append (w * interleaved 16 x y z) (w * interleaved 16 x y z + w) (w * interleaved 16 x y z + w) (leaves_below 10 s.dims inner r) [] wide (omega arith)

rising_roots : (s : Shape) (inner : Loc → Bool) → IsShape s → (k n x y z : ℕ) → n + k ≡ 16 →
    Rises (8 ^ (k + 10) * interleaved n x y z) (8 ^ (k + 10) * interleaved n x y z + 8 ^ (k + 10)) (cube_leaves s inner (roots_in k s x y z))
rising_roots s inner shape zero n x y z h =
    let e : n ≡ 16 = omega arith in
    subst (λ v. Rises (8 ^ 10 * interleaved v x y z) (8 ^ 10 * interleaved v x y z + 8 ^ 10) (cube_leaves s inner (roots_in zero s x y z))) (sym e)
    (rising_root s inner shape x y z (8 ^ 10) refl (begins_inside s 0 x y z) refl)
rising_roots s inner shape (suc k) n x y z h = by (begins_inside s (suc k) x y z) (λ j few. rising_roots s inner shape k (suc n) (2 * x + j % 2) (2 * y + j / 2 % 2) (2 * z + j / 4) (omega arith))
  where
    half : ℕ → List Loc
    half j = roots_in k s (2 * x + j % 2) (2 * y + j / 2 % 2) (2 * z + j / 4)

    wide : 8 ^ (suc k + 10) ≡ 8 ^ (k + 10) * 8
    wide = let e : suc k + 10 ≡ suc (k + 10) = omega arith in ap (λ v. 8 ^ v) e ∙ pow-suc 8 (k + 10)

    low : (j : ℕ) → j < 8 → 8 ^ (k + 10) * interleaved (suc n) (2 * x + j % 2) (2 * y + j / 2 % 2) (2 * z + j / 4) ≡ 8 ^ (suc k + 10) * interleaved n x y z + j * 8 ^ (k + 10)
    low j few =
        let d = digit_more n x y z (j % 2) (j / 2 % 2) (j / 4) (omega arith) (omega arith) (omega arith) in
        let e : j % 2 + 2 * (j / 2 % 2) + 4 * (j / 4) ≡ j = omega arith in
        ap (λ v. 8 ^ (k + 10) * v) (d ∙ ap (λ v. v + 8 * interleaved n x y z) e) ∙ spread (8 ^ (k + 10)) (8 ^ (suc k + 10)) j (interleaved n x y z) wide
      where
        spread : (w v j i : ℕ) → v ≡ w * 8 → w * (j + 8 * i) ≡ v * i + j * w
        spread w v j i e = subst (λ t. w * (j + 8 * i) ≡ t * i + j * w) (sym e) (omega arith)

    one : (j : ℕ) → j < 8 → Rises (8 ^ (k + 10) * interleaved (suc n) (2 * x + j % 2) (2 * y + j / 2 % 2) (2 * z + j / 4)) (8 ^ (k + 10) * interleaved (suc n) (2 * x + j % 2) (2 * y + j / 2 % 2) (2 * z + j / 4) + 8 ^ (k + 10)) (cube_leaves s inner (half j))
        → Rises (8 ^ (suc k + 10) * interleaved n x y z + j * 8 ^ (k + 10)) (8 ^ (suc k + 10) * interleaved n x y z + (j + 1) * 8 ^ (k + 10)) (cube_leaves s inner (half j))
    one j few r =
        let b : ℕ = 8 ^ (suc k + 10) * interleaved n x y z in
        let w : ℕ = 8 ^ (k + 10) in
        let f : b + j * w + w ≡ b + (j + 1) * w = omega arith in
        subst (λ v. Rises (b + j * w) v (cube_leaves s inner (half j))) f (subst (λ v. Rises v (v + w) (cube_leaves s inner (half j))) (low j few) r)

    by : (b : Bool) → ((j : ℕ) → j < 8 → Rises (8 ^ (k + 10) * interleaved (suc n) (2 * x + j % 2) (2 * y + j / 2 % 2) (2 * z + j / 4)) (8 ^ (k + 10) * interleaved (suc n) (2 * x + j % 2) (2 * y + j / 2 % 2) (2 * z + j / 4) + 8 ^ (k + 10)) (cube_leaves s inner (half j)))
        → Rises (8 ^ (suc k + 10) * interleaved n x y z) (8 ^ (suc k + 10) * interleaved n x y z + 8 ^ (suc k + 10)) (cube_leaves s inner (pieces b 8 half []))
    by false each = omega arith
    by true each =
        let b : ℕ = 8 ^ (suc k + 10) * interleaved n x y z in
        let w : ℕ = 8 ^ (k + 10) in
        let all = rises_pieces b w 0 8 (λ j. cube_leaves s inner (half j)) (λ j start end. one j end (each j end)) in
        let start : b + 0 * w ≡ b = omega arith in
        let end : b + (0 + 8) * w ≡ b + 8 ^ (suc k + 10) = ap (λ v. b + v) (turned w ∙ sym wide) in
        subst (λ (v : List Loc). Rises b (b + 8 ^ (suc k + 10)) v) (sym (flat_parts (leaves_below 10 s.dims inner) half (range_with_len 0 8)))
        (subst (λ v. Rises b v (flat_map (λ j. cube_leaves s inner (half j)) (range_with_len 0 8))) end
        (subst (λ v. Rises v (b + (0 + 8) * w) (flat_map (λ j. cube_leaves s inner (half j)) (range_with_len 0 8))) start all))
      where
        turned : (w : ℕ) → 8 * w ≡ w * 8
        turned w = omega arith

-- what rises is strictly increasing
increasing : (a b : ℕ) (ls : List Loc) → Rises a b ls → IsStrictlyIncreasing (map key ls)
increasing a b [] r k small = absurd (omega arith)
increasing a b (l ∷ []) r k small = absurd (omega arith)
increasing a b (l ∷ m ∷ ls) r zero small = let next : key l + 1 ≤ key m = r.1.0 in omega arith
increasing a b (l ∷ m ∷ ls) r (suc k) small =
    let e : suc k + 1 ≡ suc (k + 1) = omega arith in
    subst (λ v. slice_index (map key (l ∷ m ∷ ls)) (suc k) < slice_index (map key (l ∷ m ∷ ls)) v) (sym e) (increasing (key l + 1) b (m ∷ ls) r.1 k (omega arith))

rising_leaves : (s : Shape) (inner : Loc → Bool) → IsShape s → IsStrictlyIncreasing (map key (leaves_of s inner))
unfolding leaves_of roots
rising_leaves s inner shape = increasing _ _ (cube_leaves s inner (roots_in 16 s 0 0 0)) (rising_roots s inner shape 16 0 0 0 0 refl)

-- an item of a list whose list passes
pub any_append_left : (p : Loc → Bool) (xs ys : List Loc) → list_any p xs ≡ true → list_any p (xs ++ ys) ≡ true
any_append_left p [] ys h = absurd (false≢true h)
any_append_left p (x ∷ xs) ys h = elim (or_cases (p x) (list_any p xs) h) [
  | inl here ↦ or_left (p x) (list_any p (xs ++ ys)) here
  | inr there ↦ or_right (p x) (list_any p (xs ++ ys)) (any_append_left p xs ys there)
]

pub any_append_right : (p : Loc → Bool) (xs ys : List Loc) → list_any p ys ≡ true → list_any p (xs ++ ys) ≡ true
any_append_right p [] ys h = h
any_append_right p (x ∷ xs) ys h = or_right (p x) (list_any p (xs ++ ys)) (any_append_right p xs ys h)

pub any_flat : (p : Loc → Bool) (f : ℕ → List Loc) (a n j : ℕ) → a ≤ j → j < a + n → list_any p (f j) ≡ true → list_any p (flat_map f (range_with_len a n)) ≡ true
any_flat p f a zero j low high h = absurd (omega arith)
any_flat p f a (suc n) j low high h = elim (cases_eq a j) [
  | inl e ↦ any_append_left p (f a) (flat_map f (range_with_len (a + 1) n)) (ap (λ v. list_any p (f v)) e ∙ h)
  | inr d ↦ any_append_right p (f a) (flat_map f (range_with_len (a + 1) n)) (any_flat p f (a + 1) n j (omega arith) (omega arith) h)
]

pub any_listed : (l r : Loc) (f : Loc → List Loc) (xs : List Loc) → list_any (same_loc r) xs ≡ true → list_any (same_loc l) (f r) ≡ true → list_any (same_loc l) (flat_map f xs) ≡ true
any_listed l r f [] h k = absurd (false≢true h)
any_listed l r f (x ∷ xs) h k = elim (or_cases (same_loc r x) (list_any (same_loc r) xs) h) [
  | inl same ↦ any_append_left (same_loc l) (f x) (flat_map f xs) (ap (λ (v : Loc). list_any (same_loc l) (f v)) (sym (same_loc-is r x same)) ∙ k)
  | inr later ↦ any_append_right (same_loc l) (f x) (flat_map f xs) (any_listed l r f xs later k)
]

-- where a cube begins below a root, it begins inside
inside_test : (s : Shape) (r : Loc) → IsIn s r → r.level ≡ 0 → (n x y z : ℕ) → x * n ≤ r.l1 → y * n ≤ r.l2 → z * n ≤ r.l3 → (nat_lt (x * n) (root_along s 0) && nat_lt (y * n) (root_along s 1) && nat_lt (z * n) (root_along s 2)) ≡ true
inside_test s r inside root n x y z p q t = three (nat_lt (x * n) (root_along s 0)) (nat_lt (y * n) (root_along s 1)) (nat_lt (z * n) (root_along s 2))
    (lt-ltb (x * n) (root_along s 0) (less (x * n) r.l1 (root_along s 0) (factor s.dims 0) r.level root p inside.within1))
    (lt-ltb (y * n) (root_along s 1) (less (y * n) r.l2 (root_along s 1) (factor s.dims 1) r.level root q inside.within2))
    (lt-ltb (z * n) (root_along s 2) (less (z * n) r.l3 (root_along s 2) (factor s.dims 2) r.level root t inside.within3))
  where
    less : (a b r f level : ℕ) → level ≡ 0 → a ≤ b → b < r * f ^ level → a < r
    less a b r f level e h k = let one : f ^ level ≡ 1 = ap (λ v. f ^ v) e ∙ pow-zero f in let m : b < r * 1 = subst (λ v. b < r * v) one k in omega arith

    three : (a b c : Bool) → a ≡ true → b ≡ true → c ≡ true → (a && b && c) ≡ true
    three a b c h k m = cc

-- a leaf is listed: down from its root, child by child
listed_here : (s : Shape) (inner : Loc → Bool) → IsShape s → IsTree s inner → (l : Loc) → IsLeaf s inner l → (k d : ℕ) (x : Loc) → d ≤ l.level → ancestor s.dims d l ≡ x → x.level + k ≡ 10 → list_any (same_loc l) (leaves_below k s.dims inner x) ≡ true
listed_here s inner shape tree l leaf k zero x few top level = at_leaf k
  where
    outer : inner x ≡ false
    outer = ap inner (sym top) ∙ fails (inner l) leaf.outer

    alone : list_any (same_loc l) (x ∷ []) ≡ true
    alone = or_left (same_loc l x) false (ap (same_loc l) (sym top) ∙ same_loc-self l)

    at_leaf : (k : ℕ) → list_any (same_loc l) (leaves_below k s.dims inner x) ≡ true
    at_leaf zero = alone
    at_leaf (suc k) = ap (λ (b : Bool). list_any (same_loc l) (pieces b (parts s.dims) (λ j. leaves_below k s.dims inner (child s.dims x j)) (x ∷ []))) outer ∙ alone
listed_here s inner shape tree l leaf zero (suc d) x few top level =
    let up = ancestor_level s.dims (suc d) l few in
    let same = ap (λ (v : Loc). v.level) top in
    let most = leaf.inside.level in absurd (omega arith)
listed_here s inner shape tree l leaf (suc k) (suc d) x few top level =
    let y : Loc = ancestor s.dims d l in
    let y_level = ancestor_level s.dims d l (omega arith) in
    let parent_is : parent s.dims y ≡ x = sym (ancestor_more s.dims d l) ∙ top in
    let j : ℕ = child_number s.dims y in
    let small = child_number_below s.dims y shape.least shape.most in
    let child_is : child s.dims x j ≡ y = ap (λ (v : Loc). child s.dims v j) (sym parent_is) ∙ child-parent s.dims y (omega arith) in
    let inner_x : inner x ≡ true = ap inner (sym top) ∙ strict_inner s inner tree d l leaf.node (omega arith) in
    let same = ap (λ (v : Loc). v.level) parent_is in
    let below = listed_here s inner shape tree l leaf k d (child s.dims x j) (omega arith) (sym child_is) (omega arith) in
    ap (λ (b : Bool). list_any (same_loc l) (pieces b (parts s.dims) (λ i. leaves_below k s.dims inner (child s.dims x i)) (x ∷ []))) inner_x
    ∙ any_flat (same_loc l) (λ i. leaves_below k s.dims inner (child s.dims x i)) 0 (parts s.dims) j (omega arith) (omega arith) below

-- each root is listed
pub root_listed : (s : Shape) (r : Loc) → IsIn s r → r.level ≡ 0 → (k x y z : ℕ) → r.l1 / 2 ^ k ≡ x → r.l2 / 2 ^ k ≡ y → r.l3 / 2 ^ k ≡ z → list_any (same_loc r) (roots_in k s x y z) ≡ true
root_listed s r inside root zero x y z e1 e2 e3 =
    let a : r.l1 / 1 ≡ r.l1 = omega arith in
    let b : r.l2 / 1 ≡ r.l2 = omega arith in
    let c : r.l3 / 1 ≡ r.l3 = omega arith in
    let x1 : x ≡ r.l1 = sym e1 ∙ a in
    let y1 : y ≡ r.l2 = sym e2 ∙ b in
    let z1 : z ≡ r.l3 = sym e3 ∙ c in
    let h : begins_inside s 0 x y z ≡ true = inside_test s r inside root 1 x y z (omega arith) (omega arith) (omega arith) in
    let l : Loc = record { level = 0; l1 = x; l2 = y; l3 = z } in
    let is : l ≡ r = same_as r l (sym root) x1 y1 z1 in
    ap (λ (b : Bool). list_any (same_loc r) (cond b (l ∷ []) [])) h ∙ or_left (same_loc r l) false (ap (same_loc r) is ∙ same_loc-self r)
root_listed s r inside root (suc k) x y z e1 e2 e3 =
    let n : ℕ = 2 ^ k in
    let p : 2 ^ suc k ≡ n * 2 = pow-suc 2 k in
    let some : 1 ≤ n = one-le-pow k 2 (lit< tt) in
    let x1 : r.l1 / n / 2 ≡ x = div-div-eq-div-mul r.l1 n 2 ∙ ap (λ v. r.l1 / v) (sym p) ∙ e1 in
    let y1 : r.l2 / n / 2 ≡ y = div-div-eq-div-mul r.l2 n 2 ∙ ap (λ v. r.l2 / v) (sym p) ∙ e2 in
    let z1 : r.l3 / n / 2 ≡ z = div-div-eq-div-mul r.l3 n 2 ∙ ap (λ v. r.l3 / v) (sym p) ∙ e3 in
    let j : ℕ = r.l1 / n % 2 + 2 * (r.l2 / n % 2) + 4 * (r.l3 / n % 2) in
    let h : begins_inside s (suc k) x y z ≡ true = inside_test s r inside root (2 ^ suc k) x y z (lower r.l1 (2 ^ suc k) x e1) (lower r.l2 (2 ^ suc k) y e2) (lower r.l3 (2 ^ suc k) z e3) in
    let below = root_listed s r inside root k (2 * x + j % 2) (2 * y + j / 2 % 2) (2 * z + j / 4) (omega arith) (omega arith) (omega arith) in
    ap (λ (b : Bool). list_any (same_loc r) (pieces b 8 (λ i. roots_in k s (2 * x + i % 2) (2 * y + i / 2 % 2) (2 * z + i / 4)) [])) h
    ∙ any_flat (same_loc r) (λ i. roots_in k s (2 * x + i % 2) (2 * y + i / 2 % 2) (2 * z + i / 4)) 0 8 j (omega arith) (omega arith) below
  where
    lower : (x n q : ℕ) → x / n ≡ q → q * n ≤ x
    lower x n q e = subst (λ v. v * n ≤ x) e (div-mul-le_self x n)

-- each location lies below a listed root
pub root_of : (s : Shape) → IsShape s → (l : Loc) → IsIn s l → is_listed (roots s) (ancestor s.dims l.level l) ≡ true
unfolding roots
root_of s shape l there =
    let r : Loc = ancestor s.dims l.level l in
    let up = ancestor_level s.dims l.level l (omega arith) in
    let root : r.level ≡ 0 = omega arith in
    let inside = ancestor_inside s l.level l there (omega arith) in
    root_listed s r inside root 16 0 0 0 (small_root s shape 0 r.l1 (lit< tt) (at_root s r root 0 inside.within1)) (small_root s shape 1 r.l2 (lit< tt) (at_root s r root 1 inside.within2)) (small_root s shape 2 r.l3 (lit< tt) (at_root s r root 2 inside.within3))
  where
    at_root : (s : Shape) (r : Loc) → r.level ≡ 0 → (axis : ℕ) {x : ℕ} → x < blocks_along s axis r.level → x < root_along s axis
    at_root s r root axis {x} h = let e : factor s.dims axis ^ r.level ≡ 1 = ap (λ v. factor s.dims axis ^ v) root ∙ pow-zero (factor s.dims axis) in
        let f : x < root_along s axis * 1 = subst (λ v. x < root_along s axis * v) e h in omega arith

    small_root : (s : Shape) → IsShape s → (axis x : ℕ) → axis < 3 → x < root_along s axis → x / 2 ^ 16 ≡ 0
    small_root s shape axis x h less = few (nat_lt axis s.dims) (root_along s axis) (root_count s shape axis h).1 less
      where
        few : (b : Bool) (r : ℕ) → r ≤ cond b 65536 1 → x < r → x / 65536 ≡ 0
        few true r h less = omega arith
        few false r h less = omega arith

leaf_listed : (s : Shape) (inner : Loc → Bool) → IsShape s → IsTree s inner → (l : Loc) → IsLeaf s inner l → is_listed (leaves_of s inner) l ≡ true
unfolding leaves_of
leaf_listed s inner shape tree l leaf =
    let r : Loc = ancestor s.dims l.level l in
    let up = ancestor_level s.dims l.level l (omega arith) in
    any_listed l r (leaves_below 10 s.dims inner) (roots s) (root_of s shape l leaf.inside) (listed_here s inner shape tree l leaf 10 l.level r (omega arith) refl (omega arith))

pub leaves_law : LeavesLaw
leaves_law s inner shape tree = record {
  rising = rising_leaves s inner shape;
  leaves = λ l. (listed_leaf s inner tree l, leaf_listed s inner shape tree l);
}
