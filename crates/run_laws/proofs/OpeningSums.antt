-- What a run starts with, and what its totals add up to.
use Rattle.std.proofs.Common.{◌≡◌, ℕ, zero, suc, ◌+◌, ◌-◌, ◌*◌, ◌<◌, ◌≤◌, Bool, true, false, cond, ◌&&◌, nat_eq, nat_lt, nat_le, min, List, [], ◌∷◌, length, refl, sym, ap, ◌∙◌, subst, arith}
use Rattle.std.specs.Prelude.{slice_index, sum_by}
use Rattle.std.specs.List.{slice_index_or}
use Rattle.std.proofs.Math.Nat.{mul-le-mul_right, zero-mul}
use Rattle.std.proofs.lemmas.Bool.Decides.{nat_tests}
use Rattle.std.proofs.lemmas.List.Sums.{sum_by-cons}
use Rattle.morton_order.specs.declared.space.Loc.{Loc}
use Rattle.morton_order.specs.declared.space.Shape.{Shape}
use Rattle.morton_order.specs.Space.{blocks_along}
use Rattle.deck_entries.specs.declared.entries.StartBox.{StartBox}
use Rattle.problem_set.specs.Rates.{box_total, span}
use Rattle.mesh_rules.specs.Sums.{sum_over, sum_to}
use Rattle.mesh_rules.specs.Opening.{holds}
use Rattle.mesh_laws.proofs.Grids.{grid, grid_same, sum_plus}
use Rattle.mesh_laws.proofs.Lattices.{lattice, lattice_nothing, lattice_plus, place}
use Rattle.run_laws.proofs.Inflows.{sum_to_le}
use Rattle.run_laws.proofs.SideSums.{sum_const}

-- the cells of a box that lie below a place
abbrev below_in : ℕ → ℕ → ℕ → ℕ
below_in lo hi k = min k (hi + 1) - min k lo

box_more : (lo hi v k : ℕ) → lo ≤ hi → below_in lo hi k * v + cond (nat_le lo k && nat_le k hi) v 0 ≡ below_in lo hi (k + 1) * v
box_more lo hi v k order = grind (arith, nat_tests)

in_box : (lo hi v : ℕ) → lo ≤ hi → (n : ℕ) → sum_to n (λ k. cond (nat_le lo k && nat_le k hi) v 0) ≡ below_in lo hi n * v
in_box lo hi v order zero = let none : below_in lo hi 0 ≡ 0 = omega arith in sym (ap (λ (n : ℕ). n * v) none ∙ zero-mul v)
in_box lo hi v order (suc k) =
    let e : k + 1 ≡ suc k = omega arith in
    subst (λ (n : ℕ). sum_to k (λ j. cond (nat_le lo j && nat_le j hi) v 0) + cond (nat_le lo k && nat_le k hi) v 0 ≡ below_in lo hi n * v) e (ap (λ (s : ℕ). s + cond (nat_le lo k && nat_le k hi) v 0) (in_box lo hi v order k) ∙ box_more lo hi v k order)

-- along an axis a box has as many cells as it spans, or fewer
along_box : (lo hi n v : ℕ) → lo ≤ hi → sum_to n (λ k. cond (nat_le lo k && nat_le k hi) v 0) ≤ (hi + 1 - lo) * v
along_box lo hi n v order =
    let few : below_in lo hi n ≤ hi + 1 - lo = omega arith in
    let most = mul-le-mul_right v few in
    omega (arith, in_box lo hi v order n, most)

sum_under : (t : Bool) (n : ℕ) (g : ℕ → ℕ) → sum_to n (λ k. cond t (g k) 0) ≡ cond t (sum_to n g) 0
sum_under true n g = refl
sum_under false n g = none n
  where
    none : (k : ℕ) → sum_to k (λ j. 0) ≡ 0
    none zero = refl
    none (suc k) = omega (arith, none k)

same_sum : (n : ℕ) (f g : ℕ → ℕ) → ((k : ℕ) → f k ≡ g k) → sum_to n f ≡ sum_to n g
same_sum zero f g same = refl
same_sum (suc n) f g same = omega (arith, same_sum n f g same, same n)

cond_grows : (t : Bool) (a b : ℕ) → a ≤ b → cond t a 0 ≤ cond t b 0
cond_grows true a b le = le
cond_grows false a b le = omega arith

three_tests : (a b c : Bool) (v : ℕ) → cond (a && (b && (c && true))) v 0 ≡ cond a (cond b (cond c v 0) 0) 0
three_tests true true true v = refl
three_tests true true false v = refl
three_tests true false c v = refl
three_tests false b c v = refl

-- what a box puts into all root cells
box_cells : (b : StartBox) (n1 n2 n3 : ℕ) → slice_index b.lo 0 ≤ slice_index b.hi 0 → slice_index b.lo 1 ≤ slice_index b.hi 1 → slice_index b.lo 2 ≤ slice_index b.hi 2 → grid n1 n2 n3 (λ x y z. cond (holds b (place 0 x y z)) b.amount 0) ≤ box_total b
box_cells b n1 n2 n3 o1 o2 o3 =
    let in1 : ℕ → Bool = λ x. nat_le (slice_index b.lo 0) x && nat_le x (slice_index b.hi 0) in
    let in2 : ℕ → Bool = λ y. nat_le (slice_index b.lo 1) y && nat_le y (slice_index b.hi 1) in
    let in3 : ℕ → Bool = λ z. nat_le (slice_index b.lo 2) z && nat_le z (slice_index b.hi 2) in
    let w3 : ℕ = span b.lo b.hi 2 * b.amount in
    let w2 : ℕ = span b.lo b.hi 1 * w3 in
    let rows : (x y : ℕ) → sum_to n3 (λ z. cond (holds b (place 0 x y z)) b.amount 0) ≤ cond (in1 x) (cond (in2 y) w3 0) 0 = λ x y.
    let apart = same_sum n3 (λ z. cond (holds b (place 0 x y z)) b.amount 0) (λ z. cond (in1 x) (cond (in2 y) (cond (in3 z) b.amount 0) 0) 0) (λ z. three_tests (in1 x) (in2 y) (in3 z) b.amount) in
    let out1 = sum_under (in1 x) n3 (λ z. cond (in2 y) (cond (in3 z) b.amount 0) 0) in
    let out2 = ap (λ (v : ℕ). cond (in1 x) v 0) (sum_under (in2 y) n3 (λ z. cond (in3 z) b.amount 0)) in
    let le = cond_grows (in1 x) _ _ (cond_grows (in2 y) _ _ (along_box (slice_index b.lo 2) (slice_index b.hi 2) n3 b.amount o3)) in
    omega (arith, apart, out1, out2, le) in
    let layers : (x : ℕ) → sum_to n2 (λ y. sum_to n3 (λ z. cond (holds b (place 0 x y z)) b.amount 0)) ≤ cond (in1 x) w2 0 = λ x.
    let le = sum_to_le n2 (λ y. sum_to n3 (λ z. cond (holds b (place 0 x y z)) b.amount 0)) (λ y. cond (in1 x) (cond (in2 y) w3 0) 0) (λ y inside. rows x y) in
    let out = sum_under (in1 x) n2 (λ y. cond (in2 y) w3 0) in
    let most = cond_grows (in1 x) _ _ (along_box (slice_index b.lo 1) (slice_index b.hi 1) n2 w3 o2) in
    omega (arith, le, out, most) in
    let le = sum_to_le n1 (λ x. sum_to n2 (λ y. sum_to n3 (λ z. cond (holds b (place 0 x y z)) b.amount 0))) (λ x. cond (in1 x) w2 0) (λ x inside. layers x) in
    let most = along_box (slice_index b.lo 0) (slice_index b.hi 0) n1 w2 o1 in
    let total : span b.lo b.hi 0 * w2 ≡ box_total b = grind arith in
    omega (arith, le, most, total)

-- only the field of a box has it
one_field_is : (at v n : ℕ) → sum_to n (λ f. cond (nat_eq at f) v 0) ≡ cond (nat_lt at n) v 0
one_field_is at v zero = grind (arith, nat_tests)
one_field_is at v (suc n) = let before = one_field_is at v n in grind (arith, nat_tests, before)

cond_most : (t : Bool) (x : ℕ) → cond t x 0 ≤ x
cond_most true x = omega arith
cond_most false x = omega arith

one_field : (fields at v : ℕ) → sum_to fields (λ f. cond (nat_eq at f) v 0) ≤ v
one_field fields at v = omega (arith, one_field_is at v fields, cond_most (nat_lt at fields) v)

-- what a box puts into a root cell, of a field
abbrev pub box_part : StartBox → ℕ → Loc → ℕ
box_part b f c = cond (nat_eq b.field f && holds b c) b.amount 0

lattice_under : (s : Shape) (t : Bool) (g : Loc → ℕ) (h : Loc → ℕ) → ((c : Loc) → h c ≡ cond t (g c) 0) → lattice s 0 h ≡ cond t (lattice s 0 g) 0
lattice_under s true g h same = lattice_all s h g same
  where
    lattice_all : (s : Shape) (g h : Loc → ℕ) → ((c : Loc) → g c ≡ h c) → lattice s 0 g ≡ lattice s 0 h
    lattice_all s g h e = grid_same (blocks_along s 0 0) (blocks_along s 1 0) (blocks_along s 2 0) (λ x y z. g (place 0 x y z)) (λ x y z. h (place 0 x y z)) (λ x y z p q r. e (place 0 x y z))
lattice_under s false g h same = lattice_all s h (λ c. 0) same ∙ lattice_nothing s 0
  where
    lattice_all : (s : Shape) (g h : Loc → ℕ) → ((c : Loc) → g c ≡ h c) → lattice s 0 g ≡ lattice s 0 h
    lattice_all s g h e = grid_same (blocks_along s 0 0) (blocks_along s 1 0) (blocks_along s 2 0) (λ x y z. g (place 0 x y z)) (λ x y z. h (place 0 x y z)) (λ x y z p q r. e (place 0 x y z))

both_tests : (a b : Bool) (v : ℕ) → cond (a && b) v 0 ≡ cond a (cond b v 0) 0
both_tests true b v = refl
both_tests false b v = refl

-- a box over all fields and root cells
box_fits : (s : Shape) (fields : ℕ) (b : StartBox) → slice_index b.lo 0 ≤ slice_index b.hi 0 → slice_index b.lo 1 ≤ slice_index b.hi 1 → slice_index b.lo 2 ≤ slice_index b.hi 2 → sum_to fields (λ f. lattice s 0 (box_part b f)) ≤ box_total b
box_fits s fields b o1 o2 o3 =
    let cells : ℕ = lattice s 0 (λ c. cond (holds b c) b.amount 0) in
    let apart = same_sum fields (λ f. lattice s 0 (box_part b f)) (λ f. cond (nat_eq b.field f) cells 0) (λ f. lattice_under s (nat_eq b.field f) (λ c. cond (holds b c) b.amount 0) (box_part b f) (λ c. both_tests (nat_eq b.field f) (holds b c) b.amount)) in
    omega (arith, apart, one_field fields b.field cells, box_cells b (blocks_along s 0 0) (blocks_along s 1 0) (blocks_along s 2 0) o1 o2 o3)

-- all boxes
pub boxes_fit : (s : Shape) (fields : ℕ) (bs : List StartBox) → ((i : ℕ) (d : StartBox) (axis : ℕ) → i < length bs → axis < 3 → slice_index (slice_index_or bs i d).lo axis ≤ slice_index (slice_index_or bs i d).hi axis)
    → sum_to fields (λ f. lattice s 0 (λ c. sum_over bs (λ (b : StartBox). box_part b f c))) ≤ sum_by box_total bs
boxes_fit s fields [] all =
    let none = same_sum fields (λ f. lattice s 0 (λ c. 0)) (λ f. 0) (λ f. lattice_nothing s 0) in
    let zero_sum = sum_const fields 0 in
    let z : fields * 0 ≡ 0 = omega arith in
    omega arith
boxes_fit s fields (b ∷ bs) all =
    let split = same_sum fields (λ f. lattice s 0 (λ c. box_part b f c + sum_over bs (λ (x : StartBox). box_part x f c))) (λ f. lattice s 0 (box_part b f) + lattice s 0 (λ c. sum_over bs (λ (x : StartBox). box_part x f c))) (λ f. lattice_plus s 0 (box_part b f) (λ c. sum_over bs (λ (x : StartBox). box_part x f c))) in
    let parts = sum_plus fields (λ f. lattice s 0 (box_part b f)) (λ f. lattice s 0 (λ c. sum_over bs (λ (x : StartBox). box_part x f c))) in
    let first = box_fits s fields b (all 0 b 0 (omega arith) (omega arith)) (all 0 b 1 (omega arith) (omega arith)) (all 0 b 2 (omega arith) (omega arith)) in
    let rest = boxes_fit s fields bs (λ i d axis inside along. all (suc i) d axis (omega (arith, inside)) along) in
    omega (arith, split, parts, first, rest, sum_by-cons box_total b bs)
