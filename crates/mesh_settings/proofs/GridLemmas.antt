-- The root blocks of a mesh cover it, and few of them lie along an axis.
use Rattle.std.proofs.Common.{◌≡◌, ◌==◌, ◌≤◌, ◌<◌, ◌*◌, ◌/◌, ◌%◌, ◌^◌, ℕ, zero, suc, Bool, true, false, cond, nat_lt, List, [], ◌∷◌, get_or, slice_get, None, refl, ap, ◌∙◌, subst, nat_eq, arith}
use Rattle.std.proofs.Math.Nat.{mul-le-mul, mul-le-mul_left, mul_comm, mul-mul-mul_comm}
use Rattle.std.specs.Prelude.{slice_index}
use Rattle.std.proofs.lemmas.Bool.Decides.{nat_tests}
use Rattle.mesh_settings.specs.declared.words.FaceKind.{FaceKind}
use Rattle.mesh_settings.specs.Grid.{roots_along, shape_of, root_blocks}
use Rattle.mesh_settings.specs.Mesh.{cells_of}
use Rattle.mesh_settings.specs.Sound.{IsSize, IsCellsAlong, IsCells, IsGrid}

-- past the end of a list its default is read
pub get_or-none : {A : Type 0} (xs : List A) (i : ℕ) (d : A) → slice_get xs i ≡ None → get_or xs i d ≡ d
get_or-none [] i d e = refl
get_or-none (x ∷ xs) zero d e = cc
get_or-none (x ∷ xs) (suc i) d e = get_or-none xs i d e

-- an even share along an axis
covered : (s c : ℕ) → IsCellsAlong s c → s / c * c ≡ s
covered s c along = let a = along.least in let b = along.divides in grind (arith, mul_comm)

-- at least one part, where there is something to cover
some_part : (q c s : ℕ) → q * c ≡ s → 1 ≤ s → 1 ≤ q
some_part zero c s e some = omega arith
some_part (suc q) c s e some = omega arith

-- no more parts than there is to cover
few_parts : (q c s : ℕ) → q * c ≡ s → 1 ≤ c → q ≤ s
few_parts q c s e some = omega (arith, mul-le-mul_left q some)

-- each of three factors is at most their product
factors : (a b c n : ℕ) → 1 ≤ a → 1 ≤ b → 1 ≤ c → a * b * c ≤ n → (a ≤ n) × (b ≤ n) × (c ≤ n)
factors a b c n la lb lc le =
    let ab : a * 1 ≤ a * b = mul-le-mul_left a lb in
    let ba : b * 1 ≤ b * a = mul-le-mul_left b la in
    let abc : a * b * 1 ≤ a * b * c = mul-le-mul_left (a * b) lc in
    let one : 1 ≤ a * b = omega arith in
    let cab : c * 1 ≤ c * (a * b) = mul-le-mul_left c one in
    let comm : b * a ≡ a * b = mul_comm b a in
    let comm' : c * (a * b) ≡ a * b * c = mul_comm c (a * b) in
    (omega arith, omega arith, omega arith)

-- how many axes are in use, by whether two sizes are 1
dims_cases : (b c : Bool) → (1 ≤ cond b 1 (cond c 2 3)) × (cond b 1 (cond c 2 3) ≤ 3)
dims_cases true c = (omega arith, omega arith)
dims_cases false true = (omega arith, omega arith)
dims_cases false false = (omega arith, omega arith)

first_axis : (b c : Bool) (r : ℕ) → r ≤ 65536 → r ≤ cond (nat_lt 0 (cond b 1 (cond c 2 3))) 65536 1
first_axis true c r h = h
first_axis false true r h = h
first_axis false false r h = h

second_axis : (b c : Bool) (r : ℕ) → r ≤ 65536 → (b ≡ true → r ≤ 1) → r ≤ cond (nat_lt 1 (cond b 1 (cond c 2 3))) 65536 1
second_axis true c r h one = one refl
second_axis false true r h one = h
second_axis false false r h one = h

third_axis : (b c : Bool) (r : ℕ) → r ≤ 65536 → (b ≡ true → r ≤ 1) → (c ≡ true → r ≤ 1) → r ≤ cond (nat_lt 2 (cond b 1 (cond c 2 3))) 65536 1
third_axis true c r h flat one = flat refl
third_axis false true r h flat one = one refl
third_axis false false r h flat one = h

-- what holds along x1, and along x2 and x3 where they are in use, holds along each axis in use
each_used : (P : ℕ → Type 0) (a b : ℕ) → P 0 → (2 ≤ a → P 1) → (2 ≤ b → P 2) → 1 ≤ a → 1 ≤ b → (axis : ℕ) → axis < cond (nat_eq a 1) 1 (cond (nat_eq b 1) 2 3) → P axis
each_used P a b p q r la lb zero h = p
each_used P a b p q r la lb (suc zero) h = by (nat_eq a 1) refl h where
  by : (t : Bool) → nat_eq a 1 ≡ t → 1 < cond t 1 (cond (nat_eq b 1) 2 3) → P 1
  by true is g = absurd (omega (arith, g))
  by false is g = q (grind (arith, nat_tests))
each_used P a b p q r la lb (suc (suc zero)) h = by (nat_eq a 1) (nat_eq b 1) refl h where
  by : (t s : Bool) → nat_eq b 1 ≡ s → 2 < cond t 1 (cond s 2 3) → P 2
  by true s is g = absurd (omega (arith, g))
  by false true is g = absurd (omega (arith, g))
  by false false is g = r (grind (arith, nat_tests))
each_used P a b p q r la lb (suc (suc (suc n))) h = by (nat_eq a 1) (nat_eq b 1) h where
  by : (t s : Bool) → suc (suc (suc n)) < cond t 1 (cond s 2 3) → P (suc (suc (suc n)))
  by true s g = absurd (omega (arith, g))
  by false true g = absurd (omega (arith, g))
  by false false g = absurd (omega (arith, g))

-- what holds along x2 and x3 where they are not in use holds along each axis that is not
each_unused : (P : ℕ → Type 0) (a b : ℕ) → (a ≡ 1 → P 1) → (b ≡ 1 → P 2) → (a ≡ 1 → b ≡ 1) → (axis : ℕ) → cond (nat_eq a 1) 1 (cond (nat_eq b 1) 2 3) ≤ axis → axis < 3 → P axis
each_unused P a b p q flat zero h lt = by (nat_eq a 1) (nat_eq b 1) h where
  by : (t s : Bool) → cond t 1 (cond s 2 3) ≤ 0 → P 0
  by true s g = absurd (omega (arith, g))
  by false true g = absurd (omega (arith, g))
  by false false g = absurd (omega (arith, g))
each_unused P a b p q flat (suc zero) h lt = by (nat_eq a 1) (nat_eq b 1) refl h where
  by : (t s : Bool) → nat_eq a 1 ≡ t → cond t 1 (cond s 2 3) ≤ 1 → P 1
  by true s is g = p (grind (arith, nat_tests))
  by false true is g = absurd (omega (arith, g))
  by false false is g = absurd (omega (arith, g))
each_unused P a b p q flat (suc (suc zero)) h lt = by (nat_eq a 1) (nat_eq b 1) refl refl h where
  by : (t s : Bool) → nat_eq a 1 ≡ t → nat_eq b 1 ≡ s → cond t 1 (cond s 2 3) ≤ 2 → P 2
  by true s is js g = q (flat (grind (arith, nat_tests)))
  by false true is js g = q (grind (arith, nat_tests))
  by false false is js g = absurd (omega (arith, g))
each_unused P a b p q flat (suc (suc (suc n))) h lt = absurd (omega (arith, lt))

-- few root blocks, each of few cells, are of few cells
few_cells : (a b c x y z : ℕ) → a * b * c ≤ 65536 → x ≤ 64 → y ≤ 64 → z ≤ 64 → (a * x) * (b * y) * (c * z) ≤ 2 ^ 34
few_cells a b c x y z few hx hy hz =
    let xy : x * y ≤ 64 * 64 = mul-le-mul hx hy in
    let xyz : x * y * z ≤ 64 * 64 * 64 = mul-le-mul xy hz in
    let all : (a * b * c) * (x * y * z) ≤ 65536 * (64 * 64 * 64) = mul-le-mul few xyz in
    let same : (a * x) * (b * y) * (c * z) ≡ (a * b * c) * (x * y * z) = ap (λ (n : ℕ). n * (c * z)) (mul-mul-mul_comm a x b y) ∙ mul-mul-mul_comm (a * b) (x * y) c z in
    omega arith

few_of_all : (size cells : List ℕ) → roots_along size cells 0 * slice_index cells 0 ≡ slice_index size 0 → roots_along size cells 1 * slice_index cells 1 ≡ slice_index size 1 → roots_along size cells 2 * slice_index cells 2 ≡ slice_index size 2 → IsCells size cells → root_blocks size cells ≤ 65536 → cells_of size ≤ 2 ^ 34
few_of_all size cells e f g c few =
    let most = few_cells (roots_along size cells 0) (roots_along size cells 1) (roots_along size cells 2) (slice_index cells 0) (slice_index cells 1) (slice_index cells 2) few c.along1.most c.along2.most c.along3.most in
    subst (λ (n : ℕ). n ≤ 2 ^ 34) (ap (λ (n : ℕ). n * (roots_along size cells 1 * slice_index cells 1) * (roots_along size cells 2 * slice_index cells 2)) e ∙ ap (λ (n : ℕ). slice_index size 0 * n * (roots_along size cells 2 * slice_index cells 2)) f ∙ ap (λ (n : ℕ). slice_index size 0 * slice_index size 1 * n) g) most

-- the root blocks of sound numbers
pub IsGrid-from : (size cells : List ℕ) (faces : List FaceKind) → IsSize size → IsCells size cells → root_blocks size cells ≤ 65536 → IsGrid size cells (shape_of size cells faces)
IsGrid-from size cells faces s c few =
    let n1 = slice_index size 0 in
    let n2 = slice_index size 1 in
    let n3 = slice_index size 2 in
    let c1 = covered n1 (slice_index cells 0) c.along1 in
    let c2 = covered n2 (slice_index cells 1) c.along2 in
    let c3 = covered n3 (slice_index cells 2) c.along3 in
    let l1 : 1 ≤ roots_along size cells 0 = some_part _ (slice_index cells 0) n1 c1 (omega (arith, s.least1)) in
    let l2 : 1 ≤ roots_along size cells 1 = some_part _ (slice_index cells 1) n2 c2 s.least2 in
    let l3 : 1 ≤ roots_along size cells 2 = some_part _ (slice_index cells 2) n3 c3 s.least3 in
    let m = factors (roots_along size cells 0) (roots_along size cells 1) (roots_along size cells 2) 65536 l1 l2 l3 few in
    let b = n2 == 1 in
    let d = n3 == 1 in
    let t3 : d ≡ true → roots_along size cells 2 ≤ 1 = (λ (e : d ≡ true). let one : n3 ≡ 1 = grind (arith, nat_tests) in omega (arith, few_parts (roots_along size cells 2) (slice_index cells 2) n3 c3 c.along3.least)) in
    let f3 : b ≡ true → roots_along size cells 2 ≤ 1 = (λ (e : b ≡ true). let one : n2 ≡ 1 = grind (arith, nat_tests) in let one3 : n3 ≡ 1 = s.flat3 one in omega (arith, few_parts (roots_along size cells 2) (slice_index cells 2) n3 c3 c.along3.least)) in
    let t2 : b ≡ true → roots_along size cells 1 ≤ 1 = (λ (e : b ≡ true). let one : n2 ≡ 1 = grind (arith, nat_tests) in omega (arith, few_parts (roots_along size cells 1) (slice_index cells 1) n2 c2 c.along2.least)) in
    record {
      cells_sound = c;
      shape_sound = record {
        least = (dims_cases b d).0;
        most = (dims_cases b d).1;
        roots1 = (l1, first_axis b d _ m.0);
        roots2 = (l2, second_axis b d _ m.1 t2);
        roots3 = (l3, third_axis b d _ m.2 f3 t3);
      };
      axes = refl;
      covers1 = c1;
      covers2 = c2;
      covers3 = c3;
      few = few;
      few_cells = few_of_all size cells c1 c2 c3 c few;
      wide = each_used (λ axis. 4 ≤ slice_index cells axis) n2 n3 (c.along1.wide (omega (arith, s.least1))) c.along2.wide c.along3.wide s.least2 s.least3;
      even = each_used (λ axis. slice_index cells axis % 2 ≡ 0) n2 n3 (c.along1.even (omega (arith, s.least1))) c.along2.even c.along3.even s.least2 s.least3;
      flat = each_unused (λ axis. slice_index cells axis ≡ 1) n2 n3 c.along2.thin c.along3.thin s.flat3;
    }
