-- Lists that are grown piece by piece.
use Rattle.std.proofs.Common.{◌≡◌, ◌⊎◌, inl, inr, ℕ, zero, suc, ◌+◌, ◌-◌, ◌*◌, ◌/◌, ◌%◌, ◌^◌, ◌<◌, ◌≤◌, Bool, true, false, cond, List, [], ◌∷◌, ◌++◌, length, refl, arith, ap, subst, sym, ◌∙◌, append_assoc, length-append}
use Rattle.std.specs.Bool.{MatchBool}
use Rattle.std.proofs.Math.Nat.{mul-le-mul_right, pow-suc}
use Rattle.std.proofs.lemmas.Bool.{false≢true}
use Rattle.std.specs.List.{flat_map, range_with_len}
use Rattle.morton_order.specs.declared.space.Loc.{Loc}
use Rattle.morton_order.specs.declared.space.Shape.{Shape}
use Rattle.morton_order.specs.Space.{child, parts}
use Rattle.block_tree.specs.Leaves.{begins_inside, inner_below, leaves_below, pieces, roots_in}

-- the pieces from one on are it and those after it
pub flat_split : {X : Type 0} (f : ℕ → List X) (j n : ℕ) → j < n → flat_map f (range_with_len j (n - j)) ≡ f j ++ flat_map f (range_with_len (j + 1) (n - (j + 1)))
flat_split f j n h = let e : n - j ≡ suc (n - (j + 1)) = omega arith in ap (λ v. flat_map f (range_with_len j v)) e

pub flat_step : {X : Type 0} (f : ℕ → List X) (now next all : List X) (j n : ℕ) → j < n → now ++ flat_map f (range_with_len j (n - j)) ≡ all → next ≡ now ++ f j → next ++ flat_map f (range_with_len (j + 1) (n - (j + 1))) ≡ all
flat_step {X} f now next all j n less h is =
    let rest : List X = flat_map f (range_with_len (j + 1) (n - (j + 1))) in
    ap (λ (v : List X). v ++ rest) is ∙ append_assoc now (f j) rest ∙ sym (ap (λ (v : List X). now ++ v) (flat_split f j n less)) ∙ h

-- where a piece is too much, all of them are
pub flat_over : {X : Type 0} (f : ℕ → List X) (now all : List X) (j n most : ℕ) → j < n → now ++ flat_map f (range_with_len j (n - j)) ≡ all → most < length (now ++ f j) → most < length all
flat_over {X} f now all j n most less h over =
    let rest : List X = flat_map f (range_with_len (j + 1) (n - (j + 1))) in
    let e : length ((now ++ f j) ++ rest) ≡ length all = ap length (append_assoc now (f j) rest ∙ sym (ap (λ (v : List X). now ++ v) (flat_split f j n less)) ∙ h) in
    let g : length ((now ++ f j) ++ rest) ≡ length (now ++ f j) + length rest = length-append (now ++ f j) rest in omega arith

pub append_nil : {X : Type 0} (xs : List X) → xs ++ [] ≡ xs
append_nil [] = refl
append_nil (x ∷ xs) = ap (λ v. x ∷ v) (append_nil xs)

pub flat_end : {X : Type 0} (f : ℕ → List X) (now all : List X) (j n : ℕ) → n ≤ j → now ++ flat_map f (range_with_len j (n - j)) ≡ all → now ≡ all
flat_end {X} f now all j n past h = let e : n - j ≡ 0 = omega arith in sym (append_nil now) ∙ sym (ap (λ v. now ++ flat_map f (range_with_len j v)) e) ∙ h

-- the roots of a cube
pub roots_none : (s : Shape) (k x y z : ℕ) → begins_inside s k x y z ≡ false → roots_in k s x y z ≡ []
roots_none s zero x y z h = ap (λ (b : Bool). cond b (record { level = 0; l1 = x; l2 = y; l3 = z } ∷ []) []) h
roots_none s (suc k) x y z h = ap (λ (b : Bool). pieces b 8 (λ j. roots_in k s (2 * x + j % 2) (2 * y + j / 2 % 2) (2 * z + j / 4)) []) h

pub roots_one : (s : Shape) (k x y z : ℕ) → k ≡ 0 → begins_inside s k x y z ≡ true → roots_in k s x y z ≡ record { level = 0; l1 = x; l2 = y; l3 = z } ∷ []
roots_one s zero x y z e h = ap (λ (b : Bool). cond b (record { level = 0; l1 = x; l2 = y; l3 = z } ∷ []) []) h
roots_one s (suc k) x y z e h = absurd (omega arith)

pub roots_deep : (s : Shape) (k x y z : ℕ) → 1 ≤ k → begins_inside s k x y z ≡ true → roots_in k s x y z ≡ flat_map (λ j. roots_in (k - 1) s (2 * x + j % 2) (2 * y + j / 2 % 2) (2 * z + j / 4)) (range_with_len 0 8)
roots_deep s zero x y z e h = absurd (omega arith)
roots_deep s (suc k) x y z e h =
    let m : suc k - 1 ≡ k = omega arith in
    ap (λ (b : Bool). pieces b 8 (λ j. roots_in k s (2 * x + j % 2) (2 * y + j / 2 % 2) (2 * z + j / 4)) []) h
    ∙ sym (ap (λ v. flat_map (λ j. roots_in v s (2 * x + j % 2) (2 * y + j / 2 % 2) (2 * z + j / 4)) (range_with_len 0 8)) m)

-- what lies at and below a location
pub below_leaf : (k dims : ℕ) (test : Loc → Bool) (l : Loc) → (k ≡ 0) ⊎ (test l ≡ false) → (leaves_below k dims test l ≡ l ∷ []) × (inner_below k dims test l ≡ [])
below_leaf zero dims test l h = (refl, refl)
below_leaf (suc k) dims test l (inl e) = absurd (omega arith)
below_leaf (suc k) dims test l (inr e) = (
  ap (λ (b : Bool). pieces b (parts dims) (λ j. leaves_below k dims test (child dims l j)) (l ∷ [])) e,
  ap (λ (b : Bool). cond b (l ∷ []) [] ++ pieces b (parts dims) (λ j. inner_below k dims test (child dims l j)) []) e,
)

pub below_inner : (k dims : ℕ) (test : Loc → Bool) (l : Loc) → 1 ≤ k → test l ≡ true →
    (leaves_below k dims test l ≡ flat_map (λ j. leaves_below (k - 1) dims test (child dims l j)) (range_with_len 0 (parts dims)))
    × (inner_below k dims test l ≡ l ∷ flat_map (λ j. inner_below (k - 1) dims test (child dims l j)) (range_with_len 0 (parts dims)))
below_inner zero dims test l h e = absurd (omega arith)
below_inner (suc k) dims test l h e = let m : suc k - 1 ≡ k = omega arith in (
  ap (λ (b : Bool). pieces b (parts dims) (λ j. leaves_below k dims test (child dims l j)) (l ∷ [])) e ∙ sym (ap (λ v. flat_map (λ j. leaves_below v dims test (child dims l j)) (range_with_len 0 (parts dims))) m),
  ap (λ (b : Bool). cond b (l ∷ []) [] ++ pieces b (parts dims) (λ j. inner_below k dims test (child dims l j)) []) e ∙ sym (ap (λ v. l ∷ flat_map (λ j. inner_below v dims test (child dims l j)) (range_with_len 0 (parts dims))) m),
)

-- a half of a cube lies where the cube does
pub half_cube : (x b k : ℕ) → 1 ≤ k → b < 2 → (x + 1) * 2 ^ k ≤ 65536 → (2 * x + b + 1) * 2 ^ (k - 1) ≤ 65536
half_cube x b k some few h =
    let e : k ≡ suc (k - 1) = omega arith in
    let p : 2 ^ k ≡ 2 ^ (k - 1) * 2 = ap (λ v. 2 ^ v) e ∙ pow-suc 2 (k - 1) in
    let g : (x + 1) * (2 ^ (k - 1) * 2) ≤ 65536 = subst (λ v. (x + 1) * v ≤ 65536) p h in
    let m : (2 * x + b + 1) * 2 ^ (k - 1) ≤ (2 * x + 2) * 2 ^ (k - 1) = mul-le-mul_right (2 ^ (k - 1)) (omega arith) in
    omega arith

-- a cube with too many roots
pub roots_over : (s : Shape) (k x y z j most : ℕ) (b : Bool) (old now next : List Loc) → 1 ≤ k → begins_inside s k x y z ≡ true → j < 8 →
    now ++ flat_map (λ i. roots_in (k - 1) s (2 * x + i % 2) (2 * y + i / 2 % 2) (2 * z + i / 4)) (range_with_len j (8 - j)) ≡ old ++ flat_map (λ i. roots_in (k - 1) s (2 * x + i % 2) (2 * y + i / 2 % 2) (2 * z + i / 4)) (range_with_len 0 8) →
    b ≡ false → MatchBool b (next ≡ now ++ roots_in (k - 1) s (2 * x + j % 2) (2 * y + j / 2 % 2) (2 * z + j / 4)) (most < length (now ++ roots_in (k - 1) s (2 * x + j % 2) (2 * y + j / 2 % 2) (2 * z + j / 4))) →
    most < length (old ++ roots_in k s x y z)
roots_over s k x y z j most true old now next some inside less h e m = absurd (false≢true (sym e))
roots_over s k x y z j most false old now next some inside less h e over =
    subst (λ (v : List Loc). most < length (old ++ v)) (sym (roots_deep s k x y z some inside))
    (flat_over (λ i. roots_in (k - 1) s (2 * x + i % 2) (2 * y + i / 2 % 2) (2 * z + i / 4)) now (old ++ flat_map (λ i. roots_in (k - 1) s (2 * x + i % 2) (2 * y + i / 2 % 2) (2 * z + i / 4)) (range_with_len 0 8)) j 8 most less h over)

pub roots_more : (b : Bool) (most : ℕ) (now next piece : List Loc) → b ≡ true → MatchBool b (next ≡ now ++ piece) (most < length (now ++ piece)) → next ≡ now ++ piece
roots_more true most now next piece e h = h
roots_more false most now next piece e h = absurd (false≢true e)
