-- The boxes that meet a block, and the shares in its cells.
use Rattle.std.proofs.Common.{◌≡◌, ℕ, zero, suc, ◌+◌, ◌/◌, ◌%◌, ◌<◌, ◌≤◌, Bool, true, false, cond, ◌&&◌, nat_le, nat_lt, List, [], ◌∷◌, replicate, slice_index, refl, arith, ap, subst, sym, ◌∙◌}
use Rattle.std.specs.Prelude.{if◌then◌else◌}
use Rattle.std.specs.List.{filter}
use Rattle.std.proofs.lemmas.Bool.{and_parts, false≢true, le-ltb}
use Rattle.std.proofs.lemmas.Bool.Decides.{nat_tests}
use Rattle.std.proofs.lemmas.List.{get_or-replicate, length-replicate}
use Rattle.std.proofs.lemmas.List.FromFn.{fill_by_all}
use Rattle.mesh_num.specs.Share.{share}
use Rattle.morton_order.specs.declared.space.Loc.{Loc}
use Rattle.morton_order.specs.Space.{child_number, parent, parts}
use Rattle.morton_order.proofs.Touching.{same_as}
use Rattle.block_tree.proofs.Behinds.{fails}
use Rattle.deck_entries.specs.declared.entries.StartBox.{StartBox}
use Rattle.mesh_rules.specs.Sums.{sum_over}
use Rattle.mesh_rules.specs.Opening.{holds}
use Rattle.mesh_laws.proofs.Looks.{some_parts}
use Rattle.block_layout.specs.Indices.{count_of}
use Rattle.block_layout.proofs.Boxes.{index_below}
use Rattle.dense_mesh.proofs.Tables.{table_same}
use Rattle.dense_remesh.specs.StartBoxes.{amounts, cell_of, cell_of_block, coarser, first_of_block, last_of_block, meets, opening_list, root_of, root_total, spread_over}

-- one cell lies before another along each axis, or is it
pub record IsBelow (a b : List ℕ) : Type 0 where
  pub along1 : slice_index a 0 ≤ slice_index b 0
  pub along2 : slice_index a 1 ≤ slice_index b 1
  pub along3 : slice_index a 2 ≤ slice_index b 2

halved_below : (used : Bool) (x y : ℕ) → x ≤ y → x / cond used 2 1 ≤ y / cond used 2 1
halved_below true x y h = omega arith
halved_below false x y h = omega arith

-- so do the root cells that they lie in
roots_below : (k dims : ℕ) (a b : List ℕ) → IsBelow a b → IsBelow (root_of dims k a) (root_of dims k b)
roots_below zero dims a b h = record { along1 = h.along1; along2 = h.along2; along3 = h.along3 }
roots_below (suc k) dims a b h = roots_below k dims (coarser dims a) (coarser dims b) (record {
  along1 = halved_below (nat_lt 0 dims) (slice_index a 0) (slice_index b 0) h.along1;
  along2 = halved_below (nat_lt 1 dims) (slice_index a 1) (slice_index b 1) h.along2;
  along3 = halved_below (nat_lt 2 dims) (slice_index a 2) (slice_index b 2) h.along3;
})

-- the cells of a block lie between its first and its last
first_below : (n : List ℕ) (l : Loc) (place : ℕ) → IsBelow (first_of_block n l) (cell_of_block n l place)
first_below n l place = record { along1 = omega arith; along2 = omega arith; along3 = omega arith }

last_above : (n : List ℕ) (l : Loc) (place : ℕ) → place < count_of n → IsBelow (cell_of_block n l place) (last_of_block n l)
last_above n l place small =
    let w = index_below n place small in
    record { along1 = omega (arith, w.along1); along2 = omega (arith, w.along2); along3 = omega (arith, w.along3) }

-- a box that holds a root cell meets what lies around it
meets_by : (lo hi low x high : ℕ) → low ≤ x → x ≤ high → (nat_le lo x && nat_le x hi) ≡ true → (nat_le lo high && nat_le low hi) ≡ true
meets_by lo hi low x high a b h = grind (arith, nat_tests)

all_three : (a b c : Bool) → a ≡ true → b ≡ true → c ≡ true → (a && b && c) ≡ true
all_three true true true p q r = refl
all_three true true false p q r = r
all_three true false c p q r = q
all_three false b c p q r = p

held_meets : (b : StartBox) (low x high : List ℕ) → IsBelow low x → IsBelow x high → holds b (cell_of 0 x) ≡ true → meets b low high ≡ true
held_meets b low x high before after h =
    let one = and_parts (nat_le (slice_index b.lo 0) (slice_index x 0) && nat_le (slice_index x 0) (slice_index b.hi 0)) _ h in
    let two = and_parts (nat_le (slice_index b.lo 1) (slice_index x 1) && nat_le (slice_index x 1) (slice_index b.hi 1)) _ one.1 in
    let three = and_parts (nat_le (slice_index b.lo 2) (slice_index x 2) && nat_le (slice_index x 2) (slice_index b.hi 2)) _ two.1 in
    all_three _ _ _
    (meets_by (slice_index b.lo 0) (slice_index b.hi 0) (slice_index low 0) (slice_index x 0) (slice_index high 0) before.along1 after.along1 one.0)
    (meets_by (slice_index b.lo 1) (slice_index b.hi 1) (slice_index low 1) (slice_index x 1) (slice_index high 1) before.along2 after.along2 two.0)
    (meets_by (slice_index b.lo 2) (slice_index b.hi 2) (slice_index low 2) (slice_index x 2) (slice_index high 2) before.along3 after.along3 three.0)

-- a sum over what passes a test that all but zeros pass
kept_step : (test : Bool) (b : StartBox) (bs : List StartBox) (g : StartBox → ℕ) → (test ≡ false → g b ≡ 0) → sum_over (cond test (b ∷ bs) bs) g ≡ g b + sum_over bs g
kept_step true b bs g h = refl
kept_step false b bs g h = let none = h refl in omega arith

filtered_sum : (test : StartBox → Bool) (g : StartBox → ℕ) → ((b : StartBox) → test b ≡ false → g b ≡ 0) → (bs : List StartBox) → sum_over (filter test bs) g ≡ sum_over bs g
filtered_sum test g none [] = refl
filtered_sum test g none (b ∷ bs) = let rest = filtered_sum test g none bs in let step = kept_step (test b) b (filter test bs) g (none b) in omega arith

fewer_step : (test : Bool) (b : StartBox) (bs : List StartBox) → amounts (cond test (b ∷ bs) bs) ≤ b.amount + amounts bs
fewer_step true b bs = omega arith
fewer_step false b bs = omega arith

pub filtered_amounts : (test : StartBox → Bool) (bs : List StartBox) → amounts (filter test bs) ≤ amounts bs
filtered_amounts test [] = omega arith
filtered_amounts test (b ∷ bs) = let rest = filtered_amounts test bs in let step = fewer_step (test b) b (filter test bs) in omega arith

-- the boxes that meet what lies around a root cell put into it what all do
nothing_held : (b : StartBox) (low x high : List ℕ) → IsBelow low x → IsBelow x high → meets b low high ≡ false → cond (holds b (cell_of 0 x)) b.amount 0 ≡ 0
nothing_held b low x high before after far = ap (λ (t : Bool). cond t b.amount 0) (fails (holds b (cell_of 0 x)) (λ h. false≢true (sym far ∙ held_meets b low x high before after h)))

near_total : (boxes : List StartBox) (low x high : List ℕ) → IsBelow low x → IsBelow x high → root_total (filter (λ (b : StartBox). meets b low high) boxes) (cell_of 0 x) ≡ root_total boxes (cell_of 0 x)
near_total boxes low x high before after = filtered_sum (λ (b : StartBox). meets b low high) (λ (b : StartBox). cond (holds b (cell_of 0 x)) b.amount 0) (λ b far. nothing_held b low x high before after far) boxes

-- the parent of a cell by its coordinates
parent_of : (k dims : ℕ) (cell : List ℕ) → parent dims (cell_of (suc k) cell) ≡ cell_of k (coarser dims cell)
parent_of k dims cell = same_as (cell_of k (coarser dims cell)) (parent dims (cell_of (suc k) cell)) (omega arith) refl refl refl

-- shares of what the root cells have alone
pub spread_same : (k dims : ℕ) (f g : Loc → ℕ) (cell : List ℕ) → f (cell_of 0 (root_of dims k cell)) ≡ g (cell_of 0 (root_of dims k cell)) → spread_over k dims f (cell_of k cell) ≡ spread_over k dims g (cell_of k cell)
spread_same zero dims f g cell same = same
spread_same (suc k) dims f g cell same =
    ap (λ q. share q (parts dims) (child_number dims (cell_of (suc k) cell)))
    (ap (spread_over k dims f) (parent_of k dims cell) ∙ spread_same k dims f g (coarser dims cell) same ∙ sym (ap (spread_over k dims g) (parent_of k dims cell)))

-- the list of a block by the boxes that meet it
pub near_list : (dims : ℕ) (n : List ℕ) (boxes near : List StartBox) (l : Loc) (low high : List ℕ) → low ≡ root_of dims l.level (first_of_block n l) → high ≡ root_of dims l.level (last_of_block n l) →
    near ≡ filter (λ (b : StartBox). meets b low high) boxes → opening_list dims n near l ≡ opening_list dims n boxes l
near_list dims n boxes near l low high first last is =
    table_same (count_of n) _ _ 0 (λ place small.
    let cell : List ℕ = cell_of_block n l place in
    let x : List ℕ = root_of dims l.level cell in
    spread_same l.level dims (root_total near) (root_total boxes) cell
    (ap (λ (bs : List StartBox). root_total bs (cell_of 0 x)) is
    ∙ near_total boxes low x high
    (subst (λ (v : List ℕ). IsBelow v x) (sym first) (roots_below l.level dims (first_of_block n l) cell (first_below n l place)))
    (subst (λ (v : List ℕ). IsBelow x v) (sym last) (roots_below l.level dims cell (last_of_block n l) (last_above n l place small)))))

-- nothing is shared out of nothing
share_nothing : (n j : ℕ) → 1 ≤ n → share 0 n j ≡ 0
share_nothing n j some =
    let none : 0 / n ≡ 0 = omega arith in
    let rest : 0 % n ≡ 0 = omega arith in
    ap (λ v. v + (if nat_lt j (0 % n) then 1 else 0)) none
    ∙ ap (λ v. 0 + (if nat_lt j v then 1 else 0)) rest
    ∙ ap (λ (b : Bool). 0 + (if b then 1 else 0)) (le-ltb j 0 (omega arith))

spread_nothing : (k dims : ℕ) (c : Loc) → spread_over k dims (root_total []) c ≡ 0
spread_nothing zero dims c = refl
spread_nothing (suc k) dims c = ap (λ q. share q (parts dims) (child_number dims c)) (spread_nothing k dims (parent dims c)) ∙ share_nothing (parts dims) (child_number dims c) (some_parts dims)

-- where no box is, the block has zeros
pub empty_list : (dims : ℕ) (n : List ℕ) (l : Loc) → replicate (count_of n) 0 ≡ opening_list dims n [] l
empty_list dims n l = fill_by_all (λ place. spread_over l.level dims (root_total []) (cell_of l.level (cell_of_block n l place))) (replicate (count_of n) 0) (count_of n) 0 (length-replicate (count_of n) 0)
    (λ k small. get_or-replicate (count_of n) k 0 0 small ∙ sym (spread_nothing l.level dims (cell_of l.level (cell_of_block n l k))))
