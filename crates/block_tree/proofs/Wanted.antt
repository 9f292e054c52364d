-- What static boxes want is closed under parent, and what is refused is too much.
use Rattle.std.proofs.Common.{◌≡◌, inl, inr, ℕ, zero, suc, ◌+◌, ◌-◌, ◌*◌, ◌/◌, ◌^◌, ◌<◌, ◌≤◌, Bool, true, cond, ◌&&◌, nat_lt, List, [], ◌∷◌, ◌++◌, All, length, slice_index, refl, arith, ap, subst, sym, ◌∙◌}
use Rattle.std.specs.List.{IsDistinct, flat_map, list_all, list_any, range_with_len}
use Rattle.std.proofs.Math.Nat.{mul-le-mul_right, pow-suc}
use Rattle.std.proofs.lemmas.Bool.{and_parts, false≢true, ltb-true, lt-ltb}
use Rattle.morton_order.specs.declared.space.Loc.{Loc}
use Rattle.morton_order.specs.declared.space.Shape.{Shape}
use Rattle.morton_order.specs.Space.{IsIn, IsShape, axis_of, is_inside, parent, parts, same_loc}
use Rattle.morton_order.proofs.Any.{or_cases, or_left, or_right}
use Rattle.morton_order.proofs.Family.{inside-is, is-inside, parent_inside}
use Rattle.block_tree.specs.declared.boxes.StaticBox.{StaticBox}
use Rattle.block_tree.specs.Tree.{IsTree, is_listed}
use Rattle.block_tree.specs.Leaves.{inner_below, inner_of, leaves_of, roots}
use Rattle.block_tree.specs.Least.{HoldsWanted, IsLeast, meets, meets_along, opening, wanted_by}
use Rattle.block_tree.specs.Nodes.{with_nodes}
use Rattle.block_tree.specs.Worklist.{AddsOnly, AreForced, AreRoomy}
use Rattle.block_tree.proofs.Counting.{distinct_few, leaf_count}
use Rattle.block_tree.proofs.Growing.{below_leaf}
use Rattle.block_tree.proofs.InnerList.{inner_listed, inner_test}
use Rattle.block_tree.proofs.Next.{all_pass, coarse_of_boxes, opening_is_least}
use Rattle.block_tree.proofs.Numbers.{least_is_one, set_listed}

both : (a b : Bool) → a ≡ true → b ≡ true → (a && b) ≡ true
both a b h k = ap (λ (v : Bool). v && b) h ∙ k

all_has : (p : ℕ → Bool) (a n : ℕ) → ((j : ℕ) → a ≤ j → j < a + n → p j ≡ true) → list_all p (range_with_len a n) ≡ true
all_has p a zero h = refl
all_has p a (suc n) h = both (p a) (list_all p (range_with_len (a + 1) n)) (h a (omega arith) (omega arith)) (all_has p (a + 1) n (λ j low high. h j (omega arith) (omega arith)))

-- what meets a box does so one level coarser
along_up : (n k x lo hi : ℕ) → meets_along n (suc k) x lo hi ≡ true → meets_along n k (x / 2) lo hi ≡ true
along_up n k x lo hi h =
    let both_ends = and_parts (nat_lt (x * n) ((hi + 1) * 2 ^ suc k)) (nat_lt (lo * 2 ^ suc k) ((x + 1) * n)) h in
    let p : 2 ^ suc k ≡ 2 ^ k * 2 = pow-suc 2 k in
    let above : x * n < (hi + 1) * (2 ^ k * 2) = subst (λ v. x * n < (hi + 1) * v) p (ltb-true (x * n) ((hi + 1) * 2 ^ suc k) both_ends.0) in
    let below : lo * (2 ^ k * 2) < (x + 1) * n = subst (λ v. lo * v < (x + 1) * n) p (ltb-true (lo * 2 ^ suc k) ((x + 1) * n) both_ends.1) in
    let low : (2 * (x / 2)) * n ≤ x * n = mul-le-mul_right n (omega arith) in
    let high : (x + 1) * n ≤ (2 * (x / 2) + 2) * n = mul-le-mul_right n (omega arith) in
    both (nat_lt (x / 2 * n) ((hi + 1) * 2 ^ k)) (nat_lt (lo * 2 ^ k) ((x / 2 + 1) * n))
    (lt-ltb (x / 2 * n) ((hi + 1) * 2 ^ k) (ends (x / 2) n (hi + 1) (2 ^ k) (x * n) low above))
    (lt-ltb (lo * 2 ^ k) ((x / 2 + 1) * n) (begins (x / 2) n lo (2 ^ k) ((x + 1) * n) high below))
  where
    ends : (y n b p xn : ℕ) → (2 * y) * n ≤ xn → xn < b * (p * 2) → y * n < b * p
    ends y n b p xn low above = omega arith

    begins : (y n b p xn : ℕ) → xn ≤ (2 * y + 2) * n → b * (p * 2) < xn → b * p < (y + 1) * n
    begins y n b p xn high below = omega arith

axis_up : (dims : ℕ) (l : Loc) (axis : ℕ) → dims ≤ 3 → axis < dims → axis_of (parent dims l) axis ≡ axis_of l axis / 2
axis_up dims l zero few used = ap (λ (b : Bool). l.l1 / cond b 2 1) (lt-ltb 0 dims used)
axis_up dims l (suc zero) few used = ap (λ (b : Bool). l.l2 / cond b 2 1) (lt-ltb 1 dims used)
axis_up dims l (suc (suc zero)) few used = ap (λ (b : Bool). l.l3 / cond b 2 1) (lt-ltb 2 dims used)
axis_up dims l (suc (suc (suc a))) few used = absurd (omega arith)

meets_up : (s : Shape) (cells : List ℕ) (b : StaticBox) (l : Loc) → IsShape s → 1 ≤ l.level → meets s cells b l ≡ true → meets s cells b (parent s.dims l) ≡ true
meets_up s cells b l shape fine h = all_has (λ axis. meets_along (slice_index cells axis) (l.level - 1) (axis_of (parent s.dims l) axis) (slice_index b.lo axis) (slice_index b.hi axis)) 0 s.dims (λ j low high.
    let used : j < s.dims = omega arith in
    let e : l.level ≡ suc (l.level - 1) = omega arith in
    let one = all_pass (λ axis. meets_along (slice_index cells axis) l.level (axis_of l axis) (slice_index b.lo axis) (slice_index b.hi axis)) 0 s.dims j h low high in
    subst (λ v. meets_along (slice_index cells j) (l.level - 1) v (slice_index b.lo j) (slice_index b.hi j) ≡ true) (sym (axis_up s.dims l j shape.most used))
    (along_up (slice_index cells j) (l.level - 1) (axis_of l j) (slice_index b.lo j) (slice_index b.hi j) (subst (λ v. meets_along (slice_index cells j) v (axis_of l j) (slice_index b.lo j) (slice_index b.hi j) ≡ true) e one)))

asked_up : (s : Shape) (cells : List ℕ) (boxes : List StaticBox) (l : Loc) → IsShape s → 1 ≤ l.level →
    list_any (λ (b : StaticBox). nat_lt l.level b.level && meets s cells b l) boxes ≡ true →
    list_any (λ (b : StaticBox). nat_lt (l.level - 1) b.level && meets s cells b (parent s.dims l)) boxes ≡ true
asked_up s cells [] l shape fine h = h
asked_up s cells (b ∷ bs) l shape fine h = elim (or_cases (nat_lt l.level b.level && meets s cells b l) (list_any (λ (b : StaticBox). nat_lt l.level b.level && meets s cells b l) bs) h) [
  | inl here ↦
      let p = and_parts (nat_lt l.level b.level) (meets s cells b l) here in
      let less : l.level < b.level = ltb-true l.level b.level p.0 in
      or_left (nat_lt (l.level - 1) b.level && meets s cells b (parent s.dims l)) _ (both (nat_lt (l.level - 1) b.level) (meets s cells b (parent s.dims l)) (lt-ltb (l.level - 1) b.level (omega arith)) (meets_up s cells b l shape fine p.1))
  | inr later ↦ or_right (nat_lt (l.level - 1) b.level && meets s cells b (parent s.dims l)) _ (asked_up s cells bs l shape fine later)
]

pub wanted_tree : (s : Shape) (cells : List ℕ) (boxes : List StaticBox) → IsShape s → All (λ (b : StaticBox). b.level ≤ 10) boxes → IsTree s (wanted_by s cells boxes)
wanted_tree s cells boxes shape levels = record {
  inside = λ l h. (split l h).0;
  above_finest = λ l h. let c = coarse_of_boxes 9 s cells boxes l levels (split l h).1 in omega arith;
  closed = λ l h fine. let p = split l h in
      both (list_any (λ (b : StaticBox). nat_lt (l.level - 1) b.level && meets s cells b (parent s.dims l)) boxes) (is_inside s (parent s.dims l))
      (asked_up s cells boxes l shape fine p.1) (is-inside s (parent s.dims l) (parent_inside s l p.0 fine));
}
  where
    split : (l : Loc) → wanted_by s cells boxes l ≡ true → IsIn s l × (list_any (λ (b : StaticBox). nat_lt l.level b.level && meets s cells b l) boxes ≡ true)
    split l h = let p = and_parts (list_any (λ (b : StaticBox). nat_lt l.level b.level && meets s cells b l) boxes) (is_inside s l) h in (inside-is s l p.1, p.0)

-- more inner nodes than there is room for force more leaves than the limit
crowd : (dims r n i l : ℕ) → 1 ≤ dims → dims ≤ 3 → r ≤ 65536 → (65536 - r) / (parts dims - 1) < n → n ≤ i → l ≡ r + (parts dims - 1) * i → 65536 < l
crowd zero r n i l some most few over more is = absurd (omega arith)
crowd (suc zero) r n i l some most few over more is = omega arith
crowd (suc (suc zero)) r n i l some most few over more is = omega arith
crowd (suc (suc (suc zero))) r n i l some most few over more is = omega arith
crowd (suc (suc (suc (suc d)))) r n i l some most few over more is = absurd (omega arith)

pub too_many_nodes : (s : Shape) (test : Loc → Bool) (nodes : List Loc) → IsShape s → IsTree s test → IsDistinct same_loc nodes → ((l : Loc) → is_listed nodes l ≡ true → test l ≡ true) →
    length (roots s) ≤ 65536 → (65536 - length (roots s)) / (parts s.dims - 1) < length nodes → 65536 < length (leaves_of s test)
too_many_nodes s test nodes shape tree distinct within few over =
    crowd s.dims (length (roots s)) (length nodes) (length (inner_of s test)) (length (leaves_of s test)) shape.least shape.most few over
    (distinct_few nodes (inner_of s test) distinct (λ l h. inner_listed s test shape tree l (within l h)))
    (leaf_count s test shape)

pub too_many_roots : (s : Shape) (test : Loc → Bool) → IsShape s → 65536 < length (roots s) → 65536 < length (leaves_of s test)
too_many_roots s test shape over = let e = leaf_count s test shape in omega arith

-- a tree without inner nodes has the roots as its leaves
no_inner : (dims : ℕ) (rs : List Loc) → length (flat_map (inner_below 10 dims (is_listed [])) rs) ≡ 0
no_inner dims [] = refl
no_inner dims (r ∷ rs) = ap (λ (v : List Loc). length (v ++ flat_map (inner_below 10 dims (is_listed [])) rs)) (below_leaf 10 dims (is_listed []) r (inr refl)).1 ∙ no_inner dims rs

no_inner_of : (s : Shape) → length (inner_of s (is_listed [])) ≡ 0
unfolding inner_of
no_inner_of s = no_inner s.dims (roots s)

pub root_leaves : (s : Shape) → IsShape s → length (roots s) ≤ 65536 → length (leaves_of s (is_listed [])) ≤ 65536
root_leaves s shape few =
    let e : (parts s.dims - 1) * length (inner_of s (is_listed [])) ≡ (parts s.dims - 1) * 0 = ap (λ v. (parts s.dims - 1) * v) (no_inner_of s) in
    let count = leaf_count s (is_listed []) shape in omega arith

-- the nodes that boxes want, balanced, are the inner nodes of the opening tree
wanted_listed : (s : Shape) (cells : List ℕ) (boxes : List StaticBox) (mid : List Loc) → IsShape s → All (λ (b : StaticBox). b.level ≤ 10) boxes → mid ≡ with_nodes [] (inner_of s (wanted_by s cells boxes)) → is_listed mid ≡ wanted_by s cells boxes
wanted_listed s cells boxes mid shape levels is = ap is_listed is ∙ set_listed (inner_of s (wanted_by s cells boxes)) ∙ inner_test s (wanted_by s cells boxes) shape (wanted_tree s cells boxes shape levels)

pub wanted_roomy : (s : Shape) (cells : List ℕ) (boxes : List StaticBox) (mid : List Loc) → IsShape s → All (λ (b : StaticBox). b.level ≤ 10) boxes → mid ≡ with_nodes [] (inner_of s (wanted_by s cells boxes)) → AreRoomy s mid
wanted_roomy s cells boxes mid shape levels is l h =
    let tree = wanted_tree s cells boxes shape levels in
    let k : wanted_by s cells boxes l ≡ true = subst (λ (p : Loc → Bool). p l ≡ true) (wanted_listed s cells boxes mid shape levels is) h in
    (tree.inside l k, tree.above_finest l k)

pub opening_nodes : (s : Shape) (cells : List ℕ) (boxes : List StaticBox) (mid new : List Loc) → IsShape s → All (λ (b : StaticBox). b.level ≤ 10) boxes → mid ≡ with_nodes [] (inner_of s (wanted_by s cells boxes)) → IsLeast s (is_listed mid) (is_listed new) → is_listed new ≡ opening 9 s cells boxes
opening_nodes s cells boxes mid new shape levels is h =
    least_is_one s (wanted_by s cells boxes) (is_listed new) (opening 9 s cells boxes)
    (subst (λ (p : Loc → Bool). IsLeast s p (is_listed new)) (wanted_listed s cells boxes mid shape levels is) h)
    (opening_is_least 9 s cells boxes shape (omega arith) levels)

pub opening_tree : (s : Shape) (cells : List ℕ) (boxes : List StaticBox) → IsShape s → All (λ (b : StaticBox). b.level ≤ 10) boxes → HoldsWanted s (wanted_by s cells boxes) (opening 9 s cells boxes)
opening_tree s cells boxes shape levels = (opening_is_least 9 s cells boxes shape (omega arith) levels).one_of

-- a set of wanted nodes that is too large
pub wanted_over : (s : Shape) (cells : List ℕ) (boxes : List StaticBox) (new : List Loc) (most : ℕ) → IsShape s → All (λ (b : StaticBox). b.level ≤ 10) boxes → (rs : List Loc) → rs ≡ roots s → length rs ≤ 65536 → most ≡ (65536 - length rs) / (parts s.dims - 1) →
    AddsOnly (wanted_by s cells boxes) [] new → IsDistinct same_loc new → most < length new → 65536 < length (leaves_of s (opening 9 s cells boxes))
wanted_over s cells boxes new most shape levels rs listed few is only distinct over =
    let held = opening_tree s cells boxes shape levels in
    too_many_nodes s (opening 9 s cells boxes) new shape held.tree distinct (λ l h. held.holds l (elim (only l h) [ inl none ↦ absurd (false≢true none) | inr wanted ↦ wanted ])) (subst (λ (v : List Loc). length v ≤ 65536) listed few) (subst (λ (v : List Loc). (65536 - length v) / (parts s.dims - 1) < length new) listed (subst (λ v. v < length new) is over))

-- a balanced set of nodes that is too large
pub forced_over : (s : Shape) (cells : List ℕ) (boxes : List StaticBox) (mid new : List Loc) (most : ℕ) → IsShape s → All (λ (b : StaticBox). b.level ≤ 10) boxes → (rs : List Loc) → rs ≡ roots s → length rs ≤ 65536 → most ≡ (65536 - length rs) / (parts s.dims - 1) →
    mid ≡ with_nodes [] (inner_of s (wanted_by s cells boxes)) → AreForced s (is_listed mid) new → IsDistinct same_loc new → most < length new → 65536 < length (leaves_of s (opening 9 s cells boxes))
forced_over s cells boxes mid new most shape levels rs listed few is made forced distinct over =
    let held = subst (λ (p : Loc → Bool). HoldsWanted s p (opening 9 s cells boxes)) (sym (wanted_listed s cells boxes mid shape levels made)) (opening_tree s cells boxes shape levels) in
    too_many_nodes s (opening 9 s cells boxes) new shape held.tree distinct (forced (opening 9 s cells boxes) held) (subst (λ (v : List Loc). length v ≤ 65536) listed few) (subst (λ (v : List Loc). (65536 - length v) / (parts s.dims - 1) < length new) listed (subst (λ v. v < length new) is over))
