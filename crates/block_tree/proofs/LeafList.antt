-- The listed leaves of a tree are leaves.
use Rattle.std.proofs.Common.{◌≡◌, inl, inr, ℕ, zero, suc, ◌+◌, ◌*◌, ◌/◌, ◌%◌, ◌^◌, ◌<◌, Bool, true, false, cond, ◌&&◌, nat_lt, List, [], ◌∷◌, ◌++◌, refl, arith, ap, subst, sym, ◌∙◌}
use Rattle.std.specs.List.{flat_map, list_any, range_with_len}
use Rattle.std.proofs.Math.Nat.{pow-zero}
use Rattle.std.proofs.lemmas.Bool.{and_parts, false≢true, ltb-true}
use Rattle.morton_order.specs.declared.space.Loc.{Loc}
use Rattle.morton_order.specs.declared.space.Shape.{Shape}
use Rattle.morton_order.specs.Space.{IsIn, child, factor, parts, root_along, same_loc}
use Rattle.morton_order.proofs.Any.{or_cases}
use Rattle.morton_order.proofs.Family.{child_inside, parent-child}
use Rattle.morton_order.proofs.Touching.{same_loc-is}
use Rattle.block_tree.specs.Tree.{IsLeaf, IsTree, is_listed, is_node}
use Rattle.block_tree.specs.Leaves.{begins_inside, leaves_below, leaves_of, pieces, roots, roots_in}
use Rattle.block_tree.proofs.Ancestors.{parent_node, root_node}

-- what holds of each item of a list
abbrev pub Each : {X : Type 0} → (X → Type 0) → List X → Type 0
Each P [] = Unit {0}
Each P (x ∷ xs) = P x × Each P xs

pub each_append : {X : Type 0} (P : X → Type 0) (xs ys : List X) → Each P xs → Each P ys → Each P (xs ++ ys)
each_append P [] ys h k = k
each_append P (x ∷ xs) ys h k = (h.0, each_append P xs ys h.1 k)

pub each_flat : {X Y : Type 0} (P : Y → Type 0) (Q : X → Type 0) (f : X → List Y) → ((x : X) → Q x → Each P (f x)) → (xs : List X) → Each Q xs → Each P (flat_map f xs)
each_flat P Q f h [] k = tt
each_flat P Q f h (x ∷ xs) k = each_append P (f x) (flat_map f xs) (h x k.0) (each_flat P Q f h xs k.1)

pub each_number : (P : ℕ → Type 0) → ((j : ℕ) → P j) → (a n : ℕ) → Each P (range_with_len a n)
each_number P h a zero = tt
each_number P h a (suc n) = (h a, each_number P h (a + 1) n)

pub each_listed : (P : Loc → Type 0) (l : Loc) (xs : List Loc) → Each P xs → list_any (same_loc l) xs ≡ true → P l
each_listed P l [] h k = absurd (false≢true k)
each_listed P l (x ∷ xs) h k = elim (or_cases (same_loc l x) (list_any (same_loc l) xs) k) [
  | inl same ↦ subst P (sym (same_loc-is l x same)) h.0
  | inr later ↦ each_listed P l xs h.1 later
]

-- the roots lie in the domain
pub record IsRoot (s : Shape) (l : Loc) : Type 0 where
  pub inside : IsIn s l
  pub root : l.level ≡ 0

at_origin : (r f x : ℕ) → x * 1 < r → x < r * f ^ 0
at_origin r f x h = subst (λ v. x < r * v) (sym (pow-zero f)) (omega arith)

pub root_inside : (s : Shape) (x y z : ℕ) → begins_inside s 0 x y z ≡ true → IsIn s (record { level = 0; l1 = x; l2 = y; l3 = z })
root_inside s x y z h =
    let a = and_parts (nat_lt (x * 1) (root_along s 0) && nat_lt (y * 1) (root_along s 1)) (nat_lt (z * 1) (root_along s 2)) h in
    let b = and_parts (nat_lt (x * 1) (root_along s 0)) (nat_lt (y * 1) (root_along s 1)) a.0 in
    record {
      level = omega arith;
      within1 = at_origin (root_along s 0) (factor s.dims 0) x (ltb-true (x * 1) (root_along s 0) b.0);
      within2 = at_origin (root_along s 1) (factor s.dims 1) y (ltb-true (y * 1) (root_along s 1) b.1);
      within3 = at_origin (root_along s 2) (factor s.dims 2) z (ltb-true (z * 1) (root_along s 2) a.1);
    }

one_root : (s : Shape) (x y z : ℕ) (b : Bool) → begins_inside s 0 x y z ≡ b → Each (IsRoot s) (cond b (record { level = 0; l1 = x; l2 = y; l3 = z } ∷ []) [])
one_root s x y z true h = (record { inside = root_inside s x y z h; root = refl }, tt)
one_root s x y z false h = tt

each_piece : (P : Loc → Type 0) (b : Bool) (n : ℕ) (f : ℕ → List Loc) (none : List Loc) → ((j : ℕ) → b ≡ true → Each P (f j)) → (b ≡ false → Each P none) → Each P (pieces b n f none)
each_piece P true n f none h k = each_flat P (λ _. Unit {0}) f (λ j _. h j refl) (range_with_len 0 n) (each_number (λ _. Unit {0}) (λ _. tt) 0 n)
each_piece P false n f none h k = k refl

pub each_root : (k : ℕ) (s : Shape) (x y z : ℕ) → Each (IsRoot s) (roots_in k s x y z)
each_root zero s x y z = one_root s x y z (begins_inside s 0 x y z) refl
each_root (suc k) s x y z = each_piece (IsRoot s) (begins_inside s (suc k) x y z) 8 (λ j. roots_in k s (2 * x + j % 2) (2 * y + j / 2 % 2) (2 * z + j / 4)) [] (λ j b. each_root k s (2 * x + j % 2) (2 * y + j / 2 % 2) (2 * z + j / 4)) (λ b. tt)

-- what is listed below a node are leaves
record IsNode (s : Shape) (inner : Loc → Bool) (k : ℕ) (l : Loc) : Type 0 where
  pub inside : IsIn s l
  node : is_node s inner l ≡ true
  level : l.level + k ≡ 10

not_true : (b : Bool) → b ≡ false → b ≡ true → ⊥
not_true b h k = false≢true (sym h ∙ k)

each_below : (s : Shape) (inner : Loc → Bool) → IsTree s inner → (k : ℕ) (l : Loc) → IsNode s inner k l → Each (IsLeaf s inner) (leaves_below k s.dims inner l)
each_below s inner tree zero l n = let level = n.level in
    (record { inside = n.inside; node = n.node; outer = λ h. let a = tree.above_finest l h in absurd (omega arith) }, tt)
each_below s inner tree (suc k) l n = let level = n.level in
    each_piece (IsLeaf s inner) (inner l) (parts s.dims) (λ j. leaves_below k s.dims inner (child s.dims l j)) (l ∷ [])
    (λ j b. each_below s inner tree k (child s.dims l j) (record { inside = child_inside s l j n.inside (omega arith); node = parent_node s inner (child s.dims l j) (ap inner (parent-child s.dims l j) ∙ b); level = omega arith }))
    (λ b. (record { inside = n.inside; node = n.node; outer = not_true (inner l) b }, tt))

-- a listed leaf is a leaf
pub listed_leaf : (s : Shape) (inner : Loc → Bool) → IsTree s inner → (l : Loc) → is_listed (leaves_of s inner) l ≡ true → IsLeaf s inner l
unfolding leaves_of roots
listed_leaf s inner tree l h = each_listed (IsLeaf s inner) l (flat_map (leaves_below 10 s.dims inner) (roots_in 16 s 0 0 0))
    (each_flat (IsLeaf s inner) (IsRoot s) (leaves_below 10 s.dims inner) (λ r root. each_below s inner tree 10 r (record { inside = root.inside; node = root_node s inner r root.root; level = ap (λ v. v + 10) root.root })) (roots_in 16 s 0 0 0) (each_root 16 s 0 0 0)) h
