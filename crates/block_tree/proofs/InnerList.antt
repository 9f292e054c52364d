-- The listed inner nodes of a tree are its inner nodes.
use Rattle.std.proofs.Common.{◌≡◌, ℕ, zero, suc, ◌+◌, ◌≤◌, Bool, true, false, cond, List, [], ◌∷◌, ◌++◌, refl, arith, ap, sym, ◌∙◌}
use Rattle.std.specs.List.{flat_map, range_with_len}
use Rattle.morton_order.specs.declared.space.Loc.{Loc}
use Rattle.morton_order.specs.declared.space.Shape.{Shape}
use Rattle.morton_order.specs.Space.{IsShape, child, child_number, parent, parts, same_loc}
use Rattle.morton_order.proofs.Any.{or_left}
use Rattle.morton_order.proofs.Family.{child-parent, child_number_below}
use Rattle.morton_order.proofs.Touching.{same_loc-self}
use Rattle.block_tree.specs.Tree.{IsTree, ancestor, is_listed}
use Rattle.block_tree.specs.Leaves.{InnersAreListed, inner_below, inner_of, pieces, roots}
use Rattle.block_tree.proofs.Ancestors.{ancestor_inner, ancestor_level, ancestor_more}
use Rattle.block_tree.proofs.KeyOrder.{any_append_right, any_flat, any_listed, root_of}
use Rattle.block_tree.proofs.LeafList.{Each, each_append, each_flat, each_listed, each_number}

-- what is listed is inner
inner_by : (dims k : ℕ) (inner : Loc → Bool) (l : Loc) → ((j : ℕ) → Each (λ m. inner m ≡ true) (inner_below k dims inner (child dims l j))) → (b : Bool) → inner l ≡ b →
    Each (λ m. inner m ≡ true) (cond b (l ∷ []) [] ++ pieces b (parts dims) (λ j. inner_below k dims inner (child dims l j)) [])
inner_by dims k inner l again true e = (e, each_flat (λ m. inner m ≡ true) (λ _. Unit {0}) (λ j. inner_below k dims inner (child dims l j)) (λ j _. again j) (range_with_len 0 (parts dims)) (each_number (λ _. Unit {0}) (λ _. tt) 0 (parts dims)))
inner_by dims k inner l again false e = tt

inner_each : (dims k : ℕ) (inner : Loc → Bool) (l : Loc) → Each (λ m. inner m ≡ true) (inner_below k dims inner l)
inner_each dims zero inner l = tt
inner_each dims (suc k) inner l = inner_by dims k inner l (λ j. inner_each dims k inner (child dims l j)) (inner l) refl

each_any : (P : Loc → Type 0) (f : Loc → List Loc) → ((x : Loc) → Each P (f x)) → (xs : List Loc) → Each P (flat_map f xs)
each_any P f h [] = tt
each_any P f h (x ∷ xs) = each_append P (f x) (flat_map f xs) (h x) (each_any P f h xs)

pub listed_inner : (s : Shape) (inner : Loc → Bool) (l : Loc) → is_listed (inner_of s inner) l ≡ true → inner l ≡ true
unfolding inner_of
listed_inner s inner l h = each_listed (λ m. inner m ≡ true) l (flat_map (inner_below 10 s.dims inner) (roots s)) (each_any (λ m. inner m ≡ true) (inner_below 10 s.dims inner) (λ r. inner_each s.dims 10 inner r) (roots s)) h

-- an inner node is listed: down from its root, child by child
inner_here : (s : Shape) (inner : Loc → Bool) → IsShape s → IsTree s inner → (l : Loc) → inner l ≡ true → (k d : ℕ) (x : Loc) → d ≤ l.level → ancestor s.dims d l ≡ x → x.level + suc k ≡ 10 → d ≤ k → is_listed (inner_below (suc k) s.dims inner x) l ≡ true
inner_here s inner shape tree l il k zero x few top level deep =
    let e : inner x ≡ true = ap inner (sym top) ∙ il in
    ap (λ (b : Bool). is_listed (cond b (x ∷ []) [] ++ pieces b (parts s.dims) (λ j. inner_below k s.dims inner (child s.dims x j)) []) l) e
    ∙ or_left (same_loc l x) _ (ap (same_loc l) (sym top) ∙ same_loc-self l)
inner_here s inner shape tree l il zero (suc d) x few top level deep = absurd (omega arith)
inner_here s inner shape tree l il (suc k) (suc d) x few top level deep =
    let y : Loc = ancestor s.dims d l in
    let y_level = ancestor_level s.dims d l (omega arith) in
    let parent_is : parent s.dims y ≡ x = sym (ancestor_more s.dims d l) ∙ top in
    let j : ℕ = child_number s.dims y in
    let small = child_number_below s.dims y shape.least shape.most in
    let child_is : child s.dims x j ≡ y = ap (λ (v : Loc). child s.dims v j) (sym parent_is) ∙ child-parent s.dims y (omega arith) in
    let e : inner x ≡ true = ap inner (sym top) ∙ ancestor_inner s inner tree (suc d) l il few in
    let same = ap (λ (v : Loc). v.level) child_is in
    let below = inner_here s inner shape tree l il k d (child s.dims x j) (omega arith) (sym child_is) (omega arith) (omega arith) in
    ap (λ (b : Bool). is_listed (cond b (x ∷ []) [] ++ pieces b (parts s.dims) (λ i. inner_below (suc k) s.dims inner (child s.dims x i)) []) l) e
    ∙ any_append_right (same_loc l) (x ∷ []) (flat_map (λ i. inner_below (suc k) s.dims inner (child s.dims x i)) (range_with_len 0 (parts s.dims)))
    (any_flat (same_loc l) (λ i. inner_below (suc k) s.dims inner (child s.dims x i)) 0 (parts s.dims) j (omega arith) (omega arith) below)

pub inner_listed : (s : Shape) (inner : Loc → Bool) → IsShape s → IsTree s inner → (l : Loc) → inner l ≡ true → is_listed (inner_of s inner) l ≡ true
unfolding inner_of
inner_listed s inner shape tree l il =
    let room = tree.above_finest l il in
    let inside = tree.inside l il in
    let up = ancestor_level s.dims l.level l (omega arith) in
    any_listed l (ancestor s.dims l.level l) (inner_below 10 s.dims inner) (roots s) (root_of s shape l inside) (inner_here s inner shape tree l il 9 l.level (ancestor s.dims l.level l) (omega arith) refl (omega arith) (omega arith))

-- a test that is read off a list
pub inner_test : (s : Shape) (inner : Loc → Bool) → IsShape s → IsTree s inner → is_listed (inner_of s inner) ≡ inner
inner_test s inner shape tree = λ i l. one l i
  where
    one : (l : Loc) → is_listed (inner_of s inner) l ≡ inner l
    one l = by (inner l) refl (is_listed (inner_of s inner) l) refl
      where
        by : (b : Bool) → inner l ≡ b → (c : Bool) → is_listed (inner_of s inner) l ≡ c → c ≡ b
        by true e true f = refl
        by true e false f = sym f ∙ inner_listed s inner shape tree l e
        by false e true f = sym (listed_inner s inner l f) ∙ e
        by false e false f = refl

pub inners_are_listed : InnersAreListed
inners_are_listed s inner shape tree l = ap (λ (p : Loc → Bool). p l) (inner_test s inner shape tree)
