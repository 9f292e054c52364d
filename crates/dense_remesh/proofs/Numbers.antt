-- The numbers of old leaves.
use Rattle.std.proofs.Common.{◌≡◌, ◌≢◌, ℕ, zero, suc, ◌+◌, ◌<◌, Bool, true, false, Option, Some, None, List, [], ◌∷◌, length, set, refl, arith, ap, sym, ◌∙◌, below_more, get_or-set_other, get_or-set_same}
use Rattle.std.specs.List.{list_any, range_with_len, slice_get, slice_index_or}
use Rattle.std.proofs.lemmas.Bool.{false≢true}
use Rattle.morton_order.specs.declared.space.Loc.{Loc}
use Rattle.morton_order.specs.Space.{IsIn, child, same_loc}
use Rattle.morton_order.proofs.Any.{any_range-found, or_left, or_right}
use Rattle.morton_order.proofs.Touching.{same_loc-self}
use Rattle.block_tree.specs.Tree.{IsLeaf, is_listed}
use Rattle.block_tree.specs.Blocks.{IsBlockTree, TreeOfBlocks, leaves}
use Rattle.block_tree.specs.Nodes.{number_in}
use Rattle.block_tree.proofs.Behinds.{fails}
use Rattle.block_tree.proofs.LeafList.{listed_leaf}
use Rattle.block_tree.proofs.Numbers.{unlisted_number}

-- no leaf is finer than the finest level
pub none_finer : (t : TreeOfBlocks) → IsBlockTree t → (c : Loc) → 10 < c.level → number_in (leaves t) c ≡ None
none_finer t kept c deep = unlisted_number (leaves t) c (fails (is_listed (leaves t) c) (λ h.
    let leaf = listed_leaf t.shape (is_listed t.inner) kept.tree c h in
    let level = leaf.inside.level in
    omega arith))

-- eight times none
abbrev pub eight : List (Option ℕ)
eight = None ∷ None ∷ None ∷ None ∷ None ∷ None ∷ None ∷ None ∷ []

pub all_none : (j : ℕ) → slice_index_or eight j None ≡ None
all_none zero = refl
all_none (suc zero) = refl
all_none (suc (suc zero)) = refl
all_none (suc (suc (suc zero))) = refl
all_none (suc (suc (suc (suc zero)))) = refl
all_none (suc (suc (suc (suc (suc zero))))) = refl
all_none (suc (suc (suc (suc (suc (suc zero)))))) = refl
all_none (suc (suc (suc (suc (suc (suc (suc zero))))))) = refl
all_none (suc (suc (suc (suc (suc (suc (suc (suc j)))))))) = refl

-- none of a range passes
pub none_pass : (p : ℕ → Bool) (n : ℕ) → ((k : ℕ) → k < n → p k ≡ false) → list_any p (range_with_len 0 n) ≡ false
none_pass p n none = fails (list_any p (range_with_len 0 n)) (λ h.
    let found = any_range-found p 0 n h in
    let low : found.0 < n = omega (arith, found.2) in
    false≢true (sym (none found.0 low) ∙ found.3))

-- one child more
pub children_step : (t : TreeOfBlocks) (l : Loc) (numbers : List (Option ℕ)) (j : ℕ) (dims : ℕ) (at : Loc) (o : Option ℕ) → length numbers ≡ 8 → j < 8 → at ≡ child dims l j → dims ≡ t.shape.dims → o ≡ number_in (leaves t) at →
    ((k : ℕ) → k < j → slice_index_or numbers k None ≡ number_in (leaves t) (child t.shape.dims l k)) →
    (k : ℕ) → k < j + 1 → slice_index_or (set numbers j o) k None ≡ number_in (leaves t) (child t.shape.dims l k)
children_step t l numbers j dims at o long small is same has before = below_more _ _
    (λ k h. let ne : k ≢ j = omega arith in get_or-set_other numbers j k o None ne ∙ before k h)
    (get_or-set_same numbers j o None (omega arith) ∙ has ∙ ap (number_in (leaves t)) (is ∙ ap (λ d. child d l j) same))

-- what stands in a list is listed
pub listed_at : (xs : List Loc) (k : ℕ) (l : Loc) → slice_get xs k ≡ Some l → is_listed xs l ≡ true
listed_at [] k l h = cc
listed_at (x ∷ xs) zero l h = let same : x ≡ l = cc in or_left (same_loc l x) (is_listed xs l) (ap (same_loc l) same ∙ same_loc-self l)
listed_at (x ∷ xs) (suc k) l h = or_right (same_loc l x) (is_listed xs l) (listed_at xs k l h)

-- a leaf lies in the domain
pub leaf_at : (t : TreeOfBlocks) → IsBlockTree t → (leaf : ℕ) (l : Loc) → slice_get (leaves t) leaf ≡ Some l → IsLeaf t.shape (is_listed t.inner) l
leaf_at t kept leaf l is = listed_leaf t.shape (is_listed t.inner) kept.tree l (listed_at (leaves t) leaf l is)

pub leaf_inside : (t : TreeOfBlocks) → IsBlockTree t → (leaf : ℕ) (l : Loc) → slice_get (leaves t) leaf ≡ Some l → IsIn t.shape l
leaf_inside t kept leaf l is = (leaf_at t kept leaf l is).inside
