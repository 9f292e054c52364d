-- Tags fit a tree that has no leaf of the finest level.
use Rattle.std.proofs.Common.{◌≡◌, ℕ, ◌<◌, ◌+◌, ◌≤◌, Bool, cond, true, false, ◌||◌, is_some, IsSome, List, [], ◌∷◌, Some, None, length, refl, arith, ap, subst, sym, ◌∙◌}
use Rattle.std.specs.List.{slice_get, zip}
use Rattle.std.specs.Map.{lookup}
use Rattle.std.proofs.lemmas.Bool.{false≢true}
use Rattle.morton_order.specs.declared.space.Loc.{Loc}
use Rattle.morton_order.specs.Space.{same_loc}
use Rattle.block_tree.specs.declared.tags.Tag.{Tag}
use Rattle.block_tree.specs.Tree.{is_listed}
use Rattle.block_tree.specs.Next.{tag_at}
use Rattle.block_tree.specs.Blocks.{TreeOfBlocks, leaves}
use Rattle.block_tree.proofs.Worklist.{read_listed}
use Rattle.tree_change.specs.Tagged.{AreTags, tag_of}

-- only a leaf has a tag
tagged_is_leaf : (ls : List Loc) (ts : List Tag) (l : Loc) → IsSome (tag_at ls ts l) → is_listed ls l ≡ true
tagged_is_leaf [] ts l h = absurd (false≢true h)
tagged_is_leaf (x ∷ xs) [] l h = absurd (false≢true h)
tagged_is_leaf (x ∷ xs) (t ∷ ts) l h = by (same_loc l x) h (λ k. tagged_is_leaf xs ts l k)
  where
    by : (b : Bool) → IsSome (cond b (Some t) (lookup (same_loc l) (zip xs ts))) → (IsSome (lookup (same_loc l) (zip xs ts)) → is_listed xs l ≡ true) → (b || is_listed xs l) ≡ true
    by true k again = refl
    by false k again = again k

pub tags_fit : (t : TreeOfBlocks) (tags : List Tag) (ls : List Loc) (n : ℕ) → ls ≡ leaves t → length tags ≡ length ls → length ls ≤ n → ((k : ℕ) (at : Loc) → k < n → slice_get ls k ≡ Some at → at.level < 10) → AreTags t tags
tags_fit t tags ls n is same far coarse = record {
  one_each = same ∙ ap length is;
  room = λ l h.
      let there = subst (λ (v : List Loc). is_listed v l ≡ true) (sym is) (tagged_is_leaf (leaves t) tags l (ap is_some h)) in
      let (k, less, at) = read_listed ls l there in
      coarse k l (omega arith) at;
}
