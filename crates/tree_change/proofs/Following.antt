-- The wanted nodes are what the tags want.
use Rattle.std.proofs.Common.{◌≡◌, inl, inr, ℕ, suc, ◌+◌, ◌-◌, ◌<◌, ◌≤◌, Bool, true, false, not, ◌&&◌, ◌||◌, List, ◌++◌, IfOk, Result, Ok, Err, length, arith, ap, subst, sym, ◌∙◌}
use Rattle.std.specs.List.{flat_map, list_all, range_with_len, slice_index_or, zip}
use Rattle.std.proofs.lemmas.Option.{slice_get-get_or}
use Rattle.std.proofs.lemmas.Bool.{and_parts}
use Rattle.morton_order.specs.declared.space.Loc.{Loc}
use Rattle.morton_order.specs.declared.space.Shape.{Shape}
use Rattle.morton_order.specs.Space.{IsIn}
use Rattle.morton_order.proofs.Any.{or_cases}
use Rattle.block_tree.specs.declared.tags.Tag.{Tag}
use Rattle.block_tree.specs.Tree.{is_listed}
use Rattle.block_tree.specs.Leaves.{roots}
use Rattle.block_tree.specs.Least.{HoldsWanted, IsLeast, least}
use Rattle.block_tree.specs.Blocks.{IsBlockTree, TreeOfBlocks, is_inner_of, leaves, tree_with}
use Rattle.block_tree.specs.Next.{FitTags, IsNear, IsNext, is_refine, merges, wanted_next}
use Rattle.block_tree.specs.Worklist.{AreRoomy}
use Rattle.block_tree.proofs.Counting.{leaf_count}
use Rattle.block_tree.proofs.Forced.{least_is_least}
use Rattle.block_tree.proofs.InnerList.{inner_test}
use Rattle.block_tree.proofs.KeyOrder.{leaves_law}
use Rattle.block_tree.proofs.Next.{next_is_least, next_is_near}
use Rattle.block_tree.proofs.Numbers.{distinct_leaves, least_is_one}
use Rattle.block_tree.proofs.Worklist.{listed_read}
use Rattle.tree_change.specs.Tagged.{AreTags, next_of, tag_of}
use Rattle.tree_change.specs.Listed.{kept, refined}
use Rattle.tree_change.proofs.Tags.{all_pass, listed_append, nothing_more, passing_listed, refine_is, refine_some, refined_listed, tagged_listed}

-- the nodes that are listed as wanted
abbrev pub listing : TreeOfBlocks → List Tag → List Loc → List Loc
listing t tags nodes = flat_map (kept t tags) nodes ++ flat_map refined (zip (leaves t) tags)

pub listing_is : (t : TreeOfBlocks) (tags : List Tag) (nodes : List Loc) → IsBlockTree t → is_listed nodes ≡ is_inner_of t → is_listed (listing t tags nodes) ≡ wanted_next t.shape.dims (is_inner_of t) (tag_of t tags)
listing_is t tags nodes kept_tree same = λ i l. one l i
  where
    one : (l : Loc) → is_listed (listing t tags nodes) l ≡ wanted_next t.shape.dims (is_inner_of t) (tag_of t tags) l
    one l =
        listed_append l (flat_map (kept t tags) nodes) (flat_map refined (zip (leaves t) tags))
        ∙ ap (λ (v : Bool). v || is_listed (flat_map refined (zip (leaves t) tags)) l) (passing_listed (λ m. not (merges t.shape.dims (tag_of t tags) m)) nodes l)
        ∙ ap (λ (v : Bool). (is_listed nodes l && not (merges t.shape.dims (tag_of t tags) l)) || v) (refined_listed (leaves t) tags l (distinct_leaves t.shape (is_inner_of t) kept_tree.shape kept_tree.tree))
        ∙ ap (λ (p : Loc → Bool). (p l && not (merges t.shape.dims (tag_of t tags) l)) || is_refine (tag_of t tags l)) same

-- the tags fit the tree
pub tags_fit : (t : TreeOfBlocks) (tags : List Tag) → IsBlockTree t → AreTags t tags → FitTags 9 t.shape (is_inner_of t) (tag_of t tags)
tags_fit t tags kept_tree fit = record {
  on_leaf = λ l h. ((leaves_law t.shape (is_inner_of t) kept_tree.shape kept_tree.tree).leaves l).0 (tagged_listed (leaves t) tags l h);
  inner = λ l h. let few = kept_tree.tree.above_finest l h in omega arith;
  refined = λ l h. let few = fit.room l (refine_is (tag_of t tags l) h) in omega arith;
}

pub next_least : (t : TreeOfBlocks) (tags : List Tag) → IsBlockTree t → AreTags t tags → IsNext t.shape (is_inner_of t) (tag_of t tags) (next_of t tags)
next_least t tags kept_tree fit = next_is_least 9 t.shape (is_inner_of t) (tag_of t tags) kept_tree.shape (omega arith) kept_tree.tree (tags_fit t tags kept_tree fit)

-- what is wanted has room
pub listing_roomy : (t : TreeOfBlocks) (tags : List Tag) (nodes : List Loc) → IsBlockTree t → AreTags t tags → is_listed nodes ≡ is_inner_of t → AreRoomy t.shape (listing t tags nodes)
listing_roomy t tags nodes kept_tree fit same l h =
    let wanted = subst (λ (p : Loc → Bool). p l ≡ true) (listing_is t tags nodes kept_tree same) h in
    elim (or_cases (is_inner_of t l && not (merges t.shape.dims (tag_of t tags) l)) (is_refine (tag_of t tags l)) wanted) [
      | inl old ↦ let inner = (and_parts (is_inner_of t l) (not (merges t.shape.dims (tag_of t tags) l)) old).0 in (kept_tree.tree.inside l inner, kept_tree.tree.above_finest l inner)
      | inr new ↦ (((tags_fit t tags kept_tree fit).on_leaf l (refine_some (tag_of t tags l) new)).inside, fit.room l (refine_is (tag_of t tags l) new))
    ]

pub few_roots : (t : TreeOfBlocks) → IsBlockTree t → length (roots t.shape) ≤ 65536
few_roots t kept_tree = let count = leaf_count t.shape (is_inner_of t) kept_tree.shape in let few = kept_tree.few in omega arith

-- where nothing is taken away and nothing added, the tree is its own next one
pub unchanged : (t : TreeOfBlocks) (tags : List Tag) (nodes : List Loc) → IsBlockTree t → is_listed nodes ≡ is_inner_of t →
    length (flat_map (kept t tags) nodes) ≡ length nodes → length (listing t tags nodes) ≡ length (flat_map (kept t tags) nodes) → t ≡ tree_with t.shape (next_of t tags)
unchanged t tags nodes kept_tree same all none =
    let list_is : listing t tags nodes ≡ nodes = nothing_more (flat_map (kept t tags) nodes) (flat_map refined (zip (leaves t) tags)) none ∙ all_pass (λ m. not (merges t.shape.dims (tag_of t tags) m)) nodes all in
    let wanted_is : wanted_next t.shape.dims (is_inner_of t) (tag_of t tags) ≡ is_inner_of t = sym (listing_is t tags nodes kept_tree same) ∙ ap is_listed list_is ∙ same in
    let old : Loc → Bool = is_inner_of t in
    let held : HoldsWanted t.shape old old = record { tree = kept_tree.tree; balanced = kept_tree.balanced; holds = λ l h. h } in
    let self : IsLeast t.shape old old = record { one_of = held; within = λ other tree l h. tree.holds l h } in
    let least_of : IsLeast t.shape old (least 9 t.shape old) = least_is_least 9 t.shape old kept_tree.shape (omega arith) (λ l h. let few = kept_tree.tree.above_finest l h in (kept_tree.tree.inside l h, omega arith)) in
    let is : old ≡ next_of t tags = least_is_one t.shape old old (least 9 t.shape old) self least_of ∙ sym (ap (least 9 t.shape) wanted_is) in
    ap (λ (v : List Loc). record { shape = t.shape; inner = v }) kept_tree.order ∙ ap (tree_with t.shape) is

-- what is listed in the end
pub listed_so : (t : TreeOfBlocks) (tags : List Tag) (nodes ls a b : List Loc) → a ≡ flat_map (kept t tags) nodes → ls ≡ leaves t → b ≡ a ++ flat_map refined (zip ls tags) → b ≡ listing t tags nodes
listed_so t tags nodes ls a b first same_leaves is = is ∙ ap (λ (v : List Loc). v ++ flat_map refined (zip ls tags)) first ∙ ap (λ (v : List Loc). flat_map (kept t tags) nodes ++ flat_map refined (zip v tags)) same_leaves

-- what holds of the least tree that holds the listed nodes holds of the next tree
pub carry : (t : TreeOfBlocks) (tags : List Tag) (nodes : List Loc) (s : Shape) (ls : List Loc) → IsBlockTree t → is_listed nodes ≡ is_inner_of t → s ≡ t.shape → ls ≡ listing t tags nodes → (P : Shape → (Loc → Bool) → Type 0) → P s (least 9 s (is_listed ls)) → P t.shape (next_of t tags)
carry t tags nodes s ls kept_tree same shape_is list_is P h =
    subst (λ (p : Loc → Bool). P t.shape (least 9 t.shape p)) (ap is_listed list_is ∙ listing_is t tags nodes kept_tree same) (subst (λ (v : Shape). P v (least 9 v (is_listed ls))) shape_is h)

-- what is made is the next tree, and near
seen : (t : TreeOfBlocks) (tags : List Tag) → IsBlockTree t → AreTags t tags → next_of t tags ≡ is_inner_of (tree_with t.shape (next_of t tags))
seen t tags kept_tree fit = sym (inner_test t.shape (next_of t tags) kept_tree.shape (next_least t tags kept_tree fit).one_of.tree)

pub value_least : (t : TreeOfBlocks) (tags : List Tag) → IsBlockTree t → AreTags t tags → (x : TreeOfBlocks) → x ≡ tree_with t.shape (next_of t tags) → IsNext t.shape (is_inner_of t) (tag_of t tags) (is_inner_of x)
value_least t tags kept_tree fit x is = subst (λ (v : TreeOfBlocks). IsNext t.shape (is_inner_of t) (tag_of t tags) (is_inner_of v)) (sym is)
    (subst (λ (p : Loc → Bool). IsNext t.shape (is_inner_of t) (tag_of t tags) p) (seen t tags kept_tree fit) (next_least t tags kept_tree fit))

pub value_near : (t : TreeOfBlocks) (tags : List Tag) → IsBlockTree t → AreTags t tags → (x : TreeOfBlocks) → x ≡ tree_with t.shape (next_of t tags) → IsNear t.shape (is_inner_of t) (is_inner_of x)
value_near t tags kept_tree fit x is = subst (λ (v : TreeOfBlocks). IsNear t.shape (is_inner_of t) (is_inner_of v)) (sym is)
    (subst (λ (p : Loc → Bool). IsNear t.shape (is_inner_of t) p) (seen t tags kept_tree fit)
    (next_is_near 9 t.shape (is_inner_of t) (tag_of t tags) (next_of t tags) kept_tree.shape kept_tree.tree kept_tree.balanced (tags_fit t tags kept_tree fit) (next_least t tags kept_tree fit)))

pub made : {A E : Type 0} (P : A → Type 0) (r : Result A E) (v : A) → ((x : A) → x ≡ v → P x) → IfOk r (λ x. x ≡ v) → IfOk r P
made P (Ok x) v h e = h x e
made P (Err x) v h e = tt

-- an inner node that is read
pub node_at : (t : TreeOfBlocks) (nodes : List Loc) (i : ℕ) (d : Loc) → IsBlockTree t → is_listed nodes ≡ is_inner_of t → i < length nodes → IsIn t.shape (slice_index_or nodes i d) × ((slice_index_or nodes i d).level < 10)
node_at t nodes i d kept_tree same less =
    let there = subst (λ (p : Loc → Bool). p (slice_index_or nodes i d) ≡ true) same (listed_read nodes i (slice_index_or nodes i d) (slice_get-get_or nodes i d less)) in
    (kept_tree.tree.inside (slice_index_or nodes i d) there, kept_tree.tree.above_finest (slice_index_or nodes i d) there)

-- the steps of the test whether all children merge
pub all_step : (p : ℕ → Bool) (all : Bool) (j n : ℕ) → j < n → list_all p (range_with_len j (n - j)) ≡ all → p j ≡ true → list_all p (range_with_len (j + 1) (n - (j + 1))) ≡ all
all_step p all j n less h pass =
    let e : n - j ≡ suc (n - (j + 1)) = omega arith in
    sym (ap (λ (v : Bool). v && list_all p (range_with_len (j + 1) (n - (j + 1)))) pass) ∙ sym (ap (λ v. list_all p (range_with_len j v)) e) ∙ h

pub all_fails : (p : ℕ → Bool) (all : Bool) (j n : ℕ) → j < n → list_all p (range_with_len j (n - j)) ≡ all → p j ≡ false → false ≡ all
all_fails p all j n less h fail =
    let e : n - j ≡ suc (n - (j + 1)) = omega arith in
    sym (ap (λ (v : Bool). v && list_all p (range_with_len (j + 1) (n - (j + 1)))) fail) ∙ sym (ap (λ v. list_all p (range_with_len j v)) e) ∙ h

pub all_end : (p : ℕ → Bool) (all : Bool) (j n : ℕ) → n ≤ j → list_all p (range_with_len j (n - j)) ≡ all → true ≡ all
all_end p all j n past h = let e : n - j ≡ 0 = omega arith in sym (ap (λ v. list_all p (range_with_len j v)) e) ∙ h
