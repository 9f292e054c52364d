-- Where the leaves of a next tree come from.
use Rattle.std.proofs.Common.{◌≡◌, ℕ, zero, suc, ◌+◌, ◌<◌, ◌≤◌, Bool, true, false, ◌&&◌, ◌||◌, not, Option, Some, None, List, IsSome, inl, inr, refl, sym, ap, ◌∙◌, subst, arith}
use Rattle.std.specs.List.{list_all, range_with_len}
use Rattle.std.proofs.lemmas.Bool.{and_parts, both_ways, cases_eq, false≢true}
use Rattle.morton_order.specs.declared.space.Loc.{Loc}
use Rattle.morton_order.specs.declared.space.Shape.{Shape}
use Rattle.morton_order.specs.Space.{IsIn, child, parent, parts}
use Rattle.package_fields.specs.Kernel.{Reacted}
use Rattle.problem_set.specs.declared.problem.Problem.{Problem}
use Rattle.problem_set.specs.SettingsOf.{settings_of}
use Rattle.block_tree.specs.declared.tags.Tag.{Tag}
use Rattle.block_tree.specs.Tree.{IsLeaf, ancestor, is_node}
use Rattle.block_tree.specs.Next.{FitTags, IsNear, is_merge, is_refine, merges, tag_at}
use Rattle.block_tree.proofs.Ancestors.{ancestor_inside, ancestor_level, ancestor_more, parent_node, root_node}
use Rattle.block_tree.proofs.Behinds.{fails}
use Rattle.mesh_rules.specs.Mesh.{is_inner}
use Rattle.mesh_rules.specs.Remesh.{finest_inner, next_tree}
use Rattle.mesh_rules.specs.Cycle.{State, tags_of}
use Rattle.mesh_rules.specs.Fit.{IsMeshOf}
use Rattle.run_laws.proofs.RunTrees.{next_least, tags_fit}

-- a tree follows an old one: an old inner node that is none now had leaves alone as children, and each leaf is near to the old ones
pub record Follows (s : Shape) (old next : Loc → Bool) : Type 0 where
  pub from_leaves : (l : Loc) → old l ≡ true → next l ≡ false → (j : ℕ) → j < parts s.dims → IsLeaf s old (child s.dims l j)
  pub near : IsNear s old next

-- a leaf was there, or its parent was a leaf, or all its children were
pub data CameFrom (s : Shape) (old : Loc → Bool) (l : Loc) : Type 0 where
  itself : IsLeaf s old l → CameFrom s old l
  its_parent : 1 ≤ l.level → is_node s old l ≡ false → IsLeaf s old (parent s.dims l) → CameFrom s old l
  its_children : old l ≡ true → ((j : ℕ) → j < parts s.dims → IsLeaf s old (child s.dims l j)) → CameFrom s old l

-- a location that is not inner lies in an old leaf
record LiesInLeaf (s : Shape) (old : Loc → Bool) (l : Loc) : Type 0 where
  up : ℕ
  enough : up ≤ l.level
  leaf : IsLeaf s old (ancestor s.dims up l)

leaf_over : (s : Shape) (old : Loc → Bool) (l : Loc) → IsIn s l → old l ≡ false → (k : ℕ) → k ≤ l.level → is_node s old (ancestor s.dims k l) ≡ true → LiesInLeaf s old l
leaf_over s old l inside outer zero few node = record { up = 0; enough = few; leaf = record { inside = inside; node = node; outer = both_ways (old l) outer } }
leaf_over s old l inside outer (suc k) few node = by (old (ancestor s.dims (suc k) l)) refl (λ above. leaf_over s old l inside outer k (omega arith) above)
  where
    by : (b : Bool) → old (ancestor s.dims (suc k) l) ≡ b → (is_node s old (ancestor s.dims k l) ≡ true → LiesInLeaf s old l) → LiesInLeaf s old l
    by true e below = below (parent_node s old (ancestor s.dims k l) (ap old (sym (ancestor_more s.dims k l)) ∙ e))
    by false e below = record { up = suc k; enough = few; leaf = record { inside = ancestor_inside s (suc k) l inside few; node = node; outer = both_ways (old (ancestor s.dims (suc k) l)) e } }

-- the root that a location lies in is a node
root_over : (s : Shape) (old : Loc → Bool) (l : Loc) → is_node s old (ancestor s.dims l.level l) ≡ true
root_over s old l = let up = ancestor_level s.dims l.level l (omega arith) in root_node s old (ancestor s.dims l.level l) (omega arith)

came_near : (s : Shape) (old : Loc → Bool) (l : Loc) → is_node s old l ≡ false → (up : ℕ) → up ≤ l.level → l.level ≤ (ancestor s.dims up l).level + 1 → IsLeaf s old (ancestor s.dims up l) → CameFrom s old l
came_near s old l none zero enough close leaf = absurd (both_ways (is_node s old l) none leaf.node)
came_near s old l none (suc zero) enough close leaf = its_parent enough none leaf
came_near s old l none (suc (suc up)) enough close leaf = let e = ancestor_level s.dims (suc (suc up)) l enough in absurd (omega arith)

pub came_from : (s : Shape) (old next : Loc → Bool) → Follows s old next → (l : Loc) → IsLeaf s next l → CameFrom s old l
came_from s old next follows l leaf = by (old l) (is_node s old l) refl refl
  where
    by : (inner node : Bool) → old l ≡ inner → is_node s old l ≡ node → CameFrom s old l
    by true node e n = its_children e (follows.from_leaves l e (fails (next l) leaf.outer))
    by false true e n = itself (record { inside = leaf.inside; node = n; outer = both_ways (old l) e })
    by false false e n =
        let over = leaf_over s old l leaf.inside e l.level (omega arith) (root_over s old l) in
        came_near s old l n over.up over.enough (follows.near.finer (ancestor s.dims over.up l) l over.leaf leaf (record { levels = over.up; enough = over.enough; is = refl })) over.leaf

-- an inner node that is not wanted merges, and a leaf that may merge has a tag
unwanted : (inner merging refined : Bool) → inner ≡ true → ((inner && not merging || refined) ≡ true → ⊥) → merging ≡ true
unwanted true true refined h k = refl
unwanted true false refined h k = absurd (k refl)
unwanted false merging refined h k = absurd (false≢true h)

merge_some : (t : Option Tag) → is_merge t ≡ true → IsSome t
merge_some None h = absurd (false≢true h)
merge_some (Some t) h = refl

-- each number of a range passes
all_pass : (p : ℕ → Bool) (a n j : ℕ) → list_all p (range_with_len a n) ≡ true → a ≤ j → j < a + n → p j ≡ true
all_pass p a zero j h low high = absurd (omega arith)
all_pass p a (suc n) j h low high = let b = and_parts (p a) (list_all p (range_with_len (a + 1) n)) h in
    elim (cases_eq a j) [ inl e ↦ subst (λ k. p k ≡ true) e b.0 | inr d ↦ all_pass p (a + 1) n j b.1 (omega arith) (omega arith) ]

-- the next tree of a cycle follows the tree of the cycle
pub next_follows : (p : Problem) (react : List ℕ → Reacted) (s : State) → IsMeshOf (settings_of p) s.mesh → Follows p.shape (is_inner s.mesh) (next_tree (settings_of p) s.mesh (tags_of (settings_of p) react s))
next_follows p react s of =
    let q = settings_of p in
    let old = is_inner s.mesh in
    let tag = tag_at s.mesh.leaves (tags_of q react s) in
    let next = next_least p react s of in
    let fit = subst (λ (sh : Shape). FitTags (finest_inner q) sh old tag) of.shape (tags_fit p react s of) in
    record {
      from_leaves = λ l inner out j few.
          let all = unwanted (old l) (merges p.shape.dims tag l) (is_refine (tag l)) inner (λ w. false≢true (sym out ∙ next.least.one_of.holds l w)) in
          let one = all_pass (λ i. is_merge (tag (child p.shape.dims l i))) 0 (parts p.shape.dims) j all (omega arith) (omega arith) in
          fit.on_leaf (child p.shape.dims l j) (merge_some (tag (child p.shape.dims l j)) one);
      near = next.near;
    }
