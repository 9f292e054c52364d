-- The next tree is the least one that is wanted, and near the old one.
use Rattle.std.proofs.Common.{◌≡◌, ◌⊎◌, inl, inr, ℕ, zero, suc, ◌+◌, ◌<◌, ◌≤◌, Bool, true, false, ◌&&◌, ◌||◌, not, nat_lt, Option, Some, None, List, [], ◌∷◌, All, IsSome, refl, arith, subst}
use Rattle.std.specs.List.{list_all, list_any, range_with_len}
use Rattle.std.proofs.lemmas.Bool.{and_parts, cases_eq, false≢true, ltb-true}
use Rattle.morton_order.specs.declared.space.Loc.{Loc}
use Rattle.morton_order.specs.declared.space.Shape.{Shape}
use Rattle.morton_order.specs.Space.{child, is_inside, parts}
use Rattle.morton_order.proofs.Any.{or_cases}
use Rattle.morton_order.proofs.Family.{inside-is}
use Rattle.block_tree.specs.declared.boxes.StaticBox.{StaticBox}
use Rattle.block_tree.specs.declared.tags.Tag.{Tag}
use Rattle.block_tree.specs.Tree.{IsBalanced, IsTree}
use Rattle.block_tree.specs.Least.{MayBeWanted, OpeningIsLeast, meets, wanted_by}
use Rattle.block_tree.specs.Change.{IsChange}
use Rattle.block_tree.specs.Next.{FitTags, NextIsLeast, NextIsNear, is_merge, is_refine, merges, wanted_next}
use Rattle.block_tree.proofs.Changes.{changes_by_one_level}
use Rattle.block_tree.proofs.Forced.{least_is_least}

-- a leaf that is to be refined has a tag, and so has one that may merge
refine_some : (t : Option Tag) → is_refine t ≡ true → IsSome t
refine_some None h = absurd (false≢true h)
refine_some (Some t) h = refl

merge_some : (t : Option Tag) → is_merge t ≡ true → IsSome t
merge_some None h = absurd (false≢true h)
merge_some (Some t) h = refl

-- what is wanted is an old inner node or a leaf to be refined
wanted_ways : (dims : ℕ) (old : Loc → Bool) (tag : Loc → Option Tag) (l : Loc) → wanted_next dims old tag l ≡ true → (old l ≡ true) ⊎ (is_refine (tag l) ≡ true)
wanted_ways dims old tag l h = elim (or_cases (old l && not (merges dims tag l)) (is_refine (tag l)) h) [
  | inl kept ↦ inl (and_parts (old l) (not (merges dims tag l)) kept).0
  | inr refined ↦ inr refined
]

may : (finest : ℕ) (s : Shape) (old : Loc → Bool) (tag : Loc → Option Tag) → IsTree s old → FitTags finest s old tag → MayBeWanted finest s (wanted_next s.dims old tag)
may finest s old tag tree fit l h = elim (wanted_ways s.dims old tag l h) [
  | inl inner ↦ (tree.inside l inner, fit.inner l inner)
  | inr refined ↦ ((fit.on_leaf l (refine_some (tag l) refined)).inside, fit.refined l refined)
]

-- each number of a range passes
pub all_pass : (p : ℕ → Bool) (a n j : ℕ) → list_all p (range_with_len a n) ≡ true → a ≤ j → j < a + n → p j ≡ true
all_pass p a zero j h low high = absurd (omega arith)
all_pass p a (suc n) j h low high = let b = and_parts (p a) (list_all p (range_with_len (a + 1) n)) h in
    elim (cases_eq a j) [ inl e ↦ subst (λ k. p k ≡ true) e b.0 | inr d ↦ all_pass p (a + 1) n j b.1 (omega arith) (omega arith) ]

-- an inner node that is not wanted merges
unwanted : (inner merging refined : Bool) → inner ≡ true → ((inner && not merging || refined) ≡ true → ⊥) → merging ≡ true
unwanted true true refined h k = refl
unwanted true false refined h k = absurd (k refl)
unwanted false merging refined h k = absurd (false≢true h)

change : (finest : ℕ) (s : Shape) (old : Loc → Bool) (tag : Loc → Option Tag) → IsTree s old → IsBalanced s old → FitTags finest s old tag → IsChange s old (wanted_next s.dims old tag)
change finest s old tag tree balanced fit = record {
  tree = tree;
  balanced = balanced;
  of_old = λ l h. elim (wanted_ways s.dims old tag l h) [ inl inner ↦ inl inner | inr refined ↦ inr (fit.on_leaf l (refine_some (tag l) refined)) ];
  merged = λ l inner out j few.
      let all = unwanted (old l) (merges s.dims tag l) (is_refine (tag l)) inner out in
      let one = all_pass (λ i. is_merge (tag (child s.dims l i))) 0 (parts s.dims) j all (omega arith) (omega arith) in
      fit.on_leaf (child s.dims l j) (merge_some (tag (child s.dims l j)) one);
}

pub next_is_least : NextIsLeast
next_is_least finest s old tag shape few tree fit = least_is_least finest s (wanted_next s.dims old tag) shape few (may finest s old tag tree fit)

pub next_is_near : NextIsNear
next_is_near finest s old tag next shape tree balanced fit is =
    let by = changes_by_one_level s old (wanted_next s.dims old tag) next shape (change finest s old tag tree balanced fit) is in
    record {
      finer = λ before after leaf new. (by before after leaf new).0;
      coarser = λ before after leaf new. (by before after leaf new).1;
    }

-- where some box asks for more than a level, that level is at most the finest
pub coarse_of_boxes : (finest : ℕ) (s : Shape) (cells : List ℕ) (boxes : List StaticBox) (l : Loc) → All (λ (b : StaticBox). b.level ≤ finest + 1) boxes → list_any (λ (b : StaticBox). nat_lt l.level b.level && meets s cells b l) boxes ≡ true → l.level ≤ finest
coarse_of_boxes finest s cells [] l few h = absurd (false≢true h)
coarse_of_boxes finest s cells (b ∷ bs) l few h = elim (or_cases (nat_lt l.level b.level && meets s cells b l) (list_any (λ (b : StaticBox). nat_lt l.level b.level && meets s cells b l) bs) h) [
  | inl here ↦ let less = ltb-true l.level b.level (and_parts (nat_lt l.level b.level) (meets s cells b l) here).0 in let most : b.level ≤ finest + 1 = few 0 b (omega arith) in omega arith
  | inr later ↦ coarse_of_boxes finest s cells bs l (λ k d h. few (suc k) d (omega arith)) later
]

pub opening_is_least : OpeningIsLeast
opening_is_least finest s cells boxes shape few levels = least_is_least finest s (wanted_by s cells boxes) shape few (λ l h.
    let parts = and_parts (list_any (λ (b : StaticBox). nat_lt l.level b.level && meets s cells b l) boxes) (is_inside s l) h in
    (inside-is s l parts.1, coarse_of_boxes finest s cells boxes l levels parts.0))
