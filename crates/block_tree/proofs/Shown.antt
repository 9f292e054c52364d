-- The table tells what is behind each side.
use Rattle.std.proofs.Common.{◌≡◌, ℕ, zero, suc, ◌/◌, ◌<◌, ◌≤◌, Bool, true, false, cond, not, ◌||◌, ◌==◌, nat_lt, List, [], ◌∷◌, Option, Some, None, map, take, length, refl, arith, ap, subst, sym, ◌∙◌}
use Rattle.std.specs.List.{Contains, slice_get}
use Rattle.std.specs.Option.{option_map, option_and_then}
use Rattle.std.proofs.lemmas.Bool.{false≢true, lt-ltb}
use Rattle.std.proofs.lemmas.Option.{slice_get-map}
use Rattle.std.proofs.lemmas.List.{length-map}
use Rattle.morton_order.specs.declared.space.Loc.{Loc}
use Rattle.morton_order.specs.declared.space.Shape.{Shape}
use Rattle.morton_order.specs.Space.{IsShape, child, parent, parts}
use Rattle.morton_order.specs.Neighbours.{across}
use Rattle.morton_order.proofs.Any.{or_right}
use Rattle.block_tree.specs.declared.neighbour.Behind.{Behind as Answer}
use Rattle.block_tree.specs.declared.neighbour.Behind.TheVariants as answer
use Rattle.block_tree.specs.declared.table.Entry.{Entry}
use Rattle.block_tree.specs.declared.table.Entry.TheVariants as entries
use Rattle.block_tree.specs.declared.table.Sides.{Sides}
use Rattle.block_tree.specs.Tree.{IsBalanced, IsLeaf, IsTree, is_listed, is_node}
use Rattle.block_tree.specs.Leaves.{inner_of, leaves_of}
use Rattle.block_tree.specs.Behind.{Behind, Names, behind, behind_at, children_at, coarse, fine, same}
use Rattle.block_tree.specs.Blocks.{IsBlockTree, TreeOfBlocks, leaves, tree_with, is_inner_of}
use Rattle.block_tree.specs.Nodes.{number_in}
use Rattle.block_tree.specs.Numbered.{numbered, numbers_in}
use Rattle.block_tree.specs.Table.{IsKept, answer_of, entry_at, entry_in, entry_of, entry_of_numbered, or_zero, quartet_of, side_child, sides_of}
use Rattle.block_tree.proofs.Behinds.{behind_is_exact}
use Rattle.block_tree.proofs.InnerList.{inner_test}
use Rattle.block_tree.proofs.KeyOrder.{leaves_law}
use Rattle.block_tree.proofs.Numbers.{listed_number, unlisted_number}
use Rattle.block_tree.proofs.Worklist.{listed_read}

-- the children at a side, one by one
quartet_list : (dims axis : ℕ) (high : Bool) (g : ℕ → ℕ) → 1 ≤ dims → dims ≤ 3 → axis < dims →
    map g (children_at dims axis high) ≡ take (parts dims / 2) (cond (nat_lt 0 (parts dims / 2)) (g (side_child axis high 0)) 0 ∷ cond (nat_lt 1 (parts dims / 2)) (g (side_child axis high 1)) 0 ∷ cond (nat_lt 2 (parts dims / 2)) (g (side_child axis high 2)) 0 ∷ cond (nat_lt 3 (parts dims / 2)) (g (side_child axis high 3)) 0 ∷ [])
quartet_list zero axis high g some few less = absurd (omega arith)
quartet_list (suc zero) zero true g some few less = refl
quartet_list (suc zero) zero false g some few less = refl
quartet_list (suc zero) (suc a) high g some few less = absurd (omega arith)
quartet_list (suc (suc zero)) zero true g some few less = refl
quartet_list (suc (suc zero)) zero false g some few less = refl
quartet_list (suc (suc zero)) (suc zero) true g some few less = refl
quartet_list (suc (suc zero)) (suc zero) false g some few less = refl
quartet_list (suc (suc zero)) (suc (suc a)) high g some few less = absurd (omega arith)
quartet_list (suc (suc (suc zero))) zero true g some few less = refl
quartet_list (suc (suc (suc zero))) zero false g some few less = refl
quartet_list (suc (suc (suc zero))) (suc zero) true g some few less = refl
quartet_list (suc (suc (suc zero))) (suc zero) false g some few less = refl
quartet_list (suc (suc (suc zero))) (suc (suc zero)) true g some few less = refl
quartet_list (suc (suc (suc zero))) (suc (suc zero)) false g some few less = refl
quartet_list (suc (suc (suc zero))) (suc (suc (suc a))) high g some few less = absurd (omega arith)
quartet_list (suc (suc (suc (suc d)))) axis high g some few less = absurd (omega arith)

-- the numbers of listed locations
numbers_of : (leaves os : List Loc) → ((m : Loc) → Contains os m → is_listed leaves m ≡ true) → numbers_in leaves os ≡ Some (map (λ o. or_zero (number_in leaves o)) os)
numbers_of leaves [] each = refl
numbers_of leaves (o ∷ os) each =
    ap (λ (v : Option ℕ). option_and_then (λ n. option_map (λ (ns : List ℕ). n ∷ ns) (numbers_in leaves os)) v) (listed_number leaves o (each o (0, omega arith, refl)))
    ∙ ap (λ (v : Option (List ℕ)). option_map (λ (ns : List ℕ). or_zero (number_in leaves o) ∷ ns) v) (numbers_of leaves os (λ m (k, less, is). each m (suc k, omega arith, is)))

map_twice : {X Y : Type 0} (f : Y → ℕ) (g : X → Y) (xs : List X) → map f (map g xs) ≡ map (λ x. f (g x)) xs
map_twice f g [] = refl
map_twice f g (x ∷ xs) = ap (λ v. f (g x) ∷ v) (map_twice f g xs)

-- what stands behind, by whether the location across is inner, and whether it is a node
abbrev behind_by : Shape → Loc → ℕ → Bool → Bool → Bool → Behind
behind_by s o axis high b c = cond b (fine (map (child s.dims o) (children_at s.dims axis (not high)))) (cond c (same o) (coarse (parent s.dims o)))

first_false : (a b : Bool) → (a || b) ≡ false → a ≡ false
first_false true b h = h
first_false false b h = refl

not_listed : (leaves : List Loc) (o : Loc) → (is_listed leaves o ≡ true → ⊥) → is_listed leaves o ≡ false
not_listed leaves o never = by (is_listed leaves o) refl
  where
    by : (b : Bool) → is_listed leaves o ≡ b → b ≡ false
    by true e = absurd (never e)
    by false e = refl

-- an entry shows what stands behind, where all that is named is listed and only leaves are
shown_by : (s : Shape) (nodes leaves : List Loc) (o : Loc) (axis : ℕ) (high : Bool) → IsShape s → axis < s.dims →
    ((m : Loc) → is_listed leaves m ≡ true → IsLeaf s (is_listed nodes) m) → (b c : Bool) → is_listed nodes o ≡ b → is_node s (is_listed nodes) o ≡ c →
    ((m : Loc) → Names (behind_by s o axis high b c) m → is_listed leaves m ≡ true) →
    numbered leaves (behind_by s o axis high b c) ≡ Some (answer_of s.dims (entry_of_numbered nodes leaves s o axis high (number_in leaves o)))
shown_by s nodes leaves o axis high shape used only true c e f named =
    let list = numbers_of leaves (map (child s.dims o) (children_at s.dims axis (not high))) named
    ∙ ap Some (map_twice (λ v. or_zero (number_in leaves v)) (child s.dims o) (children_at s.dims axis (not high)) ∙ quartet_list s.dims axis (not high) (λ j. or_zero (number_in leaves (child s.dims o j))) shape.least shape.most used) in
    let none = unlisted_number leaves o (not_listed leaves o (λ h. (only o h).outer e)) in
    ap (option_map answer.Fine) list
    ∙ sym (ap (λ (v : Option ℕ). Some (answer_of s.dims (entry_of_numbered nodes leaves s o axis high v))) none
    ∙ ap (λ (b : Bool). Some (answer_of s.dims (cond b (entries.Fine (quartet_of leaves s.dims o axis (not high))) (entries.Coarse (or_zero (number_in leaves (parent s.dims o))))))) (or_right (o.level == 0) (is_listed nodes o) e))
shown_by s nodes leaves o axis high shape used only false true e f named =
    let there = listed_number leaves o (named o refl) in
    ap (option_map answer.Same) there
    ∙ sym (ap (λ (v : Option ℕ). Some (answer_of s.dims (entry_of_numbered nodes leaves s o axis high v))) there)
shown_by s nodes leaves o axis high shape used only false false e f named =
    let there = listed_number leaves (parent s.dims o) (named (parent s.dims o) refl) in
    let none = unlisted_number leaves o (not_listed leaves o (λ h. false≢true (sym f ∙ (only o h).node))) in
    let off : (o.level == 0 || is_listed nodes o) ≡ false = ap (λ (v : Bool). v || is_listed nodes o) (first_false (o.level == 0) (is_listed nodes (parent s.dims o)) f) ∙ e in
    ap (option_map answer.Coarse) there
    ∙ sym (ap (λ (v : Option ℕ). Some (answer_of s.dims (entry_of_numbered nodes leaves s o axis high v))) none
    ∙ ap (λ (b : Bool). Some (answer_of s.dims (cond b (entries.Fine (quartet_of leaves s.dims o axis (not high))) (entries.Coarse (or_zero (number_in leaves (parent s.dims o))))))) off)

shown_at : (s : Shape) (nodes leaves : List Loc) (axis : ℕ) (high : Bool) → IsShape s → axis < s.dims →
    ((m : Loc) → is_listed leaves m ≡ true → IsLeaf s (is_listed nodes) m) → (a : Option Loc) →
    ((m : Loc) → Names (behind_at s (is_listed nodes) axis high a) m → is_listed leaves m ≡ true) →
    numbered leaves (behind_at s (is_listed nodes) axis high a) ≡ Some (answer_of s.dims (entry_at nodes leaves s axis high a))
shown_at s nodes leaves axis high shape used only None named = refl
shown_at s nodes leaves axis high shape used only (Some o) named = shown_by s nodes leaves o axis high shape used only (is_listed nodes o) (is_node s (is_listed nodes) o) refl refl named

-- a leaf that is read from a tree
leaf_read : (s : Shape) (nodes leaves : List Loc) (table : List Sides) → IsKept s nodes leaves table → (m : Loc) → is_listed leaves m ≡ true → IsLeaf s (is_listed nodes) m
leaf_read s nodes leaves table kept m h = ((leaves_law s (is_listed nodes) kept.shape kept.tree).leaves m).0 (subst (λ (v : List Loc). is_listed v m ≡ true) kept.leaves_are h)

entry_shows : (s : Shape) (nodes leaves : List Loc) (table : List Sides) → IsKept s nodes leaves table → (l : Loc) (axis : ℕ) (high : Bool) → is_listed leaves l ≡ true → axis < s.dims →
    numbered leaves (behind s (is_listed nodes) l axis high) ≡ Some (answer_of s.dims (entry_of nodes leaves s l axis high))
entry_shows s nodes leaves table kept l axis high there used =
    let t : Loc → Bool = is_listed nodes in
    let law = leaves_law s t kept.shape kept.tree in
    shown_at s nodes leaves axis high kept.shape used (leaf_read s nodes leaves table kept) (across s l axis high)
    (λ m n. subst (λ (v : List Loc). is_listed v m ≡ true) (sym kept.leaves_are) ((law.leaves m).1 ((behind_is_exact s t kept.shape kept.tree kept.balanced l m axis high (leaf_read s nodes leaves table kept l there) used).0 n).0))
    ∙ sym (ap (λ (b : Bool). Some (answer_of s.dims (cond b (entry_at nodes leaves s axis high (across s l axis high)) entries.Outside))) (lt-ltb axis s.dims used))

-- a row holds the entries of its leaf
row_entry : (nodes leaves : List Loc) (s : Shape) (l : Loc) (axis : ℕ) (high : Bool) → axis < 3 → entry_in (sides_of nodes leaves s l) axis high ≡ entry_of nodes leaves s l axis high
row_entry nodes leaves s l zero true less = refl
row_entry nodes leaves s l zero false less = refl
row_entry nodes leaves s l (suc zero) true less = refl
row_entry nodes leaves s l (suc zero) false less = refl
row_entry nodes leaves s l (suc (suc zero)) true less = refl
row_entry nodes leaves s l (suc (suc zero)) false less = refl
row_entry nodes leaves s l (suc (suc (suc a))) high less = absurd (omega arith)

-- what contracts see of a tree
pub same_inner : (s : Shape) (nodes leaves : List Loc) (table : List Sides) → IsKept s nodes leaves table → is_listed (inner_of s (is_listed nodes)) ≡ is_listed nodes
same_inner s nodes leaves table kept = inner_test s (is_listed nodes) kept.shape kept.tree

pub leaves_seen : (s : Shape) (nodes ls : List Loc) (table : List Sides) → IsKept s nodes ls table → leaves (tree_with s (is_listed nodes)) ≡ ls
leaves_seen s nodes ls table kept = ap (leaves_of s) (same_inner s nodes ls table kept) ∙ sym kept.leaves_are

pub tree_seen : (s : Shape) (nodes ls : List Loc) (table : List Sides) → IsKept s nodes ls table → IsBlockTree (tree_with s (is_listed nodes))
tree_seen s nodes ls table kept = let e = same_inner s nodes ls table kept in record {
  shape = kept.shape;
  tree = subst (λ (p : Loc → Bool). IsTree s p) (sym e) kept.tree;
  balanced = subst (λ (p : Loc → Bool). IsBalanced s p) (sym e) kept.balanced;
  order = sym (ap (inner_of s) e);
  few = subst (λ (v : List Loc). length v ≤ 65536) (sym (leaves_seen s nodes ls table kept)) kept.few;
}

-- the answer for a side of a leaf
pub answer_shows : (s : Shape) (nodes ls : List Loc) (table : List Sides) → IsKept s nodes ls table → (l : Loc) (row : Sides) (leaf axis : ℕ) (high : Bool) →
    slice_get (leaves (tree_with s (is_listed nodes))) leaf ≡ Some l → slice_get table leaf ≡ Some row → axis < s.dims →
    numbered (leaves (tree_with s (is_listed nodes))) (behind s (is_inner_of (tree_with s (is_listed nodes))) l axis high) ≡ Some (answer_of s.dims (entry_in row axis high))
answer_shows s nodes ls table kept l row leaf axis high at read used =
    let most = kept.shape.most in
    let seen = leaves_seen s nodes ls table kept in
    let here : slice_get ls leaf ≡ Some l = sym (ap (λ (v : List Loc). slice_get v leaf) seen) ∙ at in
    let is : row ≡ sides_of nodes ls s l = some_is row (sides_of nodes ls s l) (sym read ∙ ap (λ (v : List Sides). slice_get v leaf) kept.table_is ∙ slice_get-map (sides_of nodes ls s) ls leaf ∙ ap (option_map (sides_of nodes ls s)) here) in
    ap (λ (v : List Loc). numbered v (behind s (is_inner_of (tree_with s (is_listed nodes))) l axis high)) seen
    ∙ ap (λ (p : Loc → Bool). numbered ls (behind s p l axis high)) (same_inner s nodes ls table kept)
    ∙ entry_shows s nodes ls table kept l axis high (listed_read ls leaf l here) used
    ∙ sym (ap (λ (v : Sides). Some (answer_of s.dims (entry_in v axis high))) is ∙ ap (λ (v : Entry). Some (answer_of s.dims v)) (row_entry nodes ls s l axis high (omega arith)))
  where
    some_is : (a b : Sides) → Some a ≡ Some b → a ≡ b
    some_is a b h = cc

-- the same of a tree that shows what is kept
pub leaves_now : (v : TreeOfBlocks) (s : Shape) (nodes ls : List Loc) (table : List Sides) → v ≡ tree_with s (is_listed nodes) → IsKept s nodes ls table → ls ≡ leaves v
leaves_now v s nodes ls table is kept = sym (ap leaves is ∙ leaves_seen s nodes ls table kept)

pub inner_now : (v : TreeOfBlocks) (s : Shape) (nodes ls : List Loc) (table : List Sides) → v ≡ tree_with s (is_listed nodes) → IsKept s nodes ls table → is_listed nodes ≡ is_inner_of v
inner_now v s nodes ls table is kept = sym (ap is_inner_of is ∙ same_inner s nodes ls table kept)

pub tree_now : (v : TreeOfBlocks) (s : Shape) (nodes ls : List Loc) (table : List Sides) → v ≡ tree_with s (is_listed nodes) → IsKept s nodes ls table → IsBlockTree v
tree_now v s nodes ls table is kept = subst (λ (w : TreeOfBlocks). IsBlockTree w) (sym is) (tree_seen s nodes ls table kept)

pub answer_now : (v : TreeOfBlocks) (s : Shape) (nodes ls : List Loc) (table : List Sides) → v ≡ tree_with s (is_listed nodes) → IsKept s nodes ls table → (leaf axis : ℕ) (high : Bool) (row : Sides) (entry : Entry) (result : Answer) →
    slice_get table leaf ≡ Some row → entry ≡ entry_in row axis high → result ≡ answer_of s.dims entry → axis < v.shape.dims →
    (l : Loc) → slice_get (leaves v) leaf ≡ Some l → numbered (leaves v) (behind v.shape (is_inner_of v) l axis high) ≡ Some result
answer_now v s nodes ls table is kept leaf axis high row entry result read entry_is result_is used l at =
    subst (λ (w : TreeOfBlocks). numbered (leaves w) (behind w.shape (is_inner_of w) l axis high) ≡ Some result) (sym is)
    (answer_shows s nodes ls table kept l row leaf axis high (subst (λ (w : TreeOfBlocks). slice_get (leaves w) leaf ≡ Some l) is at) read (subst (λ (w : TreeOfBlocks). axis < w.shape.dims) is used)
    ∙ sym (ap (λ (w : Answer). Some w) (result_is ∙ ap (answer_of s.dims) entry_is)))

pub table_long : (v : TreeOfBlocks) (s : Shape) (nodes ls : List Loc) (table : List Sides) → v ≡ tree_with s (is_listed nodes) → IsKept s nodes ls table → (leaf : ℕ) → leaf < length (leaves v) → leaf < length table
table_long v s nodes ls table is kept leaf less =
    let e : length table ≡ length (leaves v) = ap length kept.table_is ∙ length-map ls (sides_of nodes ls s) ∙ ap length (leaves_now v s nodes ls table is kept) in
    subst (λ n. leaf < n) (sym e) less
