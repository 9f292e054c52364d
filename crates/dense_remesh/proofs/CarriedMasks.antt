-- What is kept on the leaves of a next tree.
use Rattle.std.proofs.Common.{◌≡◌, ℕ, zero, suc, ◌+◌, ◌<◌, ◌≤◌, Bool, true, false, cond, eqb, not, ◌&&◌, ◌||◌, Option, Some, None, List, [], length, map, refl, arith, ap, sym, ◌∙◌}
use Rattle.std.specs.List.{enumerate_from, list_any, position_or_len, range_with_len, slice_index_or}
use Rattle.std.proofs.Math.Path.{fun_ext}
use Rattle.std.proofs.lemmas.List.{get_or-map, length-map}
use Rattle.std.proofs.lemmas.List.FromFn.{get_or-enumerate_from, length-enumerate_from}
use Rattle.morton_order.specs.declared.space.Loc.{Loc}
use Rattle.morton_order.specs.declared.space.Shape.{Shape}
use Rattle.morton_order.specs.Space.{child, parent, parts, same_loc}
use Rattle.morton_order.proofs.Family.{parent-child}
use Rattle.block_tree.specs.Tree.{is_listed}
use Rattle.block_tree.specs.Blocks.{IsBlockTree, TreeOfBlocks, leaves}
use Rattle.block_tree.specs.Nodes.{number_in}
use Rattle.block_tree.proofs.Ancestors.{node_parent}
use Rattle.block_tree.proofs.Behinds.{fails}
use Rattle.block_tree.proofs.LeafList.{listed_leaf}
use Rattle.block_tree.proofs.Numbers.{number_below, number_is, unlisted_number}
use Rattle.problem_set.specs.Settings.{Settings}
use Rattle.mesh_rules.specs.Sums.{table}
use Rattle.mesh_rules.specs.Mesh.{Mesh, leaf_number}
use Rattle.mesh_rules.specs.Fields.{field_count}
use Rattle.mesh_rules.specs.Mask as mask
use Rattle.mesh_rules.specs.Mask.{Mask, carried_mask, inherits, is_kept, parent_kept}
use Rattle.dense_mesh.specs.declared.totals.Slot.{Slot}
use Rattle.dense_mesh.specs.Masks.{AreSlots, mask_of, slot_in, slot_of}
use Rattle.dense_mesh.proofs.Tables.{table_at, table_by, table_same}
use Rattle.dense_remesh.specs.declared.origins.Origin.{Origin}
use Rattle.dense_remesh.specs.declared.origins.Origin.TheVariants.{Leaf, Parent, Children}
use Rattle.dense_remesh.specs.Origins.{AreOrigins, IsOrigin, parent_number}
use Rattle.dense_remesh.specs.Slots.{carried_slot, keeps}
use Rattle.dense_remesh.proofs.LeafLists.{number_says}
use Rattle.dense_remesh.proofs.Numbers.{none_pass}
use Rattle.dense_remesh.proofs.Taken.{parent_says}

-- slots on the leaves of a tree, and a mesh on it
pub record AreSlotsOf (t : TreeOfBlocks) (m : Mesh) (count : ℕ) (slots : List (List Slot)) : Type 0 where
  pub tree : IsBlockTree t
  pub shape : m.shape ≡ t.shape
  pub leaves_are : m.leaves ≡ leaves t
  pub slots_are : AreSlots count (length (leaves t)) slots

-- the slots of a field
abbrev field_slots : List (List Slot) → ℕ → List Slot
field_slots slots f = slice_index_or slots f []

-- a slot of the mask
mask_slot : (places : ℕ) (slots : List (List Slot)) (x f : ℕ) → x < places → f < length slots → mask.slot_at (mask_of places slots) x f ≡ slot_of (slot_in slots f x)
mask_slot places slots x f small some =
    ap (λ (v : List mask.Slot). slice_index_or v f mask.absent) (table_at places (λ leaf. table (length slots) (λ g. slot_of (slot_in slots g leaf))) x [] small)
    ∙ table_at (length slots) (λ g. slot_of (slot_in slots g x)) f mask.absent some

-- whether a field is kept on an old leaf
kept_by : (places : ℕ) (slots : List (List Slot)) (place f : ℕ) (b : Bool) → (b ≡ true → place < places) → f < length slots →
    (b && (mask.slot_at (mask_of places slots) place f).kept) ≡ keeps (field_slots slots f) (cond b (Some place) None)
kept_by places slots place f true small some = ap (λ (s : mask.Slot). s.kept) (mask_slot places slots place f (small refl) some)
kept_by places slots place f false small some = refl

listed_below : (xs : List Loc) (c : Loc) → is_listed xs c ≡ true → position_or_len (same_loc c) xs < length xs
listed_below xs c h = number_below xs c (position_or_len (same_loc c) xs) (number_is xs c ∙ ap (λ (b : Bool). cond b (Some (position_or_len (same_loc c) xs)) None) h)

kept_is : (t : TreeOfBlocks) (m : Mesh) (count : ℕ) (slots : List (List Slot)) → AreSlotsOf t m count slots → (f : ℕ) → f < count → (c : Loc) →
    is_kept m (mask_of (length (leaves t)) slots) f c ≡ keeps (field_slots slots f) (number_in (leaves t) c)
kept_is t m count slots of f some c =
    let old : List Loc = leaves t in
    let all : Mask = mask_of (length old) slots in
    ap (λ (xs : List Loc). is_listed xs c && (mask.slot_at all (position_or_len (same_loc c) xs) f).kept) of.leaves_are
    ∙ kept_by (length old) slots (position_or_len (same_loc c) old) f (is_listed old c) (listed_below old c) (omega (arith, of.slots_are.fields))
    ∙ ap (keeps (field_slots slots f)) (sym (number_is old c))

-- whether it is kept on the parent
parent_by : (slots : List Slot) (b kept : Bool) (n : Option ℕ) → kept ≡ keeps slots n → (not b && kept) ≡ keeps slots (cond b None n)
parent_by slots true kept n e = refl
parent_by slots false kept n e = e

parent_is : (t : TreeOfBlocks) (m : Mesh) (count : ℕ) (slots : List (List Slot)) → AreSlotsOf t m count slots → (f : ℕ) → f < count → (l : Loc) →
    parent_kept m (mask_of (length (leaves t)) slots) f l ≡ keeps (field_slots slots f) (parent_number t l)
parent_is t m count slots of f some l =
    ap (λ (s : Shape). not (eqb l.level 0) && is_kept m (mask_of (length (leaves t)) slots) f (parent s.dims l)) of.shape
    ∙ parent_by (field_slots slots f) (eqb l.level 0) (is_kept m (mask_of (length (leaves t)) slots) f (parent t.shape.dims l)) (number_in (leaves t) (parent t.shape.dims l)) (kept_is t m count slots of f some (parent t.shape.dims l))

-- whether a new leaf keeps it
inherits_is : (t : TreeOfBlocks) (m : Mesh) (count : ℕ) (slots : List (List Slot)) → AreSlotsOf t m count slots → (f : ℕ) → f < count → (l : Loc) →
    inherits m (mask_of (length (leaves t)) slots) f l ≡ (keeps (field_slots slots f) (parent_number t l) || list_any (λ j. keeps (field_slots slots f) (number_in (leaves t) (child t.shape.dims l j))) (range_with_len 0 (parts t.shape.dims)))
inherits_is t m count slots of f some l =
    let all : Mask = mask_of (length (leaves t)) slots in
    ap (λ (b : Bool). b || list_any (λ j. is_kept m all f (child m.shape.dims l j)) (range_with_len 0 (parts m.shape.dims))) (parent_is t m count slots of f some l)
    ∙ ap (λ (s : Shape). keeps (field_slots slots f) (parent_number t l) || list_any (λ j. is_kept m all f (child s.dims l j)) (range_with_len 0 (parts s.dims))) of.shape
    ∙ ap (λ (p : ℕ → Bool). keeps (field_slots slots f) (parent_number t l) || list_any p (range_with_len 0 (parts t.shape.dims))) (fun_ext (λ j. kept_is t m count slots of f some (child t.shape.dims l j)))

-- below a leaf there is no other
none_below : (t : TreeOfBlocks) → IsBlockTree t → (l : Loc) (x : ℕ) → 1 ≤ l.level → number_in (leaves t) (parent t.shape.dims l) ≡ Some x → (j : ℕ) → number_in (leaves t) (child t.shape.dims l j) ≡ None
none_below t kept l x deep h j =
    let above = listed_leaf t.shape (is_listed t.inner) kept.tree (parent t.shape.dims l) (number_says (leaves t) (parent t.shape.dims l) x h).listed in
    unlisted_number (leaves t) (child t.shape.dims l j) (fails (is_listed (leaves t) (child t.shape.dims l j)) (λ e.
    let leaf = listed_leaf t.shape (is_listed t.inner) kept.tree (child t.shape.dims l j) e in
    let some : 1 ≤ (child t.shape.dims l j).level = omega arith in
    let inner : is_listed t.inner l ≡ true = ap (is_listed t.inner) (sym (parent-child t.shape.dims l j)) ∙ node_parent t.shape (is_listed t.inner) (child t.shape.dims l j) some leaf.node in
    above.outer (kept.tree.closed l inner deep)))

any_same : (p q : ℕ → Bool) (a n : ℕ) → ((j : ℕ) → j < a + n → p j ≡ q j) → list_any p (range_with_len a n) ≡ list_any q (range_with_len a n)
any_same p q a zero same = refl
any_same p q a (suc n) same =
    ap (λ (b : Bool). b || list_any p (range_with_len (a + 1) n)) (same a (omega arith)) ∙ ap (λ (b : Bool). q a || b) (any_same p q (a + 1) n (λ j small. same j (omega arith)))

or_false : (b : Bool) → (b || false) ≡ b
or_false true = refl
or_false false = refl

new_slot : Bool → mask.Slot
new_slot kept = record { kept = kept; idle = 0 }

-- a location without a number is not listed
none_listed : (xs : List Loc) (l : Loc) → number_in xs l ≡ None → is_listed xs l ≡ false
none_listed xs l h = fails (is_listed xs l) (λ e. some_is_none (position_or_len (same_loc l) xs) (sym (number_is xs l ∙ ap (λ (b : Bool). cond b (Some (position_or_len (same_loc l) xs)) None) e) ∙ h))
  where
    some_is_none : (x : ℕ) → Some x ≡ None → ⊥
    some_is_none x e = cc

not_listed : (t : TreeOfBlocks) (m : Mesh) (l : Loc) → m.leaves ≡ leaves t → number_in (leaves t) l ≡ None → (all : Mask) (f : ℕ) →
    cond (is_listed m.leaves l) (mask.slot_at all (leaf_number m l) f) (new_slot (inherits m all f l)) ≡ new_slot (inherits m all f l)
not_listed t m l same h all f =
    ap (λ (b : Bool). cond b (mask.slot_at all (leaf_number m l) f) (new_slot (inherits m all f l))) (ap (λ (xs : List Loc). is_listed xs l) same ∙ none_listed (leaves t) l h)

-- the slot of a leaf of the next tree
slot_is : (t : TreeOfBlocks) (m : Mesh) (count : ℕ) (slots : List (List Slot)) → AreSlotsOf t m count slots → (f : ℕ) → f < count → (l : Loc) (o : Origin) → IsOrigin t l o →
    slot_of (carried_slot (parts t.shape.dims) (field_slots slots f) o)
    ≡ cond (is_listed m.leaves l) (mask.slot_at (mask_of (length (leaves t)) slots) (leaf_number m l) f) (record { kept = inherits m (mask_of (length (leaves t)) slots) f l; idle = 0 })
unfolding new_slot
slot_is t m count slots of f some l (Leaf x) is =
    let old : List Loc = leaves t in
    let all : Mask = mask_of (length old) slots in
    let says = number_says old l x is in
    sym (ap (λ (xs : List Loc). cond (is_listed xs l) (mask.slot_at all (position_or_len (same_loc l) xs) f) (new_slot (inherits m all f l))) of.leaves_are
    ∙ ap (λ (b : Bool). cond b (mask.slot_at all (position_or_len (same_loc l) old) f) (new_slot (inherits m all f l))) says.listed
    ∙ ap (λ n. mask.slot_at all n f) says.place
    ∙ mask_slot (length old) slots x f (number_below old l x is) (omega (arith, of.slots_are.fields)))
slot_is t m count slots of f some l (Parent x) is =
    let old : List Loc = leaves t in
    let all : Mask = mask_of (length old) slots in
    let fs : List Slot = field_slots slots f in
    let says = parent_says t l x is.above in
    let none = none_pass (λ j. keeps fs (number_in old (child t.shape.dims l j))) (parts t.shape.dims) (λ j small. ap (keeps fs) (none_below t of.tree l x says.deep says.number j)) in
    sym (not_listed t m l of.leaves_are is.new all f
    ∙ ap new_slot (inherits_is t m count slots of f some l ∙ ap (λ (b : Bool). keeps fs (parent_number t l) || b) none ∙ or_false (keeps fs (parent_number t l)) ∙ ap (keeps fs) is.above))
slot_is t m count slots of f some l (Children numbers) is =
    let old : List Loc = leaves t in
    let all : Mask = mask_of (length old) slots in
    let fs : List Slot = field_slots slots f in
    sym (not_listed t m l of.leaves_are is.new all f
    ∙ ap new_slot (inherits_is t m count slots of f some l ∙ ap (λ (n : Option ℕ). keeps fs n || list_any (λ j. keeps fs (number_in old (child t.shape.dims l j))) (range_with_len 0 (parts t.shape.dims))) is.above
    ∙ any_same (λ j. keeps fs (number_in old (child t.shape.dims l j))) (λ j. keeps fs (slice_index_or numbers j None)) 0 (parts t.shape.dims) (λ j small. ap (keeps fs) (sym (is.below j (omega arith))))))

-- the mask on the leaves of the next tree
pub carried_is : (p : Settings) (t : TreeOfBlocks) (m : Mesh) (slots new : List (List Slot)) → AreSlotsOf t m (field_count p) slots → (places : List Loc) (origins : List Origin) → AreOrigins t places origins → length new ≡ field_count p →
    ((f : ℕ) → f < field_count p → slice_index_or new f [] ≡ map (carried_slot (parts t.shape.dims) (field_slots slots f)) origins) →
    mask_of (length places) new ≡ carried_mask p m (mask_of (length (leaves t)) slots) places
carried_is p t m slots new of places origins are count each =
    let all : Mask = mask_of (length (leaves t)) slots in
    let fields : ℕ = field_count p in
    let slot : Loc → ℕ → mask.Slot = λ l f. cond (is_listed m.leaves l) (mask.slot_at all (leaf_number m l) f) (record { kept = inherits m all f l; idle = 0 }) in
    let row : ℕ × Loc → List mask.Slot = λ leaf. table fields (slot leaf.1) in
    let at : Loc = record { level = 0; l1 = 0; l2 = 0; l3 = 0 } in
    let nothing : Slot = record { kept = false; idle = 0 } in
    let one : (k f : ℕ) → k < length places → f < fields → slot_of (slot_in new f k) ≡ slot (slice_index_or places k at) f = λ k f small some.
    ap (λ (v : List Slot). slot_of (slice_index_or v k nothing)) (each f some)
    ∙ ap slot_of (get_or-map (carried_slot (parts t.shape.dims) (field_slots slots f)) origins k (Leaf 0) nothing (omega (arith, are.count)))
    ∙ slot_is t m fields slots of f some (slice_index_or places k at) (slice_index_or origins k (Leaf 0)) (are.each k at (Leaf 0) small) in
    sym (table_by (map row (enumerate_from 0 places)) (length places) (λ k. table (length new) (λ f. slot_of (slot_in new f k))) [] (length-map (enumerate_from 0 places) row ∙ length-enumerate_from 0 places)
    (λ k small.
    get_or-map row (enumerate_from 0 places) k (0, at) [] (omega (arith, length-enumerate_from 0 places))
    ∙ ap row (get_or-enumerate_from 0 places k (0, at) small)
    ∙ table_same fields (slot (slice_index_or places k at)) (λ f. slot_of (slot_in new f k)) mask.absent (λ f some. sym (one k f small some))
    ∙ ap (λ n. table n (λ f. slot_of (slot_in new f k))) (sym count)))

pub carried_slots_are : (t : TreeOfBlocks) (slots new : List (List Slot)) (fields : ℕ) (places : List Loc) (origins : List Origin) → AreOrigins t places origins → length new ≡ fields →
    ((f : ℕ) → f < fields → slice_index_or new f [] ≡ map (carried_slot (parts t.shape.dims) (field_slots slots f)) origins) → AreSlots fields (length places) new
carried_slots_are t slots new fields places origins are count each =
    record { fields = count; leaf_slots = λ f some. ap (λ (v : List Slot). length v) (each f some) ∙ length-map origins (carried_slot (parts t.shape.dims) (field_slots slots f)) ∙ are.count }
