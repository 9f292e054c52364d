-- A mesh state in lists by field and leaf.
use Rattle.std.proofs.Common.{◌≡◌, ℕ, ◌<◌, ◌≤◌, ◌-◌, ◌^◌, Bool, Option, Some, None, List, [], length, arith, ap, subst, sym, ◌∙◌}
use Rattle.std.specs.List.{slice_index_or}
use Rattle.morton_order.specs.declared.space.Loc.{Loc}
use Rattle.morton_order.specs.declared.space.Shape.{Shape}
use Rattle.morton_order.specs.Space.{child, parts}
use Rattle.block_tree.specs.Blocks.{IsBlockTree, TreeOfBlocks, is_inner_of, leaves}
use Rattle.block_tree.specs.Next.{IsNear}
use Rattle.block_tree.specs.Nodes.{number_in}
use Rattle.block_tree.specs.Tree.{IsLeaf}
use Rattle.block_tree.proofs.Numbers.{number_below}
use Rattle.block_layout.specs.declared.layout.Layout.{Layout}
use Rattle.alloc_epochs.specs.Shelf.{place_on}
use Rattle.problem_set.specs.Settings.{Settings}
use Rattle.mesh_rules.specs.Sums.{table}
use Rattle.mesh_rules.specs.Fields.{field_count}
use Rattle.mesh_rules.specs.Fit.{IsMeshOf, sum_of_all}
use Rattle.mesh_rules.specs.Mask as mask
use Rattle.mesh_rules.specs.Mesh.{Mesh}
use Rattle.dense_mesh.specs.declared.totals.Slot.{Slot}
use Rattle.dense_mesh.specs.Masks as lists
use Rattle.dense_mesh.specs.Masks.{AreSlots, mask_of, slot_of}
use Rattle.dense_mesh.specs.Meshes.{IsMeshIn, mesh_of, totals_in}
use Rattle.dense_mesh.proofs.Tables.{table_at, table_length, table_same}
use Rattle.dense_remesh.specs.declared.origins.Origin.{Origin}
use Rattle.dense_remesh.specs.declared.origins.Origin.TheVariants.{Leaf, Parent, Children}
use Rattle.dense_remesh.specs.Origins.{IsOrigin}
use Rattle.dense_remesh.specs.Parts.{CanTake}
use Rattle.dense_remesh.proofs.Taken.{Remeshes, can_take, parent_says}
use Rattle.cell_block.specs.State.{HasLayout, IsStored, Stored, leaf_count}
use Rattle.cell_block.specs.Rules as rules_of
use Rattle.cell_block.specs.Rules.{interior_at, mask_in, mesh_in}
use Rattle.remesh.specs.Lists.{field_in, field_slots_in, lists_in, slot_of_place, slots_in}
use Rattle.remesh.specs.Remaps.{CanRemap}
use Rattle.remesh.specs.Sources.{AreNumbersOf, IsNumberOf}

pub list_at : (l : Layout) (s : Stored) (f leaf : ℕ) → leaf < leaf_count s → slice_index_or (field_in l s f) leaf [] ≡ interior_at l s (place_on leaf f)
list_at l s f leaf small = table_at (leaf_count s) (λ k. interior_at l s (place_on k f)) leaf [] small

pub lists_at : (l : Layout) (s : Stored) (f : ℕ) → f < s.fields → slice_index_or (lists_in l s) f [] ≡ field_in l s f
lists_at l s f some = table_at s.fields (field_in l s) f [] some

pub lists_long : (l : Layout) (s : Stored) → length (lists_in l s) ≡ s.fields
lists_long l s = table_length s.fields (field_in l s)

pub field_long : (l : Layout) (s : Stored) (f : ℕ) → length (field_in l s f) ≡ leaf_count s
field_long l s f = table_length (leaf_count s) (λ k. interior_at l s (place_on k f))

pub totals_at : (l : Layout) (s : Stored) (f leaf : ℕ) → f < s.fields → leaf < leaf_count s → totals_in (lists_in l s) f leaf ≡ interior_at l s (place_on leaf f)
totals_at l s f leaf some small = ap (λ (v : List (List ℕ)). slice_index_or v leaf []) (lists_at l s f some) ∙ list_at l s f leaf small

-- its mesh is that of the lists
pub mesh_lists : (l : Layout) (s : Stored) → mesh_in l s ≡ mesh_of s.tree s.cells (lists_in l s)
mesh_lists l s =
    ap (λ (v : List (List (List ℕ))). record (mesh_in l s) { totals = v })
    (table_same (leaf_count s) (λ leaf. table s.fields (λ f. interior_at l s (place_on leaf f))) (λ leaf. table (length (lists_in l s)) (λ f. totals_in (lists_in l s) f leaf)) []
    (λ leaf small.
    table_same s.fields (λ f. interior_at l s (place_on leaf f)) (λ f. totals_in (lists_in l s) f leaf) [] (λ f some. sym (totals_at l s f leaf some small))
    ∙ ap (λ n. table n (λ f. totals_in (lists_in l s) f leaf)) (sym (lists_long l s))))

-- its mask is that of the slots
pub slots_at : (s : Stored) (f : ℕ) → f < s.fields → slice_index_or (slots_in s) f [] ≡ field_slots_in s f
slots_at s f some = table_at s.fields (field_slots_in s) f [] some

pub slot_there : (s : Stored) (f leaf : ℕ) (d : Slot) → f < s.fields → leaf < leaf_count s → slice_index_or (slice_index_or (slots_in s) f []) leaf d ≡ slot_of_place s f leaf
slot_there s f leaf d some small = ap (λ (v : List Slot). slice_index_or v leaf d) (slots_at s f some) ∙ table_at (leaf_count s) (slot_of_place s f) leaf d small

pub mask_slots : (s : Stored) → mask_in s ≡ mask_of (leaf_count s) (slots_in s)
mask_slots s =
    table_same (leaf_count s) (λ leaf. table s.fields (rules_of.slot_in s leaf)) (λ leaf. table (length (slots_in s)) (λ f. slot_of (lists.slot_in (slots_in s) f leaf))) []
    (λ leaf small.
    table_same s.fields (rules_of.slot_in s leaf) (λ f. slot_of (lists.slot_in (slots_in s) f leaf)) mask.absent (λ f some. sym (ap slot_of (slot_there s f leaf (record { kept = Bool.false; idle = 0 }) some small)))
    ∙ ap (λ n. table n (λ f. slot_of (lists.slot_in (slots_in s) f leaf))) (sym (table_length s.fields (field_slots_in s))))

pub are_slots : (s : Stored) → AreSlots s.fields (leaf_count s) (slots_in s)
are_slots s = record { fields = table_length s.fields (field_slots_in s); leaf_slots = λ f some. ap (λ (v : List Slot). length v) (slots_at s f some) ∙ table_length (leaf_count s) (slot_of_place s f) }

-- a remap, seen through a layout of the blocks
pub record Remap (p : Settings) (old : Stored) (next : TreeOfBlocks) (l : Layout) : Type 0 where
  pub can : CanRemap p old next
  pub kept : IsStored old
  pub next_kept : IsBlockTree next
  pub layout_is : HasLayout old l

pub old_mesh : (p : Settings) (old : Stored) (next : TreeOfBlocks) (l : Layout) → Remap p old next l → mesh_in l old ≡ mesh_of old.tree p.cells (lists_in l old)
old_mesh p old next l r = mesh_lists l old ∙ ap (λ n. mesh_of old.tree n (lists_in l old)) r.can.stored.cells

pub remeshes : (p : Settings) (old : Stored) (next : TreeOfBlocks) (l : Layout) → Remap p old next l → Remeshes p old.tree next l (lists_in l old)
remeshes p old next l r =
    let stored = r.can.stored in
    let same = old_mesh p old next l r in
    record {
      mesh = record {
        dims = r.layout_is.dims ∙ stored.dims;
        cells = r.layout_is.cells ∙ stored.cells;
        fields = lists_long l old ∙ stored.fields;
        leaf_lists = λ f some. ap (λ (v : List (List ℕ)). length v) (lists_at l old f (omega (arith, stored.fields))) ∙ field_long l old f;
        mesh = subst (IsMeshOf p) same (r.can.mesh l r.layout_is);
        bound = subst (λ (m : Mesh). sum_of_all p m ≤ 2 ^ 62 - 1) same (r.can.bound l r.layout_is);
      };
      near = subst (λ (s : Shape). IsNear s (is_inner_of old.tree) (is_inner_of next)) (sym stored.shape) r.can.near;
    }

pub next_shape : (p : Settings) (old : Stored) (next : TreeOfBlocks) (l : Layout) → Remap p old next l → next.shape ≡ old.tree.shape
next_shape p old next l r = r.can.shape ∙ sym r.can.stored.shape

-- the numbers of old leaves are those of leaves
number_there : (s : Stored) (at : Loc) (o : Option ℕ) → number_in (leaves s.tree) at ≡ o → IsNumberOf s o
number_there s at None h = tt
number_there s at (Some x) h = number_below (leaves s.tree) at x h

pub numbers_there : (s : Stored) (at : Loc) (o : Origin) → s.dims ≡ s.tree.shape.dims → IsOrigin s.tree at o → AreNumbersOf s o
numbers_there s at (Leaf x) dims is = number_below (leaves s.tree) at x is
numbers_there s at (Parent x) dims is = let says = parent_says s.tree at x is.above in number_below (leaves s.tree) _ x says.number
numbers_there s at (Children numbers) dims is = λ j small. number_there s (child s.tree.shape.dims at j) (slice_index_or numbers j None) (sym (is.below j (subst (λ d. j < parts d) dims small)))

-- and have the lists that a new leaf needs
pub can_take_there : (p : Settings) (old : Stored) (next : TreeOfBlocks) (l : Layout) → Remap p old next l → (f : ℕ) → f < old.fields → (at : Loc) → IsLeaf old.tree.shape (is_inner_of next) at → (o : Origin) → IsOrigin old.tree at o →
    CanTake l (field_in l old f) o
can_take_there p old next l r f some at leaf o is =
    subst (λ (v : List (List ℕ)). CanTake l v o) (lists_at l old f some) (can_take p old.tree next l (lists_in l old) (remeshes p old next l r) f (omega (arith, r.can.stored.fields)) at leaf o is)
