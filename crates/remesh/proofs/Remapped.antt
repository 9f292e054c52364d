-- A mesh state whose leaves were filled stands for the remeshed state.
use Rattle.std.proofs.Common.{◌≡◌, ℕ, ◌<◌, Bool, Option, Some, None, List, [], is_none, is_some, length, map, slice_index, refl, arith, ap, subst, sym, ◌∙◌}
use Rattle.std.specs.List.{slice_index_or}
use Rattle.std.proofs.lemmas.List.{get_or_default}
use Rattle.morton_order.specs.declared.space.Loc.{Loc}
use Rattle.morton_order.specs.declared.space.Shape.{Shape}
use Rattle.morton_order.specs.Space.{parts}
use Rattle.block_tree.specs.Blocks.{IsBlockTree, TreeOfBlocks, is_inner_of, leaves}
use Rattle.block_tree.specs.Leaves.{inner_of, leaves_of}
use Rattle.block_tree.specs.Nodes.{number_in}
use Rattle.block_layout.specs.declared.layout.Layout.{Layout}
use Rattle.alloc_epochs.specs.Shelf.{place_on}
use Rattle.sparse_pool.specs.declared.place.Place.{Place}
use Rattle.field_bufs.specs.declared.buf.FieldBuf.{FieldBuf}
use Rattle.problem_set.specs.Settings.{Settings}
use Rattle.mesh_rules.specs.Due.{partition_size}
use Rattle.mesh_rules.specs.Fields.{field_count}
use Rattle.mesh_rules.specs.Mask.{Mask, carried_mask}
use Rattle.mesh_rules.specs.Mesh.{Mesh}
use Rattle.mesh_rules.specs.Cycle.{State}
use Rattle.mesh_rules.specs.Remesh.{carried_counters, remap, remapped}
use Rattle.mesh_rules.specs.Run.{remeshed}
use Rattle.mesh_rules.specs.Sums.{table}
use Rattle.dense_mesh.specs.declared.totals.Slot.{Slot}
use Rattle.dense_mesh.specs.Masks.{AreSlots, mask_of}
use Rattle.dense_mesh.specs.Meshes.{mesh_of}
use Rattle.dense_mesh.proofs.Tables.{table_at, table_length, table_same}
use Rattle.dense_remesh.specs.declared.origins.Origin.{Origin}
use Rattle.dense_remesh.specs.declared.origins.Origin.TheVariants.{Leaf}
use Rattle.dense_remesh.specs.Origins.{AreOrigins}
use Rattle.dense_remesh.specs.Parts.{AreTaken, IsTaken}
use Rattle.dense_remesh.specs.Slots.{carried_slot, counter_at}
use Rattle.dense_remesh.proofs.CarriedMasks.{carried_is}
use Rattle.dense_remesh.proofs.Counters.{counters_are}
use Rattle.dense_remesh.proofs.LeafLists.{look_list}
use Rattle.dense_remesh.proofs.Pushed.{map_by_each}
use Rattle.dense_remesh.proofs.Taken.{field_taken, remapped_is}
use Rattle.cell_block.specs.State.{Entry, HasLayout, IsStored, Stored, entry_at, is_lent, leaf_count}
use Rattle.cell_block.specs.Rules.{IsStoredFor, IsWhole, StandsFor, interior_at, interior_in, mask_in, mesh_in, state_in}
use Rattle.remesh.specs.Lists.{field_in, field_slots_in, lists_in, slot_of_place, slots_in}
use Rattle.remesh.specs.Remaps.{CanRemap, IsRemapOf}
use Rattle.remesh.specs.Sources.{AreNumbersOf, counter_after}
use Rattle.remesh.specs.Carries.{Carries}
use Rattle.remesh.specs.Leaves.{leaf_on, origin_on}
use Rattle.remesh.proofs.Carried.{counter_carried, slot_of_new}
use Rattle.remesh.proofs.InLists.{Remap, are_slots, field_long, list_at, lists_at, lists_long, mask_slots, mesh_lists, next_shape, numbers_there, old_mesh, remeshes, slots_at}
use Rattle.remesh.proofs.Layouts.{same_state}

-- a new mesh state whose leaves have what comes to them
pub record IsCarried (p : Settings) (old : Stored) (next : TreeOfBlocks) (l : Layout) (origins : List Origin) (new : Stored) : Type 0 where
  pub tree : new.tree ≡ next
  pub dims : new.dims ≡ p.shape.dims
  pub cells : new.cells ≡ p.cells
  pub fields : new.fields ≡ field_count p
  pub size : new.size ≡ partition_size p.pack_size (length (leaves next))
  pub whole : IsWhole new
  pub kept_new : IsStored new
  pub places : (k f : ℕ) → k < length (leaves next) → f < old.fields → Carries l old (leaf_on next k) (origin_on origins k) f (entry_at new (place_on k f))
  pub counters : (k : ℕ) → k < length (leaves next) → slice_index new.counters k ≡ counter_after old (origin_on origins k)

abbrev nowhere : Loc
nowhere = record { level = 0; l1 = 0; l2 = 0; l3 = 0 }

module _ (p : Settings) (old : Stored) (next : TreeOfBlocks) (l : Layout) (origins : List Origin) (new : Stored) (r : Remap p old next l) (are : AreOrigins old.tree (leaves next) origins) (has : IsCarried p old next l origins new) where
  count : leaf_count new ≡ length (leaves next)
  count = ap (λ (t : TreeOfBlocks). length (leaves t)) has.tree

  old_fields : old.fields ≡ field_count p
  old_fields = r.can.stored.fields

  -- the lists of a field
  taken : (f : ℕ) → f < field_count p → AreTaken l (slice_index_or (lists_in l old) f []) (leaves next) origins (field_in l new f)
  taken f some = record {
    count = field_long l new f ∙ count;
    each = λ k d e small.
        let at = slice_index_or (leaves next) k nowhere in
        let list : slice_index_or (field_in l new f) k [] ≡ interior_at l new (place_on k f) = list_at l new f k (omega (arith, count)) in
        subst (λ (v : Loc). IsTaken l (slice_index_or (lists_in l old) f []) v (slice_index_or origins k e) (slice_index_or (field_in l new f) k [])) (same_item (leaves next) k nowhere d small)
        (subst (λ (o : Origin). IsTaken l (slice_index_or (lists_in l old) f []) at o (slice_index_or (field_in l new f) k [])) (same_item origins k (Leaf 0) e (omega (arith, are.count, small)))
        (subst (λ (v : List (List ℕ)). IsTaken l v at (slice_index_or origins k (Leaf 0)) (slice_index_or (field_in l new f) k [])) (sym (lists_at l old f (omega (arith, old_fields, some))))
        (subst (IsTaken l (field_in l old f) at (slice_index_or origins k (Leaf 0))) (sym list) (has.places k f small (omega (arith, old_fields, some))).taken)));
  }
    where
      same_item : {X : Type 0} (xs : List X) (k : ℕ) (d e : X) → k < length xs → slice_index_or xs k d ≡ slice_index_or xs k e
      same_item xs k d e small = get_or_default xs k d e small

  looks : (f : ℕ) → f < field_count p → slice_index_or (lists_in l new) f [] ≡ map (look_list (mesh_of old.tree p.cells (lists_in l old)) f) (leaves next)
  looks f some =
      lists_at l new f (omega (arith, has.fields, some))
      ∙ field_taken p old.tree next l (lists_in l old) (remeshes p old next l r) r.next_kept (next_shape p old next l r) f some origins (field_in l new f) are (taken f some)

  -- the mesh
  mesh_by : List Loc → List Loc → Mesh
  mesh_by inner places = remapped (mesh_in l old) (field_count p) inner places

  inner_is : next.inner ≡ inner_of old.tree.shape (is_inner_of next)
  inner_is = r.next_kept.order ∙ ap (λ (s : Shape). inner_of s (is_inner_of next)) (next_shape p old next l r)

  leaves_are : leaves next ≡ leaves_of old.tree.shape (is_inner_of next)
  leaves_are = ap (λ (s : Shape). leaves_of s (is_inner_of next)) (next_shape p old next l r)

  mesh_is : mesh_in l new ≡ mesh_by next.inner (leaves next)
  unfolding mesh_by
  mesh_is =
      mesh_lists l new
      ∙ ap (λ (t : TreeOfBlocks). mesh_of t new.cells (lists_in l new)) has.tree
      ∙ ap (λ (n : List ℕ). mesh_of next n (lists_in l new)) has.cells
      ∙ remapped_is (mesh_of old.tree p.cells (lists_in l old)) next (lists_in l new) (field_count p) (next_shape p old next l r) (lists_long l new ∙ has.fields) looks
      ∙ ap (λ (m : Mesh). remapped m (field_count p) next.inner (leaves next)) (sym (old_mesh p old next l r))

  -- the mask
  mask_is : mask_in new ≡ carried_mask p (mesh_in l old) (mask_in old) (leaves next)
  mask_is =
      let dims : parts old.tree.shape.dims ≡ parts old.dims = ap parts (ap (λ (s : Shape). s.dims) r.can.stored.shape ∙ sym r.can.stored.dims) in
      let each : (f : ℕ) → f < field_count p → slice_index_or (slots_in new) f [] ≡ map (carried_slot (parts old.tree.shape.dims) (slice_index_or (slots_in old) f [])) origins = λ f some.
      slots_at new f (omega (arith, has.fields, some))
      ∙ map_by_each (carried_slot (parts old.tree.shape.dims) (slice_index_or (slots_in old) f [])) origins (field_slots_in new f) (record { kept = Bool.false; idle = 0 }) (Leaf 0)
      (table_length (leaf_count new) (slot_of_place new f) ∙ count ∙ sym are.count)
      (λ k y x small.
      let below : k < length (leaves next) = omega (arith, are.count, small) in
      let carried = has.places k f below (omega (arith, old_fields, some)) in
      table_at (leaf_count new) (slot_of_place new f) k y (omega (arith, count, below))
      ∙ slot_of_new old new f k (slice_index_or origins k (Leaf 0)) (omega (arith, old_fields, some)) (numbers k below) carried.kept carried.idle
      ∙ ap (λ n. carried_slot n (slice_index_or (slots_in old) f []) (slice_index_or origins k (Leaf 0))) (sym dims)
      ∙ ap (carried_slot (parts old.tree.shape.dims) (slice_index_or (slots_in old) f [])) (get_or_default origins k (Leaf 0) x small)) in
      mask_slots new
      ∙ ap (λ n. mask_of n (slots_in new)) count
      ∙ carried_is p old.tree (mesh_in l old) (slots_in old) (slots_in new)
      (record { tree = r.kept.tree; shape = refl; leaves_are = refl; slots_are = subst (λ n. AreSlots n (leaf_count old) (slots_in old)) old_fields (are_slots old) })
      (leaves next) origins are (table_length new.fields (field_slots_in new) ∙ has.fields) each
      ∙ ap (λ (v : Mask). carried_mask p (mesh_in l old) v (leaves next)) (sym (mask_slots old))
    where
      numbers : (k : ℕ) → k < length (leaves next) → AreNumbersOf old (slice_index_or origins k (Leaf 0))
      numbers k below = numbers_there old (slice_index_or (leaves next) k nowhere) (slice_index_or origins k (Leaf 0)) (r.can.stored.dims ∙ sym (ap (λ (s : Shape). s.dims) r.can.stored.shape)) (are.each k nowhere (Leaf 0) below)

  -- the counters
  counters_is : new.counters ≡ carried_counters (mesh_in l old) old.counters (leaves next)
  counters_is = counters_are (mesh_in l old) old.counters (leaves old.tree) (leaves next) new.counters refl (has.kept_new.counters ∙ count)
      (λ k x d below.
      get_or_default new.counters k x 0 (omega (arith, has.kept_new.counters, count, below))
      ∙ has.counters k below
      ∙ counter_carried old (slice_index_or (leaves next) k nowhere) (slice_index_or origins k (Leaf 0)) (are.each k nowhere (Leaf 0) below)
      ∙ ap (λ (v : Loc). counter_at old.counters (number_in (leaves old.tree) v)) (get_or_default (leaves next) k nowhere d below))

  state_is : state_in l new ≡ remeshed p (state_in l old) (is_inner_of next)
  unfolding mesh_by
  state_is =
      let by : List Loc → List Loc → State = λ inner places. record { mesh = mesh_by inner places; mask = carried_mask p (mesh_in l old) (mask_in old) places; counters = carried_counters (mesh_in l old) old.counters places } in
      ap (λ (m : Mesh). record (state_in l new) { mesh = m }) mesh_is
      ∙ ap (λ (m : Mask). record { mesh = mesh_by next.inner (leaves next); mask = m; counters = new.counters }) mask_is
      ∙ ap (λ (n : List ℕ). record { mesh = mesh_by next.inner (leaves next); mask = carried_mask p (mesh_in l old) (mask_in old) (leaves next); counters = n }) counters_is
      ∙ ap (λ (inner : List Loc). by inner (leaves next)) inner_is
      ∙ ap (by (inner_of old.tree.shape (is_inner_of next))) leaves_are

  pub stands_for : IsRemapOf p old next new
  stands_for c stands = record {
    stored = record {
      whole = has.whole;
      shape = ap (λ (t : TreeOfBlocks). t.shape) has.tree ∙ r.can.shape;
      dims = has.dims;
      cells = has.cells;
      fields = has.fields;
      size = has.size ∙ ap (λ (t : TreeOfBlocks). partition_size p.pack_size (length (leaves t))) (sym has.tree);
    };
    state = λ m other.
        same_state m l new (other.dims ∙ has.dims ∙ sym (r.layout_is.dims ∙ r.can.stored.dims)) (other.cells ∙ has.cells ∙ sym (r.layout_is.cells ∙ r.can.stored.cells))
        ∙ state_is
        ∙ ap (λ (v : State). remeshed p v (is_inner_of next)) (stands.state l r.layout_is);
  }
