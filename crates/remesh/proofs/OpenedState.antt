-- The mesh state into which all boxes were put stands for the opening state.
use Rattle.std.proofs.Common.{◌≡◌, ℕ, ◌*◌, ◌<◌, ◌≤◌, Bool, true, false, not, ◌||◌, cond, nat_le, Option, Some, None, List, [], is_some, length, map, replicate, slice_index, refl, arith, ap, subst, sym, ◌∙◌}
use Rattle.std.specs.List.{slice_index_or}
use Rattle.std.proofs.lemmas.Bool.Decides.{nat_tests}
use Rattle.std.proofs.lemmas.List.{get_or_default}
use Rattle.morton_order.specs.declared.space.Loc.{Loc}
use Rattle.block_tree.specs.Blocks.{TreeOfBlocks, leaves, tree_with}
use Rattle.block_tree.specs.Leaves.{leaves_of}
use Rattle.block_layout.specs.declared.layout.Layout.{Layout}
use Rattle.sparse_pool.specs.declared.place.Place.{Place}
use Rattle.sparse_pool.specs.Idle.{idle}
use Rattle.alloc_epochs.specs.Shelf.{place_on}
use Rattle.field_bufs.specs.declared.buf.FieldBuf.{FieldBuf}
use Rattle.package_fields.specs.Kernel.{Reacted, nothing}
use Rattle.problem_set.specs.declared.problem.Problem.{Problem}
use Rattle.deck_entries.specs.declared.entries.StartBox.{StartBox}
use Rattle.problem_set.specs.Settings.{Settings}
use Rattle.problem_set.specs.SettingsOf.{settings_of}
use Rattle.mesh_rules.specs.Cycle.{State}
use Rattle.mesh_rules.specs.Due.{partition_size}
use Rattle.mesh_rules.specs.Fields.{field_count, is_sparse}
use Rattle.mesh_rules.specs.Fit.{IsMeshOf}
use Rattle.mesh_rules.specs.Mask as mask
use Rattle.mesh_rules.specs.Mask.{Mask, absent, called, has_above, kept_at_start}
use Rattle.mesh_rules.specs.Mesh.{Mesh, block_size, cell_at, stored, totals_on}
use Rattle.mesh_rules.specs.Opening.{opening_mesh, opening_state, opening_tree}
use Rattle.mesh_rules.specs.Run.{leaf_limit, opened, run, run_from, running, start_of, too_many_at_start}
use Rattle.run_laws.proofs.RunTrees.{run_stands}
use Rattle.dense_mesh.specs.declared.totals.Slot.{Slot}
use Rattle.dense_mesh.specs.Masks as lists
use Rattle.dense_mesh.specs.Masks.{mask_of, slot_of}
use Rattle.dense_mesh.specs.Meshes.{mesh_of}
use Rattle.dense_mesh.proofs.Tables.{table_by, table_length}
use Rattle.dense_mask.proofs.Above.{above_is}
use Rattle.dense_mask.proofs.Leaves.{HasRow, leaf_at, origin, stored_on_leaf}
use Rattle.dense_mask.proofs.SlotSteps.{mask_is}
use Rattle.dense_remesh.specs.StartBoxes.{opening_list}
use Rattle.dense_remesh.proofs.Openings.{opening_is}
use Rattle.dense_remesh.proofs.Pushed.{map_by_each}
use Rattle.cell_block.specs.State.{Entry, HasLayout, IsIn, IsStored, Stored, buffer_at, entry_at, is_lent, leaf_count, list_count}
use Rattle.cell_block.specs.Rules.{IsWhole, StandsFor, interior_at, mask_in, mesh_in, state_in}
use Rattle.cell_block.proofs.Meshes.{totals_are_interiors}
use Rattle.remesh.specs.Leaves.{leaf_on}
use Rattle.remesh.specs.Lists.{field_in, field_slots_in, lists_in, slot_of_place, slots_in}
use Rattle.remesh.specs.Openings.{AreFieldsOpened, IsOpenEntry, boxes_of_field}
use Rattle.remesh.specs.Remaps.{IsFresh}
use Rattle.remesh.proofs.InLists.{field_long, list_at, lists_at, lists_long, mask_slots, mesh_lists, slot_there}
use Rattle.remesh.proofs.Layouts.{same_state}
use Rattle.remesh.proofs.Opened.{IsOpened, buffer_inside}

few_test : (a b : ℕ) → a ≤ b → nat_le a b ≡ true
few_test a b h = grind (arith, nat_tests)

-- the opening mesh is one of the problem
opening_mesh_is : (p : Problem) → length (opening_mesh (settings_of p)).leaves ≤ 65536 → IsMeshOf (settings_of p) (opening_mesh (settings_of p))
unfolding run run_from
opening_mesh_is p few =
    let q = settings_of p in
    run_stands p (λ cell. nothing 0) 0 (start_of q (opening_state q)) (ap (λ (b : Bool). cond b (running (start_of q (opening_state q))) too_many_at_start) (few_test (length (leaves_of q.shape (opening_tree q))) leaf_limit few))

-- the row of a field on a leaf of a mesh
row_there : (q : Settings) (m : Mesh) → IsMeshOf q m → (f leaf : ℕ) (cells : List ℕ) → f < field_count q → leaf < length m.leaves → totals_on m leaf f ≡ cells → HasRow m f leaf cells
row_there q m is f leaf cells some small there =
    let long : length cells ≡ block_size m = ap (λ (v : List ℕ). length v) (sym there) ∙ is.cell_lists leaf f small some in
    record {
      long = long;
      row = sym (table_by cells (block_size m) (λ place. stored m f (cell_at m (leaf_at m leaf) place)) 0 long
          (λ place inside. ap (λ (v : List ℕ). slice_index v place) (sym there) ∙ sym (stored_on_leaf m is.mesh f leaf place small inside)));
    }

abbrev slot_by : Bool → ℕ → mask.Slot
slot_by kept n = record { kept = kept; idle = n }

same_slot : (a b : Bool) (i j : ℕ) → a ≡ b → i ≡ j → slot_by a i ≡ slot_by b j
same_slot a b i j p q = ap (λ x. slot_by x i) p ∙ ap (slot_by b) q

module _ (p : Problem) (t : TreeOfBlocks) (l : Layout) (start now new : Stored) (tree : t ≡ tree_with p.shape (opening_tree (settings_of p))) (few : length (leaves t) ≤ 65536) (dims : l.dims ≡ p.shape.dims) (cells : l.cells ≡ p.cells)
    (first : IsOpened (settings_of p) l t start) (done : AreFieldsOpened (settings_of p) l p.boxes start now (field_count (settings_of p))) (kept : IsStored new) (is : new ≡ record now { epochs = replicate (list_count now) 0 }) where
  q : Settings
  q = settings_of p

  new_tree : new.tree ≡ t
  new_tree = ap (λ (s : Stored). s.tree) is ∙ done.frame.tree ∙ first.tree

  new_cells : new.cells ≡ p.cells
  new_cells = ap (λ (s : Stored). s.cells) is ∙ done.frame.cells ∙ first.cells

  new_fields : new.fields ≡ field_count (settings_of p)
  new_fields = ap (λ (s : Stored). s.fields) is ∙ done.frame.fields ∙ first.fields

  count : leaf_count new ≡ length (leaves t)
  count = ap (λ (v : TreeOfBlocks). length (leaves v)) new_tree

  here : (k f : ℕ) → k < length (leaves t) → f < field_count (settings_of p) → IsOpenEntry l (is_sparse (settings_of p) f) (boxes_of_field p.boxes f) (leaf_on t k) (entry_at new (place_on k f))
  here k f small some =
      let there : leaf_count start ≡ length (leaves t) = ap (λ (v : TreeOfBlocks). length (leaves v)) first.tree in
      subst (λ (v : TreeOfBlocks). IsOpenEntry l (is_sparse (settings_of p) f) (boxes_of_field p.boxes f) (leaf_on v k) (entry_at new (place_on k f))) first.tree
      (subst (IsOpenEntry l (is_sparse (settings_of p) f) (boxes_of_field p.boxes f) (leaf_on start.tree k)) (sym (ap (λ (s : Stored). entry_at s (place_on k f)) is)) (done.here k f (omega (arith, there, small)) some))

  -- the mesh
  opening : ℕ → Loc → List ℕ
  opening f at = opening_list p.shape.dims p.cells (boxes_of_field p.boxes f) at

  list_is : (k f : ℕ) → k < length (leaves t) → f < field_count (settings_of p) → interior_at l new (place_on k f) ≡ opening_list p.shape.dims p.cells (boxes_of_field p.boxes f) (leaf_on t k)
  list_is k f small some =
      (here k f small some).own
      ∙ ap (λ d. opening_list d l.cells (boxes_of_field p.boxes f) (leaf_on t k)) dims
      ∙ ap (λ (n : List ℕ). opening_list p.shape.dims n (boxes_of_field p.boxes f) (leaf_on t k)) cells

  lists_are : (f : ℕ) → f < field_count (settings_of p) → slice_index_or (lists_in l new) f [] ≡ map (opening_list p.shape.dims p.cells (boxes_of_field p.boxes f)) (leaves t)
  lists_are f some =
      lists_at l new f (omega (arith, new_fields, some))
      ∙ map_by_each (opening_list p.shape.dims p.cells (boxes_of_field p.boxes f)) (leaves t) (field_in l new f) [] (record { level = 0; l1 = 0; l2 = 0; l3 = 0 }) (field_long l new f ∙ count)
      (λ k y x small.
      get_or_default (field_in l new f) k y [] (omega (arith, field_long l new f, count, small))
      ∙ list_at l new f k (omega (arith, count, small))
      ∙ list_is k f small some
      ∙ ap (opening_list p.shape.dims p.cells (boxes_of_field p.boxes f)) (get_or_default (leaves t) k (record { level = 0; l1 = 0; l2 = 0; l3 = 0 }) x small))

  mesh_is : mesh_in l new ≡ opening_mesh (settings_of p)
  mesh_is =
      mesh_lists l new
      ∙ ap (λ (v : TreeOfBlocks). mesh_of v new.cells (lists_in l new)) new_tree
      ∙ ap (λ (n : List ℕ). mesh_of t n (lists_in l new)) new_cells
      ∙ opening_is p t (lists_in l new) tree (lists_long l new ∙ new_fields) lists_are

  leaves_are : leaves new.tree ≡ (opening_mesh (settings_of p)).leaves
  leaves_are = ap (λ (m : Mesh). m.leaves) mesh_is

  mesh_fits : IsMeshOf (settings_of p) (opening_mesh (settings_of p))
  mesh_fits = opening_mesh_is p (omega (arith, few, count, ap (λ (v : List Loc). length v) leaves_are))

  -- the mask
  rule : ℕ → Loc → ℕ → mask.Slot
  rule k at f = called absent (not (is_sparse (settings_of p) f) || has_above 0 (opening_mesh (settings_of p)) f at)

  mask_there : mask_in new ≡ kept_at_start (settings_of p) (opening_mesh (settings_of p))
  mask_there =
      let m = opening_mesh (settings_of p) in
      mask_slots new
      ∙ ap (λ (v : List Loc). mask_of (length v) (slots_in new)) leaves_are
      ∙ mask_is m.leaves (field_count (settings_of p)) (λ _ at f. called absent (not (is_sparse (settings_of p) f) || has_above 0 m f at)) (slots_in new) (table_length new.fields (field_slots_in new) ∙ new_fields)
      (λ k f small some.
      let low : k < length (leaves t) = omega (arith, small, count, ap (λ (v : List Loc). length v) leaves_are) in
      let open_at = here k f low some in
      let list : List ℕ = opening_list l.dims l.cells (boxes_of_field p.boxes f) (leaf_on t k) in
      let row : HasRow m f k list = row_there (settings_of p) m mesh_fits f k list some small
      (ap (λ (v : Mesh). totals_on v k f) (sym mesh_is) ∙ totals_are_interiors l new k f (omega (arith, count, low)) (omega (arith, new_fields, some)) ∙ open_at.own) in
      ap slot_of (slot_there new f k (record { kept = false; idle = 0 }) (omega (arith, new_fields, some)) (omega (arith, count, low)))
      ∙ same_slot (is_some (entry_at new (place_on k f))) (not (is_sparse (settings_of p) f) || has_above 0 m f (leaf_at m k)) _ 0
      (open_at.kept ∙ ap (λ (b : Bool). not (is_sparse (settings_of p) f) || b) (sym (above_is 0 m f k list row))) open_at.never_idle)

  counters_there : new.counters ≡ replicate (length (opening_mesh (settings_of p)).leaves) 0
  counters_there = ap (λ (s : Stored). s.counters) is ∙ done.counters ∙ first.counters ∙ ap (λ n. replicate n 0) (sym count ∙ ap (λ (v : List Loc). length v) leaves_are)

  state_is : state_in l new ≡ opening_state (settings_of p)
  state_is =
      let m = opening_mesh (settings_of p) in
      ap (λ (v : Mesh). record (state_in l new) { mesh = v }) mesh_is
      ∙ ap (λ (v : Mask). record { mesh = m; mask = v; counters = new.counters }) mask_there
      ∙ ap (λ (v : List ℕ). record { mesh = m; mask = kept_at_start (settings_of p) m; counters = v }) counters_there

  pub opening_stands : StandsFor (settings_of p) new (opening_state (settings_of p))
  opening_stands = record {
    stored = record {
      whole = λ at. ap (λ (s : Stored). is_lent s at) is ∙ done.whole at;
      shape = ap (λ (v : TreeOfBlocks). v.shape) (new_tree ∙ tree);
      dims = ap (λ (s : Stored). s.dims) is ∙ done.frame.dims ∙ first.dims;
      cells = new_cells;
      fields = new_fields;
      size = ap (λ (s : Stored). s.size) is ∙ done.frame.size ∙ first.size ∙ ap (λ n. partition_size p.pack_size n) (sym count);
    };
    state = λ m other. same_state m l new (other.dims ∙ ap (λ (s : Stored). s.dims) is ∙ done.frame.dims ∙ first.dims ∙ sym dims) (other.cells ∙ new_cells ∙ sym cells) ∙ state_is;
  }

  pub opening_fresh : IsFresh new
  opening_fresh = record {
    stamps = λ at buf there.
        let inside : IsIn new at = buffer_inside new at buf kept there in
        (here at.block at.field (omega (arith, inside.block, count)) (omega (arith, inside.field, new_fields))).stamps buf there;
    epochs = ap (λ (s : Stored). s.epochs) is ∙ ap (λ n. replicate {A = ℕ} n 0) (sym (ap (λ (s : Stored). list_count s) is));
  }
