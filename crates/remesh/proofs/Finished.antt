-- The mesh state on the next tree, from what was there at the start and what was carried over.
use Rattle.std.proofs.Common.{◌≡◌, ℕ, ◌<◌, ◌≤◌, Bool, true, false, Option, Some, None, List, length, replicate, slice_index, refl, arith, ap, subst, sym, ◌∙◌}
use Rattle.std.specs.List.{position_or_len, slice_index_or}
use Rattle.std.proofs.lemmas.Bool.{false≢true}
use Rattle.std.proofs.lemmas.Option.{slice_get-get_or}
use Rattle.morton_order.specs.declared.space.Loc.{Loc}
use Rattle.morton_order.specs.declared.space.Shape.{Shape}
use Rattle.morton_order.specs.Space.{child, parts, same_loc}
use Rattle.morton_order.proofs.Any.{any_range-has}
use Rattle.block_tree.specs.Blocks.{IsBlockTree, TreeOfBlocks, is_inner_of, leaves}
use Rattle.block_tree.specs.Nodes.{number_in}
use Rattle.block_tree.specs.Tree.{IsLeaf}
use Rattle.block_tree.proofs.Numbers.{number_below}
use Rattle.block_layout.specs.declared.layout.Layout.{Layout}
use Rattle.alloc_epochs.specs.Shelf.{place_on}
use Rattle.sparse_pool.specs.declared.place.Place.{Place}
use Rattle.field_bufs.specs.declared.buf.FieldBuf.{FieldBuf}
use Rattle.problem_set.specs.Settings.{Settings}
use Rattle.mesh_rules.specs.Fields.{field_count, is_sparse}
use Rattle.dense_remesh.specs.declared.origins.Origin.{Origin}
use Rattle.dense_remesh.specs.declared.origins.Origin.TheVariants.{Leaf, Parent, Children}
use Rattle.dense_remesh.specs.Origins.{AreOrigins, IsOrigin}
use Rattle.dense_remesh.proofs.Numbers.{leaf_at}
use Rattle.dense_remesh.proofs.Taken.{all_children, leaf_number_in, parent_says}
use Rattle.cell_block.specs.State.{HasLayout, IsIn, IsStored, Stored, buffer_at, entry_at, is_lent, leaf_count, list_count}
use Rattle.cell_block.specs.Rules.{IsLayoutFor}
use Rattle.remesh.specs.Lists.{lists_in}
use Rattle.remesh.specs.Remaps.{CanRemap, IsFresh, IsRemapOf}
use Rattle.remesh.specs.Sources.{comes_to, is_on}
use Rattle.remesh.specs.Carries.{AreCarriedTo, CanCarryAll, CanCarryEach, Carries}
use Rattle.remesh.specs.Leaves.{leaf_on, origin_on}
use Rattle.remesh.proofs.InLists.{Remap, can_take_there, next_shape, numbers_there, remeshes}
use Rattle.remesh.proofs.Nothing.{parts_some}
use Rattle.remesh.proofs.Opened.{IsOpened, buffer_inside, opened_absent, opened_whole}
use Rattle.remesh.proofs.Remapped.{IsCarried, stands_for}

-- a field that no block may go without comes to each leaf
always_comes : (p : Settings) (old : Stored) (next : TreeOfBlocks) (l : Layout) → Remap p old next l → (at : Loc) → IsLeaf old.tree.shape (is_inner_of next) at → (o : Origin) → IsOrigin old.tree at o → (f : ℕ) → f < old.fields → is_sparse p f ≡ false →
    comes_to old o f ≡ true
always_comes p old next l r at leaf (Leaf x) is f some dense = r.can.always x f (number_below (leaves old.tree) at x is) some dense
always_comes p old next l r at leaf (Parent x) is f some dense = let says = parent_says old.tree at x is.above in r.can.always x f (number_below (leaves old.tree) _ x says.number) some dense
always_comes p old next l r at leaf (Children numbers) is f some dense =
    let rem = remeshes p old next l r in
    let c : Loc = child old.tree.shape.dims at 0 in
    let number = leaf_number_in p old.tree l (lists_in l old) rem.mesh c (all_children p old.tree next l (lists_in l old) rem at numbers leaf is 0) in
    let x : ℕ = position_or_len (same_loc c) (leaves old.tree) in
    let first : slice_index_or numbers 0 None ≡ Some x = is.below 0 (parts_some old.tree.shape.dims) ∙ number in
    let on : is_on old (slice_index_or numbers 0 None) f ≡ true = ap (λ (o : Option ℕ). is_on old o f) first ∙ r.can.always x f (number_below (leaves old.tree) c x number) some dense in
    any_range-has (λ j. is_on old (slice_index_or numbers j None) f) 0 (parts old.dims) 0 (omega arith) (omega (arith, parts_some old.dims)) on

-- a leaf of the next tree
leaf_there : (p : Settings) (old : Stored) (next : TreeOfBlocks) (l : Layout) → Remap p old next l → (k : ℕ) → k < length (leaves next) → IsLeaf old.tree.shape (is_inner_of next) (leaf_on next k)
leaf_there p old next l r k small =
    subst (λ (s : Shape). IsLeaf s (is_inner_of next) (leaf_on next k)) (next_shape p old next l r)
    (leaf_at next r.next_kept k (leaf_on next k) (slice_get-get_or (leaves next) k (record { level = 0; l1 = 0; l2 = 0; l3 = 0 }) small))

origin_there : (old : Stored) (next : TreeOfBlocks) (origins : List Origin) → AreOrigins old.tree (leaves next) origins → (k : ℕ) → k < length (leaves next) → IsOrigin old.tree (leaf_on next k) (origin_on origins k)
origin_there old next origins are k small = are.each k (record { level = 0; l1 = 0; l2 = 0; l3 = 0 }) (Leaf 0) small

pub can_carry_all : (p : Settings) (old : Stored) (next : TreeOfBlocks) (l : Layout) (origins : List Origin) (m : Stored) → Remap p old next l → AreOrigins old.tree (leaves next) origins → IsOpened p l next m → CanCarryAll l old origins m
can_carry_all p old next l origins m r are opened =
    let stored = r.can.stored in
    let count : leaf_count m ≡ length (leaves next) = ap (λ (t : TreeOfBlocks). length (leaves t)) opened.tree in
    record {
      layout_is = r.layout_is;
      layout_new = record { dims = r.layout_is.dims ∙ stored.dims ∙ sym opened.dims; cells = r.layout_is.cells ∙ stored.cells ∙ sym opened.cells };
      whole_old = stored.whole;
      whole = opened_whole p l next m opened;
      few = r.kept.few_fields;
      fields = opened.fields ∙ sym stored.fields;
      count = are.count ∙ sym count;
      numbers = λ k small. numbers_there old (leaf_on next k) (origin_on origins k) (stored.dims ∙ sym (ap (λ (s : Shape). s.dims) stored.shape)) (origin_there old next origins are k (omega (arith, count, small)));
      can = λ k f small some. can_take_there p old next l r f some (leaf_on next k) (leaf_there p old next l r k (omega (arith, count, small))) (origin_on origins k) (origin_there old next origins are k (omega (arith, count, small)));
      absent = λ k f small some off.
          let low : k < length (leaves next) = omega (arith, count, small) in
          opened_absent p l next m opened k f low (omega (arith, some, stored.fields)) (sparse k f low some off);
      epochs = opened.epochs;
    }
  where
    sparse : (k f : ℕ) → k < length (leaves next) → f < old.fields → comes_to old (origin_on origins k) f ≡ false → is_sparse p f ≡ true
    sparse k f low some off = by (is_sparse p f) refl
      where
        by : (b : Bool) → is_sparse p f ≡ b → b ≡ true
        by true e = refl
        by false e = absurd (false≢true (sym off ∙ always_comes p old next l r (leaf_on next k) (leaf_there p old next l r k low) (origin_on origins k) (origin_there old next origins are k low) f some e))

pub carry_each : (p : Settings) (old : Stored) (next : TreeOfBlocks) (l : Layout) (origins : List Origin) → Remap p old next l → AreOrigins old.tree (leaves next) origins → CanCarryEach l old next origins
carry_each p old next l origins r are = record {
  count = are.count;
  each = λ k small. record {
    layout_is = r.layout_is;
    whole = r.can.stored.whole;
    few = r.kept.few_fields;
    numbers = numbers_there old (leaf_on next k) (origin_on origins k) (r.can.stored.dims ∙ sym (ap (λ (s : Shape). s.dims) r.can.stored.shape)) (origin_there old next origins are k small);
    can = λ f some. can_take_there p old next l r f some (leaf_on next k) (leaf_there p old next l r k small) (origin_on origins k) (origin_there old next origins are k small);
  };
}

-- the new mesh state, with its epochs set to 0
module _ (p : Settings) (old : Stored) (next : TreeOfBlocks) (l : Layout) (origins : List Origin) (start now new : Stored) (r : Remap p old next l) (are : AreOrigins old.tree (leaves next) origins)
    (opened : IsOpened p l next start) (done : AreCarriedTo l old origins start now (leaf_count start)) (kept : IsStored new) (is : new ≡ record now { epochs = replicate (list_count now) 0 }) where
  same_entry : (at : Place) → entry_at new at ≡ entry_at now at
  same_entry at = ap (λ (s : Stored). entry_at s at) is

  count : leaf_count start ≡ length (leaves next)
  count = ap (λ (t : TreeOfBlocks). length (leaves t)) opened.tree

  pub carried : IsCarried p old next l origins new
  carried = record {
    tree = ap (λ (s : Stored). s.tree) is ∙ done.frame.tree ∙ opened.tree;
    dims = ap (λ (s : Stored). s.dims) is ∙ done.frame.dims ∙ opened.dims;
    cells = ap (λ (s : Stored). s.cells) is ∙ done.frame.cells ∙ opened.cells;
    fields = ap (λ (s : Stored). s.fields) is ∙ done.frame.fields ∙ opened.fields;
    size = ap (λ (s : Stored). s.size) is ∙ done.frame.size ∙ opened.size;
    whole = λ at. ap (λ (s : Stored). is_lent s at) is ∙ done.whole at;
    kept_new = kept;
    places = λ k f small some.
        subst (λ (t : TreeOfBlocks). Carries l old (leaf_on t k) (origin_on origins k) f (entry_at new (place_on k f))) opened.tree
        (subst (Carries l old (leaf_on start.tree k) (origin_on origins k) f) (sym (same_entry (place_on k f))) (done.places k f (omega (arith, count, small)) some));
    counters = λ k small. ap (λ (s : Stored). slice_index s.counters k) is ∙ done.counters k (omega (arith, count, small));
  }

  pub remap_stands : IsRemapOf p old next new
  remap_stands = stands_for p old next l origins new r are carried

  pub fresh : IsFresh new
  fresh = record {
    stamps = λ at buf there.
        let inside : IsIn new at = buffer_inside new at buf kept there in
        let low : at.block < length (leaves next) = subst (λ (t : TreeOfBlocks). at.block < length (leaves t)) carried.tree inside.block in
        let few : at.field < old.fields = omega (arith, inside.field, carried.fields, r.can.stored.fields) in
        (carried.places at.block at.field low few).stamps buf there;
    epochs = ap (λ (s : Stored). s.epochs) is ∙ ap (λ n. replicate {A = ℕ} n 0) (sym (ap (λ (s : Stored). list_count s) is));
  }
