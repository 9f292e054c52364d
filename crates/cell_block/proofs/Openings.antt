-- The buffers with which a mesh state begins.
use Rattle.std.proofs.Common.{◌≡◌, ◌≢◌, ◌∙◌, sym, ap, subst, refl, inl, inr, ℕ, zero, suc, ◌+◌, ◌*◌, ◌/◌, ◌%◌, ◌<◌, ◌≤◌, ◌^◌, ◌&&◌, Bool, true, false, cond, nat_lt, Option, None, Some, List, [], ◌∷◌, length, replicate, slice_index, slice_index_or, slice_set, arith}
use Rattle.std.specs.Prelude.{Err, Ok, OnOk, Result, flat_map, unwrap_or}
use Rattle.std.specs.List.{range_with_len}
use Rattle.std.proofs.Math.Nat.{mul-le-mul}
use Rattle.std.proofs.lemmas.Bool.{cases_eq, cases_lt, cond-true, cond-false, lt-ltb}
use Rattle.std.proofs.lemmas.List.{get_or_past, get_or-replicate, get_or-set_same, get_or-set_other, length-append, length-replicate, length-set}
use Rattle.morton_order.specs.declared.space.Loc.{Loc}
use Rattle.morton_order.specs.declared.space.Shape.{Shape}
use Rattle.morton_order.specs.Space.{IsShape, root_along}
use Rattle.block_tree.specs.Blocks.{IsBlockTree, TreeOfBlocks, leaves}
use Rattle.block_tree.specs.Leaves.{begins_inside, pieces, roots, roots_in}
use Rattle.block_tree.specs.Tree.{is_listed}
use Rattle.block_tree.proofs.Counting.{leaf_count}
use Rattle.problem_set.specs.Settings.{Settings}
use Rattle.block_layout.specs.declared.layout.Layout.{Layout}
use Rattle.block_layout.specs.Faces.{face_count}
use Rattle.block_layout.specs.Layouts.{len}
use Rattle.sparse_pool.specs.declared.place.Place.{Place}
use Rattle.alloc_epochs.specs.Shelf.{place_on}
use Rattle.field_bufs.specs.declared.buf.FieldBuf.{FieldBuf}
use Rattle.field_bufs.specs.Buffers.{zeros}
use Rattle.mesh_rules.specs.Sums.{table}
use Rattle.mesh_rules.specs.Fields.{field_count, is_sparse}
use Rattle.mesh_rules.specs.Due.{partition_size}
use Rattle.cell_block.specs.State.{Entry, entry_in}
use Rattle.cell_block.specs.Rules.{IsLayoutFor, opening_entry, opening_stored}
use Rattle.cell_block.specs.Partitions.{lists_of}
use Rattle.cell_block.specs.Store.{IsPlaced, Placed, nothing_placed, with_come}
use Rattle.cell_block.specs.Whole.{AddsOn, AreBuffers, AreOpened, AreStored, opening_placed, stored, zero_entry}
use Rattle.cell_block.proofs.Tables.{table_at, table_length, table_same}
use Rattle.cell_block.proofs.Grids.{at_place, cases_place, one_place, put_at, put_other, put_same, row_of, same_grids}
use Rattle.cell_block.proofs.Buffers.{MayStand, buf_of, buffers_by, none_stands, one_stands}
use Rattle.cell_block.proofs.Layouts.{like}

abbrev no_entry : Option Entry
no_entry = None

-- nothing is added at first
pub adds_none : (l : Layout) (field : ℕ) (s : Placed) → AddsOn l field 0 s s
adds_none l field s = record {
  size = refl;
  leaf_rows = refl;
  numbers = refl;
  added = λ at none e. absurd (omega (arith, none));
  later = λ at le. refl;
  others = λ at ne. refl;
  epochs = λ most each list. (let h = each list in omega (arith, h));
}

-- an epoch that rose by one
risen : (epochs : List ℕ) (i list most : ℕ) → ((k : ℕ) → slice_index epochs k ≤ most) → slice_index (slice_set epochs i (slice_index epochs i + 1)) list ≤ most + 1
risen epochs i list most each =
    let v = slice_index epochs i + 1 in
    let here = each i in
    let there = each list in
    elim (cases_eq list i) [
      | inl e ↦ elim (cases_lt i (length epochs)) [
        | inl lt ↦ omega (arith, here, ap (slice_index (slice_set epochs i v)) e, get_or-set_same epochs i v 0 lt)
        | inr past ↦ omega (arith, get_or_past (slice_set epochs i v) list 0 (omega (arith, past, e, length-set epochs i v)))
      ]
      | inr ne ↦ omega (arith, there, get_or-set_other epochs i list v 0 ne)
    ]

-- one block more
pub adds_more : (l : Layout) (field block : ℕ) (old now new : Placed) → AddsOn l field block old now → IsPlaced now → block < now.leaves → field < now.fields
    → new ≡ record (with_come now (place_on block field) (Some (zero_entry l block field))) { spares = new.spares } → AddsOn l field (block + 1) old new
adds_more l field block old now new adds shape lt less is =
    let at : Place = place_on block field in
    let e : Option Entry = Some (zero_entry l block field) in
    let places : new.places ≡ put_at now.places at e = ap (λ (s : Placed). s.places) is in
    let there : block < length now.places = omega (arith, shape.blocks, lt) in
    let here : entry_in new.places at ≡ e = ap (λ (ps : List (List (Option Entry))). entry_in ps at) places ∙ put_same now.places at e there (omega (arith, shape.rows block lt, less)) in
    let other : (p : Place) → p ≢ at → entry_in new.places p ≡ entry_in now.places p = λ p ne. ap (λ (ps : List (List (Option Entry))). entry_in ps p) places ∙ put_other now.places at p e there ne in
    record {
      size = ap (λ (s : Placed). s.size) is ∙ adds.size;
      leaf_rows = ap (λ (s : Placed). s.leaves) is ∙ adds.leaf_rows;
      numbers = ap (λ (s : Placed). s.fields) is ∙ adds.numbers;
      added = λ p below f. elim (cases_place p at) [
        | inl same ↦ ap (λ (q : Place). entry_in new.places q) same ∙ here ∙ ap (λ (q : Place). Some (zero_entry l q.block q.field)) (sym same)
        | inr ne ↦
            let before : p.block < block = elim (cases_eq p.block block) [
              | inl b ↦ absurd (ne (one_place p at b f))
              | inr far ↦ omega (arith, far, below)
            ] in
            other p ne ∙ adds.added p before f
      ];
      later = λ p le. other p (λ same. (let b = ap (λ (q : Place). q.block) same in omega (arith, b, le))) ∙ adds.later p (omega (arith, le));
      others = λ p ne. other p (λ same. ne (ap (λ (q : Place). q.field) same)) ∙ adds.others p ne;
      epochs = λ most each list.
          (let epochs : new.epochs ≡ slice_set now.epochs (block / now.size) (slice_index now.epochs (block / now.size) + 1) = ap (λ (s : Placed). s.epochs) is in
          let bound = risen now.epochs (block / now.size) list (most + block) (adds.epochs most each) in
          omega (arith, bound, ap (λ (es : List ℕ). slice_index es list) epochs));
    }

-- nothing is opened at first
pub opened_none : (p : Settings) (l : Layout) (size count numbers : ℕ) (s : Placed) → s.leaves ≡ count → s.fields ≡ numbers → ((at : Place) → entry_in s.places at ≡ None) → ((list : ℕ) → slice_index s.epochs list ≡ 0)
    → AreOpened p l count numbers 0 s
opened_none p l size count numbers s leaves_are fields_are none epochs = record {
  leaves_are = leaves_are;
  fields_are = fields_are;
  opened = λ at b f. absurd (omega (arith, f));
  closed = λ at le. none at;
  epochs = λ list. (let e = epochs list in omega (arith, e));
}

-- where nothing is kept
nothing_at : (count numbers : ℕ) (at : Place) → at_place (replicate count (replicate numbers no_entry)) at ≡ None
nothing_at count numbers at =
    let row = replicate numbers no_entry in
    elim (cases_lt at.block count) [
      | inl b ↦ ap (λ (r : List (Option Entry)). slice_index_or r at.field None) (get_or-replicate count at.block row [] b)
          ∙ elim (cases_lt at.field numbers) [
            | inl f ↦ get_or-replicate numbers at.field no_entry None f
            | inr past ↦ get_or_past row at.field None (omega (arith, past, length-replicate numbers no_entry))
          ]
      | inr past ↦ ap (λ (r : List (Option Entry)). slice_index_or r at.field None) (get_or_past (replicate count row) at.block [] (omega (arith, past, length-replicate count row)))
    ]

zeros_at : (n k : ℕ) → slice_index (replicate n 0) k ≡ 0
zeros_at n k = elim (cases_lt k n) [
  | inl lt ↦ get_or-replicate n k 0 0 lt
  | inr past ↦ (let long : length (replicate n 0) ≡ n = length-replicate n (let z : ℕ = 0 in z) in get_or_past (replicate n 0) k 0 (omega (arith, past, long)))
]

pub opened_new : (p : Settings) (l : Layout) (size count numbers fields : ℕ) (s : Placed) → s ≡ nothing_placed size count fields → fields ≡ numbers → AreOpened p l count numbers 0 s
opened_new p l size count numbers fields s is same =
    opened_none p l size count numbers s (ap (λ (v : Placed). v.leaves) is) (ap (λ (v : Placed). v.fields) is ∙ same)
    (λ at. ap (λ (v : Placed). entry_in v.places at) is ∙ nothing_at count fields at)
    (λ list. ap (λ (v : Placed). slice_index v.epochs list) is ∙ zeros_at (lists_of size count) list)

-- what follows of an answer that is Ok
pub on_ok : {T E : Type 0} (r : Result T E) (P Q : Type 0) → (P → Q) → OnOk r P → OnOk r Q
on_ok (Ok x) P Q f h = f h
on_ok (Err e) P Q f h = h

-- a field that no block may go without was added
pub opened_dense : (p : Settings) (l : Layout) (count numbers field : ℕ) (old new : Placed) → AreOpened p l count numbers field old → is_sparse p field ≡ false → AddsOn l field count old new → AreOpened p l count numbers (field + 1) new
opened_dense p l count numbers field old new opened dense adds = record {
  leaves_are = adds.leaf_rows ∙ opened.leaves_are;
  fields_are = adds.numbers ∙ opened.fields_are;
  opened = λ at b f. elim (cases_eq at.field field) [
    | inl e ↦ adds.added at b e ∙ sym (cond-false (is_sparse p at.field) None (Some (zero_entry l at.block at.field)) (ap (is_sparse p) e ∙ dense))
    | inr ne ↦ adds.others at ne ∙ opened.opened at b (omega (arith, ne, f))
  ];
  closed = λ at le. adds.others at (λ e. omega (arith, e, le)) ∙ opened.closed at (omega (arith, le));
  epochs = λ list. (let h = adds.epochs (field * count) opened.epochs list in omega (arith, h));
}

-- a sparse one was passed over
pub opened_sparse : (p : Settings) (l : Layout) (count numbers field : ℕ) (s : Placed) → AreOpened p l count numbers field s → is_sparse p field ≡ true → AreOpened p l count numbers (field + 1) s
opened_sparse p l count numbers field s opened sparse = record {
  leaves_are = opened.leaves_are;
  fields_are = opened.fields_are;
  opened = λ at b f. elim (cases_eq at.field field) [
    | inl e ↦ opened.closed at (omega (arith, e)) ∙ sym (cond-true (is_sparse p at.field) None (Some (zero_entry l at.block at.field)) (ap (is_sparse p) e ∙ sparse))
    | inr ne ↦ opened.opened at b (omega (arith, ne, f))
  ];
  closed = λ at le. opened.closed at (omega (arith, le));
  epochs = λ list. (let h = opened.epochs list in omega (arith, h));
}

pub few_epochs : (field count : ℕ) → field ≤ 256 → count ≤ 65536 → field * count ≤ 2 ^ 62
few_epochs field count few most = let h : field * count ≤ 256 * 65536 = mul-le-mul few most in omega (arith, h)

-- all fields were opened
opening_places : Settings → Layout → ℕ → ℕ → List (List (Option Entry))
opening_places p l count numbers = table count (λ block. table numbers (opening_entry p l block))

pub opened_value : (p : Settings) (l : Layout) (size count numbers : ℕ) (s new : Placed) → s.size ≡ size → AreOpened p l count numbers numbers s → IsPlaced s → new ≡ record s { epochs = replicate (lists_of s.size s.leaves) 0 }
    → new ≡ record { size = size; leaves = count; fields = numbers; places = table count (λ block. table numbers (opening_entry p l block)); epochs = replicate (lists_of size count) 0; spares = new.spares }
opened_value p l size count numbers s new size_is opened shape is =
    let each = λ (block : ℕ). table numbers (opening_entry p l block) in
    let places : s.places ≡ table count each = same_grids s.places (table count each) count numbers (shape.blocks ∙ opened.leaves_are) (table_length count each)
    (λ b lt. shape.rows b (omega (arith, lt, opened.leaves_are)) ∙ opened.fields_are)
    (λ b lt. ap (λ (r : List (Option Entry)). length r) (table_at count each b [] lt) ∙ table_length numbers (opening_entry p l b))
    (λ at b f. opened.opened at b f ∙ sym (ap (λ (r : List (Option Entry)). slice_index_or r at.field None) (table_at count each at.block [] b) ∙ table_at numbers (opening_entry p l at.block) at.field None f)) in
    let spares : new.spares ≡ s.spares = ap (λ (v : Placed). v.spares) is in
    is
    ∙ ap (λ (n : ℕ). let v : Placed = record { size = n; leaves = s.leaves; fields = s.fields; places = s.places; epochs = replicate (lists_of n s.leaves) 0; spares = s.spares } in v) size_is
    ∙ ap (λ (n : ℕ). let v : Placed = record { size = size; leaves = n; fields = s.fields; places = s.places; epochs = replicate (lists_of size n) 0; spares = s.spares } in v) opened.leaves_are
    ∙ ap (λ (n : ℕ). let v : Placed = record { size = size; leaves = count; fields = n; places = s.places; epochs = replicate (lists_of size count) 0; spares = s.spares } in v) opened.fields_are
    ∙ ap (λ (ps : List (List (Option Entry))). let v : Placed = record { size = size; leaves = count; fields = numbers; places = ps; epochs = replicate (lists_of size count) 0; spares = s.spares } in v) places
    ∙ ap (λ (ns : List ℕ). let v : Placed = record { size = size; leaves = count; fields = numbers; places = table count each; epochs = replicate (lists_of size count) 0; spares = ns } in v) (sym spares)

-- the zeros stand where they have to
opening_stands : (p : Settings) (l : Layout) (at : Place) (buf : FieldBuf) (b : Bool) → is_sparse p at.field ≡ b → buf_of (opening_entry p l at.block at.field) ≡ Some buf → MayStand l at buf
opening_stands p l at buf true sparse e = none_stands l at buf (sym (ap buf_of (cond-true (is_sparse p at.field) None (Some (zero_entry l at.block at.field)) sparse)) ∙ e)
opening_stands p l at buf false dense e =
    let it = zeros (len l) (face_count l) at.block at.field 0 in
    one_stands l at it buf (record { own = refl; fit = record { cells = length-replicate (len l) 0; right = length-replicate (face_count l) 0; left = length-replicate (face_count l) 0 } })
    (sym (ap buf_of (cond-false (is_sparse p at.field) None (Some (zero_entry l at.block at.field)) dense)) ∙ e)

pub opening_buffers : (p : Settings) (l : Layout) (count numbers : ℕ) → AreBuffers l (table count (λ block. table numbers (opening_entry p l block)))
opening_buffers p l count numbers =
    let each = λ (block : ℕ). table numbers (opening_entry p l block) in
    buffers_by l (table count each) (λ at buf e. elim (cases_lt at.block count) [
      | inl b ↦
          let row : row_of (table count each) at.block ≡ each at.block = table_at count each at.block [] b in
          elim (cases_lt at.field numbers) [
            | inl f ↦ opening_stands p l at buf (is_sparse p at.field) refl (sym (ap buf_of (ap (λ (r : List (Option Entry)). slice_index_or r at.field None) row ∙ table_at numbers (opening_entry p l at.block) at.field None f)) ∙ e)
            | inr past ↦ none_stands l at buf (sym (ap buf_of (ap (λ (r : List (Option Entry)). slice_index_or r at.field None) row ∙ get_or_past (each at.block) at.field None (omega (arith, past, table_length numbers (opening_entry p l at.block))))) ∙ e)
          ]
      | inr past ↦ none_stands l at buf (sym (ap (λ (r : List (Option Entry)). buf_of (slice_index_or r at.field None)) (get_or_past (table count each) at.block [] (omega (arith, past, table_length count each)))) ∙ e)
    ])

-- what is opened does not ask why the layout is sound
pub opening_like : (p : Settings) (l other : Layout) (block f : ℕ) → other.dims ≡ l.dims → other.cells ≡ l.cells → opening_entry p other block f ≡ opening_entry p l block f
opening_like p l other block f dims cells =
    ap (λ (n : ℕ). cond (is_sparse p f) None (Some (record { idle = 0; buf = Some (zeros n (face_count other) block f 0) }))) (like len l other dims cells (λ s. refl))
    ∙ ap (λ (n : ℕ). cond (is_sparse p f) None (Some (record { idle = 0; buf = Some (zeros (len l) n block f 0) }))) (like face_count l other dims cells (λ s. refl))

-- a tree has a leaf
first_begins : (s : Shape) (k : ℕ) → IsShape s → begins_inside s k 0 0 0 ≡ true
first_begins s k shape =
    let one = begins (root_along s 0) k (shape.roots1.0) in
    let two = begins (root_along s 1) k (shape.roots2.0) in
    let three = begins (root_along s 2) k (shape.roots3.0) in
    ap (λ (b : Bool). b && nat_lt (0 * 2 ^ k) (root_along s 1) && nat_lt (0 * 2 ^ k) (root_along s 2)) one
    ∙ ap (λ (b : Bool). b && nat_lt (0 * 2 ^ k) (root_along s 2)) two ∙ three
  where
    begins : (n k : ℕ) → 1 ≤ n → nat_lt (0 * 2 ^ k) n ≡ true
    begins n k h = lt-ltb (0 * 2 ^ k) n (omega (arith, h))

first_in : (k : ℕ) (s : Shape) → IsShape s → 1 ≤ length (roots_in k s 0 0 0)
first_in zero s shape =
    let l : Loc = record { level = 0; l1 = 0; l2 = 0; l3 = 0 } in
    subst (λ (b : Bool). 1 ≤ length (cond b (l ∷ []) [])) (sym (first_begins s 0 shape)) (omega arith)
first_in (suc k) s shape =
    let each : ℕ → List Loc = λ j. roots_in k s (2 * 0 + j % 2) (2 * 0 + j / 2 % 2) (2 * 0 + j / 4) in
    let rest = flat_map each (range_with_len 1 7) in
    subst (λ (b : Bool). 1 ≤ length (pieces b 8 each [])) (sym (first_begins s (suc k) shape))
    (omega (arith, length-append (each 0) rest, first_in k s shape))

pub some_leaves : (t : TreeOfBlocks) → IsBlockTree t → 1 ≤ length (leaves t)
unfolding roots
some_leaves t tree = omega (arith, leaf_count t.shape (is_listed t.inner) tree.shape, first_in 16 t.shape tree.shape)

-- the size of a partition
pub size_is : (o : Option ℕ) (n : ℕ) → unwrap_or o n ≡ partition_size o n
size_is None n = refl
size_is (Some k) n = refl

pub size_least : (o : Option ℕ) (n : ℕ) → ((k : ℕ) → o ≡ Some k → 1 ≤ k) → 1 ≤ n → 1 ≤ unwrap_or o n
size_least None n each some = some
size_least (Some k) n each some = each k refl

pub size_most : (o : Option ℕ) (n : ℕ) → ((k : ℕ) → o ≡ Some k → k ≤ 65536) → n ≤ 65536 → unwrap_or o n ≤ 65536
size_most None n each few = few
size_most (Some k) n each few = each k refl

-- the state that is made of the parts
pub empty_value : (p : Settings) (t tree : TreeOfBlocks) (own l : Layout) (size n : ℕ) (s : Placed) (counters : List ℕ) → tree ≡ t → own.dims ≡ p.shape.dims → own.cells ≡ p.cells → IsLayoutFor p l
    → n ≡ length (leaves t) → size ≡ partition_size p.pack_size n → s ≡ opening_placed p own size n s.spares → counters ≡ replicate n 0 → stored tree own s counters ≡ opening_stored p l t s.spares
empty_value p t tree own l size n s counters tree_is dims cells is n_is size_of s_is counters_are =
    let spares = s.spares in
    let goal = λ (k : ℕ). record (opening_stored p l t spares) {
      size = partition_size p.pack_size k;
      places = table k (λ block. table (field_count p) (opening_entry p l block));
      counters = replicate k 0;
      epochs = replicate (lists_of (partition_size p.pack_size k) k) 0;
    } in
    let same : table n (λ block. table (field_count p) (opening_entry p own block)) ≡ table n (λ block. table (field_count p) (opening_entry p l block)) =
    table_same n (λ block. table (field_count p) (opening_entry p own block)) (λ block. table (field_count p) (opening_entry p l block)) []
    (λ block lt. table_same (field_count p) (opening_entry p own block) (opening_entry p l block) None (λ f less. opening_like p l own block f (dims ∙ sym is.dims) (cells ∙ sym is.cells))) in
    ap (λ (v : TreeOfBlocks). stored v own s counters) tree_is
    ∙ ap (λ (v : Placed). stored t own v counters) s_is
    ∙ ap (λ (cs : List ℕ). stored t own (opening_placed p own size n spares) cs) counters_are
    ∙ ap (λ (k : ℕ). stored t own (opening_placed p own k n spares) (replicate n 0)) size_of
    ∙ ap (λ (ps : List (List (Option Entry))). record (stored t own (opening_placed p own (partition_size p.pack_size n) n spares) (replicate n 0)) { places = ps }) same
    ∙ ap (λ (d : ℕ). record (goal n) { dims = d; cells = own.cells }) dims
    ∙ ap (λ (cs : List ℕ). record (goal n) { cells = cs }) cells
    ∙ ap goal n_is

pub empty_stored : (p : Settings) (t tree : TreeOfBlocks) (own : Layout) (size n : ℕ) (s : Placed) (counters : List ℕ) → tree ≡ t → n ≡ length (leaves t) → s ≡ opening_placed p own size n s.spares
    → counters ≡ replicate n 0 → AreStored tree own s counters
empty_stored p t tree own size n s counters tree_is n_is s_is counters_are =
    let many : length (replicate n 0) ≡ n = length-replicate n (let z : ℕ = 0 in z) in
    let same : length (leaves t) ≡ length (leaves tree) = ap (λ (v : TreeOfBlocks). length (leaves v)) (sym tree_is) in
    record {
      leaf_rows = ap (λ (v : Placed). v.leaves) s_is ∙ n_is ∙ same;
      counters_long = ap (λ (cs : List ℕ). length cs) counters_are ∙ many ∙ n_is ∙ same;
      buffers = subst (AreBuffers own) (sym (ap (λ (v : Placed). v.places) s_is)) (opening_buffers p own n (field_count p));
    }
