-- The shelves of all partitions: new, restarted, with more room, and listed.
use Rattle.std.proofs.Common.{◌≡◌, ◌∙◌, sym, ap, subst, refl, inl, inr, ℕ, zero, suc, ◌+◌, ◌*◌, ◌-◌, ◌/◌, ◌<◌, ◌≤◌, ◌&&◌, Bool, cond, is_some, Option, None, Some, List, [], ◌∷◌, ◌++◌, length, map, replicate, slice_index_or, slice_set, arith}
use Rattle.std.specs.Prelude.{IfNone, IfOk, IfSome, Result, filter, flat_map}
use Rattle.mesh_num.specs.declared.memory.NoMemory.{NoMemory}
use Rattle.std.specs.List.{range_with_len}
use Rattle.std.proofs.Math.Nat.{div-eq_of_lt-le, div-mul-le_self}
use Rattle.std.proofs.lemmas.Bool.{cases_eq}
use Rattle.std.proofs.lemmas.List.{ext_get_or, get_or-map, get_or-replicate, get_or-set_same, get_or-set_other, length-map, length-replicate, length-set}
use Rattle.mesh_rules.specs.Sums.{table}
use Rattle.sparse_pool.specs.declared.place.Place.{Place}
use Rattle.alloc_epochs.specs.declared.finding.KeyedField.{KeyedField}
use Rattle.alloc_epochs.specs.Shelf.{IsNext, IsNoneFrom, Shelved, key_at, listed, listed_on, no_keys, place_on}
use Rattle.cell_block.specs.Partitions.{AreShelves, IsNextOn, IsNoneOnFrom, IsShelfOf, OnShelves, blocks_in, key_on, keyed_in, keyed_on, lists_of, new_shelf, no_shelf, nothing_on, on_shelves, restarted, row_on, shelf_of}
use Rattle.cell_block.proofs.Tables.{table_at, table_length, table_same}
use Rattle.cell_block.proofs.Partitions.{in_list, key_is, row_is, row_within, shelf_at}

-- a partition that there is has a first leaf
pub list_begins : (size leaves list : ℕ) → 1 ≤ size → list < lists_of size leaves → list * size < leaves
list_begins size leaves list some lt =
    let whole = div-mul-le_self (leaves + size - 1) size in
    let more : (list + 1) * size ≤ lists_of size leaves * size = grind arith in
    omega (arith, whole, more)

-- lists of which each item gives one number
map_constant : {X : Type 0} (f : X → ℕ) (d : X) (v : ℕ) (xs : List X) (n : ℕ) → length xs ≡ n → ((k : ℕ) → k < n → f (slice_index_or xs k d) ≡ v) → map f xs ≡ replicate n v
map_constant f d v xs n long same =
    ext_get_or 0 (map f xs) (replicate n v) (length-map xs f ∙ long ∙ sym (length-replicate n v))
    (λ k lt. let below : k < n = omega (arith, lt, length-map xs f, long) in
    get_or-map f xs k d 0 (omega (arith, below, long)) ∙ same k below ∙ sym (get_or-replicate n k v 0 below))

-- the new shelves
pub new_are : (size leaves fields : ℕ) → 1 ≤ size → size ≤ 65536 → leaves ≤ 65536 → fields ≤ 256 → AreShelves size leaves fields (table (lists_of size leaves) (new_shelf size leaves fields))
new_are size leaves fields some most few_leaves few_fields =
    let n = lists_of size leaves in
    let each = new_shelf size leaves fields in
    record {
      some = some;
      most = most;
      few_leaves = few_leaves;
      few_fields = few_fields;
      count = table_length n each;
      each = λ list lt. subst (λ (s : Shelved). IsShelfOf size leaves fields list s) (sym (table_at n each list no_shelf (omega (arith, lt, table_length n each)))) (record {
        first = refl;
        numbers = refl;
        blocks = length-replicate (blocks_in size leaves list) (replicate fields None);
        rows = λ row below. ap (λ (ks : List (Option ℕ)). length ks) (get_or-replicate (blocks_in size leaves list) row (replicate fields None) [] (omega (arith, below, length-replicate (blocks_in size leaves list) (replicate fields (let o : Option ℕ = None in o))))) ∙ length-replicate fields None;
      });
    }

pub new_value : (size leaves fields : ℕ) → 1 ≤ size → size ≤ 65536 → leaves ≤ 65536 → fields ≤ 256
    → on_shelves size leaves fields (table (lists_of size leaves) (new_shelf size leaves fields)) ≡ nothing_on size leaves fields
new_value size leaves fields some most few_leaves few_fields =
    let n = lists_of size leaves in
    let each = new_shelf size leaves fields in
    let shelves = table n each in
    let are = new_are size leaves fields some most few_leaves few_fields in
    let row : List (Option ℕ) = replicate fields None in
    let keys : table leaves (row_on size shelves) ≡ no_keys leaves fields =
    ext_get_or [] (table leaves (row_on size shelves)) (replicate leaves row) (table_length leaves (row_on size shelves) ∙ sym (length-replicate leaves row))
    (λ b lt. let within : b < leaves = omega (arith, lt, table_length leaves (row_on size shelves)) in
    let i = b - b / size * size in
    let shelf : shelf_of size shelves b ≡ each (b / size) = table_at n each (b / size) no_shelf (in_list size leaves b some within).list in
    let inside : i < blocks_in size leaves (b / size) = omega (arith, row_within size leaves fields shelves b are within, (shelf_at size leaves fields shelves b are within).blocks) in
    table_at leaves (row_on size shelves) b [] within
    ∙ row_is size leaves fields shelves b are within
    ∙ ap (λ (s : Shelved). slice_index_or s.keys i []) shelf
    ∙ get_or-replicate (blocks_in size leaves (b / size)) i row [] inside
    ∙ sym (get_or-replicate leaves b row [] within)) in
    let epochs = map_constant (λ (s : Shelved). s.epoch) no_shelf 0 shelves n (table_length n each) (λ k lt. ap (λ (s : Shelved). s.epoch) (table_at n each k no_shelf lt)) in
    let spares = map_constant (λ (s : Shelved). s.spare) no_shelf 0 shelves n (table_length n each) (λ k lt. ap (λ (s : Shelved). s.spare) (table_at n each k no_shelf lt)) in
    ap (λ (ks : List (List (Option ℕ))). record (on_shelves size leaves fields shelves) { keys = ks }) keys
    ∙ ap (λ (es : List ℕ). record (nothing_on size leaves fields) { epochs = es; spares = map (λ (s : Shelved). s.spare) shelves }) epochs
    ∙ ap (λ (es : List ℕ). record (nothing_on size leaves fields) { spares = es }) spares

-- shelves that differ in their epochs and their room alone
pub record AreAlike (old new : List Shelved) : Type 0 where
  pub count : length new ≡ length old
  pub first : (k : ℕ) → k < length old → (slice_index_or new k no_shelf).first ≡ (slice_index_or old k no_shelf).first
  pub numbers : (k : ℕ) → k < length old → (slice_index_or new k no_shelf).fields ≡ (slice_index_or old k no_shelf).fields
  pub keys : (k : ℕ) → k < length old → (slice_index_or new k no_shelf).keys ≡ (slice_index_or old k no_shelf).keys

pub alike_are : (size leaves fields : ℕ) (old new : List Shelved) → AreShelves size leaves fields old → AreAlike old new → AreShelves size leaves fields new
alike_are size leaves fields old new are alike = record {
  some = are.some;
  most = are.most;
  few_leaves = are.few_leaves;
  few_fields = are.few_fields;
  count = alike.count ∙ are.count;
  each = λ list lt.
      let below : list < length old = omega (arith, lt, alike.count) in
      let is = are.each list below in
      let same : (slice_index_or new list no_shelf).keys ≡ (slice_index_or old list no_shelf).keys = alike.keys list below in
      record {
        first = alike.first list below ∙ is.first;
        numbers = alike.numbers list below ∙ is.numbers;
        blocks = ap (λ (ks : List (List (Option ℕ))). length ks) same ∙ is.blocks;
        rows = λ row r. ap (λ (ks : List (List (Option ℕ))). length (slice_index_or ks row [])) same ∙ is.rows row (omega (arith, r, ap (λ (ks : List (List (Option ℕ))). length ks) same));
      };
}

pub alike_keys : (size leaves fields : ℕ) (old new : List Shelved) → AreShelves size leaves fields old → AreAlike old new → table leaves (row_on size new) ≡ table leaves (row_on size old)
alike_keys size leaves fields old new are alike = table_same leaves (row_on size new) (row_on size old) [] (λ b within.
    row_is size leaves fields new b (alike_are size leaves fields old new are alike) within
    ∙ ap (λ (ks : List (List (Option ℕ))). slice_index_or ks (b - b / size * size) []) (alike.keys (b / size) (omega (arith, are.count, (in_list size leaves b are.some within).list)))
    ∙ sym (row_is size leaves fields old b are within))

-- restarted shelves
pub restarted_alike : (shelves : List Shelved) → AreAlike shelves (map restarted shelves)
restarted_alike shelves = record {
  count = length-map shelves restarted;
  first = λ k lt. ap (λ (s : Shelved). s.first) (get_or-map restarted shelves k no_shelf no_shelf lt);
  numbers = λ k lt. ap (λ (s : Shelved). s.fields) (get_or-map restarted shelves k no_shelf no_shelf lt);
  keys = λ k lt. ap (λ (s : Shelved). s.keys) (get_or-map restarted shelves k no_shelf no_shelf lt);
}

same_spares : (shelves : List Shelved) → map (λ (s : Shelved). s.spare) (map restarted shelves) ≡ map (λ (s : Shelved). s.spare) shelves
same_spares [] = refl
same_spares (s ∷ shelves) = ap (λ (ns : List ℕ). s.spare ∷ ns) (same_spares shelves)

pub restarted_value : (size leaves fields : ℕ) (shelves : List Shelved) (s : OnShelves) → on_shelves size leaves fields shelves ≡ s → AreShelves size leaves fields shelves
    → on_shelves size leaves fields (map restarted shelves) ≡ record s { epochs = replicate (lists_of s.size s.leaves) 0 }
restarted_value size leaves fields shelves s is are =
    let new = map restarted shelves in
    let epochs = map_constant (λ (v : Shelved). v.epoch) no_shelf 0 new (lists_of size leaves) (length-map shelves restarted ∙ are.count) (λ k lt. ap (λ (v : Shelved). v.epoch) (get_or-map restarted shelves k no_shelf no_shelf (omega (arith, lt, are.count)))) in
    let P = λ (v : OnShelves). on_shelves size leaves fields new ≡ record v { epochs = replicate (lists_of v.size v.leaves) 0 } in
    subst P is (
    ap (λ (ks : List (List (Option ℕ))). record (on_shelves size leaves fields new) { keys = ks }) (alike_keys size leaves fields shelves new are (restarted_alike shelves))
    ∙ ap (λ (es : List ℕ). record (on_shelves size leaves fields shelves) { epochs = es; spares = map (λ (v : Shelved). v.spare) new }) epochs
    ∙ ap (λ (ns : List ℕ). record (on_shelves size leaves fields shelves) { epochs = replicate (lists_of size leaves) 0; spares = ns }) (same_spares shelves))

-- one shelf with other room
pub record IsRoomier (old new : Shelved) : Type 0 where
  pub rest : new ≡ record old { spare = new.spare }

-- what is alike of the shelf that is put is alike of all
put_same : {X : Type 0} (f : Shelved → X) (shelves : List Shelved) (i : ℕ) (new : Shelved) → i < length shelves → f new ≡ f (slice_index_or shelves i no_shelf)
    → (k : ℕ) → f (slice_index_or (slice_set shelves i new) k no_shelf) ≡ f (slice_index_or shelves k no_shelf)
put_same f shelves i new there same k = elim (cases_eq k i) [
  | inl e ↦ ap (λ (n : ℕ). f (slice_index_or (slice_set shelves i new) n no_shelf)) e ∙ ap f (get_or-set_same shelves i new no_shelf there) ∙ same ∙ ap (λ (n : ℕ). f (slice_index_or shelves n no_shelf)) (sym e)
  | inr ne ↦ ap f (get_or-set_other shelves i k new no_shelf ne)
]

roomier_alike : (shelves : List Shelved) (i : ℕ) (new : Shelved) → i < length shelves → IsRoomier (slice_index_or shelves i no_shelf) new → AreAlike shelves (slice_set shelves i new)
roomier_alike shelves i new there roomier = record {
  count = length-set shelves i new;
  first = λ k lt. put_same (λ (s : Shelved). s.first) shelves i new there (ap (λ (s : Shelved). s.first) roomier.rest) k;
  numbers = λ k lt. put_same (λ (s : Shelved). s.fields) shelves i new there (ap (λ (s : Shelved). s.fields) roomier.rest) k;
  keys = λ k lt. put_same (λ (s : Shelved). s.keys) shelves i new there (ap (λ (s : Shelved). s.keys) roomier.rest) k;
}

same_epochs : (shelves : List Shelved) (i : ℕ) (new : Shelved) → i < length shelves → new.epoch ≡ (slice_index_or shelves i no_shelf).epoch
    → map (λ (s : Shelved). s.epoch) (slice_set shelves i new) ≡ map (λ (s : Shelved). s.epoch) shelves
same_epochs shelves i new there same =
    let epoch = λ (s : Shelved). s.epoch in
    let put = slice_set shelves i new in
    ext_get_or 0 (map epoch put) (map epoch shelves) (length-map put epoch ∙ length-set shelves i new ∙ sym (length-map shelves epoch))
    (λ k lt. let below : k < length shelves = omega (arith, lt, length-map put epoch, length-set shelves i new) in
    get_or-map epoch put k no_shelf 0 (omega (arith, below, length-set shelves i new)) ∙ put_same epoch shelves i new there same k ∙ sym (get_or-map epoch shelves k no_shelf 0 below))

pub roomier_value : (size leaves fields : ℕ) (shelves : List Shelved) (i : ℕ) (new : Shelved) (s : OnShelves) → on_shelves size leaves fields shelves ≡ s → AreShelves size leaves fields shelves
    → i < length shelves → IsRoomier (slice_index_or shelves i no_shelf) new
    → on_shelves size leaves fields (slice_set shelves i new) ≡ record s { spares = map (λ (v : Shelved). v.spare) (slice_set shelves i new) }
roomier_value size leaves fields shelves i new s is are there roomier =
    let put = slice_set shelves i new in
    let P = λ (v : OnShelves). on_shelves size leaves fields put ≡ record v { spares = map (λ (w : Shelved). w.spare) put } in
    subst P is (
    ap (λ (ks : List (List (Option ℕ))). record (on_shelves size leaves fields put) { keys = ks }) (alike_keys size leaves fields shelves put are (roomier_alike shelves i new there roomier))
    ∙ ap (λ (es : List ℕ). record (on_shelves size leaves fields shelves) { epochs = es; spares = map (λ (w : Shelved). w.spare) put }) (same_epochs shelves i new there (ap (λ (v : Shelved). v.epoch) roomier.rest)))

-- the next field of a block
pub next_on : (size leaves fields : ℕ) (shelves : List Shelved) (block from : ℕ) (shelf : Shelved) (s : OnShelves) (r : Option KeyedField) → on_shelves size leaves fields shelves ≡ s
    → AreShelves size leaves fields shelves → block < leaves → shelf ≡ shelf_of size shelves block → IfSome r (IsNext shelf block from) → IfSome r (IsNextOn s block from)
next_on size leaves fields shelves block from shelf s None is are within read found = found
next_on size leaves fields shelves block from shelf s (Some next) is are within read found =
    let key = λ (f : ℕ). sym (key_is size leaves fields shelves (place_on block f) within) ∙ sym (ap (λ (v : Shelved). key_at v (place_on block f)) read) in
    subst (λ (v : OnShelves). IsNextOn v block from next) is (record {
      after = found.after;
      within = omega (arith, found.within, ap (λ (v : Shelved). v.fields) read, (shelf_at size leaves fields shelves block are within).numbers);
      has_key = key next.field ∙ found.has_key;
      first = λ f above before. key f ∙ found.first f above before;
    })

pub none_on : (size leaves fields : ℕ) (shelves : List Shelved) (block from : ℕ) (shelf : Shelved) (s : OnShelves) (r : Option KeyedField) → on_shelves size leaves fields shelves ≡ s
    → AreShelves size leaves fields shelves → block < leaves → shelf ≡ shelf_of size shelves block → IfNone r (IsNoneFrom shelf block from) → IfNone r (IsNoneOnFrom s block from)
none_on size leaves fields shelves block from shelf s (Some next) is are within read none = none
none_on size leaves fields shelves block from shelf s None is are within read none =
    let key = λ (f : ℕ). sym (key_is size leaves fields shelves (place_on block f) within) ∙ sym (ap (λ (v : Shelved). key_at v (place_on block f)) read) in
    subst (λ (v : OnShelves). IsNoneOnFrom v block from) is
    (λ f above below. key f ∙ none f above (omega (arith, below, ap (λ (v : Shelved). v.fields) read, (shelf_at size leaves fields shelves block are within).numbers)))

-- filters that pass alike, and lists that are put together of the same
pub filter_same : (p q : Place → Bool) (g : ℕ → Place) (a n : ℕ) → ((k : ℕ) → p (g k) ≡ q (g k)) → filter p (map g (range_with_len a n)) ≡ filter q (map g (range_with_len a n))
filter_same p q g a zero same = refl
filter_same p q g a (suc n) same =
    let rest = map g (range_with_len (a + 1) n) in
    ap (λ (b : Bool). cond b (g a ∷ filter p rest) (filter p rest)) (same a)
    ∙ ap (λ (ps : List Place). cond (q (g a)) (g a ∷ ps) ps) (filter_same p q g (a + 1) n same)

pub flat_same : (f g : ℕ → List Place) (a n : ℕ) → ((k : ℕ) → a ≤ k → k < a + n → f k ≡ g k) → flat_map f (range_with_len a n) ≡ flat_map g (range_with_len a n)
flat_same f g a zero same = refl
flat_same f g a (suc n) same =
    ap (λ (ps : List Place). ps ++ flat_map f (range_with_len (a + 1) n)) (same a (omega arith) (omega arith))
    ∙ ap (λ (ps : List Place). g a ++ ps) (flat_same f g (a + 1) n (λ k above below. same k (omega (arith, above)) (omega (arith, below))))

-- what a shelf lists is what is listed of its partition
shelf_listed : (size leaves fields : ℕ) (shelves : List Shelved) (list : ℕ) (passes : ℕ → Bool) → AreShelves size leaves fields shelves → list < length shelves
    → listed (slice_index_or shelves list no_shelf) passes ≡ keyed_in (on_shelves size leaves fields shelves) list passes
shelf_listed size leaves fields shelves list passes are lt =
    let shelf = slice_index_or shelves list no_shelf in
    let s = on_shelves size leaves fields shelves in
    let is = are.each list lt in
    let blocks = blocks_in size leaves list in
    ap (λ (n : ℕ). flat_map (listed_on shelf passes) (range_with_len n (length shelf.keys))) is.first
    ∙ ap (λ (n : ℕ). flat_map (listed_on shelf passes) (range_with_len (list * size) n)) is.blocks
    ∙ flat_same (listed_on shelf passes) (keyed_on s passes) (list * size) blocks (λ block above below.
    let within : block < leaves = omega (arith, below, above) in
    let number : block / size ≡ list = div-eq_of_lt-le size (omega (arith, above)) (omega (arith, below)) in
    ap (λ (n : ℕ). filter (λ (at : Place). is_some (key_at shelf at) && passes at.field) (map (place_on block) (range_with_len 0 n))) is.numbers
    ∙ filter_same (λ (at : Place). is_some (key_at shelf at) && passes at.field) (λ (at : Place). is_some (key_on s.keys at) && passes at.field) (place_on block) 0 fields (λ f.
    ap (λ (o : Option ℕ). is_some o && passes f)
    (ap (λ (n : ℕ). key_at (slice_index_or shelves n no_shelf) (place_on block f)) (sym number) ∙ key_is size leaves fields shelves (place_on block f) within)))

pub listed_is : (size leaves fields : ℕ) (shelves : List Shelved) (list : ℕ) (passes : ℕ → Bool) (shelf : Shelved) (s : OnShelves) (r : Result (List Place) NoMemory) → on_shelves size leaves fields shelves ≡ s
    → AreShelves size leaves fields shelves → list < length shelves → shelf ≡ slice_index_or shelves list no_shelf
    → IfOk r (λ places. places ≡ listed shelf passes) → IfOk r (λ places. places ≡ keyed_in s list passes)
listed_is size leaves fields shelves list passes shelf s r is are lt read =
    subst (λ (v : List Place). IfOk r (λ places. places ≡ v))
    (ap (λ (v : Shelved). listed v passes) read ∙ shelf_listed size leaves fields shelves list passes are lt ∙ ap (λ (v : OnShelves). keyed_in v list passes) is)
