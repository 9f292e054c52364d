-- Blocks by their places.
use Rattle.std.proofs.Common.{◌≡◌, ℕ, zero, suc, Bool, true, false, cond, List, [], ◌∷◌, refl, ap, map, sym, ◌∙◌, subst, length}
use Rattle.std.specs.Prelude.{String, Some, None, option_map, IsTrue, ◌||◌, slice_get, unwrap_or, IfSome, Result, Ok, Err, OnOk, OnErr}
use Rattle.std.specs.String.{string_bytes}
use Rattle.std.specs.List.{list_any}
use Rattle.std.specs.Str.{bytes_eq}
use Rattle.std.specs.Map.{lookup, lookup_key, values_of}
use Rattle.std.proofs.lemmas.Option.{slice_get-map}
use Rattle.std.proofs.lemmas.Map.Made.{lookup_key_passes}
use Rattle.std.proofs.lemmas.Slice.Eq.{bytes_eq-Decides}
use Rattle.indexmap.specs.IndexMap.{insert_entry, set_value_at}
use Rattle.input_file.specs.Texts.{Text, is_block_name, is_key, is_value}
use Rattle.input_file.specs.Blocks.{Entries, Blocks, keys_of, with_block, name_at, set}
use Rattle.input_file.specs.WellFormed.{AreKeys, AreBlocksAfter, AreBlocks}
use Rattle.input_file.proofs.EntryLemmas.{seen, AreKeysAfter-insert_entry, AreBlocksAfter-insert_entry}

bytes_eq-refl : (t : Text) → bytes_eq t t ≡ true
bytes_eq-refl t = (bytes_eq-Decides t t).1 refl

or-false : (a b : Bool) → (a || b) ≡ false → (a ≡ false) × (b ≡ false)
or-false false b h = (refl, h)
or-false true b h = absurd (cc)

-- what is known of the block at a place
pub record BlockAt (before : List Text) (d : Blocks) (i : ℕ) (e : Text × Entries) : Type 0 where
  pub is_new : list_any (bytes_eq e.0) before ≡ false
  pub is_name : IsTrue (is_block_name e.0)
  pub are_keys : AreKeys e.1
  pub its_keys : keys_of d e.0 ≡ e.1
  pub changed : (ks : Entries) → set_value_at d i ks ≡ insert_entry bytes_eq d e.0 ks
  pub same : set_value_at d i e.1 ≡ d

pub block_at : (before : List Text) (d : Blocks) (i : ℕ) (e : Text × Entries) → AreBlocksAfter before d → slice_get d i ≡ Some e → BlockAt before d i e
block_at before [] i e h at = absurd (cc)
block_at before (x ∷ d) zero e h at =
    let here : x ≡ e = cc in
    subst (λ (p : Text × Entries). BlockAt before (x ∷ d) zero p) here
    (record {
      is_new = h.2;
      is_name = h.0;
      are_keys = h.1;
      its_keys = rw (bytes_eq-refl x.0) refl;
      changed = λ ks. rw (bytes_eq-refl x.0) refl;
      same = refl;
    })
block_at before (x ∷ d) (suc i) e h at =
    let rest : BlockAt (x.0 ∷ before) d i e = block_at (x.0 ∷ before) d i e h.3 at in
    let other : bytes_eq e.0 x.0 ≡ false = (or-false (bytes_eq e.0 x.0) (list_any (bytes_eq e.0) before) rest.is_new).0 in
    record {
      is_new = (or-false (bytes_eq e.0 x.0) (list_any (bytes_eq e.0) before) rest.is_new).1;
      is_name = rest.is_name;
      are_keys = rest.are_keys;
      its_keys = rw other rest.its_keys;
      changed = λ ks. rw other (ap (λ es. x ∷ es) (rest.changed ks));
      same = ap (λ es. x ∷ es) rest.same;
    }

-- a value at a place stands there with its key
pub entry_at : {K V : Type 0} (es : List (K × V)) (i : ℕ) (v : V) → slice_get (values_of es) i ≡ Some v → (k : K) × (slice_get es i ≡ Some (k, v))
entry_at [] i v at = absurd (cc)
entry_at (e ∷ es) zero v at = (e.0, ap (λ w. Some (e.0, w)) (cc))
entry_at (e ∷ es) (suc i) v at = entry_at es i v at

-- a block that is there stays as it is
pub with_block-present : (d : Blocks) (name : Text) (i : ℕ) → name_at d i ≡ Some name → with_block d name ≡ d
with_block-present [] name i at = absurd (cc)
with_block-present (x ∷ d) name zero at =
    let here : x.0 ≡ name = cc in
    subst (λ (n : Text). with_block (x ∷ d) n ≡ x ∷ d) here (rw (bytes_eq-refl x.0) refl)
with_block-present (x ∷ d) name (suc i) at =
    let P : Bool → Type 0 = λ b. cond b ((x.0, unwrap_or (cond b (Some x.1) (lookup (bytes_eq name) d)) []) ∷ d) (x ∷ insert_entry bytes_eq d name (unwrap_or (cond b (Some x.1) (lookup (bytes_eq name) d)) [])) ≡ x ∷ d in
    elim (bytes_eq name x.0) as P [ true ↦ refl | false ↦ ap (λ es. x ∷ es) (with_block-present d name i at) ]

-- a new block stands last
pub name_at-new : (d : Blocks) (name : Text) (ks : Entries) → lookup (bytes_eq name) d ≡ None → name_at (insert_entry bytes_eq d name ks) (length d) ≡ Some name
name_at-new [] name ks h = refl
name_at-new (x ∷ d) name ks h =
    let P : Bool → Type 0 = λ b. cond b (Some x.1) (lookup (bytes_eq name) d) ≡ None → name_at (cond b ((x.0, ks) ∷ d) (x ∷ insert_entry bytes_eq d name ks)) (suc (length d)) ≡ Some name in
    (elim (bytes_eq name x.0) as P [ true ↦ λ found. absurd (cc) | false ↦ λ absent. name_at-new d name ks absent ]) h

-- what a key that is set in the block at a place leaves
pub record SetIn (d : Blocks) (i : ℕ) (old : Entries) (key value : Text) : Type 0 where
  pub stays : set_value_at d i old ≡ d
  pub are_blocks : AreBlocks (set_value_at d i (insert_entry bytes_eq old key value))
  pub is_set : IfSome (name_at d i) (λ block. set_value_at d i (insert_entry bytes_eq old key value) ≡ set d block key value)

pub set_in : (d : Blocks) (i : ℕ) (old : Entries) (key value : Text) → AreBlocks d → slice_get (values_of d) i ≡ Some old → IsTrue (is_key key) → IsTrue (is_value value) → SetIn d i old key value
set_in d i old key value h at is_k is_v =
    let found : (k : Text) × (slice_get d i ≡ Some (k, old)) = entry_at d i old at in
    let b : BlockAt [] d i (found.0, old) = block_at [] d i (found.0, old) h found.1 in
    record {
      stays = b.same;
      are_blocks = rw (b.changed (insert_entry bytes_eq old key value)) (AreBlocksAfter-insert_entry [] d found.0 (insert_entry bytes_eq old key value) h b.is_name (AreKeysAfter-insert_entry [] old key value b.are_keys is_k is_v refl) refl);
      is_set = rw found.1 (b.changed (insert_entry bytes_eq old key value) ∙ ap (λ ks. insert_entry bytes_eq d found.0 (insert_entry bytes_eq ks key value)) (sym b.its_keys));
    }

module _ {K V X : Type 0} (bytes : K → Text) (view : V → X) where
  pub set_value_at-seen : (es : List (K × V)) (i : ℕ) (w : V) → map (λ e. (bytes e.0, view e.1)) (set_value_at es i w) ≡ set_value_at (map (λ e. (bytes e.0, view e.1)) es) i (view w)
  set_value_at-seen [] i w = refl
  set_value_at-seen (e ∷ es) zero w = refl
  set_value_at-seen (e ∷ es) (suc i) w = ap (λ xs. (bytes e.0, view e.1) ∷ xs) (set_value_at-seen es i w)

  pub values-seen : (es : List (K × V)) → values_of (map (λ e. (bytes e.0, view e.1)) es) ≡ map view (values_of es)
  values-seen [] = refl
  values-seen (e ∷ es) = ap (λ xs. view e.1 ∷ xs) (values-seen es)

-- the same as the map of the blocks tells it, whichever way the call for the block's keys ended
pub record SetInMap {Z T E : Type 0} (es : List (String Z × Entries)) (d : Blocks) (i : ℕ) (new : Entries) (key value : Text) (r : Result T E) : Type 0 where
  pub invariant : AreBlocks (seen string_bytes (λ ks. ks) (set_value_at es i new))
  pub ok : OnOk r (IfSome (name_at d i) (λ block. seen string_bytes (λ ks. ks) (set_value_at es i new) ≡ set d block key value))
  pub err : OnErr r (seen string_bytes (λ ks. ks) (set_value_at es i new) ≡ d)
  pub name : name_at (seen string_bytes (λ ks. ks) (set_value_at es i new)) i ≡ name_at d i

name_at-set_value_at : (d : Blocks) (i j : ℕ) (ks : Entries) → name_at (set_value_at d i ks) j ≡ name_at d j
name_at-set_value_at [] i j ks = refl
name_at-set_value_at (e ∷ d) zero zero ks = refl
name_at-set_value_at (e ∷ d) zero (suc j) ks = refl
name_at-set_value_at (e ∷ d) (suc i) zero ks = refl
name_at-set_value_at (e ∷ d) (suc i) (suc j) ks = name_at-set_value_at d i j ks

map-same : {X : Type 0} (xs : List X) → map (λ x. x) xs ≡ xs
map-same [] = refl
map-same (x ∷ xs) = ap (λ ys. x ∷ ys) (map-same xs)

set_in-here : {Z T E : Type 0} (es : List (String Z × Entries)) (i : ℕ) (old new : Entries) (key value : Text) (r : Result T E) → SetIn (seen string_bytes (λ ks. ks) es) i old key value → OnOk r (new ≡ insert_entry bytes_eq old key value) → OnErr r (new ≡ old) → AreBlocks (seen string_bytes (λ ks. ks) es) → SetInMap es (seen string_bytes (λ ks. ks) es) i new key value r
set_in-here {Z} es i old new key value (Ok x) s ok err h =
    rw ok (record {
      invariant = rw (set_value_at-seen {K = String Z} string_bytes (λ (ks : Entries). ks) es i (insert_entry bytes_eq old key value)) s.are_blocks;
      ok = rw (set_value_at-seen {K = String Z} string_bytes (λ (ks : Entries). ks) es i (insert_entry bytes_eq old key value)) s.is_set;
      err = tt;
      name = rw (set_value_at-seen {K = String Z} string_bytes (λ (ks : Entries). ks) es i (insert_entry bytes_eq old key value)) (name_at-set_value_at (seen string_bytes (λ (ks : Entries). ks) es) i i (insert_entry bytes_eq old key value));
    })
set_in-here {Z} es i old new key value (Err e) s ok err h =
    rw err (record {
      invariant = rw (set_value_at-seen {K = String Z} string_bytes (λ (ks : Entries). ks) es i old, s.stays) h;
      ok = tt;
      err = set_value_at-seen {K = String Z} string_bytes (λ (ks : Entries). ks) es i old ∙ s.stays;
      name = ap (λ blocks. name_at blocks i) (set_value_at-seen {K = String Z} string_bytes (λ (ks : Entries). ks) es i old ∙ s.stays);
    })

pub set_in-map : {Z T E : Type 0} (es : List (String Z × Entries)) (d : Blocks) (i : ℕ) (old new : Entries) (key value : Text) (r : Result T E) → seen string_bytes (λ ks. ks) es ≡ d → AreBlocks (seen string_bytes (λ ks. ks) es) → slice_get (values_of es) i ≡ Some old → IsTrue (is_key key) → IsTrue (is_value value) → OnOk r (new ≡ insert_entry bytes_eq old key value) → OnErr r (new ≡ old) → SetInMap es d i new key value r
set_in-map {Z} {T} {E} es d i old new key value r is h at is_k is_v ok err =
    let values : slice_get (values_of (seen {K = String Z} string_bytes (λ (ks : Entries). ks) es)) i ≡ Some old = ap (λ vs. slice_get vs i) (values-seen {K = String Z} string_bytes (λ (ks : Entries). ks) es ∙ map-same (values_of es)) ∙ at in
    subst (λ (blocks : Blocks). SetInMap es blocks i new key value r) is
    (set_in-here es i old new key value r (set_in (seen string_bytes (λ (ks : Entries). ks) es) i old key value h values is_k is_v) ok err h)

-- the key that a look-up finds is the text that was sought, so the block at its place has that name
pub name_at-found : {Z V : Type 0} (view : V → Entries) (es : List (String Z × V)) (d : Blocks) (i : ℕ) (k : String Z) (v : V) (name : Text) → seen string_bytes view es ≡ d → slice_get es i ≡ Some (k, v) → Some k ≡ lookup_key (λ q. bytes_eq name (string_bytes q)) es → name_at d i ≡ Some name
name_at-found {Z} {V} view es d i k v name is at key =
    let test : bytes_eq name (string_bytes k) ≡ true = lookup_key_passes (λ (q : String Z). bytes_eq name (string_bytes q)) es k (sym key) in
    subst (λ (blocks : Blocks). name_at blocks i ≡ Some name) is
    (ap (option_map (λ e. e.0)) (slice_get-map (λ (e : String Z × V). (string_bytes e.0, view e.1)) es i ∙ ap (option_map (λ (e : String Z × V). (string_bytes e.0, view e.1))) at)
    ∙ ap Some (sym ((bytes_eq-Decides name (string_bytes k)).0 test)))
