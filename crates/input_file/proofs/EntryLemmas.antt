-- Lists of entries under another view of their keys and values, and what stays well formed when a key is set.
use Rattle.std.proofs.Common.{◌≡◌, Bool, true, false, cond, List, [], ◌∷◌, refl, ap, map, ◌∙◌}
use Rattle.std.specs.Prelude.{String, Some, option_map, IsTrue}
use Rattle.std.specs.List.{list_any}
use Rattle.std.specs.Str.{bytes_eq}
use Rattle.std.specs.String.{string_bytes, string_eq}
use Rattle.std.specs.Map.{lookup}
use Rattle.indexmap.specs.IndexMap.{insert_entry}
use Rattle.input_file.specs.Texts.{Text, is_block_name, is_key, is_value}
use Rattle.input_file.specs.Blocks.{Entries, Blocks}
use Rattle.input_file.specs.WellFormed.{AreKeysAfter, AreKeys, AreBlocksAfter}

module _ {K V X : Type 0} (bytes : K → Text) (view : V → X) where
  -- the entries, each seen by the bytes of its key and the view of its value
  abbrev pub seen : List (K × V) → List (Text × X)
  seen es = map (λ e. (bytes e.0, view e.1)) es

  pub lookup-seen : (q : Text) (es : List (K × V)) → lookup (bytes_eq q) (seen es) ≡ option_map view (lookup (λ k. bytes_eq q (bytes k)) es)
  lookup-seen q [] = refl
  lookup-seen q (e ∷ es) =
      elim (bytes_eq q (bytes e.0)) as (λ b. cond b (Some (view e.1)) (lookup (bytes_eq q) (seen es)) ≡ option_map view (cond b (Some e.1) (lookup (λ k. bytes_eq q (bytes k)) es)))
      [ true ↦ refl | false ↦ lookup-seen q es ]

  pub insert_entry-seen : (eq : K → K → Bool) → ((a b : K) → eq a b ≡ bytes_eq (bytes a) (bytes b)) → (es : List (K × V)) (k : K) (v : V) → seen (insert_entry eq es k v) ≡ insert_entry bytes_eq (seen es) (bytes k) (view v)
  insert_entry-seen eq same [] k v = refl
  insert_entry-seen eq same (e ∷ es) k v =
      rw (same k e.0) (elim (bytes_eq (bytes k) (bytes e.0)) as (λ b. seen (cond b ((e.0, v) ∷ es) (e ∷ insert_entry eq es k v)) ≡ cond b ((bytes e.0, view v) ∷ seen es) ((bytes e.0, view e.1) ∷ insert_entry bytes_eq (seen es) (bytes k) (view v)))
      [ true ↦ refl | false ↦ ap (λ xs. (bytes e.0, view e.1) ∷ xs) (insert_entry-seen eq same es k v) ])

-- a key that is set leaves the keys well formed and distinct
pub AreKeysAfter-insert_entry : (before : List Text) (es : Entries) (k v : Text) → AreKeysAfter before es → IsTrue (is_key k) → IsTrue (is_value v) → list_any (bytes_eq k) before ≡ false → AreKeysAfter before (insert_entry bytes_eq es k v)
AreKeysAfter-insert_entry before [] k v h is_k is_v new = (is_k, is_v, new, tt)
AreKeysAfter-insert_entry before (e ∷ es) k v h is_k is_v new =
    let P : Bool → Type 0 = λ b. AreKeysAfter before (cond b ((e.0, v) ∷ es) (e ∷ insert_entry bytes_eq es k v)) in
    elim (bytes_eq k e.0) as (λ b. bytes_eq k e.0 ≡ b → P b) [
      | true ↦ λ _. (h.0, is_v, h.2, h.3)
      | false ↦ λ other. (h.0, h.1, h.2, AreKeysAfter-insert_entry (e.0 ∷ before) es k v h.3 is_k is_v (rw other new))
    ] refl

-- a block whose keys are well formed and distinct leaves the blocks so
pub AreBlocksAfter-insert_entry : (before : List Text) (d : Blocks) (b : Text) (es : Entries) → AreBlocksAfter before d → IsTrue (is_block_name b) → AreKeys es → list_any (bytes_eq b) before ≡ false → AreBlocksAfter before (insert_entry bytes_eq d b es)
AreBlocksAfter-insert_entry before [] b es h is_b keys new = (is_b, keys, new, tt)
AreBlocksAfter-insert_entry before (e ∷ d) b es h is_b keys new =
    let P : Bool → Type 0 = λ t. AreBlocksAfter before (cond t ((e.0, es) ∷ d) (e ∷ insert_entry bytes_eq d b es)) in
    elim (bytes_eq b e.0) as (λ t. bytes_eq b e.0 ≡ t → P t) [
      | true ↦ λ _. (h.0, keys, h.2, h.3)
      | false ↦ λ other. (h.0, h.1, h.2, AreBlocksAfter-insert_entry (e.0 ∷ before) d b es h.3 is_b keys (rw other new))
    ] refl

-- after `insert` the entries, seen by bytes, are those with the key set
pub insert-seen : {Z V X : Type 0} (view : V → X) (es new : List (String Z × V)) (k : String Z) (v : V) (key : Text) (value : X) → new ≡ insert_entry string_eq es k v → string_bytes k ≡ key → view v ≡ value → seen string_bytes view new ≡ insert_entry bytes_eq (seen string_bytes view es) key value
insert-seen {Z} {V} {X} view es new k v key value made is_key is_value =
    ap (seen {K = String Z} string_bytes view) made
    ∙ insert_entry-seen {K = String Z} string_bytes view string_eq (λ a b. refl) es k v
    ∙ ap (λ q. insert_entry bytes_eq (seen {K = String Z} string_bytes view es) q (view v)) is_key
    ∙ ap (λ x. insert_entry bytes_eq (seen {K = String Z} string_bytes view es) key x) is_value
