-- The field block of a generated deck, and the registry of its fields.
use Rattle.std.proofs.Common.{◌≡◌, ℕ, zero, suc, ◌+◌, ◌-◌, ◌%◌, ◌<◌, ◌≤◌, ◌^◌, true, false, List, [], ◌∷◌, ◌++◌, length, map, refl, sym, ap, ◌∙◌, arith, append-nil, ℤ, pos, neg_ℤ}
use Rattle.std.specs.Prelude.{nat_lt, if◌then◌else◌, Option, Some, None, Ok, codes}
use Rattle.std.specs.List.{range_with_len}
use Rattle.std.specs.Str.{bytes_eq}
use Rattle.std.specs.Map.{lookup}
use Rattle.std.specs.Fmt.{decimal}
use Rattle.std.specs.Option.{option_or}
use Rattle.std.proofs.lemmas.Bool.Decides.{nat_tests}
use Rattle.std.proofs.lemmas.List.FromFn.{map-range_with_len_more}
use Rattle.input_file.specs.Texts.{Text}
use Rattle.input_file.specs.Blocks.{Blocks, keys_of, entry}
use Rattle.package_fields.specs.declared.field.Field.{Field}
use Rattle.package_fields.specs.declared.flag.Flag.{Flag}
use Rattle.package_fields.specs.declared.flag.Flag.TheVariants.{Cell, Independent, FillGhost, WithFluxes, Sparse}
use Rattle.package_fields.specs.declared.fault.FieldFault.{FieldFault}
use Rattle.package_fields.specs.Fields.{Registered, has_label}
use Rattle.package_fields.specs.Registered.{field_fault, fields_fault}
use Rattle.deck_values.specs.Numbers.{signed_of}
use Rattle.deck_values.specs.BlockReader.{is_within}
use Rattle.deck_values.specs.FlagsAndIds.{flags_of, ids_of}
use Rattle.deck_generator.specs.declared.form.Form.{Form}
use Rattle.deck_generator.specs.Values.{negative_text, numbers_below}
use Rattle.deck_generator.specs.Generated.{speed_text, field_settings}
use Rattle.deck_entries.specs.declared.entries.Moves.{Moves}
use Rattle.deck_entries.specs.declared.field_blocks.FieldBlock.{FieldBlock}
use Rattle.problem_set.specs.declared.packages.FieldTable.{FieldTable}
use Rattle.deck_entries.specs.FieldBlocks.{field_name, package_name, flags, ids, speed, order, spread, entry_amount, speeds, entry_pair, entry_amounts, moves, flags_and_ids, field_block, pool_field, name_form}
use Rattle.deck_values.specs.Reading.{◌>>=◌}
use Rattle.problem_set.specs.Packages.{registered, unless}
use Rattle.problem_set.specs.Rates.{upwards, downwards}
use Rattle.generated_decks.proofs.NumberTexts.{signed_of-decimal, signed_of-negative, ids_of-numbers}
use Rattle.generated_decks.proofs.Rows.{then-ok, entry-at, value-there, value-absent, number-there, number-absent, signed-there, signed-absent}
use Rattle.generated_decks.proofs.FormFacts.{IsUsual}
use Rattle.generated_decks.proofs.DeckBlocks.{other-number}

-- a speed that was drawn is read, and is at most 2 either way
pub record SpeedRead (text : Text) : Type 0 where
  pub z : ℤ
  pub read : signed_of text ≡ Some z
  pub fits : is_within 1000000000 z ≡ true
  pub slow : upwards z + downwards z ≤ 2

speed-at : (t : ℕ) → t < 5 → SpeedRead (if nat_lt t 2 then negative_text (2 - t) else decimal (t - 2))
speed-at zero h = record { z = neg_ℤ (pos 2); read = signed_of-negative 2 (omega arith); fits = refl; slow = omega arith }
speed-at (suc zero) h = record { z = neg_ℤ (pos 1); read = signed_of-negative 1 (omega arith); fits = refl; slow = omega arith }
speed-at (suc (suc zero)) h = record { z = pos 0; read = signed_of-decimal 0 (omega arith); fits = refl; slow = omega arith }
speed-at (suc (suc (suc zero))) h = record { z = pos 1; read = signed_of-decimal 1 (omega arith); fits = refl; slow = omega arith }
speed-at (suc (suc (suc (suc zero)))) h = record { z = pos 2; read = signed_of-decimal 2 (omega arith); fits = refl; slow = omega arith }
speed-at (suc (suc (suc (suc (suc t))))) h = absurd (omega arith)

pub speed-read : (r : ℕ) → SpeedRead (speed_text r)
speed-read r = speed-at (r % 5) (omega arith)

unfoldable pub sparse_flags : List Flag
sparse_flags = Cell ∷ Independent ∷ FillGhost ∷ WithFluxes ∷ Sparse ∷ []

-- how the fields move
unfoldable pub moves_with : ℤ → ℤ → Moves
moves_with z1 z2 = record { v = z1 ∷ z2 ∷ pos 0 ∷ []; k = 1; order = 1; entry = 0 ∷ 0 ∷ 0 ∷ 0 ∷ 0 ∷ 0 ∷ [] }

-- the block as the reader has it
unfoldable pub block_with : ℕ → ℤ → ℤ → FieldBlock
block_with n z1 z2 = record { name = codes "s"; package_name = codes "transport"; flags = sparse_flags; ids = range_with_len 0 n; moves = moves_with z1 z2 }

module _ (d : Blocks) (f : Form) (r1 r2 : ℕ) (at : keys_of d (codes "field/s") ≡ field_settings f r1 r2) where
  there : (key : Text) (v : Option Text) → lookup (bytes_eq key) (field_settings f r1 r2) ≡ v → entry d (codes "field/s") key ≡ v
  there key v h = entry-at d (codes "field/s") key (field_settings f r1 r2) v at h

  name-is : field_name (codes "field/s") ≡ Ok (codes "s")
  unfolding field_name
  name-is = refl

  package-is : package_name d (codes "field/s") ≡ Ok (codes "transport")
  unfolding package_name
  package-is = value-absent name_form d (codes "field/s") (codes "package") (codes "transport") (there (codes "package") None refl)

  flags-read : flags_of (codes "Cell,Independent,FillGhost,WithFluxes,Sparse") ≡ Some sparse_flags
  unfolding flags_of sparse_flags
  flags-read = refl

  flags-are : flags d (codes "field/s") (codes "s") ≡ Ok sparse_flags
  unfolding flags
  flags-are = rw (there (codes "flags") (Some (codes "Cell,Independent,FillGhost,WithFluxes,Sparse")) refl, flags-read) refl

  numbers-read : (n : ℕ) → 1 ≤ n → n ≤ 256 → ids_of (numbers_below n) ≡ Some (range_with_len 0 n)
  numbers-read zero low high = absurd (omega arith)
  numbers-read (suc n) low high = ids_of-numbers n (omega arith)

  ids-are : IsUsual f → ids d (codes "field/s") sparse_flags ≡ Ok (range_with_len 0 f.fields)
  unfolding ids sparse_flags
  ids-are usual =
      value-there ids_of d (codes "field/s") (codes "ids") (numbers_below f.fields) None (range_with_len 0 f.fields) (there (codes "ids") (Some (numbers_below f.fields)) refl)
      (numbers-read f.fields (omega (arith, usual.two_fields)) usual.few_fields)

  speeds-are : (s1 : SpeedRead (speed_text r1)) (s2 : SpeedRead (speed_text r2)) → speeds d (codes "field/s") ≡ Ok (s1.z ∷ s2.z ∷ pos 0 ∷ [])
  unfolding speeds speed
  speeds-are s1 s2 =
      then-ok _ s1.z _ _ (signed-there d (codes "field/s") (codes "v1") (speed_text r1) (is_within 1000000000) (Some (pos 0)) s1.z (there (codes "v1") (Some (speed_text r1)) refl) s1.read s1.fits)
      (then-ok _ s2.z _ _ (signed-there d (codes "field/s") (codes "v2") (speed_text r2) (is_within 1000000000) (Some (pos 0)) s2.z (there (codes "v2") (Some (speed_text r2)) refl) s2.read s2.fits)
      (then-ok _ (pos 0) _ _ (signed-absent d (codes "field/s") (codes "v3") (is_within 1000000000) (pos 0) (there (codes "v3") None refl) refl) refl))

  no-entry : (key : Text) → lookup (bytes_eq key) (field_settings f r1 r2) ≡ None → entry_amount d (codes "field/s") key ≡ Ok 0
  unfolding entry_amount
  no-entry key none = number-absent d (codes "field/s") key 0 4611686018427387903 0 (there key None none) (omega arith) (omega arith)

  no-pair : (low high : Text) → entry_amount d (codes "field/s") low ≡ Ok 0 → entry_amount d (codes "field/s") high ≡ Ok 0 → entry_pair d (codes "field/s") low high ≡ Ok (0, 0)
  unfolding entry_pair
  no-pair low high l h = then-ok _ 0 _ _ l (then-ok _ 0 _ _ h refl)

  no-entries : entry_amounts d (codes "field/s") ≡ Ok (0 ∷ 0 ∷ 0 ∷ 0 ∷ 0 ∷ 0 ∷ [])
  unfolding entry_amounts
  no-entries =
      then-ok _ (0, 0) _ _ (no-pair (codes "ix1_in") (codes "ox1_in") (no-entry (codes "ix1_in") refl) (no-entry (codes "ox1_in") refl))
      (then-ok _ (0, 0) _ _ (no-pair (codes "ix2_in") (codes "ox2_in") (no-entry (codes "ix2_in") refl) (no-entry (codes "ox2_in") refl))
      (then-ok _ (0, 0) _ _ (no-pair (codes "ix3_in") (codes "ox3_in") (no-entry (codes "ix3_in") refl) (no-entry (codes "ox3_in") refl)) refl))

  moves-are : (s1 : SpeedRead (speed_text r1)) (s2 : SpeedRead (speed_text r2)) → moves d (codes "field/s") ≡ Ok (moves_with s1.z s2.z)
  unfolding moves spread order moves_with
  moves-are s1 s2 =
      then-ok (speeds d (codes "field/s")) _ _ _ (speeds-are s1 s2)
      (then-ok _ 1 _ _ (number-there d (codes "field/s") (codes "k") (codes "1") 0 1000000000 1 (Some 0) (there (codes "k") (Some (codes "1")) refl) refl (omega arith) (omega arith))
      (then-ok _ 1 _ _ (number-absent d (codes "field/s") (codes "order") 1 2 1 (there (codes "order") None refl) (omega arith) (omega arith))
      (then-ok (entry_amounts d (codes "field/s")) _ _ _ no-entries refl)))

  pub field-read : IsUsual f → (s1 : SpeedRead (speed_text r1)) (s2 : SpeedRead (speed_text r2)) → field_block d (codes "field/s") ≡ Ok (block_with f.fields s1.z s2.z)
  unfolding field_block flags_and_ids block_with
  field-read usual s1 s2 =
      then-ok (field_name (codes "field/s")) _ _ _ name-is
      (then-ok (package_name d (codes "field/s")) _ _ _ package-is
      (then-ok _ (sparse_flags, range_with_len 0 f.fields) _ _
      (then-ok (flags d (codes "field/s") (codes "s")) _ _ _ flags-are (then-ok (ids d (codes "field/s") sparse_flags) _ _ _ (ids-are usual) refl))
      (then-ok (moves d (codes "field/s")) _ _ _ (moves-are s1 s2) refl)))

-- ---- the registry

-- the field of the pool with a number
unfoldable pub one_field : ℕ → Field
one_field = pool_field (codes "s") sparse_flags

-- the fields of the pool with so many numbers from one on
unfoldable pub pool : ℕ → ℕ → List Field
pool a n = map one_field (range_with_len a n)

new-label : (n a i : ℕ) → a + n ≤ i → i < 2 ^ 16 → has_label (pool a n) (one_field i).label ≡ false
unfolding pool one_field
new-label zero a i above small = refl
new-label (suc n) a i above small =
    let differ : bytes_eq (decimal i) (decimal a) ≡ false = other-number i a (omega arith) (omega arith) (λ same. absurd (omega arith)) in
    rw (differ, new-label n (a + 1) i (omega arith) small) refl

pub length-pool : (a n : ℕ) → length (pool a n) ≡ n
unfolding pool
length-pool a zero = refl
length-pool a (suc n) = let more : length (map one_field (range_with_len (a + 1) n)) ≡ n = length-pool (a + 1) n in omega arith

no-fault-one : (a : ℕ) → a < 256 → field_fault (pool 0 a) (one_field a) ≡ None
unfolding one_field sparse_flags
no-fault-one a small =
    let few : nat_lt (length (pool 0 a)) 256 ≡ true = let size : length (pool 0 a) ≡ a = length-pool 0 a in grind (arith, nat_tests) in
    let fresh : has_label (pool 0 a) (one_field a).label ≡ false = new-label a 0 a (omega arith) (omega arith) in
    rw (fresh, few) refl

none-then : (o p : Option FieldFault) → o ≡ None → p ≡ None → option_or o p ≡ None
none-then o p h k = rw (h, k) refl

no-fault : (n a : ℕ) → a + n ≤ 256 → fields_fault (pool 0 a) (pool a n) ≡ None
unfolding pool
no-fault zero a few = refl
no-fault (suc n) a few =
    let grown : map one_field (range_with_len 0 a) ++ one_field a ∷ [] ≡ map one_field (range_with_len 0 (a + 1)) = sym (map-range_with_len_more one_field 0 a a (omega arith)) in
    none-then (field_fault (pool 0 a) (one_field a)) _ (no-fault-one a (omega arith))
    (ap (λ (before : List Field). fields_fault before (map one_field (range_with_len (a + 1) n))) grown ∙ no-fault n (a + 1) (omega arith))

-- the table of fields as the reader has it
unfoldable pub table_with : ℕ → ℤ → ℤ → FieldTable
table_with n z1 z2 = record {
  fields = record { packages = codes "transport" ∷ []; fields = pool 0 n };
  moves = map (λ (x : Field). moves_with z1 z2) (pool 0 n);
}

table-of : (fs : List Field) (ms : List Moves) (n : ℕ) (z1 z2 : ℤ) → fs ≡ pool 0 n → ms ≡ map (λ (x : Field). moves_with z1 z2) (pool 0 n) → (record { fields = record { packages = codes "transport" ∷ []; fields = fs }; moves = ms }) ≡ table_with n z1 z2
unfolding table_with
table-of fs ms n z1 z2 h k = rw (h, k) refl

registry-from : (fs : List Field) (ms : List Moves) (n : ℕ) (z1 z2 : ℤ) → fields_fault [] fs ≡ None → fs ≡ pool 0 n → ms ≡ map (λ (x : Field). moves_with z1 z2) (pool 0 n) → ((unless (fields_fault [] fs) (record { packages = codes "transport" ∷ []; fields = fs }) >>= (λ (s : Registered). Ok s)) >>= (λ (r : Registered). Ok (record { fields = r; moves = ms }))) ≡ Ok (table_with n z1 z2)
registry-from fs ms n z1 z2 none h k = rw none (ap Ok (table-of fs ms n z1 z2 h k))

pub registry-read : (n : ℕ) (z1 z2 : ℤ) → n ≤ 256 → registered (block_with n z1 z2 ∷ []) ≡ Ok (table_with n z1 z2)
unfolding registered block_with sparse_flags pool one_field
registry-read n z1 z2 few =
    let fs : List Field = map one_field (range_with_len 0 n) in
    let same : fs ++ [] ≡ fs = append-nil fs in
    let ms : List Moves = map (λ (x : Field). moves_with z1 z2) fs in
    registry-from (fs ++ []) ((ms ++ []) ++ []) n z1 z2 (ap (fields_fault []) same ∙ no-fault n 0 (omega arith)) same (append-nil (ms ++ []) ∙ append-nil ms)
