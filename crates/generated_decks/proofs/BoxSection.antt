-- The opening boxes, the reaction and the criterion of a generated deck.
use Rattle.std.proofs.Common.{◌≡◌, ◌≢◌, ◌⊎◌, inl, inr, ℕ, zero, suc, ◌+◌, ◌-◌, ◌<◌, ◌≤◌, true, false, [], ◌∷◌, ◌++◌, length, map, refl, sym, ap, ◌∙◌, arith, mod-lt}
use Rattle.std.specs.Prelude.{nat_lt, Option, Some, None, Result, Ok, codes}
use Rattle.std.specs.List.{range_with_len, position_or_len}
use Rattle.std.specs.Str.{bytes_eq}
use Rattle.std.specs.Map.{lookup}
use Rattle.std.specs.Fmt.{decimal}
use Rattle.std.proofs.lemmas.Bool.{cases_eq}
use Rattle.std.proofs.lemmas.Bool.Decides.{nat_tests}
use Rattle.std.proofs.lemmas.Fmt.{decimal_digit}
use Rattle.input_file.specs.Texts.{Text}
use Rattle.input_file.specs.Blocks.{Blocks, keys_of, entry}
use Rattle.package_fields.specs.declared.field.Field.{Field}
use Rattle.deck_values.specs.declared.fault.ProblemFault.{ProblemFault}
use Rattle.deck_values.specs.Reading.{each}
use Rattle.deck_generator.specs.declared.form.Form.{Form}
use Rattle.deck_generator.specs.Values.{field_label}
use Rattle.deck_generator.specs.Generated.{first_cell, box_name, box_settings, reaction_settings, criterion_settings}
use Rattle.mesh_settings.specs.declared.words.Method.TheVariants.{Peak}
use Rattle.deck_entries.specs.declared.entries.StartBox.{StartBox}
use Rattle.deck_entries.specs.declared.entries.Reaction.{Reaction}
use Rattle.deck_entries.specs.declared.entries.Criterion.{Criterion}
use Rattle.mesh_settings.specs.Words.{method_named}
use Rattle.mesh_settings.specs.MeshPart.{span_at, part, field_labelled, label, amount, other_label, lower_amount}
use Rattle.deck_entries.specs.EntryReaders.{start_box, reaction, method, tolerances, criterion}
use Rattle.generated_decks.proofs.NumberTexts.{number_of-decimal}
use Rattle.generated_decks.proofs.Rows.{then-ok, entry-at, value-there, number-there, number-absent}
use Rattle.generated_decks.proofs.FormFacts.{IsUsual}
use Rattle.generated_decks.proofs.DeckBlocks.{other-number, same-text}
use Rattle.generated_decks.proofs.FieldSection.{one_field, pool, length-pool}
use Rattle.generated_decks.proofs.GridSection.{mesh_size}

-- ---- labels

place-in : (n a i : ℕ) → a ≤ i → i < a + n → a + n ≤ 256 → position_or_len (λ (f : Field). bytes_eq (field_label i) f.label) (pool a n) + a ≡ i
unfolding pool one_field
place-in zero a i low high few = absurd (omega arith)
place-in (suc n) a i low high few = by (cases_eq i a)
    (λ other. place-in n (a + 1) i (omega arith) (omega arith) (omega arith))
  where
    by : (i ≡ a) ⊎ (i ≢ a) → (i ≢ a → position_or_len (λ (f : Field). bytes_eq (field_label i) f.label) (pool (a + 1) n) + (a + 1) ≡ i) → position_or_len (λ (f : Field). bytes_eq (field_label i) f.label) (pool a (suc n)) + a ≡ i
    by (inl here) later =
        let found : bytes_eq (decimal i) (decimal a) ≡ true = ap (λ (k : ℕ). bytes_eq (decimal k) (decimal a)) here ∙ same-text (decimal a) in
        rw found (omega (arith, here))
    by (inr other) later =
        let differ : bytes_eq (decimal i) (decimal a) ≡ false = other-number i a (omega arith) (omega arith) other in
        let rest : position_or_len (λ (f : Field). bytes_eq (field_label i) f.label) (pool (a + 1) n) + (a + 1) ≡ i = later other in
        rw differ (omega (arith, rest))

labelled : (n i : ℕ) → i < n → n ≤ 256 → field_labelled (pool 0 n) (field_label i) ≡ Some i
labelled n i within few =
    let place : position_or_len (λ (f : Field). bytes_eq (field_label i) f.label) (pool 0 n) ≡ i = let p : position_or_len (λ (f : Field). bytes_eq (field_label i) f.label) (pool 0 n) + 0 ≡ i = place-in n 0 i (omega arith) (omega arith) (omega arith) in omega (arith, p) in
    let size : length (pool 0 n) ≡ n = length-pool 0 n in
    let inside : nat_lt i n ≡ true = grind (arith, nat_tests) in
    rw (place, size, inside) refl

label-zero : field_label 0 ≡ codes "s_0"
label-zero = ap (λ (t : Text). codes "s_" ++ t) (decimal_digit 0 (omega arith))

label-one : field_label 1 ≡ codes "s_1"
label-one = ap (λ (t : Text). codes "s_" ++ t) (decimal_digit 1 (omega arith))

-- ---- boxes

-- the box of a number as the reader has it
unfoldable pub box_with : Form → ℕ → ℕ → ℕ → StartBox
box_with f i r1 r2 = record {
  field = i;
  lo = first_cell f r1 ∷ first_cell f r2 ∷ 0 ∷ [];
  hi = (first_cell f r1 + 1) ∷ (first_cell f r2 + 1) ∷ 0 ∷ [];
  amount = 1000 + i;
}

module _ (d : Blocks) (f : Form) (i r1 r2 : ℕ) (usual : IsUsual f) (within : i < f.fields) (at : keys_of d (box_name i) ≡ box_settings f i r1 r2) where
  there : (key : Text) (v : Option Text) → lookup (bytes_eq key) (box_settings f i r1 r2) ≡ v → entry d (box_name i) key ≡ v
  there key v h = entry-at d (box_name i) key (box_settings f i r1 r2) v at h

  span-is : (low high : Text) (r : ℕ) → entry d (box_name i) low ≡ Some (decimal (first_cell f r)) → entry d (box_name i) high ≡ Some (decimal (first_cell f r + 1)) → span_at d (box_name i) low high f.cells ≡ Ok (first_cell f r, first_cell f r + 1)
  unfolding span_at
  span-is low high r at_low at_high =
      let cells : 4 ≤ f.cells = usual.fewest_cells in
      let most : f.cells ≤ 65536 = usual.most_cells in
      let left : first_cell f r < f.cells - 1 = mod-lt r (omega arith) in
      then-ok _ (first_cell f r) _ _ (number-there d (box_name i) low (decimal (first_cell f r)) 0 (f.cells - 1) (first_cell f r) (Some 0) at_low (number_of-decimal (first_cell f r) (omega arith)) (omega arith) (omega arith))
      (then-ok _ (first_cell f r + 1) _ _ (number-there d (box_name i) high (decimal (first_cell f r + 1)) (first_cell f r) (f.cells - 1) (first_cell f r + 1) (Some (f.cells - 1)) at_high (number_of-decimal (first_cell f r + 1) (omega arith)) (omega arith) (omega arith)) refl)

  no-span : span_at d (box_name i) (codes "lo3") (codes "hi3") 1 ≡ Ok (0, 0)
  unfolding span_at
  no-span =
      then-ok _ 0 _ _ (number-absent d (box_name i) (codes "lo3") 0 0 0 (there (codes "lo3") None refl) (omega arith) (omega arith))
      (then-ok _ 0 _ _ (number-absent d (box_name i) (codes "hi3") 0 0 0 (there (codes "hi3") None refl) (omega arith) (omega arith)) refl)

  part-is : part d (mesh_size f) (box_name i) ≡ Ok (record { lo = first_cell f r1 ∷ first_cell f r2 ∷ 0 ∷ []; hi = (first_cell f r1 + 1) ∷ (first_cell f r2 + 1) ∷ 0 ∷ [] })
  unfolding part mesh_size
  part-is =
      then-ok (span_at d (box_name i) (codes "lo1") (codes "hi1") f.cells) _ _ _ (span-is (codes "lo1") (codes "hi1") r1 (there (codes "lo1") (Some (decimal (first_cell f r1))) refl) (there (codes "hi1") (Some (decimal (first_cell f r1 + 1))) refl))
      (then-ok (span_at d (box_name i) (codes "lo2") (codes "hi2") f.cells) _ _ _ (span-is (codes "lo2") (codes "hi2") r2 (there (codes "lo2") (Some (decimal (first_cell f r2))) refl) (there (codes "hi2") (Some (decimal (first_cell f r2 + 1))) refl))
      (then-ok (span_at d (box_name i) (codes "lo3") (codes "hi3") 1) _ _ _ no-span refl))

  pub box-read : start_box d (mesh_size f) (pool 0 f.fields) (box_name i) ≡ Ok (box_with f i r1 r2)
  unfolding start_box label amount box_with
  box-read =
      let few : f.fields ≤ 256 = usual.few_fields in
      then-ok _ i _ _ (value-there (field_labelled (pool 0 f.fields)) d (box_name i) (codes "field") (field_label i) None i (there (codes "field") (Some (field_label i)) refl) (labelled f.fields i within few))
      (then-ok (part d (mesh_size f) (box_name i)) _ _ _ part-is
      (then-ok _ (1000 + i) _ _ (number-there d (box_name i) (codes "amount") (decimal (1000 + i)) 0 4611686018427387903 (1000 + i) None (there (codes "amount") (Some (decimal (1000 + i))) refl) (number_of-decimal (1000 + i) (omega arith)) (omega arith) (omega arith)) refl))

-- each of the boxes is read
pub each-read : {A : Type 0} (row : Text → Result A ProblemFault) (g : ℕ → A) (n a : ℕ) → ((i : ℕ) → a ≤ i → i < a + n → row (box_name i) ≡ Ok (g i)) → each row (map box_name (range_with_len a n)) ≡ Ok (map g (range_with_len a n))
each-read row g zero a reads = refl
each-read row g (suc n) a reads =
    let first : row (box_name a) ≡ Ok (g a) = reads a (omega arith) (omega arith) in
    let rest : each row (map box_name (range_with_len (a + 1) n)) ≡ Ok (map g (range_with_len (a + 1) n)) = each-read row g n (a + 1) (λ i low high. reads i (omega arith) (omega arith)) in
    rw (first, rest) refl

-- ---- the reaction and the criterion

unfoldable pub reaction_of : Reaction
reaction_of = record { from = 0; to = 1; num = 1; den = 10 }

pub reaction-read : (d : Blocks) (n : ℕ) → 2 ≤ n → n ≤ 256 → keys_of d (codes "reaction/r") ≡ reaction_settings → reaction d (pool 0 n) (codes "reaction/r") ≡ Ok reaction_of
unfolding reaction label other_label reaction_of
reaction-read d n two few at =
    let there : (key : Text) (v : Option Text) → lookup (bytes_eq key) reaction_settings ≡ v → entry d (codes "reaction/r") key ≡ v = λ key v h. entry-at d (codes "reaction/r") key reaction_settings v at h in
    let zero_is : field_labelled (pool 0 n) (codes "s_0") ≡ Some 0 = ap (field_labelled (pool 0 n)) (sym label-zero) ∙ labelled n 0 (omega arith) few in
    let one_is : field_labelled (pool 0 n) (codes "s_1") ≡ Some 1 = ap (field_labelled (pool 0 n)) (sym label-one) ∙ labelled n 1 (omega arith) few in
    then-ok _ 0 _ _ (value-there (field_labelled (pool 0 n)) d (codes "reaction/r") (codes "from") (codes "s_0") None 0 (there (codes "from") (Some (codes "s_0")) refl) zero_is)
    (then-ok _ 1 _ _ (then-ok _ 1 _ _ (value-there (field_labelled (pool 0 n)) d (codes "reaction/r") (codes "to") (codes "s_1") None 1 (there (codes "to") (Some (codes "s_1")) refl) one_is) refl)
    (then-ok _ 10 _ _ (number-there d (codes "reaction/r") (codes "den") (codes "10") 1 1000000000 10 None (there (codes "den") (Some (codes "10")) refl) refl (omega arith) (omega arith))
    (then-ok _ 1 _ _ (number-there d (codes "reaction/r") (codes "num") (codes "1") 0 10 1 None (there (codes "num") (Some (codes "1")) refl) refl (omega arith) (omega arith)) refl)))

unfoldable pub criterion_of : ℕ → Criterion
criterion_of levels = record { field = 0; method = Peak; refine_tol = 500; derefine_tol = 50; max_level = levels - 1 }

pub criterion-read : (d : Blocks) (levels n : ℕ) → 2 ≤ n → n ≤ 256 → keys_of d (codes "criterion/c") ≡ criterion_settings → criterion d levels (pool 0 n) (codes "criterion/c") ≡ Ok (criterion_of levels)
unfolding criterion label method tolerances amount lower_amount criterion_of
criterion-read d levels n two few at =
    let there : (key : Text) (v : Option Text) → lookup (bytes_eq key) criterion_settings ≡ v → entry d (codes "criterion/c") key ≡ v = λ key v h. entry-at d (codes "criterion/c") key criterion_settings v at h in
    let zero_is : field_labelled (pool 0 n) (codes "s_0") ≡ Some 0 = ap (field_labelled (pool 0 n)) (sym label-zero) ∙ labelled n 0 (omega arith) few in
    then-ok _ 0 _ _ (value-there (field_labelled (pool 0 n)) d (codes "criterion/c") (codes "field") (codes "s_0") None 0 (there (codes "field") (Some (codes "s_0")) refl) zero_is)
    (then-ok _ Peak _ _ (value-there method_named d (codes "criterion/c") (codes "method") (codes "peak") None Peak (there (codes "method") (Some (codes "peak")) refl) refl)
    (then-ok _ (500, 50) _ _
    (then-ok _ 500 _ _ (number-there d (codes "criterion/c") (codes "refine_tol") (codes "500") 0 4611686018427387903 500 None (there (codes "refine_tol") (Some (codes "500")) refl) refl (omega arith) (omega arith))
    (then-ok _ 50 _ _ (then-ok _ 50 _ _ (number-there d (codes "criterion/c") (codes "derefine_tol") (codes "50") 0 4611686018427387903 50 None (there (codes "derefine_tol") (Some (codes "50")) refl) refl (omega arith) (omega arith)) refl) refl))
    (then-ok _ (levels - 1) _ _ (number-absent d (codes "criterion/c") (codes "max_level") 0 (levels - 1) (levels - 1) (there (codes "max_level") None refl) (omega arith) (omega arith)) refl)))
