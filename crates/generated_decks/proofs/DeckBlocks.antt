-- Which blocks a generated deck has, and what stands in them.
use Rattle.std.proofs.Common.{◌≡◌, ◌≢◌, ℕ, zero, suc, ◌+◌, ◌<◌, ◌≤◌, ◌^◌, Bool, true, false, List, [], ◌∷◌, ◌++◌, map, refl, sym, ap, ◌∙◌, arith, ◌⊎◌, inl, inr, ◌*◌}
use Rattle.std.specs.Prelude.{unwrap_or, filter, Option, Some, codes}
use Rattle.std.specs.List.{range_with_len}
use Rattle.std.specs.Str.{bytes_eq}
use Rattle.std.specs.Map.{lookup}
use Rattle.std.specs.Fmt.{decimal}
use Rattle.std.proofs.lemmas.Fmt.{decimal_injective}
use Rattle.std.proofs.lemmas.Bool.{cases_eq}
use Rattle.std.proofs.lemmas.Slice.Eq.{bytes_eq-Decides}
use Rattle.input_file.specs.Texts.{Text}
use Rattle.input_file.specs.Blocks.{Entries, Blocks, keys_of}
use Rattle.deck_generator.specs.declared.form.Form.{Form}
use Rattle.deck_generator.specs.Generated.{drawn, mesh_settings, meshblock_settings, time_settings, whole_settings, field_settings, box_name, box_settings, box_block, reaction_settings, criterion_settings, last_blocks, generated_of}
use Rattle.deck_values.specs.BlockNames.{is_of_kind, names_of}

-- ---- the boxes

-- numbers that differ have texts that differ
pub other-number : (m n : ℕ) → m < 2 ^ 32 → n < 2 ^ 32 → m ≢ n → bytes_eq (decimal m) (decimal n) ≡ false
other-number m n p q differ = by (bytes_eq (decimal m) (decimal n)) refl
  where
    by : (b : Bool) → bytes_eq (decimal m) (decimal n) ≡ b → bytes_eq (decimal m) (decimal n) ≡ false
    by true same = absurd (differ (decimal_injective m n (omega arith) (omega arith) ((bytes_eq-Decides (decimal m) (decimal n)).0 same)))
    by false other = other

pub same-text : (t : Text) → bytes_eq t t ≡ true
same-text t = (bytes_eq-Decides t t).1 refl

-- a name that no box has is looked for behind the boxes
behind-boxes : (f : Form) (seed : ℕ) (name : Text) (rest : Blocks) (n a : ℕ) → ((i : ℕ) → bytes_eq name (box_name i) ≡ false) → lookup (bytes_eq name) (map (box_block f seed) (range_with_len a n) ++ rest) ≡ lookup (bytes_eq name) rest
behind-boxes f seed name rest zero a none = refl
behind-boxes f seed name rest (suc n) a none = rw (none a) (behind-boxes f seed name rest n (a + 1) none)

box-among : (f : Form) (seed : ℕ) (rest : Blocks) (n a i : ℕ) → a ≤ i → i < a + n → a + n < 2 ^ 32 → lookup (bytes_eq (box_name i)) (map (box_block f seed) (range_with_len a n) ++ rest) ≡ Some (box_block f seed i).1
box-among f seed rest zero a i low high wide = absurd (omega arith)
box-among f seed rest (suc n) a i low high wide = by (λ above. box-among f seed rest n (a + 1) i above (omega arith) (omega arith)) (cases_eq i a)
  where
    by : (a + 1 ≤ i → lookup (bytes_eq (box_name i)) (map (box_block f seed) (range_with_len (a + 1) n) ++ rest) ≡ Some (box_block f seed i).1) → (i ≡ a) ⊎ (i ≢ a) → lookup (bytes_eq (box_name i)) (map (box_block f seed) (range_with_len a (suc n)) ++ rest) ≡ Some (box_block f seed i).1
    by later (inl here) =
        let found : bytes_eq (decimal i) (decimal a) ≡ true = ap (λ (k : ℕ). bytes_eq (decimal k) (decimal a)) here ∙ same-text (decimal a) in
        rw found (ap (λ (k : ℕ). Some (box_block f seed k).1) (sym here))
    by later (inr other) =
        let differ : bytes_eq (decimal i) (decimal a) ≡ false = other-number i a (omega arith) (omega arith) other in
        rw differ (later (omega arith))

module _ (f : Form) (seed : ℕ) where
  pub has-mesh : keys_of (generated_of f seed) (codes "parthenon/mesh") ≡ mesh_settings f
  unfolding generated_of
  has-mesh = refl

  pub has-meshblock : keys_of (generated_of f seed) (codes "parthenon/meshblock") ≡ meshblock_settings f
  unfolding generated_of
  has-meshblock = refl

  pub has-time : keys_of (generated_of f seed) (codes "parthenon/time") ≡ time_settings f
  unfolding generated_of
  has-time = refl

  pub has-whole : keys_of (generated_of f seed) (codes "whole") ≡ whole_settings
  unfolding generated_of
  has-whole = refl

  pub has-field : keys_of (generated_of f seed) (codes "field/s") ≡ field_settings f (drawn seed 1) (drawn seed 2)
  unfolding generated_of
  has-field = refl

  pub has-no-sparse : keys_of (generated_of f seed) (codes "parthenon/sparse") ≡ []
  unfolding generated_of
  has-no-sparse = ap (λ (o : Option Entries). unwrap_or o []) (behind-boxes f seed (codes "parthenon/sparse") last_blocks f.fields 0 (λ i. refl))

  pub has-reaction : keys_of (generated_of f seed) (codes "reaction/r") ≡ reaction_settings
  unfolding generated_of
  has-reaction = ap (λ (o : Option Entries). unwrap_or o []) (behind-boxes f seed (codes "reaction/r") last_blocks f.fields 0 (λ i. refl))

  pub has-criterion : keys_of (generated_of f seed) (codes "criterion/c") ≡ criterion_settings
  unfolding generated_of
  has-criterion = ap (λ (o : Option Entries). unwrap_or o []) (behind-boxes f seed (codes "criterion/c") last_blocks f.fields 0 (λ i. refl))

  pub has-box : (i : ℕ) → i < f.fields → f.fields ≤ 256 → keys_of (generated_of f seed) (box_name i) ≡ box_settings f i (drawn seed (3 + 2 * i)) (drawn seed (4 + 2 * i))
  unfolding generated_of
  has-box i within few = ap (λ (o : Option Entries). unwrap_or o []) (box-among f seed last_blocks f.fields 0 i (omega arith) (omega arith) (omega arith))

  -- ---- the names of each kind

  names-of-boxes : (n a : ℕ) → filter (is_of_kind (codes "box")) (map (λ (e : Text × Entries). e.0) (map (box_block f seed) (range_with_len a n) ++ last_blocks)) ≡ map box_name (range_with_len a n)
  names-of-boxes zero a = refl
  names-of-boxes (suc n) a = ap (λ (ts : List Text). box_name a ∷ ts) (names-of-boxes n (a + 1))

  names-behind : (kind : Text) (n a : ℕ) → ((i : ℕ) → is_of_kind kind (box_name i) ≡ false) → filter (is_of_kind kind) (map (λ (e : Text × Entries). e.0) (map (box_block f seed) (range_with_len a n) ++ last_blocks)) ≡ filter (is_of_kind kind) (codes "reaction/r" ∷ codes "criterion/c" ∷ [])
  names-behind kind zero a none = refl
  names-behind kind (suc n) a none = rw (none a) (names-behind kind n (a + 1) none)

  pub box-names : names_of (generated_of f seed) (codes "box") ≡ map box_name (range_with_len 0 f.fields)
  unfolding generated_of names_of
  box-names = names-of-boxes f.fields 0

  pub static-names : names_of (generated_of f seed) (codes "static") ≡ []
  unfolding generated_of names_of
  static-names = names-behind (codes "static") f.fields 0 (λ i. refl)

  pub field-names : names_of (generated_of f seed) (codes "field") ≡ codes "field/s" ∷ []
  unfolding generated_of names_of
  field-names = ap (λ (ts : List Text). codes "field/s" ∷ ts) (names-behind (codes "field") f.fields 0 (λ i. refl))

  pub reaction-names : names_of (generated_of f seed) (codes "reaction") ≡ codes "reaction/r" ∷ []
  unfolding generated_of names_of
  reaction-names = names-behind (codes "reaction") f.fields 0 (λ i. refl)

  pub criterion-names : names_of (generated_of f seed) (codes "criterion") ≡ codes "criterion/c" ∷ []
  unfolding generated_of names_of
  criterion-names = names-behind (codes "criterion") f.fields 0 (λ i. refl)
