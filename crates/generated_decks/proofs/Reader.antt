-- The reader of problems accepts each generated deck.
use Rattle.std.proofs.Common.{◌≡◌, ℕ, zero, suc, ◌+◌, ◌*◌, ◌-◌, ◌<◌, ◌≤◌, Bool, true, false, List, [], ◌∷◌, length, map, refl, ap, ◌∙◌, arith, le-leb, pos}
use Rattle.std.specs.Prelude.{nat_le, sum_by, is_ok, IsOk, Result, Ok, codes}
use Rattle.std.specs.List.{range_with_len}
use Rattle.input_file.specs.Texts.{Text}
use Rattle.input_file.specs.Blocks.{Blocks}
use Rattle.deck_values.specs.declared.fault.ProblemFault.{ProblemFault}
use Rattle.deck_values.specs.declared.fault.ProblemFault.TheVariants.{Limit}
use Rattle.deck_values.specs.Reading.{only_if, each}
use Rattle.deck_values.specs.BlockNames.{names_of, names_within}
use Rattle.deck_generator.specs.declared.form.Form.{Form}
use Rattle.deck_generator.specs.Forms.{small, large_form}
use Rattle.deck_generator.specs.Generated.{drawn, box_name, speed_text, generated_of, generated}
use Rattle.mesh_settings.specs.declared.block_kinds.BlockNames.{BlockNames}
use Rattle.deck_entries.specs.declared.entries.StartBox.{StartBox}
use Rattle.deck_entries.specs.declared.entries.Criterion.{Criterion}
use Rattle.problem_set.specs.declared.repeated_blocks.CountedBlocks.{CountedBlocks}
use Rattle.problem_set.specs.declared.repeated_blocks.RepeatedBlocks.{RepeatedBlocks}
use Rattle.problem_set.specs.Settings.{Settings}
use Rattle.mesh_settings.specs.Mesh.{levels_in, mesh_keys}
use Rattle.mesh_settings.specs.Grid.{dims_of, grid}
use Rattle.mesh_settings.specs.Stepping.{stepping}
use Rattle.mesh_settings.specs.BlockKinds.{statics, boxes, reactions, criteria, block_names}
use Rattle.deck_entries.specs.FieldBlocks.{field_block}
use Rattle.problem_set.specs.Packages.{fields}
use Rattle.deck_entries.specs.EntryReaders.{start_box, reaction, criterion}
use Rattle.problem_set.specs.RepeatedBlocks.{counted_blocks, repeated_blocks}
use Rattle.problem_set.specs.Rates.{box_total}
use Rattle.problem_set.specs.Problems.{settings, settings_read, fitting, problem}
use Rattle.generated_decks.proofs.FormFacts.{IsUsual, small-usual, large-usual}
use Rattle.generated_decks.proofs.Rows.{then-ok}
use Rattle.generated_decks.proofs.DeckBlocks.{has-mesh, has-meshblock, has-time, has-whole, has-field, has-no-sparse, has-reaction, has-criterion, has-box, box-names, static-names, field-names, reaction-names, criterion-names}
use Rattle.generated_decks.proofs.MeshSection.{mode_of, mesh_of, mesh-read}
use Rattle.generated_decks.proofs.GridSection.{mesh_size, grid_of, grid-read, stepping_of, stepping-read}
use Rattle.generated_decks.proofs.FieldSection.{SpeedRead, speed-read, pool, block_with, field-read, table_with, registry-read}
use Rattle.generated_decks.proofs.BoxSection.{box_with, box-read, each-read, reaction_of, reaction-read, criterion_of, criterion-read}
use Rattle.generated_decks.proofs.Fit.{closed_faces, two-axes, rates-of-all, finest-level, box-small, boxes-small, total-fits}

names-within : (d : Blocks) (kind : Text) (most : ℕ) (ts : List Text) → names_of d kind ≡ ts → length ts ≤ most → names_within d kind most ≡ Ok ts
unfolding names_within
names-within d kind most ts h few =
    ap (λ (ns : List Text). only_if (nat_le (length ns) most) ns (Limit kind (codes "count") (pos (length ns)))) h ∙ rw (le-leb (length ts) most few) refl

length-names : (a n : ℕ) → length (map box_name (range_with_len a n)) ≡ n
length-names a zero = refl
length-names a (suc n) = let more : length (map box_name (range_with_len (a + 1) n)) ≡ n = length-names (a + 1) n in omega arith

each-one : {A : Type 0} (row : Text → Result A ProblemFault) (x : Text) (y : A) → row x ≡ Ok y → each row (x ∷ []) ≡ Ok (y ∷ [])
each-one row x y h = rw h refl

unfoldable criteria_names : Bool → List Text
criteria_names true = codes "criterion/c" ∷ []
criteria_names false = []

unfoldable criteria_of : Bool → ℕ → List Criterion
criteria_of true levels = criterion_of levels ∷ []
criteria_of false levels = []

module _ (f : Form) (seed : ℕ) (usual : IsUsual f) where
  s1 : SpeedRead (speed_text (drawn seed 1))
  s1 = speed-read (drawn seed 1)

  s2 : SpeedRead (speed_text (drawn seed 2))
  s2 = speed-read (drawn seed 2)

  statics-are : (b : Bool) → statics (generated_of f seed) (mode_of b) ≡ Ok []
  unfolding statics mode_of
  statics-are true = names-within (generated_of f seed) (codes "static") 256 [] (static-names f seed) (omega arith)
  statics-are false = refl

  criteria-are : (b : Bool) → criteria (generated_of f seed) (mode_of b) ≡ Ok (criteria_names b)
  unfolding criteria mode_of criteria_names
  criteria-are true = names-within (generated_of f seed) (codes "criterion") 64 (codes "criterion/c" ∷ []) (criterion-names f seed) (omega arith)
  criteria-are false = refl

  unfoldable names : BlockNames
  names = record { statics = []; boxes = map box_name (range_with_len 0 f.fields); reactions = codes "reaction/r" ∷ []; criteria = criteria_names f.adaptive }

  names-are : block_names (generated_of f seed) (mode_of f.adaptive) ≡ Ok names
  unfolding block_names boxes reactions names
  names-are =
      let few : f.fields ≤ 256 = usual.few_fields in
      let count : length (map box_name (range_with_len 0 f.fields)) ≤ 4096 = omega (arith, length-names 0 f.fields) in
      then-ok (statics (generated_of f seed) (mode_of f.adaptive)) _ _ _ (statics-are f.adaptive)
      (then-ok _ _ _ _ (names-within (generated_of f seed) (codes "box") 4096 (map box_name (range_with_len 0 f.fields)) (box-names f seed) count)
      (then-ok _ _ _ _ (names-within (generated_of f seed) (codes "reaction") 256 (codes "reaction/r" ∷ []) (reaction-names f seed) (omega arith))
      (then-ok (criteria (generated_of f seed) (mode_of f.adaptive)) _ _ _ (criteria-are f.adaptive) refl)))

  fields-are : fields (generated_of f seed) ≡ Ok (table_with f.fields s1.z s2.z)
  unfolding fields
  fields-are =
      then-ok (each (field_block (generated_of f seed)) (names_of (generated_of f seed) (codes "field"))) (block_with f.fields s1.z s2.z ∷ []) _ _
      (ap (each (field_block (generated_of f seed))) (field-names f seed)
      ∙ each-one (field_block (generated_of f seed)) (codes "field/s") (block_with f.fields s1.z s2.z) (field-read (generated_of f seed) f (drawn seed 1) (drawn seed 2) (has-field f seed) usual s1 s2))
      (registry-read f.fields s1.z s2.z usual.few_fields)

  -- the box of a number
  unfoldable box : ℕ → StartBox
  box i = box_with f i (drawn seed (3 + 2 * i)) (drawn seed (4 + 2 * i))

  boxes-are : each (start_box (generated_of f seed) (mesh_size f) (pool 0 f.fields)) (map box_name (range_with_len 0 f.fields)) ≡ Ok (map box (range_with_len 0 f.fields))
  unfolding box
  boxes-are =
      each-read (start_box (generated_of f seed) (mesh_size f) (pool 0 f.fields)) (λ i. box_with f i (drawn seed (3 + 2 * i)) (drawn seed (4 + 2 * i))) f.fields 0
      (λ i low high. let within : i < f.fields = omega arith in box-read (generated_of f seed) f i (drawn seed (3 + 2 * i)) (drawn seed (4 + 2 * i)) usual within (has-box f seed i within usual.few_fields))

  criteria-read : (b : Bool) (levels : ℕ) → each (criterion (generated_of f seed) levels (pool 0 f.fields)) (criteria_names b) ≡ Ok (criteria_of b levels)
  unfolding criteria_names criteria_of
  criteria-read true levels = each-one (criterion (generated_of f seed) levels (pool 0 f.fields)) (codes "criterion/c") (criterion_of levels) (criterion-read (generated_of f seed) levels f.fields usual.two_fields usual.few_fields (has-criterion f seed))
  criteria-read false levels = refl

  unfoldable counted : ℕ → CountedBlocks
  counted levels = record { statics = []; boxes = map box (range_with_len 0 f.fields); reactions = reaction_of ∷ []; criteria = criteria_of f.adaptive levels }

  counted-are : (levels : ℕ) → counted_blocks (generated_of f seed) (mesh_size f) levels (pool 0 f.fields) names ≡ Ok (counted levels)
  unfolding counted_blocks names counted
  counted-are levels =
      then-ok (each (start_box (generated_of f seed) (mesh_size f) (pool 0 f.fields)) (map box_name (range_with_len 0 f.fields))) (map box (range_with_len 0 f.fields)) _ _ boxes-are
      (then-ok _ (reaction_of ∷ []) _ _ (each-one (reaction (generated_of f seed) (pool 0 f.fields)) (codes "reaction/r") reaction_of (reaction-read (generated_of f seed) f.fields usual.two_fields usual.few_fields (has-reaction f seed)))
      (then-ok _ _ _ _ (criteria-read f.adaptive levels) refl))

  unfoldable blocks : ℕ → RepeatedBlocks
  blocks levels = record { field_table = table_with f.fields s1.z s2.z; counted = counted levels }

  blocks-are : (levels : ℕ) → repeated_blocks (generated_of f seed) (mesh_size f) (mode_of f.adaptive) levels ≡ Ok (blocks levels)
  unfolding repeated_blocks blocks table_with
  blocks-are levels =
      then-ok (block_names (generated_of f seed) (mode_of f.adaptive)) names _ _ names-are
      (then-ok (fields (generated_of f seed)) _ _ _ fields-are
      (then-ok _ (counted levels) _ _ (counted-are levels) refl))

  finest : ℕ
  finest = levels_in (mode_of f.adaptive) f.levels

  unfoldable all : Settings
  all = settings (mesh_of f) (grid_of f closed_faces) (stepping_of f) (blocks (levels_in (mode_of f.adaptive) f.levels))

  all-read : settings_read (generated_of f seed) ≡ Ok all
  unfolding settings_read all mesh_of mesh_size closed_faces
  all-read =
      then-ok (mesh_keys (generated_of f seed)) (mesh_of f) _ _ (mesh-read (generated_of f seed) f usual (has-mesh f seed))
      (then-ok (grid (generated_of f seed) (mesh_size f) closed_faces) (grid_of f closed_faces) _ _ (grid-read (generated_of f seed) f closed_faces usual (has-meshblock f seed))
      (then-ok (stepping (generated_of f seed)) (stepping_of f) _ _ (stepping-read (generated_of f seed) f usual (has-time f seed) (has-no-sparse f seed) (has-whole f seed))
      (then-ok (repeated_blocks (generated_of f seed) (mesh_size f) (mode_of f.adaptive) (levels_in (mode_of f.adaptive) f.levels)) _ _ _ (blocks-are (levels_in (mode_of f.adaptive) f.levels)) refl)))

  few-total : sum_by box_total (map box (range_with_len 0 f.fields)) ≤ 2000000
  unfolding box
  few-total =
      let few : f.fields ≤ 256 = usual.few_fields in
      let most : sum_by box_total (map (λ i. box_with f i (drawn seed (3 + 2 * i)) (drawn seed (4 + 2 * i))) (range_with_len 0 f.fields)) ≤ f.fields * 6000 =
      boxes-small (λ i. box_with f i (drawn seed (3 + 2 * i)) (drawn seed (4 + 2 * i))) f.fields 0 (λ i within. box-small f i (drawn seed (3 + 2 * i)) (drawn seed (4 + 2 * i)) (omega arith)) in
      omega arith

  all-fit : fitting all ≡ Ok tt
  unfolding fitting all mesh_of grid_of stepping_of blocks table_with counted closed_faces
  all-fit =
      then-ok _ tt _ _ (rates-of-all f (levels_in (mode_of f.adaptive) f.levels - 1) s1.z s2.z usual (finest-level f.adaptive f.levels usual.one_level usual.two_levels) s1.slow s2.slow)
      (rw (total-fits f (f.cells ∷ f.cells ∷ 1 ∷ []) (dims_of (mesh_size f)) f.cycles s1.z s2.z (map box (range_with_len 0 f.fields)) (two-axes f usual) few-total) refl)

  problem-is : problem (generated_of f seed) ≡ Ok all
  unfolding problem
  problem-is = then-ok (settings_read (generated_of f seed)) all _ _ all-read (then-ok (fitting all) tt _ _ all-fit refl)

  accepted-of : IsOk (problem (generated_of f seed))
  accepted-of = ap is_ok problem-is

-- the deck of each seed is accepted
pub accepted : (seed : ℕ) (large : Bool) → IsOk (problem (generated seed large))
accepted seed true = accepted-of large_form seed large-usual
accepted seed false = accepted-of small seed small-usual
