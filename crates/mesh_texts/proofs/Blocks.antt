-- The lines of a block.
use Rattle.std.proofs.Common.{◌≡◌, ℕ, ◌+◌, ◌*◌, ◌<◌, List, [], ◌++◌, cond, length, get_or, take, codes, sym, ap, ◌∙◌, arith}
use Rattle.std.specs.Prelude.{count_by, slice_index}
use Rattle.std.specs.List.{enumerate_from, flat_map, slice_index_or}
use Rattle.std.proofs.Math.Nat.{mul_assoc}
use Rattle.std.proofs.lemmas.List.{get_or-map, get_or_default}
use Rattle.std.proofs.lemmas.List.FromFn.{get_or-enumerate_from, length-enumerate_from}
use Rattle.morton_order.specs.declared.space.Loc.{Loc}
use Rattle.package_fields.specs.declared.field.Field.{Field}
use Rattle.block_tree.specs.Blocks.{TreeOfBlocks, leaves}
use Rattle.problem_set.specs.Settings.{Settings}
use Rattle.mesh_rules.specs.Sums.{table}
use Rattle.mesh_rules.specs.Mesh.{Mesh, totals_on}
use Rattle.mesh_rules.specs.Fields.{field_at, field_count}
use Rattle.mesh_rules.specs.Texts.{block_text, is_zero, line, rows}
use Rattle.block_layout.specs.declared.layout.Layout.{Layout}
use Rattle.dense_mesh.specs.Meshes.{IsMeshIn, mesh_of, totals_in}
use Rattle.dense_mesh.proofs.Lists.{lists_are_totals}
use Rattle.dense_mesh.proofs.Tables.{table_by}
use Rattle.mesh_texts.specs.Sizes.{HaveBlocks, leaf_lists}
use Rattle.mesh_texts.specs.Pieces.{block_lines, field_lines, numbered_lines, place_line}
use Rattle.mesh_texts.proofs.Appended.{grown_by}
use Rattle.mesh_texts.proofs.Rows.{leaf_lists_long}

-- a field's label, by its number
pub label_is : (xs ys : List Field) (i : ℕ) (d e : Field) → xs ≡ ys → i < length ys → (get_or xs i d).label ≡ (get_or ys i e).label
label_is xs ys i d e same inside = ap (λ (v : List Field). (get_or v i d).label) same ∙ ap (λ (f : Field). f.label) (get_or_default ys i d e inside)

-- a text with the lines of one field more
pub numbered_more : (p : Settings) (l : Layout) (totals : List (List ℕ)) (i : ℕ) (label t s0 s1 s2 : List ℕ) → i < length totals → label ≡ (field_at p i).label → t ≡ slice_index_or totals i []
    → s1 ≡ s0 ++ numbered_lines p l (take i (enumerate_from 0 totals)) → s2 ≡ s1 ++ field_lines l label t → s2 ≡ s0 ++ numbered_lines p l (take (i + 1) (enumerate_from 0 totals))
numbered_more p l totals i label t s0 s1 s2 inside labelled at e1 e2 =
    let z : 0 + i ≡ i = omega arith in
    let lines : ℕ × List ℕ → List ℕ = λ field. field_lines l (field_at p field.0).label field.1 in
    let item = get_or-enumerate_from 0 totals i (0, []) inside in
    grown_by lines (enumerate_from 0 totals) i (0, []) s0 s1 s2 (omega (arith, inside, length-enumerate_from 0 totals)) e1
    (e2 ∙ ap (λ (v : List ℕ). s1 ++ v)
    (ap (λ (w : List ℕ). field_lines l w t) labelled
    ∙ ap (λ (v : List ℕ). field_lines l (field_at p i).label v) at
    ∙ ap (λ (k : ℕ). field_lines l (field_at p k).label (slice_index_or totals i [])) (sym z)
    ∙ ap lines (sym item)))

-- a leaf's totals of a field, by the numbers of both
in_lists : (lists : List (List (List ℕ))) (leaf f : ℕ) → f < length lists → slice_index_or (leaf_lists lists leaf) f [] ≡ totals_in lists f leaf
in_lists lists leaf f inside = get_or-map (λ (l : List (List ℕ)). slice_index_or l leaf []) lists f [] [] inside

-- a mesh in lists has blocks
pub blocks_are : (p : Settings) (t : TreeOfBlocks) (l : Layout) (lists : List (List (List ℕ))) → IsMeshIn p t l lists → HaveBlocks p t l lists
blocks_are p t l lists is = record {
  shape = is.mesh.shape;
  cells = is.cells;
  fields = is.fields;
  blocks = λ leaf on f inside.
      let within : f < length lists = omega (arith, inside, leaf_lists_long lists leaf) in
      ap length (in_lists lists leaf f within ∙ sym (lists_are_totals t p.cells lists leaf f on within))
      ∙ is.mesh.cell_lists leaf f on (omega (arith, within, is.fields))
      ∙ mul_assoc (slice_index p.cells 0) (slice_index p.cells 1) (slice_index p.cells 2)
      ∙ ap (λ (cells : List ℕ). slice_index cells 0 * (slice_index cells 1 * slice_index cells 2)) (sym is.cells);
}

-- a block's lines from the cells of a block
abbrev from_cells : Settings → ℕ → Loc → List ℕ → List (List ℕ) → List ℕ
from_cells p leaf l cells totals = place_line leaf l (count_by is_zero totals)
    ++ flat_map (λ (field : ℕ × List ℕ). cond (is_zero field.1) [] (line (codes "field " ++ (field_at p field.0).label) ++ rows (slice_index cells 0) (slice_index cells 1 * slice_index cells 2) field.1)) (enumerate_from 0 totals)

-- the text of a block from plain values
pub block_is : (p : Settings) (t : TreeOfBlocks) (l : Layout) (lists : List (List (List ℕ))) (leaf : ℕ) (at : Loc) → HaveBlocks p t l lists → leaf < length (leaves t) →
    block_lines p l leaf at (leaf_lists lists leaf) ≡ block_text p (mesh_of t p.cells lists) leaf at
block_is p t l lists leaf at have on =
    let m : Mesh = mesh_of t p.cells lists in
    let long : length (leaf_lists lists leaf) ≡ field_count p = leaf_lists_long lists leaf ∙ have.fields in
    let same : leaf_lists lists leaf ≡ table (field_count p) (totals_on m leaf) =
    table_by (leaf_lists lists leaf) (field_count p) (totals_on m leaf) [] long
    (λ f inside. let within : f < length lists = omega (arith, inside, have.fields) in in_lists lists leaf f within ∙ sym (lists_are_totals t p.cells lists leaf f on within)) in
    ap (λ (cells : List ℕ). from_cells p leaf at cells (leaf_lists lists leaf)) have.cells
    ∙ ap (from_cells p leaf at p.cells) same
