-- For the code: texts from plain values.
use Rattle.std.specs.Prelude.{ℕ, List, [], ◌++◌, cond, codes, count_by, slice_index}
use Rattle.std.specs.List.{enumerate_from, flat_map}
use Rattle.morton_order.specs.declared.space.Loc.{Loc}
use Rattle.morton_order.specs.Space.{root_along}
use Rattle.package_fields.specs.declared.field.Field.{Field}
use Rattle.package_fields.specs.declared.flow.Flow.{Flow}
use Rattle.problem_set.specs.Settings.{Settings}
use Rattle.mesh_rules.specs.Fields.{field_at, field_count}
use Rattle.mesh_rules.specs.Texts.{drop_text, is_zero, line, named, rows, three}
use Rattle.block_layout.specs.declared.layout.Layout.{Layout}
use Rattle.mesh_texts.specs.Sizes.{row_count, row_width}

-- the line of the axes, the cells of a block and the root blocks
abbrev pub dims_line : Settings → List ℕ
dims_line p = line (named (codes "dims ") p.shape.dims
    ++ three (codes " cells ") (slice_index p.cells 0) (slice_index p.cells 1) (slice_index p.cells 2)
    ++ three (codes " root ") (root_along p.shape 0) (root_along p.shape 1) (root_along p.shape 2))

-- the first lines of a heading
abbrev pub first_lines : Settings → ℕ → List ℕ
first_lines p cycle = line (codes "parthenon-whole dump 1") ++ line (named (codes "cycle ") cycle) ++ dims_line p

-- the lines of the labels
abbrev pub label_lines : List Field → List ℕ
label_lines fields = flat_map (λ (field : Field). line field.label) fields

-- all of them
abbrev pub heading_lines : Settings → ℕ → ℕ → List ℕ
heading_lines p leaves cycle = first_lines p cycle ++ line (named (codes "fields ") (field_count p)) ++ label_lines p.fields.fields ++ line (named (codes "blocks ") leaves)

-- a field's lines
abbrev pub field_lines : Layout → List ℕ → List ℕ → List ℕ
field_lines l label totals = cond (is_zero totals) [] (line (codes "field " ++ label) ++ rows (row_width l) (row_count l) totals)

-- those of some fields with their numbers
abbrev pub numbered_lines : Settings → Layout → List (ℕ × List ℕ) → List ℕ
numbered_lines p l totals = flat_map (λ (field : ℕ × List ℕ). field_lines l (field_at p field.0).label field.1) totals

-- those of each field
abbrev pub fields_lines : Settings → Layout → List (List ℕ) → List ℕ
fields_lines p l totals = numbered_lines p l (enumerate_from 0 totals)

-- a block's first line
abbrev pub place_line : ℕ → Loc → ℕ → List ℕ
place_line leaf l zeros = line (named (codes "block ") leaf ++ named (codes " level ") l.level ++ three (codes " at ") l.l1 l.l2 l.l3 ++ named (codes " zero ") zeros)

-- a block's lines
abbrev pub block_lines : Settings → Layout → ℕ → Loc → List (List ℕ) → List ℕ
block_lines p layout leaf l totals = place_line leaf l (count_by is_zero totals) ++ fields_lines p layout totals

-- the parts of a line of the history
abbrev pub label_words : ℕ → List ℕ → List ℕ
label_words cycle label = named (codes "cycle ") cycle ++ codes " field " ++ label

abbrev pub flow_words : Flow → List ℕ
flow_words flow = named (codes " in ") flow.inflow ++ named (codes " out ") flow.outflow ++ named (codes " made ") flow.made ++ named (codes " used ") flow.used

abbrev pub amount_words : Settings → ℕ → Flow → ℕ → List ℕ
amount_words p total flow dropped = named (codes " total ") total ++ flow_words flow ++ drop_text p dropped
