use Rattle.std.proofs.Common.{◌≡◌, ℕ, List, ◌++◌, Some, sym, ap, ◌∙◌}
use Rattle.std.specs.Prelude.{slice_get}
use Rattle.std.proofs.lemmas.Result.{on_ok_weaker}
use Rattle.morton_order.specs.declared.space.Loc.{Loc}
use Rattle.block_tree.specs.Blocks.{TreeOfBlocks, leaves}
use Rattle.problem_set.specs.SettingsOf.{settings_of}
use Rattle.mesh_rules.specs.Texts.{block_text}
use Rattle.mesh_texts.specs.Pieces.{fields_lines, place_line}
use Rattle.cell_block.specs.Rules.{mesh_in}
use Rattle.dump_writer.specs.Blocks.{interiors_on}
use Rattle.dump_writer.proofs.Blocks.{block_is}
use Rattle.dump_writer.proofs.Pieces.{as_both}
use Rattle.dump_writer.proofs.block.write_block.Goals as goal

pub returns : goal.returns
returns c at e =
    let p = settings_of c.args.problem.now in
    let l = c.args.layout.now in
    let s = c.args.mesh.now in
    let leaf = c.args.leaf in
    let found : Loc = c.leaf_at-at.result in
    let there = ap (λ (t : TreeOfBlocks). slice_get (leaves t) leaf) (sym c.tree.ensures.tree) ∙ c.leaf_at-at.ensures in
    let same : found ≡ at = some_is found at (sym there ∙ e) in
    let zeros = c.from.ensures ∙ c.in_ok-zeros.ensures.zeros in
    let lines : List ℕ = fields_lines p l (interiors_on l s leaf) in
    on_ok_weaker c.push_place.result
    (λ last.
    as_both c.args.piece.now.first.items c.args.piece.now.rest.items c.push_place.new.into.items c.push_fields.new.lines.items (place_line leaf found c.from.result) lines
    c.requires.first c.requires.rest last c.in_ok-zeros.ensures.lines
    ∙ ap (λ (n : ℕ). place_line leaf found n ++ lines) zeros
    ∙ block_is p s l leaf found c.requires.layout c.requires.stored.fields c.requires.leaf
    ∙ ap (block_text p (mesh_in l s) leaf) same)
    c.push_place.ensures
  where
    some_is : (x y : Loc) → Some x ≡ Some y → x ≡ y
    some_is x y h = cc
