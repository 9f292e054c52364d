use Rattle.std.proofs.Common.{◌-◌, length, sym, ap, ◌∙◌, arith}
use Rattle.std.specs.List.{slice_index_or}
use Rattle.std.proofs.lemmas.Result.{on_ok_weaker}
use Rattle.std.proofs.lemmas.Option.{slice_get-get_or}
use Rattle.block_tree.specs.Blocks.{TreeOfBlocks, leaves}
use Rattle.morton_order.specs.declared.space.Loc.{Loc}
use Rattle.problem_set.specs.SettingsOf.{settings_of}
use Rattle.cell_block.specs.Rules.{mesh_in}
use Rattle.mesh_texts.proofs.Walks.{first_piece, last_piece, leaf_piece}
use Rattle.dump_writer.proofs.Pieces.{as_first}
use Rattle.dump_writer.proofs.dump.write_piece.Goals as goal

-- a location for numbers that no leaf has
nowhere : Loc
nowhere = record { level = 0; l1 = 0; l2 = 0; l3 = 0 }

pub returns-then-number-eq0 : goal.returns-then-number-eq0
returns-then-number-eq0 c =
    let p = settings_of c.args.problem.now in
    let m = mesh_in c.args.layout.now c.args.mesh.now in
    let count = c.len-leaves.ensures.count ∙ ap (λ (t : TreeOfBlocks). length (leaves t)) c.tree.ensures.tree in
    on_ok_weaker c.push_heading.result
    (λ last. as_first _ _ _ _ c.clear.ensures.first c.clear.ensures.rest last ∙ first_piece p m c.args.cycle c.args.number c.if-number-eq0.true)
    (c.push_heading.ensures m (record { shape = c.requires.stored.shape; cells = c.requires.stored.cells; count = sym count }))

pub returns-then-number-leaves : goal.returns-then-number-leaves
returns-then-number-leaves c =
    let p = settings_of c.args.problem.now in
    let m = mesh_in c.args.layout.now c.args.mesh.now in
    let leaf = c.args.number - 1 in
    let at : Loc = slice_index_or m.leaves leaf nowhere in
    let count = c.len-leaves.ensures.count ∙ ap (λ (t : TreeOfBlocks). length (leaves t)) c.tree.ensures.tree in
    let there = slice_get-get_or m.leaves leaf nowhere (omega (arith, count, c.if-number-eq0.false, c.if-number-leaves.true)) in
    on_ok_weaker c.write_block.result
    (λ last. last ∙ leaf_piece p m c.args.cycle c.args.number at (omega (arith, c.if-number-eq0.false)) there)
    (c.write_block.ensures at there)

pub returns-else-number-leaves : goal.returns-else-number-leaves
returns-else-number-leaves c =
    let p = settings_of c.args.problem.now in
    let m = mesh_in c.args.layout.now c.args.mesh.now in
    let count = c.len-leaves.ensures.count ∙ ap (λ (t : TreeOfBlocks). length (leaves t)) c.tree.ensures.tree in
    on_ok_weaker c.push_end.result
    (λ last. as_first _ _ _ _ c.clear.ensures.first c.clear.ensures.rest last ∙ last_piece p m c.args.cycle c.args.number (omega (arith, count, c.requires.within, c.if-number-leaves.false)))
    c.push_end.ensures
