use Rattle.std.proofs.Common.{length, [], refl, sym, arith, ap, ◌++◌, List, ℕ, ◌∙◌}
use Rattle.std.specs.List.{slice_index_or}
use Rattle.std.proofs.lemmas.List.{drop_all, drop_more}
use Rattle.block_tree.specs.Blocks.{TreeOfBlocks, leaves}
use Rattle.problem_set.specs.SettingsOf.{settings_of}
use Rattle.cell_block.specs.Rules.{mesh_in}
use Rattle.mesh_texts.specs.Dump.{dump_pieces}
use Rattle.mesh_texts.proofs.Walks.{pieces_long}
use Rattle.dump_writer.proofs.dump.DumpWalk.next.Goals as goal

pub returns-then-self-len-clause-step : goal.returns-then-self-len-clause-step
returns-then-self-len-clause-step c =
    let w = c.self.inside in
    let p = settings_of w.problem.now in
    let m = mesh_in w.layout.now w.mesh.now in
    let count = c.len.ensures.count ∙ ap (λ (t : TreeOfBlocks). length (leaves t)) c.tree.ensures.tree in
    let none = sym c.self.view_is ∙ drop_all w.given (dump_pieces p m w.cycle) (omega (arith, pieces_long p m w.cycle, c.if-self-len.true, count)) in
    (none, none, refl)

pub returns-clause-step : goal.returns-clause-step
returns-clause-step c =
    let w = c.self.inside in
    let p = settings_of w.problem.now in
    let m = mesh_in w.layout.now w.mesh.now in
    let count = c.len.ensures.count ∙ ap (λ (t : TreeOfBlocks). length (leaves t)) c.tree.ensures.tree in
    let pieces = dump_pieces p m w.cycle in (
      slice_index_or pieces w.given [],
      sym c.self.view_is ∙ drop_more pieces w.given [] (omega (arith, pieces_long p m w.cycle, c.if-self-len.false, count)),
      c.in_ok-append_to.ensures.ok ∙ ap (λ (v : List ℕ). c.args.into.now.items ++ v) c.in_ok-write_piece.ensures,
    )
