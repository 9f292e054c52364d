use Rattle.std.proofs.Common.{[], refl, sym, arith, ◌∙◌}
use Rattle.std.specs.List.{slice_index_or}
use Rattle.std.proofs.lemmas.List.{drop_all, drop_more}
use Rattle.problem_set.specs.SettingsOf.{settings_of}
use Rattle.dense_mesh.specs.Meshes.{mesh_of}
use Rattle.mesh_texts.specs.Dump.{dump_pieces}
use Rattle.mesh_texts.proofs.Walks.{pieces_long}
use Rattle.mesh_texts.proofs.dump.DumpWalk.next.Goals as goal

pub returns-then-self-len-clause-step : goal.returns-then-self-len-clause-step
returns-then-self-len-clause-step c =
    let w = c.self.inside in
    let p = settings_of w.problem.now in
    let m = mesh_of w.tree.now w.problem.now.cells w.lists.now in
    let none = sym c.self.view_is ∙ drop_all w.given (dump_pieces p m w.cycle) (omega (arith, pieces_long p m w.cycle, c.if-self-len.true, c.len.ensures.count)) in
    (none, none, refl)

pub returns-clause-step : goal.returns-clause-step
returns-clause-step c =
    let w = c.self.inside in
    let p = settings_of w.problem.now in
    let m = mesh_of w.tree.now w.problem.now.cells w.lists.now in
    let pieces = dump_pieces p m w.cycle in (
      slice_index_or pieces w.given [],
      sym c.self.view_is ∙ drop_more pieces w.given [] (omega (arith, pieces_long p m w.cycle, c.if-self-len.false, c.len.ensures.count)),
      c.in_ok-push_piece.ensures,
    )
