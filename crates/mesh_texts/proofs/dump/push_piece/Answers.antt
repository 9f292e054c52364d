use Rattle.std.proofs.Common.{List, ℕ, ◌-◌, ◌++◌, refl, sym, ap, ◌∙◌, arith}
use Rattle.std.proofs.lemmas.Result.{on_ok_weaker}
use Rattle.problem_set.specs.SettingsOf.{settings_of}
use Rattle.dense_mesh.specs.Meshes.{mesh_of}
use Rattle.mesh_texts.proofs.Blocks.{block_is}
use Rattle.mesh_texts.proofs.Walks.{first_piece, last_piece, leaf_piece}
use Rattle.mesh_texts.proofs.dump.push_piece.Goals as goal

pub returns-then-piece-eq0 : goal.returns-then-piece-eq0
returns-then-piece-eq0 c =
    let p = settings_of c.args.problem.now in
    let m = mesh_of c.args.tree.now c.args.problem.now.cells c.args.lists.now in
    on_ok_weaker c.push_heading.result
    (λ last. last ∙ ap (λ (v : List ℕ). c.args.into.now.items ++ v) (first_piece p m c.args.cycle c.args.piece c.if-piece-eq0.true))
    (c.push_heading.ensures m (record { shape = c.requires.blocks.shape; cells = refl; count = sym c.len-leaves.ensures.count }))

pub returns-then-piece-leaves : goal.returns-then-piece-leaves
returns-then-piece-leaves c =
    let p = settings_of c.args.problem.now in
    let t = c.args.tree.now in
    let lists = c.args.lists.now in
    let m = mesh_of t c.args.problem.now.cells lists in
    let leaf = c.args.piece - 1 in
    on_ok_weaker c.push_leaf.result
    (λ last. last ∙ ap (λ (v : List ℕ). c.args.into.now.items ++ v)
    (block_is p t c.args.layout.now lists leaf c.leaf_at.result c.requires.blocks (omega (arith, c.len-leaves.ensures.count, c.if-piece-eq0.false, c.if-piece-leaves.true))
    ∙ leaf_piece p m c.args.cycle c.args.piece c.leaf_at.result (omega (arith, c.if-piece-eq0.false)) c.leaf_at.ensures))
    c.push_leaf.ensures

pub returns-else-piece-leaves : goal.returns-else-piece-leaves
returns-else-piece-leaves c =
    let p = settings_of c.args.problem.now in
    let m = mesh_of c.args.tree.now c.args.problem.now.cells c.args.lists.now in
    on_ok_weaker c.push_end.result
    (λ last. last ∙ ap (λ (v : List ℕ). c.args.into.now.items ++ v)
    (last_piece p m c.args.cycle c.args.piece (omega (arith, c.len-leaves.ensures.count, c.requires.within, c.if-piece-leaves.false))))
    c.push_end.ensures
