use Rattle.std.proofs.Common.{◌≡◌, List, ℕ, ◌++◌, Some, sym, ap, ◌∙◌}
use Rattle.std.proofs.lemmas.Result.{on_ok_weaker}
use Rattle.morton_order.specs.declared.space.Loc.{Loc}
use Rattle.problem_set.specs.SettingsOf.{settings_of}
use Rattle.mesh_rules.specs.Texts.{block_text}
use Rattle.dense_mesh.specs.Meshes.{mesh_of}
use Rattle.mesh_texts.proofs.Blocks.{block_is, blocks_are}
use Rattle.mesh_texts.proofs.block.push_block.Goals as goal

pub push_leaf-requires-clause-blocks : goal.push_leaf-requires-clause-blocks
push_leaf-requires-clause-blocks c = (blocks_are (settings_of c.args.problem.now) c.args.tree.now c.args.layout.now c.args.lists.now c.requires.mesh).blocks c.args.leaf c.requires.leaf

pub returns : goal.returns
returns c l e =
    let p = settings_of c.args.problem.now in
    let t = c.args.tree.now in
    let lists = c.args.lists.now in
    let have = blocks_are p t c.args.layout.now lists c.requires.mesh in
    let same : c.leaf_at.result ≡ l = some_is _ _ (sym c.leaf_at.ensures ∙ e) in
    on_ok_weaker c.push_leaf.result
    (λ last. last ∙ ap (λ (v : List ℕ). c.args.into.now.items ++ v) (block_is p t c.args.layout.now lists c.args.leaf c.leaf_at.result have c.requires.leaf ∙ ap (block_text p (mesh_of t p.cells lists) c.args.leaf) same))
    c.push_leaf.ensures
  where
    some_is : (x y : Loc) → Some x ≡ Some y → x ≡ y
    some_is x y h = cc
