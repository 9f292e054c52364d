use Rattle.std.proofs.Common.{◌≡◌, ◌∙◌, ◌<◌, ℕ, List, [], length, sum, sym, ap, subst, arith}
use Rattle.std.specs.Prelude.{All}
use Rattle.std.specs.List.{slice_index_or}
use Rattle.std.proofs.lemmas.List.{get_or-map, length-map}
use Rattle.std.proofs.lemmas.List.Elements.{All-get_or}
use Rattle.package_fields.specs.Kernel.{KernelLaws}
use Rattle.block_tree.specs.Blocks.{leaves}
use Rattle.block_layout.specs.Layouts.{interior_len}
use Rattle.problem_set.specs.SettingsOf.{settings_of}
use Rattle.mesh_rules.specs.Fields.{field_count}
use Rattle.mesh_rules.specs.Mesh.{block_size, cell_at}
use Rattle.dense_mesh.specs.Meshes.{mesh_of}
use Rattle.dense_mask.proofs.Leaves.{leaf_at}
use Rattle.dense_reaction.proofs.LeafSteps.{leaf_more, leaves_flows, leaves_lists, leaves_small}
use Rattle.dense_reaction.proofs.MeshCells.{cell_is, cell_sum, has_cells, held_in, rows_of, size_is}
use Rattle.dense_reaction.proofs.mesh.react_leaves.Goals as goal

pub react_leaf-requires-clause-sizes : goal.react_leaf-requires-clause-sizes
react_leaf-requires-clause-sizes g c =
    let p = settings_of c.args.problem.now in
    let small : c.loop-leaf.leaf < length (leaves c.args.tree.now) = omega (arith, c.loop-leaf-test.true, c.len-leaves.ensures.count) in
    subst (λ (n : ℕ). All (λ (list : List (List ℕ)). length (slice_index_or list c.loop-leaf.leaf []) ≡ n) c.args.lists.now) (sym c.interior_len-size.ensures.value)
    (has_cells p c.args.tree.now c.args.layout.now c.args.lists.now c.requires.mesh c.loop-leaf.leaf small)

pub react_leaf-requires-clause-small_cells : goal.react_leaf-requires-clause-small_cells
react_leaf-requires-clause-small_cells g c place inside =
    let p = settings_of c.args.problem.now in
    let t = c.args.tree.now in
    let lists = c.args.lists.now in
    let m = mesh_of t p.cells lists in
    let leaf = c.loop-leaf.leaf in
    let small : c.loop-leaf.leaf < length (leaves c.args.tree.now) = omega (arith, c.loop-leaf-test.true, c.len-leaves.ensures.count) in
    let whole = c.interior_len-size.ensures.value ∙ size_is p t c.args.layout.now lists c.requires.mesh in
    let within : place < block_size m = subst (λ (n : ℕ). place < n) whole inside in
    let held = ap (λ (v : List ℕ). sum v) (cell_is p t c.args.layout.now lists c.requires.mesh leaf place small within) ∙ cell_sum (field_count p) m (cell_at m (leaf_at m leaf) place) in
    omega (arith, held, held_in p m leaf place small within, c.requires.mesh.bound)

pub react_leaf-requires-clause-small_flows : goal.react_leaf-requires-clause-small_flows
react_leaf-requires-clause-small_flows g c =
    let react = g.C.CellKernel.reacts (g.C.CellKernel.code c.args.kernel.now) in
    let p = settings_of c.args.problem.now in
    let m = mesh_of c.args.tree.now p.cells c.args.lists.now in
    let laws = subst (λ (n : ℕ). KernelLaws n react) c.requires.fields (g.met.C.CellKernel.laws c.args.kernel.now) in
    leaves_small p react m c.loop-leaf.leaf c.loop-leaf.into.items c.loop-leaf.flows laws c.requires.mesh.bound (omega (arith, c.loop-leaf-test.true, c.len-leaves.ensures.count)) c.loop-leaf.invariant

pub loop-leaf-preserved : goal.loop-leaf-preserved
loop-leaf-preserved g c =
    let react = g.C.CellKernel.reacts (g.C.CellKernel.code c.args.kernel.now) in
    let p = settings_of c.args.problem.now in
    let t = c.args.tree.now in
    let lists = c.args.lists.now in
    let m = mesh_of t p.cells lists in
    let leaf = c.loop-leaf.leaf in
    let small : c.loop-leaf.leaf < length (leaves c.args.tree.now) = omega (arith, c.loop-leaf-test.true, c.len-leaves.ensures.count) in
    let whole = c.interior_len-size.ensures.value ∙ size_is p t c.args.layout.now lists c.requires.mesh in
    let many = length-map lists (λ (list : List (List ℕ)). slice_index_or list leaf []) ∙ c.requires.mesh.fields in
    let sizes = has_cells p t c.args.layout.now lists c.requires.mesh leaf small in
    leaf_more react (field_count p) m leaf c.interior_len-size.result (rows_of lists leaf) c.loop-leaf.into.items c.react_leaf.new.into.items c.loop-leaf.flows c.react_leaf.new.flows c.loop-leaf.invariant many
    (λ f some. ap (λ (v : List ℕ). length v) (get_or-map (λ (list : List (List ℕ)). slice_index_or list leaf []) lists f [] [] (omega (arith, some, c.requires.mesh.fields)))
    ∙ (All-get_or (λ (list : List (List ℕ)). length (slice_index_or list leaf []) ≡ interior_len c.args.layout.now) lists f [] (omega (arith, some, c.requires.mesh.fields)) sizes ∙ sym c.interior_len-size.ensures.value))
    whole (λ place inside. ap react (cell_is p t c.args.layout.now lists c.requires.mesh leaf place small inside)) c.in_ok-react_leaf.ensures.lists c.in_ok-react_leaf.ensures.flows

pub returns-clause-lists : goal.returns-clause-lists
returns-clause-lists g c =
    let react = g.C.CellKernel.reacts (g.C.CellKernel.code c.args.kernel.now) in
    let p = settings_of c.args.problem.now in
    let m = mesh_of c.args.tree.now p.cells c.args.lists.now in
    leaves_lists react (field_count p) m c.loop-leaf.leaf c.loop-leaf.into.items c.loop-leaf.flows (omega (arith, c.loop-leaf-test.false, c.loop-leaf.auto.leaf-end, c.len-leaves.ensures.count)) c.loop-leaf.invariant

pub returns-clause-flows : goal.returns-clause-flows
returns-clause-flows g c =
    let react = g.C.CellKernel.reacts (g.C.CellKernel.code c.args.kernel.now) in
    let p = settings_of c.args.problem.now in
    let m = mesh_of c.args.tree.now p.cells c.args.lists.now in
    leaves_flows react (field_count p) m c.loop-leaf.leaf c.loop-leaf.into.items c.loop-leaf.flows (omega (arith, c.loop-leaf-test.false, c.loop-leaf.auto.leaf-end, c.len-leaves.ensures.count)) c.loop-leaf.invariant
