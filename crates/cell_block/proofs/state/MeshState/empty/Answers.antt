use Rattle.std.proofs.Common.{◌∙◌, ◌≤◌, arith}
use Rattle.std.specs.Arc.{arc_value}
use Rattle.problem_set.specs.SettingsOf.{settings_of}
use Rattle.cell_block.proofs.Openings.{empty_stored, empty_value, size_is, size_least, size_most, some_leaves}
use Rattle.cell_block.proofs.state.MeshState.empty.Goals as goal

pub opening_store-requires : goal.opening_store-requires
opening_store-requires c =
    let pack = c.args.problem.now.pack_size in
    let n = c.len-leaves.result in
    let sound = c.args.problem.now.refining_sound in
    let some : 1 ≤ n = omega (arith, some_leaves c.args.tree c.len-leaves.ensures.kept, c.len-leaves.ensures.count) in
    let few : n ≤ 65536 = omega (arith, c.len-leaves.ensures.kept.few, c.len-leaves.ensures.count) in
    record {
      some = omega (arith, c.unwrap_or-size.ensures, size_least pack n sound.least_pack some);
      most = omega (arith, c.unwrap_or-size.ensures, size_most pack n sound.most_pack few);
      leaves = few;
    }

pub returns : goal.returns
returns c = λ l is.
    empty_value (settings_of c.args.problem.now) c.args.tree (arc_value c.in_ok-tree.tree) c.of-layout.result l c.unwrap_or-size.result c.len-leaves.result c.in_ok-store.store c.in_ok-counters.counters.items
    c.in_ok-tree.ensures.ok c.of-layout.ensures.dims c.of-layout.ensures.cells is c.len-leaves.ensures.count (c.unwrap_or-size.ensures ∙ size_is c.args.problem.now.pack_size c.len-leaves.result) c.in_ok-store.ensures c.in_ok-counters.ensures

pub invariant_of-result : goal.invariant_of-result
invariant_of-result c =
    empty_stored (settings_of c.args.problem.now) c.args.tree (arc_value c.in_ok-tree.tree) c.of-layout.result c.unwrap_or-size.result c.len-leaves.result c.in_ok-store.store c.in_ok-counters.counters.items
    c.in_ok-tree.ensures.ok c.len-leaves.ensures.count c.in_ok-store.ensures c.in_ok-counters.ensures
