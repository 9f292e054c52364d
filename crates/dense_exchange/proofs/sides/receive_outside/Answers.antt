use Rattle.std.proofs.Common.{ℕ, ◌≤◌, nat_lt, List, ap, length, subst, sym, ◌∙◌}
use Rattle.std.proofs.lemmas.Option.{get_or_from_slice_get}
use Rattle.block_tree.specs.Blocks.{leaves}
use Rattle.block_layout.specs.Regions.{ghosts}
use Rattle.block_regions.specs.Written.{StaysOffRegion}
use Rattle.mesh_rules.specs.Fields as fields
use Rattle.dense_exchange.specs.FieldMeshes.{settings_in}
use Rattle.dense_exchange.proofs.Numbers.{nowhere}
use Rattle.dense_exchange.proofs.OnMeshes.{leaf_of, read_list, read_long}
use Rattle.dense_exchange.proofs.Arms.{outside_above}
use Rattle.dense_exchange.proofs.Filled.{outside_fills}
use Rattle.dense_exchange.proofs.sides.receive_outside.Goals as goal

pub ghost_of-total-requires-clause-level : goal.ghost_of-total-requires-clause-level
ghost_of-total-requires-clause-level c =
    let e = c.args.on.now in
    subst (λ l. l.level ≤ 10) (get_or_from_slice_get (leaves e.tree.now) c.args.to c.leaf_at.result nowhere c.leaf_at.ensures) (leaf_of e c.args.to c.requires.on c.requires.to).inside.level

pub give_outside-requires-clause-cells : goal.give_outside-requires-clause-cells
give_outside-requires-clause-cells c = read_long c.args.on.now c.args.ghosts.now.items c.args.to c.index_mut.result.now c.requires.ghosts c.requires.to c.index_mut.ensures.value

pub returns-clause-filled : goal.returns-clause-filled
returns-clause-filled c =
    let e = c.args.on.now in
    let ghosts_now = c.args.ghosts.now.items in
    let here = read_list e ghosts_now c.args.to c.index_mut.result.now c.requires.ghosts c.requires.to c.index_mut.ensures.value in
    outside_fills e c.args.side c.args.to c.ghost_of-total.result ghosts_now c.give_outside.new.cells c.requires.on c.requires.axis c.requires.to c.requires.face c.requires.ghosts
    (c.ghost_of-total.ensures ∙ ap (λ l. fields.outside (settings_in e) e.field c.args.side.axis c.args.side.high l.level) (sym (get_or_from_slice_get (leaves e.tree.now) c.args.to c.leaf_at.result nowhere c.leaf_at.ensures)))
    (c.give_outside.ensures.long ∙ ap length here)
    c.give_outside.ensures.ghosts
    (subst (λ (v : List ℕ). StaysOffRegion e.layout.now (ghosts e.layout.now c.args.side.axis c.args.side.high) v c.give_outside.new.cells) here c.give_outside.ensures.others)

pub returns-clause-above : goal.returns-clause-above
returns-clause-above c =
    let e = c.args.on.now in
    ap (nat_lt e.problem.now.alloc_threshold)
    (c.ghost_of-total.ensures ∙ ap (λ l. fields.outside (settings_in e) e.field c.args.side.axis c.args.side.high l.level) (sym (get_or_from_slice_get (leaves e.tree.now) c.args.to c.leaf_at.result nowhere c.leaf_at.ensures)))
    ∙ outside_above e c.args.side c.args.to c.requires.face
