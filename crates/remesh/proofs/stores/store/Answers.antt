use Rattle.cell_block.specs.State.{idle_at, place_of}
use Rattle.remesh.specs.Stores.{Fills}
use Rattle.remesh.proofs.Filled.{filled_whole, idle_fills, in_frame, stands}
use Rattle.remesh.proofs.stores.store.Goals as goal

pub returns-clause-fills : goal.returns-clause-fills
returns-clause-fills c =
    let s = c.args.mesh.now in
    let mid = c.put.new.mesh in
    let at = place_of c.args.buf in
    let fills : Fills s mid at c.args.buf (idle_at s at) = c.in_ok-put.ensures in
    idle_fills s mid c.set_idle.new.self at c.args.buf (idle_at s at) c.args.idle fills (stands mid at c.tree.ensures.kept (in_frame s mid at fills.frame c.requires.within)) c.set_idle.ensures

pub returns-clause-whole : goal.returns-clause-whole
returns-clause-whole c = filled_whole c.args.mesh.now c.set_idle.new.self (place_of c.args.buf) c.args.buf c.args.idle (returns-clause-fills c) c.requires.whole
