use Rattle.cell_block.specs.State.{place_of}
use Rattle.remesh.proofs.Filled.{replaced_fills, stands}
use Rattle.remesh.proofs.stores.replace.Goals as goal

pub returns : goal.returns
returns c = replaced_fills c.args.mesh.now c.take_out-former.new.self c.put_back.new.self c.args.buf (stands c.args.mesh.now (place_of c.args.buf) c.tree.ensures.kept c.requires.within) c.requires.home c.take_out-former.ensures.lent c.put_back.ensures
