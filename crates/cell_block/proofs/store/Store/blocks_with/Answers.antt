use Rattle.std.proofs.Common.{◌∙◌, ◌<◌, arith, subst, sym}
use Rattle.std.proofs.lemmas.List.{get_or_read}
use Rattle.cell_block.specs.Store.{Placed}
use Rattle.cell_block.proofs.KeptStates.{count_seen}
use Rattle.cell_block.proofs.store.Store.blocks_with.Goals as goal

pub returns : goal.returns
returns c =
    let i = c.self.inside in
    let field : c.args.field < i.shelves.fields = subst (λ (v : Placed). c.args.field < v.fields) (sym c.self.view_is) c.requires in
    get_or_read i.counts.items c.args.field c.index.result.now (omega (arith, field, c.self.invariant.fields)) c.index.ensures 0
    ∙ c.self.invariant.counted c.args.field field
    ∙ count_seen i.shelves i.buffers c.args.field c.args.self.now c.self.view_is c.self.invariant.tied
