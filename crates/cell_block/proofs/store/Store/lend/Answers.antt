use Rattle.std.proofs.Common.{◌∙◌, sym, refl, None}
use Rattle.cell_block.specs.State.{Entry}
use Rattle.cell_block.proofs.KeptPlaces.{under}
use Rattle.cell_block.proofs.KeptStates.{still_kept, value_changed}
use Rattle.cell_block.proofs.store.Store.lend.Goals as goal

pub invariant_of-self : goal.invariant_of-self
invariant_of-self c =
    let i = c.self.inside in
    let here = sym c.key.ensures ∙ c.unwrap-key.ensures in
    let u = under i.shelves i.buffers c.args.at c.unwrap-key.result c.self.invariant.tied here in
    still_kept i.shelves i.buffers c.lend.new.buffers i.counts.items c.args.at c.unwrap-key.result u.it (record u.it { buf = None }) c.count.ensures.kept c.self.invariant here u.got refl (c.lend.ensures.lent u.it u.got)

pub returns-clause-lent : goal.returns-clause-lent
returns-clause-lent c =
    let i = c.self.inside in
    let here = sym c.key.ensures ∙ c.unwrap-key.ensures in
    let u = under i.shelves i.buffers c.args.at c.unwrap-key.result c.self.invariant.tied here in
    value_changed i.shelves i.buffers c.lend.new.buffers i.counts.items c.args.at c.unwrap-key.result u.it (record u.it { buf = None }) (λ (e : Entry). record e { buf = None }) c.args.self.now c.self.view_is c.count.ensures.kept c.self.invariant here u.got refl (c.lend.ensures.lent u.it u.got) refl
