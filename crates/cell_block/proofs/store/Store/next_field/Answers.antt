use Rattle.std.proofs.Common.{Option, IfNone, IfSome, subst}
use Rattle.alloc_epochs.specs.declared.finding.KeyedField.{KeyedField}
use Rattle.cell_block.specs.Partitions.{IsNextOn, IsNoneOnFrom}
use Rattle.cell_block.proofs.KeptStates.{next_seen, none_seen}
use Rattle.cell_block.proofs.store.Store.next_field.Goals as goal

pub returns-in-Some-clause-found : goal.returns-in-Some-clause-found
returns-in-Some-clause-found c =
    let i = c.self.inside in
    next_seen i.shelves i.buffers c.args.block c.args.from c.in-Some.next c.args.self.now c.self.view_is c.self.invariant.tied
    (subst (λ (o : Option KeyedField). IfSome o (IsNextOn i.shelves c.args.block c.args.from)) c.in-Some.is c.next_field.ensures.found)

pub returns-in-None-clause-none : goal.returns-in-None-clause-none
returns-in-None-clause-none c =
    let i = c.self.inside in
    none_seen i.shelves i.buffers c.args.block c.args.from c.args.self.now c.self.view_is c.self.invariant.tied
    (subst (λ (o : Option KeyedField). IfNone o (IsNoneOnFrom i.shelves c.args.block c.args.from)) c.in-None.is c.next_field.ensures.none)
