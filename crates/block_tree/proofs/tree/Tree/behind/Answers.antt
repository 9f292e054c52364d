use Rattle.std.proofs.Common.{length, refl, sym, arith}
use Rattle.std.proofs.lemmas.Option.{slice_get_read}
use Rattle.block_tree.proofs.Shown.{answer_now, table_long}
use Rattle.block_tree.proofs.tree.Tree.behind.Goals as goal

pub index-requires : goal.index-requires
index-requires c =
    let less = table_long c.args.self.now c.self.inside.shape c.self.inside.nodes c.self.inside.leaves c.self.inside.table.items (sym c.self.view_is) c.self.invariant c.args.leaf c.requires.leaf in
    let long = c.self.inside.table.ok in
    omega arith

pub returns : goal.returns
returns c =
    let less = table_long c.args.self.now c.self.inside.shape c.self.inside.nodes c.self.inside.leaves c.self.inside.table.items (sym c.self.view_is) c.self.invariant c.args.leaf c.requires.leaf in
    let read = slice_get_read c.self.inside.table.items (length c.self.inside.table.items) c.args.leaf c.index.result.now refl less c.index.ensures in
    answer_now c.args.self.now c.self.inside.shape c.self.inside.nodes c.self.inside.leaves c.self.inside.table.items (sym c.self.view_is) c.self.invariant c.args.leaf c.args.side.axis c.args.side.high c.index.result.now c.at.result c.answer.result read c.at.ensures c.answer.ensures c.requires.axis
