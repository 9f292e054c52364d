use Rattle.std.proofs.Common.{◌≡◌, ◌<◌, List, Some, length, subst, sym, ◌∙◌}
use Rattle.std.specs.List.{slice_get, slice_index_or}
use Rattle.std.proofs.lemmas.Option.{slice_get-get_or}
use Rattle.morton_order.specs.declared.space.Loc.{Loc}
use Rattle.block_tree.proofs.Shown.{leaves_now}
use Rattle.block_tree.proofs.tree.Tree.leaf_at.Goals as goal

pub bounds-as_slice-i : goal.bounds-as_slice-i
bounds-as_slice-i c = subst (λ (v : List Loc). c.args.i < length v) (sym (c.as_slice.ensures ∙ leaves_now c.args.self.now c.self.inside.shape c.self.inside.nodes c.self.inside.leaves c.self.inside.table.items (sym c.self.view_is) c.self.invariant)) c.requires

pub returns : goal.returns
returns c =
    let is = c.as_slice.ensures ∙ leaves_now c.args.self.now c.self.inside.shape c.self.inside.nodes c.self.inside.leaves c.self.inside.table.items (sym c.self.view_is) c.self.invariant in
    let less = subst (λ (v : List Loc). c.args.i < length v) (sym is) c.requires in
    subst (λ (v : List Loc). slice_get v c.args.i ≡ Some (slice_index_or c.as_slice.result.now c.args.i (record { level = 0; l1 = 0; l2 = 0; l3 = 0 }))) is (slice_get-get_or c.as_slice.result.now c.args.i (record { level = 0; l1 = 0; l2 = 0; l3 = 0 }) less)
