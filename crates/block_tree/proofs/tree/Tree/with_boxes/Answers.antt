use Rattle.std.proofs.Common.{◌≡◌, Bool, List, Option, Some, IfSome, IfOk, IfErr, subst, sym}
use Rattle.morton_order.specs.declared.space.Loc.{Loc}
use Rattle.block_tree.specs.Tree.{IsBalanced, IsTree, is_listed}
use Rattle.block_tree.specs.Least.{opening}
use Rattle.block_tree.specs.Blocks.{RefusedByCount, tree_with}
use Rattle.block_tree.proofs.Wanted.{opening_tree}
use Rattle.block_tree.proofs.tree.Tree.with_boxes.Goals as goal

pub with_roots-requires-clause-tree : goal.with_roots-requires-clause-tree
with_roots-requires-clause-tree c =
    let is : c.in_ok-nodes.field-0 ≡ Some c.in-Some.nodes = cc in
    let same = subst (λ (o : Option (List Loc)). IfSome o (λ nodes. is_listed nodes ≡ opening 9 c.args.shape c.args.cells.now c.args.boxes.now)) is c.in_ok-nodes.ensures.some in
    subst (λ (p : Loc → Bool). IsTree c.args.shape p) (sym same) (opening_tree c.args.shape c.args.cells.now c.args.boxes.now c.requires.shape c.requires.levels).tree

pub with_roots-requires-clause-balanced : goal.with_roots-requires-clause-balanced
with_roots-requires-clause-balanced c =
    let is : c.in_ok-nodes.field-0 ≡ Some c.in-Some.nodes = cc in
    let same = subst (λ (o : Option (List Loc)). IfSome o (λ nodes. is_listed nodes ≡ opening 9 c.args.shape c.args.cells.now c.args.boxes.now)) is c.in_ok-nodes.ensures.some in
    subst (λ (p : Loc → Bool). IsBalanced c.args.shape p) (sym same) (opening_tree c.args.shape c.args.cells.now c.args.boxes.now c.requires.shape c.requires.levels).balanced

pub returns-in-Some-clause-opening : goal.returns-in-Some-clause-opening
returns-in-Some-clause-opening c =
    let is : c.in_ok-nodes.field-0 ≡ Some c.in-Some.nodes = cc in
    let same = subst (λ (o : Option (List Loc)). IfSome o (λ nodes. is_listed nodes ≡ opening 9 c.args.shape c.args.cells.now c.args.boxes.now)) is c.in_ok-nodes.ensures.some in
    c.at_start.ensures.same (tree_with c.args.shape (opening 9 c.args.shape c.args.cells.now c.args.boxes.now)) (subst (λ (p : Loc → Bool). IfOk c.with_roots.result (λ tree. tree ≡ tree_with c.args.shape p)) same c.with_roots.ensures.made)

pub returns-in-Some-clause-fault : goal.returns-in-Some-clause-fault
returns-in-Some-clause-fault c =
    let is : c.in_ok-nodes.field-0 ≡ Some c.in-Some.nodes = cc in
    let same = subst (λ (o : Option (List Loc)). IfSome o (λ nodes. is_listed nodes ≡ opening 9 c.args.shape c.args.cells.now c.args.boxes.now)) is c.in_ok-nodes.ensures.some in
    c.at_start.ensures.fault c.args.shape (opening 9 c.args.shape c.args.cells.now c.args.boxes.now) (subst (λ (p : Loc → Bool). IfErr c.with_roots.result (RefusedByCount c.args.shape p)) same c.with_roots.ensures.fault)
