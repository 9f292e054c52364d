use Rattle.std.proofs.Common.{◌≡◌, ◌/◌, nat_lt}
use Rattle.morton_order.specs.Space.{factor, root_along}
use Rattle.morton_order.proofs.Lattice.{halved}
use Rattle.morton_order.proofs.locations.parent.Goals as goal

pub returns-clause-in_any_shape : goal.returns-clause-in_any_shape
returns-clause-in_any_shape c s shape inside =
    let at = c.args.at.now in
    let e1 : at.l1 / 2 ≡ at.l1 / factor s.dims 0 = halved (nat_lt 0 s.dims) (root_along s 0) at.level at.l1 shape.roots1.1 inside.within1 in
    let e2 : at.l2 / 2 ≡ at.l2 / factor s.dims 1 = halved (nat_lt 1 s.dims) (root_along s 1) at.level at.l2 shape.roots2.1 inside.within2 in
    let e3 : at.l3 / 2 ≡ at.l3 / factor s.dims 2 = halved (nat_lt 2 s.dims) (root_along s 2) at.level at.l3 shape.roots3.1 inside.within3 in
    cc
