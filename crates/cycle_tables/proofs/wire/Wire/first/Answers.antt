use Rattle.std.proofs.Common.{subst, Some, None, arith}
use Rattle.cycle_tables.specs.Letters.{Sent}
use Rattle.cycle_tables.specs.Tables.{IsLeast}
use Rattle.cycle_tables.proofs.Posts.{least_none, least_some}
use Rattle.cycle_tables.proofs.wire.Wire.first.Goals as goal

pub returns-then-self-len : goal.returns-then-self-len
returns-then-self-len g c = let w = c.self.inside in subst (λ (v : Sent g.row.T.Denot). IsLeast v.posts (Some w.first)) c.self.view_is (least_some w.letters w.keys.items w.first c.self.invariant (let h = c.if-self-len.true in let n = c.len.ensures in omega (arith, h, n, w.keys.ok)))

pub returns-else-self-len : goal.returns-else-self-len
returns-else-self-len g c = let w = c.self.inside in subst (λ (v : Sent g.row.T.Denot). IsLeast v.posts None) c.self.view_is (least_none w.letters w.keys.items w.first c.self.invariant (let h = c.if-self-len.false in let n = c.len.ensures in omega (arith, h, n, w.keys.ok)))
