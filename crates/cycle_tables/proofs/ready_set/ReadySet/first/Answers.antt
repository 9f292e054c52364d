use Rattle.std.proofs.Common.{◌≡◌, subst, true, false, List, Bool, ℕ, slice_index_or, vec_capacity, arith}
use Rattle.cycle_tables.proofs.Sets.{first_flag, no_flag}
use Rattle.cycle_tables.proofs.ready_set.ReadySet.first.Goals as goal

pub returns-then-n-eq0-clause-none : goal.returns-then-n-eq0-clause-none
returns-then-n-eq0-clause-none c =
    let s = c.self.inside in
    subst (λ (v : List Bool). (i : ℕ) → slice_index_or v i false ≡ false) c.self.view_is (no_flag s.places.items s.stack.items (vec_capacity s.stack) c.self.invariant (omega (arith, c.if-n-eq0.true, c.len-n.ensures, s.stack.ok)))

pub returns-else-n-eq0-clause-some : goal.returns-else-n-eq0-clause-some
returns-else-n-eq0-clause-some c =
    let s = c.self.inside in
    subst (λ (v : List Bool). slice_index_or v c.index.result.now false ≡ true) c.self.view_is
    (first_flag s.places.items s.stack.items (vec_capacity s.stack) c.len-n.result c.index.result.now c.self.invariant (omega (arith, c.len-n.ensures, s.stack.ok)) (omega (arith, c.if-n-eq0.false)) c.index.ensures)
