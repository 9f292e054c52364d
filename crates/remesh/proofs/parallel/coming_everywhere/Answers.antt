use Rattle.std.proofs.Common.{◌≡◌, ℕ, ◌<◌, ◌-◌, ◌∙◌, List, [], Result, Ok, Err, length, map, ap, arith}
use Rattle.std.specs.List.{range_with_len}
use Rattle.block_tree.specs.Blocks.{leaves}
use Rattle.field_bufs.specs.declared.buf.FieldBuf.{FieldBuf}
use denote.Param.Members.{lent}
use Rattle.rayon.specs.Numbers.{nat_range}
use Rattle.rayon.proofs.ListFacts.{IfOk-then}
use Rattle.rayon.proofs.ToStd.{nat_range-All}
use Rattle.remesh.specs.Carries.{AreBuffersOn}
use Rattle.remesh.specs.Fields.{CanCarry}
use Rattle.remesh.specs.Leaves.{leaf_with as leaf_of}
use Rattle.remesh.proofs.Everywhere.{all_on, captured, everywhere}
use Rattle.remesh.proofs.parallel.coming_everywhere.Goals as goal

pub collect-requires-clause-ready : goal.collect-requires-clause-ready
collect-requires-clause-ready g c κs within =
    let ends = c.into_par_iter.ensures in
    let n = length (leaves c.args.next.now) in
    let inside = nat_range-All (λ i. (i < n) × ((length c.args.origins.now ≡ n) × CanCarry (leaf_of c.args.layout.now c.args.old.now c.args.next.now c.args.origins.now i))) 0 c.len.result
    (λ i low high. (omega (arith, high, c.len.ensures.count), (c.requires.count, c.requires.each i (omega (arith, high, c.len.ensures.count))))) in
    rw (c.map.ensures.base, c.map.ensures.f, c.with_min_len.ensures.base, ends.0, ends.1) (λ k d lt. (inside k d lt, λ y p. tt))

pub returns : goal.returns
returns g c =
    let ends = c.into_par_iter.ensures in
    let n = length (leaves c.args.next.now) in
    let whole : c.len.result - 0 ≡ n = omega (arith, c.len.ensures.count) in
    let h = c.in_ok-collect.ensures in
    let places =
    h.1.1 ∙ ap (λ b. nat_range b.base.start b.base.end) c.map.ensures.base ∙ ap (λ b. nat_range b.start b.end) c.with_min_len.ensures.base
    ∙ (λ i. nat_range (ends.0 i) (ends.1 i)) ∙ ap (range_with_len 0) whole in
    IfOk-then c.in_ok-collect.field-0 _ _ (everywhere _ (λ v. v.items) n _ h.1.0 h.0 _ c.in_ok-collect.field-0 places h.1.2 h.2)
    (λ all a.
    all_on c.args.layout.now c.args.old.now c.args.next.now c.args.origins.now all.items
    (captured n _ c.args.layout.now _ c.args.old.now _ c.args.next.now _ c.args.origins.now all.items (λ i. (lent (c.map.ensures.f i)).now.1.now) (λ i. (lent (c.map.ensures.f i)).now.2.now) (λ i. (lent (c.map.ensures.f i)).now.3.now)
    (λ i. (lent (c.map.ensures.f i)).now.4.now) a))
