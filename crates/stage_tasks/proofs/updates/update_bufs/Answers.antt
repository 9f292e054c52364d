use Rattle.std.proofs.Common.{◌≡◌, ◌==◌, ◌∙◌, ◌+◌, ◌^◌, ◌<◌, ◌∷◌, ℕ, Bool, List, cond, drop, filter, length, map, take, slice_index, ap, subst, sym, arith}
use Rattle.std.specs.List.{slice_index_or}
use Rattle.std.proofs.lemmas.List.{drop_more, take_all}
use Rattle.package_fields.specs.declared.flow.Flow.{Flow}
use Rattle.package_fields.specs.Flow.{no_flow}
use Rattle.sparse_pool.specs.declared.place.Place.{Place}
use Rattle.field_bufs.specs.declared.buf.FieldBuf.{FieldBuf}
use Rattle.transport_kernel.specs.Update.{CanPass, listed}
use Rattle.lent_bufs.specs.Buffers.{IsBufferOn, place_of}
use Rattle.lent_bufs.specs.Kept.{is_among, is_here}
use Rattle.lent_bufs.specs.Meshes.{mesh_in}
use Rattle.lent_bufs.specs.Sums.{sum_of_field, with_flow}
use Rattle.lent_bufs.proofs.Each.{all_done, buf_at, done_more, field_more, no_buf}
use Rattle.lent_bufs.proofs.Keeps.{Reads, among, reads_next}
use Rattle.stage_tasks.specs.declared.updates.Change.{Change}
use Rattle.stage_tasks.specs.Updates.{IsChange, dropped_of, inflow_in, outflow_in, updated_buf}
use Rattle.stage_tasks.proofs.Steps.{as_number, cond_most, flow_more, item_is}
use Rattle.stage_tasks.proofs.updates.update_bufs.Goals as goal

pub update_buf-change-requires-clause-buf : goal.update_buf-change-requires-clause-buf
update_buf-change-requires-clause-buf c =
    let n = c.loop-buf.buf-index in
    let had = c.loop-buf.invariant.done in
    let few : n < length c.args.bufs.now = omega (arith, c.loop-buf-test.true, had.count) in
    subst (IsBufferOn c.args.problem.now c.args.tree.now c.args.layout.now) (sym (item_is _ n c.args.bufs.now c.loop-buf.bufs c.buf-item.result had few c.buf-item.is)) (c.requires.bufs n no_buf few)

pub update_buf-change-requires-clause-stamp : goal.update_buf-change-requires-clause-stamp
update_buf-change-requires-clause-stamp c =
    let n = c.loop-buf.buf-index in
    let had = c.loop-buf.invariant.done in
    let few : n < length c.args.bufs.now = omega (arith, c.loop-buf-test.true, had.count) in
    let same = ap (λ (b : FieldBuf). b.stamp) (item_is _ n c.args.bufs.now c.loop-buf.bufs c.buf-item.result had few c.buf-item.is) in
    let small = c.requires.stamps n no_buf few in
    omega (arith, same, small)

pub update_buf-change-requires-clause-passes : goal.update_buf-change-requires-clause-passes
update_buf-change-requires-clause-passes c =
    let l = c.args.layout.now in
    let n = c.loop-buf.buf-index in
    let had = c.loop-buf.invariant.done in
    let few : n < length c.args.bufs.now = omega (arith, c.loop-buf-test.true, had.count) in
    subst (λ (b : FieldBuf). CanPass l (listed l b.right) (listed l b.left) b.cells) (sym (item_is _ n c.args.bufs.now c.loop-buf.bufs c.buf-item.result had few c.buf-item.is)) (c.requires.passes n no_buf few)

pub loop-buf-preserved : goal.loop-buf-preserved
loop-buf-preserved c =
    let w = mesh_in c.args.problem.now c.args.tree.now c.args.layout.now in
    let old : List FieldBuf = c.args.bufs.now in
    let kept = c.args.kept.now in
    let n = c.loop-buf.buf-index in
    let next = c.loop-buf.next in
    let had = c.loop-buf.invariant in
    let F : FieldBuf → FieldBuf = λ buf. updated_buf w (is_among kept buf.block buf.field) buf in
    let few : n < length old = omega (arith, c.loop-buf-test.true, had.done.count) in
    let item : FieldBuf = slice_index_or c.loop-buf.bufs n c.buf-item.result in
    let was : FieldBuf = buf_at old n in
    let is : item ≡ was = item_is F n old c.loop-buf.bufs c.buf-item.result had.done few c.buf-item.is in
    let on = c.requires.bufs n no_buf few in
    let rest : List Place = map place_of (drop (n + 1) old) in
    let left : drop next kept ≡ filter (among kept) (place_of was ∷ rest) = had.left ∙ ap (λ (v : List FieldBuf). filter (among kept) (map place_of v)) (drop_more old n no_buf few) in
    let reads : Reads (among kept) kept next (place_of was) rest = reads_next (among kept) kept next (place_of was) rest had.next_most left in
    let here : c.is_next-here.result ≡ among kept (place_of was) = c.is_next-here.ensures ∙ ap (λ (b : FieldBuf). is_here kept next b.block b.field) is ∙ reads.here in
    let stays : Bool = is_among kept was.block was.field in
    let step : c.from-next.result ≡ cond stays 1 0 = c.from-next.ensures ∙ as_number c.is_next-here.result ∙ ap (λ (t : Bool). cond t 1 0) here in
    let r : Change = c.update_buf-change.result in
    let new : FieldBuf = c.update_buf-change.new.buf in
    let done : new ≡ F was = c.update_buf-change.ensures.buffer ∙ ap (λ (t : Bool). updated_buf w t item) here ∙ ap (updated_buf w stays) is in
    let field : new.field ≡ was.field = ap (λ (b : FieldBuf). b.field) done in
    let change : IsChange w stays was r = subst (λ (b : FieldBuf). IsChange w stays b r) is (subst (λ (t : Bool). IsChange w t item r) here c.update_buf-change.ensures.change) in
    let old_flows : List Flow = c.loop-buf.flows.items in
    let new_flows : List Flow = c.add_flow.new.flows.items in
    let old_drops : List ℕ = c.loop-buf.drops.items in
    let new_drops : List ℕ = c.add_amount.new.amounts.items in
    let flow : (f : ℕ) → slice_index_or new_flows f no_flow ≡ with_flow (slice_index_or old_flows f no_flow) (cond (f == was.field) r.inflow 0) (cond (f == was.field) r.outflow 0) = λ f.
    subst (λ (m : ℕ). slice_index_or new_flows f no_flow ≡ with_flow (slice_index_or old_flows f no_flow) (cond (f == m) r.inflow 0) (cond (f == m) r.outflow 0)) field (c.in_ok-add_flow.ensures.flows f) in
    let fall : (f : ℕ) → slice_index new_drops f ≡ slice_index old_drops f + cond (f == was.field) r.dropped 0 = λ f.
    subst (λ (m : ℕ). slice_index new_drops f ≡ slice_index old_drops f + cond (f == m) r.dropped 0) field (c.in_ok-add_amount.ensures.amounts f) in
    record {
      done = done_more F n old c.loop-buf.bufs new had.done few done;
      left = ap (λ (k : ℕ). drop (next + k) kept) step ∙ reads.left;
      next_most = omega (arith, step, reads.most);
      flows = λ f.
          flow_more (slice_index_or old_flows f no_flow) (slice_index_or new_flows f no_flow) (sum_of_field (take n old) (inflow_in w) f) (sum_of_field (take n old) (outflow_in w) f) (cond (f == was.field) r.inflow 0) (cond (f == was.field) r.outflow 0) (sum_of_field (take (n + 1) old) (inflow_in w) f) (sum_of_field (take (n + 1) old) (outflow_in w) f) (flow f) (had.flows f)
          (field_more old n (inflow_in w) f few ∙ ap (λ (v : ℕ). sum_of_field (take n old) (inflow_in w) f + cond (f == was.field) v 0) (sym change.inflow))
          (field_more old n (outflow_in w) f few ∙ ap (λ (v : ℕ). sum_of_field (take n old) (outflow_in w) f + cond (f == was.field) v 0) (sym change.outflow));
      drops = λ f.
          fall f
          ∙ ap (λ (v : ℕ). v + cond (f == was.field) r.dropped 0) (had.drops f)
          ∙ ap (λ (v : ℕ). sum_of_field (take n old) (dropped_of w kept) f + cond (f == was.field) v 0) change.dropped
          ∙ sym (field_more old n (dropped_of w kept) f few);
      most_in = λ f. let a = ap (λ (v : Flow). v.inflow) (flow f) in let b = cond_most (f == was.field) r.inflow (2 ^ 87) change.most_in in omega (arith, a, b, had.most_in f);
      most_out = λ f. let a = ap (λ (v : Flow). v.outflow) (flow f) in let b = cond_most (f == was.field) r.outflow (2 ^ 87) change.most_out in omega (arith, a, b, had.most_out f);
      most_dropped = λ f. let a = fall f in let b = cond_most (f == was.field) r.dropped (2 ^ 82) change.most_dropped in omega (arith, a, b, had.most_dropped f);
      few_flows = omega (arith, c.in_ok-add_flow.ensures.few, had.few_flows, field, on.field);
      few_drops = omega (arith, c.in_ok-add_amount.ensures.few, had.few_drops, field, on.field);
    }

pub returns-clause-bufs : goal.returns-clause-bufs
returns-clause-bufs c =
    let had = c.loop-buf.invariant.done in
    all_done _ c.loop-buf.buf-index c.args.bufs.now c.loop-buf.bufs had (omega (arith, c.loop-buf-test.false, had.count))

pub returns-clause-flows : goal.returns-clause-flows
returns-clause-flows c =
    let w = mesh_in c.args.problem.now c.args.tree.now c.args.layout.now in
    let had = c.loop-buf.invariant in
    let all : take c.loop-buf.buf-index c.args.bufs.now ≡ c.args.bufs.now = take_all c.loop-buf.buf-index c.args.bufs.now (omega (arith, c.loop-buf-test.false, had.done.count)) in
    λ f.
    ap (λ (v : List Flow). slice_index_or v f no_flow) c.from_vec.ensures
    ∙ had.flows f
    ∙ ap (λ (v : List FieldBuf). with_flow no_flow (sum_of_field v (inflow_in w) f) (sum_of_field v (outflow_in w) f)) all

pub returns-clause-drops : goal.returns-clause-drops
returns-clause-drops c =
    let w = mesh_in c.args.problem.now c.args.tree.now c.args.layout.now in
    let had = c.loop-buf.invariant in
    let all : take c.loop-buf.buf-index c.args.bufs.now ≡ c.args.bufs.now = take_all c.loop-buf.buf-index c.args.bufs.now (omega (arith, c.loop-buf-test.false, had.done.count)) in
    λ f.
    ap (λ (v : List ℕ). slice_index v f) c.from_vec-2.ensures
    ∙ had.drops f
    ∙ ap (λ (v : List FieldBuf). sum_of_field v (dropped_of w c.args.kept.now) f) all
