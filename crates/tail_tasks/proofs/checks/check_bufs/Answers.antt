use Rattle.std.proofs.Common.{◌≡◌, ◌==◌, ◌+◌, [], ◌∷◌, ◌++◌, ℕ, Bool, true, false, List, cond, ◌&&◌, not, map, filter, drop, slice_index, sum, refl, ap, subst, sym, ◌∙◌, arith}
use Rattle.std.specs.Int.{from_bool}
use Rattle.std.proofs.lemmas.List.{get_or_read}
use Rattle.sparse_pool.specs.declared.place.Place.{Place}
use Rattle.field_bufs.specs.declared.buf.FieldBuf.{FieldBuf}
use Rattle.sparse_rounds.specs.Masked.{idle_next, is_freed}
use Rattle.cycle_kernels.specs.Kernels.{kernels_of}
use Rattle.cycle_kernels.specs.Lists.{own_totals}
use Rattle.lent_bufs.specs.Buffers.{place_of}
use Rattle.lent_bufs.specs.Meshes.{mesh_in}
use Rattle.lent_bufs.proofs.Each.{buf_at, no_buf}
use Rattle.lent_bufs.proofs.Keeps.{Reads, among, reads_next}
use Rattle.tail_tasks.specs.Checks.{count_after, keeps_on}
use Rattle.tail_tasks.proofs.Checked.{all_checked, checked_more, rest_bufs}
use Rattle.tail_tasks.proofs.checks.check_bufs.Goals as goal

as_number : (b : Bool) → from_bool b ≡ cond b 1 0
as_number true = refl
as_number false = refl

pub loop-at-preserved : goal.loop-at-preserved
loop-at-preserved c =
    let w = mesh_in c.args.problem.now c.args.tree.now c.args.layout.now in
    let bufs = c.args.bufs.now in
    let kept = c.args.kept.now in
    let counts = c.args.counts.now in
    let n = c.loop-at.at in
    let next = c.loop-at.next in
    let had = c.loop-at.invariant in
    let few = c.loop-at-test.true in
    let buf : FieldBuf = c.index-bufs-at.result in
    let own : List ℕ = own_totals w.layout buf.cells in
    let count = slice_index counts n in
    let is : buf ≡ buf_at bufs n = get_or_read bufs n buf few c.index-bufs-at.is no_buf in
    let on = c.requires.bufs n no_buf few in
    let rest : List Place = map place_of (drop (n + 1) bufs) in
    let left : drop next kept ≡ filter (among kept) (place_of buf ∷ rest) = had.left ∙ ap (λ (v : List FieldBuf). filter (among kept) (map place_of v)) (rest_bufs bufs n few ∙ ap (λ (v : FieldBuf). v ∷ drop (n + 1) bufs) (sym is)) in
    let reads : Reads (among kept) kept next (place_of buf) rest = reads_next (among kept) kept next (place_of buf) rest had.next_most left in
    let here : c.is_next-here.result ≡ among kept (place_of buf) = c.is_next-here.ensures ∙ reads.here in
    let step : c.from-next.result ≡ cond (among kept (place_of buf)) 1 0 = c.from-next.ensures ∙ as_number c.is_next-here.result ∙ ap (λ (t : Bool). cond t 1 0) here in
    record {
      done = checked_more w kept bufs counts n c.loop-at.next_counts.items c.push.new.self.items c.loop-at.freed.items c.free_unless.new.freed.items c.loop-at.drops.items c.free_unless.new.drops.items c.check_buf-checked.result.count c.check_buf-checked.result.keeps had.done few c.requires.as_many
          (c.check_buf-checked.ensures.count ∙ ap (λ (t : Bool). idle_next (kernels_of w) own t count buf.field) here ∙ ap (λ (b : FieldBuf). count_after w kept b count) is)
          (c.check_buf-checked.ensures.keeps ∙ ap (λ (t : Bool). t && not (is_freed (kernels_of w) own t count buf.field)) here ∙ ap (λ (b : FieldBuf). keeps_on w kept b count) is)
          c.in_ok-push.ensures.items
          (subst (λ (b : FieldBuf). c.free_unless.new.freed.items ≡ cond c.check_buf-checked.result.keeps c.loop-at.freed.items (c.loop-at.freed.items ++ place_of b ∷ [])) is c.in_ok-free_unless.ensures.freed)
          (λ f. subst (λ (b : FieldBuf). slice_index c.free_unless.new.drops.items f ≡ slice_index c.loop-at.drops.items f + cond (f == b.field) (cond c.check_buf-checked.result.keeps 0 (sum (own_totals w.layout b.cells))) 0) is (c.in_ok-free_unless.ensures.drops f));
      left = ap (λ (k : ℕ). drop (next + k) kept) step ∙ reads.left;
      next_most = omega (arith, step, reads.most);
      most_dropped = λ f. omega (arith, c.in_ok-free_unless.ensures.most f, had.most_dropped f);
      few_drops = omega (arith, c.in_ok-free_unless.ensures.few, had.few_drops, ap (λ (b : FieldBuf). b.field) is, on.field);
    }

pub returns-clause-drops : goal.returns-clause-drops
returns-clause-drops c =
    let w = mesh_in c.args.problem.now c.args.tree.now c.args.layout.now in
    let all = all_checked w c.args.kept.now c.args.bufs.now c.args.counts.now c.loop-at.at c.loop-at.next_counts.items c.loop-at.freed.items c.loop-at.drops.items c.loop-at.invariant.done c.loop-at-test.false in
    λ f. ap (λ (v : List ℕ). slice_index v f) c.from_vec-3.ensures ∙ all.2 f
