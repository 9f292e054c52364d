use Rattle.std.proofs.Common.{◌≡◌, ◌+◌, ◌-◌, ◌<◌, ◌∷◌, ◌++◌, [], ℕ, suc, List, drop, length, map, take, ap, sym, ◌∙◌, arith, inl, inr}
use Rattle.std.specs.List.{range_with_len}
use Rattle.std.proofs.lemmas.Bool.{cases_lt}
use Rattle.std.proofs.lemmas.List.Elements.{All-drop, All-take}
use Rattle.std.proofs.lemmas.Option.{get_or_from_slice_get}
use Rattle.morton_order.specs.declared.space.Loc.{Loc}
use Rattle.block_tree.specs.Blocks.{leaves}
use Rattle.deck_entries.specs.declared.entries.Criterion.{Criterion}
use Rattle.field_bufs.specs.declared.buf.FieldBuf.{FieldBuf}
use Rattle.field_bufs.specs.Buffers.{HasSizes}
use Rattle.mesh_rules.specs.declared.wish.Wish.{Wish}
use Rattle.mesh_rules.specs.Tags.{at_root, strongest}
use Rattle.cycle_kernels.specs.Blocks.{leaf_at}
use Rattle.lent_bufs.specs.Meshes.{mesh_in}
use Rattle.tail_tasks.specs.Wishes.{wish_by_bufs, wish_on}
use Rattle.tail_tasks.proofs.Wished.{past_run, range_grows, run_is}
use Rattle.tail_tasks.proofs.wishes.wishes_of.Goals as goal

abbrev origin : Loc
origin = record { level = 0; l1 = 0; l2 = 0; l3 = 0 }

pub block_wish-requires-clause-level : goal.block_wish-requires-clause-level
block_wish-requires-clause-level c =
    let p = c.args.problem.now in
    let t = c.args.tree.now in
    let l = c.args.layout.now in
    let block = c.loop-block.block in
    let few : block < length (leaves t) = omega (arith, c.loop-block-test.true, c.requires.end) in
    let at : leaf_at (mesh_in p t l) block ≡ c.leaf_at-level.result = get_or_from_slice_get (leaves t) block c.leaf_at-level.result origin c.leaf_at-level.ensures in
    let here = c.requires.tree.levels block few in
    let same = ap (λ (v : Loc). v.level) at in
    let most = p.refining_sound.most_levels in
    omega (arith, here, same, most)

pub block_wish-requires-clause-sizes : goal.block_wish-requires-clause-sizes
block_wish-requires-clause-sizes c =
    All-take (HasSizes c.args.layout.now) _ (drop c.loop-block.at c.args.bufs.now) (All-drop (HasSizes c.args.layout.now) c.loop-block.at c.args.bufs.now c.requires.sizes)

pub loop-block-preserved : goal.loop-block-preserved
loop-block-preserved c =
    let p = c.args.problem.now in
    let t = c.args.tree.now in
    let l = c.args.layout.now in
    let w = mesh_in p t l in
    let bufs = c.args.bufs.now in
    let first = c.args.first in
    let block = c.loop-block.block in
    let start = c.loop-block.at in
    let next = c.end_of-next.result in
    let run = c.end_of-next.ensures in
    let had = c.loop-block.invariant in
    let low = c.loop-block.auto.block in
    let level = c.leaf_at-level.result.level in
    let group : List FieldBuf = take (next - start) (drop start bufs) in
    let k : ℕ = block - first in
    let at : leaf_at w block ≡ c.leaf_at-level.result = get_or_from_slice_get (leaves t) block c.leaf_at-level.result origin c.leaf_at-level.ensures in
    let wish : c.block_wish.result ≡ wish_on w bufs block =
    c.block_wish.ensures
    ∙ ap (λ (cs : List Criterion). at_root level (strongest (map (wish_by_bufs l level group) cs))) c.as_slice-criteria.ensures
    ∙ ap (λ (v : Loc). at_root v.level (strongest (map (wish_by_bufs l v.level group) p.criteria))) (sym at)
    ∙ ap (λ (v : List FieldBuf). at_root (leaf_at w block).level (strongest (map (wish_by_bufs l (leaf_at w block).level v) p.criteria)))
    (run_is bufs first c.args.end start next block c.requires.order run.ordered run.within had.before had.after run.here run.next) in
    record {
      wishes =
          c.in_ok-push.ensures.items
          ∙ ap (λ (v : List Wish). v ++ c.block_wish.result ∷ []) had.wishes
          ∙ ap (λ (v : Wish). map (wish_on w bufs) (range_with_len first k) ++ v ∷ []) (wish ∙ ap (wish_on w bufs) (let e : block ≡ first + k = omega (arith, low) in e))
          ∙ sym (range_grows (wish_on w bufs) first k)
          ∙ ap (λ (n : ℕ). map (wish_on w bufs) (range_with_len first n)) (let e : suc k ≡ block + 1 - first = omega (arith, low) in e);
      most = omega (arith, c.loop-block-test.true);
      within = run.within;
      before = λ j small. elim (cases_lt j start) [
        | inl less ↦ omega (arith, had.before j less)
        | inr more ↦ omega (arith, run.here j more small)
      ];
      after = λ j most small. omega (arith, past_run bufs first c.args.end start next block c.requires.order run.ordered had.after run.next j most small);
    }

pub returns : goal.returns
returns c =
    let w = mesh_in c.args.problem.now c.args.tree.now c.args.layout.now in
    let first = c.args.first in
    let block = c.loop-block.block in
    let low = c.loop-block.auto.block in
    let most = c.loop-block.invariant.most in
    let done = c.loop-block-test.false in
    c.from_vec.ensures ∙ c.loop-block.invariant.wishes ∙ ap (λ (n : ℕ). map (wish_on w c.args.bufs.now) (range_with_len first n)) (let e : block - first ≡ c.args.end - first = omega (arith, low, most, done) in e)
