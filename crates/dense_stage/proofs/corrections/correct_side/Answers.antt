use Rattle.std.proofs.Common.{◌≡◌, ◌<◌, ◌∙◌, ◌+◌, ℕ, List, Option, Some, None, arith, length, subst, sym}
use Rattle.std.specs.List.{slice_get, slice_index_or}
use Rattle.std.proofs.lemmas.Option.{slice_get-get_or}
use Rattle.block_tree.specs.Blocks.{leaves}
use Rattle.dense_stage.specs.declared.face_lists.FaceLists.{FaceLists}
use Rattle.dense_stage.specs.Faces.{AreFaceLists}
use Rattle.dense_stage.proofs.Items.{get_within}
use Rattle.dense_stage.proofs.LeafFlows.{leaf_at}
use Rattle.dense_stage.proofs.PartSteps.{FineSide, HalvesDone, half_more, kept_once, own_kept, part_at, part_fits}
use Rattle.dense_stage.proofs.SideDone.{not_fine_side, side_done}
use Rattle.dense_stage.proofs.corrections.correct_side.Goals.{in-Some+in_ok-correct_part, in_default-get}
use Rattle.dense_stage.proofs.corrections.correct_side.Goals as goal

pub correct_part-requires : goal.correct_part-requires
correct_part-requires g c =
    let t = c.args.tree.now in
    let l = c.args.layout.now in
    let axis = c.args.side.axis in
    let high = c.args.side.high in
    let some = leaf_at t c.args.leaf c.requires.1.0 in
    let s : FineSide t l g.x c.args.leaf axis high c.in-Fine.finer some.0 = record { sound = c.requires.0; used = c.requires.1.1.0; get = some.1; is = c.in-Fine.ensures some.0 some.1 } in
    let read : slice_get c.in-Fine.finer c.loop-half.half ≡ Some c.in-Some.from = sym c.get.ensures ∙ c.in-Some.is in
    let p = part_at t l g.x c.args.leaf axis high c.in-Fine.finer some.0 c.loop-half.half c.in-Some.from s read in
    let own = own_kept t l g.x c.args.faces.now c.loop-half.faces c.requires.1.1.1.1 c.loop-half.invariant.kept in
    let fits = part_fits t l g.x axis high some.0 c.loop-half.half c.in-Some.from c.loop-half.faces l.sound c.requires.0 p own in
    let fit = c.loop-half.invariant.fit in
    let count = fit.rights.count in
    let within = get_within (leaves t) c.in-Some.from _ p.is in
    let leaf_in : c.args.leaf < length c.loop-half.faces.right.items = omega (arith, count, c.requires.1.0) in
    let from_in : c.in-Some.from < length c.loop-half.faces.right.items = omega (arith, count, within) in
    let all : AreFaceLists l (length c.loop-half.faces.right.items) c.loop-half.faces = subst (λ (n : ℕ). AreFaceLists l n c.loop-half.faces) (sym count) fit in
    record {
      leaf = leaf_in;
      from = from_in;
      axis = c.requires.1.1.0;
      half = p.few;
      faces = all;
      rights = fits.0;
      lefts = fits.1;
    }

pub returns-in_default : goal.returns-in_default
returns-in_default g c =
    record {
      faces = c.requires.1.1.1.0;
      kept = kept_once c.args.tree.now c.args.layout.now g.x c.args.faces.now;
      done = λ l get. not_fine_side c.args.tree.now c.args.layout.now g.x c.args.leaf c.args.side.axis c.args.side.high l c.behind.result c.args.faces.now c.requires.0 c.requires.1.1.0 get (c.behind.ensures l get) c.in_default.not-Fine c.requires.1.1.1.1;
    }

pub loop-half-preserved : goal.loop-half-preserved
loop-half-preserved g c =
    let t = c.args.tree.now in
    let l = c.args.layout.now in
    let x = g.x in
    let leaf = c.args.leaf in
    let axis = c.args.side.axis in
    let high = c.args.side.high in
    let half = c.loop-half.half in
    let old = c.loop-half.invariant in
    let more : HalvesDone t l x leaf axis high (half + 1) c.args.faces.now c.match-get.faces = elim c.match-get.branch [
      | in-Some+in_ok-correct_part w ↦
          let some = leaf_at t leaf c.requires.1.0 in
          let s : FineSide t l x leaf axis high c.in-Fine.finer some.0 = record { sound = c.requires.0; used = c.requires.1.1.0; get = some.1; is = c.in-Fine.ensures some.0 some.1 } in
          let read : slice_get c.in-Fine.finer half ≡ Some w.in-Some.from = sym c.get.ensures ∙ w.in-Some.is in
          let so_far : HalvesDone t l x leaf axis high half c.args.faces.now c.loop-half.faces = record { fit = old.fit; kept = old.kept; done = old.done } in
          subst (λ (f : FaceLists). HalvesDone t l x leaf axis high (half + 1) c.args.faces.now f) (sym w.faces-is)
          (half_more t l x leaf axis high c.in-Fine.finer some.0 half w.in-Some.from c.args.faces.now c.loop-half.faces w.correct_part.new.faces s read c.requires.1.1.1.1 so_far w.in_ok-correct_part.ensures.faces w.in_ok-correct_part.ensures.put)
      | in_default-get w ↦ absurd (none_left c.in-Fine.finer half _ c.get.ensures w.in_default-get.is (omega (arith, c.loop-half-test.true, c.len-half-end.ensures)))
    ] in
    record { fit = more.fit; kept = more.kept; done = more.done }
  where
    none_left : (finer : List ℕ) (k : ℕ) (v : Option ℕ) → v ≡ slice_get finer k → v ≡ None → k < length finer → ⊥
    none_left finer k v e f less = no_number (slice_index_or finer k 0) (sym f ∙ e ∙ slice_get-get_or finer k 0 less)
      where
        no_number : (n : ℕ) → ◌≡◌ {A = Option ℕ} None (Some n) → ⊥
        no_number n e = cc

pub returns-clause-done : goal.returns-clause-done
returns-clause-done g c l get =
    side_done c.args.tree.now c.args.layout.now g.x c.args.leaf c.args.side.axis c.args.side.high c.in-Fine.finer l _ _ (record { sound = c.requires.0; used = c.requires.1.1.0; get = get; is = c.in-Fine.ensures l get })
    (λ k i less covers. c.loop-half.invariant.done k l i (omega (arith, less, c.loop-half-test.false, c.len-half-end.ensures)) get covers)
