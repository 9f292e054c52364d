use Rattle.std.proofs.Common.{◌≡◌, ◌++◌, ◌∷◌, [], List, nat_eq, Bool, false, cond, Some, None, arith, All, subst, sym, ap, ◌∙◌}
use Rattle.std.proofs.lemmas.Grind.{common_steps}
use Rattle.std.proofs.lemmas.Bool.Decides.{nat_tests}
use Rattle.morton_order.specs.declared.space.Loc.{Loc}
use Rattle.morton_order.specs.Space.{IsIn}
use Rattle.morton_order.specs.Neighbours.{neighbour, at_offsets}
use Rattle.morton_order.proofs.Lists.{all_push, append_nil, filter_map_step, short_push, short_same}
use Rattle.morton_order.proofs.around.neighbours.Goals as goal
use Rattle.morton_order.proofs.around.neighbours.Goals.{in-Some, in_default}

pub loop-k-preserved : goal.loop-k-preserved
loop-k-preserved c =
    let other : nat_eq c.loop-k.k 13 ≡ false = grind (arith, nat_tests) in
    let given : neighbour c.args.shape.now c.args.at.now c.loop-k.k ≡ c.at_offsets.result =
    ap (λ (b : Bool). cond b None (at_offsets c.args.shape.now c.args.at.now c.loop-k.k)) other ∙ sym c.at_offsets.ensures.value in
    elim c.match-at_offsets.branch [
      | in-Some w ↦ let items : c.match-at_offsets.places.items ≡ c.loop-k.places.items ++ w.in-Some.neighbour ∷ [] = grind (arith, common_steps) in record {
        so_far = filter_map_step (neighbour c.args.shape.now c.args.at.now) c.loop-k.k (Some w.in-Some.neighbour) c.loop-k.places.items c.match-at_offsets.places.items c.loop-k.invariant.so_far (given ∙ w.in-Some.is) items;
        room = grind (arith, common_steps);
        short = short_push c.loop-k.k c.loop-k.places.items c.match-at_offsets.places.items w.in-Some.neighbour c.if-k-eq13.false c.loop-k.invariant.short items;
        within = subst (λ (v : List Loc). All (IsIn c.args.shape.now) v) (sym items) (all_push (IsIn c.args.shape.now) c.loop-k.places.items w.in-Some.neighbour c.loop-k.invariant.within w.in-Some.ensures.within);
      }
      | in_default w ↦
          let same : c.match-at_offsets.places.items ≡ c.loop-k.places.items = grind (arith, common_steps) in
          record {
            so_far = filter_map_step (neighbour c.args.shape.now c.args.at.now) c.loop-k.k None c.loop-k.places.items c.match-at_offsets.places.items c.loop-k.invariant.so_far (given ∙ w.in_default.is) (same ∙ sym (append_nil c.loop-k.places.items));
            room = grind (arith, common_steps);
            short = short_same c.loop-k.k c.loop-k.places.items c.match-at_offsets.places.items c.if-k-eq13.false c.loop-k.invariant.short same;
            within = subst (λ (v : List Loc). All (IsIn c.args.shape.now) v) (sym same) c.loop-k.invariant.within;
          }
    ]
