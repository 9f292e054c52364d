use Rattle.std.proofs.Common.{◌≡◌, ◌+◌, ◌-◌, ◌*◌, ◌/◌, ◌%◌, ◌++◌, ◌<◌, ◌≤◌, true, false, List, arith, ap, sym, ◌∙◌}
use Rattle.std.specs.List.{flat_map, range_with_len}
use Rattle.morton_order.specs.declared.space.Loc.{Loc}
use Rattle.block_tree.specs.Leaves.{begins_inside, roots_in}
use Rattle.block_tree.proofs.Growing.{append_nil, flat_end, flat_step, half_cube, roots_deep, roots_more, roots_none, roots_over}
use Rattle.block_tree.proofs.grow.+push_roots.Goals as goal

pub returns-then-not-begins_inside : goal.returns-then-not-begins_inside
returns-then-not-begins_inside t c =
    let out : begins_inside c.args.shape.now c.args.k c.args.x c.args.y c.args.z ≡ false = cc in
    record { whole = sym (ap (λ (v : List Loc). c.args.roots.now.items ++ v) (roots_none c.args.shape.now c.args.k c.args.x c.args.y c.args.z out) ∙ append_nil c.args.roots.now.items) }

pub push_roots-requires : goal.push_roots-requires
push_roots-requires t c =
    let d = c.decreases in
    let some : 1 ≤ c.args.k = omega arith in
    let less : c.loop-j.j < 8 = c.loop-j-test.true in (
      omega arith,
      (
        omega arith,
        (
          half_cube c.args.x (c.loop-j.j % 2) c.args.k some (omega arith) c.requires.x,
          (
            half_cube c.args.y (c.loop-j.j / 2 % 2) c.args.k some (omega arith) c.requires.y,
            half_cube c.args.z (c.loop-j.j / 4) c.args.k some (omega arith) c.requires.z,
          ),
        ),
      ),
    )

pub returns-then-not-branch : goal.returns-then-not-branch
returns-then-not-branch t c =
    let inside : begins_inside c.args.shape.now c.args.k c.args.x c.args.y c.args.z ≡ true = cc in
    let few : c.in_ok-push_roots.field-0 ≡ false = cc in
    record { whole = roots_over c.args.shape.now c.args.k c.args.x c.args.y c.args.z c.loop-j.j 65536 c.in_ok-push_roots.field-0 c.args.roots.now.items c.loop-j.roots.items c.push_roots.new.roots.items (omega arith) inside c.loop-j-test.true c.loop-j.invariant few c.in_ok-push_roots.ensures.whole }

pub loop-j-preserved : goal.loop-j-preserved
loop-j-preserved t c =
    let whole : c.in_ok-push_roots.field-0 ≡ true = cc in
    flat_step (λ j. roots_in (c.args.k - 1) c.args.shape.now (2 * c.args.x + j % 2) (2 * c.args.y + j / 2 % 2) (2 * c.args.z + j / 4)) c.loop-j.roots.items c.push_roots.new.roots.items
    (c.args.roots.now.items ++ flat_map (λ j. roots_in (c.args.k - 1) c.args.shape.now (2 * c.args.x + j % 2) (2 * c.args.y + j / 2 % 2) (2 * c.args.z + j / 4)) (range_with_len 0 8))
    c.loop-j.j 8 c.loop-j-test.true c.loop-j.invariant
    (roots_more c.in_ok-push_roots.field-0 65536 c.loop-j.roots.items c.push_roots.new.roots.items (roots_in (c.args.k - 1) c.args.shape.now (2 * c.args.x + c.loop-j.j % 2) (2 * c.args.y + c.loop-j.j / 2 % 2) (2 * c.args.z + c.loop-j.j / 4)) whole c.in_ok-push_roots.ensures.whole)

pub returns : goal.returns
returns t c =
    let inside : begins_inside c.args.shape.now c.args.k c.args.x c.args.y c.args.z ≡ true = cc in
    record {
      whole =
          flat_end (λ j. roots_in (c.args.k - 1) c.args.shape.now (2 * c.args.x + j % 2) (2 * c.args.y + j / 2 % 2) (2 * c.args.z + j / 4)) c.loop-j.roots.items
          (c.args.roots.now.items ++ flat_map (λ j. roots_in (c.args.k - 1) c.args.shape.now (2 * c.args.x + j % 2) (2 * c.args.y + j / 2 % 2) (2 * c.args.z + j / 4)) (range_with_len 0 8))
          c.loop-j.j 8 (omega arith) c.loop-j.invariant
          ∙ ap (λ (v : List Loc). c.args.roots.now.items ++ v) (sym (roots_deep c.args.shape.now c.args.k c.args.x c.args.y c.args.z (omega arith) inside));
    }
