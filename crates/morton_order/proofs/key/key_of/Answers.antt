use Rattle.std.proofs.Common.{◌≡◌, ◌^◌, ◌<◌, ◌≤◌, ◌-◌, ◌/◌, subst, sym, arith, refl}
use Rattle.morton_order.specs.Key.{key, interleaved}
use Rattle.morton_order.proofs.KeyBits.{digit, key_step, interleaved_below, power_below}
use Rattle.morton_order.proofs.key.key_of.Goals as goal

pub loop-done-init : goal.loop-done-init
unfolding interleaved
loop-done-init c = refl

pub overflow_mul-key : goal.overflow_mul-key
overflow_mul-key c = let h : c.loop-done.key < 8 ^ c.loop-done.done = subst (λ v. v < 8 ^ c.loop-done.done) (sym c.loop-done.invariant) (interleaved_below _ _ _ _) in
    let p : 8 ^ c.loop-done.done ≤ 2 ^ 78 = power_below c.loop-done.done (omega arith) in omega arith

pub overflow_add-key : goal.overflow_add-key
overflow_add-key c = let h : c.loop-done.key < 8 ^ c.loop-done.done = subst (λ v. v < 8 ^ c.loop-done.done) (sym c.loop-done.invariant) (interleaved_below _ _ _ _) in
    let p : 8 ^ c.loop-done.done ≤ 2 ^ 78 = power_below c.loop-done.done (omega arith) in omega arith

pub loop-done-preserved : goal.loop-done-preserved
loop-done-preserved c =
    let e = key_step c.loop-done.done c.on_finest-x.result c.on_finest-y.result c.on_finest-z.result c.loop-done-test.true in
    let f : c.from.result ≡ digit (c.on_finest-x.result / 2 ^ (25 - c.loop-done.done)) (c.on_finest-y.result / 2 ^ (25 - c.loop-done.done)) (c.on_finest-z.result / 2 ^ (25 - c.loop-done.done)) = c.from.ensures in
    let k : c.loop-done.key ≡ interleaved c.loop-done.done (c.on_finest-x.result / 2 ^ (26 - c.loop-done.done)) (c.on_finest-y.result / 2 ^ (26 - c.loop-done.done)) (c.on_finest-z.result / 2 ^ (26 - c.loop-done.done)) = c.loop-done.invariant in
    cc

pub returns-clause-value : goal.returns-clause-value
unfolding key
returns-clause-value c =
    let e : c.loop-done.done ≡ 26 = omega arith in
    let h : c.loop-done.key ≡ interleaved 26 (c.on_finest-x.result / 1) (c.on_finest-y.result / 1) (c.on_finest-z.result / 1) =
    subst (λ v. c.loop-done.key ≡ interleaved v (c.on_finest-x.result / 2 ^ (26 - v)) (c.on_finest-y.result / 2 ^ (26 - v)) (c.on_finest-z.result / 2 ^ (26 - v))) e c.loop-done.invariant in
    let x : c.on_finest-x.result / 1 ≡ c.on_finest-x.result = omega arith in
    let y : c.on_finest-y.result / 1 ≡ c.on_finest-y.result = omega arith in
    let z : c.on_finest-z.result / 1 ≡ c.on_finest-z.result = omega arith in
    cc (c.on_finest-x.ensures.value, c.on_finest-y.ensures.value, c.on_finest-z.ensures.value)

pub returns-clause-bound : goal.returns-clause-bound
returns-clause-bound c = let h : c.loop-done.key < 8 ^ c.loop-done.done = subst (λ v. v < 8 ^ c.loop-done.done) (sym c.loop-done.invariant) (interleaved_below _ _ _ _) in
    let p : 8 ^ c.loop-done.done ≤ 2 ^ 78 = power_below c.loop-done.done (omega arith) in omega arith
