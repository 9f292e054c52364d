use Rattle.std.proofs.Common.{◌≡◌, ◌+◌, ◌*◌, ℕ, suc, sym, ap, ◌∙◌, subst, refl, arith}
use Rattle.input_file.specs.Blocks.{Blocks}
use Rattle.deck_generator.specs.declared.form.Form.{Form}
use Rattle.deck_generator.specs.Generated.{next_drawn, drawn, box_name, box_settings}
use Rattle.deck_generator.specs.Settings.{with_settings, with_boxes}
use Rattle.deck_generator.proofs.blocks.add_boxes.Goals as goal

second_drawn : (seed a b : ℕ) → a ≡ next_drawn seed → b ≡ next_drawn a → b ≡ drawn seed (2 + 2 * 0)
unfolding drawn
second_drawn seed a b e f = f ∙ ap next_drawn e

pub loop-i-init : goal.loop-i-init
unfolding with_boxes
loop-i-init c = record {
  last = second_drawn c.args.seed c.next_drawn.result c.next_drawn-r.result c.next_drawn.ensures.value c.next_drawn-r.ensures.value;
  most = c.next_drawn-r.ensures.most;
  boxes = refl;
}

next_is : (seed i r x : ℕ) → r ≡ drawn seed i → x ≡ next_drawn r → x ≡ drawn seed (suc i)
unfolding drawn
next_is seed i r x e f = f ∙ ap next_drawn e

third : (seed i r x : ℕ) → r ≡ drawn seed (2 + 2 * i) → x ≡ next_drawn r → x ≡ drawn seed (3 + 2 * i)
third seed i r x e f = let q : suc (2 + 2 * i) ≡ 3 + 2 * i = omega arith in next_is seed (2 + 2 * i) r x e f ∙ ap (drawn seed) q

fourth : (seed i x y : ℕ) → x ≡ drawn seed (3 + 2 * i) → y ≡ next_drawn x → y ≡ drawn seed (4 + 2 * i)
fourth seed i x y e f = let q : suc (3 + 2 * i) ≡ 4 + 2 * i = omega arith in next_is seed (3 + 2 * i) x y e f ∙ ap (drawn seed) q

box_more : (f : Form) (seed i x y : ℕ) (d e g : Blocks) → e ≡ with_boxes f seed d i → g ≡ with_settings e (box_name i) (box_settings f i x y) → x ≡ drawn seed (3 + 2 * i) → y ≡ drawn seed (4 + 2 * i) → g ≡ with_boxes f seed d (i + 1)
unfolding with_boxes
box_more f seed i x y d e g is made ex ey =
    let q : suc i ≡ i + 1 = omega arith in
    made ∙ ap (λ (b : Blocks). with_settings b (box_name i) (box_settings f i x y)) is
    ∙ ap (λ (a : ℕ). with_settings (with_boxes f seed d i) (box_name i) (box_settings f i a y)) ex
    ∙ ap (λ (a : ℕ). with_settings (with_boxes f seed d i) (box_name i) (box_settings f i (drawn seed (3 + 2 * i)) a)) ey
    ∙ ap (with_boxes f seed d) q

pub loop-i-preserved : goal.loop-i-preserved
loop-i-preserved c =
    let inv = c.loop-i.invariant in
    let ex = third c.args.seed c.loop-i.i c.loop-i.r c.next_drawn-x.result inv.last c.next_drawn-x.ensures.value in
    let ey = fourth c.args.seed c.loop-i.i c.next_drawn-x.result c.next_drawn-y.result ex c.next_drawn-y.ensures.value in
    let q : 4 + 2 * c.loop-i.i ≡ 2 + 2 * (c.loop-i.i + 1) = omega arith in
    record {
      last = ey ∙ ap (drawn c.args.seed) q;
      most = c.next_drawn-y.ensures.most;
      boxes = box_more c.args.form.now c.args.seed c.loop-i.i c.next_drawn-x.result c.next_drawn-y.result c.args.deck.now c.loop-i.deck c.add_box.new.deck inv.boxes c.in_ok-add_box.ensures ex ey;
    }
