-- One step along an axis of cells, over blocks of n of them.
use Rattle.std.proofs.Common.{◌≡◌, ℕ, ◌+◌, ◌-◌, ◌*◌, ◌<◌, ◌≤◌, Bool, true, false, cond, not, Some, None, arith, ap, sym, ◌∙◌, inl, inr}
use Rattle.std.specs.Option.{option_map}
use Rattle.std.proofs.lemmas.Bool.{cases_lt}
use Rattle.std.proofs.lemmas.Bool.Decides.{nat_tests}
use Rattle.std.proofs.lemmas.Nat.{mul-add-lt}
use Rattle.morton_order.specs.Neighbours.{step}
use Rattle.block_geometry.specs.Blocks.{end_of}

-- a step where there is room, and where there is none
up_room : (n : ℕ) (w : Bool) (x : ℕ) → x + 1 < n → step n w true x ≡ Some (x + 1)
up_room n w x h = grind (arith, nat_tests)

up_end : (n : ℕ) (w : Bool) (x : ℕ) → n ≤ x + 1 → step n w true x ≡ cond w (Some 0) None
up_end n w x h = grind (arith, nat_tests)

down_room : (n : ℕ) (w : Bool) (x : ℕ) → 0 < x → step n w false x ≡ Some (x - 1)
down_room n w x h = grind (arith, nat_tests)

down_end : (n : ℕ) (w : Bool) (x : ℕ) → x ≡ 0 → step n w false x ≡ cond w (Some (n - 1)) None
down_end n w x h = grind (arith, nat_tests)

-- inside of a block
pub up_inside : (r n : ℕ) (w : Bool) (b u : ℕ) → b < r → u + 1 < n → step (r * n) w true (b * n + u) ≡ Some (b * n + (u + 1))
up_inside r n w b u h k =
    let room : b * n + (u + 1) < n * r = mul-add-lt b n (u + 1) r h k in
    up_room (r * n) w (b * n + u) (omega arith) ∙ ap Some (omega arith)

pub down_inside : (r n : ℕ) (w : Bool) (b u : ℕ) → step (r * n) w false (b * n + (u + 1)) ≡ Some (b * n + u)
down_inside r n w b u = down_room (r * n) w (b * n + (u + 1)) (omega arith) ∙ ap Some (omega arith)

-- from the last cell of a block towards a side one comes to the first cell of the block across
mapped_round : (w : Bool) (x y : ℕ) (g : ℕ → ℕ) → y ≡ g x → cond w (Some y) None ≡ option_map g (cond w (Some x) None)
mapped_round true x y g e = ap Some e
mapped_round false x y g e = cc

up_beyond : (r n : ℕ) (w : Bool) (b : ℕ) → b < r → 1 ≤ n → step (r * n) w true (b * n + (n - 1)) ≡ option_map (λ y. y * n + 0) (step r w true b)
up_beyond r n w b h k = elim (cases_lt (b + 1) r) [
  | inl less ↦
      let room : (b + 1) * n + 0 < n * r = mul-add-lt (b + 1) n 0 r less k in
      up_room (r * n) w (b * n + (n - 1)) (omega arith) ∙ ap Some (omega arith) ∙ sym (ap (option_map (λ y. y * n + 0)) (up_room r w b less))
  | inr more ↦
      let same : r ≡ b + 1 = omega arith in
      let whole : r * n ≡ b * n + n = ap (λ v. v * n) same ∙ omega arith in
      up_end (r * n) w (b * n + (n - 1)) (omega arith) ∙ mapped_round w 0 0 (λ y. y * n + 0) (omega arith) ∙ sym (ap (option_map (λ y. y * n + 0)) (up_end r w b more))
]

down_beyond : (r n : ℕ) (w : Bool) (b : ℕ) → b < r → 1 ≤ n → step (r * n) w false (b * n + 0) ≡ option_map (λ y. y * n + (n - 1)) (step r w false b)
down_beyond r n w b h k = elim (cases_lt 0 b) [
  | inl some ↦
      let c : ℕ = b - 1 in
      let same : b ≡ c + 1 = omega arith in
      let whole : b * n ≡ c * n + n = ap (λ v. v * n) same ∙ omega arith in
      down_room (r * n) w (b * n + 0) (omega arith) ∙ ap Some (omega arith) ∙ sym (ap (option_map (λ y. y * n + (n - 1))) (down_room r w b some))
  | inr none ↦
      let zero : b ≡ 0 = omega arith in
      let c : ℕ = r - 1 in
      let same : r ≡ c + 1 = omega arith in
      let whole : r * n ≡ c * n + n = ap (λ v. v * n) same ∙ omega arith in
      let first : b * n ≡ 0 = ap (λ v. v * n) zero ∙ omega arith in
      down_end (r * n) w (b * n + 0) (omega arith) ∙ mapped_round w (r - 1) (r * n - 1) (λ y. y * n + (n - 1)) (omega arith) ∙ sym (ap (option_map (λ y. y * n + (n - 1))) (down_end r w b zero))
]

pub step_beyond : (r n : ℕ) (w high : Bool) (b : ℕ) → b < r → 1 ≤ n → step (r * n) w high (b * n + end_of n high) ≡ option_map (λ y. y * n + end_of n (not high)) (step r w high b)
step_beyond r n w true b h k = up_beyond r n w b h k
step_beyond r n w false b h k = down_beyond r n w b h k
