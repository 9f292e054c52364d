-- The wishes of blocks go on with each event.
use Rattle.std.proofs.Common.{◌≡◌, ◌∙◌, ap, sym, subst, refl, arith, inl, inr, ℕ, zero, suc, ◌+◌, ◌-◌, ◌*◌, ◌/◌, ◌%◌, ◌<◌, ◌≤◌, Bool, cond, Option, None, List, length}
use Rattle.std.specs.List.{slice_index_or}
use Rattle.std.proofs.lemmas.Bool.{cases_eq, cases_lt, le-ltb, lt-ltb}
use Rattle.std.proofs.lemmas.List.{get_or-replicate, length-replicate}
use Rattle.cycle_rounds.specs.Events as rounds
use Rattle.cycle_rounds.specs.Events.{Letter, reads}
use Rattle.cycle_rounds.proofs.Lists.{put_other, put_same}
use Rattle.sparse_rounds.specs.Kernels.{Kernels}
use Rattle.sparse_rounds.specs.Sparse.{Local, lease_of, stage_work, tail_work, work_of}
use Rattle.cycle_events.specs.Cycles.{Cycle, StateOf, machine, next, plan}
use Rattle.cycle_events.proofs.Steps.{after_letter, deliver_is, deliver_other, deliver_own, give_other, give_own}
use Rattle.cycle_sums.specs.Wishes.{DeliveriesWishNothing, GivesWish, OpeningsWishNothing, OthersWishNothing, SettingTells, ShowsWishes, TakesWishNothing}

-- no task but that which tags tells wishes
module _ {X V G F P W : Type 0} (k : Kernels X V G F P W) (content : X → ℕ → P) (l : Local V G F W) where
  stage_wishes : (n : ℕ) → (stage_work k n content l).wishes ≡ l.wishes
  stage_wishes zero = refl
  stage_wishes (suc zero) = refl
  stage_wishes (suc (suc zero)) = refl
  stage_wishes (suc (suc (suc zero))) = refl
  stage_wishes (suc (suc (suc (suc zero)))) = refl
  stage_wishes (suc (suc (suc (suc (suc n))))) = refl

  tail_wishes : (n : ℕ) → (n ≡ 1 → ⊥) → (tail_work k n l).wishes ≡ l.wishes
  tail_wishes zero other = refl
  tail_wishes (suc zero) other = absurd (other refl)
  tail_wishes (suc (suc n)) other = refl

  work_wishes : (g : ℕ) → (g ≡ 6 * k.stages + 1 → ⊥) → (work_of k g content l).wishes ≡ l.wishes
  work_wishes g other = elim (cases_lt g (6 * k.stages)) [
    | inl low ↦ ap (λ (b : Bool). (cond b (stage_work k (g % 6) content l) (tail_work k (g - 6 * k.stages) l)).wishes) (lt-ltb g (6 * k.stages) low)
        ∙ stage_wishes (g % 6)
    | inr high ↦ ap (λ (b : Bool). (cond b (stage_work k (g % 6) content l) (tail_work k (g - 6 * k.stages) l)).wishes) (le-ltb g (6 * k.stages) high)
        ∙ tail_wishes (g - 6 * k.stages) (λ e. other (past g (6 * k.stages) high e))
  ]
    where
      past : (g t : ℕ) → t ≤ g → g - t ≡ 1 → g ≡ t + 1
      past g t h e = omega arith

module _ {X V G F P W : Type 0} (c : Cycle X V G F P W) where
  stay : (s t : StateOf X V G F P W) (wishes : List (Option W)) → ShowsWishes c s wishes → ((i : ℕ) → (t.local i).wishes ≡ (s.local i).wishes) → ShowsWishes c t wishes
  stay s t wishes h same = record {
    as_many = h.as_many;
    each = λ b low. h.each b low ∙ ap (λ (v : ℕ → Option W). v b) (sym (same (c.kernels.owner b)));
  }

  leased_wishes : (s : StateOf X V G F P W) (seat j i : ℕ) → ((next c s (rounds.take seat j)).local i).wishes ≡ (s.local i).wishes
  leased_wishes s seat j i = elim (cases_eq i j) [
    | inl e ↦ ap (λ (v : Local V G F W). v.wishes) (put_same s.local j i (lease_of c.kernels (s.given j) (s.local j)) e) ∙ ap (λ v. (s.local v).wishes) (sym e)
    | inr ne ↦ ap (λ (v : Local V G F W). v.wishes) (put_other s.local j i (lease_of c.kernels (s.given j) (s.local j)) ne)
  ]

  arrived_wishes : (s : StateOf X V G F P W) (number : ℕ) (l : Letter X (ℕ → P)) (i : ℕ) → ((after_letter c s number l).local i).wishes ≡ (s.local i).wishes
  arrived_wishes s number l i = elim (cases_eq i (c.kernels.owner (c.kernels.to l.of))) [
    | inl e ↦ ap (λ (v : Local V G F W). v.wishes) (deliver_own c s number l i e)
    | inr ne ↦ ap (λ (v : Local V G F W). v.wishes) (deliver_other c s number l i ne)
  ]

  given_wishes : (s : StateOf X V G F P W) (seat j i : ℕ) → (s.given j ≡ 6 * c.kernels.stages + 1 → ⊥) → ((next c s (rounds.give seat j)).local i).wishes ≡ (s.local i).wishes
  given_wishes s seat j i other = elim (cases_eq i j) [
    | inl e ↦ ap (λ v. ((next c s (rounds.give seat j)).local v).wishes) e ∙ ap (λ (v : Local V G F W). v.wishes) (give_own c s seat j)
        ∙ work_wishes c.kernels (reads (plan c) (machine c) s (s.given j / 3)) (s.local j) (s.given j) other ∙ ap (λ v. (s.local v).wishes) (sym e)
    | inr ne ↦ ap (λ (v : Local V G F W). v.wishes) (give_other c s seat j i ne)
  ]

pub openings_wish_nothing : (X V G F P W : Type 0) → OpeningsWishNothing X V G F P W
openings_wish_nothing X V G F P W c = record {
  as_many = length-replicate c.size.blocks None;
  each = λ b low. get_or-replicate c.size.blocks b None None low;
}

pub takes_wish_nothing : (X V G F P W : Type 0) → TakesWishNothing X V G F P W
takes_wish_nothing X V G F P W c s wishes seat list h = stay c s (next c s (rounds.take seat list)) wishes h (leased_wishes c s seat list)

pub deliveries_wish_nothing : (X V G F P W : Type 0) → DeliveriesWishNothing X V G F P W
deliveries_wish_nothing X V G F P W c s wishes seat number l e h =
    subst (λ (t : StateOf X V G F P W). ShowsWishes c t wishes) (sym (deliver_is c s seat number l e)) (stay c s (after_letter c s number l) wishes h (arrived_wishes c s number l))

pub gives_wish : (X V G F P W : Type 0) → GivesWish X V G F P W
gives_wish X V G F P W c s old new seat list h told = record {
  as_many = told.as_many ∙ h.as_many;
  each = λ b low. elim (cases_eq (c.kernels.owner b) list) [
    | inl e ↦ told.own b low e ∙ ap (λ v. ((next c s (rounds.give seat list)).local v).wishes b) (sym e)
    | inr ne ↦ told.others b ne ∙ h.each b low ∙ sym (ap (λ (v : Local V G F W). v.wishes b) (give_other c s seat list (c.kernels.owner b) ne))
  ];
}

pub others_wish_nothing : (X V G F P W : Type 0) → OthersWishNothing X V G F P W
others_wish_nothing X V G F P W c s wishes seat list other h =
    stay c s (next c s (rounds.give seat list)) wishes h (λ i. given_wishes c s seat list i other)

pub setting_tells : (X V G F P W : Type 0) → SettingTells X V G F P W
setting_tells X V G F P W c list first l told old new of set = record {
  as_many = set.as_many;
  own = λ b low e. (let at = of.own b low e in
      let k : first + (b - first) ≡ b = back first b at.0 in
      ap (λ n. slice_index_or new n None) (sym k) ∙ set.set (b - first) (within first b (length told) at.0 at.1) ∙ of.each (b - first) (within first b (length told) at.0 at.1) ∙ ap l.wishes k);
  others = λ b other. (elim (cases_lt b first) [
    | inl low ↦ set.before b low
    | inr high ↦ (elim (cases_lt b (first + length told)) [
      | inl mine ↦ absurd (other (of.only b high mine))
      | inr past ↦ set.after b past
    ])
  ]);
}
  where
    back : (first b : ℕ) → first ≤ b → first + (b - first) ≡ b
    back first b h = omega arith

    within : (first b n : ℕ) → first ≤ b → b < first + n → b - first < n
    within first b n h k = omega arith
