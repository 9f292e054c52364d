-- Places that are read in the order of the buffers.
use Rattle.std.proofs.Common.{◌≡◌, ◌==◌, ℕ, zero, suc, ◌+◌, ◌≤◌, Bool, true, false, cond, ◌&&◌, nat_lt, List, [], ◌∷◌, filter, drop, length, refl, arith, ap, subst, sym, ◌∙◌}
use Rattle.std.specs.List.{slice_index_or}
use Rattle.std.proofs.lemmas.Bool.{and_parts, eq-eqb, eqb-true, false≢true, le-ltb, lt-ltb}
use Rattle.std.proofs.lemmas.Bool.Decides.{nat_tests}
use Rattle.sparse_pool.specs.declared.place.Place.{Place}
use Rattle.pack_cache.specs.Packs.{same_place}
use Rattle.lent_bufs.specs.Kept.{is_among}
use Rattle.lent_bufs.specs.Kept.{is_here}

-- whether a place is among some
abbrev pub among : List Place → Place → Bool
among kept at = is_among kept at.block at.field

-- what is read next
abbrev pub is_at : List Place → Place → Bool
is_at [] at = false
is_at (q ∷ qs) at = same_place at q

abbrev nowhere : Place
nowhere = record { block = 0; field = 0 }

less_more : (n m : ℕ) → nat_lt (suc n) (suc m) ≡ nat_lt n m
less_more n m = grind (arith, nat_tests)

pub here_is : (kept : List Place) (n : ℕ) (at : Place) → is_here kept n at.block at.field ≡ is_at (drop n kept) at
here_is [] zero at = refl
here_is [] (suc n) at = ap (λ (t : Bool). cond t (same_place at (slice_index_or [] (suc n) nowhere)) false) (le-ltb (suc n) 0 (omega arith))
here_is (q ∷ qs) zero at = ap (λ (t : Bool). cond t (same_place at q) false) (lt-ltb 0 (suc (length qs)) (omega arith))
here_is (q ∷ qs) (suc n) at = ap (λ (t : Bool). cond t (same_place at (slice_index_or qs n nowhere)) false) (less_more n (length qs)) ∙ here_is qs n at

pub same_is : (a b : Place) → same_place a b ≡ true → a ≡ b
same_is a b e =
    let p = and_parts (b.block == a.block) (b.field == a.field) e in
    let f : b.block ≡ a.block = eqb-true b.block a.block p.0 in
    let g : b.field ≡ a.field = eqb-true b.field a.field p.1 in
    ap (λ (n : ℕ). let v : Place = record { block = n; field = a.field } in v) (sym f) ∙ ap (λ (n : ℕ). let v : Place = record { block = b.block; field = n } in v) (sym g)

pub is_same : (a : Place) → same_place a a ≡ true
is_same a = ap (λ (t : Bool). t && a.field == a.field) (eq-eqb a.block a.block refl) ∙ eq-eqb a.field a.field refl

-- one that is at the head of those that pass a test passes it
head_passes : (p : Place → Bool) (xs : List Place) (at : Place) → is_at (filter p xs) at ≡ true → p at ≡ true
head_passes p [] at e = absurd (false≢true e)
head_passes p (x ∷ xs) at e = by (p x) refl e (head_passes p xs at)
  where
    by : (t : Bool) → p x ≡ t → is_at (cond t (x ∷ filter p xs) (filter p xs)) at ≡ true → (is_at (filter p xs) at ≡ true → p at ≡ true) → p at ≡ true
    by true h e more = ap p (same_is at x e) ∙ h
    by false h e more = more e

-- the next place is a buffer's exactly where it is among them all; and what is left then
pub record Reads (p : Place → Bool) (kept : List Place) (n : ℕ) (at : Place) (rest : List Place) : Type 0 where
  pub here : is_here kept n at.block at.field ≡ p at
  pub left : drop (n + cond (p at) 1 0) kept ≡ filter p rest
  pub most : n + cond (p at) 1 0 ≤ length kept

drop_past : (kept qs : List Place) (n : ℕ) (q : Place) → drop n kept ≡ q ∷ qs → (drop (n + 1) kept ≡ qs) × (n + 1 ≤ length kept)
drop_past [] qs zero q e = absurd (wrong e)
  where
    wrong : ◌≡◌ {A = List Place} [] (q ∷ qs) → ⊥
    wrong e = cc
drop_past [] qs (suc n) q e = absurd (wrong e)
  where
    wrong : ◌≡◌ {A = List Place} [] (q ∷ qs) → ⊥
    wrong e = cc
drop_past (x ∷ xs) qs zero q e = (tail e, omega arith)
  where
    tail : (x ∷ xs) ≡ (q ∷ qs) → xs ≡ qs
    tail e = cc
drop_past (x ∷ xs) qs (suc n) q e =
    let r = drop_past xs qs n q e in
    let m : suc n + 1 ≡ suc (n + 1) = omega arith in (ap (λ (k : ℕ). drop k (x ∷ xs)) m ∙ r.0, omega (arith, r.1))

pub reads_next : (p : Place → Bool) (kept : List Place) (n : ℕ) (at : Place) (rest : List Place) → n ≤ length kept → drop n kept ≡ filter p (at ∷ rest) → Reads p kept n at rest
reads_next p kept n at rest few left = by (p at) refl left
  where
    by : (t : Bool) → p at ≡ t → drop n kept ≡ cond t (at ∷ filter p rest) (filter p rest) → Reads p kept n at rest
    by true h e =
        let past = drop_past kept (filter p rest) n at e in
        record {
          here = here_is kept n at ∙ ap (λ (v : List Place). is_at v at) e ∙ is_same at ∙ sym h;
          left = ap (λ (t : Bool). drop (n + cond t 1 0) kept) h ∙ past.0;
          most = subst (λ (t : Bool). n + cond t 1 0 ≤ length kept) (sym h) past.1;
        }
    by false h e = record {
      here = here_is kept n at ∙ ap (λ (v : List Place). is_at v at) e ∙ not_there (is_at (filter p rest) at) refl h;
      left = ap (λ (t : Bool). drop (n + cond t 1 0) kept) h ∙ ap (λ (k : ℕ). drop k kept) (let z : n + 0 ≡ n = omega arith in z) ∙ e;
      most = subst (λ (t : Bool). n + cond t 1 0 ≤ length kept) (sym h) (omega arith);
    }
      where
        not_there : (b : Bool) → is_at (filter p rest) at ≡ b → p at ≡ false → b ≡ p at
        not_there true g h = absurd (false≢true (sym h ∙ head_passes p rest at g))
        not_there false g h = sym h
