-- The kernels of a coarse block beside finer ones meet the laws.
use Rattle.std.proofs.Common.{◌≡◌, ℕ, zero, suc, ◌+◌, ◌/◌, ◌<◌, ◌≤◌, ◌==◌, Bool, true, false, cond, ◌&&◌, ◌||◌, nat_lt, ◌⊎◌, inl, inr, [], ◌∷◌, count_by, refl, arith, ap, sym, ◌∙◌, eq-eqb, subst}
use Rattle.std.specs.List.{list_any}
use Rattle.std.proofs.lemmas.Bool.{and_from, and_parts, eqb-true, false≢true, le-ltb, ltb-true, or_cases}
use Rattle.cycle_rounds.proofs.Lists.{count_cons}
use Rattle.sparse_rounds.specs.Kernels.{IsSentTo, ghosts_of, own_pairs}
use Rattle.sparse_rounds.specs.Row.{same_bool}
use Rattle.sparse_rounds.specs.Corner.{CornersMeetTheLaws, Link, Pair, Part, across, beyond, corner_kernels, fine_sums, moved, quarter, same_link}

same_bool_is : (a b : Bool) → same_bool a b ≡ true → a ≡ b
same_bool_is true true h = refl
same_bool_is true false h = absurd (false≢true h)
same_bool_is false true h = absurd (false≢true h)
same_bool_is false false h = refl

bool_same : (a : Bool) → same_bool a a ≡ true
bool_same true = refl
bool_same false = refl

link_of : (x y : Link) → x.fine ≡ y.fine → x.down ≡ y.down → x ≡ y
link_of x y e h = λ i. record { fine = e i; down = h i }

link_is : (x y : Link) → same_link x y ≡ true → x ≡ y
link_is x y h = let p = and_parts (x.fine == y.fine) (same_bool x.down y.down) h in link_of x y (eqb-true x.fine y.fine p.0) (same_bool_is x.down y.down p.1)

link_same : (x : Link) → same_link x x ≡ true
link_same x = and_from (x.fine == x.fine) (same_bool x.down x.down) (eq-eqb x.fine x.fine refl) (bool_same x.down)

abbrev up : ℕ → Link
up j = record { fine = j; down = false }

abbrev down : ℕ → Link
down j = record { fine = j; down = true }

-- no two of the links are one
most_one : (a b : Bool) → (a ≡ true → b ≡ true → ⊥) → cond a 1 0 + cond b 1 0 ≤ 1
most_one true true h = absurd (h refl refl)
most_one true false h = omega arith
most_one false true h = omega arith
most_one false false h = omega arith

apart : (x y z : Link) → (y ≡ z → ⊥) → same_link x y ≡ true → same_link x z ≡ true → ⊥
apart x y z ne h i = ne (sym (link_is x y h) ∙ link_is x z i)

two_ne : ◌≡◌ {A = ℕ} 1 2 → ⊥
two_ne e = omega arith

false_true : false ≡ true → ⊥
false_true e = cc

pair_once : (x y z : Link) → (y ≡ z → ⊥) → count_by (same_link x) (y ∷ z ∷ []) ≤ 1
pair_once x y z ne =
    let a = count_cons (same_link x) y (z ∷ []) in let b = count_cons (same_link x) z [] in
    let m = most_one (same_link x y) (same_link x z) (apart x y z ne) in omega arith

flux_once : (x : Link) → count_by (same_link x) (up 1 ∷ up 2 ∷ []) ≤ 1
flux_once x = pair_once x (up 1) (up 2) (λ e. two_ne (ap (λ (l : Link). l.fine) e))

none_of : (x y : Link) (d : Bool) → x.down ≡ d → same_bool d y.down ≡ false → ◌≡◌ {A = ℕ} (cond (same_link x y) 1 0) 0
none_of x y d e h = go (x.fine == y.fine) (same_bool x.down y.down) (ap (λ (v : Bool). same_bool v y.down) e ∙ h)
  where
    go : (a b : Bool) → b ≡ false → ◌≡◌ {A = ℕ} (cond (a && b) 1 0) 0
    go true b h = ap (λ (v : Bool). cond v 1 0) h
    go false b h = refl

ghost_once_by : (x : Link) (d : Bool) → x.down ≡ d → count_by (same_link x) (up 1 ∷ up 2 ∷ down 1 ∷ down 2 ∷ []) ≤ 1
ghost_once_by x true e =
    let a = count_cons (same_link x) (up 1) (up 2 ∷ down 1 ∷ down 2 ∷ []) in let b = count_cons (same_link x) (up 2) (down 1 ∷ down 2 ∷ []) in
    let n = none_of x (up 1) true e refl in let m = none_of x (up 2) true e refl in
    let p = pair_once x (down 1) (down 2) (λ e. two_ne (ap (λ (l : Link). l.fine) e)) in omega arith
ghost_once_by x false e =
    let a = count_cons (same_link x) (up 1) (up 2 ∷ down 1 ∷ down 2 ∷ []) in let b = count_cons (same_link x) (up 2) (down 1 ∷ down 2 ∷ []) in
    let c = count_cons (same_link x) (down 1) (down 2 ∷ []) in let d = count_cons (same_link x) (down 2) [] in
    let f = count_cons (same_link x) (up 1) (up 2 ∷ []) in let g = count_cons (same_link x) (up 2) [] in
    let n = none_of x (down 1) false e refl in let m = none_of x (down 2) false e refl in
    let p = flux_once x in omega arith

owned : (first : Bool) → cond first 0 1 < 2
owned true = omega arith
owned false = omega arith

quarter_same : (v u j : ℕ) → v ≡ u → quarter v j ≡ quarter u j
quarter_same v u j e = ap (λ n. quarter n j) e

-- what a block reads is due to it
abbrev Same : ℕ → (Link → Part) → (Link → Part) → Type 0
Same b c d = (x : Link) → IsSentTo same_link (λ x. cond x.down x.fine 0) (up 1 ∷ up 2 ∷ down 1 ∷ down 2 ∷ []) b x → c x ≡ d x

down_by : (j x y : ℕ) (inside : Bool) → nat_lt j 2 ≡ inside → (j < 2 → x ≡ y) → cond inside x 0 ≡ cond inside y 0
down_by j x y true e h = h (ltb-true j 2 e)
down_by j x y false e h = refl

down_due : (j : ℕ) → j < 2 → list_any (same_link (down (suc j))) (up 1 ∷ up 2 ∷ down 1 ∷ down 2 ∷ []) ≡ true
down_due zero h = refl
down_due (suc zero) h = refl
down_due (suc (suc j)) h = absurd (omega arith)

beyond_read : (b : ℕ) (c d : Link → Part) → Same b c d → beyond b c ≡ beyond b d
beyond_read zero c d h = ap (λ (p : Part). p.first + (c (up 2)).first) (h (up 1) (record { is_due = refl; is_to = refl })) ∙ ap (λ (p : Part). (d (up 1)).first + p.first) (h (up 2) (record { is_due = refl; is_to = refl }))
beyond_read (suc j) c d h = quarter_same (cond (nat_lt j 2) (c (down (suc j))).first 0) (cond (nat_lt j 2) (d (down (suc j))).first 0) j
    (down_by j (c (down (suc j))).first (d (down (suc j))).first (nat_lt j 2) refl (λ low. ap (λ (p : Part). p.first) (h (down (suc j)) (record { is_due = down_due j low; is_to = refl }))))

quarter_none : (j : ℕ) → quarter 0 j ≡ 0
quarter_none j = (let e : ◌≡◌ {A = ℕ} (cond (nat_lt j 0) 1 0) 0 = ap (λ (v : Bool). cond v 1 0) (le-ltb j 0 (omega arith)) in omega arith)

same_zero : (b : Bool) → ◌≡◌ {A = ℕ} (cond b 0 0) 0
same_zero true = refl
same_zero false = refl

beyond_none : (b : ℕ) → beyond b (λ _. record { first = 0; second = 0 }) ≡ 0
beyond_none zero = refl
beyond_none (suc j) = quarter_same (cond (nat_lt j 2) 0 0) 0 j (same_zero (nat_lt j 2)) ∙ quarter_none j

abbrev SameSums : ℕ → (Link → Part) → (Link → Part) → Type 0
SameSums b c d = (x : Link) → IsSentTo same_link (λ x. cond x.down x.fine 0) (up 1 ∷ up 2 ∷ []) b x → c x ≡ d x

sums_same : (p q r s : Part) → p ≡ q → r ≡ s → ◌≡◌ {A = Pair} (record { right = p.first + r.first; left = p.second + r.second }) (record { right = q.first + s.first; left = q.second + s.second })
sums_same p q r s e h = λ i. record { right = (e i).first + (h i).first; left = (e i).second + (h i).second }

sums_read : (b : ℕ) (p : Pair) (c d : Link → Part) → SameSums b c d → fine_sums b p c ≡ fine_sums b p d
sums_read zero p c d h = sums_same (c (up 1)) (d (up 1)) (c (up 2)) (d (up 2)) (h (up 1) (record { is_due = refl; is_to = refl })) (h (up 2) (record { is_due = refl; is_to = refl }))
sums_read (suc j) p c d h = refl

sums_none : (b : ℕ) → fine_sums b (record { right = 0; left = 0 }) (λ _. record { first = 0; second = 0 }) ≡ record { right = 0; left = 0 }
sums_none zero = refl
sums_none (suc j) = refl

no_flux : (b : ℕ) → across b 0 0 ≡ record { right = 0; left = 0 }
no_flux zero = refl
no_flux (suc j) = refl

no_move : (b : ℕ) → moved b 0 (record { right = 0; left = 0 }) ≡ 0
no_move zero = refl
no_move (suc j) = refl

-- where the coarse block and what lies beyond its face are nothing, finer faces pass nothing
part_same : (p q r s : ℕ) → p ≡ q → r ≡ s → ◌≡◌ {A = Part} (record { first = p; second = r }) (record { first = q; second = s })
part_same p q r s e h = λ i. record { first = e i; second = h i }

fine_nothing : (coarse fine j : ℕ) (inside : Bool) → coarse ≡ 0 → fine ≡ 0 → ◌≡◌ {A = Part} (record { first = quarter (cond inside coarse 0) j / 4; second = fine / 4 }) (record { first = 0; second = 0 })
fine_nothing coarse fine j inside e h = part_same (quarter (cond inside coarse 0) j / 4) 0 (fine / 4) 0
    (ap (λ n. n / 4) (quarter_same (cond inside coarse 0) 0 j (ap (λ n. cond inside n 0) e ∙ same_zero inside) ∙ quarter_none j)) (ap (λ n. n / 4) h)

flux_link : (x : Link) → list_any (same_link x) (up 1 ∷ up 2 ∷ []) ≡ true → (x ≡ up 1) ⊎ (x ≡ up 2)
flux_link x h = elim (or_cases (same_link x (up 1)) (same_link x (up 2) || false) h) [
  | inl e ↦ inl (link_is x (up 1) e)
  | inr e ↦ elim (or_cases (same_link x (up 2)) false e) [ inl d ↦ inr (link_is x (up 2) d) | inr d ↦ absurd (false≢true d) ]
]

sums_of_none : (above idle_limit : ℕ) (mesh : ℕ → ℕ → ℕ) (b f : ℕ) → mesh b f ≡ 0 → ghosts_of (corner_kernels above idle_limit) mesh b f ≡ 0 → SameSums b (λ x. record { first = (own_pairs (corner_kernels above idle_limit) mesh (cond x.down 0 x.fine) f).right; second = (own_pairs (corner_kernels above idle_limit) mesh (cond x.down 0 x.fine) f).left }) (λ _. record { first = 0; second = 0 })
sums_of_none above idle_limit mesh zero f z g x s = elim (flux_link x s.is_due) [
  | inl e ↦ subst (λ (l : Link). ◌≡◌ {A = Part} (record { first = (own_pairs (corner_kernels above idle_limit) mesh (cond l.down 0 l.fine) f).right; second = (own_pairs (corner_kernels above idle_limit) mesh (cond l.down 0 l.fine) f).left }) (record { first = 0; second = 0 })) (sym e) (fine_nothing (mesh 0 f) (mesh 1 f) 0 true z (omega arith))
  | inr e ↦ subst (λ (l : Link). ◌≡◌ {A = Part} (record { first = (own_pairs (corner_kernels above idle_limit) mesh (cond l.down 0 l.fine) f).right; second = (own_pairs (corner_kernels above idle_limit) mesh (cond l.down 0 l.fine) f).left }) (record { first = 0; second = 0 })) (sym e) (fine_nothing (mesh 0 f) (mesh 2 f) 1 true z (omega arith))
]
sums_of_none above idle_limit mesh (suc b) f z g x s = absurd (elim (flux_link x s.is_due) [
  | inl e ↦ none_to b (sym (ap (λ (l : Link). cond l.down l.fine 0) e) ∙ s.is_to)
  | inr e ↦ none_to b (sym (ap (λ (l : Link). cond l.down l.fine 0) e) ∙ s.is_to)
])
  where
    none_to : (b : ℕ) → 0 ≡ suc b → ⊥
    none_to b e = omega arith

pub corners_meet : CornersMeetTheLaws
corners_meet above idle_limit = record {
  same_is = link_is;
  is_same = link_same;
  ghost_once = λ x. ghost_once_by x x.down refl;
  flux_once = flux_once;
  owned = λ b. owned (b == 0);
  fluxes_need_ghosts = λ f h. h;
  blank_is_none = λ x v h. part_same v 0 0 0 (eqb-true v 0 h) refl;
  nothing_sent = λ x. refl;
  none_calls_not = λ x. le-ltb above 0 (omega arith);
  calls_flow_in = λ b f h. h;
  ghosts_read = λ b f c d h. beyond_read b c d h;
  ghosts_of_none = λ b f c e h. beyond_read b c (λ _. record { first = 0; second = 0 }) h ∙ beyond_none b;
  pairs_read = λ b f p c d h. sums_read b p c d h;
  pairs_of_none = λ b f c h. sums_read b (record { right = 0; left = 0 }) c (λ _. record { first = 0; second = 0 }) h ∙ sums_none b;
  no_flux = λ b f. no_flux b;
  no_sums = λ x. refl;
  no_update = λ b f. no_move b;
  no_inflow = λ b f. refl;
  no_outflow = λ b f. refl;
  no_amount = refl;
  sums_of_none = λ mesh b f has z g. sums_of_none above idle_limit mesh b f z g;
}
