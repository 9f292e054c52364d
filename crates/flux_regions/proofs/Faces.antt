-- The cells whose faces a finer leaf covers, by the index of the face in its part.
use Rattle.std.proofs.Common.{◌≡◌, ℕ, zero, suc, ◌+◌, ◌-◌, ◌*◌, ◌/◌, ◌%◌, ◌<◌, ◌≤◌, Bool, true, false, cond, not, nat_lt, List, [], ◌∷◌, refl, arith, ap, subst, sym, ◌∙◌, slice_index}
use Rattle.std.proofs.lemmas.Nat.{mod-mul-add}
use Rattle.morton_order.specs.declared.space.Loc.{Loc}
use Rattle.morton_order.specs.Space.{axis_of, child, factor}
use Rattle.morton_order.specs.Neighbours.{moved}
use Rattle.mesh_rules.specs.Due.{flux_span}
use Rattle.mesh_rules.specs.Mesh.{Mesh}
use Rattle.block_layout.specs.declared.layout.Layout.{Layout}
use Rattle.block_layout.specs.Sizes.{IsLayout}
use Rattle.block_layout.specs.Indices.{IsWithin, added, with_along}
use Rattle.block_layout.specs.Layouts.{cells_along}
use Rattle.block_layout.specs.Regions.{half_along}
use Rattle.block_layout.proofs.Boxes.{mod_below}
use Rattle.block_geometry.specs.Blocks.{cell_in, end_of}
use Rattle.ghost_laws.specs.Layers.{layer_along}
use Rattle.ghost_laws.specs.Refined.{halves_of}
use Rattle.ghost_laws.proofs.Layers.{count_at}
use Rattle.ghost_laws.proofs.Meeting.{two_parts}
use Rattle.ghost_laws.proofs.Sizes.{Sized, cut}
use Rattle.restrict_prolong.proofs.Halves.{factor_least, same_three}
use Rattle.flux_correct.specs.Sums.{coarse_extents}
use Rattle.flux_correct.specs.Corrected.{covered}
use Rattle.correction_laws.specs.Replaced.{half_of}
use Rattle.correction_laws.proofs.Digits.{first_half, half_again, half_digit, own_bit, placed_below}
use Rattle.correction_laws.proofs.Covered.{InHalf, differ, differ', in_part, shaped, sized1, sized2, sized3}
use Rattle.correction_laws.proofs.Others.{AtSide}
use Rattle.letter_laws.proofs.Boxes.{HasExtents, cell_by}

-- the index of the cell
abbrev pub face_cell : Layout → ℕ → Bool → ℕ → List ℕ → List ℕ
face_cell l axis high j u = with_along axis (end_of (cells_along l axis) high) (added (covered l axis high (half_of axis j)).low u)

half_below : (dims axis half c : ℕ) → half_along dims axis half c < cut (nat_lt c dims)
half_below dims axis half c = mod_below _ (factor dims c) (factor_least dims c)

end_below : (n : ℕ) (high : Bool) → 1 ≤ n → end_of n high < n
end_below n true h = omega arith
end_below n false h = omega arith

-- its half and the rest of it
rest_again : (used : Bool) (n u e : ℕ) → Sized used n → u < n / cut used → (0 + e * (n / 2) + u) % (n / cut used) ≡ u
rest_again true n u e s h = ap (λ v. v % (n / 2)) (plain (e * (n / 2)) u) ∙ mod-mul-add e (n / 2) u h
  where
    plain : (a b : ℕ) → 0 + a + b ≡ a + b
    plain a b = omega arith
rest_again false n u e s h =
    let one : n ≡ 1 = s.single refl in
    let none : u ≡ 0 = zero_of u (subst (λ v. u < v / 1) one h) in
    subst (λ v. (0 + e * (v / 2) + u) % (v / 1) ≡ u) (sym one) (subst (λ v. (0 + e * 0 + v) % 1 ≡ v) (sym none) (omega arith))
  where
    zero_of : (u : ℕ) → u < 1 → u ≡ 0
    zero_of u h = omega arith

half_index : (used : Bool) (n u e d : ℕ) → Sized used n → e < cut used → u < n / cut used → e ≡ d → (0 + e * (n / 2) + u) / (n / cut used) ≡ d
half_index used n u e d s h k f = half_again used n (0 + e * (n / 2) + u) u e s h k refl ∙ f

own_half : (l : Layout) (axis : ℕ) (high : Bool) (j : ℕ) → AtSide l axis high j → axis < 3 → layer_along (cells_along l axis) high 0 / (cells_along l axis / factor l.dims axis) ≡ slice_index (halves_of l.dims j) axis
own_half l axis high j s h =
    let c = count_at l.dims axis l.cells s.fit h in
    ap (λ f. layer_along (cells_along l axis) high 0 / (cells_along l axis / f)) (two_parts l.dims axis s.used)
    ∙ first_half (cells_along l axis) (layer_along (cells_along l axis) high 0) high (c.wide s.used) (c.even s.used) refl
    ∙ sym (own_bit l.dims j axis (not high) s.used h s.half)

pub face_cell_in : (l : Layout) (m : Mesh) (axis : ℕ) (high : Bool) (j : ℕ) (u : List ℕ) → AtSide l axis high j → IsWithin (coarse_extents l axis) u → InHalf l m axis high j (face_cell l axis high j u)
face_cell_in l m zero high j u s w =
    let d : ℕ = l.dims in
    let e1 : ℕ = half_along d 0 (half_of 0 j) 1 in
    let e2 : ℕ = half_along d 0 (half_of 0 j) 2 in
    record {
      fit = s.fit;
      three = omega arith;
      within = record {
        along1 = end_below (cells_along l 0) high s.fit.cells1.least;
        along2 = placed_below (nat_lt 1 d) (cells_along l 1) (slice_index u 1) e1 (sized2 l s.fit) (half_below d 0 (half_of 0 j) 1) w.along2;
        along3 = placed_below (nat_lt 2 d) (cells_along l 2) (slice_index u 2) e2 (sized3 l s.fit) (half_below d 0 (half_of 0 j) 2) w.along3;
      };
      at = refl;
      lies = record {
        along1 = own_half l 0 high j s (omega arith);
        along2 = half_index (nat_lt 1 d) (cells_along l 1) (slice_index u 1) e1 (slice_index (halves_of d j) 1) (sized2 l s.fit) (half_below d 0 (half_of 0 j) 1) w.along2 (half_digit d 0 1 j (omega arith) (omega arith) (differ 0 1 (omega arith)));
        along3 = half_index (nat_lt 2 d) (cells_along l 2) (slice_index u 2) e2 (slice_index (halves_of d j) 2) (sized3 l s.fit) (half_below d 0 (half_of 0 j) 2) w.along3 (half_digit d 0 2 j (omega arith) (omega arith) (differ 0 2 (omega arith)));
      };
    }
face_cell_in l m (suc zero) high j u s w =
    let d : ℕ = l.dims in
    let e0 : ℕ = half_along d 1 (half_of 1 j) 0 in
    let e2 : ℕ = half_along d 1 (half_of 1 j) 2 in
    record {
      fit = s.fit;
      three = omega arith;
      within = record {
        along1 = placed_below (nat_lt 0 d) (cells_along l 0) (slice_index u 0) e0 (sized1 l s.fit) (half_below d 1 (half_of 1 j) 0) w.along1;
        along2 = end_below (cells_along l 1) high s.fit.cells2.least;
        along3 = placed_below (nat_lt 2 d) (cells_along l 2) (slice_index u 2) e2 (sized3 l s.fit) (half_below d 1 (half_of 1 j) 2) w.along3;
      };
      at = refl;
      lies = record {
        along1 = half_index (nat_lt 0 d) (cells_along l 0) (slice_index u 0) e0 (slice_index (halves_of d j) 0) (sized1 l s.fit) (half_below d 1 (half_of 1 j) 0) w.along1 (half_digit d 1 0 j (omega arith) (omega arith) (differ' 0 1 (omega arith)));
        along2 = own_half l 1 high j s (omega arith);
        along3 = half_index (nat_lt 2 d) (cells_along l 2) (slice_index u 2) e2 (slice_index (halves_of d j) 2) (sized3 l s.fit) (half_below d 1 (half_of 1 j) 2) w.along3 (half_digit d 1 2 j (omega arith) (omega arith) (differ 1 2 (omega arith)));
      };
    }
face_cell_in l m (suc (suc zero)) high j u s w =
    let d : ℕ = l.dims in
    let e0 : ℕ = half_along d 2 (half_of 2 j) 0 in
    let e1 : ℕ = half_along d 2 (half_of 2 j) 1 in
    record {
      fit = s.fit;
      three = omega arith;
      within = record {
        along1 = placed_below (nat_lt 0 d) (cells_along l 0) (slice_index u 0) e0 (sized1 l s.fit) (half_below d 2 (half_of 2 j) 0) w.along1;
        along2 = placed_below (nat_lt 1 d) (cells_along l 1) (slice_index u 1) e1 (sized2 l s.fit) (half_below d 2 (half_of 2 j) 1) w.along2;
        along3 = end_below (cells_along l 2) high s.fit.cells3.least;
      };
      at = refl;
      lies = record {
        along1 = half_index (nat_lt 0 d) (cells_along l 0) (slice_index u 0) e0 (slice_index (halves_of d j) 0) (sized1 l s.fit) (half_below d 2 (half_of 2 j) 0) w.along1 (half_digit d 2 0 j (omega arith) (omega arith) (differ' 0 2 (omega arith)));
        along2 = half_index (nat_lt 1 d) (cells_along l 1) (slice_index u 1) e1 (slice_index (halves_of d j) 1) (sized2 l s.fit) (half_below d 2 (half_of 2 j) 1) w.along2 (half_digit d 2 1 j (omega arith) (omega arith) (differ' 1 2 (omega arith)));
        along3 = own_half l 2 high j s (omega arith);
      };
    }
face_cell_in l m (suc (suc (suc a))) high j u s w = absurd (omega (arith, s.used, s.fit.most))

-- the index in the part again
none_along : (u : ℕ) → u < 1 → 0 ≡ u
none_along u h = omega arith

pub part_again : (l : Layout) (axis : ℕ) (high : Bool) (j : ℕ) (u : List ℕ) → AtSide l axis high j → IsWithin (coarse_extents l axis) u → in_part l axis (face_cell l axis high j u) ≡ slice_index u 0 ∷ slice_index u 1 ∷ slice_index u 2 ∷ []
part_again l zero high j u s w =
    let d : ℕ = l.dims in
    same_three _ _ _ (slice_index u 0) (slice_index u 1) (slice_index u 2) (none_along (slice_index u 0) w.along1)
    (rest_again (nat_lt 1 d) (cells_along l 1) (slice_index u 1) (half_along d 0 (half_of 0 j) 1) (sized2 l s.fit) w.along2)
    (rest_again (nat_lt 2 d) (cells_along l 2) (slice_index u 2) (half_along d 0 (half_of 0 j) 2) (sized3 l s.fit) w.along3)
part_again l (suc zero) high j u s w =
    let d : ℕ = l.dims in
    same_three _ _ _ (slice_index u 0) (slice_index u 1) (slice_index u 2)
    (rest_again (nat_lt 0 d) (cells_along l 0) (slice_index u 0) (half_along d 1 (half_of 1 j) 0) (sized1 l s.fit) w.along1)
    (none_along (slice_index u 1) w.along2)
    (rest_again (nat_lt 2 d) (cells_along l 2) (slice_index u 2) (half_along d 1 (half_of 1 j) 2) (sized3 l s.fit) w.along3)
part_again l (suc (suc zero)) high j u s w =
    let d : ℕ = l.dims in
    same_three _ _ _ (slice_index u 0) (slice_index u 1) (slice_index u 2)
    (rest_again (nat_lt 0 d) (cells_along l 0) (slice_index u 0) (half_along d 2 (half_of 2 j) 0) (sized1 l s.fit) w.along1)
    (rest_again (nat_lt 1 d) (cells_along l 1) (slice_index u 1) (half_along d 2 (half_of 2 j) 1) (sized2 l s.fit) w.along2)
    (none_along (slice_index u 2) w.along3)
part_again l (suc (suc (suc a))) high j u s w = absurd (omega (arith, s.used, s.fit.most))

-- the cell that the rules name
last_cell : (x n u : ℕ) (high : Bool) → 1 ≤ n → u < 1 → cond high (x * n + n - 1) (x * n) + u ≡ x * n + end_of n high
last_cell x n u true h k = omega arith
last_cell x n u false h k = omega arith

inner_cell : (used : Bool) (n x o J e u : ℕ) → Sized used n → o ≡ x → e ≡ J → e < cut used → (cut used * o + J) * (n / cut used) + u ≡ x * n + (0 + e * (n / 2) + u)
inner_cell true n x o J e u s p q h =
    let even = s.even refl in
    let whole : n ≡ 2 * (n / 2) = omega arith in
    ap (λ v. (2 * v + J) * (n / 2) + u) p ∙ ap (λ v. (2 * x + v) * (n / 2) + u) (sym q) ∙ plain x e (n / 2) u ∙ ap (λ v. x * v + (0 + e * (n / 2) + u)) (sym whole)
  where
    plain : (x e h u : ℕ) → (2 * x + e) * h + u ≡ x * (2 * h) + (0 + e * h + u)
    plain x e h u = omega arith
inner_cell false n x o J e u s p q h =
    let one : n ≡ 1 = s.single refl in
    let none : e ≡ 0 = omega arith in
    let J_none : J ≡ 0 = sym q ∙ none in
    ap (λ v. (1 * v + J) * (n / 1) + u) p ∙ ap (λ v. (1 * x + v) * (n / 1) + u) J_none
    ∙ subst (λ v. (1 * x + 0) * (v / 1) + u ≡ x * v + (0 + e * (v / 2) + u)) (sym one) (plain x e u)
  where
    plain : (x e u : ℕ) → (1 * x + 0) * 1 + u ≡ x * 1 + (0 + e * 0 + u)
    plain x e u = omega arith

loc_same : (level a b c x y z : ℕ) → a ≡ x → b ≡ y → c ≡ z → ◌≡◌ {A = Loc} (record { level = level; l1 = a; l2 = b; l3 = c }) (record { level = level; l1 = x; l2 = y; l3 = z })
loc_same level a b c x y z e f g = cc

else_same : (o r : Loc) (axis x c : ℕ) → o ≡ moved r axis x → axis < 3 → c < 3 → (c ≡ axis → ⊥) → axis_of o c ≡ axis_of r c
else_same o r zero x zero e h k ne = absurd (ne refl)
else_same o r zero x (suc zero) e h k ne = ap (λ (v : Loc). v.l2) e
else_same o r zero x (suc (suc zero)) e h k ne = ap (λ (v : Loc). v.l3) e
else_same o r (suc zero) x zero e h k ne = ap (λ (v : Loc). v.l1) e
else_same o r (suc zero) x (suc zero) e h k ne = absurd (ne refl)
else_same o r (suc zero) x (suc (suc zero)) e h k ne = ap (λ (v : Loc). v.l3) e
else_same o r (suc (suc zero)) x zero e h k ne = ap (λ (v : Loc). v.l1) e
else_same o r (suc (suc zero)) x (suc zero) e h k ne = ap (λ (v : Loc). v.l2) e
else_same o r (suc (suc zero)) x (suc (suc zero)) e h k ne = absurd (ne refl)
else_same o r (suc (suc (suc a))) x c e h k ne = absurd (omega arith)
else_same o r zero x (suc (suc (suc c))) e h k ne = absurd (omega arith)
else_same o r (suc zero) x (suc (suc (suc c))) e h k ne = absurd (omega arith)
else_same o r (suc (suc zero)) x (suc (suc (suc c))) e h k ne = absurd (omega arith)

pub named_cell : (l : Layout) (m : Mesh) (axis : ℕ) (high : Bool) (o r : Loc) (j x : ℕ) (u : List ℕ) → AtSide l axis high j → o ≡ moved r axis x → IsWithin (coarse_extents l axis) u →
    cell_by r.level (flux_span (shaped l m) (child l.dims o j) r axis high 0) (flux_span (shaped l m) (child l.dims o j) r axis high 1) (flux_span (shaped l m) (child l.dims o j) r axis high 2) u
    ≡ cell_in (shaped l m) r (face_cell l axis high j u)
named_cell l m zero high o r j x u s e w =
    let d : ℕ = l.dims in
    loc_same r.level _ _ _ _ _ _
    (last_cell r.l1 (cells_along l 0) (slice_index u 0) high s.fit.cells1.least w.along1)
    (inner_cell (nat_lt 1 d) (cells_along l 1) r.l2 o.l2 (slice_index (halves_of d j) 1) (half_along d 0 (half_of 0 j) 1) (slice_index u 1) (sized2 l s.fit) (else_same o r 0 x 1 e (omega arith) (omega arith) (differ 0 1 (omega arith))) (half_digit d 0 1 j (omega arith) (omega arith) (differ 0 1 (omega arith))) (half_below d 0 (half_of 0 j) 1))
    (inner_cell (nat_lt 2 d) (cells_along l 2) r.l3 o.l3 (slice_index (halves_of d j) 2) (half_along d 0 (half_of 0 j) 2) (slice_index u 2) (sized3 l s.fit) (else_same o r 0 x 2 e (omega arith) (omega arith) (differ 0 2 (omega arith))) (half_digit d 0 2 j (omega arith) (omega arith) (differ 0 2 (omega arith))) (half_below d 0 (half_of 0 j) 2))
named_cell l m (suc zero) high o r j x u s e w =
    let d : ℕ = l.dims in
    loc_same r.level _ _ _ _ _ _
    (inner_cell (nat_lt 0 d) (cells_along l 0) r.l1 o.l1 (slice_index (halves_of d j) 0) (half_along d 1 (half_of 1 j) 0) (slice_index u 0) (sized1 l s.fit) (else_same o r 1 x 0 e (omega arith) (omega arith) (differ' 0 1 (omega arith))) (half_digit d 1 0 j (omega arith) (omega arith) (differ' 0 1 (omega arith))) (half_below d 1 (half_of 1 j) 0))
    (last_cell r.l2 (cells_along l 1) (slice_index u 1) high s.fit.cells2.least w.along2)
    (inner_cell (nat_lt 2 d) (cells_along l 2) r.l3 o.l3 (slice_index (halves_of d j) 2) (half_along d 1 (half_of 1 j) 2) (slice_index u 2) (sized3 l s.fit) (else_same o r 1 x 2 e (omega arith) (omega arith) (differ 1 2 (omega arith))) (half_digit d 1 2 j (omega arith) (omega arith) (differ 1 2 (omega arith))) (half_below d 1 (half_of 1 j) 2))
named_cell l m (suc (suc zero)) high o r j x u s e w =
    let d : ℕ = l.dims in
    loc_same r.level _ _ _ _ _ _
    (inner_cell (nat_lt 0 d) (cells_along l 0) r.l1 o.l1 (slice_index (halves_of d j) 0) (half_along d 2 (half_of 2 j) 0) (slice_index u 0) (sized1 l s.fit) (else_same o r 2 x 0 e (omega arith) (omega arith) (differ' 0 2 (omega arith))) (half_digit d 2 0 j (omega arith) (omega arith) (differ' 0 2 (omega arith))) (half_below d 2 (half_of 2 j) 0))
    (inner_cell (nat_lt 1 d) (cells_along l 1) r.l2 o.l2 (slice_index (halves_of d j) 1) (half_along d 2 (half_of 2 j) 1) (slice_index u 1) (sized2 l s.fit) (else_same o r 2 x 1 e (omega arith) (omega arith) (differ' 1 2 (omega arith))) (half_digit d 2 1 j (omega arith) (omega arith) (differ' 1 2 (omega arith))) (half_below d 2 (half_of 2 j) 1))
    (last_cell r.l3 (cells_along l 2) (slice_index u 2) high s.fit.cells3.least w.along3)
named_cell l m (suc (suc (suc a))) high o r j x u s e w = absurd (omega (arith, s.used, s.fit.most))

-- how many there are
some_half : (used : Bool) (n : ℕ) → Sized used n → 1 ≤ n / cut used
some_half true n s = let w = s.wide refl in omega arith
some_half false n s = subst (λ v. 1 ≤ v / 1) (sym (s.single refl)) (omega arith)

pub named_extents : (l : Layout) (m : Mesh) (axis : ℕ) (high : Bool) (from r : Loc) → IsLayout l.dims l.cells → axis < 3 →
    HasExtents (flux_span (shaped l m) from r axis high 0) (flux_span (shaped l m) from r axis high 1) (flux_span (shaped l m) from r axis high 2) (coarse_extents l axis)
named_extents l m zero high from r s h = record { along1 = refl; along2 = refl; along3 = refl; some1 = omega arith; some2 = some_half (nat_lt 1 l.dims) (cells_along l 1) (sized2 l s) }
named_extents l m (suc zero) high from r s h = record { along1 = refl; along2 = refl; along3 = refl; some1 = some_half (nat_lt 0 l.dims) (cells_along l 0) (sized1 l s); some2 = omega arith }
named_extents l m (suc (suc zero)) high from r s h = record { along1 = refl; along2 = refl; along3 = refl; some1 = some_half (nat_lt 0 l.dims) (cells_along l 0) (sized1 l s); some2 = some_half (nat_lt 1 l.dims) (cells_along l 1) (sized2 l s) }
named_extents l m (suc (suc (suc a))) high from r s h = absurd (omega arith)
