-- The neighbours of a location are what touches it.
use Rattle.std.proofs.Common.{◌≡◌, ◌==◌, ◌⊎◌, inl, inr, ℕ, zero, suc, ◌+◌, ◌*◌, ◌/◌, ◌%◌, ◌<◌, ◌≤◌, Bool, true, false, cond, nat_lt, List, [], ◌∷◌, Option, Some, None, All, Contains, refl, arith, ap, subst, sym, ◌∙◌}
use Rattle.std.specs.List.{cons_option, filter_map, list_any, range_with_len}
use Rattle.std.proofs.lemmas.Bool.Decides.{nat_tests}
use Rattle.std.proofs.lemmas.Bool.{cases_eq, false≢true, ne_eqb}
use Rattle.morton_order.specs.declared.space.Loc.{Loc}
use Rattle.morton_order.specs.declared.space.Shape.{Shape}
use Rattle.morton_order.specs.Space.{same_loc, IsIn, IsShape, axis_of, blocks_along, wraps}
use Rattle.morton_order.specs.Neighbours.{AreNeighbours, NeighboursAreExact, at_coordinates, at_offset, at_offsets, is_near, neighbour, neighbours, step}
use Rattle.morton_order.proofs.Lattice.{few_along}
use Rattle.morton_order.proofs.Any.{any-filter_map, any_range-found, any_range-has, or_cases, passes, passes-is}

-- a step leads to what is near
pub step_up : (n : ℕ) (wrap : Bool) (x y : ℕ) → x < n → step n wrap true x ≡ Some y → (is_near n wrap x y ≡ true) × (y < n)
step_up n wrap x y h e = grind (arith, nat_tests)

pub step_down : (n : ℕ) (wrap : Bool) (x y : ℕ) → x < n → step n wrap false x ≡ Some y → (is_near n wrap x y ≡ true) × (y < n)
step_down n wrap x y h e = grind (arith, nat_tests)

-- what is near is the place itself or a step away
near_step : (n : ℕ) (wrap : Bool) (x y : ℕ) → x < n → y < n → is_near n wrap x y ≡ true → (y ≡ x) ⊎ ((step n wrap true x ≡ Some y) ⊎ (step n wrap false x ≡ Some y))
near_step n wrap x y h k e = grind (arith, nat_tests)

-- to be near is mutual
pub near_back : (n : ℕ) (wrap : Bool) (x y : ℕ) → is_near n wrap x y ≡ true → is_near n wrap y x ≡ true
near_back n wrap x y e = grind (arith, nat_tests)

-- each place is near itself
pub near_self : (n : ℕ) (wrap : Bool) (x : ℕ) → is_near n wrap x x ≡ true
near_self n wrap x = grind (arith, nat_tests)

-- a choice that is there is the first
cond_some : (b : Bool) (o : Option ℕ) (y : ℕ) → cond b o None ≡ Some y → o ≡ Some y
cond_some true o y h = h
cond_some false o y h = cc

-- an offset leads to what is near
offset_near : (s : Shape) (l : Loc) (a o y : ℕ) → axis_of l a < blocks_along s a l.level → at_offset s l a o ≡ Some y → (is_near (blocks_along s a l.level) (wraps s a) (axis_of l a) y ≡ true) × (y < blocks_along s a l.level)
offset_near s l a zero y h e = step_down (blocks_along s a l.level) (wraps s a) (axis_of l a) y h (cond_some (nat_lt a s.dims) (step (blocks_along s a l.level) (wraps s a) false (axis_of l a)) y e)
offset_near s l a (suc zero) y h e = let same : axis_of l a ≡ y = cc in
    (subst (λ v. is_near (blocks_along s a l.level) (wraps s a) (axis_of l a) v ≡ true) same (near_self (blocks_along s a l.level) (wraps s a) (axis_of l a)), subst (λ v. v < blocks_along s a l.level) same h)
offset_near s l a (suc (suc o)) y h e = step_up (blocks_along s a l.level) (wraps s a) (axis_of l a) y h (cond_some (nat_lt a s.dims) (step (blocks_along s a l.level) (wraps s a) true (axis_of l a)) y e)

-- what is near along an axis is at one of the three offsets, and at the middle one only where it is the same
record IsOffset (s : Shape) (l : Loc) (a y o : ℕ) : Type 0 where
  few : o < 3
  at : at_offset s l a o ≡ Some y
  middle : o ≡ 1 → y ≡ axis_of l a

used_offset : (s : Shape) (l : Loc) (a y : ℕ) (used : Bool) → nat_lt a s.dims ≡ used → blocks_along s a l.level ≤ cond used (blocks_along s a l.level) 1 → axis_of l a < blocks_along s a l.level → y < blocks_along s a l.level → is_near (blocks_along s a l.level) (wraps s a) (axis_of l a) y ≡ true → (o : ℕ) × IsOffset s l a y o
used_offset s l a y true e few h k near = elim (near_step (blocks_along s a l.level) (wraps s a) (axis_of l a) y h k near) [
  | inl same ↦ (1, record { few = omega arith; at = ap Some (sym same); middle = λ _. same })
  | inr other ↦ elim other [
    | inl up ↦ (2, record { few = omega arith; at = ap (λ (b : Bool). cond b (step (blocks_along s a l.level) (wraps s a) true (axis_of l a)) None) e ∙ up; middle = λ one. absurd (omega arith) })
    | inr down ↦ (0, record { few = omega arith; at = ap (λ (b : Bool). cond b (step (blocks_along s a l.level) (wraps s a) false (axis_of l a)) None) e ∙ down; middle = λ one. absurd (omega arith) })
  ]
]
used_offset s l a y false e few h k near = let same : y ≡ axis_of l a = omega arith in (1, record { few = omega arith; at = ap Some (sym same); middle = λ _. same })

-- what is near along an axis is at an offset
near_offset : (s : Shape) → IsShape s → (l : Loc) (a y : ℕ) → a < 3 → axis_of l a < blocks_along s a l.level → y < blocks_along s a l.level → is_near (blocks_along s a l.level) (wraps s a) (axis_of l a) y ≡ true → (o : ℕ) × IsOffset s l a y o
near_offset s shape l a y axis h k near = used_offset s l a y (nat_lt a s.dims) refl (few_along s shape a l.level axis) h k near

-- a location of three coordinates that are there has them
record HasCoordinates (level : ℕ) (x y z : Option ℕ) (m : Loc) : Type 0 where
  at_level : m.level ≡ level
  at1 : x ≡ Some m.l1
  at2 : y ≡ Some m.l2
  at3 : z ≡ Some m.l3

coordinates_of : (level : ℕ) (x y z : Option ℕ) (m : Loc) → at_coordinates level x y z ≡ Some m → HasCoordinates level x y z m
coordinates_of level (Some x) (Some y) (Some z) m h = let e : record { level = level; l1 = x; l2 = y; l3 = z } ≡ m = cc in
    record { at_level = sym (ap (λ (v : Loc). v.level) e); at1 = ap (λ (v : Loc). Some v.l1) e; at2 = ap (λ (v : Loc). Some v.l2) e; at3 = ap (λ (v : Loc). Some v.l3) e }
coordinates_of level (Some x) (Some y) None m h = cc
coordinates_of level (Some x) None z m h = cc
coordinates_of level None y z m h = cc

-- a neighbour lies in the domain and touches
pub record Touches (s : Shape) (l m : Loc) : Type 0 where
  pub inside : IsIn s m
  pub touching : AreNeighbours s l m

offsets_touch : (s : Shape) (l m : Loc) (k : ℕ) → IsIn s l → at_offsets s l k ≡ Some m → Touches s l m
offsets_touch s l m k inside h =
    let c = coordinates_of l.level (at_offset s l 0 (k % 3)) (at_offset s l 1 (k / 3 % 3)) (at_offset s l 2 (k / 9)) m h in
    let n1 = offset_near s l 0 (k % 3) m.l1 inside.within1 c.at1 in
    let n2 = offset_near s l 1 (k / 3 % 3) m.l2 inside.within2 c.at2 in
    let n3 = offset_near s l 2 (k / 9) m.l3 inside.within3 c.at3 in
    record {
      inside = record {
        level = subst (λ v. v ≤ 10) (sym c.at_level) inside.level;
        within1 = subst (λ v. m.l1 < blocks_along s 0 v) (sym c.at_level) n1.1;
        within2 = subst (λ v. m.l2 < blocks_along s 1 v) (sym c.at_level) n2.1;
        within3 = subst (λ v. m.l3 < blocks_along s 2 v) (sym c.at_level) n3.1;
      };
      touching = record { level = c.at_level; near1 = n1.0; near2 = n2.0; near3 = n3.0 };
    }

-- a choice that is there is the second
cond_else : (b : Bool) (o : Option Loc) (m : Loc) → cond b None o ≡ Some m → o ≡ Some m
cond_else false o m h = h
cond_else true o m h = cc

-- what passes a test among the neighbours touches
pub neighbours-found : (s : Shape) (l : Loc) (p : Loc → Bool) → IsIn s l → list_any p (neighbours s l) ≡ true → (m : Loc) × Touches s l m × (p m ≡ true)
neighbours-found s l p inside h =
    let (k, low, high, at) = any_range-found (λ j. passes p (neighbour s l j)) 0 27 (sym (any-filter_map p (neighbour s l) (range_with_len 0 27)) ∙ h) in
    let (m, is, pass) = passes-is p (neighbour s l k) at in
    (m, offsets_touch s l m k inside (cond_else (k == 13) (at_offsets s l k) m is), pass)

-- a location is its level and its coordinates
whole_of : (l m : Loc) (x y z : Option ℕ) → m.level ≡ l.level → x ≡ Some m.l1 → y ≡ Some m.l2 → z ≡ Some m.l3 → at_coordinates l.level x y z ≡ Some m
whole_of l m x y z level e1 e2 e3 =
    ap (λ (v : Option ℕ). at_coordinates l.level v y z) e1
    ∙ ap (λ (v : Option ℕ). at_coordinates l.level (Some m.l1) v z) e2
    ∙ ap (λ (v : Option ℕ). at_coordinates l.level (Some m.l1) (Some m.l2) v) e3
    ∙ ap (λ v. Some (place v m.l1 m.l2 m.l3)) (sym level)
  where
    place : ℕ → ℕ → ℕ → ℕ → Loc
    place level x y z = record { level = level; l1 = x; l2 = y; l3 = z }

pub same_as : (l m : Loc) → m.level ≡ l.level → m.l1 ≡ l.l1 → m.l2 ≡ l.l2 → m.l3 ≡ l.l3 → m ≡ l
same_as l m level e1 e2 e3 = ap (λ v. place v m.l1 m.l2 m.l3) level ∙ ap (λ v. place l.level v m.l2 m.l3) e1 ∙ ap (λ v. place l.level l.l1 v m.l3) e2 ∙ ap (λ v. place l.level l.l1 l.l2 v) e3
  where
    place : ℕ → ℕ → ℕ → ℕ → Loc
    place level x y z = record { level = level; l1 = x; l2 = y; l3 = z }

-- what touches a location is it, or one of its neighbours
pub neighbours-has : (s : Shape) (l m : Loc) (p : Loc → Bool) → IsShape s → IsIn s l → IsIn s m → AreNeighbours s l m → p m ≡ true → (p l ≡ true) ⊎ (list_any p (neighbours s l) ≡ true)
neighbours-has s l m p shape inside there near pass =
    let w1 : m.l1 < blocks_along s 0 l.level = subst (λ v. m.l1 < blocks_along s 0 v) near.level there.within1 in
    let w2 : m.l2 < blocks_along s 1 l.level = subst (λ v. m.l2 < blocks_along s 1 v) near.level there.within2 in
    let w3 : m.l3 < blocks_along s 2 l.level = subst (λ v. m.l3 < blocks_along s 2 v) near.level there.within3 in
    let (o1, is1) = near_offset s shape l 0 m.l1 (omega arith) inside.within1 w1 near.near1 in
    let (o2, is2) = near_offset s shape l 1 m.l2 (omega arith) inside.within2 w2 near.near2 in
    let (o3, is3) = near_offset s shape l 2 m.l3 (omega arith) inside.within3 w3 near.near3 in
    let k : ℕ = o1 + 3 * o2 + 9 * o3 in
    let f1 = is1.few in
    let f2 = is2.few in
    let f3 = is3.few in
    let small : k < 27 = omega arith in
    let d1 : k % 3 ≡ o1 = omega arith in
    let d2 : k / 3 % 3 ≡ o2 = omega arith in
    let d3 : k / 9 ≡ o3 = omega arith in
    let c1 : at_offset s l 0 (k % 3) ≡ Some m.l1 = ap (at_offset s l 0) d1 ∙ is1.at in
    let c2 : at_offset s l 1 (k / 3 % 3) ≡ Some m.l2 = ap (at_offset s l 1) d2 ∙ is2.at in
    let c3 : at_offset s l 2 (k / 9) ≡ Some m.l3 = ap (at_offset s l 2) d3 ∙ is3.at in
    let whole : at_offsets s l k ≡ Some m = whole_of l m (at_offset s l 0 (k % 3)) (at_offset s l 1 (k / 3 % 3)) (at_offset s l 2 (k / 9)) near.level c1 c2 c3 in
    elim (cases_eq k 13) [
      | inl middle ↦ inl (subst (λ (v : Loc). p v ≡ true) (same_as l m near.level (is1.middle (omega arith)) (is2.middle (omega arith)) (is3.middle (omega arith))) pass)
      | inr other ↦
          let test : (k == 13) ≡ false = ne_eqb k 13 other in
          let is : neighbour s l k ≡ Some m = ap (λ (b : Bool). cond b None (at_offsets s l k)) test ∙ whole in
          inr (any-filter_map p (neighbour s l) (range_with_len 0 27) ∙ any_range-has (λ j. passes p (neighbour s l j)) 0 27 k (omega arith) (omega arith) (ap (passes p) is ∙ pass))
    ]

-- to touch is mutual
pub touching_back : (s : Shape) (l m : Loc) → AreNeighbours s l m → AreNeighbours s m l
touching_back s l m h = record {
  level = sym h.level;
  near1 = subst (λ v. is_near (blocks_along s 0 v) (wraps s 0) m.l1 l.l1 ≡ true) (sym h.level) (near_back (blocks_along s 0 l.level) (wraps s 0) l.l1 m.l1 h.near1);
  near2 = subst (λ v. is_near (blocks_along s 1 v) (wraps s 1) m.l2 l.l2 ≡ true) (sym h.level) (near_back (blocks_along s 1 l.level) (wraps s 1) l.l2 m.l2 h.near2);
  near3 = subst (λ v. is_near (blocks_along s 2 v) (wraps s 2) m.l3 l.l3 ≡ true) (sym h.level) (near_back (blocks_along s 2 l.level) (wraps s 2) l.l3 m.l3 h.near3);
}

-- each location touches itself
pub touching_self : (s : Shape) (l : Loc) → AreNeighbours s l l
touching_self s l = record { level = refl; near1 = near_self (blocks_along s 0 l.level) (wraps s 0) l.l1; near2 = near_self (blocks_along s 1 l.level) (wraps s 1) l.l2; near3 = near_self (blocks_along s 2 l.level) (wraps s 2) l.l3 }

-- one item and the rest
all-cons : {X : Type 0} (P : X → Type 0) (x : X) (xs : List X) → P x → All P xs → All P (x ∷ xs)
all-cons P x xs h rest zero d small = h
all-cons P x xs h rest (suc k) d small = rest k d (omega arith)

-- what is there and the rest
all-cons_option : {X : Type 0} (P : X → Type 0) (o : Option X) (xs : List X) → ((x : X) → o ≡ Some x → P x) → All P xs → All P (cons_option o xs)
all-cons_option P None xs h rest = rest
all-cons_option P (Some x) xs h rest = all-cons P x xs (h x refl) rest

-- what all numbers give
all-filter_map : {X Y : Type 0} (P : Y → Type 0) (h : X → Option Y) → ((x : X) (y : Y) → h x ≡ Some y → P y) → (xs : List X) → All P (filter_map h xs)
all-filter_map P h each [] = λ k d small. absurd (omega arith)
all-filter_map P h each (x ∷ xs) = all-cons_option P (h x) (filter_map h xs) (each x) (all-filter_map P h each xs)

-- the parts of two locations that pass are equal
equal_parts : (l m : Loc) → same_loc l m ≡ true → (l.level ≡ m.level) × (l.l1 ≡ m.l1) × (l.l2 ≡ m.l2) × (l.l3 ≡ m.l3)
equal_parts l m h = grind (arith, nat_tests)

-- a location that passes the test of another is that one
pub same_loc-is : (l m : Loc) → same_loc l m ≡ true → l ≡ m
same_loc-is l m h = same_as m l (equal_parts l m h).0 (equal_parts l m h).1 (equal_parts l m h).2 (equal_parts l m h).3

-- a list with a location that passes contains it
contains_from_any : (m : Loc) (xs : List Loc) → list_any (same_loc m) xs ≡ true → Contains xs m
contains_from_any m [] h = absurd (false≢true h)
contains_from_any m (x ∷ xs) h = elim (or_cases (same_loc m x) (list_any (same_loc m) xs) h) [
  | inl same ↦ (0, omega arith, sym (same_loc-is m x same))
  | inr later ↦ let (k, small, at) = contains_from_any m xs later in (suc k, omega arith, at)
]

-- a location passes its own test
pub same_loc-self : (l : Loc) → same_loc l l ≡ true
same_loc-self l = grind (arith, nat_tests)

pub neighbours_exact : NeighboursAreExact
neighbours_exact s l shape inside = (
  all-filter_map (λ m. IsIn s m × AreNeighbours s l m) (neighbour s l) (λ k m is. let t = offsets_touch s l m k inside (cond_else (k == 13) (at_offsets s l k) m is) in (t.inside, t.touching)) (range_with_len 0 27),
  λ m there near. elim (neighbours-has s l m (same_loc m) shape inside there near (same_loc-self m)) [
    | inl same ↦ inl (same_loc-is m l same)
    | inr among ↦ inr (contains_from_any m (neighbours s l) among)
  ],
)
