-- The cells of a box in a table, by their indices.
use Rattle.std.proofs.Common.{◌≡◌, ℕ, zero, suc, ◌+◌, ◌*◌, ◌/◌, ◌%◌, ◌<◌, ◌≤◌, List, [], ◌∷◌, ◌++◌, map, slice_index, refl, arith, ap, sym, ◌∙◌}
use Rattle.std.specs.List.{flat_map, range_with_len}
use Rattle.std.proofs.lemmas.Grind.{flat_map-append}
use Rattle.std.proofs.lemmas.List.Concat.{flat_map_single}
use Rattle.std.proofs.lemmas.List.FromFn.{get_or-map-range_with_len}
use Rattle.std.proofs.lemmas.Nat.{div-mul-add, mod-mul-add, mod_below}
use Rattle.std.proofs.Math.Nat.{div-add-mod'}
use Rattle.morton_order.specs.declared.space.Loc.{Loc}
use Rattle.mesh_rules.specs.Sums.{table}
use Rattle.mesh_rules.specs.Regions.{Span, cells_in}
use Rattle.block_layout.specs.Indices.{IsWithin, count_of, index_of, number_of}
use Rattle.block_layout.proofs.Boxes.{index_below, number_bound, number_index}

-- ranges that give the same
flat_same : {X : Type 0} (f g : ℕ → List X) (a c n : ℕ) → ((i : ℕ) → i < n → f (a + i) ≡ g (c + i)) → flat_map f (range_with_len a n) ≡ flat_map g (range_with_len c n)
flat_same f g a c zero h = refl
flat_same f g a c (suc n) h =
    let e : f a ≡ g c = ap f (omega arith) ∙ h 0 (omega arith) ∙ ap g (omega arith) in
    let r = flat_same f g (a + 1) (c + 1) n (λ i l. ap f (omega arith) ∙ h (i + 1) (omega arith) ∙ ap g (omega arith)) in
    ap (λ v. v ++ flat_map f (range_with_len (a + 1) n)) e ∙ ap (λ v. g c ++ v) r

-- a range in two parts
range_parts : (a n m : ℕ) → range_with_len a (n + m) ≡ range_with_len a n ++ range_with_len (a + n) m
range_parts a zero m = let e : 0 + m ≡ m = omega arith in let f : a ≡ a + 0 = omega arith in ap (range_with_len a) e ∙ ap (λ v. range_with_len v m) f
range_parts a (suc n) m =
    let e : suc n + m ≡ suc (n + m) = omega arith in
    let f : a + 1 + n ≡ a + suc n = omega arith in
    ap (range_with_len a) e ∙ ap (λ v. a ∷ v) (range_parts (a + 1) n m ∙ ap (λ v. range_with_len (a + 1) n ++ range_with_len v m) f)

-- rows after one another, as one range
rows : {X : Type 0} (F : ℕ → ℕ → List X) (a n b m : ℕ) → 1 ≤ n →
    flat_map (λ y. flat_map (λ x. F x y) (range_with_len a n)) (range_with_len b m) ≡ flat_map (λ k. F (a + k % n) (k / n)) (range_with_len (b * n) (m * n))
rows F a n b zero some = let e : 0 * n ≡ 0 = omega arith in ap (λ v. flat_map (λ k. F (a + k % n) (k / n)) (range_with_len (b * n) v)) (sym e)
rows F a n b (suc m) some =
    let G : ℕ → List _ = λ k. F (a + k % n) (k / n) in
    let e : suc m * n ≡ n + m * n = omega arith in
    let f : (b + 1) * n ≡ b * n + n = omega arith in
    let row : flat_map (λ x. F x b) (range_with_len a n) ≡ flat_map G (range_with_len (b * n) n) =
    flat_same (λ x. F x b) G a (b * n) n (λ i l. ap (λ v. F (a + v) b) (sym (mod-mul-add b n i l)) ∙ ap (λ v. F (a + (b * n + i) % n) v) (sym (div-mul-add b n i l))) in
    ap (λ v. v ++ flat_map (λ y. flat_map (λ x. F x y) (range_with_len a n)) (range_with_len (b + 1) m)) row
    ∙ ap (λ v. flat_map G (range_with_len (b * n) n) ++ v) (rows F a n (b + 1) m some ∙ ap (λ v. flat_map G (range_with_len v (m * n))) f)
    ∙ sym (flat_map-append G (range_with_len (b * n) n) (range_with_len (b * n + n) (m * n)))
    ∙ ap (flat_map G) (sym (range_parts (b * n) n (m * n)))
    ∙ ap (λ v. flat_map G (range_with_len (b * n) v)) (sym e)

quotient : (b n i : ℕ) → 1 ≤ n → (b * n + i) / n ≡ b + i / n
quotient b n i some =
    let d : i / n * n + i % n ≡ i = div-add-mod' i n in
    let e : b * n + i ≡ (b + i / n) * n + i % n = omega arith in
    ap (λ v. v / n) e ∙ div-mul-add (b + i / n) n (i % n) (mod_below i n some)

rest : (b n i : ℕ) → 1 ≤ n → (b * n + i) % n ≡ i % n
rest b n i some =
    let d : i / n * n + i % n ≡ i = div-add-mod' i n in
    let e : b * n + i ≡ (b + i / n) * n + i % n = omega arith in
    ap (λ v. v % n) e ∙ mod-mul-add (b + i / n) n (i % n) (mod_below i n some)

rows_from : {X : Type 0} (F : ℕ → ℕ → List X) (a n b m : ℕ) → 1 ≤ n →
    flat_map (λ y. flat_map (λ x. F x y) (range_with_len a n)) (range_with_len b m) ≡ flat_map (λ k. F (a + k % n) (b + k / n)) (range_with_len 0 (m * n))
rows_from F a n b m some = rows F a n b m some
    ∙ flat_same (λ k. F (a + k % n) (k / n)) (λ k. F (a + k % n) (b + k / n)) (b * n) 0 (m * n)
    (λ i l. let z : 0 + i ≡ i = omega arith in
    ap (λ v. F (a + v) ((b * n + i) / n)) (rest b n i some) ∙ ap (λ v. F (a + i % n) v) (quotient b n i some) ∙ ap (λ v. F (a + v % n) (b + v / n)) (sym z))

-- the cell of a box at an index
abbrev pub cell_by : ℕ → Span → Span → Span → List ℕ → Loc
cell_by level s1 s2 s3 i = record { level = level; l1 = s1.first + slice_index i 0; l2 = s2.first + slice_index i 1; l3 = s3.first + slice_index i 2 }

-- a box has cells, as many along each axis as extents say
pub record HasExtents (s1 s2 s3 : Span) (e : List ℕ) : Type 0 where
  pub along1 : s1.len ≡ slice_index e 0
  pub along2 : s2.len ≡ slice_index e 1
  pub along3 : s3.len ≡ slice_index e 2
  pub some1 : 1 ≤ slice_index e 0
  pub some2 : 1 ≤ slice_index e 1

pub cells_are : (level : ℕ) (s1 s2 s3 : Span) (e : List ℕ) → HasExtents s1 s2 s3 e → cells_in level s1 s2 s3 ≡ table (count_of e) (λ k. cell_by level s1 s2 s3 (index_of e k))
cells_are level s1 s2 s3 e h =
    let n1 : ℕ = slice_index e 0 in
    let n2 : ℕ = slice_index e 1 in
    let n3 : ℕ = slice_index e 2 in
    let C : ℕ → ℕ → ℕ → Loc = λ x y z. record { level = level; l1 = x; l2 = y; l3 = z } in
    let lens : cells_in level s1 s2 s3 ≡ flat_map (λ z. flat_map (λ y. map (λ x. C x y z) (range_with_len s1.first n1)) (range_with_len s2.first n2)) (range_with_len s3.first n3) =
    ap (λ v. flat_map (λ z. flat_map (λ y. map (λ x. C x y z) (range_with_len s1.first v)) (range_with_len s2.first s2.len)) (range_with_len s3.first s3.len)) h.along1
    ∙ ap (λ v. flat_map (λ z. flat_map (λ y. map (λ x. C x y z) (range_with_len s1.first n1)) (range_with_len s2.first v)) (range_with_len s3.first s3.len)) h.along2
    ∙ ap (λ v. flat_map (λ z. flat_map (λ y. map (λ x. C x y z) (range_with_len s1.first n1)) (range_with_len s2.first n2)) (range_with_len s3.first v)) h.along3 in
    let planes = rows_from (λ y z. map (λ x. C x y z) (range_with_len s1.first n1)) s2.first n2 s3.first n3 h.some2 in
    let singles : flat_map (λ k. map (λ x. C x (s2.first + k % n2) (s3.first + k / n2)) (range_with_len s1.first n1)) (range_with_len 0 (n3 * n2)) ≡ flat_map (λ k. flat_map (λ x. C x (s2.first + k % n2) (s3.first + k / n2) ∷ []) (range_with_len s1.first n1)) (range_with_len 0 (n3 * n2)) =
    flat_same (λ k. map (λ x. C x (s2.first + k % n2) (s3.first + k / n2)) (range_with_len s1.first n1)) (λ k. flat_map (λ x. C x (s2.first + k % n2) (s3.first + k / n2) ∷ []) (range_with_len s1.first n1)) 0 0 (n3 * n2)
    (λ i l. sym (flat_map_single (λ x. C x (s2.first + (0 + i) % n2) (s3.first + (0 + i) / n2)) (range_with_len s1.first n1))) in
    let all = rows_from (λ x k. C x (s2.first + k % n2) (s3.first + k / n2) ∷ []) s1.first n1 0 (n3 * n2) h.some1 in
    let zeros : flat_map (λ k. C (s1.first + k % n1) (s2.first + (0 + k / n1) % n2) (s3.first + (0 + k / n1) / n2) ∷ []) (range_with_len 0 (n3 * n2 * n1)) ≡ flat_map (λ k. cell_by level s1 s2 s3 (index_of e k) ∷ []) (range_with_len 0 (n3 * n2 * n1)) =
    flat_same (λ k. C (s1.first + k % n1) (s2.first + (0 + k / n1) % n2) (s3.first + (0 + k / n1) / n2) ∷ []) (λ k. cell_by level s1 s2 s3 (index_of e k) ∷ []) 0 0 (n3 * n2 * n1)
    (λ i l. let z : 0 + (0 + i) / n1 ≡ (0 + i) / n1 = omega arith in ap (λ v. C (s1.first + (0 + i) % n1) (s2.first + v % n2) (s3.first + v / n2) ∷ []) z) in
    let count : n3 * n2 * n1 ≡ count_of e = turned n1 n2 n3 in
    lens ∙ planes ∙ singles ∙ all ∙ zeros
    ∙ flat_map_single (λ k. cell_by level s1 s2 s3 (index_of e k)) (range_with_len 0 (n3 * n2 * n1))
    ∙ ap (λ v. map (λ k. cell_by level s1 s2 s3 (index_of e k)) (range_with_len 0 v)) count
  where
    turned : (a b c : ℕ) → c * b * a ≡ a * b * c
    turned a b c = omega arith

-- tables
pub map_table : {X Y : Type 0} (f : X → Y) (g : ℕ → X) (xs : List ℕ) → map f (map g xs) ≡ map (λ k. f (g k)) xs
map_table f g [] = refl
map_table f g (x ∷ xs) = ap (λ v. f (g x) ∷ v) (map_table f g xs)

range_same : {X : Type 0} (f g : ℕ → X) (a n : ℕ) → ((i : ℕ) → i < n → f (a + i) ≡ g (a + i)) → map f (range_with_len a n) ≡ map g (range_with_len a n)
range_same f g a zero h = refl
range_same f g a (suc n) h =
    let e : f a ≡ g a = ap f (omega arith) ∙ h 0 (omega arith) ∙ ap g (omega arith) in
    ap (λ v. v ∷ map f (range_with_len (a + 1) n)) e
    ∙ ap (λ v. g a ∷ v) (range_same f g (a + 1) n (λ i l. ap f (omega arith) ∙ h (i + 1) (omega arith) ∙ ap g (omega arith)))

pub table_same : {X : Type 0} (n : ℕ) (f g : ℕ → X) → ((k : ℕ) → k < n → f k ≡ g k) → table n f ≡ table n g
table_same n f g h = range_same f g 0 n (λ i l. ap f (omega arith) ∙ h i l ∙ ap g (omega arith))

pub table_at : (n : ℕ) (f : ℕ → ℕ) (k : ℕ) → k < n → slice_index (table n f) k ≡ f k
table_at n f k h = get_or-map-range_with_len f 0 n k k 0 h (omega arith)

-- a list by index is what each cell of a box gives
pub box_is : (level : ℕ) (s1 s2 s3 : Span) (e : List ℕ) (g : Loc → ℕ) (p : List ℕ → ℕ) → HasExtents s1 s2 s3 e → ((i : List ℕ) → IsWithin e i → p i ≡ g (cell_by level s1 s2 s3 i)) →
    table (count_of e) (λ k. p (index_of e k)) ≡ map g (cells_in level s1 s2 s3)
box_is level s1 s2 s3 e g p h same =
    table_same (count_of e) (λ k. p (index_of e k)) (λ k. g (cell_by level s1 s2 s3 (index_of e k))) (λ k l. same (index_of e k) (index_below e k l))
    ∙ sym (map_table g (λ k. cell_by level s1 s2 s3 (index_of e k)) (range_with_len 0 (count_of e)))
    ∙ ap (map g) (sym (cells_are level s1 s2 s3 e h))

-- what stands there at an index
pub at_box : (level : ℕ) (s1 s2 s3 : Span) (e : List ℕ) (g : Loc → ℕ) (i : List ℕ) → HasExtents s1 s2 s3 e → IsWithin e i → slice_index (map g (cells_in level s1 s2 s3)) (number_of e i) ≡ g (cell_by level s1 s2 s3 i)
at_box level s1 s2 s3 e g i h w =
    let is = number_index e i w in
    let k : ℕ = number_of e i in
    let C : ℕ → ℕ → ℕ → Loc = λ x y z. record { level = level; l1 = s1.first + x; l2 = s2.first + y; l3 = s3.first + z } in
    ap (λ v. slice_index v k) (ap (map g) (cells_are level s1 s2 s3 e h) ∙ map_table g (λ k. cell_by level s1 s2 s3 (index_of e k)) (range_with_len 0 (count_of e)))
    ∙ table_at (count_of e) (λ k. g (cell_by level s1 s2 s3 (index_of e k))) k (number_bound e i w)
    ∙ ap (λ v. g (C v (slice_index (index_of e k) 1) (slice_index (index_of e k) 2))) is.along1
    ∙ ap (λ v. g (C (slice_index i 0) v (slice_index (index_of e k) 2))) is.along2
    ∙ ap (λ v. g (C (slice_index i 0) (slice_index i 1) v)) is.along3
