-- What stays as it was where ghosts are written.
use Rattle.std.proofs.Common.{◌≡◌, ◌==◌, ◌⊎◌, inl, inr, ℕ, ◌+◌, ◌-◌, ◌*◌, ◌/◌, ◌%◌, ◌^◌, ◌<◌, ◌≤◌, Bool, true, false, cond, nat_lt, Some, List, refl, arith, ap, subst, sym, ◌∙◌, slice_index}
use Rattle.std.proofs.lemmas.Bool.{cases_eq}
use Rattle.std.proofs.lemmas.Nat.{div-mul-add}
use Rattle.morton_order.specs.declared.space.Loc.{Loc}
use Rattle.morton_order.specs.Space.{axis_of, child, child_number, factor}
use Rattle.block_layout.specs.declared.layout.Layout.{Layout}
use Rattle.block_layout.specs.Indices.{IsWithin, added, index_of, with_along}
use Rattle.block_layout.specs.Layouts.{ghost_layers, place, width, widths}
use Rattle.block_layout.specs.Regions.{Region, beside_part, ghosts, half_along, interior, part_extent, part_low}
use Rattle.block_layout.proofs.Boxes.{number_index}
use Rattle.block_geometry.specs.Blocks.{FieldBlock, ghost_along, ghost_place}
use Rattle.block_geometry.specs.Contents.{SeesBeyond}
use Rattle.block_geometry.proofs.Cells.{within_along}
use Rattle.block_geometry.proofs.Rows.{two_layers}
use Rattle.block_geometry.proofs.Seen.{three_axes}
use Rattle.block_regions.specs.Written.{StaysOffRegion, place_in}
use Rattle.ghost_laws.specs.Refined.{halves_of}
use Rattle.ghost_laws.proofs.Sizes.{Sized, sized}
use Rattle.ghost_buffers.specs.declared.part.How.{How}
use Rattle.ghost_buffers.specs.declared.part.How.TheVariants.{Same, Finer, Coarser}
use Rattle.ghost_buffers.specs.Ghosts.{received}
use Rattle.letter_laws.specs.Sides.{IsSide, side_part}
use Rattle.letter_laws.specs.Stays.{InteriorStays, PartsStay, SidesStay}
use Rattle.letter_laws.proofs.Along.{added_at, each_axis, ghosts_low, interior_at, split, with_at}
use Rattle.letter_laws.proofs.FinerGhosts.{covers_half, lies_off}
use Rattle.letter_laws.proofs.FinerHalves.{number_halves}
use Rattle.letter_laws.proofs.FinerLevel.{below_is, half_row}
use Rattle.letter_laws.proofs.Halves.{part_below}
use Rattle.letter_laws.proofs.Spans.{same_half, size_at}

-- a number along an axis lies in the ghost layers of a side
abbrev pub IsBeyond : Bool → ℕ → ℕ → Type 0
IsBeyond true n x = n + 2 ≤ x
IsBeyond false n x = x < 2

-- an index of the block with its ghosts that lies there
pub record IsGhost (l : Layout) (axis : ℕ) (high : Bool) (u : List ℕ) : Type 0 where
  pub within : (k : ℕ) → k < 3 → slice_index u k < width l k
  pub beyond : IsBeyond high (slice_index l.cells axis) (slice_index u axis)

-- a ghost in the layers beyond a side
ghost_room : (n g x : ℕ) (high : Bool) → g ≡ 2 → x < 2 → cond high (n + 2) 0 + x < n + 2 * g
ghost_room n g x true e h = omega arith
ghost_room n g x false e h = omega arith

ghost_beyond : (n x : ℕ) (high : Bool) → x < 2 → IsBeyond high n (cond high (n + 2) 0 + x)
ghost_beyond n x true h = omega arith
ghost_beyond n x false h = omega arith

whole_room : (l : Layout) (axis : ℕ) (high : Bool) (i : List ℕ) (k : ℕ) → axis < l.dims → axis < 3 → k < 3 → IsWithin (with_along axis 2 l.cells) i →
    cond (k == axis) (cond high (slice_index l.cells axis + 2) 0) (ghost_layers l k) + slice_index i k < width l k
whole_room l axis high i k used h g w =
    let below : slice_index i k < cond (k == axis) 2 (slice_index l.cells k) = subst (λ v. slice_index i k < v) (with_at axis 2 k l.cells h g) (within_along (with_along axis 2 l.cells) i k w g) in
    split k axis (λ (t : Bool). slice_index i k < cond t 2 (slice_index l.cells k) → cond t (cond high (slice_index l.cells axis + 2) 0) (ghost_layers l k) + slice_index i k < slice_index l.cells k + 2 * ghost_layers l k)
    (λ e c. subst (λ v. cond high (slice_index l.cells axis + 2) 0 + slice_index i k < slice_index l.cells v + 2 * ghost_layers l k) (sym e) (ghost_room (slice_index l.cells axis) (ghost_layers l k) (slice_index i k) high (two_layers l k (subst (λ v. v < l.dims) (sym e) used)) c))
    (λ d c. omega (arith, c))
    below

axis_self : (axis : ℕ) (P : Bool → Type 0) → P true → P (axis == axis)
axis_self axis P h = split axis axis P (λ e. h) (λ d. absurd (d refl))

ghosts_index : (l : Layout) (axis : ℕ) (high : Bool) (i : List ℕ) → axis < l.dims → axis < 3 → IsWithin (with_along axis 2 l.cells) i → IsGhost l axis high (added (ghosts l axis high).low i)
ghosts_index l axis high i used h w =
    let at : (k : ℕ) → k < 3 → slice_index (added (ghosts l axis high).low i) k ≡ cond (k == axis) (cond high (slice_index l.cells axis + 2) 0) (ghost_layers l k) + slice_index i k =
    λ k g. added_at (ghosts l axis high).low i k g ∙ ap (λ v. v + slice_index i k) (ghosts_low l axis high k h g) in
    let few : slice_index i axis < 2 = axis_self axis (λ (t : Bool). slice_index i axis < cond t 2 (slice_index l.cells axis) → slice_index i axis < 2) (λ c. c) (subst (λ v. slice_index i axis < v) (with_at axis 2 axis l.cells h h) (within_along (with_along axis 2 l.cells) i axis w h)) in
    record {
      within = λ k g. subst (λ v. v < width l k) (sym (at k g)) (whole_room l axis high i k used h g w);
      beyond = subst (λ v. IsBeyond high (slice_index l.cells axis) v) (sym (at axis h))
          (axis_self axis (λ (t : Bool). IsBeyond high (slice_index l.cells axis) (cond t (cond high (slice_index l.cells axis + 2) 0) (ghost_layers l axis) + slice_index i axis)) (ghost_beyond (slice_index l.cells axis) (slice_index i axis) high few));
    }

-- in a part of them
half_room : (l : Layout) (axis half i k : ℕ) → k < 3 → i < slice_index l.cells k / factor l.dims k → ghost_layers l k + half_along l.dims axis half k * (slice_index l.cells k / 2) + i < slice_index l.cells k + 2 * ghost_layers l k
half_room l axis half i k g c = by (nat_lt axis k)
  where
    size : Sized (nat_lt k l.dims) (slice_index l.cells k)
    size = sized l.dims k (slice_index l.cells k) (size_at l k g)

    by : (t : Bool) → ghost_layers l k + cond t (half / 2 ^ (k - 1)) (half / 2 ^ k) % factor l.dims k * (slice_index l.cells k / 2) + i < slice_index l.cells k + 2 * ghost_layers l k
    by t = let r = part_below (nat_lt k l.dims) (slice_index l.cells k) (cond t (half / 2 ^ (k - 1)) (half / 2 ^ k)) i size c in omega (arith, r)

part_at : (l : Layout) (axis : ℕ) (high : Bool) (half : ℕ) (i : List ℕ) (k : ℕ) → axis < 3 → k < 3 →
    slice_index (added (beside_part l axis half (ghosts l axis high)).low i) k ≡ cond (k == axis) (cond high (slice_index l.cells axis + 2) 0) (ghost_layers l k) + cond (k == axis) 0 (half_along l.dims axis half k * (cond (k == axis) 2 (slice_index l.cells k) / 2)) + slice_index i k
part_at l axis high half i k h g =
    let r : Region = ghosts l axis high in
    added_at (beside_part l axis half r).low i k g
    ∙ ap (λ v. v + slice_index i k) (each_axis (λ k. slice_index (beside_part l axis half r).low k ≡ part_low l axis half r k) refl refl refl k g)
    ∙ ap (λ v. v + cond (k == axis) 0 (half_along l.dims axis half k * (slice_index r.extents k / 2)) + slice_index i k) (ghosts_low l axis high k h g)
    ∙ ap (λ v. cond (k == axis) (cond high (slice_index l.cells axis + 2) 0) (ghost_layers l k) + cond (k == axis) 0 (half_along l.dims axis half k * (v / 2)) + slice_index i k) (with_at axis 2 k l.cells h g)

part_few : (l : Layout) (axis : ℕ) (high : Bool) (half : ℕ) (i : List ℕ) (k : ℕ) → axis < 3 → k < 3 → IsWithin (beside_part l axis half (ghosts l axis high)).extents i → slice_index i k < cond (k == axis) 2 (slice_index l.cells k / factor l.dims k)
part_few l axis high half i k h g w =
    let extent : (k : ℕ) → k < 3 → slice_index i k < part_extent l axis (ghosts l axis high) k = each_axis (λ k. slice_index i k < part_extent l axis (ghosts l axis high) k) w.along1 w.along2 w.along3 in
    split k axis (λ (t : Bool). slice_index i k < cond t (cond t 2 (slice_index l.cells k)) (cond t 2 (slice_index l.cells k) / factor l.dims k) → slice_index i k < cond t 2 (slice_index l.cells k / factor l.dims k)) (λ e c. c) (λ d c. c)
    (subst (λ v. slice_index i k < cond (k == axis) v (v / factor l.dims k)) (with_at axis 2 k l.cells h g) (extent k g))

plus_none : (a c : ℕ) → a + 0 + c ≡ a + c
plus_none a c = omega arith

part_ghosts : (l : Layout) (axis : ℕ) (high : Bool) (half : ℕ) (i : List ℕ) → axis < l.dims → axis < 3 → IsWithin (beside_part l axis half (ghosts l axis high)).extents i → IsGhost l axis high (added (beside_part l axis half (ghosts l axis high)).low i)
part_ghosts l axis high half i used h w =
    let n : ℕ = slice_index l.cells axis in
    let few : slice_index i axis < 2 = axis_self axis (λ (t : Bool). slice_index i axis < cond t 2 (slice_index l.cells axis / factor l.dims axis) → slice_index i axis < 2) (λ c. c) (part_few l axis high half i axis h h w) in
    record {
      within = λ k g. subst (λ v. v < width l k) (sym (part_at l axis high half i k h g))
          (split k axis (λ (t : Bool). slice_index i k < cond t 2 (slice_index l.cells k / factor l.dims k) → cond t (cond high (n + 2) 0) (ghost_layers l k) + cond t 0 (half_along l.dims axis half k * (cond t 2 (slice_index l.cells k) / 2)) + slice_index i k < slice_index l.cells k + 2 * ghost_layers l k)
          (λ e c. subst (λ v. v < slice_index l.cells k + 2 * ghost_layers l k) (sym (plus_none (cond high (n + 2) 0) (slice_index i k)))
          (subst (λ v. cond high (n + 2) 0 + slice_index i k < slice_index l.cells v + 2 * ghost_layers l k) (sym e) (ghost_room n (ghost_layers l k) (slice_index i k) high (two_layers l k (subst (λ v. v < l.dims) (sym e) used)) c)))
          (λ d c. half_room l axis half (slice_index i k) k g c) (part_few l axis high half i k h g w));
      beyond = subst (λ v. IsBeyond high n v) (sym (part_at l axis high half i axis h h))
          (axis_self axis (λ (t : Bool). IsBeyond high n (cond t (cond high (n + 2) 0) (ghost_layers l axis) + cond t 0 (half_along l.dims axis half axis * (cond t 2 (slice_index l.cells axis) / 2)) + slice_index i axis))
          (subst (λ v. IsBeyond high n v) (sym (plus_none (cond high (n + 2) 0) (slice_index i axis))) (ghost_beyond n (slice_index i axis) high few)));
    }

-- each place that a part gives
received_index : (l : Layout) (how : How) (axis : ℕ) (high : Bool) (half : ℕ) (i : List ℕ) → axis < l.dims → axis < 3 → IsWithin (received how l axis high half).extents i → IsGhost l axis high (added (received how l axis high half).low i)
received_index l Same axis high half i used h w = ghosts_index l axis high i used h w
received_index l Finer axis high half i used h w = part_ghosts l axis high half i used h w
received_index l Coarser axis high half i used h w = ghosts_index l axis high i used h w

-- places of the block are one at one index alone
one_index : (l : Layout) (u v : List ℕ) → ((k : ℕ) → k < 3 → slice_index u k < width l k) → ((k : ℕ) → k < 3 → slice_index v k < width l k) → place l u ≡ place l v → (k : ℕ) → k < 3 → slice_index u k ≡ slice_index v k
one_index l u v a b e =
    let wu : IsWithin (widths l) u = record { along1 = a 0 (omega arith); along2 = a 1 (omega arith); along3 = a 2 (omega arith) } in
    let wv : IsWithin (widths l) v = record { along1 = b 0 (omega arith); along2 = b 1 (omega arith); along3 = b 2 (omega arith) } in
    let x = number_index (widths l) u wu in
    let y = number_index (widths l) v wv in
    each_axis (λ k. slice_index u k ≡ slice_index v k)
    (sym x.along1 ∙ ap (λ n. slice_index (index_of (widths l) n) 0) e ∙ y.along1)
    (sym x.along2 ∙ ap (λ n. slice_index (index_of (widths l) n) 1) e ∙ y.along2)
    (sym x.along3 ∙ ap (λ n. slice_index (index_of (widths l) n) 2) e ∙ y.along3)

-- a place that is no ghost of the side is not written
kept : (b : FieldBlock) (how : How) (axis : ℕ) (high : Bool) (half : ℕ) (old new v : List ℕ) → IsSide b axis → StaysOffRegion b.layout (received how b.layout axis high half) old new → ((k : ℕ) → k < 3 → slice_index v k < width b.layout k) → ¬ (IsBeyond high (slice_index b.layout.cells axis) (slice_index v axis)) →
    slice_index new (place b.layout v) ≡ slice_index old (place b.layout v)
kept b how axis high half old new v side stays w off =
    let l : Layout = b.layout in
    let h = three_axes b axis side.sound side.used in
    stays (place l v) (λ i inside meets.
    let ghost = received_index l how axis high half i side.used h inside in
    off (subst (λ x. IsBeyond high (slice_index l.cells axis) x) (sym (one_index l v (added (received how l axis high half).low i) w ghost.within meets axis h)) ghost.beyond))

not_beyond : (n x : ℕ) (high : Bool) → 2 ≤ x → x < n + 2 → ¬ (IsBeyond high n x)
not_beyond n x true a b h = omega arith
not_beyond n x false a b h = omega arith

-- own cells
own_at : (l : Layout) (i : List ℕ) (k : ℕ) → k < 3 → slice_index (added (interior l).low i) k ≡ ghost_layers l k + slice_index i k
own_at l i k g = added_at (interior l).low i k g ∙ ap (λ v. v + slice_index i k) (interior_at l k g)

own_room : (l : Layout) (i : List ℕ) (k : ℕ) → k < 3 → IsWithin l.cells i → slice_index (added (interior l).low i) k < width l k
own_room l i k g w = let c = within_along l.cells i k w g in subst (λ v. v < slice_index l.cells k + 2 * ghost_layers l k) (sym (own_at l i k g)) (omega (arith, c))

own_inside : (l : Layout) (i : List ℕ) (axis : ℕ) (high : Bool) → axis < l.dims → axis < 3 → IsWithin l.cells i → ¬ (IsBeyond high (slice_index l.cells axis) (slice_index (added (interior l).low i) axis))
own_inside l i axis high used h w =
    let c = within_along l.cells i axis w h in
    let at = own_at l i axis h in
    let two = two_layers l axis used in
    not_beyond (slice_index l.cells axis) (slice_index (added (interior l).low i) axis) high (omega (arith, at, two)) (omega (arith, at, two, c))

pub interior_stays : InteriorStays
interior_stays b how axis high half old new side stays has i w =
    kept b how axis high half old new (added (interior b.layout).low i) side stays (λ k g. own_room b.layout i k g w) (own_inside b.layout i axis high side.used (three_axes b axis side.sound side.used) w)
    ∙ has i w

-- ghosts beyond a side
ghost_number : (n layer g : ℕ) (end : Bool) → layer < 2 → g ≡ 2 → cond end (n + 2 + layer) (1 - layer) < n + 2 * g
ghost_number n layer g true h e = omega arith
ghost_number n layer g false h e = omega arith

beyond_at : (l : Layout) (other : ℕ) (end : Bool) (layer : ℕ) (i : List ℕ) (k : ℕ) → other < 3 → k < 3 → slice_index (with_along other (ghost_along l other end layer) (added (interior l).low i)) k ≡ cond (k == other) (ghost_along l other end layer) (ghost_layers l k + slice_index i k)
beyond_at l other end layer i k h g = with_at other (ghost_along l other end layer) k (added (interior l).low i) h g ∙ ap (λ v. cond (k == other) (ghost_along l other end layer) v) (own_at l i k g)

beyond_room : (l : Layout) (other : ℕ) (end : Bool) (layer : ℕ) (i : List ℕ) (k : ℕ) → other < l.dims → other < 3 → k < 3 → layer < 2 → IsWithin l.cells i → slice_index (with_along other (ghost_along l other end layer) (added (interior l).low i)) k < width l k
beyond_room l other end layer i k used h g few w =
    let c = within_along l.cells i k w g in
    subst (λ v. v < slice_index l.cells k + 2 * ghost_layers l k) (sym (beyond_at l other end layer i k h g))
    (split k other (λ (t : Bool). cond t (ghost_along l other end layer) (ghost_layers l k + slice_index i k) < slice_index l.cells k + 2 * ghost_layers l k)
    (λ e. subst (λ v. ghost_along l other end layer < slice_index l.cells v + 2 * ghost_layers l k) (sym e) (ghost_number (slice_index l.cells other) layer (ghost_layers l k) end few (two_layers l k (subst (λ v. v < l.dims) (sym e) used))))
    (λ d. omega (arith, c)))

opposite : (n layer : ℕ) (high end : Bool) → layer < 2 → ¬ (end ≡ high) → ¬ (IsBeyond high n (cond end (n + 2 + layer) (1 - layer)))
opposite n layer true true few d h = d refl
opposite n layer true false few d h = omega arith
opposite n layer false true few d h = omega arith
opposite n layer false false few d h = d refl

apart : (l : Layout) (axis other : ℕ) (high end : Bool) (layer : ℕ) (i : List ℕ) → axis < l.dims → axis < 3 → other < 3 → layer < 2 → IsWithin l.cells i → (¬ (other ≡ axis)) ⊎ (¬ (end ≡ high)) →
    ¬ (IsBeyond high (slice_index l.cells axis) (slice_index (with_along other (ghost_along l other end layer) (added (interior l).low i)) axis))
apart l axis other high end layer i used h g few w differ =
    let n : ℕ = slice_index l.cells axis in
    let c = within_along l.cells i axis w h in
    let two = two_layers l axis used in
    subst (λ v. ¬ (IsBeyond high n v)) (sym (beyond_at l other end layer i axis g h))
    (split axis other (λ (t : Bool). ¬ (IsBeyond high n (cond t (ghost_along l other end layer) (ghost_layers l axis + slice_index i axis))))
    (λ e. subst (λ v. ¬ (IsBeyond high n (cond end (slice_index l.cells v + 2 + layer) (1 - layer)))) e (opposite n layer high end few (other_end e differ)))
    (λ d. not_beyond n (ghost_layers l axis + slice_index i axis) high (omega (arith, two)) (omega (arith, two, c))))
  where
    other_end : axis ≡ other → (¬ (other ≡ axis)) ⊎ (¬ (end ≡ high)) → ¬ (end ≡ high)
    other_end e (inl d) = absurd (d (sym e))
    other_end e (inr d) = d

pub sides_stay : SidesStay
sides_stay b how axis other high end half old new side next differ stays sees i w at =
    let l : Layout = b.layout in
    let h = three_axes b axis side.sound side.used in
    let g = three_axes b other next.sound next.used in
    let was = sees i w at in
    let one : (layer : ℕ) → layer < 2 → slice_index new (ghost_place l other end layer i) ≡ slice_index old (ghost_place l other end layer i) =
    λ layer few. kept b how axis high half old new (with_along other (ghost_along l other end layer) (added (interior l).low i)) side stays
    (λ k small. beyond_room l other end layer i k next.used g small few w) (apart l axis other high end layer i side.used h g few w differ) in
    record { next = one 0 (omega arith) ∙ was.next; second = one 1 (omega arith) ∙ was.second }

-- two parts of a side have halves of their own
some_is : (x y : Loc) → Some x ≡ Some y → x ≡ y
some_is x y e = cc

same_child : (d : ℕ) (o other : Loc) → ((k : ℕ) → k < 3 → axis_of o k % factor d k ≡ axis_of other k % factor d k) → child_number d o ≡ child_number d other
same_child d o other e =
    ap (λ v. v + 2 * (o.l2 % factor d 1) + 4 * (o.l3 % factor d 2)) (e 0 (omega arith))
    ∙ ap (λ v. other.l1 % factor d 0 + 2 * v + 4 * (o.l3 % factor d 2)) (e 1 (omega arith))
    ∙ ap (λ v. other.l1 % factor d 0 + 2 * (other.l2 % factor d 1) + 4 * v) (e 2 (omega arith))

in_half : (g P Z i r x h J : ℕ) → g + i ≡ g + P + r → P ≡ Z → Z ≡ J * h → i / h ≡ x → r < h → J ≡ x
in_half g P Z i r x h J e p z q few =
    let is : i ≡ J * h + r = omega arith in
    sym (ap (λ v. v / h) is ∙ div-mul-add J h r few) ∙ q

pub parts_stay : PartsStay
parts_stay b axis high os o other old new side is among with_other differ stays sees i w at lies =
    record { next = one 0 (omega arith) ∙ was.next; second = one 1 (omega arith) ∙ was.second }
  where
    l : Layout
    l = b.layout

    D : ℕ
    D = b.mesh.shape.dims

    h : axis < 3
    h = three_axes b axis side.sound side.used

    half : ℕ
    half = side_part axis (child_number D o)

    was : SeesBeyond b old i axis high
    was = sees i w at lies

    apart_at : (layer : ℕ) → layer < 2 → (r : List ℕ) → IsWithin (beside_part l axis half (ghosts l axis high)).extents r → ghost_place l axis high layer i ≡ place_in l (beside_part l axis half (ghosts l axis high)) r → ⊥
    apart_at layer few r inside meets =
        let u : List ℕ = with_along axis (ghost_along l axis high layer) (added (interior l).low i) in
        let v : List ℕ = added (beside_part l axis half (ghosts l axis high)).low r in
        let x = below_is b axis high os o side is among in
        let y = below_is b axis high os other side is with_other in
        let ghost = part_ghosts l axis high half r side.used h inside in
        let shape = side.sound.mesh.shape in
        let J : ℕ → ℕ = λ k. slice_index (halves_of D (child_number D o)) k in
        let K : ℕ → ℕ = λ k. slice_index (halves_of D (child_number D other)) k in
        let at_k : (k : ℕ) → k < 3 → slice_index u k ≡ slice_index v k = one_index l u v (λ k g. beyond_room l axis high layer i k side.used h g few w) ghost.within meets in
        let equal : (k : ℕ) → k < 3 → J k ≡ K k =
        λ k g. elim (cases_eq k axis) [
          | inl e ↦ ap J e ∙ x.half ∙ sym (ap K e ∙ y.half)
          | inr d ↦
              let few_k : slice_index r k < half_row b k = subst (λ v. slice_index r k < v) (same_half b k side.sound) (split k axis (λ (t : Bool). slice_index r k < cond t 2 (slice_index l.cells k / factor l.dims k) → slice_index r k < slice_index l.cells k / factor l.dims k) (λ e. absurd (d e)) (λ d c. c) (part_few l axis high half r k h g inside)) in
              let eq : ghost_layers l k + slice_index i k ≡ ghost_layers l k + half_along l.dims axis half k * (slice_index l.cells k / 2) + slice_index r k =
              split k axis (λ (t : Bool). cond t (ghost_along l axis high layer) (ghost_layers l k + slice_index i k) ≡ cond t (cond high (slice_index l.cells axis + 2) 0) (ghost_layers l k) + cond t 0 (half_along l.dims axis half k * (cond t 2 (slice_index l.cells k) / 2)) + slice_index r k → ghost_layers l k + slice_index i k ≡ ghost_layers l k + half_along l.dims axis half k * (slice_index l.cells k / 2) + slice_index r k)
              (λ e. absurd (d e)) (λ d c. c) (sym (beyond_at l axis high layer i k h g) ∙ at_k k g ∙ part_at l axis high half r k h g) in
              in_half (ghost_layers l k) (half_along l.dims axis half k * (slice_index l.cells k / 2)) (J k * half_row b k) (slice_index i k) (slice_index r k) (K k) (half_row b k) (J k) eq (covers_half b axis k o side g d) refl (lies_off b axis high (child_number D other) 0 i k side lies g d) few_k
        ] in
        let number : child_number D o ≡ child_number D other = same_child D o other (λ k g. sym (number_halves D o k shape.least shape.most g) ∙ equal k g ∙ number_halves D other k shape.least shape.most g) in
        let block : x.at ≡ y.at = some_is x.at y.at (sym x.meets ∙ y.meets) in
        differ (sym (sym x.is ∙ ap (λ (v : Loc). child D v (child_number D o)) block ∙ ap (child D y.at) number ∙ y.is))

    one : (layer : ℕ) → layer < 2 → slice_index new (ghost_place l axis high layer i) ≡ slice_index old (ghost_place l axis high layer i)
    one layer few = stays (ghost_place l axis high layer i) (λ r inside meets. apart_at layer few r inside meets)
