-- A cell pays at most what it has, and nothing passes a face from nothing.
use Rattle.std.proofs.Common.{◌≡◌, ◌==◌, inl, inr, ℕ, zero, suc, ◌+◌, ◌*◌, ◌/◌, ◌<◌, ◌≤◌, Bool, true, false, cond, not, Option, Some, None, List, [], ◌∷◌, refl, arith, ap, subst, sym, ◌∙◌}
use Rattle.std.proofs.Math.Nat.{mul-le-mul_left, mul-le-mul_right}
use Rattle.std.proofs.lemmas.Bool.{cases_eq, eqb-true}
use Rattle.morton_order.specs.declared.space.Loc.{Loc}
use Rattle.morton_order.specs.declared.space.Shape.{Shape}
use Rattle.morton_order.specs.Space.{IsIn, child, child_number, parent, parts}
use Rattle.block_tree.specs.Behind.{children_at, is_high_half}
use Rattle.block_tree.proofs.Ancestors.{node_parent}
use Rattle.block_tree.proofs.Behinds.{half_passes}
use Rattle.mesh_num.specs.Portion.{portion}
use Rattle.mesh_num.specs.Rate.{rate}
use Rattle.mesh_num.specs.Share.{share}
use Rattle.package_fields.specs.declared.field.Field.{Field}
use Rattle.package_fields.specs.declared.flag.Flag.TheVariants.{WithFluxes}
use Rattle.package_fields.specs.Flags.{has}
use Rattle.problem_set.specs.Settings.{Settings}
use Rattle.problem_set.specs.SoundProblem.{IsFittingSum}
use Rattle.problem_set.specs.Rates.{both_rates, downwards, left_rate, rate_sum, right_rate, upwards, velocity}
use Rattle.deck_entries.specs.declared.entries.Moves.{Moves}
use Rattle.mesh_settings.specs.declared.words.FaceKind.{FaceKind}
use Rattle.mesh_settings.specs.declared.words.FaceKind.TheVariants.{Periodic, Outflow, Reflecting, Inflow}
use Rattle.mesh_rules.specs.Sums.{sum_over, sum_to}
use Rattle.mesh_rules.specs.Mesh.{IsMesh, Mesh, OnLeaf, block_of, cell_lattice, is_inner, stored}
use Rattle.mesh_rules.specs.Look.{look}
use Rattle.mesh_rules.specs.Fields.{field_at, kind_at, moves_at}
use Rattle.mesh_rules.specs.Faces.{Pair, cell_across, face_pair, face_pair_by, limited, own_pair, pair_outside, reconstructed, seen_in, seen_next, seen_second, sum_pairs}
use Rattle.mesh_laws.specs.PayLaws.{IsNoFiner, NothingFromNothing, PaysAtMost, inwards, outwards}
use Rattle.mesh_laws.proofs.Flips.{flip, flipped_sum, sees_back}
use Rattle.mesh_laws.proofs.Looks.{children_add_up, look_law, no_node, some_parts}
use Rattle.mesh_laws.proofs.Portions.{all_shares, portion_by_more, portion_of_more, portion_within, portions_by, portions_over, quotient_grows, rate_grows, sum_filter}

-- what a total counts for at most at a face: by the second order half as much again
abbrev pub most : ℕ → ℕ → ℕ
most order q = cond (order == 2) (q + q / 2) q

pub reconstructed_most : (order behind here ahead : ℕ) → reconstructed order behind here ahead ≤ most order here
reconstructed_most order behind here ahead = by (order == 2)
  where
    by : (b : Bool) → cond b (limited behind here ahead) here ≤ cond b (here + here / 2) here
    by true = omega arith
    by false = omega arith

most_grows : (order a b : ℕ) → a ≤ b → most order a ≤ most order b
most_grows order a b h = by (order == 2)
  where
    by : (t : Bool) → cond t (a + a / 2) a ≤ cond t (b + b / 2) b
    by true = omega arith
    by false = h

most_over : (order : ℕ) (xs : List ℕ) (g : ℕ → ℕ) → sum_over xs (λ j. most order (g j)) ≤ most order (sum_over xs g)
most_over order [] g = omega arith
most_over order (x ∷ xs) g =
    let a = most_over order xs g in
    let b = both (order == 2) (g x) (sum_over xs g) in omega arith
  where
    both : (t : Bool) (a b : ℕ) → cond t (a + a / 2) a + cond t (b + b / 2) b ≤ cond t (a + b + (a + b) / 2) (a + b)
    both true a b = omega arith
    both false a b = omega arith

most_zero : (order : ℕ) → most order 0 ≡ 0
most_zero order = by (order == 2)
  where
    by : (t : Bool) → cond t (0 + 0 / 2) 0 ≡ 0
    by true = refl
    by false = refl

-- where the rates fit a total pays at most itself
pub most_within : (order q r den : ℕ) → 1 ≤ den → IsFittingSum order r den → portion (most order q) r den ≤ q
most_within order q r den h fit = by (order == 2) refl
  where
    half : 3 * r ≤ 2 * den → (q + q / 2) * r / den ≤ q
    half k =
        let a : q + q / 2 + (q + q / 2) ≤ 3 * q = omega arith in
        let b : (q + q / 2 + (q + q / 2)) * r ≤ 3 * q * r = mul-le-mul_right r a in
        let c : q * (3 * r) ≤ q * (2 * den) = mul-le-mul_left q k in
        let d : (q + q / 2) * r ≤ q * den = omega arith in
        let e : (q + q / 2) * r / den ≤ q * den / den = quotient_grows ((q + q / 2) * r) (q * den) den h d in
        let w : q * den / den ≡ q = whole q den h in
        subst (λ v. (q + q / 2) * r / den ≤ v) w e
      where
        whole : (q d : ℕ) → 1 ≤ d → q * d / d ≡ q
        whole q d h = grind arith

    by : (t : Bool) → (order == 2) ≡ t → portion (cond t (q + q / 2) q) r den ≤ q
    by true e = half (fit.second (eqb-true order 2 e))
    by false e = portion_within q r den h fit.once

pub portion_nothing : (c d : ℕ) → 1 ≤ d → portion 0 c d ≡ 0
portion_nothing c d h = let a = portion_within 0 c (c + d) (omega arith) (omega arith) in nothing c d h
  where
    nothing : (c d : ℕ) → 1 ≤ d → 0 * c / d ≡ 0
    nothing c d h = grind arith

-- the rate of a field along an axis in a direction
abbrev pub speed : Settings → ℕ → ℕ → Bool → ℕ → ℕ
speed p f axis right level = cond right (right_rate (field_at p f) (moves_at p f) axis level) (left_rate (field_at p f) (moves_at p f) axis level)

rate_by : (moved : Bool) (v k low high : ℕ) → low ≤ high → cond moved (rate v k low) 0 ≤ cond moved (rate v k high) 0
rate_by true v k low high h = rate_grows v k low high h
rate_by false v k low high h = omega arith

speed_up : (p : Settings) (f axis : ℕ) (right : Bool) (low high : ℕ) → low ≤ high → speed p f axis right low ≤ speed p f axis right high
speed_up p f axis true low high h = rate_by (has WithFluxes (field_at p f).flags) (upwards (velocity (moves_at p f) axis)) (moves_at p f).k low high h
speed_up p f axis false low high h = rate_by (has WithFluxes (field_at p f).flags) (downwards (velocity (moves_at p f) axis)) (moves_at p f).k low high h

-- what leaves a cell through its own face at a side is a portion of what its look counts for
outwards_own : (p : Settings) (m : Mesh) (f : ℕ) (c : Loc) (axis : ℕ) (high : Bool) →
    outwards high (own_pair p m f c axis high) ≡ portion (reconstructed (moves_at p f).order (seen_next p m f c axis (not high)) (look m f c) (seen_next p m f c axis high)) (speed p f axis high c.level) p.denominator
outwards_own p m f c axis true = refl
outwards_own p m f c axis false = refl

-- what enters it there is a portion of what is seen across
inwards_own : (p : Settings) (m : Mesh) (f : ℕ) (c : Loc) (axis : ℕ) (high : Bool) →
    inwards high (own_pair p m f c axis high) ≡ portion (reconstructed (moves_at p f).order (seen_second p m f c axis high) (seen_next p m f c axis high) (look m f c)) (speed p f axis (not high) c.level) p.denominator
inwards_own p m f c axis true = refl
inwards_own p m f c axis false = refl

-- a portion of what a total counts for
donated : (p : Settings) (order behind here ahead r s : ℕ) → 1 ≤ p.denominator → r ≤ s → portion (reconstructed order behind here ahead) r p.denominator ≤ portion (most order here) s p.denominator
donated p order behind here ahead r s h k =
    let a = portion_of_more (reconstructed order behind here ahead) (most order here) r p.denominator h (reconstructed_most order behind here ahead) in
    let b = portion_by_more (most order here) r s p.denominator h k in omega arith

-- where a mesh, a field and a cell of a leaf stand
record Payer (p : Settings) (m : Mesh) (f finest : ℕ) (c : Loc) : Type 0 where
  mesh : IsMesh m
  coarse : IsNoFiner m finest
  positive : 1 ≤ p.denominator
  inside : IsIn (cell_lattice m) c
  leaf : OnLeaf m c

-- the level of a cell of a leaf
leaf_level : (p : Settings) (m : Mesh) (f finest : ℕ) (c : Loc) → Payer p m f finest c → c.level ≤ finest
leaf_level p m f finest c x = elim (cases_eq c.level 0) [
  | inl root ↦ omega arith
  | inr deep ↦ let below = x.coarse (parent m.shape.dims (block_of m c)) (node_parent m.shape (is_inner m) (block_of m c) (omega arith) x.leaf.node) in omega arith
]

-- what a side may cost at most
abbrev limit : Settings → Mesh → ℕ → ℕ → Loc → ℕ → Bool → ℕ
limit p m f finest c axis high = portion (most (moves_at p f).order (stored m f c)) (speed p f axis high finest) p.denominator

-- through its own face
own_paid : (p : Settings) (m : Mesh) (f finest : ℕ) (c : Loc) (axis : ℕ) (high : Bool) → Payer p m f finest c → outwards high (own_pair p m f c axis high) ≤ limit p m f finest c axis high
own_paid p m f finest c axis high x =
    let l : look m f c ≡ stored m f c = (look_law m f c x.mesh).at_leaf x.leaf in
    let d = donated p (moves_at p f).order (seen_next p m f c axis (not high)) (look m f c) (seen_next p m f c axis high) (speed p f axis high c.level) (speed p f axis high finest) x.positive (speed_up p f axis high c.level finest (leaf_level p m f finest c x)) in
    let e = outwards_own p m f c axis high in
    subst (λ v. outwards high (own_pair p m f c axis high) ≤ portion (most (moves_at p f).order v) (speed p f axis high finest) p.denominator) l
    (subst (λ v. v ≤ portion (most (moves_at p f).order (look m f c)) (speed p f axis high finest) p.denominator) (sym e) d)

-- into a finer cell across the side
abbrev into : Settings → Mesh → ℕ → Loc → ℕ → Bool → ℕ → ℕ
into p m f o axis high j = outwards high (own_pair p m f (child m.shape.dims o j) axis (not high))

into_is : (p : Settings) (m : Mesh) (f : ℕ) (d : Loc) (axis : ℕ) (high : Bool) →
    outwards high (own_pair p m f d axis (not high)) ≡ portion (reconstructed (moves_at p f).order (seen_second p m f d axis (not high)) (seen_next p m f d axis (not high)) (look m f d)) (speed p f axis high d.level) p.denominator
into_is p m f d axis true = refl
into_is p m f d axis false = refl

finer_paid : (p : Settings) (m : Mesh) (f finest : ℕ) (c o : Loc) (axis : ℕ) (high : Bool) (j : ℕ) → Payer p m f finest c → axis < m.shape.dims → cell_across m c axis high ≡ Some o → is_inner m (block_of m o) ≡ true → j < parts m.shape.dims → is_high_half j axis ≡ not high →
    into p m f o axis high j ≤ portion (most (moves_at p f).order (share (stored m f c) (parts m.shape.dims) (flip axis high j))) (speed p f axis high finest) p.denominator
finer_paid p m f finest c o axis high j x used meet io number half =
    let s : Shape = cell_lattice m in
    let d : Loc = child m.shape.dims o j in
    let room = x.mesh.tree.above_finest (block_of m o) io in
    let below = x.coarse (block_of m o) io in
    let b = sees_back s c o axis high j x.mesh.shape.least x.mesh.shape.most used x.inside meet room number half in
    let leaf : OnLeaf m (parent m.shape.dims b.e) = subst (λ (v : Loc). OnLeaf m v) (sym b.of_cell) x.leaf in
    let seen : seen_next p m f d axis (not high) ≡ look m f b.e = ap (seen_in p m f axis (not high) d.level) b.meet in
    let shared : look m f b.e ≡ share (stored m f c) (parts m.shape.dims) (flip axis high j) = below_leaf m f c b.e x.mesh b.deep leaf x.leaf b.of_cell b.number in
    let q = donated p (moves_at p f).order (seen_second p m f d axis (not high)) (seen_next p m f d axis (not high)) (look m f d) (speed p f axis high d.level) (speed p f axis high finest) x.positive (speed_up p f axis high d.level finest (omega arith)) in
    subst (λ v. into p m f o axis high j ≤ portion (most (moves_at p f).order v) (speed p f axis high finest) p.denominator) (seen ∙ shared)
    (subst (λ v. v ≤ portion (most (moves_at p f).order (seen_next p m f d axis (not high))) (speed p f axis high finest) p.denominator) (sym (into_is p m f d axis high)) q)
  where
    below_leaf : (m : Mesh) (f : ℕ) (c e : Loc) → IsMesh m → 1 ≤ e.level → OnLeaf m (parent m.shape.dims e) → OnLeaf m c → parent m.shape.dims e ≡ c → child_number m.shape.dims e ≡ flip axis high j →
        look m f e ≡ share (stored m f c) (parts m.shape.dims) (flip axis high j)
    below_leaf m f c e mesh deep above leaf top number =
        (look_law m f e mesh).coarser (no_node m e deep above)
        ∙ ap (λ (v : Loc). share (look m f v) (parts m.shape.dims) (child_number m.shape.dims e)) top
        ∙ ap (λ v. share v (parts m.shape.dims) (child_number m.shape.dims e)) ((look_law m f c mesh).at_leaf leaf)
        ∙ ap (share (stored m f c) (parts m.shape.dims)) number

-- through all finer faces behind a side
all_finer_paid : (p : Settings) (m : Mesh) (f finest : ℕ) (c o : Loc) (axis : ℕ) (high : Bool) → Payer p m f finest c → axis < m.shape.dims → cell_across m c axis high ≡ Some o → is_inner m (block_of m o) ≡ true →
    sum_over (children_at m.shape.dims axis (not high)) (into p m f o axis high) ≤ limit p m f finest c axis high
all_finer_paid p m f finest c o axis high x used meet io =
    let dims : ℕ = m.shape.dims in
    let order : ℕ = (moves_at p f).order in
    let r : ℕ = speed p f axis high finest in
    let den : ℕ = p.denominator in
    let q : ℕ = stored m f c in
    let n : ℕ = parts dims in
    let shares : ℕ → ℕ = share q n in
    let near : List ℕ = children_at dims axis (not high) in
    let one : sum_over near (into p m f o axis high) ≤ sum_over near (λ j. portion (most order (shares (flip axis high j))) r den) = sum_filter (λ j. cond (not high) (is_high_half j axis) (not (is_high_half j axis))) (into p m f o axis high) (λ j. portion (most order (shares (flip axis high j))) r den) 0 n
    (λ j l pass. finer_paid p m f finest c o axis high j x used meet io (omega arith) (half_passes (is_high_half j axis) (not high) pass)) in
    let two = portions_over near (λ j. most order (shares (flip axis high j))) r den x.positive in
    let three = flipped_sum dims axis high shares x.mesh.shape.least x.mesh.shape.most used in
    let all : sum_to n shares ≡ q = all_shares q n (some_parts dims) in
    let four : sum_over near (λ j. shares (flip axis high j)) ≤ q = subst (λ v. sum_over near (λ j. shares (flip axis high j)) ≤ v) all three in
    let five = most_over order near (λ j. shares (flip axis high j)) in
    let six = most_grows order (sum_over near (λ j. shares (flip axis high j))) q four in
    let seven = portion_of_more (sum_over near (λ j. most order (shares (flip axis high j)))) (most order q) r den x.positive (omega arith) in
    omega arith

-- the part of a sum of pairs
outwards_sum : (high : Bool) (list : List ℕ) (each : ℕ → Pair) → outwards high (sum_pairs list each) ≡ sum_over list (λ j. outwards high (each j))
outwards_sum true list each = refl
outwards_sum false list each = refl

-- no more passes a face of the domain
outside_less : (kind : FaceKind) (high : Bool) (own : Pair) → outwards high (pair_outside kind own) ≤ outwards high own
outside_less Periodic high own = omega arith
outside_less Outflow high own = omega arith
outside_less Inflow high own = omega arith
outside_less Reflecting true own = omega arith
outside_less Reflecting false own = omega arith

-- through a side
side_paid : (p : Settings) (m : Mesh) (f finest : ℕ) (c : Loc) (axis : ℕ) (high : Bool) → Payer p m f finest c → axis < m.shape.dims → (o : Option Loc) → cell_across m c axis high ≡ o → outwards high (face_pair_by p m f c axis high o) ≤ limit p m f finest c axis high
side_paid p m f finest c axis high x used None meet =
    let a = outside_less (kind_at p axis high) high (own_pair p m f c axis high) in
    let b = own_paid p m f finest c axis high x in omega arith
side_paid p m f finest c axis high x used (Some o) meet = by (is_inner m (block_of m o)) refl
  where
    finer : ℕ → Pair
    finer j = own_pair p m f (child m.shape.dims o j) axis (not high)

    by : (b : Bool) → is_inner m (block_of m o) ≡ b → outwards high (cond b (sum_pairs (children_at m.shape.dims axis (not high)) finer) (own_pair p m f c axis high)) ≤ limit p m f finest c axis high
    by true io = subst (λ v. v ≤ limit p m f finest c axis high) (sym (outwards_sum high (children_at m.shape.dims axis (not high)) finer)) (all_finer_paid p m f finest c o axis high x used meet io)
    by false io = own_paid p m f finest c axis high x

paid_through : (p : Settings) (m : Mesh) (f finest : ℕ) (c : Loc) (axis : ℕ) (high : Bool) → Payer p m f finest c → axis < m.shape.dims → outwards high (face_pair p m f c axis high) ≤ limit p m f finest c axis high
unfolding face_pair
paid_through p m f finest c axis high x used = side_paid p m f finest c axis high x used (cell_across m c axis high) refl

-- through both sides of each axis
paid_along : (p : Settings) (m : Mesh) (f finest : ℕ) (c : Loc) → Payer p m f finest c → (axes : ℕ) → axes ≤ m.shape.dims →
    sum_to axes (λ axis. (face_pair p m f c axis false).left + (face_pair p m f c axis true).right)
    ≤ portion (most (moves_at p f).order (stored m f c)) (sum_to axes (λ axis. both_rates (field_at p f) (moves_at p f) finest axis)) p.denominator
paid_along p m f finest c x zero few = omega arith
paid_along p m f finest c x (suc axis) few =
    let q : ℕ = most (moves_at p f).order (stored m f c) in
    let den : ℕ = p.denominator in
    let rest = paid_along p m f finest c x axis (omega arith) in
    let low = paid_through p m f finest c axis false x (omega arith) in
    let high = paid_through p m f finest c axis true x (omega arith) in
    let l : ℕ = speed p f axis false finest in
    let r : ℕ = speed p f axis true finest in
    let t : ℕ = sum_to axis (λ axis. both_rates (field_at p f) (moves_at p f) finest axis) in
    let a = portions_by q r l den x.positive in
    let b = portions_by q t (r + l) den x.positive in
    omega arith

-- the rates of the axes in use, added up
rates_added : (dims level : ℕ) (f : Field) (m : Moves) → dims ≤ 3 → rate_sum dims level f m ≡ sum_to dims (both_rates f m level)
rates_added zero level f m h = refl
rates_added (suc zero) level f m h = refl
rates_added (suc (suc zero)) level f m h = refl
rates_added (suc (suc (suc zero))) level f m h = refl
rates_added (suc (suc (suc (suc n)))) level f m h = absurd (omega arith)

pub pays_at_most : PaysAtMost
pays_at_most p m f finest c mesh coarse rates inside leaf =
    let x : Payer p m f finest c = record { mesh = mesh; coarse = coarse; positive = rates.positive; inside = inside; leaf = leaf } in
    let all = paid_along p m f finest c x m.shape.dims (omega arith) in
    let e = rates_added m.shape.dims finest (field_at p f) (moves_at p f) mesh.shape.most in
    let fit : IsFittingSum (moves_at p f).order (sum_to m.shape.dims (both_rates (field_at p f) (moves_at p f) finest)) p.denominator = subst (λ v. IsFittingSum (moves_at p f).order v p.denominator) e rates.fits in
    let within = most_within (moves_at p f).order (stored m f c) (sum_to m.shape.dims (both_rates (field_at p f) (moves_at p f) finest)) p.denominator rates.positive fit in
    omega arith

-- what leaves a cell with nothing is nothing
leaves_nothing : (p : Settings) (m : Mesh) (f : ℕ) (c : Loc) (axis : ℕ) (high : Bool) → Payer p m f 10 c → axis < m.shape.dims → stored m f c ≡ 0 → outwards high (face_pair p m f c axis high) ≡ 0
leaves_nothing p m f c axis high x used none =
    let a = paid_through p m f 10 c axis high x used in
    let b : limit p m f 10 c axis high ≡ 0 = ap (λ v. portion (most (moves_at p f).order v) (speed p f axis high 10) p.denominator) none ∙ ap (λ v. portion v (speed p f axis high 10) p.denominator) (most_zero (moves_at p f).order) ∙ portion_nothing (speed p f axis high 10) p.denominator x.positive in
    omega arith

-- a total of nothing counts for nothing
reconstructed_zero : (p : Settings) (order behind here ahead r : ℕ) → 1 ≤ p.denominator → here ≡ 0 → portion (reconstructed order behind here ahead) r p.denominator ≡ 0
reconstructed_zero p order behind here ahead r h none =
    let a = donated p order behind here ahead r r h (omega arith) in
    let b : portion (most order here) r p.denominator ≡ 0 = ap (λ v. portion (most order v) r p.denominator) none ∙ ap (λ v. portion v r p.denominator) (most_zero order) ∙ portion_nothing r p.denominator h in
    omega arith

turned : (high : Bool) (x : Pair) → inwards high x ≡ outwards (not high) x
turned true x = refl
turned false x = refl

inwards_sum : (high : Bool) (list : List ℕ) (each : ℕ → Pair) → inwards high (sum_pairs list each) ≡ sum_over list (λ j. outwards (not high) (each j))
inwards_sum true list each = refl
inwards_sum false list each = refl

outside_nothing : (kind : FaceKind) (high : Bool) (own : Pair) → inwards high own ≡ 0 → inwards high (pair_outside kind own) ≡ 0
outside_nothing Periodic high own h = h
outside_nothing Outflow high own h = h
outside_nothing Inflow high own h = h
outside_nothing Reflecting true own h = refl
outside_nothing Reflecting false own h = refl

-- a term is at most the sum
pub term_least : (n : ℕ) (g : ℕ → ℕ) (j : ℕ) → j < n → g j ≤ sum_to n g
term_least zero g j h = absurd (omega arith)
term_least (suc n) g j h = elim (cases_eq j n) [
  | inl e ↦ let a : g j ≡ g n = ap g e in omega arith
  | inr d ↦ let a = term_least n g j (omega arith) in omega arith
]

over_zero : (xs : List ℕ) (g : ℕ → ℕ) → sum_over xs g ≤ sum_over xs (λ _. 0) → sum_over xs g ≡ 0
over_zero xs g h = let a = none xs in omega arith
  where
    none : (xs : List ℕ) → sum_over xs (λ _. 0) ≡ 0
    none [] = refl
    none (x ∷ xs) = let a = none xs in omega arith

enters_nothing : (p : Settings) (m : Mesh) (f : ℕ) (c : Loc) (axis : ℕ) (high : Bool) → 1 ≤ p.denominator → IsMesh m → (o : Option Loc) → cell_across m c axis high ≡ o → seen_next p m f c axis high ≡ 0 →
    inwards high (face_pair_by p m f c axis high o) ≡ 0
enters_nothing p m f c axis high h mesh o meet none = by o meet
  where
    own : inwards high (own_pair p m f c axis high) ≡ 0
    own = inwards_own p m f c axis high ∙ reconstructed_zero p (moves_at p f).order (seen_second p m f c axis high) (seen_next p m f c axis high) (look m f c) (speed p f axis (not high) c.level) h none

    finer : (o : Loc) (j : ℕ) → look m f o ≡ 0 → j < parts m.shape.dims → outwards (not high) (own_pair p m f (child m.shape.dims o j) axis (not high)) ≡ 0
    finer o j nil few =
        let d : Loc = child m.shape.dims o j in
        let sum = children_add_up m f o mesh in
        let least = term_least (parts m.shape.dims) (λ i. look m f (child m.shape.dims o i)) j few in
        outwards_own p m f d axis (not high) ∙ reconstructed_zero p (moves_at p f).order (seen_next p m f d axis (not (not high))) (look m f d) (seen_next p m f d axis (not high)) (speed p f axis (not high) d.level) h (omega arith)

    near : ℕ → Bool
    near j = cond (not high) (is_high_half j axis) (not (is_high_half j axis))

    all : (o : Loc) → look m f o ≡ 0 → sum_over (children_at m.shape.dims axis (not high)) (λ j. outwards (not high) (own_pair p m f (child m.shape.dims o j) axis (not high))) ≡ 0
    all o nil = over_zero (children_at m.shape.dims axis (not high)) (λ j. outwards (not high) (own_pair p m f (child m.shape.dims o j) axis (not high)))
        (sum_filter near (λ j. outwards (not high) (own_pair p m f (child m.shape.dims o j) axis (not high))) (λ _. 0) 0 (parts m.shape.dims) (λ j l pass. let e = finer o j nil (omega arith) in omega arith))

    inside : (o : Loc) → look m f o ≡ 0 → (b : Bool) → inwards high (cond b (sum_pairs (children_at m.shape.dims axis (not high)) (λ j. own_pair p m f (child m.shape.dims o j) axis (not high))) (own_pair p m f c axis high)) ≡ 0
    inside o nil true = inwards_sum high (children_at m.shape.dims axis (not high)) (λ j. own_pair p m f (child m.shape.dims o j) axis (not high)) ∙ all o nil
    inside o nil false = own

    by : (o : Option Loc) → cell_across m c axis high ≡ o → inwards high (face_pair_by p m f c axis high o) ≡ 0
    by None meet = outside_nothing (kind_at p axis high) high (own_pair p m f c axis high) own
    by (Some o) meet = inside o (sym (ap (seen_in p m f axis high c.level) meet) ∙ none) (is_inner m (block_of m o))

enters_face : (p : Settings) (m : Mesh) (f : ℕ) (c : Loc) (axis : ℕ) (high : Bool) → 1 ≤ p.denominator → IsMesh m → seen_next p m f c axis high ≡ 0 → inwards high (face_pair p m f c axis high) ≡ 0
unfolding face_pair
enters_face p m f c axis high h mesh none = enters_nothing p m f c axis high h mesh (cell_across m c axis high) refl none

pub nothing_from_nothing : NothingFromNothing
nothing_from_nothing p m f c axis high h mesh inside leaf used =
    let x : Payer p m f 10 c = record { mesh = mesh; coarse = λ l i. mesh.tree.above_finest l i; positive = h; inside = inside; leaf = leaf } in
    record { leaves = leaves_nothing p m f c axis high x used; enters = enters_face p m f c axis high h mesh }
