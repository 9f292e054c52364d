-- The sum of all totals in a cycle.
use Rattle.std.proofs.Common.{None, pos, replicate, ◌≡◌, ℕ, zero, suc, ◌+◌, ◌-◌, ◌*◌, ◌^◌, ◌<◌, ◌≤◌, Bool, true, false, cond, ◌&&◌, nat_le, List, [], length, take, refl, sym, ap, ◌∙◌, subst, arith}
use Rattle.std.specs.Prelude.{slice_index, sum_by}
use Rattle.std.specs.List.{range_with_len, slice_index_or, zip}
use Rattle.std.proofs.Math.Nat.{mul-le-mul_left}
use Rattle.std.proofs.lemmas.Bool.Decides.{nat_tests}
use Rattle.std.proofs.lemmas.List.{take_all}
use Rattle.std.proofs.lemmas.List.Sums.{sum_by_more}
use Rattle.morton_order.specs.declared.space.Shape.{Shape}
use Rattle.morton_order.specs.Space.{root_along}
use Rattle.package_fields.specs.declared.field.Field.{Field}
use Rattle.package_fields.specs.Kernel.{KernelLaws, Reacted}
use Rattle.problem_set.specs.Settings.{Settings}
use Rattle.deck_entries.specs.declared.entries.Moves.{Moves}
use Rattle.problem_set.specs.declared.problem.Problem.{Problem}
use Rattle.problem_set.specs.SettingsOf.{settings_of}
use Rattle.mesh_settings.specs.Mesh.{is_inflow}
use Rattle.problem_set.specs.Rates.{face_cells, face_inflow, field_inflow, stage_inflow}
use Rattle.mesh_rules.specs.Sums.{sum_to}
use Rattle.mesh_rules.specs.Mesh.{Mesh, cell_lattice, total_of}
use Rattle.mesh_rules.specs.Fields.{field_at, field_count, has_fluxes, has_ghosts, kind_at, moves_at, side_number}
use Rattle.mesh_rules.specs.Stage.{inflow_of, stage}
use Rattle.mesh_rules.specs.Reaction.{react_mesh}
use Rattle.mesh_rules.specs.Mask.{kept_by_check, kept_by_exchange, kept_by_reaction}
use Rattle.mesh_rules.specs.Cycle.{State, checked, reacted_to, staged_to}
use Rattle.mesh_rules.specs.Fit.{IsMeshOf, sum_of_all}
use Rattle.mesh_laws.proofs.Conserves.{stage_conserves}
use Rattle.mesh_laws.proofs.Drops.{drops_are_what_was_cut}
use Rattle.mesh_laws.proofs.Grids.{sum_plus}
use Rattle.mesh_laws.proofs.Pays.{pays_at_most}
use Rattle.mesh_laws.proofs.Reactions.{reaction_keeps_sum}
use Rattle.run_laws.specs.BoundLaws.{NoSumPassesTheBound, NoTotalFallsBelowZero, SumGrowsByInflow}
use Rattle.run_laws.proofs.CycleMeshes.{on_reacted, on_reacting, on_stage, on_staged}
use Rattle.run_laws.proofs.CycleTotals.{rates_fit, zip_at, zip_length}
use Rattle.run_laws.proofs.Inflows.{all_faces, amount_of, inflow_within, sum_to_le}
use Rattle.run_laws.proofs.SideSums.{others}

-- the root cells behind the faces of an axis
others_are : (p : Problem) (m : Mesh) (axis : ℕ) → m.shape ≡ p.shape → m.cells ≡ p.cells → others (cell_lattice m) axis ≡ face_cells p.size axis
others_are p m axis shape cells =
    let P : Shape → List ℕ → Type 0 = λ s c. others (cell_lattice (record m { shape = s; cells = c })) axis ≡ face_cells p.size axis in
    subst (λ (s : Shape). P s m.cells) (sym shape) (subst (P p.shape) (sym cells) (by axis))
  where
    by : (a : ℕ) → others (cell_lattice (record m { shape = p.shape; cells = p.cells })) a ≡ face_cells p.size a
    by zero = ap (λ (x : ℕ). x * (root_along p.shape 2 * slice_index p.cells 2)) p.grid_sound.covers2 ∙ ap (λ (x : ℕ). slice_index p.size 1 * x) p.grid_sound.covers3
    by (suc zero) = ap (λ (x : ℕ). x * (root_along p.shape 2 * slice_index p.cells 2)) p.grid_sound.covers1 ∙ ap (λ (x : ℕ). slice_index p.size 0 * x) p.grid_sound.covers3
    by (suc (suc a)) = ap (λ (x : ℕ). x * (root_along p.shape 1 * slice_index p.cells 1)) p.grid_sound.covers1 ∙ ap (λ (x : ℕ). slice_index p.size 0 * x) p.grid_sound.covers2

-- the faces of an axis in use, of those that the problem counts
under : (g i : Bool) (w k : ℕ) → cond g (cond i w 0) 0 * k ≡ cond g (cond i (w * k) 0) 0
under true true w k = refl
under true false w k = grind arith
under false i w k = grind arith

abbrev counted : Bool → Settings → List ℕ → ℕ → ℕ → ℕ
counted g q size f axis =
    cond g (cond (is_inflow (kind_at q axis false)) (slice_index (moves_at q f).entry (side_number axis false) * face_cells size axis) 0) 0
    + cond g (cond (is_inflow (kind_at q axis true)) (slice_index (moves_at q f).entry (side_number axis true) * face_cells size axis) 0) 0

faces_are : (p : Problem) (m : Mesh) (f axis : ℕ) → m.shape ≡ p.shape → m.cells ≡ p.cells → all_faces (settings_of p) m f axis ≡ counted (has_ghosts (settings_of p) f && has_fluxes (settings_of p) f) (settings_of p) p.size f axis
faces_are p m f axis shape cells =
    let q = settings_of p in
    let g = has_ghosts q f && has_fluxes q f in
    let e = others_are p m axis shape cells in
    let low = ap (λ (k : ℕ). amount_of q f axis false * k) e ∙ under g (is_inflow (kind_at q axis false)) (slice_index (moves_at q f).entry (side_number axis false)) (face_cells p.size axis) in
    let high = ap (λ (k : ℕ). amount_of q f axis true * k) e ∙ under g (is_inflow (kind_at q axis true)) (slice_index (moves_at q f).entry (side_number axis true)) (face_cells p.size axis) in
    omega (arith, low, high)

counted_all : (g : Bool) (q : Settings) (size : List ℕ) (f dims n : ℕ) → dims ≤ 3 → n ≡ 6 → sum_to dims (counted g q size f) ≤ cond g (sum_by (face_inflow dims size q.faces (moves_at q f)) (range_with_len 0 n)) 0
counted_all g q size f dims n few six =
    subst (λ (k : ℕ). sum_to dims (counted g q size f) ≤ cond g (sum_by (face_inflow dims size q.faces (moves_at q f)) (range_with_len 0 k)) 0) (sym six) (by g dims few)
  where
    by : (b : Bool) (d : ℕ) → d ≤ 3 → sum_to d (counted b q size f) ≤ cond b (sum_by (face_inflow d size q.faces (moves_at q f)) (range_with_len 0 6)) 0
    by false zero h = omega arith
    by false (suc zero) h = omega arith
    by false (suc (suc zero)) h = omega arith
    by false (suc (suc (suc zero))) h = omega arith
    by true zero h = omega arith
    by true (suc zero) h = omega arith
    by true (suc (suc zero)) h = omega arith
    by true (suc (suc (suc zero))) h = omega arith
    by b (suc (suc (suc (suc d)))) h = absurd (omega arith)

sum_same : (n : ℕ) (f g : ℕ → ℕ) → ((k : ℕ) → k < n → f k ≡ g k) → sum_to n f ≡ sum_to n g
sum_same zero f g same = refl
sum_same (suc n) f g same = omega (arith, sum_same n f g (λ k below. same k (omega (arith, below))), same n (omega arith))

-- a field's inflow in a stage
pub field_within : (p : Problem) (m : Mesh) (f : ℕ) → m.shape ≡ p.shape → m.cells ≡ p.cells → inflow_of (settings_of p) m f ≤ sum_to m.shape.dims (all_faces (settings_of p) m f) → inflow_of (settings_of p) m f ≤ field_inflow p.shape.dims p.size p.faces (field_at (settings_of p) f) (moves_at (settings_of p) f)
field_within p m f shape cells le =
    let q = settings_of p in
    let g = has_ghosts q f && has_fluxes q f in
    let same = sum_same m.shape.dims (all_faces q m f) (counted g q p.size f) (λ axis below. faces_are p m f axis shape cells) in
    let dims = ap (λ (s : Shape). sum_to s.dims (counted g q p.size f)) shape in
    let all = counted_all g q p.size f p.shape.dims (length p.faces) p.grid_sound.shape_sound.most p.faces_sound.six in
    omega (arith, le, same, dims, all)

-- a sum over a list by number
sum_by_is : {X : Type 0} (g : X → ℕ) (xs : List X) (d : X) (n : ℕ) → n ≤ length xs → sum_by g (take n xs) ≡ sum_to n (λ k. g (slice_index_or xs k d))
sum_by_is g xs d zero h = refl
sum_by_is g xs d (suc n) h =
    let e : n + 1 ≡ suc n = omega arith in
    let more = sum_by_more g xs n d (omega (arith, h)) in
    let before = sum_by_is g xs d n (omega (arith, h)) in
    subst (λ (k : ℕ). sum_by g (take k xs) ≡ sum_to n (λ k. g (slice_index_or xs k d)) + g (slice_index_or xs n d)) e (omega (arith, more, before))

-- what stands for a field that is not there
abbrev no_field : Field
no_field = record { label = []; base = []; id = None; flags = [] }

abbrev no_moves : Moves
no_moves = record { v = replicate 3 (pos 0); k = 0; order = 1; entry = replicate 6 0 }

-- what may come in of all fields in a stage
abbrev pub most_inflow : Problem → ℕ
most_inflow p = stage_inflow p.shape.dims p.size p.faces p.fields.fields p.moves

pub all_within : (p : Problem) (m : Mesh) → ((f : ℕ) → f < field_count (settings_of p) → inflow_of (settings_of p) m f ≤ field_inflow p.shape.dims p.size p.faces (field_at (settings_of p) f) (moves_at (settings_of p) f)) → sum_to (field_count (settings_of p)) (inflow_of (settings_of p) m) ≤ most_inflow p
all_within p m each =
    let q = settings_of p in
    let n = field_count q in
    let pairs = zip p.fields.fields p.moves in
    let g : Field × Moves → ℕ = λ x. field_inflow p.shape.dims p.size p.faces x.0 x.1 in
    let same = p.fields_sound.same_length in
    let count = zip_length p.fields.fields p.moves same in
    let whole = ap (sum_by g) (take_all n pairs (omega (arith, count))) in
    let by_number = sum_by_is g pairs (no_field, no_moves) n (omega (arith, count)) in
    let le = sum_to_le n (inflow_of q m) (λ f. g (slice_index_or pairs f (no_field, no_moves)))
    (λ f inside. subst (λ (x : Field × Moves). inflow_of q m f ≤ g x) (sym (zip_at p.fields.fields p.moves f no_field no_moves inside (omega (arith, same, inside)))) (each f inside)) in
    omega (arith, whole, by_number, le)

-- a stage adds at most what may come in
pub stage_adds : (p : Problem) (s : State) → IsMeshOf (settings_of p) s.mesh → (n : ℕ) → sum_of_all (settings_of p) (staged_to (settings_of p) s (suc n)).mesh ≤ sum_of_all (settings_of p) (staged_to (settings_of p) s n).mesh + most_inflow p
stage_adds p s of n =
    let q = settings_of p in
    let h = staged_to q s n in
    let on = on_staged q s of n in
    let fields = field_count q in
    let le = sum_to_le fields (total_of (staged_to q s (suc n)).mesh) (λ f. total_of h.mesh f + inflow_of q h.mesh f)
    (λ f inside.
    let stage_is = stage_conserves q h.mesh f (p.levels - 1) on.mesh on.coarse (rates_fit p f h.mesh.shape on.shape inside) inside in
    let cut_is = drops_are_what_was_cut q (kept_by_exchange q h.mesh h.mask) (stage q h.mesh) f (on_stage q s.mesh h.mesh on).mesh inside in
    omega (arith, stage_is, cut_is)) in
    let split = sum_plus fields (total_of h.mesh) (inflow_of q h.mesh) in
    let ins = all_within p h.mesh (λ f inside. field_within p h.mesh f on.shape (on.cells ∙ of.cells) (inflow_within q h.mesh f (p.levels - 1) on.mesh on.shape on.coarse (rates_fit p f h.mesh.shape on.shape inside))) in
    omega (arith, le, split, ins)

pub stages_add : (p : Problem) (s : State) → IsMeshOf (settings_of p) s.mesh → (n : ℕ) → sum_of_all (settings_of p) (staged_to (settings_of p) s n).mesh ≤ sum_of_all (settings_of p) s.mesh + most_inflow p * n
stages_add p s of zero = omega arith
stages_add p s of (suc n) = let before = stages_add p s of n in let more = stage_adds p s of n in let e : most_inflow p * suc n ≡ most_inflow p * n + most_inflow p = grind arith in omega (arith, before, more, e)

-- the reaction and the check add nothing
pub reacted_le : (p : Problem) (react : List ℕ → Reacted) (s : State) → KernelLaws (field_count (settings_of p)) react → IsMeshOf (settings_of p) s.mesh → sum_of_all (settings_of p) (reacted_to (settings_of p) react s).mesh ≤ sum_of_all (settings_of p) (staged_to (settings_of p) s p.nstages).mesh
reacted_le p react s laws of =
    let q = settings_of p in
    let h = staged_to q s p.nstages in
    let m = react_mesh react (field_count q) h.mesh in
    let keeps = reaction_keeps_sum react (field_count q) h.mesh (on_staged q s of p.nstages).mesh laws in
    let le = sum_to_le (field_count q) (total_of (reacted_to q react s).mesh) (total_of m) (λ f inside. let cut_is = drops_are_what_was_cut q (kept_by_reaction q m h.mask) m f (on_reacting q react s of).mesh inside in omega (arith, cut_is)) in
    omega (arith, keeps, le)

pub checked_le : (p : Problem) (react : List ℕ → Reacted) (s : State) → IsMeshOf (settings_of p) s.mesh → sum_of_all (settings_of p) (checked (settings_of p) react s).mesh ≤ sum_of_all (settings_of p) (reacted_to (settings_of p) react s).mesh
checked_le p react s of =
    let q = settings_of p in
    let h = reacted_to q react s in
    sum_to_le (field_count q) (total_of (checked q react s).mesh) (total_of h.mesh) (λ f inside. let cut_is = drops_are_what_was_cut q (kept_by_check q h.mesh h.mask) h.mesh f (on_reacted q react s of).mesh inside in omega (arith, cut_is))

pub grows_by_inflow : SumGrowsByInflow
grows_by_inflow p react s laws of = omega (arith, stages_add p s of p.nstages, reacted_le p react s laws of, checked_le p react s of)

pub none_passes : NoSumPassesTheBound
none_passes p react s n laws of room = by (nat_le n p.nstages) (below n p.nstages)
  where
    below : (a b : ℕ) → nat_le a b ≡ true → a ≤ b
    below a b e = grind (arith, nat_tests)

    by : (b : Bool) → (b ≡ true → n ≤ p.nstages) → sum_of_all (settings_of p) (cond b (staged_to (settings_of p) s n) (reacted_to (settings_of p) react s)).mesh ≤ 2 ^ 62 - 1
    by true few = omega (arith, stages_add p s of n, mul-le-mul_left (most_inflow p) (few refl), room)
    by false few = omega (arith, stages_add p s of p.nstages, reacted_le p react s laws of, room)

pub none_below_zero : NoTotalFallsBelowZero
none_below_zero p s n f c of some inside leaf =
    let q = settings_of p in
    let on = on_staged q s of n in
    pays_at_most q (staged_to q s n).mesh f (p.levels - 1) c on.mesh on.coarse (rates_fit p f (staged_to q s n).mesh.shape on.shape some) inside leaf
