-- The sum of all totals along a run.
use Rattle.std.proofs.Common.{◌≡◌, ℕ, zero, suc, ◌+◌, ◌*◌, ◌<◌, ◌≤◌, true, false, ◌||◌, nat_eq, List, length, ap, ◌∙◌, arith, rules}
use Rattle.std.specs.Prelude.{slice_index, sum_by}
use Rattle.std.specs.List.{slice_index_or}
use Rattle.std.proofs.Math.Nat.{mul-le-mul_left}
use Rattle.std.proofs.lemmas.List.Elements.{All-get_or}
use Rattle.morton_order.specs.declared.space.Loc.{Loc}
use Rattle.morton_order.specs.Space.{IsIn}
use Rattle.package_fields.specs.Kernel.{KernelLaws, Reacted}
use Rattle.deck_entries.specs.declared.entries.StartBox.{StartBox}
use Rattle.problem_set.specs.declared.problem.Problem.{Problem}
use Rattle.problem_set.specs.SettingsOf.{settings_of}
use Rattle.problem_set.specs.Rates.{box_total}
use Rattle.deck_entries.specs.SoundEntries.{IsBox}
use Rattle.mesh_rules.specs.Mesh.{OnLeaf, cell_lattice, total_of}
use Rattle.mesh_rules.specs.Look.{look}
use Rattle.mesh_rules.specs.Fields.{field_count}
use Rattle.mesh_rules.specs.Remesh.{next_tree, remap}
use Rattle.mesh_rules.specs.Cycle.{State, settled, tags_of}
use Rattle.mesh_rules.specs.Opening.{opening_mesh, opening_total, opening_tree, root_mesh}
use Rattle.mesh_rules.specs.Run.{Reached, run, running}
use Rattle.mesh_rules.specs.Fit.{IsMeshOf, sum_of_all}
use Rattle.mesh_laws.proofs.Adjacent.{block_inside}
use Rattle.mesh_laws.proofs.Lattices.{lattice, lattice_same}
use Rattle.mesh_laws.proofs.Looks.{look_law}
use Rattle.mesh_laws.proofs.Remaps.{remap_keeps_totals, total_is_roots}
use Rattle.mesh_laws.proofs.StoredCells.{stored_at}
use Rattle.run_laws.specs.BoundLaws.{RunsStayWithin}
use Rattle.run_laws.proofs.CycleBounds.{grows_by_inflow, most_inflow}
use Rattle.run_laws.proofs.Inflows.{sum_to_le}
use Rattle.run_laws.proofs.OpeningSums.{boxes_fit}
use Rattle.run_laws.proofs.RunTrees.{LeadsTo, comes_from, moves_on, next_tree_is, opening_least, root_is_mesh, run_stands, settled_is, starts_from, stays_there}

-- a root cell of the mesh of root blocks
root_leaf : (p : Problem) (c : Loc) → IsIn (cell_lattice (root_mesh (settings_of p))) c → c.level ≡ 0 → OnLeaf (root_mesh (settings_of p)) c
root_leaf p c inside root = record {
  inside = block_inside (root_mesh (settings_of p)) (root_is_mesh p) c inside;
  node = node_at c.level root;
  outer = λ h. search rules;
}
  where
    node_at : (n : ℕ) → n ≡ 0 → (nat_eq n 0 || false) ≡ true
    node_at n e = ap (λ (k : ℕ). nat_eq k 0 || false) e

root_looks : (p : Problem) (f : ℕ) (c : Loc) → f < field_count (settings_of p) → IsIn (cell_lattice (root_mesh (settings_of p))) c → c.level ≡ 0 → look (root_mesh (settings_of p)) f c ≡ opening_total (settings_of p) f c
root_looks p f c inside within root =
    let q = settings_of p in
    let m = root_mesh q in
    let leaf = root_leaf p c within root in
    (look_law m f c (root_is_mesh p)).at_leaf leaf ∙ stored_at m (root_is_mesh p) (field_count q) f (opening_total q) c inside leaf

-- the opening totals are those of the boxes
opening_field : (p : Problem) (f : ℕ) → f < field_count (settings_of p) → total_of (opening_mesh (settings_of p)) f ≡ lattice (cell_lattice (root_mesh (settings_of p))) 0 (opening_total (settings_of p) f)
opening_field p f inside =
    let q = settings_of p in
    let m = root_mesh q in
    let mesh = root_is_mesh p in
    remap_keeps_totals m (field_count q) f (opening_tree q) mesh (opening_least p).one_of.tree inside
    ∙ total_is_roots m f mesh
    ∙ lattice_same (cell_lattice m) 0 (look m f) (opening_total q f) (omega arith) (λ c within at. root_looks p f c inside within at)

box_order : (p : Problem) (i : ℕ) (d : StartBox) (axis : ℕ) → i < length p.boxes → axis < 3 → slice_index (slice_index_or p.boxes i d).lo axis ≤ slice_index (slice_index_or p.boxes i d).hi axis
box_order p i d axis inside along = by axis along (All-get_or (IsBox p.size (length p.moves)) p.boxes i d inside p.entries_sound.boxes_sound)
  where
    by : (a : ℕ) → a < 3 → IsBox p.size (length p.moves) (slice_index_or p.boxes i d) → slice_index (slice_index_or p.boxes i d).lo a ≤ slice_index (slice_index_or p.boxes i d).hi a
    by zero h b = b.part.along1.ordered
    by (suc zero) h b = b.part.along2.ordered
    by (suc (suc zero)) h b = b.part.along3.ordered
    by (suc (suc (suc a))) h b = absurd (omega (arith, h))

opening_sum : (p : Problem) → sum_of_all (settings_of p) (opening_mesh (settings_of p)) ≤ sum_by box_total p.boxes
opening_sum p =
    let q = settings_of p in
    let s = cell_lattice (root_mesh q) in
    let le = sum_to_le (field_count q) (total_of (opening_mesh q)) (λ f. lattice s 0 (opening_total q f)) (λ f inside. let e = opening_field p f inside in omega arith) in
    omega (arith, le, boxes_fit s (field_count q) p.boxes (box_order p))

-- a remeshing keeps the sum
next_sum : (p : Problem) (react : List ℕ → Reacted) (s : State) (r : Reached) → IsMeshOf (settings_of p) s.mesh → LeadsTo (settings_of p) react s r → sum_of_all (settings_of p) r.state.mesh ≤ sum_of_all (settings_of p) (settled (settings_of p) react s).mesh
next_sum p react s r of (stays_there e) = let q = settings_of p in let k = ap (λ (x : Reached). sum_of_all q x.state.mesh) e in omega arith
next_sum p react s r of (moves_on few e) =
    let q = settings_of p in
    let is = settled_is p react s of in
    let m = (settled q react s).mesh in
    let tree = next_tree_is p react s of m.shape is.shape in
    let next = next_tree q s.mesh (tags_of q react s) in
    let k = ap (λ (x : Reached). sum_of_all q x.state.mesh) e in
    let le = sum_to_le (field_count q) (total_of (remap m (field_count q) next)) (total_of m) (λ f inside. let t = remap_keeps_totals m (field_count q) f next is.mesh tree.0 inside in omega arith) in
    omega (arith, k, le)

-- after some cycles the sum is at most the opening one and what may have come in
pub sum_at : (p : Problem) (react : List ℕ → Reacted) → KernelLaws (field_count (settings_of p)) react → (c : ℕ) (r : Reached) → run (settings_of p) react c ≡ running r → sum_of_all (settings_of p) r.state.mesh ≤ sum_by box_total p.boxes + most_inflow p * p.nstages * c
sum_at p react laws zero r e =
    let q = settings_of p in
    let k = ap (λ (x : Reached). sum_of_all q x.state.mesh) (starts_from p react r e) in
    omega (arith, k, opening_sum p)
sum_at p react laws (suc c) r e =
    let q = settings_of p in
    let from = comes_from q react c r e in
    let of = run_stands p react c from.before from.runs in
    let before = sum_at p react laws c from.before from.runs in
    let next = next_sum p react from.before.state r of from.leads in
    let grown = grows_by_inflow p react from.before.state laws of in
    let t : most_inflow p * p.nstages * suc c ≡ most_inflow p * p.nstages * c + most_inflow p * p.nstages = grind arith in
    omega (arith, before, next, grown, t)

pub runs_stay : RunsStayWithin
runs_stay p react c r laws more e =
    let at = sum_at p react laws c r e in
    let all = p.totals_fit in
    let one : most_inflow p * (p.nlim * p.nstages) ≡ most_inflow p * p.nstages * p.nlim = grind arith in
    let le = mul-le-mul_left (most_inflow p * p.nstages) (next c p.nlim more) in
    let t : most_inflow p * p.nstages * suc c ≡ most_inflow p * p.nstages * c + most_inflow p * p.nstages = grind arith in
    omega (arith, at, all, one, le, t)
  where
    next : (c n : ℕ) → c < n → suc c ≤ n
    next c n h = omega arith
