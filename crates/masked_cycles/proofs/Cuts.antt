-- What is made zero where a field is not kept, and what of it is dropped.
use Rattle.std.proofs.Common.{◌≡◌, ℕ, zero, suc, ◌+◌, ◌<◌, Bool, true, false, cond, ◌&&◌, ◌||◌, not, List, ◌∷◌, map, length, refl, ap, sym, ◌∙◌}
use Rattle.std.specs.Prelude.{replicate, sum}
use Rattle.std.specs.List.{range_with_len}
use Rattle.std.proofs.lemmas.Bool.{false≢true}
use Rattle.std.proofs.lemmas.List.FromFn.{length-map-range_with_len}
use Rattle.morton_order.specs.declared.space.Loc.{Loc}
use Rattle.problem_set.specs.Settings.{Settings}
use Rattle.mesh_rules.specs.Sums.{table}
use Rattle.mesh_rules.specs.Mesh.{IsMesh, Mesh, block_of, block_size, cell_at, filled, stored, totals_on}
use Rattle.mesh_rules.specs.Fields.{field_count, is_sparse}
use Rattle.mesh_rules.specs.Mask.{Mask, Slot, called, cut, leaf_dropped, slot_at, stays}
use Rattle.mesh_laws.proofs.LeafSums.{block_of_cell}
use Rattle.letter_laws.proofs.Boxes.{table_same}
use Rattle.dense_mesh.proofs.Tables.{table_by}
use Rattle.dense_mask.proofs.Leaves.{HasRow, leaf_at, number_of_leaf, stored_on_leaf}
use Rattle.dense_mask.proofs.Sums.{leaf_sum}
use Rattle.kernel_stages.proofs.Stages.{filled_totals}

-- a place of a mesh with a list of totals, and a mask by which what no block may go without is kept
pub record IsCut (p : Settings) (m : Mesh) (mask : Mask) (b f : ℕ) : Type 0 where
  pub mesh : IsMesh m
  pub few : b < length m.leaves
  pub some : f < field_count p
  pub long : length (totals_on m b f) ≡ block_size m
  pub always : is_sparse p f ≡ false → (slot_at mask b f).kept ≡ true

pub stays_is : (p : Settings) (m : Mesh) (mask : Mask) (b f : ℕ) → IsCut p m mask b f → stays p m mask f (leaf_at m b) ≡ (slot_at mask b f).kept
stays_is p m mask b f c =
    ap (λ n. not (is_sparse p f) || (slot_at mask n f).kept) (number_of_leaf m c.mesh b c.few) ∙ by (is_sparse p f) refl
  where
    by : (t : Bool) → is_sparse p f ≡ t → (not t || (slot_at mask b f).kept) ≡ (slot_at mask b f).kept
    by true e = refl
    by false e = sym (c.always e)

pub row_is : (p : Settings) (m : Mesh) (mask : Mask) (b f : ℕ) → IsCut p m mask b f → HasRow m f b (totals_on m b f)
row_is p m mask b f c = record {
  long = c.long;
  row = sym (table_by (totals_on m b f) (block_size m) (λ place. stored m f (cell_at m (leaf_at m b) place)) 0 c.long (λ place inside. sym (stored_on_leaf m c.mesh f b place c.few inside)));
}

zeros : (n : ℕ) → ◌≡◌ {A = List ℕ} (table n (λ _. 0)) (replicate n 0)
zeros n = from 0 n
  where
    from : (a n : ℕ) → ◌≡◌ {A = List ℕ} (map (λ (_ : ℕ). 0) (range_with_len a n)) (replicate n 0)
    from a zero = refl
    from a (suc n) = ap (λ (v : List ℕ). 0 ∷ v) (from (a + 1) n)

-- the totals that are left
pub cut_totals : (p : Settings) (m : Mesh) (mask : Mask) (b f : ℕ) → IsCut p m mask b f → totals_on (cut p mask m) b f ≡ cond (slot_at mask b f).kept (totals_on m b f) (replicate (block_size m) 0)
cut_totals p m mask b f c =
    let l : Loc = leaf_at m b in
    let kept : Bool = (slot_at mask b f).kept in
    filled_totals m (field_count p) f b (λ f c. cond (stays p m mask f (block_of m c)) (stored m f c) 0) c.some c.few
    ∙ table_same (block_size m) (λ place. cond (stays p m mask f (block_of m (cell_at m l place))) (stored m f (cell_at m l place)) 0) (λ place. cond kept (stored m f (cell_at m l place)) 0)
    (λ place inside. ap (λ (v : Loc). cond (stays p m mask f v) (stored m f (cell_at m l place)) 0) (block_of_cell m c.mesh.some_cells l place inside) ∙ ap (λ t. cond t (stored m f (cell_at m l place)) 0) (stays_is p m mask b f c))
    ∙ by kept
  where
    by : (t : Bool) → table (block_size m) (λ place. cond t (stored m f (cell_at m (leaf_at m b) place)) 0) ≡ cond t (totals_on m b f) (replicate (block_size m) 0)
    by true = (row_is p m mask b f c).row
    by false = zeros (block_size m)

pub cut_long : (m : Mesh) (fields b f : ℕ) (each : ℕ → Loc → ℕ) → f < fields → b < length m.leaves → length (totals_on (filled m fields each) b f) ≡ block_size m
cut_long m fields b f each some few =
    ap (λ (v : List ℕ). length v) (filled_totals m fields f b each some few) ∙ length-map-range_with_len (λ place. each f (cell_at m (leaf_at m b) place)) 0 (block_size m)

-- what is dropped
pub drop_is : (p : Settings) (m : Mesh) (mask : Mask) (b f : ℕ) → IsCut p m mask b f → cond (slot_at mask b f).kept 0 (sum (totals_on m b f)) ≡ leaf_dropped p mask m f (leaf_at m b)
drop_is p m mask b f c =
    ap (λ t. cond t 0 (sum (totals_on m b f))) (sym (stays_is p m mask b f c))
    ∙ ap (λ v. cond (stays p m mask f (leaf_at m b)) 0 v) (sym (leaf_sum m f b (totals_on m b f) (row_is p m mask b f c)))

-- a slot after more
pub called_kept : (s : Slot) (sparse calls : Bool) → (sparse ≡ false → s.kept ≡ true) → (s.kept || (sparse && calls)) ≡ (called s calls).kept
called_kept s sparse calls always = by s.kept sparse refl refl
  where
    by : (t u : Bool) → s.kept ≡ t → sparse ≡ u → (t || (u && calls)) ≡ (cond t s (record { kept = calls; idle = 0 })).kept
    by true u e g = sym e
    by false true e g = refl
    by false false e g = absurd (false≢true (sym e ∙ always g))

pub called_idle : (s : Slot) (calls : Bool) → (s.kept ≡ false → s.idle ≡ 0) → s.idle ≡ (called s calls).idle
called_idle s calls fresh = by s.kept refl
  where
    by : (t : Bool) → s.kept ≡ t → s.idle ≡ (cond t s (record { kept = calls; idle = 0 })).idle
    by true e = refl
    by false e = fresh e
