-- The rates and the sum of all totals of a generated deck fit.
use Rattle.std.proofs.Common.{◌≡◌, ℕ, zero, suc, ◌+◌, ◌*◌, ◌-◌, ◌<◌, ◌≤◌, Bool, true, false, List, [], ◌∷◌, map, refl, ap, ◌∙◌, arith, ne_eqb, le-leb, ℤ}
use Rattle.std.specs.Prelude.{◌==◌, nat_le, if◌then◌else◌, sum_by, Ok}
use Rattle.std.specs.List.{range_with_len, zip}
use Rattle.std.proofs.lemmas.List.Sums.{sum_by-cons}
use Rattle.package_fields.specs.declared.field.Field.{Field}
use Rattle.deck_generator.specs.declared.form.Form.{Form}
use Rattle.deck_generator.specs.Generated.{first_cell}
use Rattle.mesh_settings.specs.declared.words.FaceKind.{FaceKind}
use Rattle.mesh_settings.specs.declared.words.FaceKind.TheVariants.{Periodic, Reflecting}
use Rattle.deck_entries.specs.declared.entries.StartBox.{StartBox}
use Rattle.mesh_settings.specs.Mesh.{levels_in}
use Rattle.mesh_settings.specs.Grid.{dims_of}
use Rattle.problem_set.specs.Fitting.{sum_fits, rates_fit}
use Rattle.problem_set.specs.Rates.{upwards, downwards, rate_sum, stage_inflow, box_total, bound}
use Rattle.generated_decks.proofs.FormFacts.{IsUsual}
use Rattle.generated_decks.proofs.MeshSection.{mode_of}
use Rattle.generated_decks.proofs.GridSection.{mesh_size}
use Rattle.generated_decks.proofs.FieldSection.{one_field, pool, sparse_flags, moves_with}
use Rattle.generated_decks.proofs.BoxSection.{box_with}

-- ---- rates

rates-small : (id level : ℕ) (z1 z2 : ℤ) → level ≤ 1 → upwards z1 + downwards z1 ≤ 2 → upwards z2 + downwards z2 ≤ 2 → rate_sum 2 level (one_field id) (moves_with z1 z2) ≤ 64
unfolding one_field moves_with sparse_flags
rates-small id zero z1 z2 low s1 s2 = omega (arith, s1, s2)
rates-small id (suc zero) z1 z2 low s1 s2 = omega (arith, s1, s2)
rates-small id (suc (suc level)) z1 z2 low s1 s2 = absurd (omega arith)

rates-fit-one : (i level : ℕ) (z1 z2 : ℤ) → level ≤ 1 → upwards z1 + downwards z1 ≤ 2 → upwards z2 + downwards z2 ≤ 2 → sum_fits (moves_with z1 z2).order (rate_sum 2 level (one_field i) (moves_with z1 z2)) 64 ≡ true
unfolding moves_with
rates-fit-one i level z1 z2 low s1 s2 = le-leb (rate_sum 2 level (one_field i) (moves_with z1 z2)) 64 (rates-small i level z1 z2 low s1 s2)

all-rates : (level : ℕ) (z1 z2 : ℤ) (ids : List ℕ) → level ≤ 1 → upwards z1 + downwards z1 ≤ 2 → upwards z2 + downwards z2 ≤ 2 → rates_fit 2 level 64 (zip (map one_field ids) (map (λ (x : Field). moves_with z1 z2) (map one_field ids))) ≡ Ok tt
all-rates level z1 z2 [] low s1 s2 = refl
all-rates level z1 z2 (i ∷ ids) low s1 s2 =
    step (sum_fits (moves_with z1 z2).order (rate_sum 2 level (one_field i) (moves_with z1 z2)) 64) _ (rates-fit-one i level z1 z2 low s1 s2) (all-rates level z1 z2 ids low s1 s2)
  where
    step : {A : Type 0} {rest done : A} (b : Bool) (bad : A) → b ≡ true → rest ≡ done → (if b then rest else bad) ≡ done
    step b bad h k = rw h k

-- the axes in use
pub two-axes : (f : Form) → IsUsual f → dims_of (mesh_size f) ≡ 2
unfolding mesh_size
two-axes f usual = let more : (f.cells == 1) ≡ false = ne_eqb f.cells 1 (omega (arith, usual.fewest_cells)) in rw more refl

pub rates-of-all : (f : Form) (level : ℕ) (z1 z2 : ℤ) → IsUsual f → level ≤ 1 → upwards z1 + downwards z1 ≤ 2 → upwards z2 + downwards z2 ≤ 2 → rates_fit (dims_of (mesh_size f)) level 64 (zip (pool 0 f.fields) (map (λ (x : Field). moves_with z1 z2) (pool 0 f.fields))) ≡ Ok tt
unfolding pool
rates-of-all f level z1 z2 usual low s1 s2 =
    ap (λ (n : ℕ). rates_fit n level 64 (zip (map one_field (range_with_len 0 f.fields)) (map (λ (x : Field). moves_with z1 z2) (map one_field (range_with_len 0 f.fields))))) (two-axes f usual)
    ∙ all-rates level z1 z2 (range_with_len 0 f.fields) low s1 s2

pub finest-level : (adaptive : Bool) (levels : ℕ) → 1 ≤ levels → levels ≤ 2 → levels_in (mode_of adaptive) levels - 1 ≤ 1
unfolding mode_of
finest-level true levels low high = omega arith
finest-level false levels low high = omega arith

-- ---- totals

-- the faces of a generated deck
unfoldable pub closed_faces : List FaceKind
closed_faces = Periodic ∷ Periodic ∷ Reflecting ∷ Reflecting ∷ Periodic ∷ Periodic ∷ []

nothing-in : (size : List ℕ) (z1 z2 : ℤ) (ids : List ℕ) → stage_inflow 2 size closed_faces (map one_field ids) (map (λ (x : Field). moves_with z1 z2) (map one_field ids)) ≡ 0
unfolding closed_faces one_field moves_with sparse_flags
nothing-in size z1 z2 [] = refl
nothing-in size z1 z2 (i ∷ ids) = nothing-in size z1 z2 ids

across : (a : ℕ) → a + 1 + 1 - a ≡ 2
across a = omega arith

pub box-small : (f : Form) (i r1 r2 : ℕ) → i ≤ 256 → box_total (box_with f i r1 r2) ≤ 6000
unfolding box_with
box-small f i r1 r2 few = rw (across (first_cell f r1), across (first_cell f r2)) (omega arith)

pub boxes-small : (g : ℕ → StartBox) (n a : ℕ) → ((i : ℕ) → i < a + n → box_total (g i) ≤ 6000) → sum_by box_total (map g (range_with_len a n)) ≤ n * 6000
boxes-small g zero a each = omega arith
boxes-small g (suc n) a each =
    let rest : sum_by box_total (map g (range_with_len (a + 1) n)) ≤ n * 6000 = boxes-small g n (a + 1) (λ i h. each i (omega arith)) in
    let first : box_total (g a) ≤ 6000 = each a (omega arith) in
    let all : sum_by box_total (g a ∷ map g (range_with_len (a + 1) n)) ≡ box_total (g a) + sum_by box_total (map g (range_with_len (a + 1) n)) = sum_by-cons box_total (g a) (map g (range_with_len (a + 1) n)) in
    omega arith

pub total-fits : (f : Form) (size : List ℕ) (dims nlim : ℕ) (z1 z2 : ℤ) (boxes : List StartBox) → dims ≡ 2 → sum_by box_total boxes ≤ 2000000 → nat_le (bound dims size closed_faces nlim 2 (pool 0 f.fields) (map (λ (x : Field). moves_with z1 z2) (pool 0 f.fields)) boxes) 4611686018427387903 ≡ true
unfolding pool
total-fits f size dims nlim z1 z2 boxes two few =
    let none : stage_inflow dims size closed_faces (pool 0 f.fields) (map (λ (x : Field). moves_with z1 z2) (pool 0 f.fields)) ≡ 0 =
    ap (λ (n : ℕ). stage_inflow n size closed_faces (pool 0 f.fields) (map (λ (x : Field). moves_with z1 z2) (pool 0 f.fields))) two ∙ nothing-in size z1 z2 (range_with_len 0 f.fields) in
    sum-fits (sum_by box_total boxes) _ (nlim * 2) none few
  where
    sum-fits : (sum inflow times : ℕ) → inflow ≡ 0 → sum ≤ 2000000 → nat_le (sum + inflow * times) 4611686018427387903 ≡ true
    sum-fits sum inflow times h small =
        let product : inflow * times ≡ 0 = ap (λ (x : ℕ). x * times) h ∙ omega arith in
        le-leb (sum + inflow * times) 4611686018427387903 (omega arith)
