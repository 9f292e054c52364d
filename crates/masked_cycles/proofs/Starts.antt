-- The run starts as a masked serial run may.
use Rattle.std.proofs.Common.{◌≡◌, ℕ, suc, ◌<◌, Bool, true, false, cond, ◌&&◌, not, nat_lt, List, [], ◌∷◌, All, length, refl, arith, ap, sym, ◌∙◌, slice_index}
use Rattle.std.specs.Prelude.{replicate}
use Rattle.std.proofs.lemmas.Bool.{and_parts, lt-ltb}
use Rattle.std.proofs.lemmas.Bool.Decides.{nat_tests}
use Rattle.std.proofs.lemmas.List.Elements.{All-get_or}
use Rattle.problem_set.specs.SettingsOf.{settings_of}
use Rattle.mesh_rules.specs.Mesh.{totals_on}
use Rattle.mesh_rules.specs.Fields.{field_count, is_sparse}
use Rattle.mesh_rules.specs.Mask.{slot_at}
use Rattle.block_layout.specs.Indices.{count_of}
use Rattle.block_layout.specs.Layouts.{interior_len}
use Rattle.masked_cycles.specs.Cycles.{Cycle, IsPlace, StartsAreStarts, is_place, may_be_absent}

less : (a b : ℕ) → nat_lt a b ≡ true → a < b
less a b h = grind (arith, nat_tests)

pub place_of : (c : Cycle) (b f : ℕ) → is_place c b f ≡ true → IsPlace c b f
place_of c b f h =
    let (p, q) = and_parts (nat_lt b (length c.state.mesh.leaves)) (nat_lt f (field_count (settings_of c.problem))) h in
    record { block = less b (length c.state.mesh.leaves) p; field = less f (field_count (settings_of c.problem)) q }

pub place_is : (c : Cycle) (b f : ℕ) → IsPlace c b f → is_place c b f ≡ true
place_is c b f at = ap (λ t. t && nat_lt f (field_count (settings_of c.problem))) (lt-ltb b (length c.state.mesh.leaves) at.block) ∙ lt-ltb f (field_count (settings_of c.problem)) at.field

-- a list of zeros
pub all_zero : (xs : List ℕ) (n : ℕ) → length xs ≡ n → All (λ total. total ≡ 0) xs → xs ≡ replicate n 0
all_zero xs n long all = by xs (λ i few. All-get_or (λ total. total ≡ 0) xs i 0 few all) ∙ ap (λ k. replicate k 0) long
  where
    by : (ys : List ℕ) → ((i : ℕ) → i < length ys → slice_index ys i ≡ 0) → ys ≡ replicate (length ys) 0
    by [] h = refl
    by (y ∷ ys) h = ap (λ v. v ∷ ys) (h 0 (omega arith)) ∙ ap (λ (v : List ℕ). 0 ∷ v) (by ys (λ i few. h (suc i) (omega arith)))

pub starts_are_starts : StartsAreStarts
starts_are_starts c is = record {
  others_kept = λ b f h. others b f (is_place c b f) refl h;
  rest_zero = λ b f h. zero_by b f (is_place c b f) refl h;
}
  where
    sparse_is : (f : ℕ) → f < field_count (settings_of c.problem) → may_be_absent c f ≡ is_sparse (settings_of c.problem) f
    sparse_is f some = ap (λ t. cond t (is_sparse (settings_of c.problem) f) true) (lt-ltb f (field_count (settings_of c.problem)) some)

    others : (b f : ℕ) (t : Bool) → is_place c b f ≡ t → may_be_absent c f ≡ false → cond t (slot_at c.state.mask b f).kept (not (may_be_absent c f)) ≡ true
    others b f true e h = let at = place_of c b f e in is.fit.mask.always b f at.block at.field (sym (sparse_is f at.field) ∙ h)
    others b f false e h = ap not h

    zero_by : (b f : ℕ) (t : Bool) → is_place c b f ≡ t → cond t (slot_at c.state.mask b f).kept (not (may_be_absent c f)) ≡ false → cond t (totals_on c.state.mesh b f) (replicate (interior_len c.layout) 0) ≡ replicate (interior_len c.layout) 0
    zero_by b f true e h =
        let at = place_of c b f e in
        all_zero (totals_on c.state.mesh b f) (interior_len c.layout) (is.fit.mesh.cell_lists b f at.block at.field ∙ ap count_of (sym is.layout.cells)) (is.fit.mask.zero b f at.block at.field h)
    zero_by b f false e h = refl
