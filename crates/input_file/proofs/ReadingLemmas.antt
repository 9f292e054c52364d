-- A key that is set in the current block.
use Rattle.std.proofs.Common.{◌≡◌, ℕ, zero, suc, ◌<◌, [], ◌∷◌, refl, ap, sym, ◌∙◌, length, subst, arith}
use Rattle.std.specs.Prelude.{Option, Some, None, Ok, IfSome, option_and_then, option_map, slice_get}
use Rattle.input_file.specs.Texts.{Text}
use Rattle.input_file.specs.Blocks.{Entries, Blocks, name_at, set}
use Rattle.input_file.specs.Decks.{Reading, after_setting}

-- there is a block at each place below the number of blocks, and nowhere else
pub block_within : (d : Blocks) (i : ℕ) → i < length d → (e : Text × Entries) × (slice_get d i ≡ Some e)
block_within [] i h = absurd (omega arith)
block_within (e ∷ d) zero h = (e, refl)
block_within (e ∷ d) (suc i) h = block_within d i (omega arith)

pub within-name : (d : Blocks) (i : ℕ) (name : Text) → name_at d i ≡ Some name → i < length d
within-name [] i name at = absurd (cc)
within-name (e ∷ d) zero name at = omega arith
within-name (e ∷ d) (suc i) name at = let h : i < length d = within-name d i name at in omega arith

-- what is known after a key was set in the block at a place, which is the current one
pub record PutIn (number : ℕ) (s : Reading) (new : Blocks) (i : ℕ) (key value : Text) : Type 0 where
  pub within : i < length new
  pub answer : after_setting number s.0 s.1 key value ≡ Ok (new, name_at new i)

put_in-here : (number : ℕ) (d new : Blocks) (i : ℕ) (key value : Text) → i < length d → IfSome (name_at d i) (λ block. new ≡ set d block key value) → name_at new i ≡ name_at d i → PutIn number (d, name_at d i) new i key value
put_in-here number d new i key value h is_set same =
    let e : (e : Text × Entries) × (slice_get d i ≡ Some e) = block_within d i h in
    let name : name_at d i ≡ Some e.0.0 = ap (option_map (λ (e : Text × Entries). e.0)) e.1 in
    record {
      within = within-name new i e.0.0 (same ∙ name);
      answer = rw (same, name) (ap (λ (n : Blocks). Ok (n, Some e.0.0)) (sym (rw name at is_set)));
    }

pub put_in : (number : ℕ) (d : Blocks) (current : Option ℕ) (s : Reading) (new : Blocks) (i : ℕ) (key value : Text) → (d, option_and_then (name_at d) current) ≡ s → current ≡ Some i → IfSome current (λ j. j < length d) → IfSome (name_at d i) (λ block. new ≡ set d block key value) → name_at new i ≡ name_at d i → PutIn number s new i key value
put_in number d None s new i key value is at h is_set same = absurd (cc)
put_in number d (Some j) s new i key value is at h is_set same =
    let here : j ≡ i = cc in
    subst (λ (r : Reading). PutIn number r new i key value) is
    (subst (λ (k : ℕ). PutIn number (d, name_at d k) new i key value) (sym here)
    (put_in-here number d new i key value (subst (λ (k : ℕ). k < length d) here h) is_set same))
