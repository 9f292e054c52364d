-- Tables: their length, their items, and when two are one.
use Rattle.std.proofs.Common.{◌≡◌, ℕ, ◌+◌, ◌<◌, List, length, map, refl, arith, ◌∙◌, sym}
use Rattle.std.specs.List.{range_with_len, slice_index_or}
use Rattle.std.proofs.lemmas.List.{ext_get_or}
use Rattle.std.proofs.lemmas.List.FromFn.{get_or-map-range_with_len, length-map-range_with_len}
use Rattle.mesh_rules.specs.Sums.{table}

pub table_length : {X : Type 0} (n : ℕ) (f : ℕ → X) → length (table n f) ≡ n
table_length n f = length-map-range_with_len f 0 n

pub table_at : {X : Type 0} (n : ℕ) (f : ℕ → X) (k : ℕ) (d : X) → k < n → slice_index_or (table n f) k d ≡ f k
table_at n f k d lt = get_or-map-range_with_len f 0 n k k d lt (omega arith)

-- a list with the items of a table is that table
pub table_by : {X : Type 0} (xs : List X) (n : ℕ) (f : ℕ → X) (d : X) → length xs ≡ n → ((k : ℕ) → k < n → slice_index_or xs k d ≡ f k) → xs ≡ table n f
table_by xs n f d long items = ext_get_or d xs (table n f) (long ∙ sym (table_length n f)) (λ k lt. items k (omega arith) ∙ sym (table_at n f k d (omega arith)))

pub table_same : {X : Type 0} (n : ℕ) (f g : ℕ → X) (d : X) → ((k : ℕ) → k < n → f k ≡ g k) → table n f ≡ table n g
table_same n f g d same = table_by (table n f) n g d (table_length n f) (λ k lt. table_at n f k d lt ∙ same k lt)
