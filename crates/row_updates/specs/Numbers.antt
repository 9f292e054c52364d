-- The numbers by which one number is updated.
use Rattle.std.specs.Prelude.{ℕ, List, slice_index}

-- the number itself, and the four beside it
pub record Numbers : Type 0 where
  pub own : ℕ
  pub first : ℕ
  pub second : ℕ
  pub third : ℕ
  pub fourth : ℕ

-- those at one place of five rows
abbrev pub numbers_at : List ℕ → List ℕ → List ℕ → List ℕ → List ℕ → ℕ → Numbers
numbers_at own first second third fourth k = record {
  own = slice_index own k;
  first = slice_index first k;
  second = slice_index second k;
  third = slice_index third k;
  fourth = slice_index fourth k;
}
