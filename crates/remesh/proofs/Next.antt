-- The first field that comes to a leaf.
use Rattle.std.proofs.Common.{◌≡◌, ℕ, zero, suc, ◌+◌, ◌<◌, ◌≤◌, Bool, true, false, ◌||◌, Option, Some, None, List, min, refl, arith, ap, subst, sym, ◌∙◌, sum, inl, inr}
use Rattle.std.specs.List.{list_any, range_with_len, slice_index_or}
use Rattle.std.proofs.Math.Path.{fun_ext}
use Rattle.std.proofs.lemmas.Bool.{cases_lt}
use Rattle.morton_order.proofs.Any.{or_left, or_right}
use Rattle.alloc_epochs.specs.Shelf.{place_on}
use Rattle.cell_block.specs.State.{IsNextField, Stored, is_allocated}
use Rattle.remesh.specs.Sources.{IsFirst, IsNext, NonePasses, earlier, is_below, is_on}

or_false : (b : Bool) → (b || false) ≡ b
or_false true = refl
or_false false = refl

or_assoc : (a b c : Bool) → (a || (b || c)) ≡ ((a || b) || c)
or_assoc true b c = refl
or_assoc false b c = refl

neither : (a b : Bool) → a ≡ false → b ≡ false → (a || b) ≡ false
neither a b x y = ap (λ (v : Bool). v || b) x ∙ y

-- a test of a range that is one longer
any_more : (p : ℕ → Bool) (a n : ℕ) → list_any p (range_with_len a (suc n)) ≡ (list_any p (range_with_len a n) || p (a + n))
any_more p a zero = let e : a + 0 ≡ a = omega arith in or_false (p a) ∙ ap p (sym e)
any_more p a (suc n) =
    let e : (a + 1) + n ≡ a + suc n = omega arith in
    ap (λ (b : Bool). p a || b) (any_more p (a + 1) n ∙ ap (λ k. list_any p (range_with_len (a + 1) n) || p k) e)
    ∙ or_assoc (p a) (list_any p (range_with_len (a + 1) n)) (p (a + suc n))

below_more : (s : Stored) (numbers : List (Option ℕ)) (j f : ℕ) → is_below s numbers (suc j) f ≡ (is_below s numbers j f || is_on s (slice_index_or numbers j None) f)
below_more s numbers j f =
    let e : 0 + j ≡ j = omega arith in
    any_more (λ k. is_on s (slice_index_or numbers k None) f) 0 j ∙ ap (λ k. is_below s numbers j f || is_on s (slice_index_or numbers k None) f) e

-- the first number that passes one of two tests
either : (p q : ℕ → Bool) (from end : ℕ) (a b : Option ℕ) → IsNext p from end a → IsNext q from end b → IsNext (λ f. p f || q f) from end (earlier a b)
either p q from end None None x y = λ f low high. neither (p f) (q f) (x f low high) (y f low high)
either p q from end None (Some n) x y = record {
  after = y.after;
  within = y.within;
  there = or_right (p n) (q n) y.there;
  first = λ f low high. neither (p f) (q f) (x f low (omega (arith, y.within))) (y.first f low high);
}
either p q from end (Some m) None x y = record {
  after = x.after;
  within = x.within;
  there = or_left (p m) (q m) x.there;
  first = λ f low high. neither (p f) (q f) (x.first f low high) (y f low (omega (arith, x.within)));
}
either p q from end (Some m) (Some n) x y = elim (cases_lt n m) [
  | inl less ↦
      let e : min m n ≡ n = omega arith in
      subst (λ k. IsFirst (λ f. p f || q f) from end k) (sym e) (record {
        after = y.after;
        within = y.within;
        there = or_right (p n) (q n) y.there;
        first = λ f low high. neither (p f) (q f) (x.first f low (omega (arith, less))) (y.first f low high);
      })
  | inr most ↦
      let e : min m n ≡ m = omega arith in
      subst (λ k. IsFirst (λ f. p f || q f) from end k) (sym e) (record {
        after = x.after;
        within = x.within;
        there = or_left (p m) (q m) x.there;
        first = λ f low high. neither (p f) (q f) (x.first f low high) (y.first f low (omega (arith, most)));
      })
]

-- one child more
pub next_more : (s : Stored) (numbers : List (Option ℕ)) (j from end : ℕ) (a b : Option ℕ) → IsNext (is_below s numbers j) from end a → IsNext (is_on s (slice_index_or numbers j None)) from end b →
    IsNext (is_below s numbers (j + 1)) from end (earlier a b)
next_more s numbers j from end a b x y =
    let e : j + 1 ≡ suc j = omega arith in
    subst (λ k. IsNext (is_below s numbers k) from end (earlier a b)) (sym e)
    (subst (λ (p : ℕ → Bool). IsNext p from end (earlier a b)) (fun_ext (λ f. sym (below_more s numbers j f)))
    (either (is_below s numbers j) (is_on s (slice_index_or numbers j None)) from end a b x y))

-- what a mesh state says of its next field
pub next_of : (s : Stored) (block from next : ℕ) → IsNextField s block from next → IsFirst (λ f. is_allocated s (place_on block f)) from s.fields next
next_of s block from next is = record { after = is.after; within = is.within; there = is.there; first = is.first }
