-- The fields of a leaf, copied one after another.
use Rattle.std.proofs.Common.{◌≡◌, ◌==◌, ℕ, ◌+◌, ◌<◌, ◌≤◌, Bool, true, false, cond, inl, inr, Option, Some, None, is_some, List, [], ◌∷◌, ◌++◌, length, length-append, refl, arith, ap, sym, subst, ◌∙◌, eq-eqb}
use Rattle.std.specs.List.{slice_index_or}
use Rattle.std.specs.Option.{option_and_then, option_map, option_or}
use Rattle.std.specs.Prelude.{unwrap_or}
use Rattle.std.proofs.lemmas.Bool.{cases_eq, cases_lt, eqb-true, false≢true}
use Rattle.std.proofs.lemmas.List.{get_or_append_left}
use Rattle.std.proofs.Math.Seq.{get_or-append_seam}
use Rattle.std.proofs.lemmas.List.Folds.{find-append}
use Rattle.block_layout.specs.Indices.{count_of}
use Rattle.sparse_pool.specs.declared.place.Place.{Place}
use Rattle.alloc_epochs.specs.Shelf.{place_on}
use Rattle.cell_block.specs.State.{Entry, IsNextField, IsNoneFrom, Stored, entry_at, is_allocated}
use Rattle.cell_block.specs.Rules.{interior_in}
use Rattle.cycle_openings.specs.declared.leaf_fields.LeafField.{LeafField}
use Rattle.cycle_openings.specs.LeafFields.{AreFieldsOn, AreOnLeaves, IsFieldAt, found, totals_of}

-- the fields below a number have what a mesh state has on a leaf, and there is none from it on
pub record AreFieldsBelow (s : Stored) (leaf upto : ℕ) (fields : List LeafField) : Type 0 where
  pub below : (f : ℕ) → f < upto → IsFieldAt s (place_on leaf f) (found fields f)
  pub above : (f : ℕ) → upto ≤ f → found fields f ≡ None

-- nothing is kept where a field is not allocated
absent_entry : (o : Option Entry) → is_some o ≡ false → o ≡ None
absent_entry None none = refl
absent_entry (Some x) none = absurd (false≢true (sym none))

pub absent_is : (s : Stored) (at : Place) → is_allocated s at ≡ false → IsFieldAt s at None
absent_is s at none =
    let nothing : entry_at s at ≡ None = absent_entry (entry_at s at) none in
    record {
      slot = sym (ap (λ (o : Option Entry). record { kept = is_some o; idle = unwrap_or (option_map (λ (e : Entry). e.idle) o) 0 }) nothing);
      totals = λ l has.
          ap (λ (cells : List ℕ). totals_of (count_of cells) None) (sym has.cells)
          ∙ sym (ap (λ (o : Option Entry). interior_in l (option_and_then (λ (e : Entry). e.buf) o)) nothing);
    }

pub none_yet : (s : Stored) (leaf : ℕ) → AreFieldsBelow s leaf 0 []
none_yet s leaf = record { below = λ f less. absurd (omega (arith, less)); above = λ f more. refl }

-- what a number that is not allocated has, where nothing was copied of it
none_there : (s : Stored) (leaf f : ℕ) (fields : List LeafField) → found fields f ≡ None
    → is_allocated s (place_on leaf f) ≡ false → IsFieldAt s (place_on leaf f) (found fields f)
none_there s leaf f fields nothing none =
    subst (IsFieldAt s (place_on leaf f)) (sym nothing) (absent_is s (place_on leaf f) none)

-- the fields up to the next one that is allocated have what the mesh state has
pub passed : (s : Stored) (leaf from next : ℕ) (fields : List LeafField) → IsNextField s leaf from next
    → AreFieldsBelow s leaf from fields → AreFieldsBelow s leaf next fields
passed s leaf from next fields is are = record {
  below = λ f less. elim (cases_lt f from) [
    | inl before ↦ are.below f before
    | inr after ↦ none_there s leaf f fields (are.above f after) (is.first f after less)
  ];
  above = λ f more. are.above f (omega (arith, is.after, more));
}

-- one more of them
more_found : (fields : List LeafField) (x : LeafField) (f : ℕ)
    → found (fields ++ x ∷ []) f ≡ option_or (found fields f) (cond (x.field == f) (Some x) None)
more_found fields x f = find-append (λ (y : LeafField). y.field == f) fields (x ∷ [])

not_this : (n f : ℕ) → (n ≡ f → ⊥) → (n == f) ≡ false
not_this n f ne = by (n == f) refl
  where
    by : (b : Bool) → (n == f) ≡ b → (n == f) ≡ false
    by false e = e
    by true e = absurd (ne (eqb-true n f e))

found_still : (fields : List LeafField) (x : LeafField) (f : ℕ) → (x.field ≡ f → ⊥) → found (fields ++ x ∷ []) f ≡ found fields f
found_still fields x f ne = more_found fields x f ∙ ap (λ (b : Bool). option_or (found fields f) (cond b (Some x) None)) (not_this x.field f ne) ∙ or_none (found fields f)
  where
    or_none : (o : Option LeafField) → option_or o None ≡ o
    or_none None = refl
    or_none (Some y) = refl

found_now : (fields : List LeafField) (x : LeafField) → found fields x.field ≡ None → found (fields ++ x ∷ []) x.field ≡ Some x
found_now fields x none = more_found fields x x.field
    ∙ ap (λ (o : Option LeafField). option_or o (cond (x.field == x.field) (Some x) None)) none
    ∙ ap (λ (b : Bool). cond b (Some x) None) (eq-eqb x.field x.field refl)

pub added : (s : Stored) (leaf from next : ℕ) (fields : List LeafField) (x : LeafField) → IsNextField s leaf from next
    → AreFieldsBelow s leaf from fields → x.field ≡ next → IsFieldAt s (place_on leaf next) (Some x)
    → AreFieldsBelow s leaf (next + 1) (fields ++ x ∷ [])
added s leaf from next fields x is are number there = record {
  below = λ f less. elim (cases_eq f next) [
    | inl e ↦ subst (λ (n : ℕ). IsFieldAt s (place_on leaf n) (found (fields ++ x ∷ []) n)) (sym e) here
    | inr ne ↦ subst (IsFieldAt s (place_on leaf f)) (sym (found_still fields x f (λ same. ne (sym same ∙ number))))
        (upto.below f (omega (arith, less, ne)))
  ];
  above = λ f more. found_still fields x f (λ same. absurd (omega (arith, same, number, more)))
      ∙ upto.above f (omega (arith, more));
}
  where
    upto : AreFieldsBelow s leaf next fields
    upto = passed s leaf from next fields is are

    here : IsFieldAt s (place_on leaf next) (found (fields ++ x ∷ []) next)
    here = subst (IsFieldAt s (place_on leaf next))
        (sym (ap (found (fields ++ x ∷ [])) (sym number) ∙ found_now fields x (upto.above x.field (omega (arith, number))))) there

-- at the end these are the fields of the leaf
pub all_found : (s : Stored) (leaf from : ℕ) (fields : List LeafField) → IsNoneFrom s leaf from → AreFieldsBelow s leaf from fields
    → AreFieldsOn s leaf fields
all_found s leaf from fields none are f less = elim (cases_lt f from) [
  | inl before ↦ are.below f before
  | inr after ↦ none_there s leaf f fields (are.above f after) (none f after less)
]

-- one leaf more
pub no_leaf : (s : Stored) → AreOnLeaves s 0 []
no_leaf s = record { long = refl; each = λ leaf less. absurd (omega (arith, less)) }

pub one_leaf_more : (s : Stored) (leaves : ℕ) (copies : List (List LeafField)) (fields : List LeafField) → AreOnLeaves s leaves copies
    → AreFieldsOn s leaves fields → AreOnLeaves s (leaves + 1) (copies ++ fields ∷ [])
one_leaf_more s leaves copies fields are more = record {
  long = length-append copies (fields ∷ []) ∙ ap (λ (n : ℕ). n + 1) are.long;
  each = λ leaf less. elim (cases_lt leaf (length copies)) [
    | inl before ↦ subst (AreFieldsOn s leaf) (sym (get_or_append_left copies (fields ∷ []) [] leaf before)) (are.each leaf (omega (arith, before, are.long)))
    | inr after ↦
        let e : leaf ≡ length copies = omega (arith, less, after, are.long) in
        subst (AreFieldsOn s leaf) (sym (ap (λ (n : ℕ). slice_index_or (copies ++ fields ∷ []) n []) e ∙ get_or-append_seam copies fields [] [])) (subst (λ (n : ℕ). AreFieldsOn s n fields) (sym (e ∙ are.long)) more)
  ];
}
