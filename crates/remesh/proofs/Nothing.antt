-- What comes from leaves where nothing is: zeros.
use Rattle.std.proofs.Common.{◌≡◌, ℕ, zero, suc, ◌+◌, ◌*◌, ◌/◌, ◌%◌, ◌<◌, ◌≤◌, Bool, true, false, cond, nat_lt, Option, Some, None, List, [], get_or, length, replicate, slice_index, refl, arith, ap, subst, sym, ◌∙◌, sum, inl, inr}
use Rattle.std.specs.Prelude.{if◌then◌else◌}
use Rattle.std.specs.Option.{option_and_then}
use Rattle.std.specs.List.{list_any, range_with_len, slice_index_or}
use Rattle.std.proofs.Math.Nat.{mul-le-mul_right}
use Rattle.std.proofs.lemmas.Bool.{cases_lt, false≢true, le-ltb}
use Rattle.std.proofs.lemmas.List.{get_or-replicate, get_or_past, length-replicate}
use Rattle.morton_order.specs.declared.space.Loc.{Loc}
use Rattle.morton_order.specs.Space.{factor, parts}
use Rattle.morton_order.proofs.Any.{any_range-has}
use Rattle.mesh_num.specs.Share.{share}
use Rattle.mesh_laws.proofs.Grids.{sum_zero}
use Rattle.block_layout.specs.declared.layout.Layout.{Layout}
use Rattle.block_layout.specs.Indices.{count_of}
use Rattle.block_layout.specs.Layouts.{interior_len}
use Rattle.alloc_epochs.specs.Shelf.{place_on}
use Rattle.restrict_prolong.specs.Boxes.{at_box}
use Rattle.restrict_prolong.specs.Refined.{coarsened, factors, part_index, part_number}
use Rattle.dense_remesh.specs.declared.origins.Origin.{Origin}
use Rattle.dense_remesh.specs.declared.origins.Origin.TheVariants.{Leaf, Parent, Children}
use Rattle.dense_remesh.specs.Parts.{IsTaken, child_list, list_of}
use Rattle.cell_block.specs.State.{Entry, HasLayout, Stored, entry_at, is_allocated, leaf_count}
use Rattle.cell_block.specs.Rules.{interior_in}
use Rattle.remesh.specs.Lists.{field_in}
use Rattle.remesh.specs.Sources.{AreNumbersOf, IsNumberOf, comes_to, is_on}
use Rattle.remesh.proofs.Filled.{absent}
use Rattle.remesh.proofs.InLists.{list_at}

-- a list of zeros
pub zeros_at : (n i : ℕ) → slice_index (replicate {A = ℕ} n 0) i ≡ 0
zeros_at n i = elim (cases_lt i n) [
  | inl inside ↦ get_or-replicate {A = ℕ} n i 0 0 inside
  | inr beyond ↦ get_or_past (replicate {A = ℕ} n 0) i 0 (omega (arith, length-replicate {A = ℕ} n 0, beyond))
]

none_there : (l : Layout) (s : Stored) (f leaf : ℕ) → leaf < leaf_count s → is_allocated s (place_on leaf f) ≡ false → slice_index_or (field_in l s f) leaf [] ≡ replicate (interior_len l) 0
none_there l s f leaf small off =
    list_at l s f leaf small ∙ ap (λ (o : Option Entry). interior_in l (option_and_then (λ (e : Entry). e.buf) o)) (absent s (place_on leaf f) off)

-- nothing is shared out of nothing
share_nothing : (n j : ℕ) → 1 ≤ n → share 0 n j ≡ 0
share_nothing n j some =
    let none : 0 / n ≡ 0 = omega arith in
    let rest : 0 % n ≡ 0 = omega arith in
    ap (λ v. v + (if nat_lt j (0 % n) then 1 else 0)) none
    ∙ ap (λ v. 0 + (if nat_lt j v then 1 else 0)) rest
    ∙ ap (λ (b : Bool). 0 + (if b then 1 else 0)) (le-ltb j 0 (omega arith))

some_factors : (dims axis : ℕ) → 1 ≤ factor dims axis
some_factors dims axis = by (nat_lt axis dims)
  where
    by : (b : Bool) → 1 ≤ cond b 2 1
    by true = omega arith
    by false = omega arith

some_parts : (a b c : ℕ) → 1 ≤ a → 1 ≤ b → 1 ≤ c → 1 ≤ a * b * c
some_parts a b c x y z =
    let one : 1 * b ≤ a * b = mul-le-mul_right b x in
    let two : 1 * c ≤ (a * b) * c = mul-le-mul_right c (omega arith) in
    omega arith

-- zeros are what comes where the field is on none of the old leaves
pub nothing_taken : (l : Layout) (s : Stored) (f : ℕ) (at : Loc) (o : Origin) → l.dims ≡ s.dims → AreNumbersOf s o → comes_to s o f ≡ false → IsTaken l (field_in l s f) at o (replicate (interior_len l) 0)
nothing_taken l s f at (Leaf x) dims small off = sym (none_there l s f x small off)
nothing_taken l s f at (Parent x) dims small off = (
  length-replicate {A = ℕ} (interior_len l) 0,
  λ p w.
      let coarse : List ℕ = slice_index_or (field_in l s f) x [] in
      let none : (i : ℕ) → slice_index coarse i ≡ 0 = λ i. ap (λ (v : List ℕ). slice_index v i) (none_there l s f x small off) ∙ zeros_at (interior_len l) i in
      let count : 1 ≤ count_of (factors l.dims) = some_parts (factor l.dims 0) (factor l.dims 1) (factor l.dims 2) (some_factors l.dims 0) (some_factors l.dims 1) (some_factors l.dims 2) in
      zeros_at (interior_len l) _
      ∙ sym (ap (λ q. share q (count_of (factors l.dims)) (part_number (factors l.dims) p)) (none _) ∙ share_nothing (count_of (factors l.dims)) (part_number (factors l.dims) p) count),
)
nothing_taken l s f at (Children numbers) dims small off = (
  length-replicate {A = ℕ} (interior_len l) 0,
  λ j few i w.
      let less : j < parts s.dims = subst (λ d. j < parts d) dims few in
      let none = child_none (slice_index_or numbers j None) (small j less) (none_passes j less) in
      zeros_at (interior_len l) _
      ∙ sym (sum_zero (count_of (factors l.dims)) _ (λ k inside. none _)),
)
  where
    none_passes : (j : ℕ) → j < parts s.dims → is_on s (slice_index_or numbers j None) f ≡ false
    none_passes j less = by (is_on s (slice_index_or numbers j None) f) refl
      where
        by : (b : Bool) → is_on s (slice_index_or numbers j None) f ≡ b → b ≡ false
        by true e = absurd (false≢true (sym off ∙ any_range-has (λ k. is_on s (slice_index_or numbers k None) f) 0 (parts s.dims) j (omega arith) (omega arith) e))
        by false e = refl

    child_none : (o : Option ℕ) → IsNumberOf s o → is_on s o f ≡ false → (i : ℕ) → slice_index (list_of (field_in l s f) o) i ≡ 0
    child_none None small off i = refl
    child_none (Some x) small off i = ap (λ (v : List ℕ). slice_index v i) (none_there l s f x small off) ∙ zeros_at (interior_len l) i

pub parts_some : (dims : ℕ) → 0 < parts dims
parts_some dims = let e = some_parts (factor dims 0) (factor dims 1) (factor dims 2) (some_factors dims 0) (some_factors dims 1) (some_factors dims 2) in omega (arith, e)
