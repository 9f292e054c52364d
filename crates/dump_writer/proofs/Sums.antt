-- The totals of fields, added up block by block.
use Rattle.std.proofs.Common.{◌≡◌, ℕ, zero, suc, ◌+◌, ◌-◌, ◌^◌, ◌<◌, ◌≤◌, false, List, [], ◌∷◌, Option, length, replicate, refl, arith, ap, subst, sym, ◌∙◌, sum, inl, inr}
use Rattle.std.specs.Prelude.{slice_index, slice_set}
use Rattle.std.specs.List.{slice_index_or}
use Rattle.std.proofs.lemmas.List.{get_or-set_other, length-set}
use Rattle.std.proofs.lemmas.Grind.{get_or-set_at}
use Rattle.std.proofs.lemmas.Bool.{cases_lt}
use Rattle.std.proofs.lemmas.List.Folds.{sum_by-replicate}
use Rattle.morton_order.specs.declared.space.Loc.{Loc}
use Rattle.block_layout.specs.declared.layout.Layout.{Layout}
use Rattle.block_layout.specs.Layouts.{interior_len}
use Rattle.alloc_epochs.specs.Shelf.{place_on}
use Rattle.field_bufs.specs.declared.buf.FieldBuf.{FieldBuf}
use Rattle.problem_set.specs.Settings.{Settings}
use Rattle.mesh_rules.specs.Sums.{sum_over, sum_to}
use Rattle.mesh_rules.specs.Fields.{field_count}
use Rattle.mesh_rules.specs.Fit.{IsMeshOf, sum_of_all}
use Rattle.mesh_rules.specs.Mesh.{Mesh, block_size, cell_at, leaf_total, stored, total_of, totals_on}
use Rattle.mesh_rules.specs.Cycle.{State}
use Rattle.mesh_laws.proofs.Reactions.{sum_items}
use Rattle.mesh_laws.proofs.Totals.{sum_to-same}
use Rattle.dense_mask.proofs.Leaves.{leaf_at, origin, stored_on_leaf}
use Rattle.dense_mask.proofs.Sums.{item_in_sum}
use Rattle.cell_block.specs.State.{HasLayout, IsNextField, IsNoneFrom, Stored, is_allocated, leaf_count}
use Rattle.cell_block.specs.Rules.{interior_at, interior_in, mesh_in}
use Rattle.cell_block.proofs.Meshes.{totals_are_interiors}
use Rattle.dump_writer.proofs.Blocks.{no_buffer}
use Rattle.dump_writer.specs.Totals.{AreSums, CanCount, StandingCounts, sum_below, sum_on_block}

-- a sum over locations by their numbers
over_numbers : (xs : List Loc) (each : Loc → ℕ) → sum_over xs each ≡ sum_to (length xs) (λ i. each (slice_index_or xs i origin))
over_numbers [] each = refl
over_numbers (x ∷ xs) each = ap (λ (v : ℕ). each x + v) (over_numbers xs each) ∙ sym (first_apart (length xs) (λ i. each (slice_index_or (x ∷ xs) i origin)))
  where
    first_apart : (n : ℕ) (g : ℕ → ℕ) → sum_to (suc n) g ≡ g 0 + sum_to n (λ i. g (suc i))
    first_apart zero g = omega arith
    first_apart (suc n) g = let e = first_apart n g in omega arith

-- what a leaf of a mesh has of a field
leaf_sum : (p : Settings) (m : Mesh) (f leaf : ℕ) → IsMeshOf p m → f < field_count p → leaf < length m.leaves → leaf_total m f (leaf_at m leaf) ≡ sum (totals_on m leaf f)
leaf_sum p m f leaf is some small =
    sum_to-same (block_size m) (λ place. stored m f (cell_at m (leaf_at m leaf) place)) (slice_index (totals_on m leaf f)) (λ place inside. stored_on_leaf m is.mesh f leaf place small inside)
    ∙ ap (λ (n : ℕ). sum_to n (slice_index (totals_on m leaf f))) (sym (is.cell_lists leaf f small some))
    ∙ sym (sum_items (totals_on m leaf f))

-- the sums over all blocks are the fields' totals
pub total_is : (p : Settings) (s : Stored) (l : Layout) (f : ℕ) → CanCount p s → HasLayout s l → f < s.fields → sum_below l s (leaf_count s) f ≡ total_of (mesh_in l s) f
total_is p s l f can has some =
    let m : Mesh = mesh_in l s in
    let few : f < field_count p = omega (arith, some, can.stored.fields) in
    sym (over_numbers m.leaves (leaf_total m f)
    ∙ sum_to-same (leaf_count s) (λ i. leaf_total m f (leaf_at m i)) (sum_on_block l s f)
    (λ leaf small. leaf_sum p m f leaf (can.mesh l has) few small ∙ ap (λ (v : List ℕ). sum v) (totals_are_interiors l s leaf f small some)))

pub total_small : (p : Settings) (s : Stored) (l : Layout) (f : ℕ) → CanCount p s → HasLayout s l → f < s.fields → sum_below l s (leaf_count s) f ≤ 2 ^ 62 - 1
total_small p s l f can has some =
    let few : f < field_count p = omega (arith, some, can.stored.fields) in
    let is = total_is p s l f can has some in
    let one = item_in_sum (field_count p) f (total_of (mesh_in l s)) few in
    let all = can.bound l has in
    omega arith

-- sums over fewer blocks are smaller
sum_less : (n more : ℕ) (g : ℕ → ℕ) → sum_to n g ≤ sum_to (n + more) g
sum_less n zero g = let e : n + 0 ≡ n = omega arith in let same = ap (λ (k : ℕ). sum_to k g) e in omega arith
sum_less n (suc more) g = let e : n + suc more ≡ suc (n + more) = omega arith in let same = ap (λ (k : ℕ). sum_to k g) e in let less = sum_less n more g in omega arith

pub sum_within : (n all : ℕ) (g : ℕ → ℕ) → n < all → sum_to n g + g n ≤ sum_to all g
sum_within n all g small =
    let e : suc n + (all - suc n) ≡ all = omega arith in
    let same = ap (λ (k : ℕ). sum_to k g) e in
    let less = sum_less (suc n) (all - suc n) g in
    omega arith

-- the first fields were added
pub record HasAdded (fields : ℕ) (each more : ℕ → ℕ) (from : ℕ) (totals : List ℕ) : Type 0 where
  pub long : length totals ≡ fields
  pub below : (f : ℕ) → f < from → f < fields → slice_index totals f ≡ each f + more f
  pub above : (f : ℕ) → from ≤ f → f < fields → slice_index totals f ≡ each f

pub none_added : (fields : ℕ) (each more : ℕ → ℕ) (totals : List ℕ) → AreSums fields each totals → HasAdded fields each more 0 totals
none_added fields each more totals are = record { long = are.long; below = λ f less some. absurd (omega arith); above = λ f after some. are.items f some }

-- of those between nothing is added
pub passed_over : (fields : ℕ) (each more : ℕ → ℕ) (from to : ℕ) (totals : List ℕ) → from ≤ to → ((f : ℕ) → from ≤ f → f < to → f < fields → more f ≡ 0) → HasAdded fields each more from totals → HasAdded fields each more to totals
passed_over fields each more from to totals after nothing has = record {
  long = has.long;
  below = λ f less some. elim (cases_lt f from) [
    | inl before ↦ has.below f before some
    | inr since ↦ let a = has.above f (omega arith) some in let b = nothing f (omega arith) less some in omega arith
  ];
  above = λ f since some. has.above f (omega arith) some;
}

pub one_added : (fields : ℕ) (each more : ℕ → ℕ) (f value : ℕ) (totals new : List ℕ) → f < fields → value ≡ each f + more f → new ≡ slice_set totals f value → HasAdded fields each more f totals → HasAdded fields each more (f + 1) new
one_added fields each more f value totals new some is written has = record {
  long = ap (λ (v : List ℕ). length v) written ∙ length-set totals f value ∙ has.long;
  below = λ k less inside. elim (cases_lt k f) [
    | inl before ↦ ap (λ (v : List ℕ). slice_index v k) written ∙ get_or-set_other totals f k value 0 (λ same. absurd (omega arith)) ∙ has.below k before inside
    | inr since ↦ let here : k ≡ f = omega arith in let long = has.long in ap (λ (v : List ℕ). slice_index v k) written ∙ get_or-set_at totals f k value 0 here (omega arith) ∙ is ∙ ap (λ (n : ℕ). each n + more n) (sym here)
  ];
  above = λ k since inside. ap (λ (v : List ℕ). slice_index v k) written ∙ get_or-set_other totals f k value 0 (λ same. absurd (omega arith)) ∙ has.above k (omega arith) inside;
}

pub all_added : (fields : ℕ) (each more : ℕ → ℕ) (from : ℕ) (totals : List ℕ) → ((f : ℕ) → from ≤ f → f < fields → more f ≡ 0) → HasAdded fields each more from totals → AreSums fields (λ f. each f + more f) totals
all_added fields each more from totals nothing has = record {
  long = has.long;
  items = λ f some. elim (cases_lt f from) [
    | inl before ↦ has.below f before some
    | inr since ↦ let a = has.above f (omega arith) some in let b = nothing f (omega arith) some in omega arith
  ];
}

-- a field that is not allocated adds nothing
zeros_sum : (n : ℕ) → sum (replicate n 0) ≡ 0
zeros_sum n = let e = sum_by-replicate (λ (x : ℕ). x) n 0 in omega (arith, e)

absent_adds_nothing : (l : Layout) (s : Stored) (leaf f : ℕ) → is_allocated s (place_on leaf f) ≡ false → sum_on_block l s f leaf ≡ 0
absent_adds_nothing l s leaf f none = ap (λ (b : Option FieldBuf). sum (interior_in l b)) (no_buffer s (place_on leaf f) none) ∙ zeros_sum (interior_len l)

-- the next that is allocated was added
pub block_added : (l : Layout) (s : Stored) (leaf from f value : ℕ) (totals new cells : List ℕ) → IsNextField s leaf from f → cells ≡ interior_at l s (place_on leaf f)
    → value ≡ slice_index totals f + sum cells → new ≡ slice_set totals f value
    → HasAdded s.fields (sum_below l s leaf) (λ k. sum_on_block l s k leaf) from totals → HasAdded s.fields (sum_below l s leaf) (λ k. sum_on_block l s k leaf) (f + 1) new
block_added l s leaf from f value totals new cells next is sums written has =
    let here = passed_over s.fields (sum_below l s leaf) (λ k. sum_on_block l s k leaf) from f totals next.after (λ k a b inside. absent_adds_nothing l s leaf k (next.first k a b)) has in
    let before = here.above f (omega arith) next.within in
    let added = ap (λ (v : List ℕ). sum v) is in
    one_added s.fields (sum_below l s leaf) (λ k. sum_on_block l s k leaf) f value totals new next.within (omega (arith, sums, before, added)) written here

-- at the end
pub block_ended : (l : Layout) (s : Stored) (leaf from : ℕ) (totals : List ℕ) → IsNoneFrom s leaf from
    → HasAdded s.fields (sum_below l s leaf) (λ k. sum_on_block l s k leaf) from totals → AreSums s.fields (λ k. sum_below l s leaf k + sum_on_block l s k leaf) totals
block_ended l s leaf from totals none has = all_added s.fields (sum_below l s leaf) (λ k. sum_on_block l s k leaf) from totals (λ k a inside. absent_adds_nothing l s leaf k (none k a inside)) has

-- so can the totals of a mesh state that stands for a state with such a mesh
pub standing_counts : StandingCounts
standing_counts p s c stands mesh bound = record {
  stored = stands.stored;
  mesh = λ l has. subst (λ (x : State). IsMeshOf p x.mesh) (sym (stands.state l has)) mesh;
  bound = λ l has. subst (λ (x : State). sum_of_all p x.mesh ≤ 2 ^ 62 - 1) (sym (stands.state l has)) bound;
}
