-- For the code: the field blocks of each package, chained in deck order.
use Rattle.std.specs.Prelude.{◌≡◌, ◌≤◌, ◌+◌, ℕ, suc, List, [], drop, length, slice_get, Option, Some, None}
use Rattle.std.specs.BTreeMap.{BTreeMap, get_by}
use Rattle.std.specs.Cmp.Lexicographic.{slice_cmp}
use Rattle.std.specs.Ordering.{nat_cmp}
use denote.Ref.{Bor}
use Rattle.input_file.specs.Texts.{Text}
use Rattle.deck_entries.specs.declared.field_blocks.FieldBlock.{FieldBlock}
use Rattle.mesh_settings.specs.Limits.{most_fields}
use Rattle.problem_set.specs.Packages.{blocks_of}

-- of a registry's fields and one more that is refused, as many are gathered
abbrev pub most_gathered : ℕ
most_gathered = most_fields + 1

-- the blocks of a package from a place on; none where there is no place
abbrev pub rest_from : List FieldBlock → Text → Option ℕ → List FieldBlock
rest_from blocks name None = []
rest_from blocks name (Some i) = blocks_of (drop i blocks) name

-- of the blocks from `i` on, the first one of a package stands at this place; none is there without a place
pub record IsFirstFrom (blocks : List FieldBlock) (i : ℕ) (name : Text) (first : Option ℕ) : Type 0 where
  pub rest : blocks_of (drop i blocks) name ≡ rest_from blocks name first
  pub place : (j : ℕ) → first ≡ Some j → (b : FieldBlock) × (i ≤ j) × (slice_get blocks j ≡ Some b) × (b.package_name ≡ name)

-- for each block, where the next one of the same package stands
pub record AreChained (blocks : List FieldBlock) (next : List (Option ℕ)) : Type 0 where
  pub as_many : length next ≡ length blocks
  pub chained : (i : ℕ) (b : FieldBlock) (n : Option ℕ) → slice_get blocks i ≡ Some b → slice_get next i ≡ Some n → IsFirstFrom blocks (suc i) b.package_name n

-- the place that is noted for a package
abbrev pub place_in : BTreeMap (Bor Text) ℕ → Text → Option ℕ
place_in places name = get_by (λ k. slice_cmp nat_cmp name k.now) places
