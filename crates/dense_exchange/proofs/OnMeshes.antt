-- What stands on a mesh from which an exchange starts.
use Rattle.std.proofs.Common.{◌≡◌, inl, inr, ℕ, zero, suc, ◌+◌, ◌-◌, ◌*◌, ◌/◌, ◌%◌, ◌^◌, ◌<◌, ◌≤◌, Bool, true, false, cond, nat_lt, List, [], ◌∷◌, All, length, refl, arith, ap, subst, sym, ◌∙◌, slice_index}
use Rattle.std.specs.List.{list_any, slice_index_or}
use Rattle.std.proofs.Math.Nat.{div-add-mod', mul-le-mul_left}
use Rattle.std.proofs.lemmas.Bool.{cases_lt}
use Rattle.std.proofs.lemmas.Bool.Decides.{nat_tests}
use Rattle.std.proofs.lemmas.List.{get_or_past}
use Rattle.std.proofs.lemmas.List.Elements.{All-get_or}
use Rattle.mesh_num.specs.Share.{share}
use Rattle.morton_order.specs.declared.space.Loc.{Loc}
use Rattle.morton_order.specs.Space.{same_loc}
use Rattle.morton_order.proofs.Any.{or_left, or_right}
use Rattle.morton_order.proofs.Touching.{same_loc-self}
use Rattle.block_tree.specs.Blocks.{leaves}
use Rattle.block_tree.specs.Tree.{IsLeaf, is_listed}
use Rattle.block_tree.proofs.KeyOrder.{leaves_law}
use Rattle.mesh_rules.specs.Sums.{sum_to}
use Rattle.mesh_rules.specs.Mesh.{is_inner, total_of}
use Rattle.mesh_rules.specs.Fields.{field_count}
use Rattle.block_geometry.specs.Blocks.{IsFieldBlock}
use Rattle.letter_laws.specs.Sides.{IsSide}
use Rattle.dense_exchange.specs.declared.field_mesh.FieldMesh.{FieldMesh}
use Rattle.block_layout.specs.Layouts.{len}
use Rattle.dense_mesh.specs.Ghosts.{list_at}
use Rattle.dense_exchange.specs.FieldMeshes.{CanExchange, HoldOwn, block_on, leaf_count, leaf_on, mesh_in, settings_in}

-- an item of a list is listed
pub item_listed : (xs : List Loc) (i : ℕ) (d : Loc) → i < length xs → is_listed xs (slice_index_or xs i d) ≡ true
item_listed [] i d h = absurd (omega arith)
item_listed (x ∷ xs) zero d h = or_left (same_loc x x) (list_any (same_loc x) xs) (same_loc-self x)
item_listed (x ∷ xs) (suc i) d h = or_right (same_loc (slice_index_or xs i d) x) (list_any (same_loc (slice_index_or xs i d)) xs) (item_listed xs i d (omega arith))

-- a number below the count of leaves is that of a leaf
pub leaf_of : (e : FieldMesh) (leaf : ℕ) → CanExchange e → leaf < leaf_count e → IsLeaf (mesh_in e).shape (is_inner (mesh_in e)) (leaf_on e leaf)
leaf_of e leaf on few =
    let mesh = on.mesh.mesh.mesh in
    ((leaves_law (mesh_in e).shape (is_inner (mesh_in e)) mesh.shape mesh.tree).leaves (leaf_on e leaf)).0 (item_listed (leaves e.tree.now) leaf _ few)

pub block_of : (e : FieldMesh) (leaf : ℕ) → CanExchange e → leaf < leaf_count e → IsFieldBlock (block_on e leaf)
block_of e leaf on few = record {
  mesh = on.mesh.mesh.mesh;
  leaf = leaf_of e leaf on few;
  layout = record { dims = on.mesh.dims ∙ sym (ap (λ s. s.dims) on.mesh.mesh.shape); cells = on.mesh.cells };
}

pub side_of : (e : FieldMesh) (leaf axis : ℕ) → CanExchange e → leaf < leaf_count e → axis < e.layout.now.dims → IsSide (block_on e leaf) axis
side_of e leaf axis on few used = record { sound = block_of e leaf on few; used = used }

-- the field is one of the problem's
pub field_in : (e : FieldMesh) → CanExchange e → e.field < field_count (settings_in e)
field_in e on = subst (λ v. e.field < v) e.problem.now.fields_sound.same_length on.field

term_below : (n : ℕ) (g : ℕ → ℕ) (j : ℕ) → j < n → g j ≤ sum_to n g
term_below zero g j h = absurd (omega arith)
term_below (suc n) g j h = elim (cases_lt j n) [
  | inl less ↦ let r = term_below n g j less in omega arith
  | inr last ↦ let e : j ≡ n = omega arith in let f : g j ≡ g n = ap g e in omega arith
]

-- its total is below the bound of all lists
below_top : (total all : ℕ) → total ≤ all → all ≤ 2 ^ 62 - 1 → total < 2 ^ 62
below_top total all h k = omega arith

pub total_small : (e : FieldMesh) → CanExchange e → total_of (mesh_in e) e.field < 2 ^ 62
total_small e on = below_top (total_of (mesh_in e) e.field) _ (term_below (field_count (settings_in e)) (total_of (mesh_in e)) e.field (field_in e on)) on.mesh.bound

-- a share is at most what is shared
pub share_below : (q n j : ℕ) → 1 ≤ n → share q n j ≤ q
share_below q n j some =
    let split : q / n * n + q % n ≡ q = div-add-mod' q n in
    let more : q / n * 1 ≤ q / n * n = mul-le-mul_left (q / n) some in
    by (nat_lt j (q % n)) refl split more
  where
    less : (a b : ℕ) → nat_lt a b ≡ true → a < b
    less a b h = grind (arith, nat_tests)

    by : (t : Bool) → nat_lt j (q % n) ≡ t → q / n * n + q % n ≡ q → q / n * 1 ≤ q / n * n → q / n + cond t 1 0 ≤ q
    by true e split more = let l = less j (q % n) e in omega arith
    by false e split more = omega arith

-- each item of a list below a bound, and nothing past its end
pub item_below : (xs : List ℕ) (bound i : ℕ) → 0 < bound → All (λ total. total < bound) xs → slice_index xs i < bound
item_below xs bound i some all = elim (cases_lt i (length xs)) [
  | inl inside ↦ All-get_or (λ total. total < bound) xs i 0 inside all
  | inr past ↦ subst (λ v. v < bound) (sym (get_or_past xs i 0 past)) some
]

-- an item that is there, whatever else it would be
pub same_item : {X : Type 0} (xs : List X) (i : ℕ) (x d : X) → i < length xs → x ≡ slice_index_or xs i x → x ≡ slice_index_or xs i d
same_item {X} xs i x d few is = is ∙ by xs i few
  where
    by : (ys : List X) (j : ℕ) → j < length ys → slice_index_or ys j x ≡ slice_index_or ys j d
    by [] j h = absurd (omega arith)
    by (y ∷ ys) zero h = refl
    by (y ∷ ys) (suc j) h = by ys j (omega arith)

-- the list of a leaf as it is read
pub read_list : (e : FieldMesh) (ghosts : List (List ℕ)) (leaf : ℕ) (x : List ℕ) → HoldOwn e ghosts → leaf < leaf_count e → x ≡ slice_index_or ghosts leaf x → x ≡ list_at ghosts leaf
read_list e ghosts leaf x held few is = same_item ghosts leaf x [] (subst (λ v. leaf < v) (sym held.lists.count) few) is

pub read_long : (e : FieldMesh) (ghosts : List (List ℕ)) (leaf : ℕ) (x : List ℕ) → HoldOwn e ghosts → leaf < leaf_count e → x ≡ slice_index_or ghosts leaf x → length x ≡ len e.layout.now
read_long e ghosts leaf x held few is = ap length (read_list e ghosts leaf x held few is) ∙ held.lists.sizes leaf few
