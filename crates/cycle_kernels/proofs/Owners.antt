-- The lists of tasks that blocks belong to, and the flags of fields.
use Rattle.std.proofs.Common.{◌≡◌, inl, inr, ℕ, ◌+◌, ◌-◌, ◌*◌, ◌/◌, ◌^◌, ◌<◌, ◌≤◌, Bool, true, false, ◌&&◌, ◌||◌, not, min, Option, Some, None, List, [], ◌∷◌, length, refl, arith, ap, subst, sym, ◌∙◌}
use Rattle.std.specs.Option.{ForSome}
use Rattle.std.proofs.lemmas.Bool.{and_parts, cases_lt, false≢true}
use Rattle.std.proofs.lemmas.List.{get_or_past}
use Rattle.std.proofs.lemmas.List.Elements.{All-get_or}
use Rattle.std.proofs.lemmas.Nat.{le-div}
use Rattle.std.proofs.Math.Nat.{div-mul-le_self, pow-zero}
use Rattle.morton_order.specs.declared.space.Loc.{Loc}
use Rattle.morton_order.specs.Space.{IsIn, factor, root_along}
use Rattle.block_tree.specs.Leaves.{roots}
use Rattle.block_tree.specs.Tree.{is_listed}
use Rattle.block_tree.proofs.Counting.{leaf_count}
use Rattle.block_tree.proofs.KeyOrder.{root_of}
use Rattle.package_fields.specs.declared.field.Field.{Field}
use Rattle.package_fields.specs.declared.flag.Flag.{Flag}
use Rattle.package_fields.specs.declared.flag.Flag.TheVariants.{Cell, Derived, FillGhost, Independent, OneCopy, WithFluxes}
use Rattle.package_fields.specs.Flags.{has, none_twice, one_of, permitted}
use Rattle.mesh_rules.specs.Mesh.{IsMesh, Mesh, is_inner}
use Rattle.mesh_rules.specs.Due.{partition_size}
use Rattle.mesh_rules.specs.Fields.{field_at, field_count, has_fluxes, has_ghosts}
use Rattle.cycle_kernels.specs.Blocks.{CycleMesh, block_count}
use Rattle.cycle_kernels.specs.Laws.{BlocksAreOwned, IsCycleMesh}

-- there is a leaf
some_listed : (ls : List Loc) (l : Loc) → is_listed ls l ≡ true → 1 ≤ length ls
some_listed [] l h = absurd (false≢true h)
some_listed (x ∷ xs) l h = omega arith

first_root : (n f : ℕ) → 1 ≤ n → 0 < n * f ^ 0
first_root n f h = let e : f ^ 0 ≡ 1 = pow-zero f in subst (λ v. 0 < n * v) (sym e) (omega arith)

pub some_block : (m : Mesh) → IsMesh m → 1 ≤ length m.leaves
some_block m mesh =
    let l : Loc = record { level = 0; l1 = 0; l2 = 0; l3 = 0 } in
    let inside : IsIn m.shape l = record { level = omega arith; within1 = first_root (root_along m.shape 0) (factor m.shape.dims 0) mesh.shape.roots1.0; within2 = first_root (root_along m.shape 1) (factor m.shape.dims 1) mesh.shape.roots2.0; within3 = first_root (root_along m.shape 2) (factor m.shape.dims 2) mesh.shape.roots3.0 } in
    let root : 1 ≤ length (roots m.shape) = some_listed (roots m.shape) l (root_of m.shape mesh.shape l inside) in
    let count = leaf_count m.shape (is_inner m) mesh.shape in
    subst (λ (v : List Loc). 1 ≤ length v) (sym mesh.leaves) (omega (arith, count, root))

-- the quotient of what is below the whole
within_count : (k n s : ℕ) → 1 ≤ s → 1 ≤ n → k ≤ n - 1 → k / s < (n + s - 1) / s
within_count k n s some leaves low =
    let a : k / s * s ≤ k = div-mul-le_self k s in
    let b : k / s + 1 ≤ (n + s - 1) / s = le-div (k / s + 1) (n + s - 1) s some (omega (arith, a)) in
    omega (arith, b)

some_size : (o : Option ℕ) (n : ℕ) → ForSome o (λ size. 1 ≤ size) → 1 ≤ n → 1 ≤ partition_size o n
some_size None n packs some = some
some_size (Some size) n packs some = packs size refl

pub owned : BlocksAreOwned
owned w b is =
    let n : ℕ = block_count w in
    let some = some_block w.mesh is.mesh in
    within_count (min b (n - 1)) n (partition_size w.settings.pack_size n) (some_size w.settings.pack_size n is.packs some) some (omega arith)

-- a field with fluxes has ghosts
needs : (a b : Bool) → (not a || b) ≡ true → a ≡ true → b ≡ true
needs true b h e = h
needs false b h e = absurd (false≢true e)

flags_need : (flags : List Flag) → permitted flags ≡ true → has WithFluxes flags ≡ true → has FillGhost flags ≡ true
flags_need flags h fluxes =
    let front : Bool = none_twice flags && has Cell flags && one_of (has Independent flags) (has OneCopy flags) && not (has Derived flags) in
    let both = needs (has WithFluxes flags) (has Independent flags && has FillGhost flags) (and_parts front (not (has WithFluxes flags) || (has Independent flags && has FillGhost flags)) h).1 fluxes in
    (and_parts (has Independent flags) (has FillGhost flags) both).1

pub fluxes_need_ghosts : (w : CycleMesh) (f : ℕ) → IsCycleMesh w → has_fluxes w.settings f ≡ true → has_ghosts w.settings f ≡ true
fluxes_need_ghosts w f is h = elim (cases_lt f (field_count w.settings)) [
  | inl few ↦ flags_need (field_at w.settings f).flags (All-get_or (λ (x : Field). permitted x.flags ≡ true) w.settings.fields.fields f no_field few is.fields.fields_sound.all_permitted) h
  | inr more ↦ absurd (false≢true (sym (ap (λ (x : Field). has WithFluxes x.flags) (get_or_past w.settings.fields.fields f no_field more)) ∙ h))
]
  where
    no_field : Field
    no_field = record { label = []; base = []; id = None; flags = [] }
