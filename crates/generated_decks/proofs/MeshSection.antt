-- The keys of the mesh of a generated deck.
use Rattle.std.proofs.Common.{◌≡◌, ℕ, ◌≤◌, Bool, true, false, [], ◌∷◌, refl, arith, ne_eqb, pos}
use Rattle.std.specs.Prelude.{◌==◌, nat_le, if◌then◌else◌, Some, None, Ok, codes}
use Rattle.std.specs.Str.{bytes_eq}
use Rattle.std.specs.Map.{lookup}
use Rattle.std.specs.Fmt.{decimal}
use Rattle.std.proofs.lemmas.Bool.Decides.{nat_tests}
use Rattle.input_file.specs.Texts.{Text}
use Rattle.input_file.specs.Blocks.{Blocks, keys_of}
use Rattle.deck_generator.specs.declared.form.Form.{Form}
use Rattle.deck_generator.specs.Generated.{mesh_settings}
use Rattle.mesh_settings.specs.declared.words.Mode.{Mode}
use Rattle.mesh_settings.specs.declared.words.Mode.TheVariants.{Plain, Adaptive}
use Rattle.mesh_settings.specs.declared.words.FaceKind.{FaceKind}
use Rattle.mesh_settings.specs.declared.words.FaceKind.TheVariants.{Periodic, Outflow, Reflecting, Inflow}
use Rattle.mesh_settings.specs.declared.mesh.Mesh.{Mesh}
use Rattle.mesh_settings.specs.Mesh.{mesh, size1, size2, size3, refinement, numlevel, derefine_count, is_pack_size, pack_size, face, face_pair, size, levels_in, refining, faces, mesh_keys}
use Rattle.mesh_settings.specs.Words.{mode_named, face_kind_named}
use Rattle.generated_decks.proofs.FormFacts.{IsUsual}
use Rattle.generated_decks.proofs.NumberTexts.{number_of-decimal, signed_of-decimal}
use Rattle.generated_decks.proofs.Rows.{then-ok, entry-at, value-there, value-absent, number-there, one-or-there, one-absent, signed-there}

-- how the mesh is refined
unfoldable pub mode_of : Bool → Mode
mode_of true = Adaptive
mode_of false = Plain

-- the keys of the mesh as the reader has them
unfoldable pub mesh_of : Form → Mesh
mesh_of f = record {
  size = f.cells ∷ f.cells ∷ 1 ∷ [];
  refining = record { mode = mode_of f.adaptive; levels = levels_in (mode_of f.adaptive) f.levels; derefine_count = 2; pack_size = Some f.pack_size };
  faces = Periodic ∷ Periodic ∷ Reflecting ∷ Reflecting ∷ Periodic ∷ Periodic ∷ [];
}

HasMesh : Blocks → Form → Type 0
HasMesh d f = keys_of d (codes "parthenon/mesh") ≡ mesh_settings f

size1-is : (d : Blocks) (f : Form) → IsUsual f → HasMesh d f → size1 d ≡ Ok f.cells
unfolding HasMesh size1 mesh
size1-is d f usual at =
    number-there d (codes "parthenon/mesh") (codes "nx1") (decimal f.cells) 4 4194304 f.cells None
    (entry-at d (codes "parthenon/mesh") (codes "nx1") (mesh_settings f) (Some (decimal f.cells)) at refl)
    (number_of-decimal f.cells (omega (arith, usual.most_cells))) usual.fewest_cells (omega (arith, usual.most_cells))

size2-is : (d : Blocks) (f : Form) → IsUsual f → HasMesh d f → size2 d ≡ Ok f.cells
unfolding HasMesh size2 mesh
size2-is d f usual at =
    one-or-there d (codes "parthenon/mesh") (codes "nx2") (decimal f.cells) 4 4194304 f.cells (Some 1)
    (entry-at d (codes "parthenon/mesh") (codes "nx2") (mesh_settings f) (Some (decimal f.cells)) at refl)
    (number_of-decimal f.cells (omega (arith, usual.most_cells))) usual.fewest_cells (omega (arith, usual.most_cells))

size3-is : (d : Blocks) (f : Form) → IsUsual f → HasMesh d f → size3 d f.cells ≡ Ok 1
unfolding HasMesh size3 mesh
size3-is d f usual at =
    let more : (f.cells == 1) ≡ false = ne_eqb f.cells 1 (omega (arith, usual.fewest_cells)) in
    let given = one-absent d (codes "parthenon/mesh") (codes "nx3") 4 4194304 (entry-at d (codes "parthenon/mesh") (codes "nx3") (mesh_settings f) None at refl) in
    rw more given

size-is : (d : Blocks) (f : Form) → IsUsual f → HasMesh d f → size d ≡ Ok (f.cells ∷ f.cells ∷ 1 ∷ [])
unfolding size
size-is d f usual at =
    then-ok (size1 d) f.cells _ _ (size1-is d f usual at)
    (then-ok (size2 d) f.cells _ _ (size2-is d f usual at)
    (then-ok (size3 d f.cells) 1 _ _ (size3-is d f usual at) refl))

-- the word for how the mesh is refined
mode-read : (f : Form) (adaptive : Bool) → mode_named (if adaptive then codes "adaptive" else codes "none") ≡ Some (mode_of adaptive)
unfolding mode_of
mode-read f true = refl
mode-read f false = refl

refinement-is : (d : Blocks) (f : Form) → HasMesh d f → refinement d ≡ Ok (mode_of f.adaptive)
unfolding HasMesh refinement mesh
refinement-is d f at =
    value-there mode_named d (codes "parthenon/mesh") (codes "refinement") (if f.adaptive then codes "adaptive" else codes "none") (Some Plain) (mode_of f.adaptive)
    (entry-at d (codes "parthenon/mesh") (codes "refinement") (mesh_settings f) (Some (if f.adaptive then codes "adaptive" else codes "none")) at refl)
    (mode-read f f.adaptive)

numlevel-is : (d : Blocks) (f : Form) → IsUsual f → HasMesh d f → numlevel d ≡ Ok f.levels
unfolding HasMesh numlevel mesh
numlevel-is d f usual at =
    number-there d (codes "parthenon/mesh") (codes "numlevel") (decimal f.levels) 1 11 f.levels (Some 1)
    (entry-at d (codes "parthenon/mesh") (codes "numlevel") (mesh_settings f) (Some (decimal f.levels)) at refl)
    (number_of-decimal f.levels (omega (arith, usual.two_levels))) usual.one_level (omega (arith, usual.two_levels))

derefine_count-is : (d : Blocks) (f : Form) → HasMesh d f → derefine_count d ≡ Ok 2
unfolding HasMesh derefine_count mesh
derefine_count-is d f at =
    number-there d (codes "parthenon/mesh") (codes "derefine_count") (codes "2") 1 1000 2 (Some 10)
    (entry-at d (codes "parthenon/mesh") (codes "derefine_count") (mesh_settings f) (Some (codes "2")) at refl)
    refl (omega arith) (omega arith)

pack-fits : (n : ℕ) → 1 ≤ n → n ≤ 65536 → is_pack_size (pos n) ≡ true
pack-fits n low high =
    let a : nat_le 1 n ≡ true = grind (arith, nat_tests) in
    let b : nat_le n 65536 ≡ true = grind (arith, nat_tests) in
    rw (a, b) refl

pack_size-is : (d : Blocks) (f : Form) → IsUsual f → HasMesh d f → pack_size d ≡ Ok (Some f.pack_size)
unfolding HasMesh pack_size mesh
pack_size-is d f usual at =
    then-ok _ (pos f.pack_size) _ _
    (signed-there d (codes "parthenon/mesh") (codes "pack_size") (decimal f.pack_size) is_pack_size (Some (pos 16)) (pos f.pack_size)
    (entry-at d (codes "parthenon/mesh") (codes "pack_size") (mesh_settings f) (Some (decimal f.pack_size)) at refl)
    (signed_of-decimal f.pack_size (omega (arith, usual.most_pack))) (pack-fits f.pack_size usual.least_pack usual.most_pack))
    refl

refining-is : (d : Blocks) (f : Form) → IsUsual f → HasMesh d f → refining d ≡ Ok (record { mode = mode_of f.adaptive; levels = levels_in (mode_of f.adaptive) f.levels; derefine_count = 2; pack_size = Some f.pack_size })
unfolding refining
refining-is d f usual at =
    then-ok (refinement d) (mode_of f.adaptive) _ _ (refinement-is d f at)
    (then-ok (numlevel d) f.levels _ _ (numlevel-is d f usual at)
    (then-ok (derefine_count d) 2 _ _ (derefine_count-is d f at)
    (then-ok (pack_size d) (Some f.pack_size) _ _ (pack_size-is d f usual at) refl)))

face-is : (d : Blocks) (f : Form) (key text : Text) (kind : FaceKind) → HasMesh d f → lookup (bytes_eq key) (mesh_settings f) ≡ Some text → face_kind_named text ≡ Some kind → face d key ≡ Ok kind
unfolding HasMesh face mesh
face-is d f key text kind at there is =
    value-there face_kind_named d (codes "parthenon/mesh") key text (Some Periodic) kind (entry-at d (codes "parthenon/mesh") key (mesh_settings f) (Some text) at there) is

face-absent : (d : Blocks) (f : Form) (key : Text) → HasMesh d f → lookup (bytes_eq key) (mesh_settings f) ≡ None → face d key ≡ Ok Periodic
unfolding HasMesh face mesh
face-absent d f key at none =
    value-absent face_kind_named d (codes "parthenon/mesh") key Periodic (entry-at d (codes "parthenon/mesh") key (mesh_settings f) None at none)

pair-is : (d : Blocks) (low high : Text) (kind : FaceKind) → face d low ≡ Ok kind → face d high ≡ Ok kind → face_pair d low high ≡ Ok (kind, kind)
unfolding face_pair
pair-is d low high Periodic l h = then-ok (face d low) Periodic _ _ l (then-ok (face d high) Periodic _ _ h refl)
pair-is d low high Outflow l h = then-ok (face d low) Outflow _ _ l (then-ok (face d high) Outflow _ _ h refl)
pair-is d low high Reflecting l h = then-ok (face d low) Reflecting _ _ l (then-ok (face d high) Reflecting _ _ h refl)
pair-is d low high Inflow l h = then-ok (face d low) Inflow _ _ l (then-ok (face d high) Inflow _ _ h refl)

faces-are : (d : Blocks) (f : Form) → HasMesh d f → faces d ≡ Ok (Periodic ∷ Periodic ∷ Reflecting ∷ Reflecting ∷ Periodic ∷ Periodic ∷ [])
unfolding faces
faces-are d f at =
    then-ok _ (Periodic, Periodic) _ _ (pair-is d (codes "ix1_bc") (codes "ox1_bc") Periodic (face-is d f (codes "ix1_bc") (codes "periodic") Periodic at refl refl) (face-is d f (codes "ox1_bc") (codes "periodic") Periodic at refl refl))
    (then-ok _ (Reflecting, Reflecting) _ _ (pair-is d (codes "ix2_bc") (codes "ox2_bc") Reflecting (face-is d f (codes "ix2_bc") (codes "reflecting") Reflecting at refl refl) (face-is d f (codes "ox2_bc") (codes "reflecting") Reflecting at refl refl))
    (then-ok _ (Periodic, Periodic) _ _ (pair-is d (codes "ix3_bc") (codes "ox3_bc") Periodic (face-absent d f (codes "ix3_bc") at refl) (face-absent d f (codes "ox3_bc") at refl)) refl))

-- the keys of the mesh are read
pub mesh-read : (d : Blocks) (f : Form) → IsUsual f → keys_of d (codes "parthenon/mesh") ≡ mesh_settings f → mesh_keys d ≡ Ok (mesh_of f)
unfolding HasMesh mesh_keys mesh_of
mesh-read d f usual at =
    then-ok (size d) _ _ _ (size-is d f usual at) (then-ok (refining d) _ _ _ (refining-is d f usual at) (then-ok (faces d) _ _ _ (faces-are d f at) refl))
