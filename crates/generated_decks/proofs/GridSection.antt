-- The keys of the blocks of the mesh, of time and of the whole numbers of a generated deck.
use Rattle.std.proofs.Common.{◌≡◌, ℕ, ◌*◌, ◌/◌, ◌≤◌, true, false, List, [], ◌∷◌, refl, arith, ne_eqb, le-leb}
use Rattle.std.specs.Prelude.{◌==◌, nat_le, Option, Some, None, Ok, codes}
use Rattle.std.specs.Fmt.{decimal}
use Rattle.deck_values.specs.Numbers.{number_of}
use Rattle.deck_values.specs.BlockReader.{number}
use Rattle.input_file.specs.Texts.{Text}
use Rattle.input_file.specs.Blocks.{Blocks, keys_of, entry}
use Rattle.deck_generator.specs.declared.form.Form.{Form}
use Rattle.deck_generator.specs.Generated.{meshblock_settings, time_settings, whole_settings}
use Rattle.mesh_settings.specs.declared.words.FaceKind.{FaceKind}
use Rattle.mesh_settings.specs.declared.grid.Grid.{Grid}
use Rattle.mesh_settings.specs.declared.stepping.Stepping.{Stepping}
use Rattle.mesh_settings.specs.Grid.{meshblock, cells_along, cells_or_one, cells, shape_of, root_blocks, grid}
use Rattle.mesh_settings.specs.Stepping.{time, sparse, whole, nlim, alloc_threshold, dealloc_threshold, dealloc_count, denominator, nstages, refine_every, dump_every, sparsity, cycle_settings, stepping}
use Rattle.generated_decks.proofs.FormFacts.{IsUsual}
use Rattle.generated_decks.proofs.NumberTexts.{number_of-decimal}
use Rattle.generated_decks.proofs.Rows.{then-ok, entry-at, number-there, number-absent}

HasMeshblock : Blocks → Form → Type 0
HasMeshblock d f = keys_of d (codes "parthenon/meshblock") ≡ meshblock_settings f

-- the cells of the mesh along each axis, and those of a block
unfoldable pub mesh_size : Form → List ℕ
mesh_size f = f.cells ∷ f.cells ∷ 1 ∷ []

unfoldable pub block_size : Form → List ℕ
block_size f = f.block_cells ∷ f.block_cells ∷ 1 ∷ []

along-is : (d : Blocks) (f : Form) (key : Text) → IsUsual f → entry d (codes "parthenon/meshblock") key ≡ Some (decimal f.block_cells) → cells_along d key f.cells ≡ Ok f.block_cells
unfolding cells_along meshblock
along-is d f key usual there =
    then-ok _ f.block_cells _ _
    (number-there d (codes "parthenon/meshblock") key (decimal f.block_cells) 4 64 f.block_cells (Some f.cells) there
    (number_of-decimal f.block_cells (omega (arith, usual.most_block_cells))) usual.fewest_block_cells usual.most_block_cells)
    (rw (usual.even, usual.divides) refl)

one-is : (d : Blocks) (f : Form) (key : Text) → entry d (codes "parthenon/meshblock") key ≡ None → cells_or_one d key 1 ≡ Ok 1
unfolding cells_or_one meshblock
one-is d f key absent = number-absent d (codes "parthenon/meshblock") key 1 1 1 absent (omega arith) (omega arith)

or-one-is : (d : Blocks) (f : Form) (key : Text) → IsUsual f → entry d (codes "parthenon/meshblock") key ≡ Some (decimal f.block_cells) → cells_or_one d key f.cells ≡ Ok f.block_cells
unfolding cells_or_one
or-one-is d f key usual there =
    let more : (f.cells == 1) ≡ false = ne_eqb f.cells 1 (omega (arith, usual.fewest_cells)) in
    let given = along-is d f key usual there in
    rw more given

cells-are : (d : Blocks) (f : Form) → IsUsual f → HasMeshblock d f → cells d (mesh_size f) ≡ Ok (block_size f)
unfolding HasMeshblock cells mesh_size block_size
cells-are d f usual at =
    then-ok (cells_along d (codes "nx1") f.cells) f.block_cells _ _ (along-is d f (codes "nx1") usual (entry-at d (codes "parthenon/meshblock") (codes "nx1") (meshblock_settings f) (Some (decimal f.block_cells)) at refl))
    (then-ok (cells_or_one d (codes "nx2") f.cells) f.block_cells _ _ (or-one-is d f (codes "nx2") usual (entry-at d (codes "parthenon/meshblock") (codes "nx2") (meshblock_settings f) (Some (decimal f.block_cells)) at refl))
    (then-ok (cells_or_one d (codes "nx3") 1) 1 _ _ (one-is d f (codes "nx3") (entry-at d (codes "parthenon/meshblock") (codes "nx3") (meshblock_settings f) None at refl)) refl))

few-roots : (f : Form) → IsUsual f → nat_le (root_blocks (mesh_size f) (block_size f)) 65536 ≡ true
unfolding mesh_size block_size
few-roots f usual = let few : (f.cells / f.block_cells) * (f.cells / f.block_cells) * 1 ≤ 65536 = usual.roots in le-leb _ 65536 few

-- the lattice as the reader has it
unfoldable pub grid_of : Form → List FaceKind → Grid
grid_of f faces = record { shape = shape_of (mesh_size f) (block_size f) faces; cells = block_size f }

pub grid-read : (d : Blocks) (f : Form) (faces : List FaceKind) → IsUsual f → keys_of d (codes "parthenon/meshblock") ≡ meshblock_settings f → grid d (mesh_size f) faces ≡ Ok (grid_of f faces)
unfolding HasMeshblock grid grid_of
grid-read d f faces usual at =
    then-ok (cells d (mesh_size f)) (block_size f) _ _ (cells-are d f usual at) (rw (few-roots f usual) refl)

-- ---- time and whole numbers

whole-number : (d : Blocks) (key text : Text) (least greatest n : ℕ) (default : Option ℕ) → keys_of d (codes "whole") ≡ whole_settings → entry d (codes "whole") key ≡ Some text → number_of text ≡ Some n → least ≤ n → n ≤ greatest → number d whole key least greatest default ≡ Ok n
unfolding whole
whole-number d key text least greatest n default at there is low high = number-there d (codes "whole") key text least greatest n default there is low high

sparse-default : (d : Blocks) (key : Text) (least greatest n : ℕ) → keys_of d (codes "parthenon/sparse") ≡ [] → least ≤ n → n ≤ greatest → number d sparse key least greatest (Some n) ≡ Ok n
unfolding sparse
sparse-default d key least greatest n at low high = number-absent d (codes "parthenon/sparse") key least greatest n (entry-at d (codes "parthenon/sparse") key [] None at refl) low high

unfoldable pub stepping_of : Form → Stepping
stepping_of f = record {
  nlim = f.cycles;
  sparsity = record { alloc_threshold = 0; dealloc_threshold = 0; dealloc_count = 5 };
  cycle = record { denominator = 64; nstages = 2; refine_every = 2; dump_every = 4 };
}

nlim-is : (d : Blocks) (f : Form) → IsUsual f → keys_of d (codes "parthenon/time") ≡ time_settings f → nlim d ≡ Ok f.cycles
unfolding nlim time
nlim-is d f usual at =
    number-there d (codes "parthenon/time") (codes "nlim") (decimal f.cycles) 0 65535 f.cycles None
    (entry-at d (codes "parthenon/time") (codes "nlim") (time_settings f) (Some (decimal f.cycles)) at refl)
    (number_of-decimal f.cycles (omega (arith, usual.few_cycles))) (omega arith) usual.few_cycles

sparsity-is : (d : Blocks) → keys_of d (codes "parthenon/sparse") ≡ [] → sparsity d ≡ Ok (record { alloc_threshold = 0; dealloc_threshold = 0; dealloc_count = 5 })
unfolding sparsity alloc_threshold dealloc_threshold dealloc_count
sparsity-is d at =
    then-ok _ 0 _ _ (sparse-default d (codes "alloc_threshold") 0 4611686018427387903 0 at (omega arith) (omega arith))
    (then-ok _ 0 _ _ (sparse-default d (codes "dealloc_threshold") 0 4611686018427387903 0 at (omega arith) (omega arith))
    (then-ok _ 5 _ _ (sparse-default d (codes "dealloc_count") 1 65535 5 at (omega arith) (omega arith)) refl))

cycle-is : (d : Blocks) → keys_of d (codes "whole") ≡ whole_settings → cycle_settings d ≡ Ok (record { denominator = 64; nstages = 2; refine_every = 2; dump_every = 4 })
unfolding cycle_settings denominator nstages refine_every dump_every
cycle-is d at =
    then-ok _ 64 _ _ (whole-number d (codes "denominator") (codes "64") 1 1000000000 64 (Some 1000) at (entry-at d (codes "whole") (codes "denominator") whole_settings (Some (codes "64")) at refl) refl (omega arith) (omega arith))
    (then-ok _ 2 _ _ (whole-number d (codes "nstages") (codes "2") 1 4 2 (Some 1) at (entry-at d (codes "whole") (codes "nstages") whole_settings (Some (codes "2")) at refl) refl (omega arith) (omega arith))
    (then-ok _ 2 _ _ (whole-number d (codes "refine_every") (codes "2") 1 65535 2 (Some 1) at (entry-at d (codes "whole") (codes "refine_every") whole_settings (Some (codes "2")) at refl) refl (omega arith) (omega arith))
    (then-ok _ 4 _ _ (whole-number d (codes "dump_every") (codes "4") 1 65535 4 (Some 10) at (entry-at d (codes "whole") (codes "dump_every") whole_settings (Some (codes "4")) at refl) refl (omega arith) (omega arith)) refl)))

pub stepping-read : (d : Blocks) (f : Form) → IsUsual f → keys_of d (codes "parthenon/time") ≡ time_settings f → keys_of d (codes "parthenon/sparse") ≡ [] → keys_of d (codes "whole") ≡ whole_settings → stepping d ≡ Ok (stepping_of f)
unfolding stepping stepping_of
stepping-read d f usual time-at sparse-at whole-at =
    then-ok (nlim d) f.cycles _ _ (nlim-is d f usual time-at) (then-ok (sparsity d) _ _ _ (sparsity-is d sparse-at) (then-ok (cycle_settings d) _ _ _ (cycle-is d whole-at) refl))
