-- The letters that tasks send.
use Rattle.std.specs.Prelude.{◌≡◌, ◌==◌, ℕ, ◌^◌, ◌<◌, not, List, filter, length, map}
use Rattle.morton_order.specs.declared.space.Side.{Side}
use Rattle.block_tree.specs.Behind.{behind}
use Rattle.mesh_rules.specs.Mesh.{is_inner, leaf_number}
use Rattle.mesh_rules.specs.Due.{Exchange, letters_of}
use Rattle.block_layout.specs.Faces.{face_count}
use Rattle.block_layout.specs.Layouts.{len}
use Rattle.field_bufs.specs.declared.buf.FieldBuf.{FieldBuf}
use Rattle.ghost_buffers.specs.declared.letter.Letter.{Letter}
use Rattle.ghost_buffers.specs.declared.part.Part.{Part}
use Rattle.ghost_buffers.specs.Parts.{PartBelow, part_of}
use Rattle.flux_correct.specs.Boxes.{SumsBelow}
use Rattle.flux_correct.specs.Sums.{flux_part}
use Rattle.cycle_kernels.specs.Blocks.{CycleMesh, leaf_at, owner_of}
use Rattle.cycle_kernels.specs.Laws.{IsCycleMesh}
use Rattle.cycle_kernels.specs.Letters.{how_sent, part_covered}
use Rattle.task_meshes.specs.Meshes.{leaf_count, mesh_of}
use Rattle.task_meshes.specs.Orders.{buf_at, of_block}
use Rattle.sent_letters.specs.declared.block_sender.BlockSender.{BlockSender}
use Rattle.task_meshes.specs.declared.kind.LetterKind.{LetterKind}
use Rattle.task_meshes.specs.declared.kind.LetterKind.TheVariants.{Ghosts, Fluxes}
use Rattle.task_meshes.specs.Kinds.{IsDue, due_of, is_flux, receivers_of}

-- a buffer's part of a letter: the cells of its side of the block, or the sums of what passes the faces there
abbrev pub part_made : LetterKind → CycleMesh → Exchange → FieldBuf → List ℕ
part_made Ghosts w x buf = part_of (how_sent w x) w.layout x.axis (not x.high) (part_covered w x) buf.cells
part_made Fluxes w x buf = flux_part w.layout x.axis (not x.high) buf.right buf.left

abbrev pub part_sent : LetterKind → CycleMesh → Exchange → FieldBuf → Part
part_sent kind w x buf = record { field = buf.field; cells = part_made kind w x buf }

-- a letter about an exchange, with a part for each of some buffers
abbrev pub letter_with : LetterKind → CycleMesh → ℕ → List FieldBuf → Exchange → Letter
letter_with kind w stage own x = record {
  number = 0;
  flux = is_flux kind;
  stage = stage;
  from = x.from;
  to = x.to;
  side = record { axis = x.axis; high = x.high };
  parts = map (part_sent kind w x) own;
}

-- the letters of a list: those that are due from its blocks, in their order, each with the buffers of its sender
abbrev pub letters_sent : LetterKind → CycleMesh → ℕ → ℕ → List FieldBuf → List Letter
letters_sent kind w list stage bufs =
    map (λ (x : Exchange). letter_with kind w stage (of_block bufs x.from) x)
    (filter (λ (x : Exchange). owner_of w x.from == list) (due_of kind w))

-- a buffer is of the layout's size, and what is summed up of it for a part is a number of the machine
pub record GhostsFit (w : CycleMesh) (x : Exchange) (buf : FieldBuf) : Type 0 where
  pub long : length buf.cells ≡ len w.layout
  pub small : PartBelow (2 ^ 62) (how_sent w x) w.layout x.axis (not x.high) (part_covered w x) buf.cells

pub record FluxesFit (w : CycleMesh) (x : Exchange) (buf : FieldBuf) : Type 0 where
  pub right_long : length buf.right ≡ face_count w.layout
  pub left_long : length buf.left ≡ face_count w.layout
  pub right_small : SumsBelow (2 ^ 64) w.layout x.axis (not x.high) buf.right
  pub left_small : SumsBelow (2 ^ 64) w.layout x.axis (not x.high) buf.left

abbrev pub MayMakePart : LetterKind → CycleMesh → Exchange → FieldBuf → Type 0
MayMakePart Ghosts w x buf = GhostsFit w x buf
MayMakePart Fluxes w x buf = FluxesFit w x buf

abbrev pub MayMakeParts : LetterKind → CycleMesh → Exchange → List FieldBuf → Type 0
MayMakeParts kind w x bufs = (k : ℕ) → k < length bufs → MayMakePart kind w x (buf_at bufs k)

-- the buffers of a list are fit for all letters that are due from their blocks
abbrev pub CanSend : LetterKind → CycleMesh → ℕ → List FieldBuf → Type 0
CanSend kind w list bufs = (x : Exchange) (k : ℕ) → IsDue kind w x → owner_of w x.from ≡ list → k < length bufs →
    (buf_at bufs k).block ≡ x.from → MayMakePart kind w x (buf_at bufs k)

-- a letter of a block across a side of its receiver, and those that are due across it, and across all its sides
abbrev pub letter_to : BlockSender → Side → ℕ → Exchange
letter_to s side to = record { from = s.block; to = to; axis = side.axis; high = side.high }

abbrev pub letters_over : BlockSender → Side → List Exchange
letters_over s side =
    let w = mesh_of s.on.now in
    map (λ o. letter_to s side (leaf_number w.mesh o))
    (receivers_of s.kind (behind w.mesh.shape (is_inner w.mesh) (leaf_at w s.block) side.axis (not side.high)))

abbrev pub letters_of_block : BlockSender → List Exchange
letters_of_block s =
    let w = mesh_of s.on.now in letters_of w.mesh (receivers_of s.kind) s.block (leaf_at w s.block)

-- what the block sends for them
abbrev pub letter_by : BlockSender → Exchange → Letter
letter_by s x = letter_with s.kind (mesh_of s.on.now) s.stage s.bufs.now x

abbrev pub letter_from : BlockSender → Side → ℕ → Letter
letter_from s side to = letter_by s (letter_to s side to)

-- it may send them
pub record MaySend (s : BlockSender) : Type 0 where
  pub mesh : IsCycleMesh (mesh_of s.on.now)
  pub few : s.block < leaf_count s.on.now
  pub parts : (x : Exchange) → IsDue s.kind (mesh_of s.on.now) x → x.from ≡ s.block →
      MayMakeParts s.kind (mesh_of s.on.now) x s.bufs.now

pub record MaySendTo (s : BlockSender) (side : Side) (to : ℕ) : Type 0 where
  pub axis : side.axis < s.on.now.layout.now.dims
  pub from_few : s.block < leaf_count s.on.now
  pub to_few : to < leaf_count s.on.now
  pub parts : MayMakeParts s.kind (mesh_of s.on.now) (letter_to s side to) s.bufs.now
