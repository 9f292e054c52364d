-- Senders of due letters, by what they are to their receivers.
use Rattle.std.proofs.Common.{◌≡◌, ℕ, ◌<◌, not, List, [], Contains, length, refl, arith, ap, subst, sym, ◌∙◌, slice_index}
use Rattle.morton_order.specs.declared.space.Loc.{Loc}
use Rattle.morton_order.proofs.Crossing.{crossed_level}
use Rattle.block_tree.specs.Behind.{Behind, Names, coarse, fine, outside, same}
use Rattle.mesh_rules.specs.Mesh.{IsMesh, stored, totals_on}
use Rattle.mesh_rules.specs.Fields.{field_count}
use Rattle.mesh_rules.specs.Due.{Exchange}
use Rattle.mesh_rules.specs.Regions.{region}
use Rattle.block_layout.specs.Indices.{IsWithin, number_of}
use Rattle.block_geometry.specs.Blocks.{FieldBlock, IsFieldBlock, IsLayoutOf, cell_in}
use Rattle.block_geometry.specs.Contents.{HasInterior}
use Rattle.ghost_buffers.specs.declared.part.How.{How}
use Rattle.ghost_buffers.specs.declared.part.How.TheVariants.{Same, Finer, Coarser}
use Rattle.ghost_buffers.specs.Parts.{part_of}
use Rattle.letter_laws.specs.Sides.{IsSide}
use Rattle.letter_laws.proofs.Behinds.{same_met}
use Rattle.letter_laws.proofs.CoarserLevel.{above_is, coarser_sends}
use Rattle.letter_laws.proofs.FinerLevel.{below_is, finer_sends}
use Rattle.letter_laws.proofs.SameLevel.{same_sends}
use Rattle.letter_laws.proofs.Spans.{coarser_kind, finer_kind, same_kind}
use Rattle.cycle_kernels.specs.Blocks.{CycleMesh, leaf_at}
use Rattle.cycle_kernels.specs.Letters.{how_by, how_sent, part_by, region_sent}
use Rattle.cycle_kernels.specs.Lists.{with_ghosts}
use Rattle.kernel_stages.specs.Letters.{IsDue}
use Rattle.kernel_stages.proofs.DueLetters.{behind_leaf, leaf_with}
use Rattle.cycle_kernel_laws.specs.Shown.{HoldMesh}
use Rattle.cycle_kernel_laws.proofs.Given.{own_total}
use Rattle.kernel_stages.specs.Stages.{HasTotals}
use Rattle.kernel_stages.proofs.Places.{stored_at_index}

-- a field on a block of the mesh of a cycle
abbrev pub block_on : CycleMesh → ℕ → ℕ → FieldBlock
block_on w f b = record { settings = w.settings; mesh = w.mesh; field = f; leaf = leaf_at w b; layout = w.layout }

pub record IsSound (w : CycleMesh) : Type 0 where
  pub mesh : IsMesh w.mesh
  pub layout : IsLayoutOf w.mesh w.layout

pub block_sound : (w : CycleMesh) (f b : ℕ) → IsSound w → b < length w.mesh.leaves → IsFieldBlock (block_on w f b)
block_sound w f b sound few = record { mesh = sound.mesh; leaf = leaf_with w.mesh sound.mesh b few; layout = sound.layout }

pub side_sound : (w : CycleMesh) (f b axis : ℕ) → IsSound w → b < length w.mesh.leaves → axis < w.mesh.shape.dims → IsSide (block_on w f b) axis
side_sound w f b axis sound few used = record { sound = block_sound w f b sound few; used = subst (λ d. axis < d) (sym sound.layout.dims) used }

-- lists that have the mesh's totals
own_is : (w : CycleMesh) (f b : ℕ) (own i : List ℕ) → IsSound w → b < length w.mesh.leaves → own ≡ totals_on w.mesh b f → IsWithin w.layout.cells i → slice_index own (number_of w.layout.cells i) ≡ stored w.mesh f (cell_in w.mesh (leaf_at w b) i)
own_is w f b own i sound few is inside =
    ap (λ (v : List ℕ). slice_index v (number_of w.layout.cells i)) is
    ∙ ap (λ (n : List ℕ). slice_index (totals_on w.mesh b f) (number_of n i)) sound.layout.cells
    ∙ sym (stored_at_index w.mesh sound.mesh f b i few (subst (λ (n : List ℕ). IsWithin n i) sound.layout.cells inside))

pub has_own : (w : CycleMesh) (f b : ℕ) (own ghosts : List ℕ) → IsSound w → b < length w.mesh.leaves → own ≡ totals_on w.mesh b f → HasInterior (block_on w f b) (with_ghosts w.layout own ghosts)
has_own w f b own ghosts sound few is i inside = own_total w.layout own ghosts i inside ∙ own_is w f b own i sound few is inside

pub hold_mesh : (w : CycleMesh) (cells : ℕ → ℕ → List ℕ) (f : ℕ) → IsSound w → HasTotals w cells → f < field_count w.settings → HoldMesh w w.mesh.totals f (λ b. cells b f)
hold_mesh w cells f sound has some b i few inside = own_is w f b (cells b f) i sound few (has b f few some) inside

-- what the rules say that a letter has of a field
abbrev pub region_sent_to : CycleMesh → ℕ → Exchange → List ℕ
region_sent_to w f x = region w.mesh f (leaf_at w x.from) (leaf_at w x.to) x.axis x.high

-- how a sender stands to its receiver
abbrev pub StandsAs : How → CycleMesh → Exchange → Type 0
StandsAs Same w x = behind_leaf w.mesh x.to x.axis x.high ≡ same (leaf_at w x.from)
StandsAs Finer w x = (os : List Loc) × (behind_leaf w.mesh x.to x.axis x.high ≡ fine os) × Contains os (leaf_at w x.from)
StandsAs Coarser w x = behind_leaf w.mesh x.to x.axis x.high ≡ coarse (leaf_at w x.from)

pub record Sends (w : CycleMesh) (x : Exchange) : Type 0 where
  pub how : How
  pub is : how_sent w x ≡ how
  pub stands : StandsAs how w x

pub sends : (w : CycleMesh) (x : Exchange) → IsSound w → IsDue w.mesh x → Sends w x
sends w x sound d = by (behind_leaf w.mesh x.to x.axis x.high) refl d.names
  where
    side : IsSide (block_on w 0 x.to) x.axis
    side = side_sound w 0 x.to x.axis sound d.to_few d.used

    by : (v : Behind) → behind_leaf w.mesh x.to x.axis x.high ≡ v → Names v (leaf_at w x.from) → Sends w x
    by outside e n = absurd n
    by (same o) e n =
        let s : behind_leaf w.mesh x.to x.axis x.high ≡ same (leaf_at w x.from) = e ∙ ap (λ (v : Loc). same v) (sym n) in
        let m = same_met (block_on w 0 x.to) x.axis x.high (leaf_at w x.from) s in
        let level : (leaf_at w x.from).level ≡ (leaf_at w x.to).level = ap (λ (v : Loc). v.level) (sym m.1) ∙ crossed_level w.mesh.shape (leaf_at w x.to) x.axis x.high m.0.at m.0.meets in
        record { how = Same; is = ap how_by (same_kind (leaf_at w x.from) (leaf_at w x.to) level); stands = s }
    by (coarse o) e n =
        let s : behind_leaf w.mesh x.to x.axis x.high ≡ coarse (leaf_at w x.from) = e ∙ ap (λ (v : Loc). coarse v) (sym n) in
        let level = (above_is (block_on w 0 x.to) x.axis x.high (leaf_at w x.from) side s).level in
        record { how = Coarser; is = ap how_by (coarser_kind (leaf_at w x.from) (leaf_at w x.to) (omega (arith, level))); stands = s }
    by (fine os) e n =
        let level = (below_is (block_on w 0 x.to) x.axis x.high os (leaf_at w x.from) side e n).level in
        record { how = Finer; is = ap how_by (finer_kind (leaf_at w x.from) (leaf_at w x.to) (omega (arith, level))); stands = (os, e, n) }

-- what is sent of a leaf's totals is the region of the mesh
pub region_is : (w : CycleMesh) (x : Exchange) (f : ℕ) (own : List ℕ) → IsSound w → IsDue w.mesh x → own ≡ totals_on w.mesh x.from f → region_sent w x own ≡ region_sent_to w f x
region_is w x f own sound d is =
    let s = sends w x sound d in
    ap (λ (h : How). part_of h w.layout x.axis (not x.high) (part_by h w x) (with_ghosts w.layout own [])) s.is ∙ by s.how s.stands
  where
    side : IsSide (block_on w f x.to) x.axis
    side = side_sound w f x.to x.axis sound d.to_few d.used

    has : HasInterior (block_on w f x.from) (with_ghosts w.layout own [])
    has = has_own w f x.from own [] sound d.from_few is

    by : (h : How) → StandsAs h w x → part_of h w.layout x.axis (not x.high) (part_by h w x) (with_ghosts w.layout own []) ≡ region w.mesh f (leaf_at w x.from) (leaf_at w x.to) x.axis x.high
    by Same stands = same_sends (block_on w f x.to) x.axis x.high (leaf_at w x.from) 0 (with_ghosts w.layout own []) side stands has
    by Finer (os, stands, among) = finer_sends (block_on w f x.to) x.axis x.high os (leaf_at w x.from) (part_by Finer w x) (with_ghosts w.layout own []) side stands among has
    by Coarser stands = coarser_sends (block_on w f x.to) x.axis x.high (leaf_at w x.from) (with_ghosts w.layout own []) side stands has
