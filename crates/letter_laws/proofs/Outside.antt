-- Faces of the domain.
use Rattle.std.proofs.Common.{◌≡◌, ℕ, ◌<◌, ap, sym, ◌∙◌, slice_index}
use Rattle.block_geometry.specs.Blocks.{ghost_place}
use Rattle.block_geometry.proofs.Seen.{three_axes}
use Rattle.ghost_laws.specs.Layers.{seen_in_layer}
use Rattle.ghost_laws.specs.Given.{IsBeside}
use Rattle.ghost_laws.proofs.Layers.{outside_seen}
use Rattle.letter_laws.specs.Ghosts.{OutsideSees}
use Rattle.letter_laws.proofs.Behinds.{outside_met}
use Rattle.letter_laws.proofs.SameLevel.{both_layers, ghost_in_layers, layer_index, layer_within}

pub outside_sees : OutsideSees
outside_sees b axis high cells side is has i w at = both_layers b axis high cells i each
  where
    each : (layer : ℕ) → layer < 2 → slice_index cells (ghost_place b.layout axis high layer i) ≡ seen_in_layer b i axis high layer
    each layer few =
        let h = three_axes b axis side.sound side.used in
        let beside : IsBeside b axis high i = record { sound = side.sound; used = side.used; within = w; at = at } in
        ap (slice_index cells) (ghost_in_layers b.layout axis high layer i h)
        ∙ has (layer_index axis high layer i) (layer_within b.layout axis high layer i h few w)
        ∙ sym (outside_seen b axis high i layer beside (outside_met b axis high is))
