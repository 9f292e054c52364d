use Rattle.std.proofs.Common.{◌≡◌, length}
use Rattle.std.specs.Io.KnownBytes.{Keeps}
use Rattle.mesh_outside.proofs.open_input.read_retrying.Given as goal

abbrev pub invariant-loop : goal.invariant-loop
invariant-loop g l =
    Keeps (g.F.Read.remaining l.fn.file) (g.F.Read.remaining l.file)
    × (length l.into ≡ length l.fn.into)
