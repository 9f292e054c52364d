-- What contracts see of standard output.
use Rattle.std.specs.Prelude.{ℕ, true, None}
use Rattle.mesh_outside.specs.Sink.{SinkSeen}

-- a sink with this count of failed calls: it tells nothing of what was printed, counts exactly, and takes no memory
abbrev pub seen_std : ℕ → SinkSeen
seen_std faults = record { printed = None; faults = faults; is_exact = true; takes_no_memory = true }
