-- What a memory sink holds, and which of its calls fails.
use Rattle.std.specs.Prelude.{ℕ, true, false, List, [], Some}
use Rattle.mesh_outside.specs.Sink.{SinkSeen}

-- what was printed, the number of the call that fails, and the numbers of calls and of faults so far
pub record SinkState : Type 0 where
  pub printed : List ℕ
  pub fail_at : ℕ
  pub calls : ℕ
  pub faults : ℕ

-- a sink of which no call was made
abbrev pub opening : ℕ → SinkState
opening fail_at = record { printed = []; fail_at = fail_at; calls = 0; faults = 0 }

-- the sink as any: it counts exactly, and may want memory
abbrev pub seen_sink : SinkState → SinkSeen
seen_sink s = record { printed = Some s.printed; faults = s.faults; is_exact = true; takes_no_memory = false }
