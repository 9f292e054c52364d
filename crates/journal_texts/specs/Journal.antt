-- The text of a journal.
use Rattle.std.specs.Prelude.{◌≡◌, ℕ, List, ◌++◌, codes}
use Rattle.std.specs.List.{flat_map}
use Rattle.mesh_rules.specs.Texts.{line, named}
use Rattle.cycle_rounds.specs.Events.{Each}
use Rattle.cycle_events.specs.declared.event.Event.{Event}
use Rattle.journal_texts.specs.declared.heading.Heading.{Heading}
use Rattle.journal_texts.specs.Lines.{IsOfWords, event_line}

-- the lines before the events'
abbrev pub heading_text : Heading → List ℕ
heading_text h =
    line (codes "parthenon-whole events 1")
    ++ line (named (codes "cycle ") h.cycle ++ named (codes " stages ") h.stages
    ++ named (codes " partitions ") h.partitions ++ named (codes " seats ") h.seats)

-- the text of a journal: the heading, a line for each event in order, and `end`
abbrev pub events_text : Heading → List Event → List ℕ
events_text h events = heading_text h ++ flat_map event_line events ++ line (codes "end")

-- no two journals have one text under one heading
abbrev pub TextsTellEvents : Type 0
TextsTellEvents =
    (h : Heading) (a b : List Event) → Each IsOfWords a → Each IsOfWords b → events_text h a ≡ events_text h b → a ≡ b
