-- What a fault of a step comes to: want of memory stands for itself, and each other fault refuses the input.
use Rattle.std.specs.Prelude.{ℕ}
use Rattle.input_file.specs.declared.fault.DeckFault.{DeckFault}
use Rattle.input_file.specs.declared.fault.DeckFault.TheVariants as deck_fault
use Rattle.deck_values.specs.declared.fault.ProblemFault.{ProblemFault}
use Rattle.deck_values.specs.declared.fault.ProblemFault.TheVariants as problem_fault
use Rattle.mesh_outside.specs.declared.fault.OutFault.{OutFault}
use Rattle.mesh_outside.specs.declared.fault.OutFault.TheVariants as out_fault
use Rattle.mesh_input.specs.declared.fault.Refusal.TheVariants.{Deck, Override, Problem}
use Rattle.mesh_input.specs.declared.fault.InputFault.{InputFault}
use Rattle.mesh_input.specs.declared.fault.InputFault.TheVariants.{Refused, ReadFault, NoMemory}

-- a fault of the bytes
abbrev pub stop_of_deck : DeckFault → InputFault
stop_of_deck deck_fault.NoMemory = NoMemory
stop_of_deck fault = Refused (Deck fault)

-- a fault of the override of this number
abbrev pub stop_of_override : ℕ → DeckFault → InputFault
stop_of_override number deck_fault.NoMemory = NoMemory
stop_of_override number fault = Refused (Override number)

-- a fault of the problem
abbrev pub stop_of_problem : ProblemFault → InputFault
stop_of_problem problem_fault.NoMemory = NoMemory
stop_of_problem fault = Refused (Problem fault)

-- a fault of reading the file
abbrev pub stop_of_reading : OutFault → InputFault
stop_of_reading out_fault.Failed = ReadFault
stop_of_reading out_fault.NoMemory = NoMemory
