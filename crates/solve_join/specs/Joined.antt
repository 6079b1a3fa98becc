-- What became of a join, as what is reached with the registers: it is pending, or it stops and leaves them as they were.
use Rattle.std.specs.Prelude.{Ok, Err}
use Rattle.solve_workspace.specs.declared.Registers.{Registers}
use Rattle.solve_workspace.specs.declared.Reached.{Reached}
use Rattle.solve_workspace.specs.declared.Reached.TheVariants.{Go, Stop}
use Rattle.solve_workspace.specs.Stacks.{pending_pushed}
use Rattle.solve_workspace.specs.Turns.{Turn}

abbrev pub joined : Registers → Turn → Reached
joined st (Ok _) = Go (pending_pushed st)
joined st (Err h) = Stop h.why h.needed st
