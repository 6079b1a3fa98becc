-- What an operation answers, and what it has reached with the registers.
use Rattle.std.specs.Prelude.{ℕ, Result, Ok, Err}
use Rattle.cost.specs.declared.Reason.{Reason}
use Rattle.solve_workspace.specs.declared.Why.{Why}
use Rattle.frontier.specs.declared.Full.{Full as FrontierFull}
use Rattle.memo.specs.declared.Full.{Full as MemoFull}
use Rattle.plan.specs.declared.Full.{Full as PlansFull}
use Rattle.solve_workspace.specs.declared.Why.TheVariants.{Domain, Memo, Frontier, Plans}
use Rattle.solve_workspace.specs.declared.Halt.{Halt}
use Rattle.solve_workspace.specs.declared.Registers.{Registers}
use Rattle.solve_workspace.specs.declared.Reached.{Reached}
use Rattle.solve_workspace.specs.declared.Reached.TheVariants.{Go, Stop}

-- it goes on, or it stops
abbrev pub Turn : Type 0
Turn = Result Unit Halt

abbrev pub going : Turn
going = Ok tt

abbrev pub halting : Why → ℕ → Turn
halting w n = Err (record { why = w; needed = n })

-- the stop at what has no place in its width
abbrev pub halt_past : Reason → Halt
halt_past r = record { why = Domain r; needed = 0 }

-- the stop at a frontier that has no room
abbrev pub halt_frontier : FrontierFull → Halt
halt_frontier r = record { why = Frontier; needed = r.needed }

-- and at a memo or an arena of plans
abbrev pub halt_memo : MemoFull → Halt
halt_memo r = record { why = Memo; needed = r.needed }

abbrev pub halt_plans : PlansFull → Halt
halt_plans r = record { why = Plans; needed = r.needed }

-- with the registers that stand then
abbrev pub reached : Turn → Registers → Reached
reached (Ok _) g = Go g
reached (Err h) g = Stop h.why h.needed g
