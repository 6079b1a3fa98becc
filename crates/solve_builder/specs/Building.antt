-- A frontier under construction in the solver's registers and slots, and what beginning one leaves.
use Rattle.std.specs.Prelude.{◌≡◌, List, ℕ, ◌*◌, ◌≤◌, max, length}
use Rattle.frontier.specs.declared.Builder.{Builder}
use Rattle.frontier.specs.Kept.{Frontier, Opened}
use Rattle.solve_workspace.specs.declared.Bounds.{Bounds}
use Rattle.solve_workspace.specs.declared.Registers.{Registers}
use Rattle.solve_workspace.specs.declared.Reached.{Reached}
use Rattle.solve_workspace.specs.Stacks.{with_peaks}
use Rattle.solve_workspace.specs.declared.Reached.TheVariants.{Go, Stop}

-- the slots fs hold the frontier of the registers, at most as large as its size
pub record Building (b : Bounds) (s : Registers) (fs : List ℕ) : Type 0 where
  pub frontier : Frontier fs b.frontier s.builder

abbrev pub BuildingCase : Bounds → List ℕ → Reached → Type 0
BuildingCase b fs (Go s) = Building b s fs
BuildingCase b fs (Stop why needed s) = Unit {0}

-- where it goes on
pub record BuildingAt (b : Bounds) (fs : List ℕ) (a : Reached) : Type 0 where
  pub by : BuildingCase b fs a

-- fourteen words a slot
pub record Slots (b : Bounds) (fs : List ℕ) : Type 0 where
  pub room : b.frontier * 14 ≤ length fs

-- the registers with another frontier
abbrev pub with_builder_to : Registers → Builder → Registers
with_builder_to s f = record { tasks = s.tasks; results = s.results; pending = s.pending; memo = s.memo; kept = s.kept; plans = s.plans; start = s.start; len = s.len; builder = f; stats = s.stats; peaks = s.peaks }

-- a frontier of n was needed
abbrev pub fronted : ℕ → Registers → Registers
fronted n s = with_peaks s (record { stack = s.peaks.stack; memo = s.peaks.memo; frontier = max s.peaks.frontier n })

-- an empty frontier is begun; what the one before it needed is in the peak, and all else is as it was
pub record Begun (o s : Registers) : Type 0 where
  pub opened : Opened s.builder
  pub same : s ≡ with_builder_to (fronted o.builder.used o) s.builder
