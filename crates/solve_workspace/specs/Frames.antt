-- Which registers an operation leaves as they are, and what the memo's slices hold.
use Rattle.std.specs.Prelude.{◌≡◌, List, [], ◌∷◌, ℕ, ◌+◌, ◌≤◌, ◌<◌, ◌^◌, length}
use Rattle.memo.specs.Entries.{Entry, listed}
use Rattle.memo.specs.Index.{Sound as Indexed}
use Rattle.solve_workspace.specs.declared.Bounds.{Bounds}
use Rattle.solve_workspace.specs.declared.Registers.{Registers}
use Rattle.solve_workspace.specs.declared.Reached.{Reached}
use Rattle.solve_workspace.specs.declared.Reached.TheVariants.{Go, Stop}
use Rattle.solve_workspace.specs.Rows.{Row}

-- memo and results are as they were, and pending has only grown
pub record Kept (o s : Registers) : Type 0 where
  pub memo : s.memo ≡ o.memo
  pub results : s.results ≡ o.results
  pub pending : o.pending ≤ s.pending

abbrev pub KeepsAt : Registers → Reached → Type 0
KeepsAt o (Go s) = Kept o s
KeepsAt o (Stop why needed s) = Unit {0}

pub record Keeps (o : Registers) (a : Reached) : Type 0 where
  pub by : KeepsAt o a

-- the memo is as it was
abbrev pub SameMemoAt : Registers → Reached → Type 0
SameMemoAt o (Go s) = s.memo ≡ o.memo
SameMemoAt o (Stop why needed s) = Unit {0}

pub record SameMemo (o : Registers) (a : Reached) : Type 0 where
  pub by : SameMemoAt o a

-- a result was taken off: only the results and the range have changed
pub record Popped (o s : Registers) : Type 0 where
  pub results : o.results ≡ s.results + 1
  pub tasks : s.tasks ≡ o.tasks
  pub pending : s.pending ≡ o.pending
  pub memo : s.memo ≡ o.memo
  pub kept : s.kept ≡ o.kept
  pub plans : s.plans ≡ o.plans
  pub builder : s.builder ≡ o.builder
  pub stats : s.stats ≡ o.stats
  pub peaks : s.peaks ≡ o.peaks

-- a range of numbers of 32 bits
pub record Narrow (e : Entry) : Type 0 where
  pub start : e.range.start < 2 ^ 32
  pub len : e.range.len < 2 ^ 32

pub data AllNarrow : List Entry → Type 0 where
  no_entry : AllNarrow []
  one_entry : {e : Entry} {l : List Entry} → Narrow e → AllNarrow l → AllNarrow (e ∷ l)

-- the memo's slices, with n entries in them
pub record Memory (b : Bounds) (n : ℕ) (ss : List ℕ) (es : List Row) : Type 0 where
  pub index : Indexed ss es n
  pub narrow : AllNarrow (listed es n)
  pub slots : b.memo ≤ length ss
  pub entries : b.memo ≤ length es

abbrev pub MemoryCase : Bounds → List ℕ → List Row → Reached → Type 0
MemoryCase b ss es (Go s) = Memory b s.memo ss es
MemoryCase b ss es (Stop why needed s) = Unit {0}

pub record MemoryAt (b : Bounds) (ss : List ℕ) (es : List Row) (a : Reached) : Type 0 where
  pub by : MemoryCase b ss es a
