-- The solver's registers as a list of words. The code has them as one record; these names and the laws of Stores say how words would hold them.
use Rattle.std.specs.Prelude.{ℕ, ◌≤◌, max, List, length, set}
use Rattle.solve_workspace.specs.declared.Bounds.{Bounds}
use Rattle.solve_workspace.specs.declared.Registers.{Registers}
use Rattle.solve_workspace.specs.Meets.{Sound}
use Rattle.solve_workspace.specs.Rows.{at, low}

-- the words: how far each store is filled
abbrev pub TASKS : ℕ
TASKS = 0

abbrev pub RESULTS : ℕ
RESULTS = 1

abbrev pub PENDING : ℕ
PENDING = 2

abbrev pub MEMO : ℕ
MEMO = 3

abbrev pub KEPT : ℕ
KEPT = 4

abbrev pub PLANS : ℕ
PLANS = 5

-- the range
abbrev pub START : ℕ
START = 6

abbrev pub LEN : ℕ
LEN = 7

-- the frontier that is being built
abbrev pub ROOT : ℕ
ROOT = 8

abbrev pub HEAD : ℕ
HEAD = 9

abbrev pub TAIL : ℕ
TAIL = 10

abbrev pub FREE : ℕ
FREE = 11

abbrev pub USED : ℕ
USED = 12

abbrev pub LIVE : ℕ
LIVE = 13

-- the counts
abbrev pub WORK : ℕ
WORK = 14

abbrev pub HITS : ℕ
HITS = 15

abbrev pub MISSES : ℕ
MISSES = 16

abbrev pub GENERATED : ℕ
GENERATED = 17

abbrev pub PRUNED : ℕ
PRUNED = 18

abbrev pub PEAK : ℕ
PEAK = 19

abbrev pub ENTRIES : ℕ
ENTRIES = 20

-- the peaks
abbrev pub STACK_PEAK : ℕ
STACK_PEAK = 21

abbrev pub MEMO_PEAK : ℕ
MEMO_PEAK = 22

abbrev pub FRONTIER_PEAK : ℕ
FRONTIER_PEAK = 23

-- how many there are
abbrev pub WORDS : ℕ
WORDS = 24

-- the registers whose words are w. Fit checks, plan nodes and visits are 0 while the solver runs
abbrev pub of_words : (ℕ → ℕ) → Registers
of_words w = record {
  tasks = w TASKS;
  results = w RESULTS;
  pending = w PENDING;
  memo = w MEMO;
  kept = w KEPT;
  plans = w PLANS;
  start = low (w START);
  len = low (w LEN);
  builder = record { root = w ROOT; head = w HEAD; tail = w TAIL; free = w FREE; used = w USED; live = w LIVE };
  stats = record {
    work_items = w WORK;
    fit_checks = 0;
    memo_hits = w HITS;
    memo_misses = w MISSES;
    candidates_generated = w GENERATED;
    candidates_pruned = w PRUNED;
    peak_frontier = w PEAK;
    memo_entries = w ENTRIES;
    plan_nodes = 0;
    visits = 0;
  };
  peaks = record { stack = w STACK_PEAK; memo = w MEMO_PEAK; frontier = w FRONTIER_PEAK };
}

abbrev pub regs : List ℕ → Registers
regs g = of_words (λ i. at g i)

-- the word at i is n at least
abbrev pub lifted : List ℕ → ℕ → ℕ → List ℕ
lifted g i n = set g i (max (at g i) n)

-- all words are there, and what they hold is sound
pub record Held (b : Bounds) (g : List ℕ) : Type 0 where
  pub room : WORDS ≤ length g
  pub sound : Sound b (regs g)
