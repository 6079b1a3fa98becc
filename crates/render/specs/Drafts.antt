-- The first half of a call: a page is chosen and measured, and nothing is written. What that leaves, and what holds once a pass has written the page.
use Rattle.std.specs.Prelude.{◌≡◌, Result, Ok, Err, List, ℕ, ◌≤◌, length, take}
use Rattle.cost.specs.Value.{value}
use Rattle.layout.specs.Layout.{Plan}
use Rattle.machine.specs.Events.{number, with_needs, ret, ◌>>◌, run}
use Rattle.machine.specs.Materializer.{materialize, rendered}
use Rattle.machine.specs.Answer.{answer_of}
use Rattle.stats.specs.declared.SolveStats.{SolveStats}
use Rattle.solve_workspace.specs.declared.Bounds.{Bounds}
use Rattle.solve_workspace.specs.declared.Needs.{Needs}
use Rattle.solve_workspace.specs.declared.Why.{Why}
use Rattle.solve_workspace.specs.Meets.{limits, tally, reason}
use Rattle.solve_workspace.specs.Rows.{low}
use Rattle.materialize.specs.Rows.{Row}
use Rattle.materialize.specs.Texts.{InBytes, Planned}
use Rattle.materialize.specs.Answer.{Measured, measured_with, why_of, Small, Lent}
use Rattle.materialize.specs.Walks.{plan, Answered}
use Rattle.materialize.specs.Writes.{Written}
use Rattle.materialize.specs.declared.Capacity.{Capacity}
use Rattle.solve.specs.declared.SolvedCore.{SolvedCore}
use Rattle.solve.specs.declared.SolverNeeds.{SolverNeeds}
use Rattle.solve.specs.Outcome.{solver_needs}
use Rattle.render.specs.declared.page.Refusal.{Refusal}
use Rattle.render.specs.declared.page.Draft.{Draft}
use Rattle.render.specs.Rendered.{Rendered, page_with, refusal_with, with_counts, Stands, meant}

-- what a call comes to before anything is written
abbrev pub Drafted : Type 0
Drafted = Result Draft Refusal

-- the materializer's sizes and limit
abbrev pub capacity : Bounds → Capacity
capacity b = record { visit = b.visit; depth = b.depth; output = b.output; spans = b.spans; visit_limit = b.visit_limit }

-- ---- a draft

-- the layout that is chosen, in tables and plan records as they stand in memory
abbrev pub chosen : Draft → List Row → List Row → List ℕ → Plan
chosen d plans texts bytes = plan (take d.plans plans) (take d.texts texts) (take d.bytes bytes) d.root.0

-- the answer once its page is written
abbrev pub page_of : Draft → Rendered
page_of d = Ok (page_with d.cost d.length d.spans (with_counts d.stats d.visits) d.needs)

-- what a pass that writes the page may rely on: the layout can be read, and it passes every limit of the materializer, with these numbers of bytes, spans and visits
pub record Drawn (b : Bounds) (d : Draft) (plans texts : List Row) (bytes : List ℕ) : Type 0 where
  pub plans_in : d.plans ≤ length plans
  pub texts_in : d.texts ≤ length texts
  pub bytes_in : d.bytes ≤ length bytes
  pub planned : Planned (take d.plans plans) (length (take d.plans plans)) (take d.texts texts) d.root.0
  pub inside : InBytes (take d.texts texts) (take d.bytes bytes)
  pub small : Small (capacity b)
  pub highest : ℕ
  pub deepest : ℕ
  pub measured : Answered (capacity b) (chosen d plans texts bytes) (Ok (measured_with d.length d.spans d.visits highest deepest))
  pub unvisited : d.stats.visits ≡ 0
  pub no_fit_checks : d.stats.fit_checks ≡ 0

-- ---- half of a promise

-- what a call promises of output and span rows, before and after, and of its answer
abbrev pub Promise : Type 1
Promise = List ℕ → List ℕ → List Row → List Row → Rendered → Type 0

-- a pass that writes layout p keeps it, with the answer r
pub record Pledged (G : Promise) (p : Plan) (r : Rendered) : Type 0 where
  pub by : (output₀ output : List ℕ) (rows₀ rows : List Row) → length output ≡ length output₀ → length rows ≡ length rows₀
      → Written p output₀ output rows₀ rows → G output₀ output rows₀ rows r

-- its first half: a refusal keeps it where output and span rows stay as they are, whatever they hold; a page can be written, and a pass that writes it keeps it
abbrev pub HalfOf : Promise → Bounds → List Row → List Row → List ℕ → Drafted → Type 0
HalfOf G b plans texts bytes (Err e) = (output : List ℕ) (rows : List Row) → G output output rows rows (Err e)
HalfOf G b plans texts bytes (Ok d) = Drawn b d plans texts bytes × Pledged G (chosen d plans texts bytes) (page_of d)

pub record Half (G : Promise) (b : Bounds) (plans texts : List Row) (bytes : List ℕ) (r : Drafted) : Type 0 where
  pub by : HalfOf G b plans texts bytes r

-- ---- its parts

-- where there is a page, it can be written into this memory
pub record Writable (b : Bounds) (plans texts : List Row) (bytes visit depth output : List ℕ) (spans : List Row) (r : Drafted) : Type 0 where
  pub drawn : (d : Draft) → r ≡ Ok d → Drawn b d plans texts bytes
  pub lent : (d : Draft) → r ≡ Ok d → Lent (capacity b) visit depth output spans

-- a refusal of the solver
abbrev pub refusal : Why → ℕ → SolveStats → Drafted
refusal why needed k = Err (refusal_with (number (reason why)) needed (with_counts k k.visits))

-- what was needed of every kind, in 32 bits each
abbrev pub page_needs : SolverNeeds → ℕ → ℕ → ℕ → ℕ → Needs
page_needs q n m x h = record {
  stack = q.stack;
  memo = q.memo;
  kept = q.kept;
  frontier = q.frontier;
  plans = q.plans;
  visit = low x;
  depth = low h;
  output = low n;
  spans = low m;
}

-- the first pass's answer over the plan that the solver has chosen, with so many texts and bytes of texts
abbrev pub drafted : SolvedCore → ℕ → ℕ → Measured → Drafted
drafted c texts bytes (Ok m) = Ok (record { cost = c.cost; length = m.bytes; spans = m.spans; visits = m.visits; stats = with_counts c.stats 0; needs = page_needs c.needs m.bytes m.spans m.visit m.depth; root = c.root; plans = c.plans; texts = texts; bytes = bytes })
drafted c texts bytes (Err e) = Err (refusal_with (number (why_of e.what)) e.needed (with_counts c.stats e.visits))

-- the answer is the machine's, once the plan of layout p is chosen
pub record Paged (b : Bounds) (c : SolvedCore) (p : Plan) (output₀ output : List ℕ) (rows₀ rows : List Row) (r : Rendered) : Type 0 where
  pub is : meant r output rows ≡ answer_of (run (limits b) (with_needs (tally c.stats) (solver_needs c.needs)) (materialize p >> ret (rendered p (value c.cost))))
  pub stands : Stands r output₀ output rows₀ rows
