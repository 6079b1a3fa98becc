-- What a step of a live report promises where a desk asks for it (document 02, changes 2 and 8).
use Rattle.std.specs.Prelude.{◌≡◌, Err, List, ℕ, ◌≤◌, length}
use Rattle.machine.specs.Events.{Counts}
use Rattle.machine.specs.Materializer.{Rendered as Page}
use Rattle.machine.specs.Answer.{Answer, paged}
use Rattle.machine.specs.Larger.{Larger}
use Rattle.stats.specs.declared.SolveStats.{SolveStats}
use Rattle.solve_workspace.specs.declared.Bounds.{Bounds}
use Rattle.solve_workspace.specs.Meets.{limits}
use Rattle.render.specs.Rendered.{refusal_with, meant}
use Rattle.report.specs.Report.{Report}
use Rattle.report.specs.Report.{Step as Asked}
use Rattle.report.specs.Answers.{StepNumbered}
use Rattle.report.specs.Right.{RightReport, WholePage}
use Rattle.report.specs.Memory.{Words, Sound}
use Rattle.report.specs.Same.{files_in}
use Rattle.desks.specs.declared.Desks.{Desks}
use Rattle.desks.specs.Desks.{last_desk, allowed}
use Rattle.desks.specs.Served.{Served, ServedNumbered, left, Serving}
use Rattle.desks.specs.Kinds.{step}
use Rattle.report_gate.specs.declared.Head.{Head}
use Rattle.report_gate.specs.Heads.{held}
use Rattle.report_settle.specs.declared.Step.{Step}
use Rattle.report_settle.specs.Settled.{Stands, Unaltered}
use Rattle.report_step.specs.declared.DeskStep.{DeskStep}

abbrev pub with_desks : Step → Desks → DeskStep
with_desks t D = record { answer = t.answer; head = t.head; desks = D }

abbrev pub without_desks : DeskStep → Step
without_desks r = record { answer = r.answer; head = r.head }

-- The answer and the desks after it are those of document 02 for the report that the memory held at entry, and the memory then holds the report after it; output and span rows stand as the answer says. A refusal
-- leaves every word of the report's memory as it was. Memory that held a report holds one again.
-- Of a report that is right, the page is that of the first of the cheapest layouts of its one document, and the report after it is right; what `Serving` says of the same page then holds on any right report of the
-- same files under the same settings.
pub record Stepping (s : Asked) (lent : Type 0) (d : ℕ) (D : Desks) (b : Bounds) (h : Head) (table₀ table : List Words) (files₀ files pages₀ pages : List ℕ) (marks₀ marks : List Words) (output₀ output : List ℕ) (spans₀ spans : List Words) (r : DeskStep) : Type 0 where
  pub serving : Serving lent D d (step (held h table₀ files₀ pages₀ marks₀) s) (limits b) (held h table₀ files₀ pages₀ marks₀) (meant r.answer output spans) (held r.head table files pages marks) r.desks
  pub stands : Stands r.answer output₀ output spans₀ spans
  pub kept : (n needed : ℕ) (k : SolveStats) → r.answer ≡ Err (refusal_with n needed k) → Unaltered h table₀ table files₀ files pages₀ pages marks₀ marks (without_desks r)
  pub sound_kept : Sound h.rows table₀ (length files₀) (length pages₀) (length marks₀) → Sound r.head.rows table (length files) (length pages) (length marks)
  pub numbered : (n needed : ℕ) (k : SolveStats) → r.answer ≡ Err (refusal_with n needed k) → ServedNumbered StepNumbered n
  pub right : RightReport (held h table₀ files₀ pages₀ marks₀) → RightReport (held r.head table files pages marks)
  pub whole_page : RightReport (held h table₀ files₀ pages₀ marks₀) → (p : Page) (k : Counts) → meant r.answer output spans ≡ paged p k → WholePage (held r.head table files pages marks) p
  pub same_page : (p : Page) (k : Counts) → meant r.answer output spans ≡ paged p k → (Y : Report) → RightReport (held h table₀ files₀ pages₀ marks₀) → RightReport Y
      → Y.settings ≡ (held h table₀ files₀ pages₀ marks₀).settings → files_in Y.rows ≡ files_in (held h table₀ files₀ pages₀ marks₀).rows
      → (E : Desks) (e : ℕ) (m : Bounds) → e ≤ last_desk → Larger (allowed D d (limits b)) (allowed E e (limits m))
      → (a : Answer) (Z : Report) (E' : Desks) → Served (Unit {0}) E e (step Y s) (limits m) Y a Z E' → left a Z ≡ left (paged p k) (held r.head table files pages marks)
