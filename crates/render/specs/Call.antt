-- What a call promises (document 01, "Calls").
use Rattle.std.specs.Prelude.{◌≡◌, Ok, List, [], ℕ, ◌≤◌, length}
use Rattle.file_tables.specs.Tables.{Tables}
use Rattle.layout.specs.Rules.{Rules}
use Rattle.file_form.specs.declared.fill.Counts.{Counts}
pub use Rattle.file_form.specs.Form.{tables_held}
use Rattle.file_checks.specs.Judged.{tables}
use Rattle.memo.specs.Sizes.{SlotsFor}
use Rattle.machine.specs.Events.{Kind, size, need_of}
use Rattle.machine.specs.Events.{Counts as Tally}
use Rattle.machine.specs.Model.{Prepared}
use Rattle.machine.specs.Materializer.{Rendered as Page}
use Rattle.machine.specs.Answer.{Answer, paged, answer}
use Rattle.machine.specs.Larger.{Larger}
use Rattle.machine.specs.Just.{just, Smaller, RefusedBy}
use Rattle.answer.specs.Answer.{Settings, Answers}
use Rattle.answer.specs.Page.{Promised}
use Rattle.solve_workspace.specs.declared.Bounds.{Bounds}
use Rattle.solve_workspace.specs.declared.RenderOptions.{RenderOptions}
use Rattle.solve_workspace.specs.Meets.{limits}
use Rattle.solve_workspace.specs.Reading.{prepared}
use Rattle.materialize.specs.Rows.{Row}
use Rattle.materialize.specs.Texts.{InBytes}
use Rattle.solve.specs.Accepted.{Accepted}
use Rattle.solve.specs.Numbered.{TextsBelow}
use Rattle.render.specs.declared.page.Draft.{Draft}
use Rattle.render.specs.declared.order.Lengths.{Lengths}
use Rattle.render.specs.Order.{PageLent, InOrder}
use Rattle.render.specs.Rendered.{Rendered, meant, Stands}
use Rattle.render.specs.Drafts.{Drafted, Half}

abbrev pub settings : RenderOptions → Settings
settings o = record { width = o.width; newline_cost = o.newline_cost; policy = o.policy; rule = o.rule }

-- ---- the whole call

-- the answer is that of document 01, with its number, needed size, counts, page, spans and cost; output and span rows stand as it says.
-- Where it is a page, that is the page of the first of the cheapest layouts in choice order; and with sizes and limits none smaller, and memory to match, no other answer is right.
-- Its needs are sizes that were lent; with just these sizes, the same limits and memory to match it is again the one right answer, and with exactly one of them smaller the refusal of that kind is
-- (document 02, change 10)
pub record Rendering (file : List ℕ) (o : RenderOptions) (b : Bounds) (l : Lengths) (output₀ output : List ℕ) (rows₀ rows : List Row) (r : Rendered) : Type 0 where
  pub answers : Answers (InOrder o b l) file (settings o) (limits b) (meant r output rows)
  pub stands : Stands r output₀ output rows₀ rows
  pub promised : Promised file (settings o) (meant r output rows)
  pub same_page : (p : Page) (k : Tally) → meant r output rows ≡ paged p k → (d : Bounds) (m : Lengths) → Larger (limits b) (limits d) → InOrder o d m
      → (a : Answer) → Answers (InOrder o d m) file (settings o) (limits d) a → a ≡ paged p k
  pub needs_within : (p : Page) (k : Tally) → meant r output rows ≡ paged p k → (x : Kind) → need_of k.needs x ≤ size (limits b) x
  pub just_suffices : (p : Page) (k : Tally) → meant r output rows ≡ paged p k → (d : Bounds) (m : Lengths) → limits d ≡ just k.needs (limits b) → InOrder o d m
      → (a : Answer) → Answers (InOrder o d m) file (settings o) (limits d) a → a ≡ paged p k
  pub none_less : (p : Page) (k : Tally) → meant r output rows ≡ paged p k → (x : Kind) (d : Bounds) (m : Lengths) → Smaller x k.needs (limits b) (limits d) → InOrder o d m
      → (a : Answer) → Answers (InOrder o d m) file (settings o) (limits d) a → RefusedBy x k.needs (limits d) a

-- its first half, with plan records, texts and their bytes as they stand after it. Where there is a page, the memory that it is written with is lent
pub record Drafting (file : List ℕ) (o : RenderOptions) (b : Bounds) (l : Lengths) (plans texts : List Row) (bytes : List ℕ) (r : Drafted) : Type 0 where
  pub half : Half (Rendering file o b l) b plans texts bytes r
  pub lent : (d : Draft) → r ≡ Ok d → PageLent b l

-- ---- its parts

-- tables that the solver and the materializer can work on
pub record Readied (t : Tables) : Type 0 where
  pub accepted : Accepted t.nodes t.edges t.choices t.texts t.space
  pub below : TextsBelow (length t.texts) (prepared (tables t.nodes t.edges t.choices t.texts [] 0 0 t.space))
  pub inside : InBytes t.texts t.bytes

-- the answer is the machine's on these tables
pub record Laid (b : Bounds) (R : Rules) (P : Prepared) (output₀ output : List ℕ) (rows₀ rows : List Row) (r : Rendered) : Type 0 where
  pub is : meant r output rows ≡ answer R P (limits b)
  pub stands : Stands r output₀ output rows₀ rows

-- lent memory is long enough for the tables that it holds
pub record Holding (n : Counts) (nodes : List (List ℕ)) (edges choices : List ℕ) (texts : List (List ℕ)) (bytes : List ℕ) : Type 0 where
  pub nodes_in : n.nodes ≤ length nodes
  pub edges_in : n.edges ≤ length edges
  pub choices_in : n.choices ≤ length choices
  pub texts_in : n.texts ≤ length texts
  pub bytes_in : n.bytes ≤ length bytes
  pub readied : Readied (tables_held n nodes edges choices texts bytes)

-- lent memory is long enough for the memo: its entries, and as many slots as its size takes
pub record MemoHolding (b : Bounds) (ss : List ℕ) (es : List Row) : Type 0 where
  pub entries_in : b.memo ≤ length es
  pub slots_for : ℕ
  pub is : SlotsFor b.memo slots_for
  pub slots_in : slots_for ≤ length ss

-- how long what is lent is; of depth, output and spans this takes the lengths alone
abbrev pub lengths_with : List (List ℕ) → List ℕ → List ℕ → List (List ℕ) → List ℕ → List Row → List Row → List Row → List ℕ → List Row → List Row → List ℕ → List Row → List ℕ → ℕ → ℕ → ℕ → Lengths
lengths_with nodes edges choices texts bytes tasks results pending index entries kept frontier plans visit depth output spans = record {
  nodes = length nodes;
  edges = length edges;
  choices = length choices;
  texts = length texts;
  bytes = length bytes;
  tasks = length tasks;
  results = length results;
  pending = length pending;
  index = length index;
  entries = length entries;
  kept = length kept;
  frontier = length frontier;
  plans = length plans;
  visit = length visit;
  depth = depth;
  output = output;
  spans = spans;
}

abbrev pub lengths : {A : Type 0} → List (List ℕ) → List ℕ → List ℕ → List (List ℕ) → List ℕ → List Row → List Row → List Row → List ℕ → List Row → List Row → List ℕ → List Row → List ℕ → List ℕ → List ℕ → List A → Lengths
lengths nodes edges choices texts bytes tasks results pending index entries kept frontier plans visit depth output spans = lengths_with nodes edges choices texts bytes tasks results pending index entries kept frontier plans visit (length depth) (length output) (length spans)
