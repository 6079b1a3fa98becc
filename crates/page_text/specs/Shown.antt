-- What the parts of it promise: a call in memory of the program's sizes, the text of an answer, and the text for a file.
use Rattle.std.specs.Prelude.{◌≡◌, List, ℕ, ◌+◌, ◌≤◌, length}
use Rattle.page_lines.specs.Put.{Front}
use Rattle.machine.specs.Answer.{Answer}
use Rattle.answer.specs.Answer.{Settings, Answers}
use Rattle.answer.specs.Page.{Promised}
use Rattle.materialize.specs.Rows.{Row}
use Rattle.solve_workspace.specs.declared.RenderOptions.{RenderOptions}
use Rattle.solve_workspace.specs.declared.Bounds.{Bounds}
use Rattle.render.specs.declared.order.Lengths.{Lengths}
use Rattle.render.specs.Rendered.{Rendered, meant, page_length, span_count}
use Rattle.render.specs.Call.{Rendering}
use Rattle.page_text.specs.Printed.{page_bounds, text_of}

-- memory of the program's sizes, but for output and spans, which are so long
pub record Sized (output spans : ℕ) (l : Lengths) : Type 0 where
  pub nodes : 4096 ≡ l.nodes
  pub edges : 16384 ≡ l.edges
  pub choices : 16384 ≡ l.choices
  pub texts : 4096 ≡ l.texts
  pub bytes : 65536 ≡ l.bytes
  pub tasks : 512 ≡ l.tasks
  pub results : 512 ≡ l.results
  pub pending : 512 ≡ l.pending
  pub index : 2048 ≡ l.index
  pub entries : 1024 ≡ l.entries
  pub kept : 1024 ≡ l.kept
  pub frontier : 3584 ≡ l.frontier
  pub plans : 2048 ≡ l.plans
  pub visit : 512 ≡ l.visit
  pub depth : 64 ≡ l.depth
  pub output_lent : output ≡ l.output
  pub spans_lent : spans ≡ l.spans

-- the answer to a call in such memory
pub record RenderedSized (file : List ℕ) (o : RenderOptions) (b : Bounds) (output₀ output : List ℕ) (rows₀ rows : List Row) (r : Rendered) : Type 0 where
  pub lengths : Lengths
  pub sized : Sized (length output₀) (length rows₀) lengths
  pub rendering : Rendering file o b lengths output₀ output rows₀ rows r

-- the page of an answer stands in the output, and there is room for its text
pub record Fitting (r : Rendered) (output text : List ℕ) : Type 0 where
  pub page_there : page_length r ≤ length output
  pub room : 102 + length output ≤ length text

-- the first k bytes are the answer's text, whatever rows hold its spans
pub record Told (r : Rendered) (output out : List ℕ) (k : ℕ) : Type 0 where
  pub text_is : (rows : List Row) → span_count r ≤ length rows → Front (text_of (meant r output rows)) out k

-- the first k bytes are the text of the answer to a call on the file with the program's sizes, and a page in it is the rule's
pub record Shown (file : List ℕ) (c : Settings) (out : List ℕ) (k : ℕ) : Type 0 where
  pub answer : Answer
  pub answers : Answers (Unit {0}) file c page_bounds answer
  pub promised : Promised file c answer
  pub text : Front (text_of answer) out k
