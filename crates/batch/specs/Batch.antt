-- One document of a batch (document 02, change 9): what a single call gives with the output and spans still free at that moment.
use Rattle.std.specs.Prelude.{◌≡◌, List, [], ◌∷◌, ◌++◌, ℕ, ◌+◌, ◌-◌, ◌<◌, ◌^◌, length, get_or, take, drop, set}
use Rattle.solve_workspace.specs.declared.Bounds.{Bounds}
use Rattle.solve_workspace.specs.declared.RenderOptions.{RenderOptions}
use Rattle.materialize.specs.Rows.{Row}
use Rattle.render.specs.declared.order.Lengths.{Lengths}
use Rattle.render.specs.Rendered.{Rendered, page_length, span_count, counts_of}
use Rattle.desks.specs.declared.SharedRecord.{SharedRecord}
use Rattle.desks.specs.Lent.{settled}
use Rattle.desks.specs.Calls.{DeskRendering}
use Rattle.call_words.specs.Words.{words}

-- the shared record, output, span rows and answers as they stand, and how many bytes and spans are used, by how many documents
pub record Batch : Type 0 where
  pub shared : SharedRecord
  pub output : List ℕ
  pub rows : List Row
  pub answers : List Row
  pub bytes : ℕ
  pub spans : ℕ
  pub filed : ℕ

-- the call's sizes and limits, output and spans without what is used
abbrev pub rest : Bounds → ℕ → ℕ → Bounds
rest b bytes spans = record {
  stack = b.stack;
  memo = b.memo;
  kept = b.kept;
  frontier = b.frontier;
  plans = b.plans;
  visit = b.visit;
  depth = b.depth;
  output = b.output - bytes;
  spans = b.spans - spans;
  work_limit = b.work_limit;
  visit_limit = b.visit_limit;
}

-- the lent memory's lengths, likewise
abbrev pub rest_lent : Lengths → ℕ → ℕ → Lengths
rest_lent l bytes spans = record {
  nodes = l.nodes;
  edges = l.edges;
  choices = l.choices;
  texts = l.texts;
  bytes = l.bytes;
  tasks = l.tasks;
  results = l.results;
  pending = l.pending;
  index = l.index;
  entries = l.entries;
  kept = l.kept;
  frontier = l.frontier;
  plans = l.plans;
  visit = l.visit;
  depth = l.depth;
  output = l.output - bytes;
  spans = l.spans - spans;
}

-- after an answer: what stood before the free parts is as it was, the parts are as the call left them. A page takes its bytes and spans, a refusal takes none; the counts are the answer's,
-- its work is charged, and its words are the document's row
abbrev pub next : ℕ → Rendered → List ℕ → List Row → Batch → Batch
next d a output rows F = record {
  shared = settled F.shared d (counts_of a);
  output = take F.bytes F.output ++ output;
  rows = take F.spans F.rows ++ rows;
  answers = set F.answers F.filed (words a);
  bytes = F.bytes + page_length a;
  spans = F.spans + span_count a;
  filed = F.filed + 1;
}

-- the single call's own promise, on the parts that are free. A lent part keeps its length, and the low half of an overflow is a word
pub record One (d : ℕ) (o : RenderOptions) (b : Bounds) (l : Lengths) (file : List ℕ) (F G : Batch) : Type 0 where
  pub told : Rendered
  pub output : List ℕ
  pub rows : List Row
  pub call : DeskRendering d F.shared.desks file o (rest b F.bytes F.spans) (rest_lent l F.bytes F.spans) (drop F.bytes F.output) output (drop F.spans F.rows) rows told
  pub output_length : length output ≡ length (drop F.bytes F.output)
  pub rows_length : length rows ≡ length (drop F.spans F.rows)
  pub low_word : get_or (words told) 5 0 < 2 ^ 64
  pub after : G ≡ next d told output rows F

-- documents in order, each after those before it
pub data Filed (d : ℕ) (o : RenderOptions) (b : Bounds) (l : Lengths) : List (List ℕ) → Batch → Batch → Type 0 where
  none : {F : Batch} → Filed d o b l [] F F
  more : {files : List (List ℕ)} {file : List ℕ} {F G H : Batch} → Filed d o b l files F G → One d o b l file G H → Filed d o b l (files ++ file ∷ []) F H
