-- What a reader finds after a batch: each document's row, and its page and spans behind those of the documents before it, as its single call gave them.
use Rattle.std.specs.Prelude.{◌≡◌, List, [], ◌∷◌, ℕ, ◌+◌, get_or, drop}
use Rattle.machine.specs.Answer.{Answer}
use Rattle.answer.specs.Page.{Promised}
use Rattle.solve_workspace.specs.declared.Bounds.{Bounds}
use Rattle.solve_workspace.specs.declared.RenderOptions.{RenderOptions}
use Rattle.solve_workspace.specs.Meets.{limits}
use Rattle.render.specs.Rendered.{Rendered, meant, page_length, span_count}
use Rattle.render.specs.Call.{settings}
use Rattle.desks.specs.Served.{Kept}
use Rattle.call_words.specs.Words.{words}
use Rattle.batch.specs.Batch.{Batch, rest}
use Rattle.batch.specs.Shift.{Shift}

-- from a row on, with so many bytes and spans before its page: a page's bytes and spans are words 2 and 3 of its row. A page is that of the first of the cheapest layouts of its document
pub data Standing (o : RenderOptions) (G : Batch) : ℕ → ℕ → ℕ → List (List ℕ) → List Answer → Type 0 where
  nothing : {n bytes spans : ℕ} → Standing o G n bytes spans [] []
  behind : {n bytes spans : ℕ} {file : List ℕ} {files : List (List ℕ)} {answers : List Answer} (told : Rendered) → get_or G.answers n [] ≡ words told
      → Kept (Promised file (settings o)) (meant told (drop bytes G.output) (drop spans G.rows)) → Standing o G (n + 1) (bytes + page_length told) (spans + span_count told) files answers
      → Standing o G n bytes spans (file ∷ files) (meant told (drop bytes G.output) (drop spans G.rows) ∷ answers)

-- ---- a batch is a shift, and each answer of it stands in memory

pub record Found (d : ℕ) (o : RenderOptions) (b : Bounds) (files : List (List ℕ)) (F G : Batch) : Type 0 where
  pub answers : List Answer
  pub shift : Shift d (settings o) (limits (rest b F.bytes F.spans)) F.shared.desks files answers (limits (rest b G.bytes G.spans)) G.shared.desks
  pub standing : Standing o G F.filed F.bytes F.spans files answers

-- ---- what is past the last is unaltered

pub record Past (F G : Batch) : Type 0 where
  pub output : drop G.bytes G.output ≡ drop G.bytes F.output
  pub rows : drop G.spans G.rows ≡ drop G.spans F.rows
  pub answers : drop G.filed G.answers ≡ drop G.filed F.answers

-- ---- a batch, once its own refusals are passed

pub record Delivered (d : ℕ) (o : RenderOptions) (b : Bounds) (files : List (List ℕ)) (F G : Batch) : Type 0 where
  pub pages : Found d o b files F G
  pub past : Past F G
