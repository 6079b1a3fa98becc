-- Which word is what where an answer is handed to another language.
use Rattle.std.specs.Prelude.{◌≡◌, Result, Ok, Err, refl, List, [], ◌∷◌, ℕ, get_or}
use Rattle.std.proofs.Common.{sym, ap, ◌∙◌, subst, arith}
use Rattle.stats.specs.declared.SolveStats.{SolveStats}
use Rattle.solve_workspace.specs.declared.Bounds.{Bounds}
use Rattle.solve_workspace.specs.declared.RenderOptions.{RenderOptions}
use Rattle.refusals.specs.declared.Refusal.{Refusal}
use Rattle.refusals.specs.Numbers.{number_of}
use Rattle.file_form.specs.declared.fill.Counts.{Counts}
use Rattle.prepare.specs.declared.write.FileCounts.{FileCounts}
use Rattle.prepare.specs.declared.write.Unwritten.{Unwritten}
use Rattle.prepare.specs.File.{Reads}
use Rattle.prepare.specs.Writing.{Writes}
use Rattle.file_tables.specs.Tables.{Tables}
use Rattle.materialize.specs.Rows.{Row}
use Rattle.render.specs.declared.order.Lengths.{Lengths}
use Rattle.machine.specs.Numbers.{Numbered, not_0}
use Rattle.machine.specs.Answer.{Answer, refused}
use Rattle.answer.specs.Page.{Promised, right_refusal}
use Rattle.solve_workspace.specs.Meets.{tally}
use Rattle.render.specs.Rendered.{Rendered, refusal_with, meant}
use Rattle.render.specs.Call.{settings}
use Rattle.desks.specs.Desks.{charged}
use Rattle.desks.specs.Lent.{work_in}
use Rattle.desks.specs.Served.{ServedNumbered, of_the_call, desk, Kept, as_the_call, no_desk}
use Rattle.desks.specs.Calls.{DeskRendering}
use Rattle.call_words.specs.Words.{words}
use Rattle.call_words.specs.Accounts.{desks_at, desk_words}

-- ---- a call

-- the words are those of the call's answer, the number is the first of them, and the desks' words are those before with its work charged
pub record Answered (d : ℕ) (was is : List ℕ) (file : List ℕ) (o : RenderOptions) (b : Bounds) (l : Lengths) (output₀ output : List ℕ) (rows₀ rows : List Row) (answer : List ℕ) (number : ℕ) : Type 0 where
  pub told : Rendered
  pub rendering : DeskRendering d (desks_at was) file o b l output₀ output rows₀ rows told
  pub desks_are : is ≡ desk_words (charged (desks_at was) d (work_in told))
  pub answer_is : answer ≡ words told
  pub number_is : number ≡ get_or (words told) 0 0

-- a refusal's number is one of those of documents 01 and 02
pub refusals :
    {d : ℕ} {was is file : List ℕ} {o : RenderOptions} {b : Bounds} {l : Lengths} {output₀ output : List ℕ} {rows₀ rows : List Row} {answer : List ℕ} {number : ℕ}
    → (a : Answered d was is file o b l output₀ output rows₀ rows answer number) (n needed : ℕ) (k : SolveStats) → a.told ≡ Err (refusal_with n needed k) → ServedNumbered Numbered n
refusals {file = file} {o = o} {output = output} {rows = rows} a n needed k e = one_of refl (subst (λ (r : Rendered). Kept (Promised file (settings o)) (meant r output rows)) e a.rendering.right.promised)
  where
    of_call : Promised file (settings o) (refused n needed (tally k)) → Numbered n
    of_call (right_refusal h) = h

    one_of : {z : Answer} → z ≡ refused n needed (tally k) → Kept (Promised file (settings o)) z → ServedNumbered Numbered n
    one_of f (as_the_call p) = of_the_call (of_call (subst (λ (z : Answer). Promised file (settings o) z) f p))
    one_of f no_desk = let i : ◌≡◌ {A = ℕ} 28 n = cc in desk (sym i)

-- none of them is 0: the number is 0 just where there is a page
pub never_0 :
    {d : ℕ} {was is file : List ℕ} {o : RenderOptions} {b : Bounds} {l : Lengths} {output₀ output : List ℕ} {rows₀ rows : List Row} {answer : List ℕ} {number : ℕ}
    → (a : Answered d was is file o b l output₀ output rows₀ rows answer number) (n needed : ℕ) (k : SolveStats) → a.told ≡ Err (refusal_with n needed k) → number ≡ 0 → ⊥
never_0 {number = number} a n needed k e z =
    let same : number ≡ n = a.number_is ∙ ap (λ (r : Rendered). get_or (words r) 0 0) e in
    go (refusals a n needed k e) (omega (arith, same, z))
  where
    go : {i : ℕ} → ServedNumbered Numbered i → i ≡ 0 → ⊥
    go (of_the_call h) q = omega (arith, not_0 h, q)
    go (desk h) q = omega (arith, h, q)

-- ---- reader and writer

-- nodes, edges, choice edges, texts, annotations, root, space text, as `write` takes them, then text bytes
abbrev pub table_words : Counts → List ℕ
table_words n = n.nodes ∷ n.edges ∷ n.choices ∷ n.texts ∷ n.annotations ∷ n.root.0 ∷ n.space.0 ∷ n.bytes ∷ []

-- the refusal's number, or 0 for an accepted file, whose counts are put; a refusal leaves the lent words as they were
abbrev pub read_number : Result Counts Refusal → ℕ
read_number (Ok n) = 0
read_number (Err p) = number_of p

abbrev pub read_words : Result Counts Refusal → List ℕ → List ℕ
read_words (Ok n) was = table_words n
read_words (Err p) was = was

-- the refusal's number, or 0 for a written file; how many bytes were written, or are needed (0 where no size is too small)
abbrev pub write_number : Result ℕ Unwritten → ℕ
write_number (Ok k) = 0
write_number (Err e) = number_of e.refusal

abbrev pub write_size : Result ℕ Unwritten → ℕ
write_size (Ok k) = k
write_size (Err e) = e.needed

pub record Read (s : List ℕ) (lent : Type 0) (nodes : List (List ℕ)) (edges choices : List ℕ) (texts : List (List ℕ)) (bytes was counts : List ℕ) (number : ℕ) : Type 0 where
  pub told : Result Counts Refusal
  pub reads : Reads s lent nodes edges choices texts bytes told
  pub counts_are : counts ≡ read_words told was
  pub number_is : number ≡ read_number told

-- the counts that a file has, as seven words give them
abbrev pub counts : List ℕ → FileCounts
counts w = record {
  nodes = get_or w 0 0;
  edges = get_or w 1 0;
  choices = get_or w 2 0;
  texts = get_or w 3 0;
  annotations = get_or w 4 0;
  root = record { 0 = get_or w 5 0 };
  space = record { 0 = get_or w 6 0 };
}

pub record Wrote (t : Tables) (lent : Type 0) (out₀ out : List ℕ) (size number : ℕ) : Type 0 where
  pub told : Result ℕ Unwritten
  pub writes : Writes t lent out₀ out told
  pub size_is : size ≡ write_size told
  pub number_is : number ≡ write_number told
