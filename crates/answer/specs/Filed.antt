-- Every page is well-formed UTF-8, so that the archive takes it (document 02, change 1): it is made of texts, newlines and spaces.
use Rattle.std.specs.Prelude.{◌≡◌, List, [], ◌∷◌, ℕ, zero, suc, ◌≤◌, length}
use Rattle.std.proofs.Common.{sym, subst, arith}
use Rattle.std.proofs.Math.Logic.{by_cases}
use Rattle.std.proofs.Math.Option.{Option, none, some}
use Rattle.std.proofs.Math.Decide.{dec_lt}
use Rattle.std.proofs.Math.ListN.{get_or-eq_default}
use Rattle.file_utf8.specs.Utf8.{Utf8}
use Rattle.file_utf8.specs.Utf8.{nothing as no_bytes}
use Rattle.file_utf8.specs.Joined.{joined, newline_to}
use Rattle.layout.specs.Document.{Word, Doc, empty, text, newline, cat, nest, align, choice, annotate, penalty}
use Rattle.layout.specs.Rules.{Rules}
use Rattle.layout.specs.Layout.{Plan, page, Allows, is_empty, is_text, is_newline, is_cat, is_nest, is_align, is_first, is_second, is_annotate, is_penalty}
use Rattle.layout.specs.Table.{Node, Table, Empty, Break, HardLine, Text, Seq, Fill, Group, Align, Nest, Choice, Annotate, Penalty, seq_doc, fill_doc, group_doc, shape, Reads}
use Rattle.layout.specs.References.{Ranked}
use Rattle.layout.specs.Reading.{unfolded, reads_document}
use Rattle.file_tables.specs.Tables.{Tables, text_row}
use Rattle.file_form.specs.declared.fill.Counts.{Counts as FileCounts}
use Rattle.file_form.specs.Form.{tables_of}
use Rattle.file_encode.specs.Fields.{Bytes}
use Rattle.file_checks.specs.Texts.{TextsOk}
use Rattle.std.specs.Prelude.{Ok}
use Rattle.prepare.specs.File.{Means, right}
use Rattle.machine_input.specs.Reading.{word_of_row}
use Rattle.machine.specs.Events.{Bounds, Counts}
use Rattle.machine.specs.Materializer.{Rendered}
use Rattle.machine.specs.Answer.{Answer, paged}
use Rattle.answer.specs.Answer.{Settings, document_of, Answers, out_of_order, wrong_file, laid_out}
use Rattle.answer.specs.Page.{RulesPage}
use Rattle.answer.specs.Ready.{judged_accepted, file_ready}

-- every text of a document is well formed
data WellFormed : Doc → Type 0 where
  of_empty : WellFormed empty
  of_text : {w : Word} → Utf8 w.bytes → WellFormed (text w)
  of_newline : WellFormed newline
  of_cat : {a b : Doc} → WellFormed a → WellFormed b → WellFormed (cat a b)
  of_nest : {n : ℕ} {d : Doc} → WellFormed d → WellFormed (nest n d)
  of_align : {d : Doc} → WellFormed d → WellFormed (align d)
  of_choice : {a b : Doc} → WellFormed a → WellFormed b → WellFormed (choice a b)
  of_annotate : {k : ℕ} {d : Doc} → WellFormed d → WellFormed (annotate k d)
  of_penalty : {n : ℕ} {d : Doc} → WellFormed d → WellFormed (penalty n d)

-- then so is the page of each of its layouts
page_of : {R : Rules} {d : Doc} {c i : ℕ} {p : Plan} → Allows R d c i p → WellFormed d → Utf8 (page p)
page_of is_empty z = no_bytes
page_of is_text (of_text u) = u
page_of (is_newline {i = i}) z = newline_to i
page_of (is_cat {p = p} {q = q} a b) (of_cat y z) = joined (page p) (page q) (page_of a y) (page_of b z)
page_of (is_nest a) (of_nest z) = page_of a z
page_of (is_align a) (of_align z) = page_of a z
page_of (is_first a) (of_choice y z) = page_of a y
page_of (is_second a) (of_choice y z) = page_of a z
page_of (is_annotate a) (of_annotate z) = page_of a z
page_of (is_penalty a) (of_penalty z) = page_of a z

-- ---- the documents of a table whose texts are well formed

module _ (T : Table) (texts : (n : ℕ) → Utf8 (T.texts n).bytes) (space : Utf8 T.space.bytes) where
  module _ (D : ℕ → Doc) (below : (n : ℕ) → WellFormed (D n)) where
    in_seq : (d : Doc) (ks : List ℕ) → WellFormed d → WellFormed (seq_doc T D d ks)
    in_seq d [] z = z
    in_seq d (k ∷ ks) z = in_seq (cat d (D k)) ks (of_cat z (below k))

    in_fill : (d : Doc) (ks : List ℕ) → WellFormed d → WellFormed (fill_doc T D d ks)
    in_fill d [] z = z
    in_fill d (k ∷ ks) z = in_fill (cat (cat d (choice (text T.space) newline)) (D k)) ks (of_cat (of_cat z (of_choice (of_text space) of_newline)) (below k))

    in_group : (k : ℕ) (o : Option ℕ) → WellFormed (group_doc T D k o)
    in_group k none = below k
    in_group k (some f) = of_choice (below f) (below k)

    in_shape : (v : Node) → WellFormed (shape T D v)
    in_shape Empty = of_empty
    in_shape Break = of_newline
    in_shape HardLine = of_newline
    in_shape (Text n) = of_text (texts n)
    in_shape (Seq []) = of_empty
    in_shape (Seq (k ∷ ks)) = in_seq (D k) ks (below k)
    in_shape (Fill []) = of_empty
    in_shape (Fill (k ∷ ks)) = in_fill (D k) ks (below k)
    in_shape (Group k) = in_group k (T.flat k)
    in_shape (Align k) = of_align (below k)
    in_shape (Nest n k) = of_nest (below k)
    in_shape (Choice a b) = of_choice (below a) (below b)
    in_shape (Annotate a k) = of_annotate (below k)
    in_shape (Penalty n k) = of_penalty (below k)

  in_depth : (f n : ℕ) → WellFormed (unfolded T f n)
  in_depth zero n = of_empty
  in_depth (suc f) n = in_shape (unfolded T f) (in_depth f) (T.node n)

  in_document : (K : Ranked T) (D : ℕ → Doc) → Reads T D → (n : ℕ) → WellFormed (D n)
  in_document K D r n = subst WellFormed (sym (reads_document T K D r n)) (in_depth (suc (K.rank n)) n)

-- ---- an accepted file's

-- past the last text there are no bytes
text_of : (t : Tables) → TextsOk t.texts t.bytes → (n : ℕ) → Utf8 (word_of_row t.bytes (text_row t n)).bytes
text_of t z n =
    by_cases (dec_lt n (length t.texts)) (λ h. (z.each n h).well_formed)
    (λ h. let e : text_row t n ≡ [] = get_or-eq_default t.texts [] (let l : length t.texts ≤ n = omega (arith, h) in l) in subst (λ (row : List ℕ). Utf8 (word_of_row t.bytes row).bytes) (sym e) no_bytes)

-- what is known of a file that gets a page
pub record PageFile (file : List ℕ) : Type 0 where
  texts : TextsOk (tables_of file).texts (tables_of file).bytes
  ranked : Ranked (document_of file).table

accepted_file : (file : List ℕ) → Bytes file → {n : FileCounts} → Means file (Ok n) → PageFile file
accepted_file file z (right f j) = record { texts = (judged_accepted j).texts; ranked = (file_ready file z f j).ranked }

pub file_of_page : {lent : Type 0} {file : List ℕ} {c : Settings} {b : Bounds} {a : Answer} (r : Rendered) (k : Counts) → Bytes file → Answers lent file c b a → a ≡ paged r k → PageFile file
file_of_page r k z (out_of_order n) e = let y : ◌≡◌ {A = ℕ} 0 1 = cc in absurd (omega arith)
file_of_page r k z (wrong_file n o m) e = let y : ◌≡◌ {A = ℕ} 0 1 = cc in absurd (omega arith)
file_of_page {file = file} r k z (laid_out o m) e = accepted_file file z m

pub rules_page_utf8 : (file : List ℕ) (c : Settings) (r : Rendered) → PageFile file → RulesPage file c r → Utf8 r.bytes
rules_page_utf8 file c r y p =
    let t = tables_of file in
    let f = p.rule in
    let w = in_document (document_of file).table (text_of t y.texts) (text_of t y.texts t.space) y.ranked f.document f.reads (document_of file).root in
    subst Utf8 (sym p.bytes_are) (page_of f.cheapest.allowed w)

-- the rule's page of an accepted file
pub filed_utf8 : {file : List ℕ} {c : Settings} {r : Rendered} {n : FileCounts} → Bytes file → Means file (Ok n) → RulesPage file c r → Utf8 r.bytes
filed_utf8 {file} {c} {r} z m p = rules_page_utf8 file c r (accepted_file file z m) p
