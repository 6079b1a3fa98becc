-- What an answer of the reader leads to: memory that holds the tables of an accepted file, and the answer of the call.
use Rattle.std.specs.Prelude.{Ok, Err}
use mathlib.Core.Path.{◌≡◌, sym, ap, ◌∙◌, subst}
use mathlib.Core.List.{List}
use Prim.Native.Nat.{ℕ}
use native.Mathlib.Omega.{arith}
use lib.ListN.{take}
use Rattle.refusals.specs.declared.Refusal.{Refusal}
use Rattle.refusals.specs.Numbers.{number_of}
use Rattle.file_tables.specs.Tables.{Tables}
use Rattle.file_form.specs.declared.fill.Counts.{Counts}
use Rattle.file_form.specs.Form.{tables_of, counts_of, Holds}
use Rattle.file_encode.specs.Encode.{lengths}
use Rattle.file_encode.specs.Fields.{Bytes}
use Rattle.file_encode.specs.Trips.{encoded}
use Rattle.prepare.specs.File.{Answer as FileAnswer, Means, Reads, order, refused, accepted}
use Rattle.prepare.specs.Laws.{accepted_well, lent_at}
use Rattle.prepare.proofs.Reading.{held_is}
use Rattle.machine.specs.Events.{no_counts}
use Rattle.machine.specs.Answer.{Answer, refused as refusal, answer}
use Rattle.answer.specs.Answer.{Ordered, Answers, out_of_order, wrong_file, laid_out}
use Rattle.solve_workspace.specs.declared.Bounds.{Bounds}
use Rattle.solve_workspace.specs.declared.RenderOptions.{RenderOptions}
use Rattle.solve_workspace.specs.Meets.{limits}
use Rattle.solve_workspace.specs.Reading.{rules, prepared}
use Rattle.materialize.specs.Rows.{Row}
use Rattle.render.specs.declared.order.Lengths.{Lengths}
use Rattle.render.specs.Order.{InOrder}
use Rattle.render.specs.Rendered.{Rendered, meant}
use Rattle.render.specs.Call.{settings, Readied, Laid, tables_held, Holding}
use Rattle.render.proofs.Readiness.{file_readied}

-- what an acceptance leaves
record Left (s : List ℕ) (n : Counts) (nodes : List (List ℕ)) (edges choices : List ℕ) (texts : List (List ℕ)) (bytes : List ℕ) : Type 0 where
  means : Means s (Ok (counts_of s))
  counts : counts_of s ≡ n
  holds : Holds (tables_of s) (counts_of s) nodes edges choices texts bytes

in_order : {o : RenderOptions} {b : Bounds} {l : Lengths} → InOrder o b l → Ordered (InOrder o b l) (settings o)
in_order i = record { wide = i.options.width; policy_known = i.options.policy; rule_known = i.options.rule; lent_enough = i }

module _ (s : List ℕ) (lent : Type 0) (nodes : List (List ℕ)) (edges choices : List ℕ) (texts : List (List ℕ)) (bytes : List ℕ) where
  left : {a : FileAnswer} (n : Counts) → Reads s lent nodes edges choices texts bytes a → a ≡ Ok n → Left s n nodes edges choices texts bytes
  left n (order f) e = let z : ◌≡◌ {A = ℕ} 0 1 = cc in absurd (omega arith)
  left n (refused k l m) e = let z : ◌≡◌ {A = ℕ} 0 1 = cc in absurd (omega arith)
  left n (accepted l m h) e = record { means = m; counts = cc; holds = h }

  -- memory is as long as the counts of the file, and ready for solver and materializer
  held_ready : Bytes s → Means s (Ok (counts_of s)) → Holds (tables_of s) (counts_of s) nodes edges choices texts bytes → Holding (counts_of s) nodes edges choices texts bytes
  held_ready z m h =
      let e = encoded s z (accepted_well m).0 in
      let l = lent_at s nodes edges choices texts bytes e h in
      let q : lengths (take (counts_of s).texts texts) ≡ (counts_of s).bytes = ap lengths h.text_rows ∙ sym e.sized.bytes ∙ e.counted.bytes in
      record {
        nodes_in = l.nodes_lent;
        edges_in = l.edges_lent;
        choices_in = l.choices_lent;
        texts_in = l.texts_lent;
        bytes_in = omega (arith, l.bytes_lent, q);
        readied = subst Readied (sym (held_is s nodes edges choices texts bytes h)) (file_readied s z m);
      }

  pub holding : {a : FileAnswer} (n : Counts) → Bytes s → Reads s lent nodes edges choices texts bytes a → a ≡ Ok n → Holding n nodes edges choices texts bytes
  holding n z g e = let l = left n g e in subst (λ (k : Counts). Holding k nodes edges choices texts bytes) l.counts (held_ready z l.means l.holds)

  -- the tables that the reader leaves are those of the file
  pub held_tables : {a : FileAnswer} (n : Counts) → Reads s lent nodes edges choices texts bytes a → a ≡ Ok n → tables_held n nodes edges choices texts bytes ≡ tables_of s
  held_tables n g e = let l = left n g e in subst (λ (k : Counts). tables_held k nodes edges choices texts bytes ≡ tables_of s) l.counts (held_is s nodes edges choices texts bytes l.holds)

  module _ {o : RenderOptions} {b : Bounds} {l : Lengths} (i : InOrder o b l) {a : FileAnswer} (g : Reads s lent nodes edges choices texts bytes a) where
    -- an accepted file: the answer of solver and materializer on what the reader left
    pub laid_answers : (n : Counts) → a ≡ Ok n → {output₀ output : List ℕ} {rows₀ rows : List Row} {r : Rendered}
        → Laid b (rules o) (prepared (tables_held n nodes edges choices texts bytes)) output₀ output rows₀ rows r
        → Answers (InOrder o b l) s (settings o) (limits b) (meant r output rows)
    laid_answers n e d =
        subst (λ (x : Answer). Answers (InOrder o b l) s (settings o) (limits b) x)
        (ap (λ (t : Tables). answer (rules o) (prepared t) (limits b)) (sym (held_tables n g e)) ∙ sym d.is)
        (laid_out (in_order i) (left n g e).means)

    -- a refused one
    pub refused_answers : lent → (k : Refusal) → a ≡ Err k → Answers (InOrder o b l) s (settings o) (limits b) (refusal (number_of k) 0 no_counts)
    refused_answers h k e = go g e
      where
        go : {x : FileAnswer} → Reads s lent nodes edges choices texts bytes x → x ≡ Err k → Answers (InOrder o b l) s (settings o) (limits b) (refusal (number_of k) 0 no_counts)
        go (order f) q = absurd (f h)
        go (refused j y m) q = let p : j ≡ k = cc in subst (λ (v : Refusal). Answers (InOrder o b l) s (settings o) (limits b) (refusal (number_of v) 0 no_counts)) p (wrong_file j (in_order i) m)
        go (accepted y m w) q = let z : ◌≡◌ {A = ℕ} 0 1 = cc in absurd (omega arith)

-- lent memory or options that are not as 1 asks
pub order_answers : (s : List ℕ) {o : RenderOptions} {b : Bounds} {l : Lengths} → (InOrder o b l → ⊥) → Answers (InOrder o b l) s (settings o) (limits b) (refusal 1 0 no_counts)
order_answers s h = out_of_order (λ i. h i.lent_enough)
