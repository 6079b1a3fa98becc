-- From document to document, and from the gate to the end.
use mathlib.Core.Path.{◌≡◌, refl, sym, subst}
use mathlib.Core.List.{List}
use Prim.Native.Nat.{ℕ, ◌+◌, ◌≤◌, ◌<◌, ◌^◌}
use native.Mathlib.Omega.{arith}
use lib.ListN.{length, get_or}
use Rattle.solve_workspace.specs.declared.Bounds.{Bounds}
use Rattle.solve_workspace.specs.declared.RenderOptions.{RenderOptions}
use Rattle.materialize.specs.Rows.{Row}
use Rattle.render.specs.declared.order.Lengths.{Lengths}
use Rattle.desks.specs.declared.Desks.{Desks}
use Rattle.desks.specs.declared.SharedRecord.{SharedRecord}
use Rattle.desks.specs.Desks.{last_desk, remaining}
use Rattle.desks.specs.Layer.{charged_nothing}
use Rattle.batch.specs.declared.FiledAll.{FiledAll}
use Rattle.batch.specs.declared.Progress.{Progress}
use Rattle.batch.specs.Documents.{cut, document, most_documents}
use Rattle.batch.specs.Cuts.{documents_suc, all_documents}
use Rattle.batch.specs.Batch.{One, Filed, none, more}
use Rattle.batch.specs.Batched.{BatchLent, Batched, out_of_order, no_desk, too_many, filed, begun, ended, BatchGate, opens, order, desk, many}
use Rattle.batch.specs.Values.{refusal, beginning, ending, held}
use Rattle.batch_call.specs.Going.{Ready, Tried, Came}

pub alike : {l m : Lengths} → l.nodes ≡ m.nodes → l.edges ≡ m.edges → l.choices ≡ m.choices → l.texts ≡ m.texts → l.bytes ≡ m.bytes → l.tasks ≡ m.tasks → l.results ≡ m.results → l.pending ≡ m.pending
    → l.index ≡ m.index → l.entries ≡ m.entries → l.kept ≡ m.kept → l.frontier ≡ m.frontier → l.plans ≡ m.plans → l.visit ≡ m.visit → l.depth ≡ m.depth → l.output ≡ m.output → l.spans ≡ m.spans → l ≡ m
alike a b c d e f g h j k n o p q r s t =
    λ i. record {
      nodes = a i;
      edges = b i;
      choices = c i;
      texts = d i;
      bytes = e i;
      tasks = f i;
      results = g i;
      pending = h i;
      index = j i;
      entries = k i;
      kept = n i;
      frontier = o i;
      plans = p i;
      visit = q i;
      depth = r i;
      output = s i;
      spans = t i;
    }

module _ {d : ℕ} {D : Desks} {o : RenderOptions} {b : Bounds} {l : Lengths} {files lengths output₀ : List ℕ} {rows₀ answers₀ : List Row} where
  pub at_first : {p : Progress} → p ≡ beginning → Ready d D b files lengths beginning output₀ rows₀ answers₀ → Came d D o b l files lengths 0 output₀ output₀ rows₀ rows₀ answers₀ answers₀ p
  at_first e R = rw e record { filed = λ k. none; filed_is = refl; ready = R }

  module _ {p : Progress} {output : List ℕ} {rows answers : List Row} where
    pub to_try : {n : ℕ} → n < length lengths → Came d D o b l files lengths n output₀ output rows₀ rows answers₀ answers p → Ready d D b files lengths p output rows answers × (p.filed < length lengths)
    to_try h C = (C.ready, omega (arith, h, C.filed_is))

    pub one_more : {q : Progress} {output' : List ℕ} {rows' answers' : List Row} {m : Lengths} {n : ℕ} → m ≡ l → n < length lengths → Came d D o b l files lengths n output₀ output rows₀ rows answers₀ answers p
        → Tried d D o b m files lengths p output output' rows rows' answers answers' q → Came d D o b l files lengths (n + 1) output₀ output' rows₀ rows' answers₀ answers' q
    one_more {q} {output'} {rows'} {answers'} {n = n} e h C T = record {
      filed = λ k. subst (λ (f : List (List ℕ)). Filed d o b l f (held d (record { stats = k; desks = D }) beginning output₀ rows₀ answers₀) (held d (record { stats = k; desks = D }) q output' rows' answers'))
          (sym (documents_suc files lengths n h))
          (more (C.filed k) (subst (λ (i : ℕ). One d o b l (document files lengths i) (held d (record { stats = k; desks = D }) p output rows answers)
          (held d (record { stats = k; desks = D }) q output' rows' answers')) C.filed_is
          (subst (λ (z : Lengths). One d o b z (document files lengths p.filed) (held d (record { stats = k; desks = D }) p output rows answers)
          (held d (record { stats = k; desks = D }) q output' rows' answers')) e (T.one k))));
      filed_is = omega (arith, T.filed_is, C.filed_is);
      ready = T.ready;
    }

    pub may_end : Came d D o b l files lengths (length lengths) output₀ output rows₀ rows answers₀ answers p → (p.filed ≤ length answers) × (p.filed ≤ most_documents) × (p.work ≤ remaining D d)
    may_end C = (omega (arith, C.filed_is, C.ready.answers_lent), omega (arith, C.filed_is, C.ready.few), C.ready.work_in)

opened : {lent : Type 0} {d documents g : ℕ} → BatchGate lent d documents g → g ≡ 0 → lent × (d ≤ last_desk) × (documents ≤ most_documents)
opened (opens t h f) z = (t, h, f)
opened (order n) z = absurd (omega (arith, z))
opened (desk t h) z = absurd (omega (arith, z))
opened (many t h f) z = absurd (omega (arith, z))

module _ {d g : ℕ} {o : RenderOptions} {b : Bounds} {l : Lengths} {files lengths output₀ : List ℕ} {rows₀ answers₀ : List Row} (gate : BatchGate (BatchLent o b l (length files) lengths (length answers₀)) d (length lengths) g) where
  pub turned : {s : SharedRecord} {r : FiledAll} → (g ≡ 0 → ⊥) → r ≡ refusal g (length lengths) s → Batched d o b l files lengths (begun s output₀ rows₀ answers₀) r.number (ended r output₀ rows₀ answers₀)
  turned {s} ne e = subst (λ (r : FiledAll). Batched d o b l files lengths (begun s output₀ rows₀ answers₀) r.number (ended r output₀ rows₀ answers₀)) (sym e) (go gate ne)
    where
      go : {n : ℕ} → BatchGate (BatchLent o b l (length files) lengths (length answers₀)) d (length lengths) n → (n ≡ 0 → ⊥)
          → Batched d o b l files lengths (begun s output₀ rows₀ answers₀) n (ended (refusal n (length lengths) s) output₀ rows₀ answers₀)
      go (opens t h f) z = absurd (z refl)
      go (order n) z = out_of_order n
      go (desk t h) z = no_desk t h
      go (many t h f) z = too_many t h f

  module _ (open_gate : g ≡ 0) where
    pub ready : (D : Desks) → l.output ≡ length output₀ → l.spans ≡ length rows₀ → (b.output < 2 ^ 32) × (b.spans < 2 ^ 32) → last_desk < length D.spent → get_or D.allowance d 0 < 2 ^ 64
        → Ready d D b files lengths beginning output₀ rows₀ answers₀
    ready D e f sizes counted allowance = let w = opened gate open_gate in record {
      desk = w.1;
      few = w.2;
      answers_lent = omega (arith, w.0.answers_lent, w.2);
      files_lent = w.0.files_lent;
      output_lent = omega (arith, e, w.0.in_order.page.output);
      rows_lent = omega (arith, f, w.0.in_order.page.spans);
      bytes_in = omega arith;
      spans_in = omega arith;
      at_is = refl;
      work_in = omega arith;
      sizes = sizes;
      counted = counted;
      allowance = allowance;
    }

    pub all_filed : {s : SharedRecord} {p : Progress} {output : List ℕ} {rows answers : List Row} {r : FiledAll} → Came d s.desks o b l files lengths (length lengths) output₀ output rows₀ rows answers₀ answers p → r ≡ ending d s p answers
        → Batched d o b l files lengths (begun s output₀ rows₀ answers₀) r.number (ended r output rows answers)
    all_filed {s} {p} {output} {rows} {answers} C e =
        let w = opened gate open_gate in
        subst (λ (r : FiledAll). Batched d o b l files lengths (begun s output₀ rows₀ answers₀) r.number (ended r output rows answers)) (sym e)
        (filed w.0 w.1 w.2
        (subst (λ (E : Desks). Filed d o b l (cut files lengths) (begun (record { stats = s.stats; desks = E }) output₀ rows₀ answers₀) (held d s p output rows answers)) (charged_nothing s.desks d)
        (subst (λ (f : List (List ℕ)). Filed d o b l f (held d s beginning output₀ rows₀ answers₀) (held d s p output rows answers)) (all_documents files lengths) (C.filed s.stats))))
