-- Laws for the whole call: from the right answer, and what stands in output and span rows, all that a call promises.
use Rattle.std.specs.Prelude.{Ok, Err}
use mathlib.Core.Path.{◌≡◌, refl, sym, ap, ◌∙◌, subst}
use mathlib.Core.List.{List}
use Prim.Native.Nat.{ℕ, ◌≤◌}
use native.Mathlib.Omega.{arith}
use lib.ListN.{length, take}
use lib.Seq.{length-take-le}
use Rattle.refusals.specs.declared.Refusal.{Refusal as Named}
use Rattle.refusals.specs.Numbers.{number_of}
use Rattle.file_encode.specs.Fields.{Bytes}
use Rattle.file_form.specs.declared.fill.Counts.{Counts}
use Rattle.prepare.specs.File.{Answer as FileAnswer, Reads}
use Rattle.memo.specs.Sizes.{SlotsFor}
use Rattle.machine.specs.Events.{Bounds as Limits, Counts as Tally, no_counts}
use Rattle.machine.specs.Materializer.{Rendered as Sheet}
use Rattle.machine.specs.Answer.{Answer, paged, refused}
use Rattle.answer.specs.Answer.{Answers}
use Rattle.answer.specs.Demand.{only_page, needs_within, just_page, less_refused}
use Rattle.answer.proofs.Demand.{promised}
use Rattle.stats.specs.Counts.{none_counted}
use Rattle.solve_workspace.specs.declared.Bounds.{Bounds}
use Rattle.solve_workspace.specs.declared.RenderOptions.{RenderOptions}
use Rattle.solve_workspace.specs.Meets.{limits}
use Rattle.solve_workspace.specs.Reading.{rules, prepared}
use Rattle.materialize.specs.Rows.{Row}
use Rattle.materialize.specs.Writes.{Written}
use Rattle.solve.specs.Accepted.{MemoRoom}
use Rattle.render.specs.declared.page.Refusal.{Refusal}
use Rattle.render.specs.declared.page.Draft.{Draft}
use Rattle.render.specs.declared.order.Lengths.{Lengths}
use Rattle.render.specs.Order.{InOrder}
use Rattle.render.specs.Rendered.{Rendered, refusal_with, meant, Stands}
use Rattle.render.specs.Drafts.{Drafted, chosen, page_of, Half, Writable}
use Rattle.render.specs.Call.{settings, Rendering, Drafting, Laid, MemoHolding, tables_held}
use Rattle.render.proofs.Ordered.{slots_single}
use Rattle.render.proofs.Halves.{half_refused, half_drawn, half_pledged, half_map}
use Rattle.render.proofs.Pages.{unaltered}
use Rattle.render.proofs.FromFile.{laid_answers, refused_answers, order_answers}

-- ---- what 1 asks for is what the parts ask for

-- the slots that a size takes are there, and cut to them the memo is as the solver asks
pub slots_there : {b : Bounds} {ss : List ℕ} {es : List Row} {n : ℕ} → MemoHolding b ss es → SlotsFor b.memo n → n ≤ length ss
slots_there {b} {n = n} h k = omega (arith, slots_single b.memo n h.slots_for k h.is, h.slots_in)

pub memo_room : {b : Bounds} {ss : List ℕ} {es : List Row} {n : ℕ} → MemoHolding b ss es → SlotsFor b.memo n → MemoRoom b (take n ss) es
memo_room {ss = ss} {n = n} h k = record { slots = rw (length-take-le n ss (slots_there h k)) k; entries = h.entries_in }

-- ---- the whole promise

module _ (file : List ℕ) (o : RenderOptions) (b : Bounds) (l : Lengths) (z : Bytes file) where
  rendering : (out₀ out : List ℕ) (rows₀ rows : List Row) (r : Rendered) → Answers (InOrder o b l) file (settings o) (limits b) (meant r out rows) → Stands r out₀ out rows₀ rows → Rendering file o b l out₀ out rows₀ rows r
  rendering out₀ out rows₀ rows r a s = record {
    answers = a;
    stands = s;
    promised = promised z a;
    same_page = λ p k e d m L w x q. only_page L w (as_page p k e) q;
    needs_within = λ p k e. needs_within (as_page p k e);
    just_suffices = λ p k e d m j w x q. just_page w (as_page p k e) (subst (λ (y : Limits). Answers (InOrder o d m) file (settings o) y x) j q);
    none_less = λ p k e x d m s w y q. less_refused w (as_page p k e) x (limits d) s q;
  }
    where
      as_page : (p : Sheet) (k : Tally) → meant r out rows ≡ paged p k → Answers (InOrder o b l) file (settings o) (limits b) (paged p k)
      as_page p k e = subst (λ (y : Answer). Answers (InOrder o b l) file (settings o) (limits b) y) e a

  -- ---- a refusal before the solver begins

  refused_half : (n : ℕ) → Answers (InOrder o b l) file (settings o) (limits b) (refused n 0 no_counts) → {P X : List Row} {B : List ℕ} {x : Refusal} → x ≡ refusal_with n 0 none_counted → Half (Rendering file o b l) b P X B (Err x)
  refused_half n a e =
      rw e
      (record {
        by = λ out rows.
            rendering out out rows rows (Err (refusal_with n 0 none_counted)) a
            (record { output_is = unaltered out out refl; rows_are = unaltered rows rows refl; fitting = λ j h. absurd (omega (arith, h)); no_fit_checks = refl });
      })

  module _ {lent : Type 0} {nodes : List (List ℕ)} {edges choices : List ℕ} {texts : List (List ℕ)} {bytes : List ℕ} {a : FileAnswer} (i : InOrder o b l) (g : Reads file lent nodes edges choices texts bytes a) {P X : List Row} {B : List ℕ} where
    -- a file that the reader refuses
    pub file_half : lent → (p : Named) → a ≡ Err p → {n : ℕ} → n ≡ number_of p → {x : Refusal} → x ≡ refusal_with n 0 none_counted → Half (Rendering file o b l) b P X B (Err x)
    file_half h p e q f = refused_half (number_of p) (refused_answers file lent nodes edges choices texts bytes i g h p e) (f ∙ ap (λ (n : ℕ). refusal_with n 0 none_counted) q)

    -- a file that it accepts
    pub laid_half : (n : Counts) → a ≡ Ok n → (r : Drafted) → Half (Laid b (rules o) (prepared (tables_held n nodes edges choices texts bytes))) b P X B r → Half (Rendering file o b l) b P X B r
    laid_half n e r h = half_map r (λ out₀ out rows₀ rows x d. rendering out₀ out rows₀ rows x (laid_answers file lent nodes edges choices texts bytes i g n e d) d.stands) h

  -- a call that is not in order
  pub order_half : (InOrder o b l → ⊥) → {P X : List Row} {B : List ℕ} {x : Refusal} → x ≡ refusal_with 1 0 none_counted → Half (Rendering file o b l) b P X B (Err x)
  order_half h e = refused_half 1 (order_answers file h) e

-- ---- the first half, and what comes after it

module _ {file : List ℕ} {o : RenderOptions} {b : Bounds} {l : Lengths} {P X : List Row} {B : List ℕ} where
  pub order_drafting : Bytes file → (InOrder o b l → ⊥) → {x : Refusal} → x ≡ refusal_with 1 0 none_counted → Drafting file o b l P X B (Err x)
  order_drafting z h f = record { half = order_half file o b l z h f; lent = λ d e. let z : ◌≡◌ {A = ℕ} 0 1 = cc in absurd (omega arith) }

  pub lent_drafting : (r : Drafted) → InOrder o b l → Half (Rendering file o b l) b P X B r → Drafting file o b l P X B r
  lent_drafting r i h = record { half = h; lent = λ d e. i.page }

  -- memory is as long as the sizes say
  pub writable : (r : Drafted) → Drafting file o b l P X B r → {st he ou : List ℕ} {ro : List Row} → length st ≡ l.visit → length he ≡ l.depth → length ou ≡ l.output → length ro ≡ l.spans
      → Writable b P X B st he ou ro r
  writable r D v h u s = record {
    drawn = λ d e. half_drawn r D.half e;
    lent = λ d e. let p = D.lent d e in record {
      small = (half_drawn r D.half e).small;
      visit_lent = omega (arith, p.visit, v);
      depth_lent = omega (arith, p.depth, h);
      output_lent = omega (arith, p.output, u);
      spans_lent = omega (arith, p.spans, s);
    };
  }

  module _ (r : Drafted) (h : Half (Rendering file o b l) b P X B r) where
    pub refused_rendering : {d : Refusal} → r ≡ Err d → (out : List ℕ) (rows : List Row) → (a : Rendered) → a ≡ Err d → Rendering file o b l out out rows rows a
    refused_rendering e out rows a f = subst (λ (y : Rendered). Rendering file o b l out out rows rows y) (sym f) (half_refused r h e out rows)

    pub written_rendering : {d : Draft} → r ≡ Ok d → (out₀ out : List ℕ) (rows₀ rows : List Row) → length out ≡ length out₀ → length rows ≡ length rows₀
        → (a : Rendered) → a ≡ page_of d → Written (chosen d P X B) out₀ out rows₀ rows → Rendering file o b l out₀ out rows₀ rows a
    written_rendering e out₀ out rows₀ rows lo lr a f w =
        subst (λ (y : Rendered). Rendering file o b l out₀ out rows₀ rows y) (sym f) ((half_pledged r h e).by out₀ out rows₀ rows lo lr w)
