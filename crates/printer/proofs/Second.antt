-- The second half of a call: what its steps ask, and what they come to.
use Rattle.std.specs.Prelude.{Ok, Err}
use mathlib.Core.Path.{◌≡◌, refl, ap, ◌∙◌}
use mathlib.Core.List.{List}
use Prim.Native.Nat.{ℕ, ◌+◌, ◌≤◌, ◌<◌}
use native.Mathlib.Omega.{arith}
use lib.ListN.{length, length-set}
use lib.Seq.{get_or-set_same}
use Rattle.stats.specs.declared.SolveStats.{SolveStats}
use Rattle.spans.specs.declared.AnnotationSpan.{AnnotationSpan}
use Rattle.solve_workspace.specs.declared.Bounds.{Bounds}
use Rattle.materialize.specs.Rows.{Row}
use Rattle.materialize.proofs.Written.{some_visit}
use Rattle.records.specs.Records.{visited, Begun, Recorded}
use Rattle.render.specs.declared.page.Draft.{Draft}
use Rattle.render.specs.Rendered.{with_counts}
use Rattle.render.specs.Drafts.{Drafted, capacity, chosen, Drawn}
use Rattle.render.proofs.Halves.{drawn_passes}
use Rattle.desks.specs.declared.SharedRecord.{SharedRecord}
use Rattle.desks.specs.Desks.{remaining}
use Rattle.desks.specs.Lent.{settled}
use Rattle.printer.specs.Printed.{Outcome}
use Rattle.printer.specs.Delivered.{outcome, counts_first, counts_last, start_of, start_words, Rooted, WroteOf, Deliverable, Delivered}

-- visits counted one by one from the draft's counts are the draft's visits
last_counts : {b : Bounds} {plans texts : List Row} {bytes : List ℕ} (d : Draft) → Drawn b d plans texts bytes → visited d.stats d.visits ≡ with_counts d.stats d.visits
last_counts d y = rw y.no_fit_checks refl

-- and the work is the draft's
same_work : (a : Drafted) → (counts_last a).work_items ≡ (counts_first a).work_items
same_work (Ok d) = refl
same_work (Err e) = refl

wrote : {plans texts : List Row} {bytes output output' : List ℕ} {spans spans' : List AnnotationSpan} {stats : SolveStats} (b : Bounds) (a : Drafted)
    → Recorded (start_of b a).capacity (start_of b a).chosen plans texts bytes output output' (counts_first a) stats spans spans' (start_of b a).walk → WroteOf plans texts bytes output output' spans spans' a
wrote b (Ok d) y = y.written (omega arith)
wrote b (Err e) y = ((y.none refl).0, (y.none refl).2)

module _ {n : ℕ} {before : SharedRecord} {b : Bounds} {plans texts : List Row} {bytes visit depth output : List ℕ} {spans : List AnnotationSpan} where
  some_words : (d : Draft) → Deliverable n before b (Ok d) plans texts bytes visit depth output spans → 0 < length visit
  some_words d x = omega (arith, x.by.1.visit_lent, some_visit (capacity b) (chosen d plans texts bytes) (drawn_passes x.by.0))

  pub rooted : (a : Drafted) → Deliverable n before b a plans texts bytes visit depth output spans → Rooted a visit
  rooted (Ok d) x = record { by = some_words d x }
  rooted (Err e) x = record { by = tt }

  pub begun : (a : Drafted) → Deliverable n before b a plans texts bytes visit depth output spans
      → Begun (start_of b a).capacity (start_of b a).chosen plans texts bytes (start_words a visit) depth output (counts_first a) spans (start_of b a).walk
  begun (Ok d) x = record {
    ready = λ p. record {
      in_use = record { plans_lent = x.by.0.plans_in; texts_lent = x.by.0.texts_in; bytes_lent = x.by.0.bytes_in };
      lent = record {
        small = x.by.1.small;
        visit_lent = omega (arith, x.by.1.visit_lent, length-set visit 0 (d.root.0 + 1));
        depth_lent = x.by.1.depth_lent;
        output_lent = x.by.1.output_lent;
        spans_lent = x.by.1.spans_lent;
      };
      planned = x.by.0.planned;
      inside = x.by.0.inside;
      passes = drawn_passes x.by.0;
      started = refl;
      root_first = get_or-set_same visit 0 (d.root.0 + 1) 0 (some_words d x);
    };
    uncounted = λ p. x.by.0.unvisited;
  }
  begun (Err e) x = record { ready = λ p. absurd (omega (arith, p)); uncounted = λ p. absurd (omega (arith, p)) }

  -- ---- once the second pass has ended

  module _ {output' : List ℕ} {spans' : List AnnotationSpan} {stats : SolveStats} where
    counted : (a : Drafted) → Deliverable n before b a plans texts bytes visit depth output spans
        → Recorded (start_of b a).capacity (start_of b a).chosen plans texts bytes output output' (counts_first a) stats spans spans' (start_of b a).walk → stats ≡ counts_last a
    counted (Ok d) x y = y.visits_are (omega arith) (drawn_passes x.by.0) ∙ last_counts d x.by.0
    counted (Err e) x y = (y.none refl).1

    -- what `settle` asks
    pub settles : (a : Drafted) → Deliverable n before b a plans texts bytes visit depth output spans
        → Recorded (start_of b a).capacity (start_of b a).chosen plans texts bytes output output' (counts_first a) stats spans spans' (start_of b a).walk
        → length output' ≡ length output → length spans' ≡ length spans → stats.work_items ≤ remaining before.desks n
    settles a x y e f = omega (arith, x.work_left output' spans' e f (wrote b a y), ap (λ (s : SolveStats). s.work_items) (counted a x y), same_work a)

    pub delivered : (a : Drafted) {after : SharedRecord} {z : Outcome} → Deliverable n before b a plans texts bytes visit depth output spans
        → Recorded (start_of b a).capacity (start_of b a).chosen plans texts bytes output output' (counts_first a) stats spans spans' (start_of b a).walk
        → z ≡ outcome a → after ≡ settled before n stats → Delivered n before a plans texts bytes output output' spans spans' after z
    delivered a x y e f = record { outcome_is = e; record_is = f ∙ ap (settled before n) (counted a x y); wrote = wrote b a y }
