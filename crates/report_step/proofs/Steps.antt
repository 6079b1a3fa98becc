-- A step's promise, from what it answers and leaves.
use mathlib.Core.Path.{◌≡◌, refl, sym, ap, subst, ◌∙◌}
use mathlib.Core.List.{List}
use Prim.Native.Nat.{ℕ, ◌≤◌}
use native.Mathlib.Omega.{arith}
use lib.ListN.{length}
use Rattle.machine.specs.Numbers.{listed}
use Rattle.machine.specs.Events.{Counts}
use Rattle.machine.specs.Events.{Bounds as Limits}
use Rattle.machine.specs.Answer.{Answer, paged, refused}
use Rattle.stats.specs.declared.SolveStats.{SolveStats}
use Rattle.solve_workspace.specs.declared.Bounds.{Bounds}
use Rattle.solve_workspace.specs.Meets.{limits}
use Rattle.std.specs.Prelude.{Err}
use Rattle.render.specs.Rendered.{Rendered, refusal_with, meant}
use Rattle.report.specs.Report.{Report}
use Rattle.report.specs.Report.{Step as Asked}
use Rattle.report.specs.Answers.{of_a_call}
use Rattle.report.specs.Right.{RightReport}
use Rattle.report.specs.Memory.{Words, Sound}
use Rattle.report.specs.Exactly.{InBytes, step_numbered, refused_keeps}
use Rattle.report.proofs.Whole.{step_right}
use Rattle.report.specs.Same.{same_report}
use Rattle.desks.specs.declared.Desks.{Desks}
use Rattle.desks.specs.Desks.{last_desk, remaining, allowed, charged, work}
use Rattle.desks.specs.Lent.{within, work_in}
use Rattle.desks.specs.Served.{Served, out_of_order, no_desk, served}
use Rattle.desks.specs.Layer.{charged_nothing, came, numbered_all, serving}
use Rattle.desks.specs.Kinds.{step, step_spends, step_steady}
use Rattle.desks.proofs.Calling.{work_meant}
use Rattle.report_gate.specs.declared.Head.{Head}
use Rattle.report_gate.specs.Heads.{held}
use Rattle.report_settle.specs.declared.Step.{Step}
use Rattle.report_settle.specs.Settled.{Stands, Unaltered}
use Rattle.report_step.specs.declared.DeskStep.{DeskStep}
use Rattle.report_step.specs.Stepping.{with_desks, Stepping}

module _ {s : Asked} {lent : Type 0} {d : ℕ} {D : Desks} where
  -- without work, the record as it was
  pub free : {X Z : Report} {b : Limits} {a : Answer} → work a ≡ 0 → lent → d ≤ last_desk → step X s (allowed D d b) a Z → Served lent D d (step X s) b X a Z D
  free {X = X} {Z = Z} {b = b} {a = a} e l h c = subst (λ (E : Desks). Served lent D d (step X s) b X a Z E) (ap (λ (w : ℕ). charged D d w) e ∙ charged_nothing D d) (served l h c)

  refused_leaves : {X Z : Report} {b : Limits} {a : Answer} {n m : ℕ} {k : Counts} {D' : Desks} → a ≡ refused n m k → Served lent D d (step X s) b X a Z D' → Z ≡ X
  refused_leaves e (out_of_order n) = refl
  refused_leaves e (no_desk l h) = refl
  refused_leaves {X} {b = b} e (served {Z = Z} l h c) = refused_keeps (subst (λ (a : Answer). step X s (allowed D d b) a Z) e c)

  module _ {b : Bounds} {h : Head} {table₀ table : List Words} {files₀ files pages₀ pages : List ℕ} {marks₀ marks : List Words} {output₀ output : List ℕ} {spans₀ spans : List Words} {t : Step} {D' : Desks} {r : DeskStep} where
    pub steps : InBytes s → r ≡ with_desks t D'
        → Served lent D d (step (held h table₀ files₀ pages₀ marks₀) s) (limits b) (held h table₀ files₀ pages₀ marks₀) (meant t.answer output spans) (held t.head table files pages marks) D'
        → Stands t.answer output₀ output spans₀ spans
        → ((n needed : ℕ) (k : SolveStats) → t.answer ≡ Err (refusal_with n needed k) → Unaltered h table₀ table files₀ files pages₀ pages marks₀ marks t)
        → (Sound h.rows table₀ (length files₀) (length pages₀) (length marks₀) → Sound t.head.rows table (length files) (length pages) (length marks))
        → Stepping s lent d D b h table₀ table files₀ files pages₀ pages marks₀ marks output₀ output spans₀ spans r
    steps z is w u v y = let all = serving (step_steady (held h table₀ files₀ pages₀ marks₀) s) w in subst (λ (x : DeskStep). Stepping s lent d D b h table₀ table files₀ files pages₀ pages marks₀ marks output₀ output spans₀ spans x) (sym is) (record {
      serving = all;
      stands = u;
      kept = v;
      sound_kept = y;
      numbered = λ n needed k e. numbered_all (of_a_call (listed (omega arith) (omega arith))) (λ m i j c Y q. step_numbered z q)
          (subst (λ (a : Answer). Served lent D d (step (held h table₀ files₀ pages₀ marks₀) s) (limits b) (held h table₀ files₀ pages₀ marks₀) a (held t.head table files pages marks) D') (ap (λ (x : Rendered). meant x output spans) e) w);
      right = λ g. by_answer g (meant t.answer output spans) refl;
      whole_page = λ g p k e. (step_right z g (came w e)).1;
      same_page = λ p k e Y g f c i E x m l L a Z E' q. all.same_page p k e E x (limits m) l L a Z E' (subst (λ (X : Report). Served (Unit {0}) E x (step X s) (limits m) X a Z E') (same_report Y (held h table₀ files₀ pages₀ marks₀) c i f g) q);
    })
      where
        by_answer : RightReport (held h table₀ files₀ pages₀ marks₀) → (a : Answer) → meant t.answer output spans ≡ a → RightReport (held t.head table files pages marks)
        by_answer g (paged p k) e = (step_right z g (came w e)).0
        by_answer g (refused n m k) e = subst RightReport (sym (refused_leaves e w)) g

-- ---- what a step comes to past the gate, under the sizes and limits c

pub record Past (s : Asked) (c : Bounds) (h : Head) (table₀ table : List Words) (files₀ files pages₀ pages : List ℕ) (marks₀ marks : List Words) (output₀ output : List ℕ) (spans₀ spans : List Words) (t : Step) : Type 0 where
  pub answers : step (held h table₀ files₀ pages₀ marks₀) s (limits c) (meant t.answer output spans) (held t.head table files pages marks)
  pub stands : Stands t.answer output₀ output spans₀ spans
  pub kept : (n needed : ℕ) (k : SolveStats) → t.answer ≡ Err (refusal_with n needed k) → Unaltered h table₀ table files₀ files pages₀ pages marks₀ marks t
  pub sound_kept : Sound h.rows table₀ (length files₀) (length pages₀) (length marks₀) → Sound t.head.rows table (length files) (length pages) (length marks)

module _ (D : Desks) (d : ℕ) (b : Bounds) {s : Asked} {c : Bounds} {h : Head} {table₀ table : List Words} {files₀ files pages₀ pages : List ℕ} {marks₀ marks : List Words} {output₀ output : List ℕ} {spans₀ spans : List Words} {t : Step}
    (e : c ≡ within D d b) (p : Past s c h table₀ table files₀ files pages₀ pages marks₀ marks output₀ output spans₀ spans t) where
  -- its work is within what the desk may still do
  pub past_spends : work_in t.answer ≤ remaining D d
  past_spends = omega (arith, step_spends p.answers, work_meant t.answer output spans, ap (λ (x : Bounds). x.work_limit) e)

  pub past_steps : {lent : Type 0} {r : DeskStep} → lent → d ≤ last_desk → InBytes s → r ≡ with_desks t (charged D d (work_in t.answer))
      → Stepping s lent d D b h table₀ table files₀ files pages₀ pages marks₀ marks output₀ output spans₀ spans r
  past_steps {lent = lent} l i z is = steps z is
      (subst (λ (w : ℕ). Served lent D d (step (held h table₀ files₀ pages₀ marks₀) s) (limits b) (held h table₀ files₀ pages₀ marks₀) (meant t.answer output spans) (held t.head table files pages marks) (charged D d w)) (work_meant t.answer output spans)
      (served l i (subst (λ (x : Bounds). step (held h table₀ files₀ pages₀ marks₀) s (limits x) (meant t.answer output spans) (held t.head table files pages marks)) e p.answers)))
      p.stands p.kept p.sound_kept
