-- A step of any task: it keeps the invariant, and what it leaves of the tasks.
use Rattle.std.specs.Prelude.{ℕ, ◌≡◌}
use mathlib.Core.List.{List, ◌∷◌}
use Rattle.std.proofs.Math.Path.{refl, subst}
use Rattle.std.proofs.Common.{sym}
use Rattle.cost.specs.Cost.{zero_cost}
use Rattle.cost.specs.Charge.{penalty_cost}
use Rattle.memo.specs.Entries.{lookup}
use Rattle.layout.specs.Document.{Doc}
use Rattle.layout.specs.Rules.{Rules}
use Rattle.layout.specs.Table.{Table}
use Rattle.layout.specs.Table.{Reads as ReadsAs}
use Rattle.layout.specs.Frontier.{marked, charged}
use Rattle.machine.specs.Model.{Prepared, PlanAnnotate, PlanPenalty}
use Rattle.machine.specs.Model.{Task, Eval, CompleteAlias, CompleteUnion, CompleteChoiceSet, CompleteAnnotate, CompletePenalty, ContinueSequence, CompleteSequenceRight, State, with_tasks}
use Rattle.machine.specs.Solver.{begin_node}
use Rattle.machine.specs.Solver.{execute_task}
use Rattle.machine_right.specs.Relations.{laid}
use Rattle.machine_right.specs.Fronts.{Front}
use Rattle.machine_right.specs.Typed.{Cont, c_eval, c_alias, c_union, c_set, c_annotate, c_penalty, c_continue, c_right}
use Rattle.machine_right.specs.Ready.{Ready}
use Rattle.machine_right.specs.Sound.{ResAt, MemoAt, Inv, Goes, Pushed, known_begins}
use Rattle.machine_right.specs.Tasks.{alias_good, union_good, wrapped_good, annotate_like, penalty_like, set_good}
use Rattle.machine.specs.Solver.{step, step_on}
use Rattle.machine_right.specs.Sequences.{AfterContinue, AfterRight, continue_good, right_good}

module _ (R : Rules) (P : Prepared) (D : ℕ → Doc) (goal : Front) (K : Ready P) (reads : ReadsAs P.table D) where
  abbrev T : Table
  T = P.table

  -- what the step of a task leaves on top of the tasks below it
  abbrev pub After : Task → List Task → List Task → Type 0
  After (Eval q) ts us = Pushed R P D goal K reads (K.ranked.rank q.node) ts us
  After (CompleteAlias q) ts us = us ≡ ts
  After (CompleteUnion q) ts us = us ≡ ts
  After (CompleteChoiceSet q n) ts us = us ≡ ts
  After (CompleteAnnotate q n) ts us = us ≡ ts
  After (CompletePenalty q n) ts us = us ≡ ts
  After (ContinueSequence q x) ts us = AfterContinue R P D goal K q x ts us
  After (CompleteSequenceRight q x acc o start) ts us = AfterRight R P D goal K q x acc o start ts us

  task_good : (x : Task) (S : State) {Es : List Front} → Cont R T D goal S.retained (laid T S.plans) (x ∷ S.tasks) Es S.pending → ResAt R P D goal S Es → MemoAt R P D goal S
      → Goes R P D goal (After x S.tasks) (execute_task R P x S)
  unfolding execute_task begin_node
  task_good x S (c_eval {q = q} k) rs m = known_begins R P D goal K reads (lookup S.memo q) q S refl k rs m
  task_good x S (c_alias {q = q} e k) rs m = alias_good R P D goal (λ us. us ≡ S.tasks) q S e k rs m refl
  task_good x S (c_union {q = q} e k) rs m = union_good R P D goal (λ us. us ≡ S.tasks) q S e k rs m refl
  task_good x S (c_set Gs {q = q} {start = start} e f y l k) rs m =
      set_good R P D goal (λ us. us ≡ S.tasks) q start Gs S e f l k (subst (λ (z : List Front). ResAt R P D goal S z) y rs) m refl
  task_good x S (c_annotate {q = q} {a = a} e k) rs m =
      wrapped_good R P D goal (λ us. us ≡ S.tasks) q (PlanAnnotate a) zero_cost (marked a) (annotate_like R P D goal a) S e k rs m refl
  task_good x S (c_penalty {q = q} {a = a} e k) rs m =
      wrapped_good R P D goal (λ us. us ≡ S.tasks) q (PlanPenalty a) (penalty_cost a) (charged a) (penalty_like R P D goal a) S e k rs m refl
  task_good x S (c_continue {q = q} {x = n} e k) rs m = continue_good R P D goal K q n S e k rs m
  task_good x S (c_right {q = q} {x = n} {n = c} {o = o} {g = g} {start = start} {acc = acc} den len lt en ef pl lp e k) rs m =
      right_good R P D goal K q n c acc o g start S den len lt en ef pl lp e k rs m

  pub step_good : (x : Task) (ts : List Task) (S : State) → S.tasks ≡ x ∷ ts → Inv R P D goal S → Goes R P D goal (After x ts) (step R P S)
  unfolding step
  step_good x ts S e i =
      let k : Cont R T D goal S.retained (laid T S.plans) (x ∷ ts) i.types S.pending = subst (λ (z : List Task). Cont R T D goal S.retained (laid T S.plans) z i.types S.pending) e i.conts in
      subst (λ (z : List Task). Goes R P D goal (After x ts) (step_on R P z S)) (sym e) (task_good x (with_tasks ts S) k i.res i.memos)
