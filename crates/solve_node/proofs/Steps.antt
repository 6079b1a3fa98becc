-- Laws of the pushes of a node's first step.
use mathlib.Core.Path.{◌≡◌, refl, sym, ap, ◌∙◌, subst}
use mathlib.Core.List.{List, [], ◌∷◌}
use Prim.Native.Nat.{ℕ, suc, ◌+◌, ◌≤◌, ◌<◌, ◌^◌}
use native.Mathlib.Omega.{arith}
use borrow.Author.Tests.{lt-ltb, le-ltb}
use lib.ListN.{length}
use Rattle.std.specs.List.{push}
use Rattle.cost.specs.declared.Reason.{Reason}
use Rattle.cost.specs.declared.Reason.TheVariants.{Indent}
use Rattle.layout.specs.Rules.{Rules}
use Rattle.memo.specs.declared.MemoKey.{MemoKey}
use Rattle.machine.specs.Events.{Counts, Prog, ret, ◌>>=◌, Miss}
use Rattle.machine.specs.Model.{Prepared, State, Eval, CompleteChoiceSet, memo_key}
use Rattle.machine.specs.Solver.{push_child, push_exact_task, push_alternatives, begin_nest, begin_choice, skip_choices}
use Rattle.solve_workspace.specs.declared.Bounds.{Bounds}
use Rattle.solve_workspace.specs.declared.Registers.{Registers}
use Rattle.solve_workspace.specs.declared.ExactTask.{ExactTask}
use Rattle.solve_workspace.specs.declared.ExactTask.TheVariants.{CompleteAlias as Aliased}
use Rattle.solve_workspace.specs.declared.Why.{Why}
use Rattle.solve_workspace.specs.declared.Why.TheVariants.{Domain}
use Rattle.solve_workspace.specs.declared.Reached.{Reached}
use Rattle.solve_workspace.specs.declared.Reached.TheVariants.{Go, Stop}
use Rattle.solve_workspace.specs.Meets.{Meets, Leads, counts, ticked}
use Rattle.solve_workspace.specs.Rows.{Row, abs, meant, range_of}
use Rattle.machine.specs.Programs.{bind_ret, bind_assoc}
use Rattle.solve_workspace.specs.Runs.{leads_seq, halt}
use Rattle.solve_workspace.specs.Stacks.{pile_length}
use Rattle.solve_node.specs.declared.Single.{Single}
use Rattle.solve_node.specs.declared.Single.TheVariants.{Nest}
use Rattle.std.specs.Prelude.{Ok, Err}
use Rattle.file_tables.specs.declared.NodeId.{NodeId}
use Rattle.solve_node.specs.Begun.{FirstChild, single_begun, skipping, listed, Started, StartedCase}

pub started_at : {R : Rules} {q : MemoKey} {r : FirstChild} {n x : Single} → n ≡ x → Started R x q r → Started R n q r
started_at {R = R} {q = q} {r = r} e h = subst (λ y. Started R y q r) (sym e) h

module _ (R : Rules) (q : MemoKey) where
  pub nest_start : (n : ℕ) (k : NodeId) (m : ℕ) → q.indent + n < 2 ^ 32 → m ≡ R.lower (q.indent + n) → Started R (Nest n k) q (Ok (Aliased q, memo_key k.0 q.column m))
  unfolding begin_nest
  nest_start n k m h e = record { by = λ P b j S. rw e (record { same = rw (lt-ltb (q.indent + n) (2 ^ 32) h) }) }

  pub nest_failed : (n : ℕ) (k : NodeId) → 2 ^ 32 ≤ q.indent + n → Started R (Nest n k) q (Err Indent)
  unfolding begin_nest
  nest_failed n k h = record { by = λ P b s S f. record { is = rw (le-ltb (q.indent + n) (2 ^ 32) h); sound = tt } }

pub start_push : {R : Rules} {n : Single} {q : MemoKey} {r : FirstChild} {t : ExactTask} {k : MemoKey} → Started R n q r → r ≡ Ok (t, k)
    → (P : Prepared) (b : Bounds) (j : Counts) (S : State) → Leads b j (single_begun R P n q S) j (push_child R P (meant t) k S)
start_push {R = R} {n = n} {q = q} h e = subst (λ x. StartedCase R n q x) e h.by

pub start_failed : {R : Rules} {n : Single} {q : MemoKey} {r : FirstChild} {y : Reason} → Started R n q r → r ≡ Err y
    → (P : Prepared) (b : Bounds) (s : Registers) (S : State) (f : Registers → State) → Meets b (counts s) (single_begun R P n q S) (Stop (Domain y) 0 s) f
start_failed {R = R} {n = n} {q = q} h e = subst (λ x. StartedCase R n q x) e h.by

module _ (R : Rules) (P : Prepared) where
  -- one skipped Choice more
  pub skip_go : {b : Bounds} {k : Counts} {z : Registers} {a : Reached} {f : Registers → State} (n m : ℕ) (S : State) → n ≡ suc m → Meets b k (ticked Miss S) a f → a ≡ Go z
      → Leads b k (skipping R P n S) (counts z) (skipping R P m (f z))
  unfolding skip_choices
  skip_go n m S e h q = rw e (leads_seq (skipping R P m) h q)

  pub skip_halt : {b : Bounds} {k : Counts} {z : Registers} {a : Reached} {f g : Registers → State} {w : Why} {x : ℕ} (n m : ℕ) (S : State) → n ≡ suc m
      → Meets b k (ticked Miss S) a f → a ≡ Stop w x z → Meets b k (skipping R P n S) a g
  unfolding skip_choices
  skip_halt n m S e h q = rw e (halt (skipping R P m) h q)

  pub skip_none : (n : ℕ) (S : State) → n ≡ 0 → skipping R P n S ≡ ret S
  unfolding skip_choices
  skip_none n S e = rw e

  -- one alternative more, the last of those that are left
  alternatives_last : (xs : List ℕ) (y : ℕ) (q : MemoKey) (S : State)
      → push_alternatives R P (push xs y) q S ≡ (push_exact_task (Eval (memo_key y q.column q.indent)) S >>= push_alternatives R P xs q)
  unfolding push_alternatives
  alternatives_last [] y q S = sym (bind_ret (push_exact_task (Eval (memo_key y q.column q.indent)) S))
  alternatives_last (x ∷ xs) y q S =
      ap (λ (p : Prog State). p >>= push_exact_task (Eval (memo_key x q.column q.indent))) (alternatives_last xs y q S)
      ∙ bind_assoc (push_exact_task (Eval (memo_key y q.column q.indent)) S) (push_alternatives R P xs q) (push_exact_task (Eval (memo_key x q.column q.indent)))

  pub alternatives_none : (l : List ℕ) (q : MemoKey) (S : State) → length l ≡ 0 → push_alternatives R P l q S ≡ ret S
  unfolding push_alternatives
  alternatives_none [] q S e = refl
  alternatives_none (x ∷ xs) q S e = absurd (omega arith)

  -- a Choice with a list: skipped Choices, the completing task, the alternatives
  pub choice_is : (l : List ℕ) (skipped : ℕ) (q : MemoKey) (s : Registers) (ts rs ps es ks : List Row) (fs : List ℕ) (ns : List Row) (n : ℕ) → n ≡ s.results
      → begin_choice R P (listed l skipped) 0 0 q (abs s ts rs ps es ks fs ns)
      ≡ (skipping R P skipped (abs s ts rs ps es ks fs ns) >>= (λ S. push_exact_task (CompleteChoiceSet q n) S >>= push_alternatives R P l q))
  unfolding begin_choice abs
  choice_is l skipped q s ts rs ps es ks fs ns n e =
      rw (e, pile_length range_of rs s.results)
      (sym (bind_assoc (skip_choices R P skipped) (λ u. ret _) _))

  pub alternatives_go : {b : Bounds} {k : Counts} {z : Registers} {a : Reached} {f : Registers → State} {l : List ℕ} (xs : List ℕ) (y : ℕ) (q : MemoKey) (S : State) → l ≡ push xs y
      → Meets b k (push_exact_task (Eval (memo_key y q.column q.indent)) S) a f → a ≡ Go z → Leads b k (push_alternatives R P l q S) (counts z) (push_alternatives R P xs q (f z))
  alternatives_go xs y q S e w x = rw (e, alternatives_last xs y q S) (leads_seq (push_alternatives R P xs q) w x)

  pub alternatives_halt : {b : Bounds} {k : Counts} {z : Registers} {a : Reached} {f g : Registers → State} {w : Why} {n : ℕ} {l : List ℕ} (xs : List ℕ) (y : ℕ) (q : MemoKey) (S : State) → l ≡ push xs y
      → Meets b k (push_exact_task (Eval (memo_key y q.column q.indent)) S) a f → a ≡ Stop w n z → Meets b k (push_alternatives R P l q S) a g
  alternatives_halt xs y q S e w x = rw (e, alternatives_last xs y q S) (halt (push_alternatives R P xs q) w x)
