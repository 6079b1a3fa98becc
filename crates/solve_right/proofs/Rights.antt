-- Laws of a sequence's right part.
use mathlib.Core.Path.{◌≡◌, sym, subst}
use mathlib.Core.Bool.{false}
use mathlib.Core.List.{List}
use Prim.Native.Nat.{ℕ, ◌+◌, ◌≤◌, ◌<◌}
use borrow.Author.Tests.{lt-ltb, le-ltb}
use lib.Dec.{ltb}
use lib.ListN.{get_or, get_or-eq_default}
use Rattle.layout.specs.Rules.{Rules}
use Rattle.memo.specs.declared.MemoKey.{MemoKey}
use Rattle.file_tables.specs.declared.NodeId.{NodeId}
use Rattle.machine.specs.Events.{Counts, ret, ◌>>=◌}
use Rattle.machine.specs.Model.{Prepared, State, got, range, part, no_candidate, Candidate}
use Rattle.machine.specs.Solver.{push_joined, push_right, next_left, complete_sequence_right, pop_exact_result}
use Rattle.solve_workspace.specs.declared.Bounds.{Bounds}
use Rattle.solve_workspace.specs.declared.Registers.{Registers}
use Rattle.solve_workspace.specs.declared.Why.{Why}
use Rattle.solve_workspace.specs.declared.Reached.{Reached}
use Rattle.solve_workspace.specs.declared.Reached.TheVariants.{Go, Stop}
use Rattle.solve_workspace.specs.Meets.{Meets, counts}
pub use Rattle.solve_workspace.specs.FrameLaws.{same_stopped, same_trans, kept_same}
use Rattle.solve_workspace.specs.Rows.{Row, abs, candidate_of, row_list}
use Rattle.solve_workspace.specs.Runs.{seq, halt}
use Rattle.std.specs.Prelude.{Option, Some, None, unwrap_or}
use Rattle.solve_node.specs.Begun.{ChildIs}

-- past the end the answer is 0, as the definition's
pub child_read : (l : List ℕ) (i : ℕ) (r : Option NodeId) → ChildIs l i r → get_or l i 0 ≡ (unwrap_or r (record { 0 = 0 })).0
child_read l i (Some k) h = h.by.1
child_read l i None h = get_or-eq_default l 0 h.by

module _ (R : Rules) (P : Prepared) (q : MemoKey) (x i l o p : ℕ) where
  pub left_on : {b : Bounds} {k : Counts} {a : Reached} {f : Registers → State} (S : State) → o + 1 < l → Meets b k (push_right R P q x (range i l) (o + 1) p S) a f
      → Meets b k (next_left R P (ltb (o + 1) l) q x (range i l) o p S) a f
  unfolding next_left
  left_on S h m = rw (lt-ltb (o + 1) l h) m

  pub left_off : {b : Bounds} {k : Counts} {a : Reached} {f : Registers → State} (S : State) → l ≤ o + 1 → Meets b k (next_left R P false q x (range i l) o p S) a f
      → Meets b k (next_left R P (ltb (o + 1) l) q x (range i l) o p S) a f
  left_off S h m = rw (le-ltb (o + 1) l h) m

  right_is : (S : State) (s : Registers) (j m : ℕ) (ts rs ps es ks : List Row) (fs : List ℕ) (ns : List Row) (left : Candidate) → pop_exact_result S ≡ ret (got (range j m) (abs s ts rs ps es ks fs ns))
      → left ≡ get_or (row_list candidate_of ks s.kept) (i + o) no_candidate
      → complete_sequence_right R P q x (range i l) o p S
      ≡ (push_joined left (part (row_list candidate_of ks s.kept) j m) (abs s ts rs ps es ks fs ns) >>= next_left R P (ltb (o + 1) l) q x (range i l) o p)
  unfolding complete_sequence_right abs
  right_is S s j m ts rs ps es ks fs ns left e f = rw (e, f)

  pub right_go : {b : Bounds} {k : Counts} {z : Registers} {a c : Reached} {f g : Registers → State} (S : State) (s : Registers) (j m : ℕ) (ts rs ps es ks : List Row) (fs : List ℕ) (ns : List Row) (left : Candidate)
      → pop_exact_result S ≡ ret (got (range j m) (abs s ts rs ps es ks fs ns)) → left ≡ get_or (row_list candidate_of ks s.kept) (i + o) no_candidate
      → Meets b k (push_joined left (part (row_list candidate_of ks s.kept) j m) (abs s ts rs ps es ks fs ns)) a f → a ≡ Go z
      → Meets b (counts z) (next_left R P (ltb (o + 1) l) q x (range i l) o p (f z)) c g → Meets b k (complete_sequence_right R P q x (range i l) o p S) c g
  right_go {b = b} {k = k} {c = c} {g = g} S s j m ts rs ps es ks fs ns left e f h w n =
      subst (λ y. Meets b k y c g) (sym (right_is S s j m ts rs ps es ks fs ns left e f)) (seq (next_left R P (ltb (o + 1) l) q x (range i l) o p) h w n)

  pub right_halt : {b : Bounds} {k : Counts} {z : Registers} {a : Reached} {f g : Registers → State} {w : Why} {n : ℕ} (S : State) (s : Registers) (j m : ℕ) (ts rs ps es ks : List Row) (fs : List ℕ) (ns : List Row) (left : Candidate)
      → pop_exact_result S ≡ ret (got (range j m) (abs s ts rs ps es ks fs ns)) → left ≡ get_or (row_list candidate_of ks s.kept) (i + o) no_candidate
      → Meets b k (push_joined left (part (row_list candidate_of ks s.kept) j m) (abs s ts rs ps es ks fs ns)) a f → a ≡ Stop w n z → Meets b k (complete_sequence_right R P q x (range i l) o p S) a g
  right_halt {b = b} {k = k} {a = a} {g = g} S s j m ts rs ps es ks fs ns left e f h y =
      subst (λ v. Meets b k v a g) (sym (right_is S s j m ts rs ps es ks fs ns left e f)) (halt (next_left R P (ltb (o + 1) l) q x (range i l) o p) h y)
