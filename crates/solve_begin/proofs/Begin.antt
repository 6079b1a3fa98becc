-- Laws of a node's evaluation.
use mathlib.Core.Path.{◌≡◌, refl, sym, ap, ◌∙◌, subst}
use mathlib.Core.List.{List}
use Prim.Native.Nat.{ℕ}
use Rattle.cost.specs.declared.Reason.{Reason}
use Rattle.layout.specs.Rules.{Rules}
use Rattle.memo.specs.declared.MemoKey.{MemoKey}
use Rattle.memo.specs.declared.CandidateRange.{CandidateRange}
use Rattle.std.specs.Prelude.{Some, None, Ok, Err}
use Rattle.memo.specs.Entries.{MemoLookup, lookup, listed}
use Rattle.frontier.specs.declared.ScratchCandidate.{ScratchCandidate}
use Rattle.frontier.specs.Candidates.{carried}
use Rattle.file_tables.specs.Tables.{Tables}
use Rattle.machine.specs.Events.{Counts, Hit, Miss}
use Rattle.machine.specs.Model.{Prepared, State}
use Rattle.machine.specs.Solver.{begin_known, begin_node, begin_kind, push_exact_result, complete_singleton}
use Rattle.solve_workspace.specs.declared.Bounds.{Bounds}
use Rattle.solve_workspace.specs.declared.Registers.{Registers}
use Rattle.solve_workspace.specs.declared.Why.{Why}
use Rattle.solve_workspace.specs.declared.Why.TheVariants.{Domain}
use Rattle.solve_workspace.specs.declared.Reached.{Reached}
use Rattle.solve_workspace.specs.declared.Reached.TheVariants.{Go, Stop}
use Rattle.solve_workspace.specs.Meets.{Meets, Leads, counts, ticked}
use Rattle.solve_workspace.specs.Frames.{Kept, SameMemo}
use Rattle.solve_workspace.specs.FrameLaws.{same_trans}
pub use Rattle.solve_workspace.specs.FrameLaws.{memory_stopped, same_stopped, kept_same}
use Rattle.solve_workspace.specs.Reading.{prepared}
use Rattle.solve_workspace.specs.Runs.{seq, halt}
use Rattle.solve_workspace.specs.Rows.{Row, abs, survivor}
use Rattle.solve_node.specs.declared.Leaf.{Leaf}
use Rattle.solve_node.specs.declared.Inner.{Inner}
use Rattle.solve_node.specs.declared.PreparedNode.{PreparedNode}
use Rattle.solve_node.specs.declared.PreparedNode.TheVariants.{Leaf as ALeaf, Inner as AnInner}
use Rattle.solve_node.specs.Begun.{LeafCandidate, leaf_begun, inner_begun, begun, Leafed, LeafedCase, Begins}

pub same_on : {o s : Registers} (a : Reached) → Kept o s → SameMemo s a → SameMemo o a
same_on a h k = same_trans a h.memo k

pub leaf_push : {R : Rules} {l : Leaf} {q : MemoKey} {r : LeafCandidate} {c : ScratchCandidate} → Leafed R l q r → r ≡ Ok c
    → (P : Prepared) (b : Bounds) (j : Counts) (S : State) → Leads b j (leaf_begun R P l q S) j (complete_singleton R P q (survivor (carried c)) S)
leaf_push {R = R} {l = l} {q = q} h e = subst (λ x. LeafedCase R l q x) e h.by

pub leaf_fails : {R : Rules} {l : Leaf} {q : MemoKey} {r : LeafCandidate} {y : Reason} → Leafed R l q r → r ≡ Err y
    → (P : Prepared) (b : Bounds) (s : Registers) (S : State) (f : Registers → State) → Meets b (counts s) (leaf_begun R P l q S) (Stop (Domain y) 0 s) f
leaf_fails {R = R} {l = l} {q = q} h e = subst (λ x. LeafedCase R l q x) e h.by

module _ (R : Rules) (P : Prepared) where
  pub hit_halt : {b : Bounds} {k : Counts} {z : Registers} {a : Reached} {f g : Registers → State} {w : Why} {n : ℕ} (r : CandidateRange) (q : MemoKey) (S : State)
      → Meets b k (ticked Hit S) a f → a ≡ Stop w n z → Meets b k (begin_known R P (Some r) q S) a g
  unfolding begin_known
  hit_halt r q S h e = halt (push_exact_result r) h e

  pub hit_seq : {b : Bounds} {k : Counts} {s : Registers} {a c : Reached} {f g : Registers → State} (r : CandidateRange) (q : MemoKey) (S : State)
      → Meets b k (ticked Hit S) a f → a ≡ Go s → Meets b (counts s) (push_exact_result r (f s)) c g → Meets b k (begin_known R P (Some r) q S) c g
  unfolding begin_known
  hit_seq r q S h e m = seq (push_exact_result r) h e m

  pub miss_halt : {b : Bounds} {k : Counts} {z : Registers} {a : Reached} {f g : Registers → State} {w : Why} {n : ℕ} (q : MemoKey) (S : State)
      → Meets b k (ticked Miss S) a f → a ≡ Stop w n z → Meets b k (begin_known R P None q S) a g
  unfolding begin_known
  miss_halt q S h e = halt (begin_kind R P (P.table.node q.node) q) h e

  pub miss_seq : {b : Bounds} {k : Counts} {s : Registers} {a c : Reached} {f g : Registers → State} (q : MemoKey) (S : State)
      → Meets b k (ticked Miss S) a f → a ≡ Go s → Meets b (counts s) (begin_kind R P (P.table.node q.node) q (f s)) c g → Meets b k (begin_known R P None q S) c g
  unfolding begin_known
  miss_seq q S h e m = seq (begin_kind R P (P.table.node q.node) q) h e m

  node_is : (s : Registers) (q : MemoKey) (r x : MemoLookup) (ts rs ps es ks : List Row) (fs : List ℕ) (ns : List Row) → r ≡ lookup (listed es s.memo) q → r ≡ x
      → begin_node R P q (abs s ts rs ps es ks fs ns) ≡ begin_known R P x q (abs s ts rs ps es ks fs ns)
  unfolding begin_node abs
  node_is s q r x ts rs ps es ks fs ns e f = rw (← e, f)

  pub node_as : {b : Bounds} {k : Counts} {a : Reached} {f : Registers → State} (s : Registers) (q : MemoKey) (r x : MemoLookup) (ts rs ps es ks : List Row) (fs : List ℕ) (ns : List Row) → r ≡ lookup (listed es s.memo) q → r ≡ x
      → Meets b k (begin_known R P x q (abs s ts rs ps es ks fs ns)) a f → Meets b k (begin_node R P q (abs s ts rs ps es ks fs ns)) a f
  node_as {b = b} {k = k} {a = a} {f = f} s q r x ts rs ps es ks fs ns e g m = subst (λ p. Meets b k p a f) (sym (node_is s q r x ts rs ps es ks fs ns e g)) m

-- a node that was read
pub read_leaf : {R : Rules} {t : Tables} (q : MemoKey) (r : PreparedNode) (l : Leaf) → Begins R t q.node ((prepared t).table.node q.node) r → r ≡ ALeaf l
    → (S : State) → begin_kind R (prepared t) ((prepared t).table.node q.node) q S ≡ leaf_begun R (prepared t) l q S
read_leaf {R = R} {t = t} q r l h e S = h.same q S refl ∙ ap (λ x. begun R (prepared t) t.choices x q S) e

pub read_inner : {R : Rules} {t : Tables} (q : MemoKey) (r : PreparedNode) (n : Inner) → Begins R t q.node ((prepared t).table.node q.node) r → r ≡ AnInner n
    → (S : State) → begin_kind R (prepared t) ((prepared t).table.node q.node) q S ≡ inner_begun R (prepared t) t.choices n q S
read_inner {R = R} {t = t} q r n h e S = h.same q S refl ∙ ap (λ x. begun R (prepared t) t.choices x q S) e

pub leaf_kind : {b : Bounds} {k : Counts} {a : Reached} {f : Registers → State} {R : Rules} {t : Tables} (q : MemoKey) (r : PreparedNode) (l : Leaf) (S : State) → Begins R t q.node ((prepared t).table.node q.node) r → r ≡ ALeaf l
    → Meets b k (leaf_begun R (prepared t) l q S) a f → Meets b k (begin_kind R (prepared t) ((prepared t).table.node q.node) q S) a f
leaf_kind {b = b} {k = k} {a = a} {f = f} {R = R} {t = t} q r l S h e m = subst (λ p. Meets b k p a f) (sym (read_leaf {R = R} {t = t} q r l h e S)) m

pub inner_kind : {b : Bounds} {k : Counts} {a : Reached} {f : Registers → State} {R : Rules} {t : Tables} (q : MemoKey) (r : PreparedNode) (n : Inner) (S : State) → Begins R t q.node ((prepared t).table.node q.node) r → r ≡ AnInner n
    → Meets b k (inner_begun R (prepared t) t.choices n q S) a f → Meets b k (begin_kind R (prepared t) ((prepared t).table.node q.node) q S) a f
inner_kind {b = b} {k = k} {a = a} {f = f} {R = R} {t = t} q r n S h e m = subst (λ p. Meets b k p a f) (sym (read_inner {R = R} {t = t} q r n h e S)) m
