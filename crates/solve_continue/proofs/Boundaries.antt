-- Laws of the gap before a child.
use mathlib.Core.Path.{◌≡◌, sym, ◌∙◌, subst}
use mathlib.Core.Bool.{Bool, true, false}
use mathlib.Core.List.{List}
use Prim.Native.Nat.{ℕ, ◌≤◌}
use lib.ListN.{length}
use Rattle.layout.specs.Rules.{Rules}
use Rattle.layout.specs.Table.{Node}
use Rattle.machine.specs.Events.{Counts, ret, ◌>>=◌}
use Rattle.memo.specs.declared.MemoKey.{MemoKey}
use Rattle.file_tables.specs.declared.NodeId.{NodeId}
use Rattle.file_tables.specs.Tables.{Tables}
use Rattle.machine.specs.Model.{Prepared, State, Got, got, range, children}
use Rattle.machine.specs.Solver.{push_gaps, fill_boundary, build_pending, gap_if_fill, push_right, next_child, continue_sequence, pop_exact_result, complete_node}
use Rattle.solve_workspace.specs.Reading.{prepared}
pub use Rattle.solve_workspace.specs.Reading.{any_space}
use borrow.Author.Tests.{lt-ltb, le-ltb}
use Rattle.solve_workspace.specs.declared.Why.{Why}
use Rattle.std.specs.Prelude.{Some, None}
use Rattle.solve_continue.specs.Children.{ChildNumber}
use Rattle.solve_workspace.specs.declared.Bounds.{Bounds}
use Rattle.solve_workspace.specs.declared.Registers.{Registers}
use Rattle.solve_workspace.specs.declared.Reached.{Reached}
use Rattle.solve_workspace.specs.declared.Reached.TheVariants.{Go, Stop}
use Rattle.solve_workspace.specs.Meets.{Meets, counts, Sound}
use Rattle.solve_workspace.specs.Frames.{Kept, Keeps}
pub use Rattle.solve_workspace.specs.FrameLaws.{kept_same}
use Rattle.solve_workspace.specs.Rows.{Row, abs, scratch_of}
use Rattle.solve_workspace.specs.Runs.{seq, halt}
use Rattle.solve_workspace.specs.Stacks.{row_list_length, with_pending_to}
use Rattle.solve_node.specs.Begun.{Filling, ChildIs}

pub fill_is : (R : Rules) (P : Prepared) (i l indent : ℕ) (s : Registers) (ts rs ps es ks : List Row) (fs : List ℕ) (ns : List Row) → s.pending ≤ length ps
    → fill_boundary R P (range i l) indent (abs s ts rs ps es ks fs ns) ≡ (push_gaps R P indent i l (abs s ts rs ps es ks fs ns) >>= build_pending s.pending)
unfolding fill_boundary abs
fill_is R P i l indent s ts rs ps es ks fs ns h = rw (row_list_length scratch_of ps s.pending h)

pub kept_back : {o s : Registers} (a : Reached) → Kept o s → Keeps (with_pending_to s o.pending) a → Keeps o a
kept_back (Go z) h k = record { by = record { memo = k.by.memo ∙ h.memo; results = k.by.results ∙ h.results; pending = k.by.pending } }
kept_back (Stop w n z) h k = record { by = tt }

pub gap_fill : {b : Bounds} {k : Counts} {a : Reached} {f : Registers → Got} {n : Node} {t : Bool} (R : Rules) (P : Prepared) (i l indent : ℕ) (S : State) → Filling n t → t ≡ true
    → Meets b k (fill_boundary R P (range i l) indent S) a f → Meets b k (gap_if_fill R P n (range i l) indent S) a f
gap_fill {b = b} {k = k} {a = a} {f = f} R P i l indent S h e m = subst (λ p. Meets b k p a f) (sym (h.yes R P (range i l) indent S e)) m

abbrev with_range : Registers → ℕ → ℕ → Registers
with_range s i l = record { tasks = s.tasks; results = s.results; pending = s.pending; memo = s.memo; kept = s.kept; plans = s.plans; start = i; len = l; builder = s.builder; stats = s.stats; peaks = s.peaks }

range_sound : {b : Bounds} {s : Registers} (i l : ℕ) → Sound b s → Sound b (with_range s i l)
range_sound i l h =
    record { hits = h.hits; misses = h.misses; generated = h.generated; pruned = h.pruned; work = h.work; tasks = h.tasks; results = h.results; pending = h.pending; memo = h.memo; kept = h.kept; plans = h.plans; stack = h.stack }

pub gap_none : {b : Bounds} {n : Node} {t : Bool} (R : Rules) (P : Prepared) (i l indent : ℕ) (s : Registers) (ts rs ps es ks : List Row) (fs : List ℕ) (ns : List Row) → Filling n t → t ≡ false → Sound b s
    → Meets b (counts s) (gap_if_fill R P n (range i l) indent (abs s ts rs ps es ks fs ns)) (Go (with_range s i l)) (λ z. got (range z.start z.len) (abs z ts rs ps es ks fs ns))
unfolding abs
gap_none R P i l indent s ts rs ps es ks fs ns h e snd =
    record { is = rw (h.no R P (range i l) indent (abs s ts rs ps es ks fs ns) e); sound = range_sound i l snd }

-- ---- the next child

pub right_from : (R : Rules) (P : Prepared) (q : MemoKey) (x i l : ℕ) (s : Registers) (ts rs ps es ks : List Row) (fs : List ℕ) (ns : List Row) → s.pending ≤ length ps
    → push_right R P q x (range i l) 0 (length (abs s ts rs ps es ks fs ns).pending) (abs s ts rs ps es ks fs ns) ≡ push_right R P q x (range i l) 0 s.pending (abs s ts rs ps es ks fs ns)
unfolding abs
right_from R P q x i l s ts rs ps es ks fs ns h = rw (row_list_length scratch_of ps s.pending h)

pub next_go : {b : Bounds} {k : Counts} {s : Registers} {a c : Reached} {g : Registers → State} (R : Rules) (P : Prepared) (q : MemoKey) (x i l : ℕ) (S : State) (ts rs ps es ks : List Row) (fs : List ℕ) (ns : List Row)
    → Meets b k (gap_if_fill R P (P.table.node q.node) (range i l) q.indent S) a (λ z. got (range z.start z.len) (abs z ts rs ps es ks fs ns)) → a ≡ Go s → s.pending ≤ length ps
    → Meets b (counts s) (push_right R P q x (range s.start s.len) 0 s.pending (abs s ts rs ps es ks fs ns)) c g
    → Meets b k (next_child R P true q x (range i l) S) c g
unfolding next_child
next_go {b = b} {s = s} {c = c} {g = g} R P q x i l S ts rs ps es ks fs ns h e w m =
    seq (λ G. push_right R P q x G.range 0 (length G.state.pending) G.state) h e
    (subst (λ p. Meets b (counts s) p c g) (sym (right_from R P q x s.start s.len s ts rs ps es ks fs ns w)) m)

pub next_halt : {b : Bounds} {k : Counts} {z : Registers} {a : Reached} {f : Registers → Got} {g : Registers → State} {w : Why} {n : ℕ} (R : Rules) (P : Prepared) (q : MemoKey) (x i l : ℕ) (S : State)
    → Meets b k (gap_if_fill R P (P.table.node q.node) (range i l) q.indent S) a f → a ≡ Stop w n z → Meets b k (next_child R P true q x (range i l) S) a g
unfolding next_child
next_halt R P q x i l S h e = halt (λ G. push_right R P q x G.range 0 (length G.state.pending) G.state) h e

-- a child is there, or none
pub child_is : (t : Tables) (n x : ℕ) (k : NodeId) → ChildIs (children ((prepared t).table.node n)) x (Some k) → ChildNumber t n x k.0
child_is t n x k h = record { there = h.by.0; is = h.by.1 }

pub continue_child : {b : Bounds} {k : Counts} {a : Reached} {g : Registers → State} (R : Rules) (t : Tables) (q : MemoKey) (x n i l : ℕ) (S T : State) → pop_exact_result S ≡ ret (got (range i l) T) → ChildNumber t q.node x n
    → Meets b k (next_child R (prepared t) true q x (range i l) T) a g → Meets b k (continue_sequence R (prepared t) q x S) a g
unfolding continue_sequence
continue_child {b = b} {k = k} {a = a} {g = g} R t q x n i l S T e c m =
    rw (e, lt-ltb x (length (children ((prepared t).table.node q.node))) c.there) m

pub continue_done : {b : Bounds} {k : Counts} {a : Reached} {g : Registers → State} (R : Rules) (t : Tables) (q : MemoKey) (x i l : ℕ) (S T : State) → pop_exact_result S ≡ ret (got (range i l) T)
    → ChildIs (children ((prepared t).table.node q.node)) x None
    → Meets b k (complete_node q (range i l) T) a g → Meets b k (continue_sequence R (prepared t) q x S) a g
unfolding continue_sequence next_child
continue_done {b = b} {k = k} {a = a} {g = g} R t q x i l S T e h m =
    rw (e, le-ltb x (length (children ((prepared t).table.node q.node))) h.by) m
