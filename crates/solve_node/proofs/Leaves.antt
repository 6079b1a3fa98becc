-- Laws of leaves, and of the children of sequences.
use mathlib.Core.Path.{◌≡◌, refl, sym, subst}
use mathlib.Core.Bool.{true, false}
use mathlib.Core.Option.{some}
use Rattle.file_tables.specs.Kinds.{number_of}
use Rattle.file_tables.specs.declared.Kind.{Kind}
use Rattle.file_tables.specs.declared.Kind.TheVariants.{Empty, Text, Break, HardLine, Seq, Group, Fill, Nest, Align, Choice, Annotate, Penalty}
use mathlib.Core.Logic.{◌⊎◌, inl, inr}
use mathlib.Core.List.{List}
use Prim.Native.Nat.{ℕ, ◌+◌}
use native.Mathlib.Omega.{arith}
use Rattle.cost.specs.Cost.{Cost, zero_cost}
use Rattle.cost.specs.Value.{text_outcome, outcome, value}
use Rattle.cost.specs.declared.ConsumerCost.{ConsumerCost}
use Rattle.cost.specs.declared.Reason.{Reason}
use Rattle.layout.specs.Rules.{Rules}
use Rattle.memo.specs.declared.MemoKey.{MemoKey}
use Rattle.memo.specs.declared.CandidateRange.{CandidateRange}
use Rattle.frontier.specs.declared.ScratchCandidate.{ScratchCandidate}
use Rattle.frontier.specs.Candidates.{carried}
use Rattle.file_tables.specs.declared.TextId.{TextId}
use Rattle.machine.specs.Events.{ret}
use Rattle.machine.specs.Model.{Prepared, State, scratch, got, Made, PlanEmpty, PlanText, children}
use Rattle.machine.specs.Solver.{begin_empty, begin_newline, newline, gap_if_fill}
use Rattle.solve_workspace.specs.declared.RenderOptions.{RenderOptions}
use Rattle.solve_workspace.specs.Reading.{node_of_kind, edge_part, rules}
use Rattle.solve_workspace.specs.Rows.{survivor}
use Rattle.solve_workspace.specs.Runs.{leads_refl}
use Rattle.solve_workspace.specs.Costs.{text_fine, text_stop, column_go}
use Rattle.solve_node.specs.declared.Leaf.{Leaf}
use Rattle.solve_node.specs.declared.Leaf.TheVariants.{Empty as AnEmpty, Text as AText, Newline}
use Rattle.std.specs.Prelude.{None, Result, Ok, Err}
use Rattle.solve_node.specs.Begun.{NodeLink, LeafCandidate, ChildIs, Leafed, leaf_scratch, Filling}

pub leafed_at : {R : Rules} {q : MemoKey} {r : LeafCandidate} {l x : Leaf} → l ≡ x → Leafed R x q r → Leafed R l q r
leafed_at {R = R} {q = q} {r = r} e h = subst (λ y. Leafed R y q r) (sym e) h

pub empty_leaf : (R : Rules) (q : MemoKey) (z : Cost) (c : ScratchCandidate) → z ≡ zero_cost → survivor (carried c) ≡ scratch z q.column (Made PlanEmpty) → Leafed R AnEmpty q (Ok c)
unfolding begin_empty
empty_leaf R q z c f e = record { by = λ P b j S. rw (e, f) leads_refl }

-- what has its place is not said to have none

pub newline_leaf : (R : Rules) (q : MemoKey) (r : LeafCandidate) → ((P : Prepared) → leaf_scratch r ≡ some (newline R P q.indent)) → Leafed R Newline q r
unfolding begin_newline
newline_leaf R q (Ok c) e = record { by = λ P b j S. let f : survivor (carried c) ≡ newline R P q.indent = (let g = e P in cc) in rw f leads_refl }
newline_leaf R q (Err y) e = record { by = λ P b s S f. let g = e P in let z : ◌≡◌ {A = ℕ} 0 1 = cc in absurd (omega arith) }

pub text_leaf : (o : RenderOptions) (q : MemoKey) (t : TextId) (width : ℕ) (r : Result ConsumerCost Reason) (k : ConsumerCost) (c : ScratchCandidate) → outcome r ≡ text_outcome o.rule o.width q.column width → r ≡ Ok k
    → survivor (carried c) ≡ scratch (value k) (q.column + width) (Made (PlanText t.0)) → Leafed (rules o) (AText t width) q (Ok c)
text_leaf o q t width r k c e f g =
    let fine = text_fine o q.column width r k e f in
    record { by = λ P b j S. rw (g, fine.is) (column_go (q.column + width) _ fine.small) }

pub text_fails : (o : RenderOptions) (q : MemoKey) (t : TextId) (width : ℕ) (r : Result ConsumerCost Reason) (y : Reason) → outcome r ≡ text_outcome o.rule o.width q.column width → r ≡ Err y → Leafed (rules o) (AText t width) q (Err y)
text_fails o q t width r y e f = record { by = λ P b s S g. text_stop s o q.column width r y _ g e f }

-- ---- sequences

pub seq_children : (es : List ℕ) (k : Kind) (a b i : ℕ) (x : NodeLink) → (k ≡ Seq) ⊎ (k ≡ Fill) → ChildIs (edge_part es a b) i x → ChildIs (children (node_of_kind es (number_of k) a b)) i x
seq_children es k a b i x (inl e) c = rw e c
seq_children es k a b i x (inr e) c = rw e c

pub no_children : (es : List ℕ) (k : Kind) (a b i : ℕ) → (k ≡ Seq → ⊥) → (k ≡ Fill → ⊥) → ChildIs (children (node_of_kind es (number_of k) a b)) i None
no_children es Seq a b i x y = absurd (x refl)
no_children es Fill a b i x y = absurd (y refl)
no_children es Empty a b i x y = record { by = omega arith }
no_children es Text a b i x y = record { by = omega arith }
no_children es Break a b i x y = record { by = omega arith }
no_children es HardLine a b i x y = record { by = omega arith }
no_children es Group a b i x y = record { by = omega arith }
no_children es Nest a b i x y = record { by = omega arith }
no_children es Align a b i x y = record { by = omega arith }
no_children es Choice a b i x y = record { by = omega arith }
no_children es Annotate a b i x y = record { by = omega arith }
no_children es Penalty a b i x y = record { by = omega arith }

pub fill_kind : (es : List ℕ) (a b : ℕ) → Filling (node_of_kind es 6 a b) true
unfolding gap_if_fill
fill_kind es a b = record { yes = λ R P r i S q. refl; no = λ R P r i S q. absurd (let z : ◌≡◌ {A = ℕ} 0 1 = cc in omega arith) }

no_gap : (es : List ℕ) (k : Kind) (a b : ℕ) → (k ≡ Fill → ⊥) → (R : Rules) (P : Prepared) (r : CandidateRange) (i : ℕ) (S : State) → gap_if_fill R P (node_of_kind es (number_of k) a b) r i S ≡ ret (got r S)
unfolding gap_if_fill
no_gap es Fill a b h R P r i S = absurd (h refl)
no_gap es Empty a b h R P r i S = refl
no_gap es Text a b h R P r i S = refl
no_gap es Break a b h R P r i S = refl
no_gap es HardLine a b h R P r i S = refl
no_gap es Seq a b h R P r i S = refl
no_gap es Group a b h R P r i S = refl
no_gap es Nest a b h R P r i S = refl
no_gap es Align a b h R P r i S = refl
no_gap es Choice a b h R P r i S = refl
no_gap es Annotate a b h R P r i S = refl
no_gap es Penalty a b h R P r i S = refl

pub other_kind : (es : List ℕ) (k : Kind) (a b : ℕ) → (k ≡ Fill → ⊥) → Filling (node_of_kind es (number_of k) a b) false
other_kind es k a b h = record { yes = λ R P r i S q. absurd (let z : ◌≡◌ {A = ℕ} 0 1 = cc in omega arith); no = λ R P r i S q. no_gap es k a b h R P r i S }
