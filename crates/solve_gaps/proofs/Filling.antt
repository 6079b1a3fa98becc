-- Laws of a Fill's gaps.
use mathlib.Core.Path.{◌≡◌, sym, ap, ◌∙◌, subst}
use mathlib.Core.Option.{none, some}
use Prim.Native.Nat.{ℕ, suc, ◌+◌}
use native.Mathlib.Omega.{arith}
use lib.ListN.{get_or}
use Rattle.cost.specs.Charge.{text_cost}
use Rattle.cost.specs.Cost.{Cost}
use Rattle.cost.specs.Value.{text_outcome, outcome, value}
use Rattle.cost.specs.declared.ConsumerCost.{ConsumerCost}
use Rattle.cost.specs.declared.Reason.{Reason}
use Rattle.std.specs.Prelude.{Result, Ok, Err}
use Rattle.layout.specs.Rules.{Rules}
use Rattle.frontier.specs.declared.ScratchCandidate.{ScratchCandidate}
use Rattle.frontier.specs.Candidates.{carried}
use Rattle.machine.specs.Events.{Counts, Prog, ret, emit, ◌>>=◌}
use Rattle.machine.specs.Programs.{bind_assoc}
use Rattle.machine.specs.Model.{Prepared, State, Scratch, Candidate, Got, Made, PlanText, scratch, no_candidate, within_range}
use Rattle.machine.specs.Solver.{checked_text, push_gaps, push_joined, newline, present, begin_builder, finish_builder}
use Rattle.solve_workspace.specs.declared.Bounds.{Bounds}
use Rattle.solve_workspace.specs.declared.Registers.{Registers}
use Rattle.solve_workspace.specs.declared.RenderOptions.{RenderOptions}
use Rattle.solve_workspace.specs.declared.Why.{Why}
use Rattle.solve_workspace.specs.declared.Why.TheVariants.{Domain}
use Rattle.solve_workspace.specs.declared.Reached.{Reached}
use Rattle.solve_workspace.specs.declared.Reached.TheVariants.{Go, Stop}
use Rattle.solve_workspace.specs.Meets.{Meets, Leads, counts}
use Rattle.solve_workspace.specs.Rows.{survivor}
pub use Rattle.solve_workspace.specs.Reading.{any_space}
use Rattle.solve_workspace.specs.Reading.{rules}
use Rattle.solve_workspace.specs.Runs.{leads_refl, leads_seq, halt, via}
use Rattle.solve_workspace.specs.Costs.{text_fine, text_stop, column_go}
use Rattle.solve_node.specs.Begun.{LeafCandidate, leaf_scratch}
use Rattle.solve_gaps.specs.Gaps.{spacing, bounding, gap}

pub space_stop : {b : Bounds} (o : RenderOptions) (column indent : ℕ) (P : Prepared) (s : Registers) (r : Result ConsumerCost Reason) (y : Reason) (S : State) (f : Registers → Got) → outcome r ≡ text_outcome o.rule o.width column 1 → r ≡ Err y
    → Meets b (counts s) (bounding (rules o) P column indent S) (Stop (Domain y) 0 s) f
unfolding bounding checked_text
space_stop o column indent P s r y S f e q = text_stop s o column 1 r y _ f e q

pub space_go : {b : Bounds} {k : Counts} {a : Reached} {f : Registers → Got} (o : RenderOptions) (column indent x : ℕ) (P : Prepared) (r : Result ConsumerCost Reason) (c : ConsumerCost) (d : ScratchCandidate) (S : State)
    → outcome r ≡ text_outcome o.rule o.width column 1 → r ≡ Ok c → survivor (carried d) ≡ scratch (value c) (column + 1) (Made (PlanText x)) → P.space_text ≡ x
    → Meets b k (spacing (rules o) P (survivor (carried d)) indent S) a f → Meets b k (bounding (rules o) P column indent S) a f
unfolding bounding checked_text
space_go {b = b} {k = k} {a = a} {f = f} o column indent x P r c d S e q g t m =
    let fine = text_fine o column 1 r c e q in
    let same : survivor (carried d) ≡ scratch (text_cost (rules o).charge column 1) (column + 1) (Made (PlanText P.space_text)) =
    (g ∙ (ap (λ (z : Cost). scratch z (column + 1) (Made (PlanText x))) fine.is ∙ ap (λ (y : ℕ). scratch (text_cost (rules o).charge column 1) (column + 1) (Made (PlanText y))) (sym t))) in
    via (column_go (column + 1) (spacing (rules o) P (scratch (text_cost (rules o).charge column 1) (column + 1) (Made (PlanText P.space_text))) indent S) fine.small)
    (subst (λ (z : Scratch). Meets b k (spacing (rules o) P z indent S) a f) same m)

-- five in a sequence, the first three by themselves
last_two : {D E F : Type 0} (s : D → Prog E) (t : E → Prog F) (r : Prog D) → (r >>= (λ w. s w >>= t)) ≡ ((r >>= s) >>= t)
last_two s t r = sym (bind_assoc r s t)

last_three : {C D E F : Type 0} (s : D → Prog E) (t : E → Prog F) (q : Prog C) (r : C → Prog D) → (q >>= (λ z. r z >>= (λ w. s w >>= t))) ≡ (((q >>= r) >>= s) >>= t)
last_three s t (ret z) r = last_two s t (r z)
last_three s t (emit e q) r = ap (emit e) (last_three s t q r)

last_four : {B C D E F : Type 0} (s : D → Prog E) (t : E → Prog F) (p : Prog B) (q : B → Prog C) (r : C → Prog D)
    → (p >>= (λ y. q y >>= (λ z. r z >>= (λ w. s w >>= t)))) ≡ (((p >>= (λ y. q y >>= r)) >>= s) >>= t)
last_four s t (ret y) q r = last_three s t (q y) r
last_four s t (emit e p) q r = ap (emit e) (last_four s t p q r)

all_five : {A B C D E F : Type 0} (s : D → Prog E) (t : E → Prog F) (c : Prog A) (p : A → Prog B) (q : B → Prog C) (r : C → Prog D)
    → (c >>= (λ x. p x >>= (λ y. q y >>= (λ z. r z >>= (λ w. s w >>= t))))) ≡ (((c >>= (λ x. p x >>= (λ y. q y >>= r))) >>= s) >>= t)
all_five s t (ret x) p q r = last_four s t (p x) q r
all_five s t (emit e c) p q r = ap (emit e) (all_five s t c p q r)

module _ (R : Rules) (P : Prepared) where
  gaps_cons : (indent i n m : ℕ) (S : State) → n ≡ suc m → push_gaps R P indent i n S ≡ (gap R P (get_or S.retained i no_candidate) indent S >>= push_gaps R P indent (i + 1) m)
  unfolding push_gaps gap bounding spacing
  gaps_cons indent i n m S e =
      rw e
      (all_five (λ G. push_joined (get_or S.retained i no_candidate) (within_range G.state.retained G.range) G.state) (push_gaps R P indent (i + 1) m)
      (checked_text R P (get_or S.retained i no_candidate).column 1)
      (λ x. present (scratch x ((get_or S.retained i no_candidate).column + 1) (Made (PlanText P.space_text))) (begin_builder S)) (present (newline R P indent)) finish_builder)

  pub gaps_go : {b : Bounds} {k : Counts} {z : Registers} {a : Reached} {f : Registers → State} (left : Candidate) (indent i n m : ℕ) (S : State) → n ≡ suc m → left ≡ get_or S.retained i no_candidate
      → Meets b k (gap R P left indent S) a f → a ≡ Go z → Leads b k (push_gaps R P indent i n S) (counts z) (push_gaps R P indent (i + 1) m (f z))
  gaps_go left indent i n m S e q w x = rw (gaps_cons indent i n m S e, ← q) (leads_seq (push_gaps R P indent (i + 1) m) w x)

  pub gaps_halt : {b : Bounds} {k : Counts} {z : Registers} {a : Reached} {f g : Registers → State} {w : Why} {y : ℕ} (left : Candidate) (indent i n m : ℕ) (S : State) → n ≡ suc m → left ≡ get_or S.retained i no_candidate
      → Meets b k (gap R P left indent S) a f → a ≡ Stop w y z → Meets b k (push_gaps R P indent i n S) a g
  gaps_halt left indent i n m S e q w x = rw (gaps_cons indent i n m S e, ← q) (halt (push_gaps R P indent (i + 1) m) w x)

  pub gaps_none : (indent i n : ℕ) (S : State) → n ≡ 0 → push_gaps R P indent i n S ≡ ret S
  unfolding push_gaps
  gaps_none indent i n S e = rw e

pub gaps_from : {b : Bounds} {k : Counts} (R : Rules) (P : Prepared) (indent i n m : ℕ) (S : State) → m ≡ n → Leads b k (push_gaps R P indent i n S) k (push_gaps R P indent i m S)
gaps_from R P indent i n m S e = rw e leads_refl

pub present_as : {b : Bounds} {k : Counts} {a : Reached} {f : Registers → State} {x y : Scratch} (S : State) → x ≡ y → Meets b k (present x S) a f → Meets b k (present y S) a f
present_as {b = b} {k = k} {a = a} {f = f} S e m = subst (λ z. Meets b k (present z S) a f) e m

-- what has its place is not said to have none
pub line_has_place : {A : Type 0} (r : LeafCandidate) (y : Reason) (x : Scratch) → leaf_scratch r ≡ some x → r ≡ Err y → A
line_has_place r y x e q =
    let g : none ≡ some x = sym (ap leaf_scratch q) ∙ e in
    let z : ◌≡◌ {A = ℕ} 0 1 = cc in absurd (omega arith)

pub line_is : (r : LeafCandidate) (c : ScratchCandidate) (x : Scratch) → leaf_scratch r ≡ some x → r ≡ Ok c → survivor (carried c) ≡ x
line_is r c x e q = let g : some (survivor (carried c)) ≡ some x = sym (ap leaf_scratch q) ∙ e in cc
