-- Laws for a call's stages: the solver's and the materializer's answers are those of the machine, from the file on.
use Rattle.std.specs.Prelude.{Ok, Err}
use mathlib.Core.Path.{◌≡◌, refl, sym, ap, ◌∙◌, subst}
use mathlib.Core.List.{List, [], ◌∷◌, ◌++◌, map}
use Prim.Native.Nat.{ℕ}
use native.Mathlib.Omega.{arith}
use lib.ListN.{get_or}
use Rattle.cost.specs.Value.{value}
use Rattle.file_tables.specs.Tables.{Tables}
use Rattle.layout.specs.Layout.{Plan, blank}
use Rattle.layout.specs.Rules.{Rules}
use Rattle.layout.specs.Table.{Table}
use Rattle.plan.specs.declared.PlanNode.{PlanNode as Node}
use Rattle.plan.specs.declared.PlanNode.TheVariants.{Empty, Text, Newline, Concat, Annotate, Penalty}
use Rattle.plan.specs.Arena.{arena}
use Rattle.plan.specs.Layouts.{layout_of as read_layout, read_layouts_after, layouts}
use Rattle.machine.specs.Events.{no_counts, with_needs, Prog, ret, ◌>>◌, Out, run}
use Rattle.machine.specs.Programs.{and_then, run_bind}
use Rattle.machine.specs.Model.{Prepared, layout_of, layouts_after, plan_at}
use Rattle.machine.specs.Solve.{Solved, solve}
use Rattle.machine.specs.Materializer.{Rendered as Sheet, materialize, rendered, render}
use Rattle.machine.specs.Answer.{answer, answer_of}
use Rattle.solve_workspace.specs.declared.Bounds.{Bounds}
use Rattle.solve_workspace.specs.Meets.{limits, tally}
use Rattle.solve_workspace.specs.Rows.{Row, node_of}
use Rattle.solve_workspace.specs.Reading.{prepared}
use Rattle.materialize.specs.Texts.{layout}
use Rattle.solve.specs.declared.SolvedCore.{SolvedCore}
use Rattle.solve.specs.declared.Unsolved.{Unsolved}
use Rattle.solve.specs.Outcome.{Solution, outcome, solver_needs, Arranged, Plans}
use Rattle.render.specs.Drafts.{Drafted, Half, refusal, Paged}
use Rattle.render.specs.Call.{Laid}
use Rattle.render.proofs.Halves.{half_map}
use Rattle.render.proofs.Pages.{unaltered}
use Rattle.machine.specs.Quiet.{unvisited}

-- ---- one layout of a plan

module _ (T : Table) where
  record_same : (ps : List Plan) (x : Node) → layout_of T ps (node_of x) ≡ read_layout T.texts ps x
  record_same ps Empty = refl
  record_same ps (Text t) = refl
  record_same ps (Newline i) = refl
  record_same ps (Concat l r) = refl
  record_same ps (Annotate a p) = refl
  record_same ps (Penalty n p) = refl

  records_same : (ps : List Plan) (l : List Node) → layouts_after T ps (map node_of l) ≡ read_layouts_after T.texts ps l
  unfolding read_layouts_after
  records_same ps [] = refl
  records_same ps (x ∷ l) = ap (λ (p : Plan). layouts_after T (ps ++ (p ∷ [])) (map node_of l)) (record_same ps x) ∙ records_same (ps ++ (read_layout T.texts ps x ∷ [])) l

  pub plan_same : (l : List Node) (i : ℕ) → plan_at T (map node_of l) i ≡ get_or (layouts T.texts l) i blank
  unfolding plan_at layouts
  plan_same l i = ap (λ (ps : List Plan). get_or ps i blank) (records_same [] l)

-- ---- the solver's answer, and what comes after it

pub found_arranged : (a : Solution) {n : ℕ} {plans : List Row} {c : SolvedCore} → a ≡ Ok c → Plans n a plans → Arranged n c plans
found_arranged a {n} {plans} {c} e h = (subst (λ (x : Solution). Plans n x plans) e h).by

module _ (b : Bounds) (R : Rules) (t : Tables) (plans : List Row) where
  abbrev P : Prepared
  P = prepared t

  abbrev then_page : Solved → Prog Sheet
  then_page c = materialize (plan_at P.table c.plans c.root) >> ret (rendered (plan_at P.table c.plans c.root) c.cost)

  after : (o : Out Solved) → run (limits b) no_counts (solve R P) ≡ o → answer R P (limits b) ≡ answer_of (and_then (limits b) o then_page)
  unfolding answer render
  after o e = ap answer_of (run_bind (limits b) no_counts (solve R P) then_page ∙ ap (λ (x : Out Solved). and_then (limits b) x then_page) e)

  -- the solver visits nothing
  pub found_unvisited : (a : Solution) (c : SolvedCore) → a ≡ Ok c → run (limits b) no_counts (solve R P) ≡ outcome a plans → c.stats.visits ≡ 0
  found_unvisited a c e s = unvisited R P (limits b) no_counts (s ∙ ap (λ (x : Solution). outcome x plans) e)

  -- a refusal of the solver
  pub laid_refused : (a : Solution) (u : Unsolved) → a ≡ Err u → run (limits b) no_counts (solve R P) ≡ outcome a plans
      → {L X : List Row} {B : List ℕ} (r : Drafted) → r ≡ refusal u.halt.why u.halt.needed u.stats → Half (Laid b R P) b L X B r
  laid_refused a u e s {L} {X} {B} r f =
      subst (λ (x : Drafted). Half (Laid b R P) b L X B x) (sym f)
      (record {
        by = λ out rows. record {
          is = sym (after (outcome (Err u) plans) (s ∙ ap (λ (x : Solution). outcome x plans) e));
          stands = record { output_is = unaltered out out refl; rows_are = unaltered rows rows refl; fitting = λ j h. absurd (omega (arith, h)); no_fit_checks = refl };
        };
      })

  -- the page of what is found
  pub laid_page : (a : Solution) (c : SolvedCore) → a ≡ Ok c → run (limits b) no_counts (solve R P) ≡ outcome a plans
      → {L X : List Row} {B : List ℕ} (r : Drafted) → Half (Paged b c (layout plans c.plans t.texts t.bytes c.root.0)) b L X B r → Half (Laid b R P) b L X B r
  laid_page a c e s r h =
      half_map r
      (λ out₀ out rows₀ rows x q. record {
        is = q.is ∙ ap (λ (p : Plan). answer_of (run (limits b) (with_needs (tally c.stats) (solver_needs c.needs)) (materialize p >> ret (rendered p (value c.cost))))) (sym (plan_same P.table (arena plans c.plans) c.root.0))
            ∙ sym (after (outcome (Ok c) plans) (s ∙ ap (λ (x : Solution). outcome x plans) e));
        stands = q.stands;
      })
      h
