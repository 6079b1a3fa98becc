-- materialize: the walk over the chosen layout by the visit stack, with what the Rust tests on the way. It puts the layout's page and spans (crate layout, Layout and Spans).
use Rattle.std.specs.Prelude.{List, ℕ, zero, suc, ◌+◌, length}
use Rattle.cost.specs.Cost.{Cost, add}
use Rattle.cost.specs.Charge.{text_cost, penalty_cost}
use Rattle.layout.specs.Rules.{Rules}
use Rattle.layout.specs.Layout.{Plan, blank, put, line, join, mark, fee, page, last}
use Rattle.layout.specs.Spans.{Span}
use Rattle.layout.specs.Spans.{spans as spans_of}
use Rattle.machine.specs.Events.{Prog, ret, ◌>>=◌, ◌>>◌, say, need, Visit, visit, depth, output, spans}
use Rattle.machine.specs.Model.{Prepared, plan_at}
use Rattle.machine.specs.Solve.{solve}

-- how many spans a layout has
abbrev pub marks : Plan → ℕ
marks blank = 0
marks (put t) = 0
marks (line i) = 0
marks (join p q) = marks p + marks q
marks (mark a p) = suc (marks p)
marks (fee n p) = marks p

-- n bytes after `at` of them, one by one
unfoldable pub append_each : ℕ → ℕ → Prog (Unit {0})
append_each at zero = ret tt
append_each at (suc n) = do
  need output (at + 1)
  append_each (at + 1) n

-- a layout on top of the visit stack, with v items below it, d spans open, at bytes and n spans put so far
unfoldable pub visit_plan : Plan → ℕ → ℕ → ℕ → ℕ → Prog (Unit {0})
visit_plan blank v d at n = say Visit
visit_plan (put t) v d at n = do
  say Visit
  need output (at + length t.bytes)
visit_plan (line i) v d at n = do
  say Visit
  append_each at (i + 1)
visit_plan (join p q) v d at n = do
  say Visit
  need visit (v + 1)
  need visit (v + 2)
  visit_plan p (v + 1) d at n
  visit_plan q v d (at + length (page p)) (n + marks p)
visit_plan (mark a p) v d at n = do
  say Visit
  need spans (n + 1)
  need depth (d + 1)
  need visit (v + 1)
  need visit (v + 2)
  visit_plan p (v + 1) (d + 1) at (n + 1)
  say Visit
visit_plan (fee a p) v d at n = do
  say Visit
  need visit (v + 1)
  visit_plan p v d at n

unfoldable pub materialize : Plan → Prog (Unit {0})
materialize p = do
  need visit 1
  visit_plan p 0 0 0 0

-- the cost that the Rust counts again on this walk, from column c on, after a. It comes to the layout's cost (crate machine_right, Materialized), so that CostWitnessMismatch never arises and nothing has to be counted
unfoldable pub recount : Rules → Plan → ℕ → Cost → Cost
recount R blank c a = a
recount R (put t) c a = add a (text_cost R.charge c t.width)
recount R (line i) c a = add (add a (penalty_cost R.newline_cost)) (text_cost R.charge 0 i)
recount R (join p q) c a = recount R q (last p c) (recount R p c a)
recount R (mark k p) c a = recount R p c a
recount R (fee n p) c a = recount R p c (add a (penalty_cost n))

-- a page: its bytes, its spans, its cost
pub record Rendered : Type 0 where
  pub bytes : List ℕ
  pub spans : List Span
  pub cost : Cost

abbrev pub rendered : Plan → Cost → Rendered
rendered p c = record { bytes = page p; spans = spans_of p; cost = c }

module _ (R : Rules) (P : Prepared) where
  -- render_into: the solver, and then the materializer
  unfoldable pub render : Prog Rendered
  render = do
    core ← solve R P
    materialize (plan_at P.table core.plans core.root)
    ret (rendered (plan_at P.table core.plans core.root) core.cost)
