-- Candidates on their way into the kept rows, and their plans into the arena.
use Rattle.std.specs.Prelude.{◌≡◌, List, ◌++◌, map, ℕ, ◌+◌, ◌≤◌, ◌<◌, ◌^◌, length}
use Rattle.plan.specs.Arena.{arena}
use Rattle.frontier.specs.Candidates.{survivors}
use Rattle.machine.specs.Model.{Candidate, Scratch}
use Rattle.machine.specs.Solver.{additional, additional_plans, committed}
use Rattle.solve_workspace.specs.declared.Bounds.{Bounds}
use Rattle.solve_workspace.specs.declared.Registers.{Registers}
use Rattle.solve_workspace.specs.Rows.{Row, survivor, candidate_of, node_of, row_list}
use Rattle.solve_builder.specs.Building.{Building}

-- a candidate with the number of its plan
abbrev pub kept_as : Scratch → ℕ → Candidate
kept_as c n = record { cost = c.cost; column = c.column; plan = record { precedence = c.plan.precedence; plan = n } }

-- after the first k rows stand the candidates of xs, and after the first n records the plans that they add
pub record Commits (xs : List Scratch) (ks ns ks' ns' : List Row) (k n k' n' : ℕ) : Type 0 where
  pub number : k' ≡ k + length xs
  pub count : n' ≡ n + length (additional_plans xs)
  pub kept : row_list candidate_of ks' k' ≡ row_list candidate_of ks k ++ committed n xs
  pub plans : map node_of (arena ns' n') ≡ map node_of (arena ns n) ++ additional_plans xs

-- there is room for one
pub record CommittableOne (x : Scratch) (ks ns : List Row) (k n : ℕ) : Type 0 where
  pub kept : k < length ks
  pub plans : n + length (additional x.plan.plan) ≤ length ns
  pub small : n + length (additional x.plan.plan) < 2 ^ 32

-- there is room for all survivors
pub record Committable (b : Bounds) (s : Registers) (fs : List ℕ) (ks ns : List Row) : Type 0 where
  pub building : Building b s fs
  pub kept : s.kept + s.builder.live ≤ length ks
  pub plans : s.plans + length (additional_plans (map survivor (survivors fs s.builder))) ≤ length ns
  pub small : s.plans + length (additional_plans (map survivor (survivors fs s.builder))) < 2 ^ 32
