-- What the solver's loop relies on: it starts alive, a turn keeps it alive, is the rest's first step, and leaves fewer events.
use Rattle.std.specs.Prelude.{ℕ, ◌<◌, List, [], ◌∷◌, ◌≡◌}
use Rattle.layout.specs.Document.{Doc}
use Rattle.layout.specs.Rules.{Rules}
use Rattle.layout.specs.Reading.{document, document_reads}
use Rattle.machine.specs.Events.{ret, ◌>>=◌}
use Rattle.machine.specs.Programs.{value}
use Rattle.machine.specs.Model.{Prepared, Task, Eval, memo_key, State, blank_state, with_tasks}
use Rattle.machine.specs.Solver.{step}
use Rattle.machine.specs.Solve.{rest}
use Rattle.machine_right.specs.Post.{post_value}
use Rattle.machine_right.specs.Fronts.{Front}
use Rattle.machine_right.specs.Ready.{Ready}
use Rattle.machine_right.specs.Sound.{Inv}
use Rattle.machine_right.specs.Step.{step_good}
use Rattle.machine_right.specs.Rest.{rest_step, rest_none}
use Rattle.machine_right.specs.Falls.{left, falls}
use Rattle.machine_right.specs.Found.{goal, start_inv}

module _ (R : Rules) (P : Prepared) (K : Ready P) where
  abbrev D : ℕ → Doc
  D = document P.table K.ranked

  abbrev root_front : Front
  root_front = goal R P D K (document_reads P.table K.ranked)

  -- the invariant of the loop
  pub record Alive (S : State) : Type 0 where
    pub inv : Inv R P (document P.table K.ranked) (goal R P (document P.table K.ranked) K (document_reads P.table K.ranked)) S

  pub alive_at_start : Alive (with_tasks (Eval (memo_key P.root 0 0) ∷ []) blank_state)
  alive_at_start = record { inv = start_inv R P D K (document_reads P.table K.ranked) }

  -- a turn of the loop, at a state with a task
  pub record Turned (S : State) : Type 0 where
    pub alive : Alive (value (step R P S))
    pub law : rest R P S ≡ (step R P S >>= rest R P)
    pub fewer : left R P (value (step R P S)) < left R P S

  pub turned : (x : Task) (ts : List Task) (S : State) → S.tasks ≡ x ∷ ts → Alive S → Turned S
  turned x ts S e a =
      let r = document_reads P.table K.ranked in
      record {
        alive = record { inv = (post_value (step_good R P D root_front K r x ts S e a.inv)).inv };
        law = rest_step R P D root_front K r x ts S e a.inv;
        fewer = falls R P D root_front K r x ts S e a.inv;
      }

  -- no task is left
  pub over : (S : State) → S.tasks ≡ [] → rest R P S ≡ ret S
  over S e = rest_none R P D root_front K (document_reads P.table K.ranked) S e
