use Rattle.solve.proofs.Turns.{turned, stops, finished, fits}
use Rattle.solve.specs.Accepts.{ready}
use Rattle.solve_execute.specs.Turn.{Room, Fits}
use Rattle.solve_workspace.specs.Entering.{memory_by}
use Rattle.solve_workspace.specs.Reading.{prepared, tables, rules}
use Rattle.solve_workspace.specs.Runs.{leads_refl, onward, via}
use Rattle.solve_workspace.specs.Stacks.{with_tasks_to, sound_tasks}
use Rattle.solve_workspace.specs.TurnLaws.{went, halted, held_on, handed_on}
use Prim.Native.Nat.{suc, ◌-◌}
use mathlib.Core.List.{[]}
use mathlib.Core.Path.{◌≡◌, refl, sym, ◌∙◌, subst}
use native.Mathlib.Omega.{arith}
use Rattle.solve.proofs.work_off.Goals as goal

pub loop-g-init : goal.loop-g-init
loop-g-init c = record { tasks = refl; results = refl; pending = refl; index = refl; entries = refl; frontier = refl; kept = refl; plans = refl; memory = c.requires.1.0; held = c.requires.1.1.0; typed = c.requires.1.1.1.1; leads = λ B an ro. leads_refl }

pub execute_task-requires : goal.execute_task-requires
execute_task-requires c =
    let e : c.loop-g.g.tasks ≡ suc (c.loop-g.g.tasks - 1) = omega arith in
    let r : Room c.args.b c.loop-g.tasks c.loop-g.results c.loop-g.pending c.loop-g.frontier c.loop-g.kept c.loop-g.plans = record { tasks = omega (arith, c.loop-g.invariant.tasks, c.requires.0.tasks); results = omega (arith, c.loop-g.invariant.results, c.requires.0.results); pending = omega (arith, c.loop-g.invariant.pending, c.requires.0.pending); frontier = omega (arith, c.loop-g.invariant.frontier, c.requires.0.frontier); kept = omega (arith, c.loop-g.invariant.kept, c.requires.0.kept); plans = omega (arith, c.loop-g.invariant.plans, c.requires.0.plans) } in
    (r, (c.loop-g.invariant.memory, (sound_tasks (c.loop-g.g.tasks - 1) c.loop-g.invariant.held (omega (arith, c.loop-g.invariant.held.tasks)), subst (λ z. Fits c.args.nodes.now c.args.edges.now (with_tasks_to c.loop-g.g (c.loop-g.g.tasks - 1)) z) (sym c.row_task-task.ensures) (fits (rules c.args.options) c.args.nodes.now c.args.edges.now c.args.choices.now c.args.texts.now c.args.space.0 c.args.b c.loop-g.g c.loop-g.tasks c.loop-g.results c.loop-g.pending c.loop-g.entries c.loop-g.kept c.loop-g.frontier c.loop-g.plans (c.loop-g.g.tasks - 1) e c.loop-g.invariant.held r (c.loop-g.invariant.typed [] 0 0)))))

pub loop-g-smaller : goal.loop-g-smaller
loop-g-smaller c = let e : c.loop-g.g.tasks ≡ suc (c.loop-g.g.tasks - 1) = omega arith in (turned (rules c.args.options) (prepared (tables c.args.nodes.now c.args.edges.now c.args.choices.now c.args.texts.now [] 0 0 c.args.space.0)) (ready c.args.nodes.now c.args.edges.now c.args.choices.now c.args.texts.now c.args.space.0 c.requires.1.1.1.0 [] 0 0) c.args.b c.loop-g.g c.loop-g.tasks c.loop-g.results c.loop-g.pending c.loop-g.entries c.loop-g.kept c.loop-g.frontier c.loop-g.plans (c.loop-g.g.tasks - 1) e (c.loop-g.invariant.typed [] 0 0) _ c.row_task-task.ensures (c.execute_task.ensures.meets [] 0 0) _ (went _ c.in_ok-execute_task.was)).less

pub loop-g-preserved : goal.loop-g-preserved
loop-g-preserved c =
    let e : c.loop-g.g.tasks ≡ suc (c.loop-g.g.tasks - 1) = omega arith in
    record { tasks = c.execute_task.auto.tasks ∙ c.loop-g.invariant.tasks; results = c.execute_task.auto.results ∙ c.loop-g.invariant.results; pending = c.execute_task.auto.pending ∙ c.loop-g.invariant.pending; index = c.execute_task.auto.index ∙ c.loop-g.invariant.index; entries = c.execute_task.auto.entries ∙ c.loop-g.invariant.entries; frontier = c.execute_task.auto.frontier ∙ c.loop-g.invariant.frontier; kept = c.execute_task.auto.kept ∙ c.loop-g.invariant.kept; plans = c.execute_task.auto.plans ∙ c.loop-g.invariant.plans; memory = memory_by c.execute_task.ensures.memory (went _ c.in_ok-execute_task.was); held = held_on (c.execute_task.ensures.meets [] 0 0) c.in_ok-execute_task.was; typed = λ B an ro. (turned (rules c.args.options) (prepared (tables c.args.nodes.now c.args.edges.now c.args.choices.now c.args.texts.now B an ro c.args.space.0)) (ready c.args.nodes.now c.args.edges.now c.args.choices.now c.args.texts.now c.args.space.0 c.requires.1.1.1.0 B an ro) c.args.b c.loop-g.g c.loop-g.tasks c.loop-g.results c.loop-g.pending c.loop-g.entries c.loop-g.kept c.loop-g.frontier c.loop-g.plans (c.loop-g.g.tasks - 1) e (c.loop-g.invariant.typed B an ro) _ c.row_task-task.ensures (c.execute_task.ensures.meets B an ro) _ (went _ c.in_ok-execute_task.was)).typed; leads = λ B an ro. onward (c.loop-g.invariant.leads B an ro) (turned (rules c.args.options) (prepared (tables c.args.nodes.now c.args.edges.now c.args.choices.now c.args.texts.now B an ro c.args.space.0)) (ready c.args.nodes.now c.args.edges.now c.args.choices.now c.args.texts.now c.args.space.0 c.requires.1.1.1.0 B an ro) c.args.b c.loop-g.g c.loop-g.tasks c.loop-g.results c.loop-g.pending c.loop-g.entries c.loop-g.kept c.loop-g.frontier c.loop-g.plans (c.loop-g.g.tasks - 1) e (c.loop-g.invariant.typed B an ro) _ c.row_task-task.ensures (c.execute_task.ensures.meets B an ro) _ (went _ c.in_ok-execute_task.was)).leads }

pub returns-in_err-execute_task : goal.returns-in_err-execute_task
returns-in_err-execute_task c =
    let e : c.loop-g.g.tasks ≡ suc (c.loop-g.g.tasks - 1) = omega arith in
    rw (handed_on c.in_err-execute_task.was c.from_residual.ensures.1) (λ B an ro. via (c.loop-g.invariant.leads B an ro) (stops (rules c.args.options) (prepared (tables c.args.nodes.now c.args.edges.now c.args.choices.now c.args.texts.now B an ro c.args.space.0)) (ready c.args.nodes.now c.args.edges.now c.args.choices.now c.args.texts.now c.args.space.0 c.requires.1.1.1.0 B an ro) c.args.b c.loop-g.g c.loop-g.tasks c.loop-g.results c.loop-g.pending c.loop-g.entries c.loop-g.kept c.loop-g.frontier c.loop-g.plans (c.loop-g.g.tasks - 1) e (c.loop-g.invariant.typed B an ro) _ c.row_task-task.ensures (c.execute_task.ensures.meets B an ro) (halted _ c.in_err-execute_task.was)))

pub returns : goal.returns
returns c = λ B an ro. via (c.loop-g.invariant.leads B an ro) (finished (rules c.args.options) (prepared (tables c.args.nodes.now c.args.edges.now c.args.choices.now c.args.texts.now B an ro c.args.space.0)) (ready c.args.nodes.now c.args.edges.now c.args.choices.now c.args.texts.now c.args.space.0 c.requires.1.1.1.0 B an ro) c.args.b c.loop-g.g c.loop-g.tasks c.loop-g.results c.loop-g.pending c.loop-g.entries c.loop-g.kept c.loop-g.frontier c.loop-g.plans (omega arith) c.loop-g.invariant.held (c.loop-g.invariant.typed B an ro))
