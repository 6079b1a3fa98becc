use Rattle.solve.proofs.Starts.{started, started_held, starts, from_start, memory, typed_start}
use Rattle.solve.specs.Accepts.{ready}
use Rattle.machine.specs.Model.{memo_key}
use Rattle.machine.specs.Solve.{rest}
use Rattle.solve_workspace.specs.Reading.{prepared, tables, rules}
use Rattle.solve_workspace.specs.Runs.{kept_by, seq, halt}
use Rattle.solve_workspace.specs.TurnLaws.{went, halted, held_on, handed_on}
use native.Mathlib.Omega.{arith}
use Rattle.solve.proofs.run_tasks.Goals as goal

pub push_exact_task-requires : goal.push_exact_task-requires
push_exact_task-requires c = (omega (arith, c.requires.0.tasks), started_held c.requires.1.1.1 c.begin_builder.ensures (omega arith))

pub returns-in_err-push_exact_task : goal.returns-in_err-push_exact_task
returns-in_err-push_exact_task c = rw (handed_on c.in_err-push_exact_task.was c.from_residual.ensures.1) (λ B an. from_start (started c.requires.1.1.1 c.begin_builder.ensures) (starts (rules c.args.options) (prepared (tables c.args.nodes.now c.args.edges.now c.args.choices.now c.args.texts.now B an c.args.root.0 c.args.space.0)) (started c.requires.1.1.1 c.begin_builder.ensures) c.args.tasks.now c.args.results.now c.args.pending.now c.args.entries.now c.args.kept.now c.args.frontier.now c.args.plans.now) (halt (rest (rules c.args.options) (prepared (tables c.args.nodes.now c.args.edges.now c.args.choices.now c.args.texts.now B an c.args.root.0 c.args.space.0))) (c.push_exact_task.ensures.meets c.args.results.now c.args.pending.now c.args.entries.now c.args.kept.now c.args.frontier.now c.args.plans.now) (halted _ c.in_err-push_exact_task.was)))

pub work_off-requires : goal.work_off-requires
work_off-requires c = (record { tasks = omega (arith, c.requires.0.tasks); results = omega (arith, c.requires.0.results); pending = omega (arith, c.requires.0.pending); frontier = omega (arith, c.requires.0.frontier); kept = omega (arith, c.requires.0.kept); plans = omega (arith, c.requires.0.plans) }, (memory c.args.b c.args.index.now c.args.entries.now (started c.requires.1.1.1 c.begin_builder.ensures) (kept_by c.push_exact_task.ensures.keeps (went _ c.in_ok-push_exact_task.was)) c.requires.1.0, (held_on (c.push_exact_task.ensures.meets c.args.results.now c.args.pending.now c.args.entries.now c.args.kept.now c.args.frontier.now c.args.plans.now) c.in_ok-push_exact_task.was, (c.requires.1.1.0, λ B an ro. typed_start (rules c.args.options) (prepared (tables c.args.nodes.now c.args.edges.now c.args.choices.now c.args.texts.now B an ro c.args.space.0)) (ready c.args.nodes.now c.args.edges.now c.args.choices.now c.args.texts.now c.args.space.0 c.requires.1.1.0 B an ro) (memo_key c.args.root.0 0 0) c.args.b (started c.requires.1.1.1 c.begin_builder.ensures) _ c.args.tasks.now c.args.results.now c.args.pending.now c.args.entries.now c.args.kept.now c.args.frontier.now c.args.plans.now (c.push_exact_task.ensures.meets c.args.results.now c.args.pending.now c.args.entries.now c.args.kept.now c.args.frontier.now c.args.plans.now) (went _ c.in_ok-push_exact_task.was)))))

pub returns : goal.returns
returns c = λ B an. from_start (started c.requires.1.1.1 c.begin_builder.ensures) (starts (rules c.args.options) (prepared (tables c.args.nodes.now c.args.edges.now c.args.choices.now c.args.texts.now B an c.args.root.0 c.args.space.0)) (started c.requires.1.1.1 c.begin_builder.ensures) c.args.tasks.now c.args.results.now c.args.pending.now c.args.entries.now c.args.kept.now c.args.frontier.now c.args.plans.now) (seq (rest (rules c.args.options) (prepared (tables c.args.nodes.now c.args.edges.now c.args.choices.now c.args.texts.now B an c.args.root.0 c.args.space.0))) (c.push_exact_task.ensures.meets c.args.results.now c.args.pending.now c.args.entries.now c.args.kept.now c.args.frontier.now c.args.plans.now) (went _ c.in_ok-push_exact_task.was) (c.work_off.ensures B an c.args.root.0))
