use Rattle.solve.proofs.Arranging.{arranged}
use Rattle.solve.proofs.Starts.{topped, solved, refused}
use Rattle.solve.specs.Accepts.{ready}
use Rattle.solve_workspace.specs.Meets.{Sound}
use Rattle.solve_workspace.specs.Reading.{prepared, tables, rules}
use Rattle.solve_workspace.specs.Runs.{ok}
use mathlib.Core.List.{[]}
use mathlib.Core.Path.{refl}
use native.Mathlib.Omega.{arith}
use Rattle.solve.proofs.solve.Goals as goal

pub run_tasks-requires : goal.run_tasks-requires
run_tasks-requires c = (c.requires.0, (c.requires.1.0, (c.requires.1.1, refl)))

pub take_best-requires : goal.take_best-requires
take_best-requires c = topped (rules c.args.options) (prepared (tables c.args.nodes.now c.args.edges.now c.args.choices.now c.args.texts.now [] 0 c.args.root.0 c.args.space.0)) (ready c.args.nodes.now c.args.edges.now c.args.choices.now c.args.texts.now c.args.space.0 c.requires.1.1 [] 0 c.args.root.0) c.args.b _ _ _ _ _ _ _ _ _ (c.in-Ok.ensures [] 0) refl (ok (c.in-Ok.ensures [] 0) refl) (record { stack = omega arith; memo = omega arith; kept = omega arith; frontier = omega arith; plans = omega arith }) (omega (arith, c.requires.0.results)) (omega (arith, c.requires.0.kept))

pub returns-in-Err : goal.returns-in-Err
returns-in-Err c = rw c.stats_of.ensures (record { meets = (λ B an. refused (rules c.args.options) (prepared (tables c.args.nodes.now c.args.edges.now c.args.choices.now c.args.texts.now B an c.args.root.0 c.args.space.0)) (c.in-Err.ensures B an) refl); arranged = λ t B. record { by = tt }; no_fit_checks = refl })

pub returns-in-Ok : goal.returns-in-Ok
returns-in-Ok c = let s : Sound c.args.b _ = ok (c.in-Ok.ensures [] 0) refl in record { meets = (λ B an. solved (rules c.args.options) (prepared (tables c.args.nodes.now c.args.edges.now c.args.choices.now c.args.texts.now B an c.args.root.0 c.args.space.0)) (c.in-Ok.ensures B an) refl (c.take_best.ensures.meets c.args.b (rules c.args.options) (prepared (tables c.args.nodes.now c.args.edges.now c.args.choices.now c.args.texts.now B an c.args.root.0 c.args.space.0)) _ _ _ _ _)); arranged = λ t B. record { by = arranged (rules c.args.options) (prepared (tables c.args.nodes.now c.args.edges.now c.args.choices.now c.args.texts.now [] 0 c.args.root.0 c.args.space.0)) (ready c.args.nodes.now c.args.edges.now c.args.choices.now c.args.texts.now c.args.space.0 c.requires.1.1 [] 0 c.args.root.0) t (record { node_text = B.node_text; space_text_below = B.space_text_below }) c.args.b c.take_best.result _ (solved (rules c.args.options) (prepared (tables c.args.nodes.now c.args.edges.now c.args.choices.now c.args.texts.now [] 0 c.args.root.0 c.args.space.0)) (c.in-Ok.ensures [] 0) refl (c.take_best.ensures.meets c.args.b (rules c.args.options) (prepared (tables c.args.nodes.now c.args.edges.now c.args.choices.now c.args.texts.now [] 0 c.args.root.0 c.args.space.0)) _ _ _ _ _)) (omega (arith, c.take_best.ensures.plans, s.plans, c.requires.0.plans)) (omega (arith, c.take_best.ensures.plans, s.plans)) }; no_fit_checks = c.take_best.ensures.no_fit_checks }
