use Rattle.solve_workspace.specs.Reading.{tables}
use Rattle.solve_workspace.specs.Rows.{abs}
use Rattle.solve_workspace.specs.Work.{popped_sound, popped_from}
use Rattle.solve_workspace.specs.Entering.{memory_of, memory_on}
use Rattle.solve_continue.proofs.Boundaries.{continue_child, continue_done, child_is, kept_same}
use Rattle.solve_continue.proofs.continue_sequence.Goals as goal

pub complete_node-requires : goal.complete_node-requires
complete_node-requires c = (memory_of c.requires.1.1.0 c.pop_exact_result.ensures.popped.memo, (c.requires.1.0, popped_sound c.pop_exact_result.ensures.popped c.requires.1.1.1.1.1.1.1.1))

pub next_child-requires : goal.next_child-requires
next_child-requires c = (c.requires.1.1.1.0, (c.requires.1.1.1.1.0, (c.requires.1.1.1.1.1.0, (c.requires.1.1.1.1.1.1.0, (c.requires.1.1.1.1.1.1.1.0, popped_sound c.pop_exact_result.ensures.popped c.requires.1.1.1.1.1.1.1.1)))))

pub returns-in-None : goal.returns-in-None
returns-in-None c = record { meets = λ choices texts bytes an root. popped_from c.pop_exact_result.ensures.popped (continue_done _ (tables c.args.nodes.now c.args.edges.now choices texts bytes an root c.args.space.0) c.args.key _ _ _ (abs c.args.g.now c.args.tasks.now c.args.results.now c.args.pending.now c.args.entries.now c.args.kept.now c.args.frontier.now c.args.plans.now) (abs c.pop_exact_result.new.g c.args.tasks.now c.args.results.now c.args.pending.now c.args.entries.now c.args.kept.now c.args.frontier.now c.args.plans.now) (c.pop_exact_result.ensures.is c.args.tasks.now c.args.pending.now c.args.entries.now c.args.kept.now c.args.frontier.now c.args.plans.now) c.in-None.ensures (c.complete_node.ensures.meets c.args.tasks.now c.args.pending.now c.args.kept.now c.args.frontier.now c.args.plans.now)); memory = c.complete_node.ensures.memory }

pub returns-in-Some : goal.returns-in-Some
returns-in-Some c = record { meets = λ choices texts bytes an root. popped_from c.pop_exact_result.ensures.popped (continue_child _ (tables c.args.nodes.now c.args.edges.now choices texts bytes an root c.args.space.0) c.args.key _ _ _ _ (abs c.args.g.now c.args.tasks.now c.args.results.now c.args.pending.now c.args.entries.now c.args.kept.now c.args.frontier.now c.args.plans.now) (abs c.pop_exact_result.new.g c.args.tasks.now c.args.results.now c.args.pending.now c.args.entries.now c.args.kept.now c.args.frontier.now c.args.plans.now) (c.pop_exact_result.ensures.is c.args.tasks.now c.args.pending.now c.args.entries.now c.args.kept.now c.args.frontier.now c.args.plans.now) (child_is (tables c.args.nodes.now c.args.edges.now choices texts bytes an root c.args.space.0) _ _ _ c.in-Some.ensures) (c.next_child.ensures.meets c.args.edges.now choices texts bytes an root c.args.results.now c.args.entries.now (child_is (tables c.args.nodes.now c.args.edges.now choices texts bytes an root c.args.space.0) _ _ _ c.in-Some.ensures))); memory = memory_on _ (memory_of c.requires.1.1.0 c.pop_exact_result.ensures.popped.memo) (kept_same _ c.next_child.ensures.keeps) }
