use Rattle.file_checks.specs.Judged.{tables}
use Rattle.solve_workspace.specs.Reading.{rules}
use Rattle.render.proofs.Stages.{found_arranged, found_unvisited, laid_refused, laid_page}
use Rattle.render.proofs.call.lay_out.Goals as goal

pub solve-solution-requires : goal.solve-solution-requires
solve-solution-requires c = let pre = c.requires in (pre.0, (pre.1, pre.2.accepted))

pub returns-in-Err : goal.returns-in-Err
returns-in-Err c =
    laid_refused c.args.b (rules c.args.options) (tables c.args.nodes.now c.args.edges.now c.args.choices.now c.args.texts.now c.args.bytes.now 0 c.args.root.0 c.args.space.0) _ c.solve-solution.result _ c.in-Err.is (c.solve-solution.ensures.meets c.args.bytes.now 0) c.solver_refused.result c.solver_refused.ensures

pub measure_page-requires : goal.measure_page-requires
measure_page-requires c =
    let pre = c.requires in
    (pre.3, found_arranged c.solve-solution.result c.in-Ok.is (c.solve-solution.ensures.arranged _ pre.2.below), pre.2.inside, found_unvisited c.args.b (rules c.args.options) (tables c.args.nodes.now c.args.edges.now c.args.choices.now c.args.texts.now c.args.bytes.now 0 c.args.root.0 c.args.space.0) _ c.solve-solution.result _ c.in-Ok.is (c.solve-solution.ensures.meets c.args.bytes.now 0))

pub returns-in-Ok : goal.returns-in-Ok
returns-in-Ok c =
    laid_page c.args.b (rules c.args.options) (tables c.args.nodes.now c.args.edges.now c.args.choices.now c.args.texts.now c.args.bytes.now 0 c.args.root.0 c.args.space.0) _ c.solve-solution.result _ c.in-Ok.is (c.solve-solution.ensures.meets c.args.bytes.now 0) c.measure_page.result c.measure_page.ensures
