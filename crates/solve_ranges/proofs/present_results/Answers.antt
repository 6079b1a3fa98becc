use Rattle.std.proofs.Common.{refl, ◌+◌, ◌-◌, [], arith}
use Rattle.solve_workspace.specs.declared.Registers.{Registers}
use Rattle.solve_workspace.specs.Rows.{abs}
use Rattle.solve_workspace.specs.TurnLaws.{went, halted, handed_on}
use Rattle.solve_ranges.proofs.Loops.{underway, still_underway, ranges_start, ranges_go, ranges_halt, ranges_end, gone_on, results_is}
use Rattle.solve_ranges.proofs.present_results.Goals as goal

pub loop-i-init : goal.loop-i-init
loop-i-init c = record {
  underway = underway c.requires.0 c.requires.1.1.1.1;
  met = λ R P ts ps es ns. ranges_start R P c.args.results.now (abs c.args.g.now ts c.args.results.now ps es c.args.kept.now c.args.frontier.now ns) c.args.g.now (λ (z : Registers). abs z ts c.args.results.now ps es c.args.kept.now c.args.frontier.now ns) c.args.from (c.args.from - c.args.from) (omega arith) refl c.requires.1.1.1.1;
}

pub returns-in_err-present_range-clause-meets : goal.returns-in_err-present_range-clause-meets
returns-in_err-present_range-clause-meets c = λ R P ts ps es ns. rw (handed_on c.in_err-present_range.was c.from_residual.ensures.1) (rw (results_is R P c.args.g.now ts c.args.results.now ps es c.args.kept.now c.args.frontier.now ns c.args.from)
    (ranges_halt R P c.args.results.now (abs c.args.g.now ts c.args.results.now ps es c.args.kept.now c.args.frontier.now ns) (c.args.g.now.results - (c.loop-i.i + 1)) (c.loop-i.i + 1) c.args.g.now.results (c.loop-i.i + 1 - c.args.from) (c.args.g.now.results - c.args.from) (omega (arith, c.loop-i-test)) (omega (arith, c.loop-i-test, c.loop-i.auto.i))
    (ranges_go R P c.args.results.now (abs c.args.g.now ts c.args.results.now ps es c.args.kept.now c.args.frontier.now ns) c.loop-i.i (c.loop-i.i + 1) (c.loop-i.i - c.args.from) (c.loop-i.i + 1 - c.args.from) (omega arith) (omega (arith, c.loop-i.auto.i)) (c.loop-i.invariant.met R P ts ps es ns) (c.present_range.ensures.meets ts c.args.results.now ps es ns)) (halted _ c.in_err-present_range.was)))

pub loop-i-preserved : goal.loop-i-preserved
loop-i-preserved c = record {
  underway = still_underway c.loop-i.invariant.underway (c.present_range.ensures.meets [] [] [] [] []) c.present_range.ensures.building c.present_range.ensures.keeps c.in_ok-present_range.was;
  met = λ R P ts ps es ns. gone_on (ranges_go R P c.args.results.now (abs c.args.g.now ts c.args.results.now ps es c.args.kept.now c.args.frontier.now ns) c.loop-i.i (c.loop-i.i + 1) (c.loop-i.i - c.args.from) (c.loop-i.i + 1 - c.args.from) (omega arith) (omega (arith, c.loop-i.auto.i)) (c.loop-i.invariant.met R P ts ps es ns) (c.present_range.ensures.meets ts c.args.results.now ps es ns)) (went _ c.in_ok-present_range.was);
}

pub returns-clause-meets : goal.returns-clause-meets
returns-clause-meets c = λ R P ts ps es ns. rw (results_is R P c.args.g.now ts c.args.results.now ps es c.args.kept.now c.args.frontier.now ns c.args.from)
    (ranges_end R P c.args.results.now (abs c.args.g.now ts c.args.results.now ps es c.args.kept.now c.args.frontier.now ns) c.loop-i.i c.args.g.now.results c.args.from (omega (arith, c.loop-i-test, c.loop-i.auto)) (c.loop-i.invariant.met R P ts ps es ns))
