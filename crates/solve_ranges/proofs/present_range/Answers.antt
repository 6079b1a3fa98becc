use Rattle.std.proofs.Common.{◌+◌, ◌-◌, [], arith, ap, ◌∙◌}
use Rattle.machine.specs.Solver.{existing}
use Rattle.solve_workspace.specs.declared.Registers.{Registers}
use Rattle.solve_workspace.specs.Rows.{abs, candidate_of, row_list}
use Rattle.solve_workspace.specs.Runs.{onward, via}
use Rattle.solve_workspace.specs.TurnLaws.{went, halted, handed_on}
use Rattle.solve_ranges.proofs.Loops.{still_underway, all_go, all_halt, all_end, part_next, part_end, range_is}
use Rattle.solve_ranges.proofs.present_range.Goals as goal

pub returns-in_err-present-clause-meets : goal.returns-in_err-present-clause-meets
returns-in_err-present-clause-meets c = λ ts rs ps es ns. rw (handed_on c.in_err-present.was c.from_residual.ensures.1) (rw (range_is c.args.g.now ts rs ps es c.args.kept.now c.args.frontier.now ns c.args.start c.args.len) (via (c.loop-i.invariant.leads ts rs ps es ns)
    (all_halt _ _ _ _ _ (part_next (row_list candidate_of c.args.kept.now c.args.g.now.kept) c.loop-i.i (c.args.start + c.args.len - c.loop-i.i) (c.args.start + c.args.len - (c.loop-i.i + 1)) (omega (arith, c.loop-i-test)))
    (c.existing.ensures ∙ ap existing c.candidate_at-c.ensures) (c.present.ensures.meets ts rs ps es _ ns) (halted _ c.in_err-present.was))))

pub loop-i-preserved : goal.loop-i-preserved
loop-i-preserved c = record {
  underway = still_underway c.loop-i.invariant.underway (c.present.ensures.meets [] [] [] [] [] []) c.present.ensures.building c.present.ensures.keeps c.in_ok-present.was;
  leads = λ ts rs ps es ns. onward (c.loop-i.invariant.leads ts rs ps es ns)
      (all_go _ _ _ _ _ (part_next (row_list candidate_of c.args.kept.now c.args.g.now.kept) c.loop-i.i (c.args.start + c.args.len - c.loop-i.i) (c.args.start + c.args.len - (c.loop-i.i + 1)) (omega (arith, c.loop-i-test)))
      (c.existing.ensures ∙ ap existing c.candidate_at-c.ensures) (c.present.ensures.meets ts rs ps es _ ns) (went _ c.in_ok-present.was));
}

pub returns-clause-meets : goal.returns-clause-meets
returns-clause-meets c = λ ts rs ps es ns. rw (range_is c.args.g.now ts rs ps es c.args.kept.now c.args.frontier.now ns c.args.start c.args.len) (via (c.loop-i.invariant.leads ts rs ps es ns)
    (all_end c.loop-i.g _ (λ (u : Registers). abs u ts rs ps es c.args.kept.now c.loop-i.frontier ns) (part_end (row_list candidate_of c.args.kept.now c.args.g.now.kept) c.loop-i.i (c.args.start + c.args.len - c.loop-i.i) (omega (arith, c.loop-i-test))) c.loop-i.invariant.underway.sound))
