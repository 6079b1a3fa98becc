use Rattle.std.proofs.Common.{◌+◌, ◌-◌, [], arith}
use Rattle.solve_workspace.specs.declared.Registers.{Registers}
use Rattle.solve_workspace.specs.Rows.{abs, candidate_of, row_list}
use Rattle.solve_workspace.specs.Runs.{onward, via}
use Rattle.solve_workspace.specs.TurnLaws.{went, halted, handed_on}
use Rattle.solve_ranges.specs.Wrapping.{wrapping, charging}
use Rattle.solve_ranges.proofs.Loops.{still_underway}
use Rattle.solve_ranges.proofs.Wraps.{wrapped_go, wrapped_halt, wrapped_end, wrapping_is}
use Rattle.solve_ranges.proofs.present_wrapped.Goals as goal

pub returns-in_err-present_charged-clause-meets : goal.returns-in_err-present_charged-clause-meets
returns-in_err-present_charged-clause-meets c = λ ts rs ps es ns. rw (handed_on c.in_err-present_charged.was c.from_residual.ensures.1) (rw (wrapping_is (wrapping c.args.wrapper) (charging c.args.wrapper) c.args.g.now ts rs ps es c.args.kept.now c.args.frontier.now ns c.args.start c.args.len) (via (c.loop-i.invariant.leads ts rs ps es ns)
    (wrapped_halt c.args.b (wrapping c.args.wrapper) (charging c.args.wrapper) (row_list candidate_of c.args.kept.now c.args.g.now.kept) c.loop-i.i (c.args.start + c.args.len - c.loop-i.i) (c.args.start + c.args.len - (c.loop-i.i + 1)) _ _ (omega (arith, c.loop-i-test))
    c.candidate_at-c.ensures (c.present_charged.ensures.meets ts rs ps es _ ns) (halted _ c.in_err-present_charged.was))))

pub loop-i-preserved : goal.loop-i-preserved
loop-i-preserved c = record {
  underway = still_underway c.loop-i.invariant.underway (c.present_charged.ensures.meets [] [] [] [] [] []) c.present_charged.ensures.building c.present_charged.ensures.keeps c.in_ok-present_charged.was;
  leads = λ ts rs ps es ns. onward (c.loop-i.invariant.leads ts rs ps es ns)
      (wrapped_go c.args.b (wrapping c.args.wrapper) (charging c.args.wrapper) (row_list candidate_of c.args.kept.now c.args.g.now.kept) c.loop-i.i (c.args.start + c.args.len - c.loop-i.i) (c.args.start + c.args.len - (c.loop-i.i + 1)) _ _ (omega (arith, c.loop-i-test))
      c.candidate_at-c.ensures (c.present_charged.ensures.meets ts rs ps es _ ns) (went _ c.in_ok-present_charged.was));
}

pub returns-clause-meets : goal.returns-clause-meets
returns-clause-meets c = λ ts rs ps es ns. rw (wrapping_is (wrapping c.args.wrapper) (charging c.args.wrapper) c.args.g.now ts rs ps es c.args.kept.now c.args.frontier.now ns c.args.start c.args.len) (via (c.loop-i.invariant.leads ts rs ps es ns)
    (wrapped_end c.args.b (wrapping c.args.wrapper) (charging c.args.wrapper) c.loop-i.g (row_list candidate_of c.args.kept.now c.args.g.now.kept) c.loop-i.i (c.args.start + c.args.len - c.loop-i.i) (λ (u : Registers). abs u ts rs ps es c.args.kept.now c.loop-i.frontier ns) (omega (arith, c.loop-i-test)) c.loop-i.invariant.underway.sound))
