use Rattle.std.proofs.Common.{[], arith}
use Rattle.solve_workspace.specs.declared.Registers.{Registers}
use Rattle.solve_workspace.specs.Rows.{abs}
use Rattle.solve_workspace.specs.Runs.{onward, via}
use Rattle.solve_workspace.specs.TurnLaws.{went, halted, handed_on}
use Rattle.solve_ranges.proofs.Loops.{still_underway, all_go, all_halt, all_end, pending_next, pending_end, pending_is}
use Rattle.solve_ranges.proofs.present_pending.Goals as goal

pub returns-in_err-present-clause-meets : goal.returns-in_err-present-clause-meets
returns-in_err-present-clause-meets c = λ ts rs es ks ns. rw (handed_on c.in_err-present.was c.from_residual.ensures.1) (rw (pending_is c.args.g.now ts rs c.args.pending.now es ks c.args.frontier.now ns c.args.from) (via (c.loop-i.invariant.leads ts rs es ks ns)
    (all_halt _ _ _ _ _ (pending_next c.args.pending.now c.args.g.now.pending c.loop-i.i (omega arith) (omega (arith, c.loop-i-test))) c.pending_at-x.ensures (c.present.ensures.meets ts rs _ es ks ns) (halted _ c.in_err-present.was))))

pub loop-i-preserved : goal.loop-i-preserved
loop-i-preserved c = record {
  underway = still_underway c.loop-i.invariant.underway (c.present.ensures.meets [] [] [] [] [] []) c.present.ensures.building c.present.ensures.keeps c.in_ok-present.was;
  leads = λ ts rs es ks ns. onward (c.loop-i.invariant.leads ts rs es ks ns)
      (all_go _ _ _ _ _ (pending_next c.args.pending.now c.args.g.now.pending c.loop-i.i (omega arith) (omega (arith, c.loop-i-test))) c.pending_at-x.ensures (c.present.ensures.meets ts rs _ es ks ns) (went _ c.in_ok-present.was));
}

pub returns-clause-meets : goal.returns-clause-meets
returns-clause-meets c = λ ts rs es ks ns. rw (pending_is c.args.g.now ts rs c.args.pending.now es ks c.args.frontier.now ns c.args.from) (via (c.loop-i.invariant.leads ts rs es ks ns)
    (all_end c.loop-i.g _ (λ (u : Registers). abs u ts rs c.args.pending.now es ks c.loop-i.frontier ns) (pending_end c.args.pending.now c.args.g.now.pending c.loop-i.i (omega arith) (omega (arith, c.loop-i-test))) c.loop-i.invariant.underway.sound))
