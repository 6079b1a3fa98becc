use Rattle.std.proofs.Common.{refl, [], ◌+◌, ◌-◌, arith}
use Rattle.solve_workspace.specs.Rows.{abs}
use Rattle.solve_workspace.specs.Runs.{onward, via, kept_by, kept_on, kept_trans, ended}
use Rattle.solve_workspace.specs.TurnLaws.{went, halted, held_on, handed_on}
use Rattle.solve_gaps.proofs.Filling.{gaps_from, gaps_go, gaps_halt, gaps_none, any_space}
use Rattle.solve_gaps.proofs.push_gaps.Goals as goal

pub loop-at-init : goal.loop-at-init
loop-at-init c = record { sound = c.requires.1.1.1.1; kept_on = record { memo = refl; results = refl; pending = omega arith }; leads = λ P ts rs es e. gaps_from _ P _ _ _ _ _ (omega arith) }

pub candidate_at-left-requires : goal.candidate_at-left-requires
candidate_at-left-requires c = let k = c.loop-at.invariant.sound.kept in omega (arith, k)

pub push_gap-requires : goal.push_gap-requires
push_gap-requires c = (record { room = omega (arith, c.requires.0.room) }, (omega arith, (omega arith, (omega arith, c.loop-at.invariant.sound))))

pub loop-at-preserved : goal.loop-at-preserved
unfolding abs
loop-at-preserved c = record {
  sound = held_on (c.push_gap.ensures.meets (any_space c.args.space.0) [] [] [] refl) c.in_ok-push_gap.was;
  kept_on = kept_trans c.loop-at.invariant.kept_on (kept_by c.push_gap.ensures.keeps (went _ c.in_ok-push_gap.was));
  leads = λ P ts rs es e. onward (c.loop-at.invariant.leads P ts rs es e) (gaps_go _ P _ _ c.loop-at.at (c.args.start + c.args.len - c.loop-at.at) (c.args.start + c.args.len - (c.loop-at.at + 1)) _ (omega arith) c.candidate_at-left.ensures (c.push_gap.ensures.meets P ts rs es e) (went _ c.in_ok-push_gap.was));
}

pub returns-in_err-push_gap : goal.returns-in_err-push_gap
unfolding abs
returns-in_err-push_gap c = rw (handed_on c.in_err-push_gap.was c.from_residual.ensures.1) (record { meets = λ P ts rs es e. via (c.loop-at.invariant.leads P ts rs es e) (gaps_halt _ P _ _ c.loop-at.at (c.args.start + c.args.len - c.loop-at.at) (c.args.start + c.args.len - (c.loop-at.at + 1)) _ (omega arith) c.candidate_at-left.ensures (c.push_gap.ensures.meets P ts rs es e) (halted _ c.in_err-push_gap.was)); keeps = kept_on _ c.loop-at.invariant.kept_on c.push_gap.ensures.keeps })

pub returns : goal.returns
returns c = record { meets = λ P ts rs es e. via (c.loop-at.invariant.leads P ts rs es e) (rw (gaps_none _ P _ c.loop-at.at (c.args.start + c.args.len - c.loop-at.at) _ (omega arith)) (ended _ c.loop-at.invariant.sound)); keeps = record { by = c.loop-at.invariant.kept_on } }
