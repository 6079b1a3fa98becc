use Rattle.std.proofs.Common.{refl, [], ◌+◌, ◌-◌, arith}
use Rattle.solve_workspace.specs.Runs.{onward, via, kept_trans, ended}
use Rattle.solve_workspace.specs.TurnLaws.{went, halted, held_on, handed_on}
use Rattle.solve_join.proofs.Joins.{joined_from, joined_go, joined_halt, joined_none}
use Rattle.solve_join.proofs.Puts.{joined_kept}
use Rattle.solve_join.proofs.push_joined.Goals as goal

pub loop-at-init : goal.loop-at-init
loop-at-init c = record { sound = c.requires.1.1; kept = record { memo = refl; results = refl; pending = omega arith }; leads = λ ts rs es fs ns. joined_from _ _ _ _ _ _ (omega arith) }

pub candidate_at-right-requires : goal.candidate_at-right-requires
candidate_at-right-requires c = omega (arith, c.requires.1.0, c.requires.1.1.kept)

pub push_join-requires : goal.push_join-requires
push_join-requires c = (omega arith, c.loop-at.invariant.sound)

pub loop-at-preserved : goal.loop-at-preserved
loop-at-preserved c = record {
  sound = held_on (c.push_join.ensures.meets [] [] [] [] [] []) c.in_ok-push_join.was;
  kept = kept_trans c.loop-at.invariant.kept (joined_kept c.push_join.ensures.only c.in_ok-push_join.was);
  leads = λ ts rs es fs ns. onward (c.loop-at.invariant.leads ts rs es fs ns) (joined_go _ _ _ c.loop-at.at (c.args.start + c.args.len - c.loop-at.at) (c.args.start + c.args.len - (c.loop-at.at + 1)) _ (omega arith) c.candidate_at-right.ensures (c.push_join.ensures.meets ts rs es _ fs ns) (went _ c.in_ok-push_join.was));
}

pub returns-in_err-push_join : goal.returns-in_err-push_join
returns-in_err-push_join c = rw (handed_on c.in_err-push_join.was c.from_residual.ensures.1) (record { meets = λ ts rs es fs ns. via (c.loop-at.invariant.leads ts rs es fs ns) (joined_halt _ _ _ c.loop-at.at (c.args.start + c.args.len - c.loop-at.at) (c.args.start + c.args.len - (c.loop-at.at + 1)) _ (omega arith) c.candidate_at-right.ensures (c.push_join.ensures.meets ts rs es _ fs ns) (halted _ c.in_err-push_join.was)); keeps = rw c.in_err-push_join.was (record { by = tt }) })

pub returns : goal.returns
returns c = record { meets = λ ts rs es fs ns. via (c.loop-at.invariant.leads ts rs es fs ns) (rw (joined_none _ _ c.loop-at.at (c.args.start + c.args.len - c.loop-at.at) _ (omega arith)) (ended _ c.loop-at.invariant.sound)); keeps = record { by = c.loop-at.invariant.kept } }
