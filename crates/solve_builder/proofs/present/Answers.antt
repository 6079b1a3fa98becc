use Rattle.std.proofs.Common.{arith}
use Rattle.stats.specs.Counts.{bumped}
use Rattle.solve_workspace.specs.TurnLaws.{err_is}
use Rattle.solve_builder.proofs.Presenting.{present_spent, present_go, present_stop, pruned_fits, after_by, refused_by}
use Rattle.solve_builder.proofs.present.Goals as goal

pub returns-then-b-g-clause-meets : goal.returns-then-b-g-clause-meets
returns-then-b-g-clause-meets c = λ ts rs ps es ks ns. present_spent _ c.args.b c.args.g.now _ _ (omega arith)

pub returns-in_err-after-clause-meets : goal.returns-in_err-after-clause-meets
unfolding bumped
returns-in_err-after-clause-meets c = λ ts rs ps es ks ns. rw (err_is c.from_residual.ensures.1, c.count_candidate.ensures) (present_stop c.args.b c.args.g.now (omega arith) c.args.c _ _ _ (refused_by c.present.ensures c.in_err-after.was) ts rs ps es ks ns _)

pub overflow_add-g : goal.overflow_add-g
unfolding bumped
overflow_add-g c = rw c.count_candidate.ensures (record { fits = pruned_fits c.args.b c.args.g.now _ _ _ _ _ c.requires.1 (omega arith) (omega arith) c.requires.0.frontier (after_by c.present.ensures c.in_ok-after.was) })

pub returns-clause-meets : goal.returns-clause-meets
unfolding bumped
returns-clause-meets c = λ ts rs ps es ks ns. rw c.count_candidate.ensures (present_go c.args.b c.args.g.now (omega arith) c.args.c c.requires.1 _ _ _ _ c.requires.0.frontier (after_by c.present.ensures c.in_ok-after.was) ts rs ps es ks ns)
