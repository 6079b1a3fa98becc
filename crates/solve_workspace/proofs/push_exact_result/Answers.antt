use Rattle.std.proofs.Common.{arith}
use Rattle.solve_workspace.specs.Stacks.{sound_results, result_go, result_stop}
use Rattle.solve_workspace.proofs.push_exact_result.Goals as goal

pub returns-then-b-top-clause-meets : goal.returns-then-b-top-clause-meets
returns-then-b-top-clause-meets c = λ ts ps es ks fs ns. result_stop c.args.b c.args.g.now ts c.args.results.now ps es ks fs ns _ _ _ (omega arith)

pub returns-clause-meets : goal.returns-clause-meets
returns-clause-meets c = λ ts ps es ks fs ns. rw c.raise.ensures (result_go c.args.b c.args.g.now ts c.args.results.now ps es ks fs ns c.args.start c.args.len (omega arith) (omega arith) (sound_results _ c.requires.1 (omega arith)))
