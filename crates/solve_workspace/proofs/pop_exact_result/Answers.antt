use Rattle.std.proofs.Common.{◌-◌, arith}
use Rattle.solve_workspace.specs.Stacks.{pop_is}
use Rattle.solve_workspace.proofs.pop_exact_result.Goals as goal

pub returns-clause-is : goal.returns-clause-is
returns-clause-is c = λ ts ps es ks fs ns. pop_is c.args.g.now ts c.args.results.now ps es ks fs ns (c.args.g.now.results - 1) (omega arith)
