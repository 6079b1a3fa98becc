use mathlib.Core.Path.{ap, sym, ◌∙◌}
use Rattle.machine.specs.Events.{number}
use Rattle.solve_workspace.specs.Meets.{reason}
use Rattle.solve_workspace.specs.declared.Why.{Why}
use Rattle.solve_workspace.proofs.solver_number.Goals as goal

pub returns-in-Domain : goal.returns-in-Domain
returns-in-Domain c = c.domain_number.ensures ∙ ap (λ (x : Why). number (reason x)) (sym c.in-Domain.is)
