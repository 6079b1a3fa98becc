use mathlib.Core.List.{[]}
use native.Mathlib.Omega.{arith}
use Rattle.solve_workspace.specs.Runs.{kept_by}
use Rattle.solve_workspace.specs.TurnLaws.{went, halted, held_on, handed_on}
use Rattle.solve_begin.proofs.Begin.{hit_halt, hit_seq, same_stopped, same_on}
use Rattle.solve_begin.proofs.begin_hit.Goals as goal

pub returns-in_err-work_hit : goal.returns-in_err-work_hit
returns-in_err-work_hit c = rw (handed_on c.in_err-work_hit.was c.from_residual.ensures.1) (record { meets = λ R P key ts ps es ks fs ns. hit_halt R P _ key _ (c.work_hit.ensures.meets ts _ ps es ks fs ns) (halted _ c.in_err-work_hit.was); same = same_stopped (halted _ c.in_err-work_hit.was) })

pub push_exact_result-requires : goal.push_exact_result-requires
push_exact_result-requires c = (omega arith, held_on (c.work_hit.ensures.meets [] [] [] [] [] [] []) c.in_ok-work_hit.was)

pub returns : goal.returns
returns c = record { meets = λ R P key ts ps es ks fs ns. hit_seq R P _ key _ (c.work_hit.ensures.meets ts _ ps es ks fs ns) (went _ c.in_ok-work_hit.was) (c.push_exact_result.ensures.meets ts ps es ks fs ns); same = same_on _ (kept_by c.work_hit.ensures.keeps (went _ c.in_ok-work_hit.was)) c.push_exact_result.ensures.keeps }
