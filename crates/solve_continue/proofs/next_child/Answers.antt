use mathlib.Core.List.{[]}
use native.Mathlib.Omega.{arith}
use Rattle.solve_workspace.specs.Runs.{kept_by, kept_on}
use Rattle.solve_workspace.specs.TurnLaws.{went, halted, held_on, handed_on}
use Rattle.solve_continue.proofs.Boundaries.{next_go, next_halt}
use Rattle.solve_continue.proofs.next_child.Goals as goal

pub returns-in_err-gap_if_fill : goal.returns-in_err-gap_if_fill
returns-in_err-gap_if_fill c = rw (handed_on c.in_err-gap_if_fill.was c.from_residual.ensures.1) (record { meets = λ edges choices texts bytes an root rs es n. next_halt _ _ c.args.key _ _ _ _ (c.gap_if_fill.ensures.meets edges choices texts bytes an root _ rs es) (halted _ c.in_err-gap_if_fill.was); keeps = c.gap_if_fill.ensures.keeps })

pub overflow_cast-from : goal.overflow_cast-from
overflow_cast-from c = omega (arith, (held_on (c.gap_if_fill.ensures.meets [] [] [] [] 0 0 [] [] []) c.in_ok-gap_if_fill.was).pending, (held_on (c.gap_if_fill.ensures.meets [] [] [] [] 0 0 [] [] []) c.in_ok-gap_if_fill.was).stack)

pub push_right-requires : goal.push_right-requires
push_right-requires c = (c.requires.0, (omega (arith, c.requires.1.1.0), held_on (c.gap_if_fill.ensures.meets [] [] [] [] 0 0 [] [] []) c.in_ok-gap_if_fill.was))

pub returns : goal.returns
returns c = record { meets = λ edges choices texts bytes an root rs es n. next_go _ _ c.args.key _ _ _ _ _ rs _ es _ _ _ (c.gap_if_fill.ensures.meets edges choices texts bytes an root _ rs es) (went _ c.in_ok-gap_if_fill.was) (omega (arith, (held_on (c.gap_if_fill.ensures.meets [] [] [] [] 0 0 [] [] []) c.in_ok-gap_if_fill.was).pending, c.requires.1.1.1.1.0)) (c.push_right.ensures.meets _ _ rs _ es _ _ n.is); keeps = kept_on _ (kept_by c.gap_if_fill.ensures.keeps (went _ c.in_ok-gap_if_fill.was)) c.push_right.ensures.keeps }
