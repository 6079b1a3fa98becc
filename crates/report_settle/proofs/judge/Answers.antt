use Rattle.report_settle.specs.Verdicts.{dear, long, many, fits}
use Rattle.report_rows.specs.WholeCost.{told_value, told_fits, told_past}
use native.Mathlib.Omega.{arith}
use mathlib.Core.Path.{refl}
use Rattle.report_settle.proofs.judge.Goals as goal

pub returns-in-Err : goal.returns-in-Err
returns-in-Err c = λ x t. dear (told_past t c.in-Err.is)

pub returns-in-Ok : goal.returns-in-Ok
returns-in-Ok c = λ x t. long (told_fits t c.in-Ok.is) (omega arith)

pub returns-in-Ok-2 : goal.returns-in-Ok-2
returns-in-Ok-2 c = λ x t. many (told_fits t c.in-Ok-2.is) (omega arith) (omega arith)

pub returns-in-Ok-3 : goal.returns-in-Ok-3
returns-in-Ok-3 c = λ x t. fits (told_value t c.in-Ok-3.is) refl refl (told_fits t c.in-Ok-3.is) (omega arith) (omega arith)
