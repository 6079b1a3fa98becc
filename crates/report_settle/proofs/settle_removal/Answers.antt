use Rattle.report_settle.proofs.Altering.{removable, out_lacks, out_deliverable, out_fits}
use native.Mathlib.Omega.{arith}
use Rattle.report_settle.proofs.settle_removal.Goals as goal

pub removal_verdict-requires : goal.removal_verdict-requires
removal_verdict-requires c = removable c.requires (omega arith) (omega arith) (omega arith)

pub returns-in-Err : goal.returns-in-Err
returns-in-Err c = out_lacks c.requires c.removal_verdict.ensures _ _ c.in-Err.is c.refused_step.result c.refused_step.ensures

pub take_out-requires : goal.take_out-requires
take_out-requires c = record { sound = c.requires.sound; place_in = c.requires.place_in }

pub deliver-requires : goal.deliver-requires
deliver-requires c = out_deliverable c.requires c.removal_verdict.ensures _ c.in-Ok.is (omega arith) (omega arith) c.take_out.auto.pages c.take_out.auto.marks c.take_out.ensures

pub overflow_sub-h : goal.overflow_sub-h
overflow_sub-h c = omega (arith, c.requires.place_in)

pub returns-in-Ok : goal.returns-in-Ok
returns-in-Ok c = out_fits c.requires c.removal_verdict.ensures _ c.in-Ok.is (omega arith) (omega arith) c.take_out.auto.pages c.take_out.auto.marks c.take_out.ensures c.deliver.ensures c.page_step.result c.page_step.ensures
