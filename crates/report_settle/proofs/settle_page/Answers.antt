use Rattle.report_settle.proofs.Altering.{verdict_room, in_lacks, taking_in, in_deliverable, in_fits}
use native.Mathlib.Omega.{arith}
use Rattle.report_settle.proofs.settle_page.Goals as goal

pub insertion_verdict-requires : goal.insertion_verdict-requires
insertion_verdict-requires c = verdict_room c.requires (omega arith) (omega arith) (omega arith) (omega arith) (omega arith)

pub returns-in-Err : goal.returns-in-Err
returns-in-Err c = in_lacks c.requires (c.insertion_verdict.ensures c.args.place c.requires.room.place_in) _ _ c.in-Err.is c.args.needs c.refused_step.result c.refused_step.ensures

pub take_in-requires : goal.take_in-requires
take_in-requires c = taking_in c.requires (c.insertion_verdict.ensures c.args.place c.requires.room.place_in) _ c.in-Ok.is

pub deliver-requires : goal.deliver-requires
deliver-requires c = in_deliverable c.requires (c.insertion_verdict.ensures c.args.place c.requires.room.place_in) _ c.in-Ok.is (omega arith) (omega arith) c.take_in.auto.pages c.take_in.auto.marks c.take_in.ensures

pub returns-in-Ok : goal.returns-in-Ok
returns-in-Ok c = in_fits c.requires (c.insertion_verdict.ensures c.args.place c.requires.room.place_in) _ c.in-Ok.is (omega arith) (omega arith) c.take_in.auto.pages c.take_in.auto.marks c.take_in.ensures c.deliver.ensures c.args.needs c.page_step.result c.page_step.ensures
