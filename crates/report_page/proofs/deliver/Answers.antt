use native.Mathlib.Omega.{arith}
use Rattle.report_page.proofs.Going.{going_turn, going_next, going_last}
use Rattle.report_page.proofs.deliver.Goals as goal

pub put_page-requires : goal.put_page-requires
put_page-requires c =
    let t = going_turn c.requires c.loop-k.invariant c.loop-k-test.true in
    (t.page_there, omega (arith, t.page_fits))

pub overflow_add-from : goal.overflow_add-from
overflow_add-from c = let t = going_turn c.requires c.loop-k.invariant c.loop-k-test.true in omega arith

pub overflow_add-at : goal.overflow_add-at
overflow_add-at c = let t = going_turn c.requires c.loop-k.invariant c.loop-k-test.true in omega arith

pub put_marks-requires : goal.put_marks-requires
put_marks-requires c =
    let t = going_turn c.requires c.loop-k.invariant c.loop-k-test.true in
    (t.marks_there, t.marks_fit, omega (arith, t.page_small), t.marks_small)

pub overflow_add-n : goal.overflow_add-n
overflow_add-n c = let t = going_turn c.requires c.loop-k.invariant c.loop-k-test.true in omega arith

pub loop-k-preserved : goal.loop-k-preserved
loop-k-preserved c = going_next c.requires c.loop-k.invariant c.loop-k-test.true c.put_lead-start.ensures c.put_page.ensures c.put_marks.ensures

pub returns : goal.returns
returns c = going_last c.requires c.loop-k.invariant c.loop-k-test.false
