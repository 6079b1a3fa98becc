use native.Mathlib.Omega.{arith}
use lib.ListN.{length-drop}
use lib.Seq.{get_or-drop}
use Rattle.report_page.proofs.Puts.{put_more, put_end}
use Rattle.report_page.proofs.put_page.Goals as goal

pub loop-i-preserved : goal.loop-i-preserved
loop-i-preserved c = put_more 0 (omega (arith, length-drop c.args.from c.args.pages.now)) (get_or-drop c.args.from c.args.pages.now c.loop-i.i 0) c.loop-i.invariant

pub returns : goal.returns
returns c = put_end {n = c.args.len} (omega arith) c.loop-i.invariant
