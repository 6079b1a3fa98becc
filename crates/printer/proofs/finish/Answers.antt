use Rattle.std.proofs.Common.{arith}
use Rattle.printer.proofs.Second.{rooted, begun, settles, delivered}
use Rattle.printer.proofs.finish.Goals as goal

pub begin_page-s-requires : goal.begin_page-s-requires
begin_page-s-requires c = rooted c.args.a c.requires

pub write_records-requires : goal.write_records-requires
write_records-requires c = rw (c.begin_page-s.ensures.0, c.begin_page-s.ensures.1, c.counts_of-stats.ensures) (begun c.args.a c.requires)

pub settle-requires : goal.settle-requires
settle-requires c = settles {output' = c.write_records.new.output} {spans' = c.write_records.new.spans} {stats = c.write_records.new.stats} c.args.a c.requires (rw (← c.begin_page-s.ensures.0, ← c.counts_of-stats.ensures) c.write_records.ensures) (omega arith) (omega arith)

pub returns : goal.returns
returns c = delivered c.args.a c.requires (rw (← c.begin_page-s.ensures.0, ← c.counts_of-stats.ensures) c.write_records.ensures) c.settle.ensures.0 c.settle.ensures.1
