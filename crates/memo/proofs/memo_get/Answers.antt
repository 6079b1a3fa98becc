use Rattle.std.proofs.Common.{arith}
use Rattle.memo.specs.Entries.{word, listed}
use Rattle.memo.proofs.Answers.{hitAt, get-taken, get-none}
use Rattle.memo.proofs.memo_get.Goals as goal

pub returns-then-count-eq0 : goal.returns-then-count-eq0
unfolding listed
returns-then-count-eq0 c = rw c.if-count-eq0.true

pub find-requires : goal.find-requires
find-requires c = let T = c.requires in (T.room, T.power (omega (arith, T.within 0 (omega arith))))

pub returns-in-Taken : goal.returns-in-Taken
unfolding word
returns-in-Taken c = get-taken c.args.index.now c.args.entries.now c.args.count c.args.key c.requires (hitAt c.args.index.now c.args.entries.now c.args.count c.args.key c.in-Taken.is c.find.ensures)

pub returns-in-Free : goal.returns-in-Free
returns-in-Free c = get-none c.args.index.now c.args.entries.now c.args.count c.args.key c.requires c.find.ensures c.in-Free.is
