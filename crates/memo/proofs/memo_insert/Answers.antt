use Rattle.std.proofs.Common.{subst}
use Rattle.memo.specs.Entries.{word}
use Rattle.memo.specs.Index.{Spotted}
use Rattle.memo.proofs.Answers.{hitAt, gapAt}
use Rattle.memo.proofs.Replace.{added, anew, never}
use Rattle.memo.proofs.memo_insert.Goals as goal

pub returns-in-Free : goal.returns-in-Free
returns-in-Free c =
    let g = gapAt c.args.index.now c.args.entries.now c.args.count c.args.key c.in-Free.is c.find.ensures in
    rw c.row.ensures (record { is = added c.args.index.now c.args.entries.now c.args.count c.args.size (record { key = c.args.key; range = c.args.range }) c.requires.0 c.if-size-count.false c.requires.1.0 c.requires.1.1 g })

pub returns-in-Taken : goal.returns-in-Taken
unfolding word
returns-in-Taken c =
    let h = hitAt c.args.index.now c.args.entries.now c.args.count c.args.key c.in-Taken.is c.find.ensures in
    rw c.row-in-Taken.ensures (record { is = anew c.args.index.now c.args.entries.now c.args.count c.args.size (record { key = c.args.key; range = c.args.range }) c.requires.0 c.if-size-count.false c.requires.1.0 c.requires.1.1 h })

pub returns-in-Nowhere : goal.returns-in-Nowhere
returns-in-Nowhere c = record { is = never c.args.index.now c.args.entries.now c.args.count c.args.size (record { key = c.args.key; range = c.args.range }) c.requires.0 c.if-size-count.false c.requires.1.0 c.requires.1.1 (subst (λ z. Spotted c.args.index.now c.args.entries.now c.args.count c.args.key z) c.in-Nowhere.is c.find.ensures) }
