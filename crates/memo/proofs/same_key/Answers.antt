use Rattle.std.proofs.Common.{ap, sym, ◌∙◌, eqb-true}
use borrow.Author.Tests.{eqb-false}
use Rattle.memo.specs.declared.MemoKey.{MemoKey}
use Rattle.memo.specs.Entries.{word}
use Rattle.memo.proofs.Search.{told_no, told_by_indent}
use Rattle.memo.proofs.same_key.Goals as goal
use Rattle.memo.proofs.same_key.Goals.{then-entries-k, else-entries-k}

pub returns-then-entries-k-2 : goal.returns-then-entries-k-2
unfolding word
returns-then-entries-k-2 c =
    elim c.if-entries-k.branch [
      | then-entries-k w ↦ told_by_indent c.args.entries.now c.args.k c.args.key w.if-entries-k.true (eqb-true _ _ (sym w.value-is ∙ c.if-entries-k-2.true))
      | else-entries-k w ↦ absurd (w.if-entries-k.false (eqb-true _ _ (sym w.value-is ∙ c.if-entries-k-2.true)))
    ]

pub returns-else-entries-k-2 : goal.returns-else-entries-k-2
unfolding word
returns-else-entries-k-2 c =
    rw c.if-entries-k-2.false
    (told_no λ q. elim c.if-entries-k.branch [
      | then-entries-k w ↦ eqb-false _ _ (sym w.value-is ∙ c.if-entries-k-2.false) (ap (λ (z : MemoKey). z.column) q)
      | else-entries-k w ↦ w.if-entries-k.false (ap (λ (z : MemoKey). z.node) q)
    ])
