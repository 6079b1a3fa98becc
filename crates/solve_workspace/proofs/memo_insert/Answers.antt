use Rattle.std.proofs.Common.{arith, rules}
use Rattle.solve_workspace.specs.Entering.{entered_by, refused_by, insert_go, insert_stop, insert_memory, entered_few, sound_memo}
use Rattle.solve_workspace.specs.TurnLaws.{err_is}
use Rattle.solve_workspace.proofs.memo_insert.Goals as goal

pub returns-in_err-n : goal.returns-in_err-n
returns-in_err-n c = rw (err_is c.from_residual.ensures.1) (record { meets = λ ts rs ps ks fs ns. insert_stop c.args.b c.args.g.now ts rs ps c.args.entries.now ks fs ns c.args.index.now _ _ c.args.key c.args.start c.args.len _ _ (refused_by c.memo_insert.ensures c.in_err-n.was); memory = record { by = tt } })

pub returns : goal.returns
returns c =
    let k = entered_by c.memo_insert.ensures c.in_ok-n.was in
    rw c.raise.ensures (record { meets = λ ts rs ps ks fs ns. insert_go c.args.b c.args.g.now ts rs ps c.args.entries.now ks fs ns c.args.index.now _ _ c.args.key c.args.start c.args.len _ k (sound_memo _ c.requires.1 (entered_few k)); memory = record { by = insert_memory c.requires.0 k (record { start = omega arith; len = omega arith }) (search rules) (search rules) } })
