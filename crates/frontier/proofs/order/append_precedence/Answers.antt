-- `frontier::order::append_precedence` meets its contract.
use Rattle.avl.specs.MemLaws.{at_len}
use Rattle.frontier.proofs.Segments.{end_at, ready, appended}
use Rattle.frontier.proofs.order.append_precedence.Goals as goal

pub set_next-requires : goal.set_next-requires
set_next-requires c = λ n. let p = c.requires in at_len (ready p c.store.ensures c.store-2.ensures).1.len (end_at p n)

pub returns : goal.returns
returns c = λ p. appended p (ready p c.store.ensures c.store-2.ensures) c.set_next.ensures
