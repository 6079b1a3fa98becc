use Rattle.memo.specs.Hash.{hash_of}
use Rattle.memo.proofs.Product.{packed}
use Rattle.std.proofs.Common.{rules}
use Rattle.memo.proofs.memo_hash.Goals as goal

pub returns : goal.returns
unfolding hash_of
returns c = rw (c.mix-2.ensures, c.mix.ensures, packed c.args.key.node c.args.key.column (search rules) (search rules))
