use Rattle.memo.specs.Hash.{mix_of, mixed, folded}
use Rattle.memo.proofs.mix.Goals as goal

pub returns : goal.returns
unfolding mix_of mixed folded
returns c = rw (c.wrapping_mul-c.ensures, c.wrapping_mul-b.ensures)
